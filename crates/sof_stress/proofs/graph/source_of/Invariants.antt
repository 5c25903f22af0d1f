use Rattle.std.proofs.Common.{◌≡◌, map}
use Rattle.std.specs.List.{flat_map, range_with_len}
use Rattle.sof_stress.specs.StressGraph.{stream_widgets, stream_routes, stream_pcm}
use Rattle.sof_stress.proofs.graph.source_of.Given as goal

abbrev pub invariant-loop-i : goal.invariant-loop-i
invariant-loop-i l = record {
  widgets : l.source.widgets ≡ flat_map stream_widgets (range_with_len 0 l.i);
  routes : l.source.routes ≡ flat_map stream_routes (range_with_len 0 l.i);
  pcms : l.source.pcms ≡ map stream_pcm (range_with_len 0 l.i);
}
