use Rattle.std.proofs.Common.{◌++◌, ◌∷◌, [], ap, ◌∙◌}
use Rattle.sof_stress.specs.StressGraph.{stream_widgets, stream_routes, stream_pcm}
use Rattle.sof_stress.proofs.Ranges.{flat-more, map-next}
use Rattle.sof_stress.proofs.graph.source_of.Goals as goal

pub loop-i-preserved : goal.loop-i-preserved
loop-i-preserved c =
    let n = c.loop-i.i in
    record {
      widgets = c.in_ok-put_stream_widgets.ensures ∙ ap (λ xs. xs ++ stream_widgets n) c.loop-i.invariant.widgets ∙ flat-more stream_widgets [] n;
      routes = c.in_ok-put_stream_routes.ensures ∙ ap (λ xs. xs ++ stream_routes n) c.loop-i.invariant.routes ∙ flat-more stream_routes [] n;
      pcms = c.in_ok-push.ensures.ok ∙ (λ k. c.loop-i.invariant.pcms k ++ c.stream_pcm.ensures k ∷ []) ∙ map-next stream_pcm [] n;
    }
