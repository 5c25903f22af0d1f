use Rattle.std.proofs.Common.{◌≡◌, ℕ, get_or, length, take, None, ◌==◌}
use Rattle.std.specs.Prelude.{find}
use Rattle.stream_law.specs.Ways.{comp_of}
use Rattle.host_dynamic.proofs.needing.index_table.Given as goal
use Rattle.host_widgets.specs.Indices.{named_index}

abbrev pub invariant-loop-comp : goal.invariant-loop-comp
invariant-loop-comp l = record {
  size : length l.table ≡ 288;
  so_far : (x : ℕ) → get_or l.table x None ≡ named_index (find (λ c. c.id == x) (take l.comp-index l.graph.comps)) None;
}

abbrev pub invariant-loop-edge : goal.invariant-loop-edge
invariant-loop-edge l = record {
  size : length l.table ≡ 288;
  so_far : (x : ℕ) → get_or l.table x None ≡ named_index (comp_of l.graph x) (find (λ e. e.buffer == x) (take l.edge-index l.graph.edges));
}
