use Rattle.std.proofs.Common.{◌≡◌, ◌≤◌, length, take}
use Rattle.tplg_walks.specs.Echoes.{is_echo_edge}
use Rattle.std.specs.Prelude.{filter, not}
use Rattle.tplg_walks.proofs.echoes.keep_plain.Given as goal

abbrev pub invariant-loop-edge : goal.invariant-loop-edge
invariant-loop-edge l = record {
  kept : take l.count l.plain ≡ filter (λ e. not (is_echo_edge l.comps l.edges e)) (take l.edge-index l.edges);
  few : l.count ≤ l.edge-index;
}
