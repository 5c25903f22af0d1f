use Rattle.std.proofs.Common.{◌≡◌, take, false}
use Rattle.std.specs.List.{list_any}
use Rattle.tplg_walks.proofs.Reached.{leads_on}
use Rattle.tplg_walks.proofs.walks.found.Given as goal

abbrev pub invariant-loop-e : goal.invariant-loop-e
invariant-loop-e l = list_any (leads_on l.from l.seen) (take l.e-index l.edges) ≡ false
