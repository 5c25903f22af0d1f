use Rattle.std.proofs.Common.{subst, ℕ, ◌+◌, ◌-◌, List, take, drop, arith}
use Rattle.tplg_walks.specs.Reach.{IsFound}
use Rattle.tplg_walks.proofs.Reached.{Seen-more, Seen-room}
use Rattle.tplg_walks.proofs.Marks.{found-part}
use Rattle.tplg_walks.proofs.walks.visit.Goals as goal

pub add-requires-clause-room : goal.add-requires-clause-room
add-requires-clause-room c =
    let edges = c.args.edges.now in let from = c.args.from in let seen = c.args.seen.now.items in let id = c.in-Some.id in
    let at = found-part edges c.args.at (c.args.at + 1 - c.args.at) from seen id (subst (λ (l : List ℕ). IsFound (take (c.args.at + 1 - c.args.at) (drop c.args.at edges)) from l id) c.as_slice.ensures.value c.in-Some.ensures.some) in
    omega (arith, c.requires.few, Seen-room edges from seen id at c.requires.seen)

pub returns-in-Some-clause-seen : goal.returns-in-Some-clause-seen
returns-in-Some-clause-seen c =
    let edges = c.args.edges.now in let from = c.args.from in let seen = c.args.seen.now.items in let id = c.in-Some.id in
    let at = found-part edges c.args.at (c.args.at + 1 - c.args.at) from seen id (subst (λ (l : List ℕ). IsFound (take (c.args.at + 1 - c.args.at) (drop c.args.at edges)) from l id) c.as_slice.ensures.value c.in-Some.ensures.some) in
    rw c.add.ensures.added (Seen-more edges from seen id at c.requires.seen)
