use Rattle.std.proofs.Common.{subst, ap, ◌∙◌, ℕ, List, ◌∷◌, [], length, length-append, arith}
use Rattle.tplg_walks.specs.Reach.{IsFound, IsSaturated}
use Rattle.tplg_walks.proofs.Reached.{Seen-none, Seen-more, Seen-room, Seen-all}
use Rattle.tplg_walks.proofs.Marks.{marks-none}
use Rattle.tplg_walks.proofs.walks.reached.Goals as goal

pub loop-id-init : goal.loop-id-init
loop-id-init c = rw c.new-seen.ensures (record { seen = Seen-none c.args.edges.now c.args.from; marked = marks-none 288 })

pub add-requires-clause-room : goal.add-requires-clause-room
add-requires-clause-room c =
    let edges = c.args.edges.now in let from = c.args.from in let seen = c.loop-id.seen.items in let id = c.in-Some.id in
    let at = subst (λ (l : List ℕ). IsFound edges from l id) c.as_slice.ensures.value c.in-Some.ensures.some in
    omega (arith, c.requires.few, Seen-room edges from seen id at c.loop-id.invariant.seen)

pub sweep-requires-clause-seen : goal.sweep-requires-clause-seen
sweep-requires-clause-seen c =
    let edges = c.args.edges.now in let from = c.args.from in let seen = c.loop-id.seen.items in let id = c.in-Some.id in
    let at = subst (λ (l : List ℕ). IsFound edges from l id) c.as_slice.ensures.value c.in-Some.ensures.some in
    rw c.add.ensures.added (Seen-more edges from seen id at c.loop-id.invariant.seen)

pub loop-id-smaller : goal.loop-id-smaller
loop-id-smaller c =
    let edges = c.args.edges.now in let from = c.args.from in let seen = c.loop-id.seen.items in let id = c.in-Some.id in
    let at = subst (λ (l : List ℕ). IsFound edges from l id) c.as_slice.ensures.value c.in-Some.ensures.some in
    omega (arith, c.sweep.ensures.grown, ap length c.add.ensures.added ∙ length-append seen (id ∷ []), Seen-room edges from seen id at c.loop-id.invariant.seen)

pub returns : goal.returns
returns c = λ b. (c.loop-id.invariant.seen.reached b, Seen-all c.args.edges.now c.args.from c.loop-id.seen.items (subst (IsSaturated c.args.edges.now c.args.from) c.as_slice.ensures.value c.in_default.ensures.none) c.loop-id.invariant.seen b)
