use Rattle.std.proofs.Common.{◌≡◌, refl, sym, ap, subst, ◌∙◌, ℕ, List, [], map, slice_index, length, None, lit<, arith}
use Rattle.std.proofs.lemmas.List.{length-map}
use Rattle.std.proofs.lemmas.Bool.{true≢false, eqb-true, eq-eqb}
use Rattle.stream_law.specs.declared.graph.Comp.{Comp}
use Rattle.stream_law.specs.declared.graph.Edge.{Edge}
use Rattle.stream_law.specs.declared.graph.Graph.{Graph}
use Rattle.stream_law.specs.declared.turns.Turn.{Turn}
use Rattle.stream_law.specs.Ways.{components}
use Rattle.stream_law.specs.BareOrder.{bare}
use Rattle.stream_law.specs.Waiting.{best_of, turns_from}
use Rattle.stream_law.proofs.Taking.{Taken, Taken-none, Taken-more, Taken-all, Taken-cycle, Taken-whole, room, fewer-left, some-left, none-left}
use Rattle.stream_law.proofs.Cycles.{no-cycle}
use Rattle.stream_law.proofs.ordering.order_of.Goals as goal

-- the beginning, by equal lists
begun : (g : Graph) (comps : List Comp) (edges : List Edge) (places : List ℕ) (left : List Turn) → comps ≡ g.comps → edges ≡ g.edges → places ≡ [] → left ≡ turns_from edges 0 comps → Taken g places left
begun g comps edges places left same alike none is =
    subst (λ (p : List ℕ × List Turn). Taken g p.0 p.1) (λ i. (sym none i, sym (is ∙ ap (λ (q : List Edge × List Comp). turns_from q.0 0 q.1) (λ j. (alike j, same j))) i)) (Taken-none g)

pub loop-turn-init : goal.loop-turn-init
loop-turn-init c = begun (bare c.args.comps.now c.args.edges.now) c.args.comps.now c.args.edges.now c.new-places.result.items c.turns-left.result.items refl refl c.new-places.ensures c.turns-left.ensures

pub push-requires : goal.push-requires
push-requires c =
    let next = ap (best_of None) (sym c.as_slice.ensures.value) ∙ sym c.next_turn.ensures ∙ c.in-Some.is in
    let low = room (bare c.args.comps.now c.args.edges.now) c.loop-turn.places.items c.loop-turn.left.items c.loop-turn.invariant c.in-Some.turn next in
    (lit< tt, omega (arith, low, c.requires.few, length-map c.args.comps.now (λ (x : Comp). x.id)))

pub loop-turn-smaller : goal.loop-turn-smaller
loop-turn-smaller c =
    let next = ap (best_of None) (sym c.as_slice.ensures.value) ∙ sym c.next_turn.ensures ∙ c.in-Some.is in
    let low = fewer-left (bare c.args.comps.now c.args.edges.now) c.loop-turn.places.items c.loop-turn.left.items c.loop-turn.invariant c.in-Some.turn next in
    omega (arith, low, ap length c.place.ensures)

pub loop-turn-preserved : goal.loop-turn-preserved
loop-turn-preserved c =
    let next = ap (best_of None) (sym c.as_slice.ensures.value) ∙ sym c.next_turn.ensures ∙ c.in-Some.is in
    rw (c.push.ensures.items, c.place.ensures) (Taken-more (bare c.args.comps.now c.args.edges.now) c.loop-turn.places.items c.loop-turn.left.items c.loop-turn.invariant c.in-Some.turn next)

pub returns-then-is_empty-clause-order : goal.returns-then-is_empty-clause-order
returns-then-is_empty-clause-order c =
    let last = ap (best_of None) (sym c.as_slice.ensures.value) ∙ sym c.next_turn.ensures ∙ c.in_default.is in
    ap (map (slice_index (components (bare c.args.comps.now c.args.edges.now)))) c.held.ensures ∙ Taken-all (bare c.args.comps.now c.args.edges.now) c.loop-turn.places.items c.loop-turn.left.items c.loop-turn.invariant last

pub returns-then-is_empty-clause-whole : goal.returns-then-is_empty-clause-whole
returns-then-is_empty-clause-whole c =
    let last = ap (best_of None) (sym c.as_slice.ensures.value) ∙ sym c.next_turn.ensures ∙ c.in_default.is in
    Taken-whole (bare c.args.comps.now c.args.edges.now) c.loop-turn.places.items c.loop-turn.left.items c.loop-turn.invariant last (none-left c.loop-turn.left.items (eqb-true (length c.loop-turn.left.items) 0 (sym c.is_empty.ensures ∙ c.if-is_empty.true)))

pub returns-then-is_empty-clause-none : goal.returns-then-is_empty-clause-none
returns-then-is_empty-clause-none c =
    let last = ap (best_of None) (sym c.as_slice.ensures.value) ∙ sym c.next_turn.ensures ∙ c.in_default.is in
    no-cycle (bare c.args.comps.now c.args.edges.now) c.requires.ends (Taken-whole (bare c.args.comps.now c.args.edges.now) c.loop-turn.places.items c.loop-turn.left.items c.loop-turn.invariant last (none-left c.loop-turn.left.items (eqb-true (length c.loop-turn.left.items) 0 (sym c.is_empty.ensures ∙ c.if-is_empty.true))))

pub returns-else-is_empty-clause-cycle : goal.returns-else-is_empty-clause-cycle
returns-else-is_empty-clause-cycle c =
    let last = ap (best_of None) (sym c.as_slice.ensures.value) ∙ sym c.next_turn.ensures ∙ c.in_default.is in
    let one = some-left c.loop-turn.left.items (λ e. true≢false (sym (eq-eqb (length c.loop-turn.left.items) 0 e) ∙ sym c.is_empty.ensures ∙ c.if-is_empty.false)) in
    Taken-cycle (bare c.args.comps.now c.args.edges.now) c.loop-turn.places.items c.loop-turn.left.items c.loop-turn.invariant last c.requires.ends one.0 one.1
