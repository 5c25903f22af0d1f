use Rattle.std.proofs.Common.{◌≡◌, sym, ap, subst, ◌∙◌, ℕ, ◌<◌, List, map, filter, length, Some, None, All, lit<, arith, not, ◌==◌}
use Rattle.std.proofs.lemmas.List.{length-map}
use Rattle.stream_law.specs.declared.graph.Comp.{Comp}
use Rattle.stream_law.specs.declared.turns.Turn.{Turn}
use Rattle.stream_law.specs.Placed.{Ascends}
use Rattle.stream_law.specs.Waiting.{best_of, turns_from, freed}
use Rattle.stream_law.proofs.Taking.{Taken, Taken-none, Taken-more, Taken-all, room, fewer-left}
use Rattle.fw_units.specs.declared.component.Component.{Component}
use Rattle.fw_units.specs.Units.{comp_by, edge_by}
use Rattle.fw_components.specs.Tables.{graph_of}
use Rattle.fw_schedule.proofs.ordering.order.Goals as goal

pub loop-turn-init : goal.loop-turn-init
loop-turn-init c =
    let g = graph_of c.args.registry.now in
    let left : c.turns-left.result.items ≡ turns_from g.edges 0 g.comps =
    c.turns-left.ensures ∙ (λ i. turns_from (map edge_by (c.buffers-buffers.ensures.items i)) 0 (map comp_by (c.comps-comps.ensures.items i))) in
    subst (λ (p : List ℕ × List Turn). Taken g p.0 p.1) (λ i. (sym c.new-places.ensures i, sym left i)) (Taken-none g)

pub push-requires : goal.push-requires
push-requires c =
    let g = graph_of c.args.registry.now in let t = c.args.registry.now in
    let next : best_of None c.loop-turn.left.items ≡ Some c.in-Some.turn =
    ap (best_of None) (sym c.as_slice.ensures.value) ∙ sym c.next_turn.ensures ∙ c.in-Some.is in
    let low = room g c.loop-turn.places.items c.loop-turn.left.items c.loop-turn.invariant c.in-Some.turn next in
    (lit< tt, omega (arith, low, c.comps-comps.ensures.kept.comps, length-map (map comp_by t.comps) (λ (x : Comp). x.id), length-map t.comps comp_by))

pub place-requires : goal.place-requires
place-requires c = subst (λ (bs : List Component). Ascends (λ c. c.id) bs) (sym c.buffers-buffers.ensures.items) c.buffers-buffers.ensures.kept.named.buffers

pub loop-turn-smaller : goal.loop-turn-smaller
loop-turn-smaller c =
    let g = graph_of c.args.registry.now in
    let next : best_of None c.loop-turn.left.items ≡ Some c.in-Some.turn =
    ap (best_of None) (sym c.as_slice.ensures.value) ∙ sym c.next_turn.ensures ∙ c.in-Some.is in
    let low = fewer-left g c.loop-turn.places.items c.loop-turn.left.items c.loop-turn.invariant c.in-Some.turn next in
    let placed = c.place.ensures ∙ (λ i. map (freed (map edge_by (c.buffers-buffers.ensures.items i)) c.in-Some.turn.id (map edge_by (c.buffers-buffers.ensures.items i))) (filter (λ t. not (t.id == c.in-Some.turn.id)) c.loop-turn.left.items)) in
    omega (arith, low, ap length placed)

pub loop-turn-preserved : goal.loop-turn-preserved
loop-turn-preserved c =
    let g = graph_of c.args.registry.now in
    let next : best_of None c.loop-turn.left.items ≡ Some c.in-Some.turn =
    ap (best_of None) (sym c.as_slice.ensures.value) ∙ sym c.next_turn.ensures ∙ c.in-Some.is in
    let placed = c.place.ensures ∙ (λ i. map (freed (map edge_by (c.buffers-buffers.ensures.items i)) c.in-Some.turn.id (map edge_by (c.buffers-buffers.ensures.items i))) (filter (λ t. not (t.id == c.in-Some.turn.id)) c.loop-turn.left.items)) in
    subst (λ (p : List ℕ × List Turn). Taken g p.0 p.1) (λ i. (sym c.push.ensures.items i, sym placed i))
    (Taken-more g c.loop-turn.places.items c.loop-turn.left.items c.loop-turn.invariant c.in-Some.turn next)

pub returns-clause-order : goal.returns-clause-order
returns-clause-order c =
    let last : best_of None c.loop-turn.left.items ≡ None =
    ap (best_of None) (sym c.as_slice.ensures.value) ∙ sym c.next_turn.ensures ∙ c.in_default.is in
    Taken-all (graph_of c.args.registry.now) c.loop-turn.places.items c.loop-turn.left.items c.loop-turn.invariant last

pub returns-clause-within : goal.returns-clause-within
returns-clause-within c =
    let t = c.args.registry.now in
    subst (λ n. All (λ k. k < n) c.loop-turn.places.items) (length-map (map comp_by t.comps) (λ (x : Comp). x.id) ∙ length-map t.comps comp_by) c.loop-turn.invariant.within
