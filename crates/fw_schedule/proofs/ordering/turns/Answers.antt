use Rattle.std.proofs.Common.{◌<◌, sym, ap, ◌∙◌, ℕ, List, ◌++◌, [], ◌∷◌, take, map, get_or, length, lit<, arith}
use Rattle.std.proofs.lemmas.List.{take_all, length-take, length-map, get_or-map}
use Rattle.stream_law.specs.declared.graph.Comp.{Comp}
use Rattle.stream_law.specs.declared.turns.Turn.{Turn}
use Rattle.stream_law.specs.Waiting.{turns_from, waits}
use Rattle.stream_law.proofs.TurnLaws.{turns_from-more, length-turns_from}
use Rattle.fw_units.specs.Units.{comp_by, edge_by}
use Rattle.fw_schedule.proofs.TurnsSeen.{waits-are}
use Rattle.fw_schedule.proofs.ordering.turns.Goals as goal

pub push-requires : goal.push-requires
push-requires c = (lit< tt, omega (arith, c.requires.few, c.loop-k-test.true, ap length c.loop-k.invariant, length-turns_from (map edge_by c.args.buffers.now) 0 (take c.loop-k.k (map comp_by c.args.comps.now)), length-take c.loop-k.k (map comp_by c.args.comps.now)))

pub loop-k-preserved : goal.loop-k-preserved
loop-k-preserved c =
    let comps = c.args.comps.now in let edges = map edge_by c.args.buffers.now in let k = c.loop-k.k in
    let d = c.index-comps-k.result in
    let low : k < length comps = c.loop-k-test.true in
    let lows : k < length (map comp_by comps) = omega (arith, length-map comps comp_by, low) in
    c.push.ensures.items
    ∙ ap (λ (p : List Turn × ℕ). p.0 ++ record { place = k; id = (get_or comps k d).id; waits = p.1 } ∷ []) (λ i. (c.loop-k.invariant i, (c.waits.ensures ∙ waits-are c.args.buffers.now (get_or comps k d).id c.requires.ascends) i))
    ∙ ap (λ (x : Comp). turns_from edges 0 (take k (map comp_by comps)) ++ record { place = k; id = x.id; waits = waits edges [] x.id } ∷ []) (sym (get_or-map comp_by comps k d (comp_by d) low))
    ∙ sym (turns_from-more edges (map comp_by comps) k (comp_by d) lows)

pub returns : goal.returns
returns c =
    let comps = c.args.comps.now in
    c.loop-k.invariant ∙ ap (turns_from (map edge_by c.args.buffers.now) 0) (take_all c.loop-k.k (map comp_by comps) (omega (arith, length-map comps comp_by, c.loop-k-test.false)))
