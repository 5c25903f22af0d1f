use Rattle.std.proofs.Common.{sym, ap, ◌∙◌, ℕ, List, ◌++◌, [], ◌∷◌, take, get_or, length, lit<, arith}
use Rattle.std.proofs.lemmas.List.{take_all, length-take}
use Rattle.stream_law.specs.declared.turns.Turn.{Turn}
use Rattle.stream_law.specs.Waiting.{turns_from}
use Rattle.stream_law.proofs.TurnLaws.{turns_from-more, length-turns_from}
use Rattle.stream_law.proofs.turns.turns.Goals as goal

pub push-requires : goal.push-requires
push-requires c = (lit< tt, omega (arith, c.requires.few, c.loop-k-test.true, ap length c.loop-k.invariant, length-turns_from c.args.edges.now 0 (take c.loop-k.k c.args.comps.now), length-take c.loop-k.k c.args.comps.now))

pub loop-k-preserved : goal.loop-k-preserved
loop-k-preserved c =
    let comps = c.args.comps.now in
    let edges = c.args.edges.now in
    let d = c.index-comps-k.result in
    c.push.ensures.items
    ∙ ap (λ (p : List Turn × ℕ). p.0 ++ record { place = c.loop-k.k; id = (get_or comps c.loop-k.k d).id; waits = p.1 } ∷ []) (λ i. (c.loop-k.invariant i, c.waits.ensures i))
    ∙ sym (turns_from-more edges comps c.loop-k.k d c.loop-k-test.true)

pub returns : goal.returns
returns c = c.loop-k.invariant ∙ ap (turns_from c.args.edges.now 0) (take_all c.loop-k.k c.args.comps.now c.loop-k-test.false)
