use Rattle.std.proofs.Common.{sym, ap, ◌∙◌, ◌+◌, drop}
use Rattle.std.proofs.lemmas.List.{drop_all}
use Rattle.stream_law.specs.Waiting.{best_of}
use Rattle.stream_law.proofs.TurnLaws.{best_of-more}
use Rattle.stream_law.proofs.turns.next_turn.Goals as goal

pub loop-turn-preserved : goal.loop-turn-preserved
loop-turn-preserved c =
    c.loop-turn.invariant
    ∙ best_of-more c.args.left.now c.loop-turn.turn-index _ c.loop-turn.best c.loop-turn-test.true
    ∙ ap (λ best. best_of best (drop (c.loop-turn.turn-index + 1) c.args.left.now)) (sym c.better-best.ensures)

pub returns : goal.returns
returns c = sym (c.loop-turn.invariant ∙ ap (best_of c.loop-turn.best) (drop_all c.loop-turn.turn-index c.args.left.now c.loop-turn-test.false))
