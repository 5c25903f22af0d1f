use Rattle.std.proofs.Common.{◌≡◌, ◌∷◌, [], ap, sym, subst, ◌∙◌}
use Rattle.sof_io.specs.Bound.{output_slots}
use Rattle.sof_io.proofs.OutputLaws.{slots-drained, drained-drained}
use Rattle.sof_session.specs.Lives.{Seated}
use Rattle.sof_session.specs.Modes.{shown_in}
use Rattle.sof_script.specs.Tasks.{Out}
use Rattle.sof_session.specs.Written.{written_in}
use Rattle.sof_stress.specs.CommandTurns.{CommandTurn}
use Rattle.sof_stress.specs.CarriedTurns.{counted_by, CarriedFirst}
use Rattle.sof_stress.proofs.CarrySteps.{carries-on, one-first}
use Rattle.sof_stress.proofs.carry.carry_turn.Goals as goal

pub step-answer-requires-clause-numbers : goal.step-answer-requires-clause-numbers
step-answer-requires-clause-numbers g c = c.requires.due.numbers

pub held-bytes-requires : goal.held-bytes-requires
held-bytes-requires g c = c.step-answer.ensures.slots ∙ c.requires.slots

pub returns-clause-carried : goal.returns-clause-carried
returns-clause-carried g c =
    let slots : output_slots c.drain.new.self ≡ output_slots c.args.outputs.now = ap output_slots c.drain.ensures ∙ slots-drained c.step-answer.new.out ∙ c.step-answer.ensures.slots in
    let turned = carries-on g.P.Dsp.means c.args.command.now _ _ _ _ _ _ c.step-answer.result c.requires.empty c.step-answer.ensures.stepped c.step-answer.ensures.plan c.step-answer.ensures.heap c.step-answer.ensures.agreed c.step-answer.ensures.ends in
    let turn : CommandTurn = record { command = c.args.command.now; last = c.args.last } in
    let out : Out = record { answer = c.step-answer.result; shown = shown_in c.args.command.now c.args.session.now.up c.args.session.now.plan c.args.session.now.kept; written = written_in c.step-answer.new.out } in
    let old = Seated c.args.session.now c.args.inputs.now (output_slots c.args.outputs.now) in
    let is = c.count_turn.ensures.counted ∙ ap (λ b. counted_by c.args.command.now c.args.last c.step-answer.result b c.args.counts.now) c.held-bytes.ensures.held in
    subst (λ xs. CarriedFirst g.P.Dsp.means c.args.slot (turn ∷ []) old c.args.counts.now (Seated c.step-answer.new.self c.step-answer.new.io xs) c.count_turn.new.counts) (sym slots)
    (one-first g.P.Dsp.means c.args.slot turn out old (Seated c.step-answer.new.self c.step-answer.new.io (output_slots c.args.outputs.now)) c.args.counts.now c.count_turn.new.counts turned is)

pub returns-clause-slots : goal.returns-clause-slots
returns-clause-slots g c = ap output_slots c.drain.ensures ∙ slots-drained c.step-answer.new.out ∙ c.step-answer.ensures.slots

pub returns-clause-empty : goal.returns-clause-empty
returns-clause-empty g c = rw c.drain.ensures (drained-drained c.step-answer.new.out)
