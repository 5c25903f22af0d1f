use Rattle.std.proofs.Common.{◌+◌, ◌^◌, ◌∙◌, arith}
use Rattle.sof_script.specs.Ticks.{earlier as earlier_turns}
use Rattle.sof_stress.proofs.CarrySteps.{counts-mono, turns-on, turns-last}
use Rattle.sof_stress.proofs.DueCommands.{at-most-by, earlier-few}
use Rattle.sof_stress.proofs.carry.carry_command.Goals as goal

pub carry_turn-requires-clause-due : goal.carry_turn-requires-clause-due
carry_turn-requires-clause-due g c = c.requires.due

pub carry_turn-requires-2-clause-due : goal.carry_turn-requires-2-clause-due
carry_turn-requires-2-clause-due g c = c.requires.due

pub carry_turn-requires-clause-few : goal.carry_turn-requires-clause-few
carry_turn-requires-clause-few g c =
    let few = earlier-few c.args.command.now c.requires.due.ticks in
    omega (arith, few, c.loop.invariant.sent, c.requires.few, c.earlier_turns-end.ensures)

pub carry_turn-requires-2-clause-few : goal.carry_turn-requires-2-clause-few
carry_turn-requires-2-clause-few g c =
    let few = earlier-few c.args.command.now c.requires.due.ticks in
    omega (arith, few, c.loop.invariant.sent, c.requires.few, c.earlier_turns-end.ensures)

pub carry_turn-requires-clause-slots : goal.carry_turn-requires-clause-slots
carry_turn-requires-clause-slots g c = c.loop.invariant.slots ∙ c.requires.slots

pub carry_turn-requires-2-clause-slots : goal.carry_turn-requires-2-clause-slots
carry_turn-requires-2-clause-slots g c = c.loop.invariant.slots ∙ c.requires.slots

pub carry_turn-requires-clause-counts : goal.carry_turn-requires-clause-counts
carry_turn-requires-clause-counts g c =
    let few = earlier-few c.args.command.now c.requires.due.ticks in
    counts-mono (2 ^ 30 + c.loop.counter) (2 ^ 31) _ (omega (arith, few, c.earlier_turns-end.ensures)) (c.loop.invariant.counts (2 ^ 30) c.requires.counts)

pub carry_turn-requires-2-clause-counts : goal.carry_turn-requires-2-clause-counts
carry_turn-requires-2-clause-counts g c =
    let few = earlier-few c.args.command.now c.requires.due.ticks in
    counts-mono (2 ^ 30 + c.loop.counter) (2 ^ 31) _ (omega (arith, few, c.earlier_turns-end.ensures)) (c.loop.invariant.counts (2 ^ 30) c.requires.counts)

pub loop-preserved : goal.loop-preserved
loop-preserved g c = record {
  sent = omega (arith, c.carry_turn.ensures.sent, c.loop.invariant.sent, at-most-by c.loop.session.up c.args.command.now);
  slots = c.carry_turn.ensures.slots ∙ c.loop.invariant.slots;
  empty = c.carry_turn.ensures.empty;
  counts = λ n are. counts-mono (n + c.loop.counter + 1) (n + (c.loop.counter + 1)) _ (omega arith) (c.carry_turn.ensures.counts (n + c.loop.counter) (c.loop.invariant.counts n are));
  so_far = turns-on g.P.Dsp.means c.args.slot c.args.command.now (earlier_turns c.args.command.now) c.loop.counter _ _ _ _ _ _ (rw c.earlier_turns-end.ensures at c.loop-test.true) c.loop.invariant.so_far c.carry_turn.ensures.carried;
}

pub returns-clause-carried : goal.returns-clause-carried
returns-clause-carried g c =
    turns-last g.P.Dsp.means c.args.slot c.args.command.now (earlier_turns c.args.command.now) c.loop.counter _ _ _ _ _ _ (rw c.earlier_turns-end.ensures at c.loop-test.false) c.loop.invariant.so_far c.carry_turn-2.ensures.carried

pub returns-clause-sent : goal.returns-clause-sent
returns-clause-sent g c =
    let few = earlier-few c.args.command.now c.requires.due.ticks in
    omega (arith, few, c.carry_turn-2.ensures.sent, c.loop.invariant.sent, at-most-by c.loop.session.up c.args.command.now, c.earlier_turns-end.ensures)

pub returns-clause-slots : goal.returns-clause-slots
returns-clause-slots g c = c.carry_turn-2.ensures.slots ∙ c.loop.invariant.slots

pub returns-clause-counts : goal.returns-clause-counts
returns-clause-counts g c = λ n are.
    let few = earlier-few c.args.command.now c.requires.due.ticks in
    counts-mono (n + c.loop.counter + 1) (n + 10) _ (omega (arith, few, c.earlier_turns-end.ensures)) (c.carry_turn-2.ensures.counts (n + c.loop.counter) (c.loop.invariant.counts n are))
