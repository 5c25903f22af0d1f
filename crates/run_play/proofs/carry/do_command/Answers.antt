use Rattle.std.proofs.Common.{◌∙◌, true, false, refl, subst, sym, arith}
use Rattle.sof_io.specs.Bound.{output_slots}
use Rattle.tplg_plan.specs.Sound.{IsSound}
use Rattle.sof_script.specs.Ticks.{earlier as units_before}
use Rattle.run_play.specs.Rounds.{Round}
use Rattle.run_play.specs.KeptTurns.{KeptTurn}
use Rattle.run_play.proofs.Kept.{keeps-same}
use Rattle.run_play.proofs.Commands.{round_on, round_unfilled, rounds_on, rounds_off, rounds_last}
use Rattle.run_play.proofs.Openings.{files_moved}
use Rattle.run_play.proofs.Refills.{refill_phase}
use Rattle.run_play.proofs.FewMessages.{tick_before, at_most_by}
use Rattle.run_play.proofs.carry.do_command.Goals as goal

pub do_earlier_tick-requires-clause-files : goal.do_earlier_tick-requires-clause-files
do_earlier_tick-requires-clause-files g c =
    files_moved g.D.Desk.means c.loop.inputs c.refill.new.inputs c.loop.outputs c.loop.outputs _ _ c.refill.ensures.slots refl c.refill.ensures.same c.loop.invariant.files

pub loop-preserved : goal.loop-preserved
loop-preserved g c =
    let means = g.D.Desk.means in
    let by = KeptTurn g.K.Dsp.means g.K.TraceBuffer.holds g.K.Drain.empties in
    let numbered = c.args.numbered.now in
    let round : Round = record { numbered = numbered; last = false } in
    let below = rw c.earlier-end.ensures at c.loop-test.true in
    let tick = tick_before numbered.command c.loop.counter below in
    let filled = refill_phase means g.K.Dsp.means g.K.TraceBuffer.holds g.K.Drain.empties c.loop.session (output_slots c.loop.outputs) c.loop.inputs c.refill.new.inputs _ _ true (rw c.if-not-refill.false at c.refill.ensures.filled) in
    record {
      plan = c.do_earlier_tick.ensures.plan ∙ c.loop.invariant.plan;
      sent = omega (arith, c.do_earlier_tick.ensures.sent, c.loop.invariant.sent);
      files = c.do_earlier_tick.ensures.files;
      keeps = c.do_earlier_tick.ensures.keeps;
      empty = c.do_earlier_tick.ensures.empty;
      so_far = rounds_on means by numbered (units_before numbered.command) c.loop.counter _ _ _ _ _ _ c.loop.invariant.so_far below
          (round_on means by round _ _ _ _ _ _ true filled (rw c.if-not-do_earlier_tick.false at (c.do_earlier_tick.ensures.phase numbered tick.0 tick.1)));
    }

pub returns-then-not-refill-clause-phase : goal.returns-then-not-refill-clause-phase
returns-then-not-refill-clause-phase g c =
    let means = g.D.Desk.means in
    let by = KeptTurn g.K.Dsp.means g.K.TraceBuffer.holds g.K.Drain.empties in
    let numbered = c.args.numbered.now in
    let round : Round = record { numbered = numbered; last = false } in
    let below = rw c.earlier-end.ensures at c.loop-test.true in
    let unfilled = refill_phase means g.K.Dsp.means g.K.TraceBuffer.holds g.K.Drain.empties c.loop.session (output_slots c.loop.outputs) c.loop.inputs c.refill.new.inputs _ _ false (rw c.if-not-refill.true at c.refill.ensures.filled) in
    rounds_off means by numbered (units_before numbered.command) c.loop.counter _ _ _ _ _ _ c.loop.invariant.so_far below (round_unfilled means by round _ _ _ _ unfilled)

pub returns-then-not-refill-clause-files : goal.returns-then-not-refill-clause-files
returns-then-not-refill-clause-files g c =
    files_moved g.D.Desk.means c.loop.inputs c.refill.new.inputs c.loop.outputs c.loop.outputs _ _ c.refill.ensures.slots refl c.refill.ensures.same c.loop.invariant.files

pub returns-then-not-do_earlier_tick-clause-phase : goal.returns-then-not-do_earlier_tick-clause-phase
returns-then-not-do_earlier_tick-clause-phase g c =
    let means = g.D.Desk.means in
    let by = KeptTurn g.K.Dsp.means g.K.TraceBuffer.holds g.K.Drain.empties in
    let numbered = c.args.numbered.now in
    let round : Round = record { numbered = numbered; last = false } in
    let below = rw c.earlier-end.ensures at c.loop-test.true in
    let tick = tick_before numbered.command c.loop.counter below in
    let filled = refill_phase means g.K.Dsp.means g.K.TraceBuffer.holds g.K.Drain.empties c.loop.session (output_slots c.loop.outputs) c.loop.inputs c.refill.new.inputs _ _ true (rw c.if-not-refill.false at c.refill.ensures.filled) in
    rounds_off means by numbered (units_before numbered.command) c.loop.counter _ _ _ _ _ _ c.loop.invariant.so_far below
    (round_on means by round _ _ _ _ _ _ false filled (rw c.if-not-do_earlier_tick.true at (c.do_earlier_tick.ensures.phase numbered tick.0 tick.1)))

pub returns-then-not-refill-2-clause-phase : goal.returns-then-not-refill-2-clause-phase
returns-then-not-refill-2-clause-phase g c =
    let means = g.D.Desk.means in
    let by = KeptTurn g.K.Dsp.means g.K.TraceBuffer.holds g.K.Drain.empties in
    let numbered = c.args.numbered.now in
    let round : Round = record { numbered = numbered; last = true } in
    let unfilled = refill_phase means g.K.Dsp.means g.K.TraceBuffer.holds g.K.Drain.empties c.loop.session (output_slots c.loop.outputs) c.loop.inputs c.refill-2.new.inputs _ _ false (rw c.if-not-refill-2.true at c.refill-2.ensures.filled) in
    rounds_last means by numbered (units_before numbered.command) c.loop.counter _ _ _ _ _ _ c.loop.invariant.so_far false (rw c.earlier-end.ensures at c.loop-test.false) (round_unfilled means by round _ _ _ _ unfilled)

pub returns-then-not-refill-2-clause-files : goal.returns-then-not-refill-2-clause-files
returns-then-not-refill-2-clause-files g c =
    files_moved g.D.Desk.means c.loop.inputs c.refill-2.new.inputs c.loop.outputs c.loop.outputs _ _ c.refill-2.ensures.slots refl c.refill-2.ensures.same c.loop.invariant.files

pub do_round-requires-clause-files : goal.do_round-requires-clause-files
do_round-requires-clause-files g c =
    files_moved g.D.Desk.means c.loop.inputs c.refill-2.new.inputs c.loop.outputs c.loop.outputs _ _ c.refill-2.ensures.slots refl c.refill-2.ensures.same c.loop.invariant.files

pub returns-clause-phase : goal.returns-clause-phase
returns-clause-phase g c =
    let means = g.D.Desk.means in
    let by = KeptTurn g.K.Dsp.means g.K.TraceBuffer.holds g.K.Drain.empties in
    let numbered = c.args.numbered.now in
    let round : Round = record { numbered = numbered; last = true } in
    let filled = refill_phase means g.K.Dsp.means g.K.TraceBuffer.holds g.K.Drain.empties c.loop.session (output_slots c.loop.outputs) c.loop.inputs c.refill-2.new.inputs _ _ true (rw c.if-not-refill-2.false at c.refill-2.ensures.filled) in
    rounds_last means by numbered (units_before numbered.command) c.loop.counter _ _ _ _ _ _ c.loop.invariant.so_far c.do_round.result (rw c.earlier-end.ensures at c.loop-test.false)
    (round_on means by round _ _ _ _ _ _ c.do_round.result filled c.do_round.ensures.phase)

pub do_round-requires-clause-few : goal.do_round-requires-clause-few
do_round-requires-clause-few g c = omega (arith, c.loop.invariant.sent, c.requires.few)

pub returns-clause-sent : goal.returns-clause-sent
returns-clause-sent g c = omega (arith, c.do_round.ensures.sent, c.loop.invariant.sent, at_most_by c.loop.session.up c.args.numbered.now.command)

pub do_round-requires-clause-plan : goal.do_round-requires-clause-plan
do_round-requires-clause-plan g c = subst IsSound (sym c.loop.invariant.plan) c.requires.plan

-- what a device may hold can be written all the while

pub do_earlier_tick-requires-clause-keeps : goal.do_earlier_tick-requires-clause-keeps
do_earlier_tick-requires-clause-keeps g c = keeps-same g.D.Desk.means g.K.TraceBuffer.holds c.loop.desk c.refill.new.desk c.refill.ensures.same c.loop.invariant.keeps

pub do_round-requires-clause-keeps : goal.do_round-requires-clause-keeps
do_round-requires-clause-keeps g c = keeps-same g.D.Desk.means g.K.TraceBuffer.holds c.loop.desk c.refill-2.new.desk c.refill-2.ensures.same c.loop.invariant.keeps

pub returns-then-not-refill-clause-keeps : goal.returns-then-not-refill-clause-keeps
returns-then-not-refill-clause-keeps g c = keeps-same g.D.Desk.means g.K.TraceBuffer.holds c.loop.desk c.refill.new.desk c.refill.ensures.same c.loop.invariant.keeps

pub returns-then-not-refill-2-clause-keeps : goal.returns-then-not-refill-2-clause-keeps
returns-then-not-refill-2-clause-keeps g c = keeps-same g.D.Desk.means g.K.TraceBuffer.holds c.loop.desk c.refill-2.new.desk c.refill-2.ensures.same c.loop.invariant.keeps
