use Rattle.std.proofs.Common.{List, ◌^◌, [], subst, arith}
use Rattle.std.specs.List.{range_with_len}
use Rattle.std.proofs.lemmas.List.FromFn.{length-range_with_len}
use Rattle.sof_script.specs.declared.script.Command.{Command}
use Rattle.sof_stress.specs.CarriedTurns.{CommandsCarried}
use Rattle.sof_stress.specs.Draws.{opening}
use Rattle.sof_stress.specs.CarriedTurns.{openings}
use Rattle.sof_stress.proofs.Ranges.{flat-more}
use Rattle.sof_stress.proofs.CarrySteps.{stays-under-way, and-then}
use Rattle.sof_stress.proofs.DueCommands.{opened-length}
use Rattle.sof_stress.proofs.carry.carry_openings.Goals as goal

pub carry_opening-requires-clause-under_way : goal.carry_opening-requires-clause-under_way
carry_opening-requires-clause-under_way g c =
    let i = c.loop-i.i in
    stays-under-way g.P.Dsp.means c.args.slot (openings i) (2 ^ 16) (2 ^ 20) (omega (arith, opened-length (range_with_len 0 i), length-range_with_len 0 i, c.loop-i-test.true, c.requires.few)) c.requires.under_way c.loop-i.invariant

pub loop-i-preserved : goal.loop-i-preserved
loop-i-preserved g c =
    let i = c.loop-i.i in
    subst (λ (cs : List Command). CommandsCarried g.P.Dsp.means c.args.slot cs c.args.session.now c.args.inputs.now c.args.outputs.now c.args.counts.now c.carry_opening.new.session c.carry_opening.new.inputs c.carry_opening.new.outputs c.carry_opening.new.counts)
    (flat-more opening [] i) (and-then g.P.Dsp.means c.args.slot (openings i) (opening i) c.loop-i.invariant c.carry_opening.ensures)
