use Rattle.sof_stress.specs.CarriedTurns.{CommandsCarried}
use Rattle.sof_stress.specs.CarriedTurns.{openings}
use Rattle.sof_stress.proofs.carry.carry_openings.Given as goal

-- the openings so far were carried out
abbrev pub invariant-loop-i : goal.invariant-loop-i
invariant-loop-i g l = CommandsCarried g.P.Dsp.means l.slot (openings l.i) l.fn.session l.fn.inputs l.fn.outputs l.fn.counts l.session l.inputs l.outputs l.counts
