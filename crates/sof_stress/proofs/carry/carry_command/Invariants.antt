use Rattle.std.proofs.Common.{◌≡◌, ◌≤◌, ◌-◌, ◌+◌, ◌*◌, ◌++◌, List, ℕ}
use Rattle.sof_base.specs.DrainedOutputs.{drained}
use Rattle.sof_io.specs.Bound.{output_slots}
use Rattle.sof_session.specs.Lives.{Seated}
use Rattle.sof_stress.specs.CommandTurns.{CommandTurn, command_turns}
use Rattle.sof_script.specs.Ticks.{earlier as earlier_turns}
use Rattle.sof_stress.specs.CarriedTurns.{turns_after}
use Rattle.sof_stress.specs.CarriedTurns.{AreCountsOf}
use Rattle.sof_stress.specs.CarriedTurns.{CarriesOn}
use Rattle.sof_stress.proofs.carry.carry_command.Given as goal

-- the turns that are left, carried out, make all carried out
abbrev pub invariant-loop : goal.invariant-loop
invariant-loop g l = record {
  sent : l.session.link.sent ≤ l.fn.session.link.sent + 1200 * l.counter;
  slots : output_slots l.outputs ≡ output_slots l.fn.outputs;
  empty : drained l.outputs ≡ l.outputs;
  counts : (n : ℕ) → AreCountsOf n l.fn.counts → AreCountsOf (n + l.counter) l.counts;
  so_far : (rest : List CommandTurn) → CarriesOn g.P.Dsp.means l.slot (command_turns l.command ++ rest) (turns_after (earlier_turns l.command - l.counter) l.command ++ rest)
      (Seated l.fn.session l.fn.inputs (output_slots l.fn.outputs)) l.fn.counts (Seated l.session l.inputs (output_slots l.outputs)) l.counts;
}
