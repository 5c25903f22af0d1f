use Rattle.std.proofs.Common.{◌≡◌, ◌<◌, ◌^◌, map}
use Rattle.std.specs.List.{range_with_len}
use Rattle.sof_stress.specs.CarriedTurns.{CommandsCarried}
use Rattle.sof_stress.specs.Draws.{state_at, drawn, command_by, stream_count}
use Rattle.sof_stress.proofs.carry.carry_drawn.Given as goal

-- the commands of the numbers so far were carried out
abbrev pub invariant-loop : goal.invariant-loop
invariant-loop g l = record {
  state : l.state ≡ state_at l.seed l.counter;
  bound : l.state < 2 ^ 31;
  so_far : CommandsCarried g.P.Dsp.means l.slot (map (λ k. command_by (stream_count l.seed) (drawn l.seed k)) (range_with_len 1 l.counter))
      l.fn.session l.fn.inputs l.fn.outputs l.fn.counts l.session l.inputs l.outputs l.counts;
}
