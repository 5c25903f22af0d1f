use Rattle.std.proofs.Common.{◌+◌, ◌*◌, ◌^◌, ◌∷◌, [], ◌++◌, length, refl, subst, arith}
use Rattle.std.specs.List.{range_with_len}
use Rattle.std.proofs.lemmas.List.FromFn.{length-range_with_len, length-map-range_with_len}
use Rattle.sof_io.specs.Bound.{output_slots}
use Rattle.sof_script.specs.declared.script.Command.TheVariants as commands
use Rattle.sof_session.specs.Lives.{Seated}
use Rattle.sof_stress.specs.declared.counts.Counts.{Counts}
use Rattle.sof_stress.specs.CommandTurns.{turns_of}
use Rattle.sof_stress.specs.CarriedTurns.{CarriedOut}
use Rattle.sof_stress.specs.Draws.{stream_count, drawn, command_by, stress_commands}
use Rattle.sof_stress.specs.CarriedTurns.{openings, drawn_commands}
use Rattle.sof_stress.proofs.CarrySteps.{counts-mono, first-under-way, one-carried, stays-under-way, and-then, all-carried}
use Rattle.sof_stress.proofs.DueCommands.{opened-length}
use Rattle.sof_stress.proofs.carry.carry_all.Goals as goal

pub carry_drawn-requires-clause-under_way : goal.carry_drawn-requires-clause-under_way
carry_drawn-requires-clause-under_way g c =
    let streams = c.streams_of.result in
    let begun = first-under-way c.args.slot c.args.session.now c.args.outputs.now c.none-counts.result c.requires.first c.requires.slots c.requires.empty c.none-counts.ensures in
    let load = one-carried g.P.Dsp.means c.args.slot _ commands.Load refl c.carry_command.ensures.carried c.carry_command.ensures.sent c.carry_command.ensures.slots c.carry_command.ensures.empty c.carry_command.ensures.counts in
    stays-under-way g.P.Dsp.means c.args.slot (openings streams) 1 (2 ^ 16) (omega (arith, opened-length (range_with_len 0 streams), length-range_with_len 0 streams, c.streams_of.ensures.few.1))
    (stays-under-way g.P.Dsp.means c.args.slot (commands.Load ∷ []) 0 1 (omega arith) begun load) c.carry_openings.ensures

pub carry_command-requires-2-clause-few : goal.carry_command-requires-2-clause-few
carry_command-requires-2-clause-few g c =
    let streams = c.streams_of.result in
    let drawn_length = length-map-range_with_len (λ k. command_by (stream_count c.args.seed) (drawn c.args.seed k)) 1 c.args.seed in
    omega (
      arith,
      c.carry_drawn.ensures.sent,
      drawn_length,
      c.requires.few,
      c.carry_openings.ensures.sent,
      opened-length (range_with_len 0 streams),
      length-range_with_len 0 streams,
      c.streams_of.ensures.few.1,
      c.carry_command.ensures.sent,
      c.requires.first,
    )

pub carry_command-requires-2-clause-counts : goal.carry_command-requires-2-clause-counts
carry_command-requires-2-clause-counts g c =
    let streams = c.streams_of.result in
    let drawn_length = length-map-range_with_len (λ k. command_by (stream_count c.args.seed) (drawn c.args.seed k)) 1 c.args.seed in
    let begun = first-under-way c.args.slot c.args.session.now c.args.outputs.now c.none-counts.result c.requires.first c.requires.slots c.requires.empty c.none-counts.ensures in
    counts-mono (0 + 10 + 10 * length (openings streams) + 10 * length (drawn_commands c.args.seed)) (2 ^ 30) _ (omega (arith, drawn_length, c.requires.few, opened-length (range_with_len 0 streams), length-range_with_len 0 streams, c.streams_of.ensures.few.1))
    (c.carry_drawn.ensures.counted (0 + 10 + 10 * length (openings streams)) (c.carry_openings.ensures.counted (0 + 10) (c.carry_command.ensures.counts 0 begun.counted)))

pub returns : goal.returns
returns g c =
    let seed = c.args.seed in
    let opened = rw c.streams_of.ensures.streams at c.carry_openings.ensures in
    let load = one-carried g.P.Dsp.means c.args.slot _ commands.Load refl c.carry_command.ensures.carried c.carry_command.ensures.sent c.carry_command.ensures.slots c.carry_command.ensures.empty c.carry_command.ensures.counts in
    let ticks = one-carried g.P.Dsp.means c.args.slot _ (commands.Tick 4) refl c.carry_command-2.ensures.carried c.carry_command-2.ensures.sent c.carry_command-2.ensures.slots c.carry_command-2.ensures.empty c.carry_command-2.ensures.counts in
    let all =
    and-then g.P.Dsp.means c.args.slot (commands.Load ∷ [] ++ openings (stream_count seed) ++ drawn_commands seed) (commands.Tick 4 ∷ [])
    (and-then g.P.Dsp.means c.args.slot (commands.Load ∷ [] ++ openings (stream_count seed)) (drawn_commands seed)
    (and-then g.P.Dsp.means c.args.slot (commands.Load ∷ []) (openings (stream_count seed)) load opened) c.carry_drawn.ensures) ticks
    in
    subst (λ (n : Counts). CarriedOut g.P.Dsp.means c.args.slot (turns_of (stress_commands seed)) (Seated c.args.session.now c.args.inputs.now (output_slots c.args.outputs.now)) n (Seated c.carry_command-2.new.session c.carry_command-2.new.inputs (output_slots c.carry_command-2.new.outputs)) c.carry_command-2.new.counts)
    c.none-counts.ensures (all-carried g.P.Dsp.means c.args.slot (stress_commands seed) all)
