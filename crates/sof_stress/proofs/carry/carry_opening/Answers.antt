use Rattle.std.proofs.Common.{◌∷◌, [], ◌+◌, ◌*◌, ◌^◌, arith}
use Rattle.sof_script.specs.declared.script.Command.TheVariants as commands
use Rattle.sof_stress.specs.Draws.{host_name}
use Rattle.sof_stress.specs.CarriedTurns.{stress_params}
use Rattle.sof_stress.proofs.CarrySteps.{counts-mono, one-carried, and-then}
use Rattle.sof_stress.proofs.carry.carry_opening.Goals as goal

pub carry_command-requires-2-clause-counts : goal.carry_command-requires-2-clause-counts
carry_command-requires-2-clause-counts g c =
    counts-mono (10 * 2 ^ 20 + 10) (2 ^ 30) _ (omega arith) (c.carry_command.ensures.counts (10 * 2 ^ 20) c.requires.under_way.counted)

pub carry_command-requires-3-clause-counts : goal.carry_command-requires-3-clause-counts
carry_command-requires-3-clause-counts g c =
    counts-mono (10 * 2 ^ 20 + 10 + 10) (2 ^ 30) _ (omega arith) (c.carry_command-2.ensures.counts (10 * 2 ^ 20 + 10) (c.carry_command.ensures.counts (10 * 2 ^ 20) c.requires.under_way.counted))

pub returns : goal.returns
returns g c =
    let name = host_name c.args.i in
    let opened = one-carried g.P.Dsp.means c.args.slot _ (commands.Open name) (λ k. commands.Open (c.host_name.ensures k)) c.carry_command.ensures.carried c.carry_command.ensures.sent c.carry_command.ensures.slots c.carry_command.ensures.empty c.carry_command.ensures.counts in
    let params = one-carried g.P.Dsp.means c.args.slot _ (commands.Params name stress_params) (λ k. commands.Params (c.host_name-2.ensures k) stress_params) c.carry_command-2.ensures.carried c.carry_command-2.ensures.sent c.carry_command-2.ensures.slots c.carry_command-2.ensures.empty c.carry_command-2.ensures.counts in
    let start = one-carried g.P.Dsp.means c.args.slot _ (commands.Start name) (λ k. commands.Start (c.host_name-3.ensures k)) c.carry_command-3.ensures.carried c.carry_command-3.ensures.sent c.carry_command-3.ensures.slots c.carry_command-3.ensures.empty c.carry_command-3.ensures.counts in
    and-then g.P.Dsp.means c.args.slot (commands.Open name ∷ commands.Params name stress_params ∷ []) (commands.Start name ∷ [])
    (and-then g.P.Dsp.means c.args.slot (commands.Open name ∷ []) (commands.Params name stress_params ∷ []) opened params) start
