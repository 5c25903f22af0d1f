use Rattle.std.proofs.Common.{sym, ◌∙◌}
use Rattle.fw_gain.proofs.RampKernelLaws.{ramped-past}
use Rattle.fw_moves.specs.Moving.{samples_in}
use Rattle.fw_moves.proofs.making.amplify.Goals as goal

pub returns-then-count-done-clause-samples : goal.returns-then-count-done-clause-samples
returns-then-count-done-clause-samples c =
    c.amplify_all.ensures.samples
    ∙ sym (ramped-past c.args.channels c.args.from.now c.args.to.now c.args.count c.args.done (samples_in c.args.buffers.now c.args.n c.args.inlet) c.if-count-done.true)
