use Rattle.std.proofs.Common.{length}
use Rattle.fw_moves.proofs.MadeLaws.{parts}
use Rattle.fw_moves.proofs.making.copy.Goals as goal

pub copy_both-requires : goal.copy_both-requires
copy_both-requires c = parts c.spans.result.0.now c.spans.result.1.now c.args.buffers.now c.args.n c.args.inlet (length c.args.samples.now) c.spans.ensures.samples c.spans.ensures.frames c.requires.held c.requires.size
