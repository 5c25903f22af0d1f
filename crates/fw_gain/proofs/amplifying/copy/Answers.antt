use Rattle.std.proofs.Common.{◌∙◌}
use Rattle.fw_gain.proofs.UnityLaws.{amplified-unity}
use Rattle.fw_gain.proofs.amplifying.copy.Goals as goal

pub returns : goal.returns
returns c = c.copy_from_slice.ensures.after ∙ amplified-unity c.args._channels c.args._gains.now c.args.x.now c.requires.ones c.are_samples.ensures
