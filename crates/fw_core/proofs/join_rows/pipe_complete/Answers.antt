use Rattle.fw_core.proofs.Changed.{complete-is}
use Rattle.fw_core.proofs.join_rows.pipe_complete.Goals as goal

pub returns : goal.returns
returns c = λ r held. complete-is c.args.registry.now c.complete.new.registry r c.args.id held c.complete.result c.complete.ensures.answer c.complete.ensures.done c.complete.ensures.kept
