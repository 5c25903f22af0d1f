use Rattle.fw_core.proofs.Changed.{connect-is}
use Rattle.fw_core.proofs.join_rows.connect.Goals as goal

pub returns : goal.returns
returns c = λ r held. connect-is c.args.registry.now c.connect.new.registry r c.args.source c.args.sink held c.connect.result c.joins_are_seen.ensures.rings c.connect.ensures.answer c.connect.ensures.done c.connect.ensures.kept
