use Rattle.fw_pipeline.proofs.JoinRow.{may-join}
use Rattle.fw_pipeline.proofs.one_join.is_refused.Goals as goal

pub stays_with-requires : goal.stays_with-requires
stays_with-requires c = may-join c.args.registry.now (record { source = c.args.source; sink = c.args.sink }) c.requires.takes c.requires.free
