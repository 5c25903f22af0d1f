use Rattle.fw_walks.proofs.Counted.{active-counted}
use Rattle.fw_walks.proofs.streams.active.Goals as goal

pub returns : goal.returns
returns c = active-counted c.args.registry.now c.args.id c.counts.result.0 c.counts.ensures.0
