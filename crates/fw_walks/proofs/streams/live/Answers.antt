use Rattle.fw_walks.proofs.Counted.{live-counted}
use Rattle.fw_walks.proofs.streams.live.Goals as goal

pub returns : goal.returns
returns c = live-counted c.args.registry.now c.args.id c.counts.result.1 c.counts.ensures.1
