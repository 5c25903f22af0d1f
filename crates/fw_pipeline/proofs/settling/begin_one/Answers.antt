use Rattle.fw_components.specs.Frames.{words_at}
use Rattle.fw_pipeline.proofs.Begins.{one-begun}
use Rattle.fw_pipeline.proofs.settling.begin_one.Goals as goal

pub returns : goal.returns
returns c = one-begun c.args.registry.now c.begin.new.self c.comps.ensures.kept c.args.id c.args.p.channels c.args.p.rate (words_at c.begin.new.self c.args.id) c.begin.ensures.tables c.begin.ensures.fresh c.begin.ensures.staged
