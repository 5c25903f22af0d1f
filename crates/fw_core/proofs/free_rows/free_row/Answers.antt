use Rattle.fw_core.proofs.Freed.{freed-is}
use Rattle.fw_core.proofs.free_rows.free_row.Goals as goal

pub returns : goal.returns
returns c = freed-is c.args.what c.args.registry.now c.free_item.new.registry c.args.region.now c.free_item.new.region c.args.id c.requires c.free_item.result c.removals_are_seen.ensures.rings c.free_item.ensures.answer c.free_item.ensures.done c.free_item.ensures.holes c.free_item.ensures.same c.free_item.ensures.kept
