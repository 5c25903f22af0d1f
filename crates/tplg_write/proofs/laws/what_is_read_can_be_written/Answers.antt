use Rattle.tplg_write.proofs.SizeLaws.{of_topology}
use Rattle.tplg_write.proofs.laws.what_is_read_can_be_written.Goals as goal

pub returns : goal.returns
returns c = of_topology
