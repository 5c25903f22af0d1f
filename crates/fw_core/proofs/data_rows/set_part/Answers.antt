use Rattle.fw_components.specs.Parts.{words_in}
use Rattle.row_laws.proofs.RowKept.{set_data-kept}
use Rattle.fw_core.proofs.Parts.{part-set-is}
use Rattle.fw_core.proofs.data_rows.set_part.Goals as goal

pub returns : goal.returns
returns c = λ r held. part-set-is c.args.registry.now c.set_part.new.self r c.args.id c.args.part.now (words_in c.set_part.new.self.comps c.args.id) held (set_data-kept c.args.id c.args.part.now c.requires) c.set_part.result c.set_part.ensures.answer c.set_part.ensures.kept c.set_part.ensures.parted
