use Rattle.std.proofs.Common.{sym, ◌∙◌}
use Rattle.host_dynamic.proofs.Searchable.{index-among}
use Rattle.host_dynamic.proofs.Spreading.{room-at}
use Rattle.host_dynamic.proofs.needing.note_mark.Goals as goal

pub note_at-requires : goal.note_at-requires
note_at-requires c = λ i at gone. room-at c.args.plan.now c.requires.plan c.args.needed.now.items i c.requires.once (index-among c.args.plan.now c.requires.plan c.args.id i (sym (c.requires.table c.args.id) ∙ sym c.at-index.ensures ∙ at)) gone
