use Rattle.std.proofs.Common.{sym, ◌∙◌}
use Rattle.host_dynamic.proofs.Searchable.{end-among}
use Rattle.host_dynamic.proofs.Spreading.{room-at, table-end}
use Rattle.host_dynamic.proofs.needing.note_source.Goals as goal

pub note_at-requires : goal.note_at-requires
note_at-requires c = λ i at gone. room-at c.args.plan.now c.requires.plan c.args.needed.now.items i c.requires.once (end-among c.args.plan.now c.requires.plan c.args.edge.now.source i (sym (table-end c.args.plan.now.graph c.args.table.now c.requires.table c.args.edge.now.source) ∙ sym c.at_end-index.ensures ∙ at)) gone
