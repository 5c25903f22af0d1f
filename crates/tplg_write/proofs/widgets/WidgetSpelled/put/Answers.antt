use Rattle.std.proofs.Common.{ℕ, List, ap}
use Rattle.tplg_model.specs.Spelling.{widget_head_slots, head_of, items_cells, control_cells}
use Rattle.tplg_write.proofs.PatchLaws.{slots_then}
use Rattle.tplg_write.proofs.widgets.WidgetSpelled.put.Goals as goal

pub returns-clause-ok : goal.returns-clause-ok
returns-clause-ok c =
    let w = c.args.self.now in
    rw (c.in_ok-put_items.ensures.ok, c.in_ok-put_widget_head.ensures.ok, c.items.ensures) (ap (λ (a : List ℕ). record { front = c.args.sink.now.front; added = a })
    (slots_then c.args.sink.now.added (widget_head_slots (head_of w)) (items_cells control_cells w.controls)))
