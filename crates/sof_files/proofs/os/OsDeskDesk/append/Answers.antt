use Rattle.std.proofs.Common.{◌≡◌, ◌∙◌, refl, sym, ap, subst, is_ok, length, arith}
use Rattle.std.proofs.lemmas.List.{with_items_is}
use Rattle.std.specs.Vec.{with_items}
use Rattle.sof_desk.specs.Desk.{Put, Slot}
use Rattle.sof_files.specs.OutFiles.{GivesFiles, slots_of, out_names}
use Rattle.sof_files.specs.Troubles.{about_slot}
use Rattle.sof_files.specs.RealDesk.{RealDesk}
use Rattle.sof_files.proofs.ActsOfReal.{puts, notes-count, notes-first}
use Rattle.sof_files.proofs.os.OsDeskDesk.append.Goals as goal

pub returns : goal.returns
returns g c =
    let inside = c.self.inside in
    let mid : RealDesk = record { files = inside.files.items; inputs = inside.inputs.items; uses = inside.uses.items; faults = inside.troubles.count; first = inside.troubles.first } in
    let done = c.append_in in
    let files = done.new.files in
    let kept : length files ≡ inside.files.len = omega (arith, done.auto.files, c.deref_mut.ensures.len) in
    let items = with_items_is inside.files files kept in
    let new : RealDesk = record { files = (with_items inside.files files).items; inputs = inside.inputs.items; uses = inside.uses.items; faults = done.new.troubles.count; first = done.new.troubles.first } in
    let gives : GivesFiles (Put (Slot c.args.slot) c.args.piece.now) (is_ok done.result) mid.files files =
    (rw c.deref_mut.ensures.value at done.ensures.given, rw c.deref_mut.ensures.value at done.ensures.others) in
    puts (Slot c.args.slot) c.args.piece.now (is_ok done.result) (is_ok done.result) c.args.self.now mid new c.self.view_is refl
    (ap slots_of items ∙ rw c.deref_mut.ensures.value at done.ensures.slots)
    (subst (λ fs. GivesFiles (Put (Slot c.args.slot) c.args.piece.now) (is_ok done.result) mid.files fs) (sym items) gives)
    refl refl
    (notes-count (about_slot c.args.slot (out_names mid.files)) (is_ok done.result) inside.troubles done.new.troubles (rw c.deref_mut.ensures.value at done.ensures.notes))
    (ap out_names items ∙ rw c.deref_mut.ensures.value at done.ensures.names)
    (notes-first (about_slot c.args.slot (out_names mid.files)) (is_ok done.result) inside.troubles done.new.troubles (rw c.deref_mut.ensures.value at done.ensures.notes))
