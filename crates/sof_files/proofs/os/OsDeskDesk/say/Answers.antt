use Rattle.std.proofs.Common.{◌≡◌, ◌∙◌, refl, sym, ap, subst, is_ok, length, arith}
use Rattle.std.proofs.lemmas.List.{with_items_is}
use Rattle.std.specs.Vec.{with_items}
use Rattle.sof_desk.specs.Desk.{Put, Spoken}
use Rattle.sof_files.specs.OutFiles.{GivesFiles, slots_of, out_names}
use Rattle.sof_files.specs.RealDesk.{RealDesk}
use Rattle.sof_files.proofs.ActsOfReal.{puts, answered-first}
use Rattle.sof_files.proofs.os.OsDeskDesk.say.Goals as goal

pub returns : goal.returns
returns g c =
    let inside = c.self.inside in
    let mid : RealDesk = record { files = inside.files.items; inputs = inside.inputs.items; uses = inside.uses.items; faults = inside.troubles.count; first = inside.troubles.first } in
    let wrote = c.say_among in
    let done = is_ok c.map_err-done.result in
    let same : done ≡ is_ok wrote.result = c.map_err-done.ensures.variant in
    let files = wrote.new.files in
    let kept : length files ≡ inside.files.len = omega (arith, wrote.auto.files, c.deref_mut.ensures.len) in
    let items = with_items_is inside.files files kept in
    let new : RealDesk = record { files = (with_items inside.files files).items; inputs = inside.inputs.items; uses = inside.uses.items; faults = c.answer.new.self.count; first = c.answer.new.self.first } in
    let gives : GivesFiles (Put Spoken c.args.piece.now) done mid.files files =
    (rw c.deref_mut.ensures.value at wrote.ensures.given, λ yes. wrote.ensures.none (sym same ∙ yes)) in
    puts Spoken c.args.piece.now (is_ok c.answer.result) done c.args.self.now mid new c.self.view_is c.answer.ensures.answer
    (ap slots_of items ∙ rw c.deref_mut.ensures.value at wrote.ensures.slots)
    (subst (λ fs. GivesFiles (Put Spoken c.args.piece.now) done mid.files fs) (sym items) gives)
    refl refl
    c.answer.ensures.count
    (ap out_names items ∙ rw c.deref_mut.ensures.value at wrote.ensures.names)
    (answered-first c.map_err-done.result inside.troubles.first c.answer.new.self.first c.answer.ensures.first)
