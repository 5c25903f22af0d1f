use Rattle.std.proofs.Common.{◌≡◌, ◌≤◌, ◌∙◌, ℕ, List, refl, sym, ap, subst, length, take, arith, Some, None, length-take-le}
use Rattle.std.proofs.lemmas.List.{with_items_is}
use Rattle.std.specs.Vec.{with_items}
use Rattle.sof_files.specs.InFiles.{opens_of, in_names, left_in_file, SameLeftBeside, LeavesOf}
use Rattle.sof_files.specs.RealDesk.{RealDesk}
use Rattle.sof_files.proofs.ActsOfReal.{reads}
use Rattle.sof_files.proofs.os.OsDeskDesk.read.Goals as goal

pub returns-in-Ok : goal.returns-in-Ok
returns-in-Ok g c =
    let inside = c.self.inside in
    let mid : RealDesk = record { files = inside.files.items; inputs = inside.inputs.items; uses = inside.uses.items; faults = inside.troubles.count; first = inside.troubles.first } in
    let e = c.in-Ok.ensures in
    let slot = c.args.slot in
    let files = c.read_in.new.files in
    let count = c.in-Ok.count in
    let got = take count c.read_in.new.out in
    let kept : length files ≡ inside.inputs.len = omega (arith, c.read_in.auto.files, c.deref_mut.ensures.len) in
    let items = with_items_is inside.inputs files kept in
    let new : RealDesk = record mid { inputs = (with_items inside.inputs files).items } in
    let within : (bytes : List ℕ) → Some got ≡ Some bytes → length bytes ≤ length c.args.out.now = λ bytes is.
    (let same : got ≡ bytes = cc in omega (arith, ap length same, length-take-le count c.read_in.new.out e.bound, e.bound, c.read_in.auto.out))
    in (
      e.bound,
      reads slot (length c.args.out.now) (Some got) c.args.self.now mid new c.self.view_is within
          (ap opens_of items ∙ rw c.deref_mut.ensures.value at e.slots)
          (subst (λ fs. LeavesOf (Some got) (left_in_file slot mid.inputs) (left_in_file slot fs)) (sym items) (rw c.deref_mut.ensures.value at e.left))
          (subst (λ fs. SameLeftBeside slot mid.inputs fs) (sym items) (rw c.deref_mut.ensures.value at e.others))
          refl refl refl
          (ap in_names items ∙ rw c.deref_mut.ensures.value at e.names)
          refl,
    )

pub returns-in-Err : goal.returns-in-Err
returns-in-Err g c =
    let inside = c.self.inside in
    let mid : RealDesk = record { files = inside.files.items; inputs = inside.inputs.items; uses = inside.uses.items; faults = inside.troubles.count; first = inside.troubles.first } in
    let e = c.in-Err.ensures in
    let slot = c.args.slot in
    let files = c.read_in.new.files in
    let kept : length files ≡ inside.inputs.len = omega (arith, c.read_in.auto.files, c.deref_mut.ensures.len) in
    let items = with_items_is inside.inputs files kept in
    let new : RealDesk = record mid { inputs = (with_items inside.inputs files).items; faults = c.note.new.self.count; first = c.note.new.self.first } in
    reads slot (length c.args.out.now) None c.args.self.now mid new c.self.view_is (λ bytes is. cc)
    (ap opens_of items ∙ rw c.deref_mut.ensures.value at e.slots)
    (subst (λ fs. LeavesOf None (left_in_file slot mid.inputs) (left_in_file slot fs)) (sym items) (rw c.deref_mut.ensures.value at e.left))
    (subst (λ fs. SameLeftBeside slot mid.inputs fs) (sym items) (rw c.deref_mut.ensures.value at e.others))
    refl refl (ap (λ n. n.count) c.note.ensures)
    (ap in_names items ∙ rw c.deref_mut.ensures.value at e.names)
    (c.in-Err.trouble, rw c.deref_mut.ensures.value at e.about, ap (λ n. n.first) c.note.ensures)
