use Rattle.std.proofs.Common.{◌≡◌, ◌∙◌, sym, ap, refl, position, Some, None, arith, option_map}
use Rattle.std.proofs.lemmas.List.{take_rest}
use Rattle.sof_desk.specs.declared.mem.MemDesk.TheInside.{Inside}
use Rattle.sof_desk.specs.declared.open_slot.OpenSlot.{OpenSlot}
use Rattle.sof_desk.specs.OpenSlots.{is_under, rest_after}
use Rattle.sof_desk.specs.Shelf.{Shelf}
use Rattle.sof_desk.proofs.First.{find-none}
use Rattle.sof_desk.proofs.StillUnread.{copied_front, with_read-at}
use Rattle.sof_desk.proofs.mem.MemDesk.read_next.Goals as goal

-- what a desk in memory means, by its fields
abbrev view : Inside → Shelf
view i = record { files = i.files.items; opens = i.opens.items; most = i.most; said = i.said; plans = i.plans.items; calls = i.calls; faults = i.faults }

pub returns-in_err-at : goal.returns-in_err-at
returns-in_err-at c =
    let s : Shelf = view c.self.inside in
    let none : position (is_under c.args.slot) s.opens ≡ None = rw c.deref.ensures.value at (sym c.place_of.ensures ∙ c.in_err-at.was) in
    rw (c.from_residual.ensures, ← c.self.view_is) (ap (option_map (rest_after s.files)) (find-none {X = OpenSlot} (is_under c.args.slot) s.opens none), refl)

pub returns : goal.returns
returns c =
    let s : Shelf = view c.self.inside in
    let found : position (is_under c.args.slot) s.opens ≡ Some c.in_ok-at.at = rw c.deref.ensures.value at (sym c.place_of.ensures ∙ c.in_ok-at.was) in
    let o = c.index-open.result.now in
    let bytes = c.read_of-bytes.result.now in
    let bytes_is = rw c.deref-2.ensures.value at c.read_of-bytes.ensures in
    rw (← c.self.view_is) (record {
      bound = omega (arith, c.copy_front-count.ensures.count, c.copy_front-count.auto.out);
      gets = copied_front c.args.slot c.in_ok-at.at s.opens s.files o bytes c.args.out.now c.copy_front-count.new.out c.min.result s.most c.copy_front-count.result found c.index-open.ensures bytes_is c.min.ensures (rw take_rest at c.copy_front-count.ensures.count) (rw take_rest at c.copy_front-count.ensures.copied);
      after = ap (λ opens. record s { opens = opens }) (with_read-at c.args.slot c.in_ok-at.at c.copy_front-count.result s.opens c.index_mut.result.now found c.index_mut.ensures.value);
    })
