use Rattle.std.proofs.Common.{◌≡◌, ◌∙◌, sym, ap, arith, false, nat_lt, length, position, Some, None}
use Rattle.sof_desk.specs.declared.calls.TheConstants.{SLOTS}
use Rattle.sof_desk.specs.declared.open_slot.OpenSlot.{OpenSlot}
use Rattle.sof_desk.specs.OpenSlots.{is_under}
use Rattle.sof_desk.proofs.First.{is_first, put_first-at, put_first-none}
use Rattle.sof_desk.proofs.StillUnread.{can_open-at, can_open-new}
use Rattle.sof_desk.proofs.open_slot.open_in.Goals as goal

pub returns-then-len-ge-SLOTS-clause-done : goal.returns-then-len-ge-SLOTS-clause-done
returns-then-len-ge-SLOTS-clause-done c =
    let opens = c.args.opens.now.items in
    let none : position (is_under c.args.slot) opens ≡ None = cc in
    let full : nat_lt (length opens) SLOTS ≡ false = grind (arith, c.if-len-ge-SLOTS.true, c.len.ensures, c.deref.ensures.len, ap length c.deref.ensures.value) in
    sym (can_open-new c.args.slot opens none ∙ full)

pub returns-in-Some-clause-done : goal.returns-in-Some-clause-done
returns-in-Some-clause-done c =
    let opens = c.args.opens.now.items in
    let found : position (is_under c.args.slot) opens ≡ Some c.in-Some.at = cc in
    sym (can_open-at c.args.slot opens c.in-Some.at c.index_mut.result.now found)

pub returns-in-Some-clause-after : goal.returns-in-Some-clause-after
returns-in-Some-clause-after c =
    let opens = c.args.opens.now.items in
    let found : position (is_under c.args.slot) opens ≡ Some c.in-Some.at = cc in
    let new : OpenSlot = record { slot = c.args.slot; place = c.args.place; position = 0 } in
    sym (put_first-at {X = OpenSlot} (is_under c.args.slot) new opens c.in-Some.at new (is_first _ _ _ new found))

pub returns-else-len-ge-SLOTS-clause-after : goal.returns-else-len-ge-SLOTS-clause-after
returns-else-len-ge-SLOTS-clause-after c =
    let opens = c.args.opens.now.items in
    let none : position (is_under c.args.slot) opens ≡ None = cc in
    let new : OpenSlot = record { slot = c.args.slot; place = c.args.place; position = 0 } in
    let items = rw c.unwrap.ensures at c.push.ensures.items in
    items ∙ sym (put_first-none {X = OpenSlot} (is_under c.args.slot) new opens none)
