use Rattle.std.proofs.Common.{◌≡◌, ◌<◌, true, [], length, take, sym, ◌∙◌, subst, arith}
use Rattle.sof_io.specs.Bound.{has_slot}
use Rattle.sof_io.specs.Takes.{input_slots}
use Rattle.run_play.proofs.Wanted.{wanted_of, lacking-read}
use Rattle.run_play.proofs.Refills.{some_taken, opened_at, opened_same, slots-after_read, filled-read, same_then, same_read, reads_more, refilled_none, refilled_off}
use Rattle.run_play.proofs.windows.refill.Goals as goal

pub read-requires-clause-opened : goal.read-requires-clause-opened
read-requires-clause-opened g c =
    let means = g.D.Desk.means in
    let before = c.loop-slot.invariant in
    let w = wanted_of c.in-Some.slot c.args.inputs.now c.loop-slot.inputs c.len-count.ensures.distinct before.slots c.in-Some.ensures in
    opened_at means (input_slots c.args.inputs.now) c.in-Some.slot c.loop-slot.desk
    (opened_same means (input_slots c.args.inputs.now) c.args.desk.now c.loop-slot.desk before.same.opened c.requires)
    (subst (λ slots. has_slot c.in-Some.slot slots ≡ true) before.slots w.there)

pub end-requires : goal.end-requires
end-requires g c = (wanted_of c.in-Some.slot c.args.inputs.now c.loop-slot.inputs c.len-count.ensures.distinct c.loop-slot.invariant.slots c.in-Some.ensures).there

pub fill-requires-clause-there : goal.fill-requires-clause-there
fill-requires-clause-there g c = (wanted_of c.in-Some.slot c.args.inputs.now c.loop-slot.inputs c.len-count.ensures.distinct c.loop-slot.invariant.slots c.in-Some.ensures).there

pub fill-requires-clause-open : goal.fill-requires-clause-open
fill-requires-clause-open g c = (wanted_of c.in-Some.slot c.args.inputs.now c.loop-slot.inputs c.len-count.ensures.distinct c.loop-slot.invariant.slots c.in-Some.ensures).more

pub fill-requires-clause-fits : goal.fill-requires-clause-fits
fill-requires-clause-fits g c =
    let w = wanted_of c.in-Some.slot c.args.inputs.now c.loop-slot.inputs c.len-count.ensures.distinct c.loop-slot.invariant.slots c.in-Some.ensures in
    omega (arith, w.below, c.in-Ok.ensures.1.answers.0, c.loop-slot.invariant.room)

pub loop-slot-preserved-in-Ok-eq0 : goal.loop-slot-preserved-in-Ok-eq0
loop-slot-preserved-in-Ok-eq0 g c =
    let means = g.D.Desk.means in
    let before = c.loop-slot.invariant in
    let was = rw (c.in-Ok-eq0.field-0-test, before.room) at c.in-Ok-eq0.ensures.1 in
    rw c.end.ensures record {
      so_far = reads_more means c.in-Some.slot [] c.args.inputs.now c.loop-slot.inputs _ _ _ (sym c.in-Some.ensures) was before.so_far;
      slots = slots-after_read c.in-Some.slot [] c.loop-slot.inputs ∙ before.slots;
      same = same_then means _ _ _ before.same (same_read means _ _ _ _ _ was);
      room = c.read.auto.out ∙ before.room;
    }

pub loop-slot-preserved : goal.loop-slot-preserved
loop-slot-preserved g c =
    let means = g.D.Desk.means in
    let before = c.loop-slot.invariant in
    let bytes = take c.in-Ok.count c.read.new.out in
    let was = rw before.room at c.in-Ok.ensures.1 in
    let some : 0 < length bytes = some_taken c.in-Ok.count c.read.new.out c.in-Ok.ensures.0 c.in-Ok.count-test.1 in
    rw (c.fill.ensures ∙ sym (filled-read c.in-Some.slot bytes c.loop-slot.inputs some)) record {
      so_far = reads_more means c.in-Some.slot bytes c.args.inputs.now c.loop-slot.inputs _ _ _ (sym c.in-Some.ensures) was before.so_far;
      slots = slots-after_read c.in-Some.slot bytes c.loop-slot.inputs ∙ before.slots;
      same = same_then means _ _ _ before.same (same_read means _ _ _ _ _ was);
      room = c.read.auto.out ∙ before.room;
    }

pub loop-slot-smaller-in-Ok-eq0 : goal.loop-slot-smaller-in-Ok-eq0
loop-slot-smaller-in-Ok-eq0 g c =
    let w = wanted_of c.in-Some.slot c.args.inputs.now c.loop-slot.inputs c.len-count.ensures.distinct c.loop-slot.invariant.slots c.in-Some.ensures in
    rw c.end.ensures (lacking-read c.in-Some.slot [] c.loop-slot.inputs w)

pub loop-slot-smaller : goal.loop-slot-smaller
loop-slot-smaller g c =
    let w = wanted_of c.in-Some.slot c.args.inputs.now c.loop-slot.inputs c.len-count.ensures.distinct c.loop-slot.invariant.slots c.in-Some.ensures in
    let bytes = take c.in-Ok.count c.read.new.out in
    let some : 0 < length bytes = some_taken c.in-Ok.count c.read.new.out c.in-Ok.ensures.0 c.in-Ok.count-test.1 in
    rw (c.fill.ensures ∙ sym (filled-read c.in-Some.slot bytes c.loop-slot.inputs some)) (lacking-read c.in-Some.slot bytes c.loop-slot.inputs w)

pub returns-in-Err-clause-filled : goal.returns-in-Err-clause-filled
returns-in-Err-clause-filled g c =
    let means = g.D.Desk.means in
    c.loop-slot.invariant.so_far _ _ _ (refilled_off means c.in-Some.slot c.loop-slot.inputs _ _ (sym c.in-Some.ensures) (rw c.loop-slot.invariant.room at c.in-Err.ensures))

pub returns-in-Err-clause-same : goal.returns-in-Err-clause-same
returns-in-Err-clause-same g c =
    let means = g.D.Desk.means in
    same_then means _ _ _ c.loop-slot.invariant.same (same_read means _ _ _ _ _ c.in-Err.ensures)

pub returns-clause-filled : goal.returns-clause-filled
returns-clause-filled g c =
    let means = g.D.Desk.means in
    c.loop-slot.invariant.so_far _ _ _ (refilled_none means c.loop-slot.inputs _ (sym c.in_default.ensures))
