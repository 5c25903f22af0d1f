use Rattle.std.proofs.Common.{◌≡◌, ◌<◌, ℕ, List, length, get_or, take, subst, arith, refl, sym, ap, ◌∙◌}
use Rattle.std.proofs.lemmas.List.{length-map, take_all}
use Rattle.std.proofs.lemmas.List.FromFn.{length-range_with_len, get_or-range_with_len}
use Rattle.sof_base.specs.declared.part.Part.{Part as Carried}
use Rattle.ipc3_model.specs.declared.message.Message.TheVariants.{SetData}
use Rattle.ipc3_model.specs.Messages.{message_spelling}
use Rattle.mbox_link.specs.BlobParts.{blob_part, part_numbers, parts}
use Rattle.mbox_link.specs.Calls.{world}
use Rattle.host_widgets.specs.ActLists.{part_acts}
use Rattle.host_widgets.specs.Bringing.{Sent}
use Rattle.host_widgets.specs.ActCarried.{ActsSent}
use Rattle.host_widgets.specs.HostActs.{Act, Part}
use Rattle.host_widgets.specs.WalkRows.{one_plan}
use Rattle.host_widgets.proofs.Walks.{passing, sent-on, sent-room, sent-more, sent-ends, handed_on}
use Rattle.host_widgets.proofs.parts.send_parts.Goals as goal

-- the part at a place of the list of numbers is that of its number
part_is : (blob : List ℕ) (i : ℕ) (p : Carried) → i < parts blob → p ≡ blob_part blob i → p ≡ blob_part blob (get_or (part_numbers blob) i 0)
part_is blob i p low is = is ∙ ap (blob_part blob) (sym (get_or-range_with_len 0 (parts blob) i 0 low ∙ omega arith))

pub send-requires-clause-on : goal.send-requires-clause-on
send-requires-clause-on g c = sent-on g.P.Dsp.means one_plan _ _ _ passing (c.loop-index.invariant one_plan) c.requires.on

pub send-requires-clause-room : goal.send-requires-clause-room
send-requires-clause-room g c = sent-room g.P.Dsp.means one_plan _ _ _ passing (c.loop-index.invariant one_plan) c.requires.room

pub returns-in_err-send : goal.returns-in_err-send
returns-in_err-send g c = λ plan.
    let blob = c.args.blob.now in
    let m = world c.loop-index.dsp c.loop-index.io c.loop-index.out in
    let v = world c.send.new.dsp c.send.new.io c.send.new.out in
    let i = c.loop-index.index in
    let low : i < parts blob = omega (arith, c.loop-index-test.true, c.part_count-index-end.ensures) in
    let inside : i < length (part_numbers blob) = omega (arith, low, length-range_with_len 0 (parts blob)) in
    let sent = subst (λ (p : Carried). Sent g.P.Dsp.means (message_spelling (SetData c.args.comp p)) m v c.send.result) (part_is blob i c.part.result low c.part.ensures) c.send.ensures in
    sent-ends g.P.Dsp.means plan (Part c.args.comp blob) (part_numbers blob) (part_numbers blob) refl i 0 inside
    (world c.args.dsp.now c.args.io.now c.args.out.now) m v
    c.send.result (c.loop-index.invariant plan) sent c.in_err-send.field-0.0 c.from_residual.result c.in_err-send.was
    (handed_on c.from_residual.result c.in_err-send.field-0.0 c.from_residual.ensures)

pub loop-index-preserved : goal.loop-index-preserved
loop-index-preserved g c = λ plan.
    let blob = c.args.blob.now in
    let m = world c.loop-index.dsp c.loop-index.io c.loop-index.out in
    let v = world c.send.new.dsp c.send.new.io c.send.new.out in
    let i = c.loop-index.index in
    let low : i < parts blob = omega (arith, c.loop-index-test.true, c.part_count-index-end.ensures) in
    let inside : i < length (part_numbers blob) = omega (arith, low, length-range_with_len 0 (parts blob)) in
    let sent = subst (λ (p : Carried). Sent g.P.Dsp.means (message_spelling (SetData c.args.comp p)) m v c.send.result) (part_is blob i c.part.result low c.part.ensures) c.send.ensures in
    sent-more g.P.Dsp.means plan (Part c.args.comp blob) (part_numbers blob) (part_numbers blob) refl i 0 inside
    (world c.args.dsp.now c.args.io.now c.args.out.now) m v
    c.send.result (c.loop-index.invariant plan) sent c.in_ok-send.field-0 c.in_ok-send.was

pub returns : goal.returns
returns g c = λ plan.
    let blob = c.args.blob.now in
    let all : take c.loop-index.index (part_acts c.args.comp blob) ≡ part_acts c.args.comp blob =
    take_all c.loop-index.index (part_acts c.args.comp blob) (omega (arith, c.loop-index-test.false, c.part_count-index-end.ensures, length-map (part_numbers blob) (Part c.args.comp blob), length-range_with_len 0 (parts blob))) in
    subst (λ (acts : List Act). ActsSent g.P.Dsp.means plan acts (world c.args.dsp.now c.args.io.now c.args.out.now) (world c.loop-index.dsp c.loop-index.io c.loop-index.out) passing) all (c.loop-index.invariant plan)
