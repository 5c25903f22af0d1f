use Rattle.std.proofs.Common.{◌≡◌, ◌∙◌, sym, ap, refl, position, set, Some}
use Rattle.sof_desk.specs.HeldFiles.{HeldFile, tied, file_takes_whole, file_with_piece}
use Rattle.sof_desk.proofs.First.{is_first, find-at, find-none, changed_first-at, changed_first-none}
use Rattle.sof_desk.proofs.file.append_in.Goals as goal

pub returns-in-Some-clause-whole : goal.returns-in-Some-clause-whole
returns-in-Some-clause-whole c =
    let item = c.index-files-place.result in
    let found : position (tied c.args.slot) c.args.files.now ≡ Some c.in-Some.place = cc in
    let at = find-at {X = HeldFile} (tied c.args.slot) c.args.files.now c.in-Some.place item (is_first _ _ _ item found) in
    c.take.ensures.whole ∙ ap (file_takes_whole c.args.planned c.args.piece.now) (sym at)

pub returns-in-Some-clause-after : goal.returns-in-Some-clause-after
returns-in-Some-clause-after c =
    let item = c.index-files-place.result in
    let found : position (tied c.args.slot) c.args.files.now ≡ Some c.in-Some.place = cc in
    let change = file_with_piece c.args.planned c.args.piece.now in
    let at = changed_first-at {X = HeldFile} (tied c.args.slot) change c.args.files.now c.in-Some.place item (is_first _ _ _ item found) in
    ap (λ (f : HeldFile). set c.args.files.now c.in-Some.place f) c.take.ensures.after ∙ sym at

pub returns-in-None-clause-whole : goal.returns-in-None-clause-whole
returns-in-None-clause-whole c =
    let none = find-none {X = HeldFile} (tied c.args.slot) c.args.files.now (sym c.place_of_slot.ensures ∙ c.in-None.is) in
    rw none refl

pub returns-in-None-clause-after : goal.returns-in-None-clause-after
returns-in-None-clause-after c =
    sym (changed_first-none {X = HeldFile} (tied c.args.slot) (file_with_piece c.args.planned c.args.piece.now) c.args.files.now (sym c.place_of_slot.ensures ∙ c.in-None.is))
