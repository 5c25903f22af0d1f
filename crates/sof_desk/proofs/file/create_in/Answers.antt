use Rattle.std.proofs.Common.{◌≡◌, ◌∙◌, sym, ap, refl, position, map, set, get_or, List, Some}
use Rattle.sof_desk.specs.HeldFiles.{HeldFile, named, can_create, without_slot, file_with_slot}
use Rattle.sof_desk.proofs.First.{is_first, find-at, find-none, changed_first-at, position-map}
use Rattle.sof_desk.proofs.file.create_in.Goals as goal

pub returns-in_default-clause-done : goal.returns-in_default-clause-done
returns-in_default-clause-done c =
    let none = find-none {X = HeldFile} (named c.args.name.now) c.args.files.now (sym c.place_of.ensures ∙ c.in_default.is) in
    rw none refl

pub returns-then-not-is_output-clause-done : goal.returns-then-not-is_output-clause-done
returns-then-not-is_output-clause-done c =
    let item = c.index-files-place.result in
    let found : position (named c.args.name.now) c.args.files.now ≡ Some c.in-Some.place = cc in
    let at = find-at {X = HeldFile} (named c.args.name.now) c.args.files.now c.in-Some.place item (is_first _ _ _ item found) in
    sym c.if-not-is_output.true ∙ c.is_output.ensures ∙ ap can_create (sym at)

pub returns-clause-done : goal.returns-clause-done
returns-clause-done c =
    let item = c.index-files-place.result in
    let found : position (named c.args.name.now) c.args.files.now ≡ Some c.in-Some.place = cc in
    let at = find-at {X = HeldFile} (named c.args.name.now) c.args.files.now c.in-Some.place item (is_first _ _ _ item found) in
    sym c.if-not-is_output.false ∙ c.is_output.ensures ∙ ap can_create (sym at)

pub returns-clause-after : goal.returns-clause-after
returns-clause-after c =
    let item = c.index-files-place-2.result in
    let files = map (without_slot c.args.slot) c.args.files.now in
    let place = c.in-Some.place in
    let found : position (named c.args.name.now) files ≡ Some place =
    position-map (named c.args.name.now) (without_slot c.args.slot) (λ file. refl) c.args.files.now ∙ (sym c.place_of.ensures ∙ c.in-Some.is)
    in
    let at = changed_first-at {X = HeldFile} (named c.args.name.now) (file_with_slot c.args.slot) files place item (is_first _ _ _ item found) in
    let made = λ (fs : List HeldFile). set fs place (file_with_slot c.args.slot (get_or fs place item)) in
    ap (λ (f : HeldFile). set c.leave_all.new.files place f) c.tie.ensures ∙ ap made c.leave_all.ensures ∙ sym at
