use Rattle.std.proofs.Common.{◌≡◌, ◌∙◌, sym, ap, position, is_some, Some, None}
use Rattle.sof_desk.specs.HeldFiles.{HeldFile, named, loaded_of}
use Rattle.sof_desk.proofs.First.{is_first, find-at, find-none}
use Rattle.sof_desk.proofs.file.input_of.Goals as goal

pub returns-in_err-place-clause-some : goal.returns-in_err-place-clause-some
returns-in_err-place-clause-some c =
    let none : position (named c.args.name.now) c.args.files.now ≡ None = sym c.place_of.ensures ∙ c.in_err-place.was in
    ap is_some c.from_residual.ensures
    ∙ ap (λ file. is_some (loaded_of file)) (sym (find-none {X = HeldFile} (named c.args.name.now) c.args.files.now none))

pub returns-in_err-loaded-clause-some : goal.returns-in_err-loaded-clause-some
returns-in_err-loaded-clause-some c =
    let item = c.index-files-place.result in
    let found : position (named c.args.name.now) c.args.files.now ≡ Some c.in_ok-place.place = sym c.place_of.ensures ∙ c.in_ok-place.was in
    let at = find-at {X = HeldFile} (named c.args.name.now) c.args.files.now c.in_ok-place.place item (is_first _ _ _ item found) in
    let is = at ∙ ap (λ (f : HeldFile). Some f) (sym c.index-files-place.is) in
    ap is_some c.from_residual-in_err-loaded.ensures ∙ sym (ap (λ file. is_some (loaded_of file)) is ∙ ap is_some c.in_err-loaded.ensures)

pub returns-clause-some : goal.returns-clause-some
returns-clause-some c =
    let item = c.index-files-place.result in
    let found : position (named c.args.name.now) c.args.files.now ≡ Some c.in_ok-place.place = sym c.place_of.ensures ∙ c.in_ok-place.was in
    let at = find-at {X = HeldFile} (named c.args.name.now) c.args.files.now c.in_ok-place.place item (is_first _ _ _ item found) in
    let is = at ∙ ap (λ (f : HeldFile). Some f) (sym c.index-files-place.is) in
    sym (ap (λ file. is_some (loaded_of file)) is ∙ ap is_some c.in_ok-loaded.ensures)
