use Rattle.std.proofs.Common.{◌≡◌, ◌∙◌, sym, ap, position, Some}
use Rattle.sof_desk.specs.HeldFiles.{HeldFile, named}
use Rattle.sof_desk.proofs.First.{is_first, find-at, find-none}
use Rattle.sof_desk.proofs.file.file_of.Goals as goal

pub returns-in-Some : goal.returns-in-Some
returns-in-Some c =
    let item = c.index-files-place in
    let found : position (named c.args.name.now) c.args.files.now ≡ Some c.in-Some.place = cc in
    let at = find-at {X = HeldFile} (named c.args.name.now) c.args.files.now c.in-Some.place item.result (is_first _ _ _ item.result found) in
    at ∙ ap (λ f. Some f) (sym item.is)

pub returns-in-None : goal.returns-in-None
returns-in-None c =
    find-none {X = HeldFile} (named c.args.name.now) c.args.files.now (sym c.place_of.ensures ∙ c.in-None.is)
