use Rattle.std.proofs.Common.{◌∙◌, sym, ap, subst, nat_eq, is_ok, option_map, refl}
use Rattle.sof_files.specs.OutFiles.{given_at}
use Rattle.sof_files.specs.Transfers.{Writes}
use Rattle.sof_desk.proofs.First.{is_first, find-at}
use Rattle.sof_files.proofs.OpenSlots.{under, map-set-alike, named-at, find-none}
use Rattle.sof_files.specs.declared.trouble.Subject.TheVariants.{SomeFile}
use Rattle.sof_files.specs.Troubles.{about_named, Notes}
use Rattle.sof_desk.proofs.CountLaws.{same_number}
use Rattle.sof_files.proofs.OutFileLaws.{given-set, given-at, beside}
use Rattle.sof_files.proofs.out_file.append_in.Goals as goal

pub returns-in-Some-clause-slots : goal.returns-in-Some-clause-slots
returns-in-Some-clause-slots g c =
    map-set-alike (λ f. f.slot) c.args.files.now c.in-Some.place c.index-files-place.result c.append.new.self c.append.ensures.slot

pub returns-in-Some-clause-given : goal.returns-in-Some-clause-given
returns-in-Some-clause-given g c =
    let files = c.args.files.now in
    let found = sym c.place_of.ensures ∙ c.in-Some.is in
    let first = is_first (under (λ f. f.slot) c.args.slot) files c.in-Some.place c.index-files-place.result found in
    let passes = ap (λ n. nat_eq n c.args.slot) c.append.ensures.slot ∙ first.passes in
    subst (λ new. Writes c.args.piece.now (is_ok c.append.result) (given_at c.args.slot files) new)
    (sym (given-set c.args.slot files c.in-Some.place c.index-files-place.result c.append.new.self first passes))
    (subst (λ old. Writes c.args.piece.now (is_ok c.append.result) old c.append.new.self.given)
    (sym (given-at c.args.slot files c.in-Some.place c.index-files-place.result first))
    c.append.ensures.given)

pub returns-in-Some-clause-others : goal.returns-in-Some-clause-others
returns-in-Some-clause-others g c =
    let files = c.args.files.now in
    let found = sym c.place_of.ensures ∙ c.in-Some.is in
    let first = is_first (under (λ f. f.slot) c.args.slot) files c.in-Some.place c.index-files-place.result found in
    beside c.args.slot files c.in-Some.place c.append.new.self found (c.append.ensures.slot ∙ same_number _ _ first.passes)

pub returns-in-Some-clause-names : goal.returns-in-Some-clause-names
returns-in-Some-clause-names g c =
    map-set-alike (λ f. (f.slot, f.name)) c.args.files.now c.in-Some.place c.index-files-place.result c.append.new.self (λ i. (c.append.ensures.slot i, c.append.ensures.name i))

pub returns-in-Some-clause-notes : goal.returns-in-Some-clause-notes
returns-in-Some-clause-notes g c =
    let files = c.args.files.now in
    let found = sym c.place_of.ensures ∙ c.in-Some.is in
    let first = is_first (under (λ f. f.slot) c.args.slot) files c.in-Some.place c.index-files-place.result found in
    let named = named-at (λ f. f.slot) (λ f. f.name) c.args.slot files ∙ ap (option_map (λ f. (f.slot, f.name))) (find-at (under (λ f. f.slot) c.args.slot) files c.in-Some.place c.index-files-place.result first) in
    subst (λ n. Notes (about_named n) (is_ok c.append.result) c.args.troubles.now c.append.new.troubles) (sym named) c.append.ensures.notes

pub returns-in-None-clause-notes : goal.returns-in-None-clause-notes
returns-in-None-clause-notes g c =
    let nowhere = sym c.place_of.ensures ∙ c.in-None.is in
    let named = named-at (λ f. f.slot) (λ f. f.name) c.args.slot c.args.files.now ∙ ap (option_map (λ f. (f.slot, f.name))) (find-none (under (λ f. f.slot) c.args.slot) c.args.files.now nowhere) in
    (_, subst (λ n. about_named n SomeFile) (sym named) refl, c.note.ensures)
