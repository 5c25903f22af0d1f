use Rattle.std.proofs.Common.{◌∙◌, sym, take, Some, ap, subst, option_map, refl, IfErr}
use Rattle.sof_desk.proofs.First.{is_first, find-at}
use Rattle.sof_files.proofs.OpenSlots.{under, map-set-alike, named-at, find-none}
use Rattle.sof_files.specs.declared.trouble.Subject.TheVariants.{SomeFile}
use Rattle.sof_files.specs.Troubles.{about_named}
use Rattle.sof_desk.proofs.CountLaws.{same_number}
use Rattle.sof_files.proofs.InFileLaws.{left_beside, all_leave-set}
use Rattle.sof_files.proofs.in_file.read_in.Goals as goal

pub returns-in-Some-clause-slots : goal.returns-in-Some-clause-slots
returns-in-Some-clause-slots g c =
    map-set-alike (λ f. f.slot) c.args.files.now c.in-Some.place c.index-files-place.result c.read.new.self c.read.ensures.slot

pub returns-in-Some-clause-left : goal.returns-in-Some-clause-left
returns-in-Some-clause-left g c =
    let found = sym c.place_of.ensures ∙ c.in-Some.is in
    all_leave-set c.read.result (λ count. Some (take count c.read.new.out)) c.args.slot c.args.files.now c.in-Some.place c.index-files-place.result c.read.new.self found c.read.ensures.slot c.read.ensures.left

pub returns-in-Some-clause-others : goal.returns-in-Some-clause-others
returns-in-Some-clause-others g c =
    let files = c.args.files.now in
    let found = sym c.place_of.ensures ∙ c.in-Some.is in
    let first = is_first (under (λ f. f.slot) c.args.slot) files c.in-Some.place c.index-files-place.result found in
    left_beside c.args.slot files c.in-Some.place c.read.new.self found (c.read.ensures.slot ∙ same_number _ _ first.passes)

pub returns-in-Some-clause-names : goal.returns-in-Some-clause-names
returns-in-Some-clause-names g c =
    map-set-alike (λ f. (f.slot, f.name)) c.args.files.now c.in-Some.place c.index-files-place.result c.read.new.self (λ i. (c.read.ensures.slot i, c.read.ensures.name i))

pub returns-in-Some-clause-about : goal.returns-in-Some-clause-about
returns-in-Some-clause-about g c =
    let files = c.args.files.now in
    let found = sym c.place_of.ensures ∙ c.in-Some.is in
    let first = is_first (under (λ f. f.slot) c.args.slot) files c.in-Some.place c.index-files-place.result found in
    let named = named-at (λ f. f.slot) (λ f. f.name) c.args.slot files ∙ ap (option_map (λ f. (f.slot, f.name))) (find-at (under (λ f. f.slot) c.args.slot) files c.in-Some.place c.index-files-place.result first) in
    subst (λ n. IfErr c.read.result (λ trouble. about_named n trouble.subject)) (sym named) c.read.ensures.about

pub returns-in-None-clause-about : goal.returns-in-None-clause-about
returns-in-None-clause-about g c =
    let nowhere = sym c.place_of.ensures ∙ c.in-None.is in
    let named = named-at (λ f. f.slot) (λ f. f.name) c.args.slot c.args.files.now ∙ ap (option_map (λ f. (f.slot, f.name))) (find-none (under (λ f. f.slot) c.args.slot) c.args.files.now nowhere) in
    subst (λ n. about_named n SomeFile) (sym named) refl
