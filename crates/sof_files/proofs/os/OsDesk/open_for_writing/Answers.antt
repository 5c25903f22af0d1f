use Rattle.std.proofs.Common.{◌∙◌, ap, true}
use Rattle.sof_desk.specs.Desk.{Create}
use Rattle.sof_files.specs.OutFiles.{slots_of, out_names, given_at}
use Rattle.sof_files.specs.RealDesk.{RealDesk, slots_with, out_names_after}
use Rattle.sof_files.proofs.OpenSlots.{slots-set, slots-push, names-set, names-push}
use Rattle.sof_files.proofs.OutFileLaws.{beside, beside_new}
use Rattle.sof_files.proofs.os.OsDesk.open_for_writing.Goals as goal

pub returns-in-Some-clause-slots : goal.returns-in-Some-clause-slots
returns-in-Some-clause-slots g c =
    slots-set (λ f. f.slot) c.args.slot c.self.inside.files.items c.in-Some.place c.in_ok-opened.opened (cc) c.in_ok-opened.ensures.slot
    ∙ ap (λ (d : RealDesk). slots_with c.args.slot (slots_of d.files)) c.self.view_is

pub returns-in-Some-clause-others : goal.returns-in-Some-clause-others
returns-in-Some-clause-others g c other apart =
    beside c.args.slot c.self.inside.files.items c.in-Some.place c.in_ok-opened.opened (cc) c.in_ok-opened.ensures.slot other apart
    ∙ ap (λ (d : RealDesk). given_at other d.files) c.self.view_is

pub returns-in-None-clause-slots : goal.returns-in-None-clause-slots
returns-in-None-clause-slots g c =
    let items = rw c.unwrap.ensures at c.push.ensures.items in
    ap slots_of items
    ∙ (slots-push (λ f. f.slot) c.args.slot c.self.inside.files.items c.in_ok-opened.opened (cc) c.in_ok-opened.ensures.slot
    ∙ ap (λ (d : RealDesk). slots_with c.args.slot (slots_of d.files)) c.self.view_is)

pub returns-in-None-clause-others : goal.returns-in-None-clause-others
returns-in-None-clause-others g c other apart =
    let items = rw c.unwrap.ensures at c.push.ensures.items in
    ap (given_at other) items
    ∙ (beside_new c.args.slot c.self.inside.files.items c.in_ok-opened.opened c.in_ok-opened.ensures.slot other apart
    ∙ ap (λ (d : RealDesk). given_at other d.files) c.self.view_is)

pub returns-in-Some-clause-names : goal.returns-in-Some-clause-names
returns-in-Some-clause-names g c =
    names-set (λ f. f.slot) (λ f. f.name) c.args.slot c.args.name.now c.self.inside.files.items c.in-Some.place c.in_ok-opened.opened (cc) c.in_ok-opened.ensures.slot c.in_ok-opened.ensures.name
    ∙ ap (λ (d : RealDesk). out_names_after (Create c.args.slot c.args.name.now) true (out_names d.files)) c.self.view_is

pub returns-in-None-clause-names : goal.returns-in-None-clause-names
returns-in-None-clause-names g c =
    let items = rw c.unwrap.ensures at c.push.ensures.items in
    ap out_names items
    ∙ (names-push (λ f. f.slot) (λ f. f.name) c.args.slot c.args.name.now c.self.inside.files.items c.in_ok-opened.opened (cc) c.in_ok-opened.ensures.slot c.in_ok-opened.ensures.name
    ∙ ap (λ (d : RealDesk). out_names_after (Create c.args.slot c.args.name.now) true (out_names d.files)) c.self.view_is)
