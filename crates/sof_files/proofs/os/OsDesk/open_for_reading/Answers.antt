use Rattle.std.proofs.Common.{◌∙◌, ap, true}
use Rattle.sof_desk.specs.Desk.{Open}
use Rattle.sof_files.specs.InFiles.{opens_of, in_names, left_in_file}
use Rattle.sof_files.specs.RealDesk.{RealDesk, slots_with, in_names_after}
use Rattle.sof_files.proofs.OpenSlots.{slots-set, slots-push, names-set, names-push}
use Rattle.sof_files.proofs.InFileLaws.{left_beside, left_beside_new}
use Rattle.sof_files.proofs.os.OsDesk.open_for_reading.Goals as goal

pub returns-in-Some-clause-slots : goal.returns-in-Some-clause-slots
returns-in-Some-clause-slots g c =
    slots-set (λ f. f.slot) c.args.slot c.self.inside.inputs.items c.in-Some.place c.in_ok-opened.opened (cc) c.in_ok-opened.ensures.slot
    ∙ ap (λ (d : RealDesk). slots_with c.args.slot (opens_of d.inputs)) c.self.view_is

pub returns-in-Some-clause-keeps : goal.returns-in-Some-clause-keeps
returns-in-Some-clause-keeps g c other apart =
    left_beside c.args.slot c.self.inside.inputs.items c.in-Some.place c.in_ok-opened.opened (cc) c.in_ok-opened.ensures.slot other apart
    ∙ ap (λ (d : RealDesk). left_in_file other d.inputs) c.self.view_is

pub returns-in-None-clause-slots : goal.returns-in-None-clause-slots
returns-in-None-clause-slots g c =
    let items = rw c.unwrap.ensures at c.push.ensures.items in
    ap opens_of items
    ∙ (slots-push (λ f. f.slot) c.args.slot c.self.inside.inputs.items c.in_ok-opened.opened (cc) c.in_ok-opened.ensures.slot
    ∙ ap (λ (d : RealDesk). slots_with c.args.slot (opens_of d.inputs)) c.self.view_is)

pub returns-in-None-clause-keeps : goal.returns-in-None-clause-keeps
returns-in-None-clause-keeps g c other apart =
    let items = rw c.unwrap.ensures at c.push.ensures.items in
    ap (left_in_file other) items
    ∙ (left_beside_new c.args.slot c.self.inside.inputs.items c.in_ok-opened.opened c.in_ok-opened.ensures.slot other apart
    ∙ ap (λ (d : RealDesk). left_in_file other d.inputs) c.self.view_is)

pub returns-in-Some-clause-names : goal.returns-in-Some-clause-names
returns-in-Some-clause-names g c =
    names-set (λ f. f.slot) (λ f. f.name) c.args.slot c.args.name.now c.self.inside.inputs.items c.in-Some.place c.in_ok-opened.opened (cc) c.in_ok-opened.ensures.slot c.in_ok-opened.ensures.name
    ∙ ap (λ (d : RealDesk). in_names_after (Open c.args.slot c.args.name.now) true (in_names d.inputs)) c.self.view_is

pub returns-in-None-clause-names : goal.returns-in-None-clause-names
returns-in-None-clause-names g c =
    let items = rw c.unwrap.ensures at c.push.ensures.items in
    ap in_names items
    ∙ (names-push (λ f. f.slot) (λ f. f.name) c.args.slot c.args.name.now c.self.inside.inputs.items c.in_ok-opened.opened (cc) c.in_ok-opened.ensures.slot c.in_ok-opened.ensures.name
    ∙ ap (λ (d : RealDesk). in_names_after (Open c.args.slot c.args.name.now) true (in_names d.inputs)) c.self.view_is)
