use Rattle.std.proofs.Common.{◌≡◌, sym, ◌∙◌, position, Some, None}
use Rattle.sof_desk.specs.HeldFiles.{HeldFile, named}
use Rattle.sof_desk.proofs.First.{is_first, put_first-at, put_first-none}
use Rattle.sof_desk.proofs.file.put_in.Goals as goal

pub returns-in-Some-clause-ok : goal.returns-in-Some-clause-ok
returns-in-Some-clause-ok c =
    let found : position (named c.args.name.now) c.args.files.now.items ≡ Some c.in-Some.place = cc in
    sym (put_first-at {X = HeldFile} (named c.args.name.now) c.args.file c.args.files.now.items c.in-Some.place c.args.file (is_first _ _ _ c.args.file found))

pub returns-in_ok-push-in-None-clause-ok : goal.returns-in_ok-push-in-None-clause-ok
returns-in_ok-push-in-None-clause-ok c =
    let none : position (named c.args.name.now) c.args.files.now.items ≡ None = cc in
    c.in_ok-push-in-None.ensures.items ∙ sym (put_first-none {X = HeldFile} (named c.args.name.now) c.args.file c.args.files.now.items none)
