use Rattle.std.proofs.Common.{◌≡◌, sym, ◌∙◌, position, Some, None}
use Rattle.sof_desk.specs.declared.plan.Planned.{Planned}
use Rattle.sof_desk.specs.Plans.{is_for}
use Rattle.sof_desk.proofs.First.{is_first, put_first-at, put_first-none}
use Rattle.sof_desk.proofs.plan.put_in.Goals as goal

pub returns-in-Some-clause-ok : goal.returns-in-Some-clause-ok
returns-in-Some-clause-ok c =
    let found : position (is_for c.args.plan.number) c.args.plans.now.items ≡ Some c.in-Some.place = cc in
    sym (put_first-at {X = Planned} (is_for c.args.plan.number) c.args.plan c.args.plans.now.items c.in-Some.place c.args.plan (is_first _ _ _ c.args.plan found))

pub returns-in_ok-push-in-None-clause-ok : goal.returns-in_ok-push-in-None-clause-ok
returns-in_ok-push-in-None-clause-ok c =
    let none : position (is_for c.args.plan.number) c.args.plans.now.items ≡ None = cc in
    c.in_ok-push-in-None.ensures.items ∙ sym (put_first-none {X = Planned} (is_for c.args.plan.number) c.args.plan c.args.plans.now.items none)
