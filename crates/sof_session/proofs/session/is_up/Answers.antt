use Rattle.std.proofs.Common.{sym, ap, ◌∙◌, ℕ, List, Option}
use Rattle.host_dynamic.specs.Dynamic.{is_control_up}
use Rattle.sof_session.specs.SessionCalls.{is_control_in}
use Rattle.sof_session.proofs.session.is_up.Goals as goal

pub returns-in-Some : goal.returns-in-Some
returns-in-Some c =
    c.is_control_up.ensures
    ∙ ap (λ (up : List ℕ). is_control_up c.args.plan.now up c.args.name.now) c.items.ensures.value
    ∙ sym (ap (λ (o : Option (List ℕ)). is_control_in o c.args.plan.now c.args.name.now) c.in-Some.is)

pub returns-in-None : goal.returns-in-None
returns-in-None c = sym (ap (λ (o : Option (List ℕ)). is_control_in o c.args.plan.now c.args.name.now) c.in-None.is)
