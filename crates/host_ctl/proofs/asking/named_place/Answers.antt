use Rattle.std.proofs.Common.{◌≡◌, ap, ◌∙◌, Some, sym}
use denote.Enum.Bare.{same_false}
use Rattle.host_widgets.specs.contracts.kept.Power.{the_type}
use Rattle.host_widgets.specs.declared.answers.HostFault.TheVariants.{NoSuch}
use Rattle.host_widgets.specs.declared.kept.Power.TheVariants.{Unloaded}
use Rattle.host_ctl.proofs.ControlTests.{named-none, unnamed}
use Rattle.host_ctl.proofs.asking.named_place.Goals as goal

pub returns-in-Some-clause-none : goal.returns-in-Some-clause-none
returns-in-Some-clause-none c =
    let up : c.args.kept.now.power ≡ Unloaded → ⊥ = same_false the_type c.args.kept.now.power Unloaded (sym c.if-eq.ensures) in
    named-none c.args.plan.now c.args.kept.now c.args.name.now _ up (sym c.control_place.ensures ∙ c.in-Some.is)

pub returns-in-None-clause-fault : goal.returns-in-None-clause-fault
returns-in-None-clause-fault c =
    let up : c.args.kept.now.power ≡ Unloaded → ⊥ = same_false the_type c.args.kept.now.power Unloaded (sym c.if-eq.ensures) in
    unnamed c.args.plan.now c.args.kept.now c.args.name.now up (sym c.control_place.ensures ∙ c.in-None.is) ∙ ap (λ name. Some (NoSuch name)) (sym c.copied.ensures)
