use Rattle.std.proofs.Common.{subst, sym, ap, ◌∙◌}
use Rattle.host_widgets.specs.Sides.{world_of}
use Rattle.tplg_plan.specs.declared.plans.ControlPlan.{ControlPlan}
use Rattle.host_ctl.specs.ControlAnswers.{HasBlob, value_command, outcome_of}
use Rattle.host_ctl.proofs.ControlAnswered.{value-answered}
use Rattle.host_ctl.proofs.ControlCalls.{place-control}
use Rattle.host_ctl.proofs.carrying.read.Goals as goal

pub returns-in-Volume-clause-answered : goal.returns-in-Volume-clause-answered
returns-in-Volume-clause-answered g c =
    let kind_is = sym (ap (λ (k : ControlPlan). k.kind) (place-control c.args.side.now.plan.now c.args.place c.requires.place c.items.result.now _ c.items.ensures)) ∙ c.in-Volume.is in
    value-answered g.P.Dsp.means c.args.side.now c.requires.ready c.args.place c.requires.place 0 (ap value_command kind_is) c.ask.new.side.kept.now (world_of c.ask.new.side) (outcome_of c.ask.result) c.requires.power c.ask.ensures.answered

pub returns-in-Choice-clause-answered : goal.returns-in-Choice-clause-answered
returns-in-Choice-clause-answered g c =
    let kind_is = sym (ap (λ (k : ControlPlan). k.kind) (place-control c.args.side.now.plan.now c.args.place c.requires.place c.items.result.now _ c.items.ensures)) ∙ c.in-Choice.is in
    value-answered g.P.Dsp.means c.args.side.now c.requires.ready c.args.place c.requires.place 1 (ap value_command kind_is) c.ask-in-Choice.new.side.kept.now (world_of c.ask-in-Choice.new.side) (outcome_of c.ask-in-Choice.result) c.requires.power c.ask-in-Choice.ensures.answered

pub returns-in-Masks-clause-answered : goal.returns-in-Masks-clause-answered
returns-in-Masks-clause-answered g c =
    let kind_is = sym (ap (λ (k : ControlPlan). k.kind) (place-control c.args.side.now.plan.now c.args.place c.requires.place c.items.result.now _ c.items.ensures)) ∙ c.in-Masks.is in
    value-answered g.P.Dsp.means c.args.side.now c.requires.ready c.args.place c.requires.place 2 (ap value_command kind_is) c.ask-in-Masks.new.side.kept.now (world_of c.ask-in-Masks.new.side) (outcome_of c.ask-in-Masks.result) c.requires.power c.ask-in-Masks.ensures.answered

pub ask_parts-requires-clause-kind : goal.ask_parts-requires-clause-kind
ask_parts-requires-clause-kind g c =
    let kind_is = sym (ap (λ (k : ControlPlan). k.kind) (place-control c.args.side.now.plan.now c.args.place c.requires.place c.items.result.now _ c.items.ensures)) ∙ c.in-Blob.is in
    subst HasBlob (sym kind_is) tt
