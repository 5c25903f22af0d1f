use Rattle.std.proofs.Common.{◌≡◌, ap, subst, ◌∙◌, ℕ, ◌<◌, List, length, sym, arith}
use Rattle.std.specs.List.{AllByRecursion}
use Rattle.stream_law.specs.declared.graph.Join.{Join}
use Rattle.mbox_link.specs.Calls.{world}
use Rattle.host_widgets.specs.Groups.{making_lists}
use Rattle.host_widgets.specs.MadeLists.{MadeListed}
use Rattle.host_widgets.specs.UpActs.{widgets_of}
use Rattle.host_widgets.proofs.FewJoins.{few-joins}
use Rattle.host_widgets.proofs.NamedIds.{few-widgets}
use Rattle.host_dynamic.proofs.ListedPipelines.{widgets-low, few-joins-of}
use Rattle.host_dynamic.proofs.lists.make.Goals as goal

pub widgets_of-ids-requires-clause-widgets : goal.widgets_of-ids-requires-clause-widgets
widgets_of-ids-requires-clause-widgets g c = few-widgets c.args.plan.now c.requires.plan

pub widgets_of-ids-requires-clause-few : goal.widgets_of-ids-requires-clause-few
widgets_of-ids-requires-clause-few g c = omega (arith, c.requires.few)

pub list_joins-count-requires-clause-joins : goal.list_joins-count-requires-clause-joins
list_joins-count-requires-clause-joins g c = few-joins c.args.plan.now c.requires.plan

pub list_joins-count-requires-clause-few : goal.list_joins-count-requires-clause-few
list_joins-count-requires-clause-few g c = omega (arith, few-joins-of c.args.plan.now c.requires.plan c.args.indices.now, c.requires.few)

pub make-requires-clause-few : goal.make-requires-clause-few
make-requires-clause-few g c = omega (arith, ap length (c.as_slice.ensures.value ∙ c.widgets_of-ids.ensures), c.requires.few)

pub make-requires-clause-low : goal.make-requires-clause-low
make-requires-clause-low g c =
    let plan = c.args.plan.now in
    subst (AllByRecursion (λ (id : ℕ). id < length plan.widgets)) (sym (c.as_slice.ensures.value ∙ c.widgets_of-ids.ensures)) (widgets-low plan c.args.indices.now)

pub returns : goal.returns
returns g c =
    let plan = c.args.plan.now in let n = c.args.indices.now in
    let ids : c.as_slice.result.now ≡ widgets_of plan n = c.as_slice.ensures.value ∙ c.widgets_of-ids.ensures in
    subst (λ (l : List ℕ × List Join). MadeListed g.P.Dsp.means plan (making_lists plan c.args.kept.now l.0 l.1 n) c.args.made.now.items c.make.new.made.items
    (world c.args.dsp.now c.args.io.now c.args.out.now) (world c.make.new.dsp c.make.new.io c.make.new.out) c.make.result) (λ i. (ids i, c.list_joins-count.ensures.joins i)) c.make.ensures
