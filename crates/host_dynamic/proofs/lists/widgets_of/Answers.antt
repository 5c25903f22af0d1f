use Rattle.std.proofs.Common.{sym, ap, ◌∙◌, ◌++◌, length, arith}
use Rattle.std.proofs.lemmas.List.{take_all}
use Rattle.std.proofs.lemmas.List.Folds.{length-flat_map-take}
use Rattle.host_widgets.specs.UpActs.{widgets_at, widgets_of}
use Rattle.host_dynamic.proofs.ListedPipelines.{flat-more}
use Rattle.host_dynamic.proofs.lists.widgets_of.Goals as goal

pub append-requires : goal.append-requires
append-requires c =
    omega (
      arith,
      ap length c.loop-index.invariant,
      ap length (c.items.ensures.value ∙ c.widgets_at.ensures),
      length-flat_map-take (widgets_at c.args.plan.now) c.args.indices.now c.loop-index.index-index 0 c.loop-index-test.true,
      c.requires.few,
    )

pub loop-index-preserved : goal.loop-index-preserved
loop-index-preserved c =
    let plan = c.args.plan.now in
    c.append.ensures
    ∙ (λ i. c.loop-index.invariant i ++ (c.items.ensures.value ∙ c.widgets_at.ensures) i)
    ∙ sym (flat-more (widgets_at plan) c.args.indices.now c.loop-index.index-index c.loop-index-test.true)

pub returns : goal.returns
returns c = c.loop-index.invariant ∙ ap (widgets_of c.args.plan.now) (take_all c.loop-index.index-index c.args.indices.now (omega (arith, c.loop-index-test.false)))
