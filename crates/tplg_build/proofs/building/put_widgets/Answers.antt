use Rattle.std.proofs.Common.{◌≡◌, ◌∷◌, ◌++◌, ◌+◌, [], map, take, sym, ap, ◌∙◌, append_assoc}
use Rattle.std.proofs.lemmas.List.{map_more}
use Rattle.tplg_model.specs.Spelling.{IsBlock}
use Rattle.tplg_build.specs.TopologyForm.{widget_block}
use Rattle.tplg_build.proofs.ArraySizes.{each_append, each_one}
use Rattle.tplg_build.specs.SmallSource.{is_small_widget}
use Rattle.tplg_build.proofs.SmallLaws.{item-holds}
use Rattle.tplg_build.proofs.building.put_widgets.Goals as goal

pub loop-widget-preserved : goal.loop-widget-preserved
loop-widget-preserved c =
    let xs = c.args.widgets.now in
    let i = c.loop-widget.widget-index in
    let x = c.widget-item.result in
    let more : map widget_block (take (i + 1) xs) ≡ map widget_block (take i xs) ++ widget_block x ∷ [] = map_more widget_block xs i x c.loop-widget-test.true ∙ ap (λ y. map widget_block (take i xs) ++ widget_block y ∷ []) (sym c.widget-item.is) in
    rw (c.in_ok-push.ensures.ok) (
      rw (c.in_ok-widget_block.ensures.value, c.loop-widget.invariant.0, more) (append_assoc c.args.blocks.now (map widget_block (take i xs)) (widget_block x ∷ [])),
      λ all. each_append IsBlock c.loop-widget.blocks (c.in_ok-widget_block.field-0 ∷ []) (c.loop-widget.invariant.1 all) (each_one IsBlock c.in_ok-widget_block.field-0 c.in_ok-widget_block.ensures.is),
    )

pub widget_block-requires : goal.widget_block-requires
widget_block-requires c = item-holds is_small_widget c.args.widgets.now c.loop-widget.widget-index c.widget-item.result c.requires c.loop-widget-test.true c.widget-item.is
