use Rattle.std.proofs.Common.{◌≡◌, ◌∷◌, ◌++◌, ◌+◌, [], map, take, refl, sym, ap, ◌∙◌, arith}
use Rattle.std.proofs.lemmas.List.{map_more}
use Rattle.tplg_model.specs.Arrays.{Each}
use Rattle.tplg_model.specs.Spelling.{IsControl, items_cells}
use Rattle.tplg_build.specs.WidgetForm.{control_record}
use Rattle.tplg_build.proofs.ArraySizes.{each_append, each_one}
use Rattle.tplg_build.proofs.RecordSizes.{controls_more}
use Rattle.tplg_build.specs.SmallSource.{is_small_control}
use Rattle.tplg_build.proofs.SmallLaws.{item-holds}
use Rattle.tplg_build.proofs.controls.controls.Goals as goal

pub loop-one-init : goal.loop-one-init
unfolding items_cells Each
loop-one-init c = rw c.new-controls.ensures (refl, tt, omega arith)

pub loop-one-preserved : goal.loop-one-preserved
loop-one-preserved c =
    let xs = c.args.stated.now in
    let i = c.loop-one.one-index in
    let x = c.one-item.result in
    let more : map control_record (take (i + 1) xs) ≡ map control_record (take i xs) ++ control_record x ∷ [] = map_more control_record xs i x c.loop-one-test.true ∙ ap (λ y. map control_record (take i xs) ++ control_record y ∷ []) (sym c.one-item.is) in
    rw (c.in_ok-push.ensures.ok) (
      rw (c.in_ok-control.ensures.value, c.loop-one.invariant.0) (sym more),
      each_append IsControl c.loop-one.controls _ c.loop-one.invariant.1 (each_one IsControl c.in_ok-control.field-0 c.in_ok-control.ensures.is),
      controls_more c.loop-one.controls c.in_ok-control.field-0 4001764 i c.loop-one.invariant.2 c.in_ok-control.ensures.short,
    )

pub control-requires : goal.control-requires
control-requires c = item-holds is_small_control c.args.stated.now c.loop-one.one-index c.one-item.result c.requires.small c.loop-one-test.true c.one-item.is
