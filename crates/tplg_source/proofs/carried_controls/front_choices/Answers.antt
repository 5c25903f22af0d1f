use Rattle.std.proofs.Common.{◌+◌, ap, ◌∙◌, length}
use Rattle.std.proofs.lemmas.List.FromFn.{length-map-range_with_len}
use Rattle.tplg_source.specs.Carried.{choice_at}
use Rattle.tplg_source.proofs.Lists.{made_on}
use Rattle.tplg_source.proofs.carried_controls.front_choices.Goals as goal

pub loop-place-preserved : goal.loop-place-preserved
loop-place-preserved c =
    let kept = made_on (choice_at c.args.texts.now) c.loop-place.place _ _ _ c.loop-place.invariant.kept c.in_ok-push.ensures.ok c.choice_at.ensures in
    record { kept = kept; many = ap length kept ∙ length-map-range_with_len (choice_at c.args.texts.now) 0 (c.loop-place.place + 1) }
