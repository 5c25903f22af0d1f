use Rattle.std.proofs.Common.{◌≡◌, ◌∷◌, ◌++◌, ◌+◌, [], map, take, refl, sym, ap, ◌∙◌}
use Rattle.std.proofs.lemmas.List.{map_more}
use Rattle.tplg_model.specs.Arrays.{Each}
use Rattle.tplg_model.specs.Spelling.{IsRoute}
use Rattle.tplg_build.specs.PcmForm.{route_of}
use Rattle.tplg_build.proofs.ArraySizes.{each_append, each_one}
use Rattle.tplg_build.proofs.routes.routes.Goals as goal

pub loop-one-init : goal.loop-one-init
unfolding Each
loop-one-init c = rw c.new-routes.ensures (refl, tt)

pub loop-one-preserved : goal.loop-one-preserved
loop-one-preserved c =
    let xs = c.args.stated.now in
    let i = c.loop-one.one-index in
    let x = c.one-item.result in
    let more : map route_of (take (i + 1) xs) ≡ map route_of (take i xs) ++ route_of x ∷ [] = map_more route_of xs i x c.loop-one-test.true ∙ ap (λ y. map route_of (take i xs) ++ route_of y ∷ []) (sym c.one-item.is) in
    rw (c.in_ok-push.ensures.ok) (
      rw (c.route.ensures.value, c.loop-one.invariant.0) (sym more),
      each_append IsRoute c.loop-one.routes _ c.loop-one.invariant.1 (each_one IsRoute c.route.result c.route.ensures.is),
    )
