use Rattle.std.proofs.Common.{◌≡◌, ◌<◌, ◌≤◌, cond, map, take, get_or, length, ℕ, Bool, List, [], ◌∷◌, ◌++◌, Some, None, refl, sym, ap, ◌∙◌, arith}
use Rattle.std.proofs.lemmas.Bool.{le-leb}
use Rattle.std.proofs.lemmas.List.{take_more, take_more_set, map-append, length-take-le, length-set, take_all}
use Rattle.tplg_plan.specs.GainOf.{control_gain}
use Rattle.host_widgets.proofs.controls.gains.Goals as goal

pub loop-place-init : goal.loop-place-init
loop-place-init c = record { long = refl; so_far = refl }

pub loop-place-preserved : goal.loop-place-preserved
loop-place-preserved c =
    let kind = c.args.kind.now in
    let values = c.args.values.now in
    let i = c.loop-place.place in
    let within : i < length values = omega (arith, c.loop-place-test.true, ap length c.items-count.ensures.value) in
    let there : i < length c.loop-place.gains = omega (arith, c.loop-place-test.true, c.items-count.ensures.fits, ap length c.items-count.ensures.value, c.loop-place.invariant.long) in
    let one : c.gain.result ≡ control_gain kind (get_or values i 0) = c.gain.ensures ∙ ap (λ (xs : List ℕ). control_gain kind (get_or xs i 0)) c.items.ensures.value in
    record {
      long = length-set c.loop-place.gains i c.gain.result ∙ c.loop-place.invariant.long;
      so_far =
          take_more_set c.loop-place.gains i c.gain.result there
          ∙ (λ j. c.loop-place.invariant.so_far j ++ one j ∷ [])
          ∙ sym (map-append (control_gain kind) (take i values) (get_or values i 0 ∷ []))
          ∙ ap (map (control_gain kind)) (sym (take_more values i 0 within));
    }

pub returns-in-Some : goal.returns-in-Some
returns-in-Some c =
    let values = c.args.values.now in
    let i = c.loop-place.place in
    let count : ℕ = length c.items-count.result.now in
    let all : count ≡ length values = ap length c.items-count.ensures.value in
    let end : i ≡ count = omega (arith, c.loop-place-test.false, c.loop-place.auto.place-end) in
    let kept : List ℕ = take count c.loop-place.gains in
    let long : length kept ≡ count = length-take-le count c.loop-place.gains (omega (arith, all, c.items-count.ensures.fits, c.loop-place.invariant.long)) in
    let few : length kept ≤ 8 = omega (arith, long, all, c.items-count.ensures.fits) in
    let some : c.new.result ≡ Some kept = c.new.ensures ∙ ap (λ (b : Bool). cond b (Some kept) None) (le-leb (length kept) 8 few) in
    let same : c.in-Some.list ≡ kept = cc (sym c.in-Some.is ∙ some) in
    same ∙ ap (λ (n : ℕ). take n c.loop-place.gains) (sym end) ∙ c.loop-place.invariant.so_far ∙ ap (map (control_gain c.args.kind.now)) (take_all i values (omega (arith, end, all)))
