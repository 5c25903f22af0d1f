use Rattle.std.proofs.Common.{◌≡◌, ℕ, ℤ, Option, SFits, w32, to_z, of_z, rules, refl, sym, ap, ◌∙◌, arith}
use Rattle.std.specs.Prelude.{unwrap_or}
use Rattle.std.proofs.Math.Facts.{to_z-of_z}
use Rattle.host_widgets.specs.Controls as law
use Rattle.host_widgets.proofs.Firsts.{from, from-next, from-here, from-past}
use Rattle.host_widgets.proofs.controls.first_full.Goals as goal

pub loop-value-init : goal.loop-value-init
loop-value-init c = refl

pub loop-value-preserved : goal.loop-value-preserved
loop-value-preserved c =
    let lowest : ℤ = to_z w32 (of_z w32 c.args.lowest) in
    c.loop-value.invariant
    ∙ from-next (law.has_full_gain lowest c.args.step c.args.mute) c.args.max c.loop-value.value c.loop-value-test.true (sym c.has_full_gain.ensures ∙ c.if-has_full_gain.false)

pub returns-then-has_full_gain : goal.returns-then-has_full_gain
returns-then-has_full_gain c =
    let lowest : ℤ = to_z w32 (of_z w32 c.args.lowest) in
    let fits : SFits w32 c.args.lowest = search rules in
    let same : lowest ≡ c.args.lowest = to_z-of_z fits in
    sym (ap (λ (o : Option ℕ). unwrap_or o c.args.max)
    (ap (λ (z : ℤ). from (law.has_full_gain z c.args.step c.args.mute) c.args.max c.args.min) (sym same)
    ∙ c.loop-value.invariant ∙ from-here (law.has_full_gain lowest c.args.step c.args.mute) c.args.max c.loop-value.value c.loop-value-test.true (sym c.has_full_gain.ensures ∙ c.if-has_full_gain.true)))

pub returns : goal.returns
returns c =
    let lowest : ℤ = to_z w32 (of_z w32 c.args.lowest) in
    let fits : SFits w32 c.args.lowest = search rules in
    let same : lowest ≡ c.args.lowest = to_z-of_z fits in
    sym (ap (λ (o : Option ℕ). unwrap_or o c.args.max)
    (ap (λ (z : ℤ). from (law.has_full_gain z c.args.step c.args.mute) c.args.max c.args.min) (sym same)
    ∙ c.loop-value.invariant ∙ from-past (law.has_full_gain lowest c.args.step c.args.mute) c.args.max c.loop-value.value (omega (arith, c.loop-value-test.false))))
