use Rattle.std.proofs.Common.{◌≡◌, sym, ap, subst, ◌∙◌, ℕ, ◌+◌, ◌*◌, ◌^◌, ◌<◌, ◌≤◌, List, [], length, get_or, ℤ, pos, ◌+ℤ◌, nat_abs, arith, rules, w32, w64, to_z, of_z, FitsSigned, Bor}
use Rattle.std.proofs.lemmas.Int.{to_z-of_z, fits_signed_from_abs}
use Rattle.fw_mixer.proofs.SumLaws.{all-at, part-more, sum-near}
use Rattle.fw_mixer.proofs.mixing.mix_one.Goals as goal

-- the new sum is that of the old sum and of the sample
new-sum : (s x wide old : ℤ) → FitsSigned w64 wide → FitsSigned w32 x → wide ≡ to_z w32 (of_z w32 x) → s ≡ old → s +ℤ to_z w64 (of_z w64 wide) ≡ old +ℤ x
new-sum s x wide old fit_wide fit is same = λ i. same i +ℤ (to_z-of_z w64 wide fit_wide ∙ is ∙ to_z-of_z w32 x fit) i

few-fit : (z : ℤ) (n : ℕ) → n ≤ 128 → nat_abs z ≤ n * 2 ^ 31 → FitsSigned w64 z
few-fit z n few low = fits_signed_from_abs w64 z (omega (arith, few, low))

pub overflow_add-sum : goal.overflow_add-sum
overflow_add-sum c =
    let parts = c.args.parts.now in let p : ℕ = c.loop-part.part-index in let at : ℕ = c.args.at in let so = c.loop-part.invariant in let s : ℤ = to_z w64 c.loop-part.sum-bits in
    let below : p < length parts = c.loop-part-test.true in
    let xs : List ℤ = (get_or parts p (record { ref_ptr = (0, 0); now = [] })).now in
    let within : at < length xs = all-at (λ (part : Bor (List ℤ)). at < length part.now) parts p (record { ref_ptr = (0, 0); now = [] }) below c.requires.long in
    let fit : FitsSigned w32 (get_or xs at (pos 0)) = all-at (FitsSigned w32) xs at (pos 0) within c.are_samples.ensures in
    let is = new-sum s (get_or xs at (pos 0)) c.from-sum.result s (search rules) fit c.from-sum.ensures (λ i. s) in
    subst (λ z. FitsSigned w64 z) (sym is) (few-fit (s +ℤ get_or xs at (pos 0)) (p + 1) (omega (arith, below, c.requires.few)) (sum-near s (get_or xs at (pos 0)) p so.near fit))

pub loop-part-preserved : goal.loop-part-preserved
loop-part-preserved c =
    let parts = c.args.parts.now in let p : ℕ = c.loop-part.part-index in let at : ℕ = c.args.at in let so = c.loop-part.invariant in let s : ℤ = to_z w64 c.loop-part.sum-bits in
    let below : p < length parts = c.loop-part-test.true in
    let xs : List ℤ = (get_or parts p (record { ref_ptr = (0, 0); now = [] })).now in
    let x : ℤ = get_or xs at (pos 0) in
    let within : at < length xs = all-at (λ (part : Bor (List ℤ)). at < length part.now) parts p (record { ref_ptr = (0, 0); now = [] }) below c.requires.long in
    let fit : FitsSigned w32 x = all-at (FitsSigned w32) xs at (pos 0) within c.are_samples.ensures in
    let near = sum-near s x p so.near fit in
    let fits : FitsSigned w64 (s +ℤ x) = few-fit (s +ℤ x) (p + 1) (omega (arith, below, c.requires.few)) near in
    let is = ap (λ (z : ℤ). to_z w64 (of_z w64 z)) (new-sum s x c.from-sum.result s (search rules) fit c.from-sum.ensures (λ i. s)) ∙ to_z-of_z w64 (s +ℤ x) fits in
    record {
      sum = is ∙ ap (λ (z : ℤ). z +ℤ x) so.sum ∙ sym (part-more (λ (part : Bor (List ℤ)). part.now) parts p (record { ref_ptr = (0, 0); now = [] }) at below);
      near = subst (λ z. nat_abs z ≤ (p + 1) * 2 ^ 31) (sym is) near;
    }
