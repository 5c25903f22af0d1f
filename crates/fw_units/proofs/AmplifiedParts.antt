-- Samples in two parts, each times its gain, are the frames of all of them.
use Rattle.std.proofs.Common.{◌≡◌, sym, ap, ◌∙◌, ℕ, ◌+◌, ◌-◌, ◌*◌, ◌/◌, ◌%◌, ◌≤◌, List, ◌++◌, length, arith, ℤ}
use Rattle.std.proofs.lemmas.List.{append-nil}
use Rattle.std.proofs.Math.Nat.{mul-div_cancel, mul-mod_left, mul_comm, div-le_of_le-mul}
use Rattle.sof_base.specs.Samples.{Frame}
use Rattle.sof_base.specs.FrameLists.{frames_of}
use Rattle.fw_gain.specs.Kernels.{all_amplified}
use Rattle.fw_gain.proofs.KernelLaws.{amplified-append, length-amplified}
use Rattle.fw_ring.proofs.FrameLaws.{frames-append, rest-whole}
use Rattle.fw_units.specs.declared.component.Component.{Component}
use Rattle.fw_units.specs.Frames.{pushed_by}
use Rattle.fw_units.proofs.Standing.{whole as whole-times}
use Rattle.fw_units.proofs.Units.{pushed-unit}

-- ---- samples in two parts of whole frames

module _ (channels n : ℕ) (some : 1 ≤ channels) (front back : List ℤ) (total : length front + length back ≡ n * channels) (none : length front % channels ≡ 0) where
  front-count : length front ≡ length front / channels * channels
  front-count = whole-times (length front) channels none

  pub front-few : length front / channels ≤ n
  front-few = div-le_of_le-mul channels (let turned : n * channels ≡ channels * n = mul_comm n channels in omega (arith, total, turned))

  back-count : length back ≡ (n - length front / channels) * channels
  back-count = omega (arith, total, front-count, rest-whole (length front / channels) n channels front-few)

  pub back-whole : length back % channels ≡ 0
  back-whole = ap (λ k. k % channels) back-count ∙ mul-mod_left (n - length front / channels) channels

  pub back-frames : length back / channels ≡ n - length front / channels
  back-frames = ap (λ k. k / channels) back-count ∙ mul-div_cancel (n - length front / channels) (omega (arith, some))

  module _ (gains : List ℕ) where
    abbrev made : List ℤ → List ℤ
    made xs = all_amplified channels gains xs

    pub both-amplified : frames_of channels (length front / channels) (made front) ++ frames_of channels (length back / channels) (made back) ≡ frames_of channels n (made (front ++ back))
    both-amplified =
        let all : length front / channels + length back / channels ≡ n = omega (arith, front-few, back-frames) in
        sym (frames-append channels (length front / channels) (length back / channels) (made front) (made back) (length-amplified channels gains front ∙ front-count))
        ∙ (λ i. frames_of channels (all i) (sym (amplified-append channels gains front back some none) i))

    -- where the second part is empty
    pub front-amplified : length back ≡ 0 → frames_of channels (length front / channels) (made front) ≡ frames_of channels n (made (front ++ back))
    front-amplified empty =
        let none_left : length back ≡ 0 * channels = omega (arith, empty) in
        let no : length back / channels ≡ 0 = ap (λ k. k / channels) none_left ∙ mul-div_cancel 0 (omega (arith, some)) in
        sym (append-nil (frames_of channels (length front / channels) (made front)))
        ∙ ap (λ k. frames_of channels (length front / channels) (made front) ++ frames_of channels k (made back)) (sym no)
        ∙ both-amplified

-- two pushes are one of all frames
pub pushed-both : (xs ys fs : List Frame) (v w : List ℤ) (c : Component) → xs ++ ys ≡ fs → pushed_by ys w (pushed_by xs v c) ≡ pushed_by fs w c
pushed-both xs ys fs v w c is =
    (λ i. record { id = c.id; pipe = c.pipe; channels = c.channels; unit = pushed-unit xs ys v w c.unit i }) ∙ ap (λ (zs : List Frame). pushed_by zs w c) is
