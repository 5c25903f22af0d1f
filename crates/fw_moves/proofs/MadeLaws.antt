-- What a component makes of the samples of buffers is what it makes of their frames.
use Rattle.std.proofs.Common.{◌≡◌, refl, sym, ap, ◌∙◌, subst, ℕ, zero, suc, ◌+◌, ◌*◌, ◌/◌, ◌<◌, ◌≤◌, List, [], ◌∷◌, ◌++◌, map, take, length, replicate, get_or, Bool, true, false, cond, ◌==◌, ◌||◌, Option, Some, None, arith, ℤ, pos, length-append}
use Rattle.std.proofs.lemmas.Bool.{eqb-true, true≢false, ltb-true, ltb-false}
use Rattle.std.proofs.Math.Nat.{mul-div_cancel}
use Rattle.std.specs.Prelude.{find, min, nat_lt}
use Rattle.std.specs.List.{AllByRecursion, range_with_len}
use Rattle.std.specs.Option.{option_map_or}
use Rattle.sof_base.specs.Samples.{Frame, silence}
use Rattle.sof_base.specs.FrameLists.{AreFrames, frames_of, samples_of}
use Rattle.sof_base.specs.Equations.{mixed}
use Rattle.eq_biquad.proofs.PassLaws.{length-frames, are-frames}
use Rattle.stream_law.specs.Order.{is_among}
use Rattle.stream_law.specs.Table.{table}
use Rattle.stream_law.specs.Ramps.{ramped_frames}
use Rattle.stream_law.proofs.Ramping.{length-ramped_frames}
use Rattle.stream_law.specs.Made.{only_slice, chosen_slice, frames_at as frames_of_each}
use Rattle.stream_law.specs.Equaliser.{passed_frames}
use Rattle.fw_gain.specs.RampKernels.{all_ramped}
use Rattle.fw_gain.proofs.RampKernelLaws.{ramped-past}
use Rattle.fw_ring.proofs.FrameLaws.{whole-take}
use Rattle.fw_units.specs.declared.component.Component.{Component}
use Rattle.fw_units.specs.Frames.{buffer_frames, channels_in}
use Rattle.fw_moves.specs.Processed.{IsInlet, slices_in}
use Rattle.fw_moves.specs.Moving.{samples_in, IsWhole, looked_choice}
use Rattle.fw_units.proofs.TakenFrames.{length-first, length-taken}
use Rattle.fw_moves.proofs.FrameLaws.{Enough, frames-back, frames-taken, ramped-whole, ramped-samples, frames-mixed, frames-silence}
use Rattle.fw_units.proofs.Ids.{all-with}

-- what holds of all holds of the first and of the last
pub all-front : {X : Type 0} (P : X → Type 0) (xs ys zs : List X) → zs ≡ xs ++ ys → AllByRecursion P zs → AllByRecursion P xs
all-front P xs ys zs is all = front xs (subst (AllByRecursion P) is all)
  where
    front : (xs : List _) → AllByRecursion P (xs ++ ys) → AllByRecursion P xs
    front [] all = tt
    front (x ∷ xs) all = (all.0, front xs all.1)

pub all-back : {X : Type 0} (P : X → Type 0) (xs ys zs : List X) → zs ≡ xs ++ ys → AllByRecursion P zs → AllByRecursion P ys
all-back P xs ys zs is all = back xs (subst (AllByRecursion P) is all)
  where
    back : (xs : List _) → AllByRecursion P (xs ++ ys) → AllByRecursion P ys
    back [] all = all
    back (x ∷ xs) all = back xs all.1

-- what holds of all holds of the one at a place
pub all-at : {X : Type 0} (P : X → Type 0) (xs : List X) (i : ℕ) (d : X) → i < length xs → AllByRecursion P xs → P (get_or xs i d)
all-at P [] i d low all = absurd (omega (arith, low))
all-at P (x ∷ xs) zero d low all = all.0
all-at P (x ∷ xs) (suc i) d low all = all-at P xs i d (omega (arith, low)) all.1

-- what is among these is one of them
pub all-among : (P : ℕ → Type 0) (b : ℕ) (ids : List ℕ) → is_among ids b ≡ true → AllByRecursion P ids → P b
all-among P b [] among all = absurd (true≢false (sym among))
all-among P b (id ∷ ids) among all = by (id == b) (eqb-true id b) among (λ more. all-among P b ids more all.1)
  where
    by : (h : Bool) → (h ≡ true → id ≡ b) → (h || is_among ids b) ≡ true → (is_among ids b ≡ true → P b) → P b
    by true same among rest = subst P (same refl) all.0
    by false same among rest = rest among

-- two parts of the samples of a buffer have as many as they should
pub parts : (front back : List ℤ) (cs : List Component) (n b size : ℕ) → front ++ back ≡ samples_in cs n b → IsWhole cs b → n ≤ length (buffer_frames cs b) → size ≡ n * channels_in cs b → length front + length back ≡ size
parts front back cs n b size is whole held long =
    sym (length-append front back) ∙ ap length is ∙ length-taken (channels_in cs b) n (buffer_frames cs b) whole held ∙ sym long

-- a place past 32 bits is past each ramp of them
pub ramped-held : (channels : ℕ) (from to : List ℕ) (count done : ℕ) (xs : List ℤ) → count ≤ 4294967295 → all_ramped channels from to count (min done 4294967295) xs ≡ all_ramped channels from to count done xs
ramped-held channels from to count done xs most = by (nat_lt 4294967295 done) refl
  where
    by : (h : Bool) → nat_lt 4294967295 done ≡ h → all_ramped channels from to count (min done 4294967295) xs ≡ all_ramped channels from to count done xs
    by true e =
        let far : 4294967295 < done = ltb-true 4294967295 done e in
        ramped-past channels from to count (min done 4294967295) xs (omega (arith, far, most)) ∙ sym (ramped-past channels from to count done xs (omega (arith, far, most)))
    by false e =
        let near : done ≤ 4294967295 = ltb-false 4294967295 done e in
        ap (λ d. all_ramped channels from to count d xs) (let same : min done 4294967295 ≡ done = omega (arith, near) in same)

module _ (cs : List Component) (channels n : ℕ) where
  enough : (b : ℕ) → IsInlet cs channels n b → IsWhole cs b → Enough channels n (buffer_frames cs b)
  enough b inlet whole = record { whole = subst (λ k. AreFrames k (buffer_frames cs b)) inlet.shape whole; some = inlet.held }

  -- the frames of the samples of a buffer
  pub inlet-frames : (b : ℕ) → IsInlet cs channels n b → IsWhole cs b → frames_of channels n (samples_in cs n b) ≡ take n (buffer_frames cs b)
  inlet-frames b inlet whole = let e = enough b inlet whole in frames-taken channels n (buffer_frames cs b) e.whole e.some

  -- ---- a volume and an equaliser look at one buffer

  pub only : (looked : List ℕ) → length looked ≡ 1 → take n (buffer_frames cs (get_or looked 0 0)) ≡ only_slice (slices_in cs looked n)
  only [] one = absurd (omega (arith, one))
  only (b ∷ rest) one = refl

  pub made-ramped : (from to looked : List ℕ) (over done : ℕ) → 1 ≤ channels → length from ≡ length to → length looked ≡ 1 → IsInlet cs channels n (get_or looked 0 0) → IsWhole cs (get_or looked 0 0) → frames_of channels n (all_ramped channels from to over done (samples_in cs n (get_or looked 0 0))) ≡ ramped_frames from over done to channels (only_slice (slices_in cs looked n))
  made-ramped from to looked over done wide level one inlet whole =
      let all = buffer_frames cs (get_or looked 0 0) in
      let e = enough (get_or looked 0 0) inlet whole in
      let fs = take n all in
      ap (frames_of channels n) (ramped-samples channels from to over done fs wide level (whole-take channels n all e.whole))
      ∙ frames-back channels n (ramped_frames from over done to channels fs) (ramped-whole channels from over done to fs) (length-ramped_frames from over done to channels fs ∙ length-first n all e.some)
      ∙ ap (ramped_frames from over done to channels) (only looked one)

  -- so many samples are of so many frames
  pub count-of : (size : ℕ) → 1 ≤ channels → size ≡ n * channels → size / channels ≡ n
  count-of size wide is = ap (λ k. k / channels) is ∙ mul-div_cancel n (omega (arith, wide))

  -- the frames that an equaliser runs over
  pub run-frames : (size : ℕ) (xs : List ℤ) (looked : List ℕ) → 1 ≤ channels → size ≡ n * channels → length looked ≡ 1 → IsInlet cs channels n (get_or looked 0 0) → IsWhole cs (get_or looked 0 0) → xs ≡ samples_in cs n (get_or looked 0 0) → frames_of channels (size / channels) xs ≡ only_slice (slices_in cs looked n)
  run-frames size xs looked wide long one inlet whole is =
      (λ i. frames_of channels (count-of size wide long i) (is i))
      ∙ inlet-frames (get_or looked 0 0) inlet whole
      ∙ only looked one

  pub made-equalised : (blob : List ℕ) (numbers : List ℤ) (fs : List Frame) → length fs ≡ n → frames_of channels n (samples_of (passed_frames blob channels numbers fs)) ≡ passed_frames blob channels numbers fs
  made-equalised blob numbers fs long = frames-back channels n (passed_frames blob channels numbers fs) (are-frames blob channels numbers fs) (length-frames blob channels numbers fs ∙ long)

  pub only-long : (looked : List ℕ) → length looked ≡ 1 → IsInlet cs channels n (get_or looked 0 0) → length (only_slice (slices_in cs looked n)) ≡ n
  only-long looked one inlet = ap length (sym (only looked one)) ∙ length-first n (buffer_frames cs (get_or looked 0 0)) inlet.held

  -- ---- a mixer and a mux look at any number

  pub made-mixed : (looked : List ℕ) → AllByRecursion (IsInlet cs channels n) looked → AllByRecursion (IsWhole cs) looked → frames_of channels n (mixed (n * channels) (map (samples_in cs n) looked)) ≡ map (λ j. mixed channels (frames_of_each (slices_in cs looked n) j)) (range_with_len 0 n)
  made-mixed looked inlets wholes = frames-mixed channels n (buffer_frames cs) looked (all-with (IsInlet cs channels n) (IsWhole cs) (λ b. Enough channels n (buffer_frames cs b)) enough looked inlets wholes)

  -- the slice of a buffer that is looked at, and of one that is not
  found : {X : Type 0} (b : ℕ) (ids : List ℕ) (f : ℕ → X) (d : X) → is_among ids b ≡ true → option_map_or (λ entry. entry.1) (find (λ entry. entry.0 == b) (table ids f)) d ≡ f b
  found b [] f d among = absurd (true≢false (sym among))
  found {X} b (id ∷ ids) f d among = by (id == b) (eqb-true id b) among (found b ids f d)
    where
      by : (h : Bool) → (h ≡ true → id ≡ b) → (h || is_among ids b) ≡ true → (is_among ids b ≡ true → option_map_or (λ entry. entry.1) (find (λ entry. entry.0 == b) (table ids f)) d ≡ f b) → option_map_or (λ entry. entry.1) (cond h (Some (id, f id)) (find (λ entry. entry.0 == b) (table ids f))) d ≡ f b
      by true same among rest = ap f (same refl)
      by false same among rest = rest among

  missed : {X : Type 0} (b : ℕ) (ids : List ℕ) (f : ℕ → X) (d : X) → is_among ids b ≡ false → option_map_or (λ entry. entry.1) (find (λ entry. entry.0 == b) (table ids f)) d ≡ d
  missed b [] f d among = refl
  missed {X} b (id ∷ ids) f d among = by (id == b) among (missed b ids f d)
    where
      by : (h : Bool) → (h || is_among ids b) ≡ false → (is_among ids b ≡ false → option_map_or (λ entry. entry.1) (find (λ entry. entry.0 == b) (table ids f)) d ≡ d) → option_map_or (λ entry. entry.1) (cond h (Some (id, f id)) (find (λ entry. entry.0 == b) (table ids f))) d ≡ d
      by true among rest = absurd (true≢false among)
      by false among rest = rest among

  -- a choice is one that is looked at, or there is none that is
  chosen-among : (looked : List ℕ) (b : ℕ) (chosen : Option ℕ) → Some b ≡ looked_choice looked chosen → (chosen ≡ Some b) × (is_among looked b ≡ true)
  chosen-among looked b None e = absurd (cc e)
  chosen-among looked b (Some k) e = by (is_among looked k) refl e
    where
      or : Option ℕ → ℕ
      or None = 0
      or (Some n) = n

      by : (h : Bool) → is_among looked k ≡ h → Some b ≡ cond h (Some k) None → (Some k ≡ Some b) × (is_among looked b ≡ true)
      by true is e = let same : b ≡ k = ap or e in (sym e, ap (is_among looked) same ∙ is)
      by false is e = absurd (cc e)

  pub chosen-there : (looked : List ℕ) (b : ℕ) (chosen : Option ℕ) → Some b ≡ looked_choice looked chosen → AllByRecursion (IsInlet cs channels n) looked → IsInlet cs channels n b
  chosen-there looked b chosen e all = all-among (IsInlet cs channels n) b looked (chosen-among looked b chosen e).1 all

  pub made-chosen : (looked : List ℕ) (b : ℕ) (chosen : Option ℕ) → Some b ≡ looked_choice looked chosen → AllByRecursion (IsInlet cs channels n) looked → IsWhole cs b → frames_of channels n (samples_in cs n b) ≡ chosen_slice (slices_in cs looked n) channels n chosen
  made-chosen looked b chosen e all whole =
      let is = chosen-among looked b chosen e in
      inlet-frames b (all-among (IsInlet cs channels n) b looked is.1 all) whole
      ∙ sym (found b looked (λ b. take n (buffer_frames cs b)) (replicate n (silence channels)) is.1)
      ∙ ap (chosen_slice (slices_in cs looked n) channels n) (sym is.0)

  pub made-missed : (looked : List ℕ) (chosen : Option ℕ) → None ≡ looked_choice looked chosen → frames_of channels n (replicate (n * channels) (pos 0)) ≡ chosen_slice (slices_in cs looked n) channels n chosen
  made-missed looked None e = frames-silence channels n
  made-missed looked (Some k) e = by (is_among looked k) refl e
    where
      by : (h : Bool) → is_among looked k ≡ h → None ≡ cond h (Some k) None → frames_of channels n (replicate (n * channels) (pos 0)) ≡ chosen_slice (slices_in cs looked n) channels n (Some k)
      by true is e = absurd (cc e)
      by false is e = frames-silence channels n ∙ sym (missed k looked (λ b. take n (buffer_frames cs b)) (replicate n (silence channels)) is)
