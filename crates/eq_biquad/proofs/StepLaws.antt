-- One sample and one channel more.
use Rattle.std.proofs.Common.{◌≡◌, ◌≢◌, refl, sym, ap, ◌∙◌, subst, ℕ, suc, ◌+◌, ◌*◌, ◌<◌, ◌≤◌, ◌⊎◌, inl, inr, List, [], ◌∷◌, length, take, get_or, set, arith, ℤ, pos, ◌+ℤ◌, ◌*ℤ◌}
use Rattle.std.proofs.lemmas.List.{get_or-set_same, get_or-set_other, length-set, take_all, same_lists}
use Rattle.sof_base.specs.Samples.{sample_of}
use Rattle.sof_base.specs.Equations.{Section, section_output}
use Rattle.sof_base.specs.FrameLists.{frames_of, samples_of}
use Rattle.stream_law.specs.Equaliser.{sections_of, next_inner, passed_sections, passed_frames, numbers_after}
use Rattle.eq_biquad.specs.Lanes.{lane}
use Rattle.eq_biquad.specs.PieceWords.{AreNumbers}
use Rattle.eq_biquad.specs.Passing.{passed_samples, numbers_passed, in_turn, channel_numbers}
use Rattle.eq_biquad.specs.Stretches.{LaneGoes, OnlyChannels}
use Rattle.eq_biquad.proofs.PassLaws.{numbers_passed-more, get-passed, length-passed}
use Rattle.eq_biquad.proofs.LaneLaws.{length-lane, get-lane, same-lane, place-within, other-place, other-frame, passed-whole, numbers-whole}
use Rattle.eq_blob.proofs.Cases.{by_less}
use Rattle.eq_biquad.proofs.NumberLaws.{numbers_at-same, has-numbers}

-- ---- a section, after j of n frames

pub record Passes (s : Section) (ns : List ℤ) (c k n : ℕ) (old now : List ℤ) (first second : ℤ) (j : ℕ) : Type 0 where
  pub done : (i : ℕ) → i < j → sample_of now (i * c + k) ≡ get_or (passed_samples (s ∷ []) ns (lane c k n old)) i (pos 0)
  pub left : (i : ℕ) → j ≤ i → sample_of now (i * c + k) ≡ sample_of old (i * c + k)
  pub others : (i h : ℕ) → h < c → h ≢ k → sample_of now (i * c + h) ≡ sample_of old (i * c + h)
  pub numbers : first ∷ second ∷ [] ≡ numbers_passed (s ∷ []) ns (take j (lane c k n old))
  pub long : length now ≡ length old

pub passes-none : (s : Section) (first second : ℤ) (c k n : ℕ) (old : List ℤ) → Passes s (first ∷ second ∷ []) c k n old old first second 0
passes-none s first second c k n old = record {
  done = λ i lt. absurd (omega arith);
  left = λ i le. refl;
  others = λ i h low ne. refl;
  numbers = refl;
  long = refl;
}

module _ (s : Section) (ns : List ℤ) (c k n : ℕ) (old : List ℤ) (low : k < c) (long : n * c ≡ length old) where
  -- one frame more
  pub passes-more : (now : List ℤ) (first second : ℤ) (j : ℕ) (x y first' second' : ℤ) → Passes s ns c k n old now first second j → j < n → x ≡ sample_of now (j * c + k)
      → y ≡ section_output s (next_inner s first x)
      → first' ≡ (((s.b1 *ℤ x) +ℤ (s.a1 *ℤ next_inner s first x)) +ℤ second) → second' ≡ ((s.b2 *ℤ x) +ℤ (s.a2 *ℤ next_inner s first x))
      → Passes s ns c k n old (set now (j * c + k) y) first' second' (j + 1)
  passes-more now first second j x y first' second' so lt is out one two =
      let xs = lane c k n old in
      let p : ℕ = j * c + k in
      let within : p < length now = omega (arith, place-within j n c k lt low, long, so.long) in
      let count : length xs ≡ n = length-lane c k n old in
      let input : get_or xs j (pos 0) ≡ x = get-lane c k n old j (pos 0) lt ∙ sym (so.left j (omega arith)) ∙ sym is in
      record {
        done = λ i under. by_less i j
            (λ less. get_or-set_other now p (i * c + k) y (pos 0) (other-frame i j c k (omega arith) (λ e. absurd (omega arith))) ∙ so.done i less)
            (λ same. let e : i ≡ j = omega arith in
            ap (λ m. sample_of (set now p y) (m * c + k)) e
            ∙ get_or-set_same now p y (pos 0) within
            ∙ out
            ∙ sym (ap (λ m. get_or (passed_samples (s ∷ []) ns xs) m (pos 0)) e
            ∙ get-passed (s ∷ []) ns xs j (pos 0) (omega arith)
            ∙ (λ m. (passed_sections (s ∷ []) (sym so.numbers m) (input m)).sample)));
        left = λ i le. get_or-set_other now p (i * c + k) y (pos 0) (other-frame i j c k (omega arith) (λ e. absurd (omega arith))) ∙ so.left i (omega arith);
        others = λ i h less ne. get_or-set_other now p (i * c + h) y (pos 0) (other-place i j c h k less low ne) ∙ so.others i h less ne;
        numbers =
            (λ m. one m ∷ two m ∷ [])
            ∙ sym (ap (λ m. numbers_passed (s ∷ []) ns (take m xs)) (let e : j + 1 ≡ suc j = omega arith in e)
            ∙ numbers_passed-more (s ∷ []) ns xs j (omega arith)
            ∙ (λ m. (passed_sections (s ∷ []) (sym so.numbers m) (input m)).numbers));
        long = length-set now p y ∙ so.long;
      }

  -- all frames
  pub passes-all : (now : List ℤ) (first second : ℤ) (j : ℕ) → Passes s ns c k n old now first second j → n ≤ j → (lane c k n now ≡ passed_samples (s ∷ []) ns (lane c k n old)) × (first ∷ second ∷ [] ≡ numbers_passed (s ∷ []) ns (lane c k n old))
  passes-all now first second j so le =
      let xs = lane c k n old in
      let count : length xs ≡ n = length-lane c k n old in (
        same_lists (lane c k n now) (passed_samples (s ∷ []) ns xs) (length-lane c k n now ∙ sym (length-passed (s ∷ []) ns xs ∙ count)) (λ i d lt.
            let lt' : i < n = omega (arith, length-lane c k n now) in
            get-lane c k n now i d lt' ∙ so.done i (omega arith)
            ∙ Rattle.std.proofs.lemmas.List.get_or_default (passed_samples (s ∷ []) ns xs) i (pos 0) d (omega (arith, length-passed (s ∷ []) ns xs))),
        so.numbers ∙ ap (numbers_passed (s ∷ []) ns) (take_all j xs (omega arith)),
      )

-- ---- frames, after so many of their channels

pub record Passed_lanes (blob : List ℕ) (c n : ℕ) (numbers0 samples0 numbers samples : List ℤ) (k : ℕ) : Type 0 where
  pub done : (h : ℕ) → h < k → lane c h n samples ≡ passed_samples (sections_of blob h) (channel_numbers blob numbers0 h) (lane c h n samples0)
  pub left : (h : ℕ) → k ≤ h → h < c → lane c h n samples ≡ lane c h n samples0
  pub done_numbers : (h : ℕ) → h < k → channel_numbers blob numbers h ≡ numbers_passed (sections_of blob h) (channel_numbers blob numbers0 h) (lane c h n samples0)
  pub left_numbers : (h : ℕ) → k ≤ h → h < c → channel_numbers blob numbers h ≡ channel_numbers blob numbers0 h
  pub within : AreNumbers numbers
  pub long : length samples ≡ length samples0

pub lanes-none : (blob : List ℕ) (c n : ℕ) (numbers0 samples0 : List ℤ) → AreNumbers numbers0 → Passed_lanes blob c n numbers0 samples0 numbers0 samples0 0
lanes-none blob c n numbers0 samples0 are = record {
  done = λ h lt. absurd (omega arith);
  left = λ h le lt. refl;
  done_numbers = λ h lt. absurd (omega arith);
  left_numbers = λ h le lt. refl;
  within = are;
  long = refl;
}

module _ (blob : List ℕ) (c n : ℕ) (numbers0 samples0 : List ℤ) where
  -- a channel that passed through its sections
  pub lanes-more : (numbers samples numbers' samples' : List ℤ) (k : ℕ) → Passed_lanes blob c n numbers0 samples0 numbers samples k → k < c → length (sections_of blob k) ≤ 8 → ((h : ℕ) → length (sections_of blob h) ≤ 8)
      → lane c k n samples' ≡ passed_samples (sections_of blob k) (channel_numbers blob numbers k) (lane c k n samples)
      → channel_numbers blob numbers' k ≡ numbers_passed (sections_of blob k) (channel_numbers blob numbers k) (lane c k n samples)
      → ((i h : ℕ) → h < c → h ≢ k → sample_of samples' (i * c + h) ≡ sample_of samples (i * c + h))
      → ((i : ℕ) → (i < 64 * k) ⊎ (64 * k + 64 ≤ i) → sample_of numbers' i ≡ sample_of numbers i)
      → AreNumbers numbers' → length samples' ≡ length samples
      → Passed_lanes blob c n numbers0 samples0 numbers' samples' (k + 1)
  lanes-more numbers samples numbers' samples' k so lt few all_few lane' pair others elsewhere are long' = record {
    done = λ h under. by_less h k (λ less. other h (omega arith) (λ e. absurd (omega arith)) ∙ so.done h less) (λ ge. let e : k ≡ h = omega arith in
        subst (λ h. lane c h n samples' ≡ passed_samples (sections_of blob h) (channel_numbers blob numbers0 h) (lane c h n samples0)) e
        (lane' ∙ (λ i. passed_samples (sections_of blob k) (so.left_numbers k (omega arith) lt i) (so.left k (omega arith) lt i))));
    left = λ h le low. other h low (λ e. absurd (omega arith)) ∙ so.left h (omega arith) low;
    done_numbers = λ h under. by_less h k (λ less. kept h (inl less) ∙ so.done_numbers h less) (λ ge. let e : k ≡ h = omega arith in
        subst (λ h. channel_numbers blob numbers' h ≡ numbers_passed (sections_of blob h) (channel_numbers blob numbers0 h) (lane c h n samples0)) e
        (pair ∙ (λ i. numbers_passed (sections_of blob k) (so.left_numbers k (omega arith) lt i) (so.left k (omega arith) lt i))));
    left_numbers = λ h le low. kept h (inr (omega arith)) ∙ so.left_numbers h (omega arith) low;
    within = are;
    long = long' ∙ so.long;
  }
    where
      other : (h : ℕ) → h < c → h ≢ k → lane c h n samples' ≡ lane c h n samples
      other h low ne = same-lane c h n samples' samples (λ j. others j h low ne)

      kept : (h : ℕ) → (h < k) ⊎ (k < h) → channel_numbers blob numbers' h ≡ channel_numbers blob numbers h
      kept h (inl less) = let n = all_few h in numbers_at-same numbers' numbers (64 * h) (length (sections_of blob h)) (λ i le under. elsewhere i (inl (omega arith)))
      kept h (inr more) = let n = all_few h in numbers_at-same numbers' numbers (64 * h) (length (sections_of blob h)) (λ i le under. elsewhere i (inr (omega arith)))

  -- two channels that lie side by side
  pub lanes-both : (numbers samples numbers' samples' : List ℤ) (k : ℕ) → Passed_lanes blob c n numbers0 samples0 numbers samples k → k + 1 < c → ((h : ℕ) → length (sections_of blob h) ≤ 8)
      → LaneGoes (sections_of blob k) (64 * k) (length (sections_of blob k)) c k n numbers samples numbers' samples'
      → LaneGoes (sections_of blob (k + 1)) (64 * (k + 1)) (length (sections_of blob (k + 1))) c (k + 1) n numbers samples numbers' samples'
      → OnlyChannels c k samples samples'
      → ((i : ℕ) → (i < 64 * k) ⊎ (64 * k + 128 ≤ i) → sample_of numbers' i ≡ sample_of numbers i)
      → AreNumbers numbers' → length samples' ≡ length samples
      → Passed_lanes blob c n numbers0 samples0 numbers' samples' (k + 2)
  lanes-both numbers samples numbers' samples' k so lt all_few left right others elsewhere are long' = record {
    done = λ h under. by_less h k (λ less. other h (omega arith) (λ e. absurd (omega arith)) (λ e. absurd (omega arith)) ∙ so.done h less)
        (λ ge. by_less h (k + 1)
        (λ here. let e : k ≡ h = omega arith in
        subst (λ h. lane c h n samples' ≡ passed_samples (sections_of blob h) (channel_numbers blob numbers0 h) (lane c h n samples0)) e
        (left.samples ∙ (λ i. passed_samples (sections_of blob k) (so.left_numbers k (omega arith) (omega arith) i) (so.left k (omega arith) (omega arith) i))))
        (λ behind. let e : k + 1 ≡ h = omega arith in
        subst (λ h. lane c h n samples' ≡ passed_samples (sections_of blob h) (channel_numbers blob numbers0 h) (lane c h n samples0)) e
        (right.samples ∙ (λ i. passed_samples (sections_of blob (k + 1)) (so.left_numbers (k + 1) (omega arith) lt i) (so.left (k + 1) (omega arith) lt i)))));
    left = λ h le low. other h low (λ e. absurd (omega arith)) (λ e. absurd (omega arith)) ∙ so.left h (omega arith) low;
    done_numbers = λ h under. by_less h k (λ less. kept h (inl less) ∙ so.done_numbers h less)
        (λ ge. by_less h (k + 1)
        (λ here. let e : k ≡ h = omega arith in
        subst (λ h. channel_numbers blob numbers' h ≡ numbers_passed (sections_of blob h) (channel_numbers blob numbers0 h) (lane c h n samples0)) e
        (left.numbers ∙ (λ i. numbers_passed (sections_of blob k) (so.left_numbers k (omega arith) (omega arith) i) (so.left k (omega arith) (omega arith) i))))
        (λ behind. let e : k + 1 ≡ h = omega arith in
        subst (λ h. channel_numbers blob numbers' h ≡ numbers_passed (sections_of blob h) (channel_numbers blob numbers0 h) (lane c h n samples0)) e
        (right.numbers ∙ (λ i. numbers_passed (sections_of blob (k + 1)) (so.left_numbers (k + 1) (omega arith) lt i) (so.left (k + 1) (omega arith) lt i)))));
    left_numbers = λ h le low. kept h (inr le) ∙ so.left_numbers h (omega arith) low;
    within = are;
    long = long' ∙ so.long;
  }
    where
      other : (h : ℕ) → h < c → h ≢ k → h ≢ k + 1 → lane c h n samples' ≡ lane c h n samples
      other h low ne ne' = same-lane c h n samples' samples (λ j. others j h low ne ne')

      kept : (h : ℕ) → (h < k) ⊎ (k + 2 ≤ h) → channel_numbers blob numbers' h ≡ channel_numbers blob numbers h
      kept h (inl less) = let n = all_few h in numbers_at-same numbers' numbers (64 * h) (length (sections_of blob h)) (λ i le under. elsewhere i (inl (omega arith)))
      kept h (inr more) = let n = all_few h in numbers_at-same numbers' numbers (64 * h) (length (sections_of blob h)) (λ i le under. elsewhere i (inr (omega arith)))

  -- all channels
  pub lanes-samples : (numbers samples : List ℤ) (k : ℕ) → Passed_lanes blob c n numbers0 samples0 numbers samples k → c ≤ k → 1 ≤ c → length samples0 ≡ n * c
      → samples ≡ samples_of (passed_frames blob c (in_turn 0 (channel_numbers blob numbers0) c) (frames_of c n samples0))
  lanes-samples numbers samples k so all some whole = passed-whole blob c n (channel_numbers blob numbers0) samples0 samples some (has-numbers blob numbers0) (so.long ∙ whole) (λ h low. so.done h (omega (arith, low, all)))

  pub lanes-numbers : (numbers samples : List ℤ) (k : ℕ) → Passed_lanes blob c n numbers0 samples0 numbers samples k → c ≤ k
      → in_turn 0 (channel_numbers blob numbers) c ≡ numbers_after blob c (in_turn 0 (channel_numbers blob numbers0) c) (frames_of c n samples0)
  lanes-numbers numbers samples k so all = numbers-whole blob c n (channel_numbers blob numbers0) (channel_numbers blob numbers) samples0 (has-numbers blob numbers0) (λ h low. so.done_numbers h (omega (arith, low, all)))
