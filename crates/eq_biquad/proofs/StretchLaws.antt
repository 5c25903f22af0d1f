-- Channels through more and more of their sections.
use Rattle.std.proofs.Common.{◌≡◌, refl, sym, ap, subst, ◌∙◌, ℕ, zero, suc, ◌+◌, ◌*◌, ◌<◌, ◌≤◌, ◌⊎◌, inl, inr, List, [], ◌∷◌, ◌++◌, length, true, arith, ℤ, ◌+ℤ◌, ◌*ℤ◌}
use Rattle.sof_base.specs.Blob.{section_at, signed_at, is_shift}
use Rattle.sof_base.specs.Equations.{Section, section_output}
use Rattle.sof_base.specs.Samples.{sample_of}
use Rattle.stream_law.specs.Equaliser.{next_inner, Passed, passed_sections}
use Rattle.eq_biquad.specs.Lanes.{lane}
use Rattle.eq_biquad.specs.Passing.{passed_samples, numbers_passed}
use Rattle.eq_biquad.specs.PieceWords.{wide_at, numbers_at, AreNumbers}
use Rattle.eq_blob.specs.declared.section.Found.{Found}
use Rattle.eq_blob.specs.Sections.{sections_in, AreWithin}
use Rattle.eq_biquad.specs.Stretches.{LaneGoes, IsElsewhere, OnlyChannel, OnlyChannels}
use Rattle.eq_biquad.proofs.LaneLaws.{same-lane}
use Rattle.eq_biquad.proofs.Lookups.{length-sections}
use Rattle.eq_biquad.proofs.NumberLaws.{numbers_at-same, length-numbers_at}
use Rattle.eq_biquad.proofs.PassLaws.{passed-none, numbers-none, length-numbers}

-- ---- some sections, and then others

-- what a sample becomes by both
abbrev Then : List Section → List ℤ → Passed → Passed
Then ss numbers p = let q = passed_sections ss numbers p.sample in record { sample = q.sample; numbers = p.numbers ++ q.numbers }

one-then : (ss tt : List Section) (ns ms : List ℤ) (x : ℤ) → length ns ≡ 2 * length ss → passed_sections (ss ++ tt) (ns ++ ms) x ≡ Then tt ms (passed_sections ss ns x)
one-then [] tt [] ms x long = refl
one-then [] tt (a ∷ ns) ms x long = absurd (omega (arith, long))
one-then (s ∷ ss) tt [] ms x long = absurd (omega (arith, long))
one-then (s ∷ ss) tt (a ∷ []) ms x long = absurd (omega (arith, long))
one-then (s ∷ ss) tt (a ∷ b ∷ ns) ms x long =
    let w = next_inner s a x in
    let rest = one-then ss tt ns ms (section_output s w) (omega (arith, long)) in
    λ i. record { sample = (rest i).sample; numbers = (((s.b1 *ℤ x) +ℤ (s.a1 *ℤ w)) +ℤ b) ∷ ((s.b2 *ℤ x) +ℤ (s.a2 *ℤ w)) ∷ (rest i).numbers }

pub samples-then : (ss tt : List Section) (ns ms xs : List ℤ) → length ns ≡ 2 * length ss → passed_samples (ss ++ tt) (ns ++ ms) xs ≡ passed_samples tt ms (passed_samples ss ns xs)
samples-then ss tt ns ms [] long = refl
samples-then ss tt ns ms (x ∷ xs) long =
    let p = passed_sections ss ns x in let q = passed_sections tt ms p.sample in
    (λ i. (one-then ss tt ns ms x long i).sample ∷ passed_samples (ss ++ tt) (one-then ss tt ns ms x long i).numbers xs)
    ∙ ap (λ (t : List ℤ). q.sample ∷ t) (samples-then ss tt p.numbers q.numbers xs (length-numbers ss ns x))

pub numbers-then : (ss tt : List Section) (ns ms xs : List ℤ) → length ns ≡ 2 * length ss → numbers_passed (ss ++ tt) (ns ++ ms) xs ≡ numbers_passed ss ns xs ++ numbers_passed tt ms (passed_samples ss ns xs)
numbers-then ss tt ns ms [] long = refl
numbers-then ss tt ns ms (x ∷ xs) long =
    let p = passed_sections ss ns x in let q = passed_sections tt ms p.sample in
    ap (λ (t : List ℤ). numbers_passed (ss ++ tt) t xs) (ap (λ (r : Passed). r.numbers) (one-then ss tt ns ms x long))
    ∙ numbers-then ss tt p.numbers q.numbers xs (length-numbers ss ns x)

pub sections-then : (b : List ℕ) (p m n : ℕ) → sections_in b p (m + n) ≡ sections_in b p m ++ sections_in b (p + 28 * m) n
sections-then b p zero n =
    let e : p ≡ p + 28 * 0 = omega arith in let few : 0 + n ≡ n = omega arith in
    λ i. sections_in b (e i) (few i)
sections-then b p (suc m) n =
    ap (sections_in b p) (let more : suc m + n ≡ suc (m + n) = omega arith in more)
    ∙ ap (λ (t : List Section). section_at b p ∷ t)
    (sections-then b (p + 28) m n ∙ ap (λ q. sections_in b (p + 28) m ++ sections_in b q n) (let e : p + 28 + 28 * m ≡ p + 28 * suc m = omega arith in e))

pub words-then : (ws : List ℤ) (p m n : ℕ) → numbers_at ws p (m + n) ≡ numbers_at ws p m ++ numbers_at ws (p + 8 * m) n
words-then ws p zero n =
    let e : p ≡ p + 8 * 0 = omega arith in let few : 0 + n ≡ n = omega arith in
    λ i. numbers_at ws (e i) (few i)
words-then ws p (suc m) n =
    ap (numbers_at ws p) (let more : suc m + n ≡ suc (m + n) = omega arith in more)
    ∙ ap (λ (t : List ℤ). wide_at ws p ∷ wide_at ws (p + 4) ∷ t)
    (words-then ws (p + 8) m n ∙ ap (λ q. numbers_at ws (p + 8) m ++ numbers_at ws q n) (let e : p + 8 + 8 * m ≡ p + 8 * suc m = omega arith in e))

-- ---- a channel through its first sections

pub goes-none : (b : List ℕ) (p base c k f : ℕ) (words samples : List ℤ) → LaneGoes (sections_in b p 0) base 0 c k f words samples words samples
goes-none b p base c k f words samples = record { samples = sym (passed-none [] (lane c k f samples)); numbers = sym (numbers-none (lane c k f samples)) }

-- the same where place, words and count are written otherwise
pub goes-moved : (b : List ℕ) (p base n p' base' n' c k f : ℕ) (words samples words' samples' : List ℤ) → p ≡ p' → base ≡ base' → n ≡ n'
    → LaneGoes (sections_in b p n) base n c k f words samples words' samples' → LaneGoes (sections_in b p' n') base' n' c k f words samples words' samples'
goes-moved b p base n p' base' n' c k f words samples words' samples' e g h so =
    subst (λ (v : ℕ × (ℕ × ℕ)). LaneGoes (sections_in b v.0 v.1.1) v.1.0 v.1.1 c k f words samples words' samples') (λ i. (e i, (g i, h i))) so

-- the same of all sections of a list
pub goes-of : (b : List ℕ) (ss : List Section) (p base n base' c k f : ℕ) (words samples words' samples' : List ℤ) → sections_in b p n ≡ ss → base ≡ base'
    → LaneGoes (sections_in b p n) base n c k f words samples words' samples' → LaneGoes ss base' (length ss) c k f words samples words' samples'
goes-of b ss p base n base' c k f words samples words' samples' same e so =
    let count : n ≡ length ss = sym (length-sections b p n) ∙ ap (λ (ss : List Section). length ss) same in
    subst (λ (v : List Section × (ℕ × ℕ)). LaneGoes v.0 v.1.0 v.1.1 c k f words samples words' samples') (λ i. (same i, (e i, count i))) so

-- the same from samples and numbers that are known
pub goes-known : (b : List ℕ) (ss : List Section) (ns ns' : List ℤ) (p base n m c k f : ℕ) (words samples words' samples' : List ℤ) → ss ≡ sections_in b p m → ns ≡ numbers_at words base m → n ≡ m
    → lane c k f samples' ≡ passed_samples ss ns (lane c k f samples) → numbers_at words' base m ≡ ns' → ns' ≡ numbers_passed ss ns (lane c k f samples)
    → LaneGoes (sections_in b p n) base n c k f words samples words' samples'
goes-known b ss ns ns' p base n m c k f words samples words' samples' is at count out put after =
    subst (λ m. LaneGoes (sections_in b p m) base m c k f words samples words' samples') (sym count) (record {
      samples = out ∙ (λ i. passed_samples (is i) (at i) (lane c k f samples));
      numbers = put ∙ after ∙ (λ i. numbers_passed (is i) (at i) (lane c k f samples));
    })

-- some sections of those that were found
pub part-within : (b : List ℕ) (f g : Found) (s : ℕ) → AreWithin b f → s + g.count ≤ f.count → g.place ≡ f.place + 7 * s → AreWithin b g
part-within b f g s all few is = record {
  few = omega (arith, few, all.few);
  bytes = omega (arith, few, is, all.bytes);
  shifts = λ t lt. subst (λ q. is_shift (signed_at b q) ≡ true) (let e : 4 * f.place + 28 * (s + t) + 20 ≡ 4 * g.place + 28 * t + 20 = omega (arith, is) in e) (all.shifts (s + t) (omega (arith, few, lt)));
}

-- the shift of one of them
pub shift-within : (b : List ℕ) (f : Found) (s q : ℕ) (z : ℤ) → AreWithin b f → s < f.count → z ≡ signed_at b q → 4 * f.place + 28 * s + 20 ≡ q → is_shift z ≡ true
shift-within b f s q z all lt is at = subst (λ v. is_shift v ≡ true) (ap (signed_at b) at ∙ sym is) (all.shifts s lt)

-- words outside of a channel's numbers are outside of those of its sections
pub outside-all : (k count i : ℕ) → count ≤ 8 → (i < 64 * k) ⊎ (64 * k + 64 ≤ i) → IsElsewhere (8 * k) count i
outside-all k count i few (inl low) = inl (omega (arith, low))
outside-all k count i few (inr high) = inr (omega (arith, few, high))

-- words outside of many sections' numbers are outside of fewer
pub outside-fewer : (base s n i : ℕ) → s ≤ n → (i < base) ⊎ (base + 8 * n ≤ i) → (i < base) ⊎ (base + 8 * s ≤ i)
outside-fewer base s n i le (inl low) = inl low
outside-fewer base s n i le (inr high) = inr (omega (arith, le, high))

-- words outside of two channels' numbers are outside of those of both
pub outside-pair : (base m n i : ℕ) → m ≤ 8 → n ≤ 8 → (i < base) ⊎ (base + 128 ≤ i) → ((i < base) ⊎ (base + 8 * m ≤ i)) × ((i < base + 64) ⊎ (base + 64 + 8 * n ≤ i))
outside-pair base m n i few few' (inl low) = (inl low, inl (omega (arith, low)))
outside-pair base m n i few few' (inr high) = (inr (omega (arith, few, high)), inr (omega (arith, few', high)))

-- and the same written otherwise
pub outside-part : (slot count base m i : ℕ) → 8 * slot ≡ base → count ≡ m → (i < base) ⊎ (base + 8 * m ≤ i) → IsElsewhere slot count i
outside-part slot count base m i e g (inl low) = inl (omega (arith, e, low))
outside-part slot count base m i e g (inr high) = inr (omega (arith, e, g, high))

-- m sections, and then n more
pub goes-more : (b : List ℕ) (p base m n c k f : ℕ) (words0 samples0 words samples words' samples' : List ℤ)
    → LaneGoes (sections_in b p m) base m c k f words0 samples0 words samples
    → LaneGoes (sections_in b (p + 28 * m) n) (base + 8 * m) n c k f words samples words' samples'
    → ((i : ℕ) → base + 8 * m ≤ i → i < base + 8 * m + 8 * n → sample_of words i ≡ sample_of words0 i)
    → ((i : ℕ) → base ≤ i → i < base + 8 * m → sample_of words' i ≡ sample_of words i)
    → LaneGoes (sections_in b p (m + n)) base (m + n) c k f words0 samples0 words' samples'
goes-more b p base m n c k f words0 samples0 words samples words' samples' so next fresh kept =
    let ss = sections_in b p m in let tt = sections_in b (p + 28 * m) n in
    let ns = numbers_at words0 base m in let ms = numbers_at words0 (base + 8 * m) n in
    let old = lane c k f samples0 in
    let long : length ns ≡ 2 * length ss = omega (arith, length-numbers_at words0 base m, length-sections b p m) in
    let unread : numbers_at words (base + 8 * m) n ≡ ms = numbers_at-same words words0 (base + 8 * m) n fresh in
    let done : numbers_at words' base m ≡ numbers_at words base m = numbers_at-same words' words base m kept in
    record {
      samples =
          next.samples
          ∙ (λ i. passed_samples tt (unread i) (so.samples i))
          ∙ sym ((λ i. passed_samples (sections-then b p m n i) (words-then words0 base m n i) old) ∙ samples-then ss tt ns ms old long);
      numbers =
          words-then words' base m n
          ∙ (λ i. (done ∙ so.numbers) i ++ (next.numbers ∙ (λ j. numbers_passed tt (unread j) (so.samples j))) i)
          ∙ sym ((λ i. numbers_passed (sections-then b p m n i) (words-then words0 base m n i) old) ∙ numbers-then ss tt ns ms old long);
    }

-- ---- one channel

-- after so many sections of a channel, whose numbers stand from a word on
pub record StretchPasses (b : List ℕ) (p base c k f : ℕ) (words0 samples0 words samples : List ℤ) (s : ℕ) : Type 0 where
  pub goes : LaneGoes (sections_in b p s) base s c k f words0 samples0 words samples
  pub others : OnlyChannel c k samples0 samples
  pub elsewhere : (i : ℕ) → (i < base) ⊎ (base + 8 * s ≤ i) → sample_of words i ≡ sample_of words0 i
  pub within : AreNumbers words
  pub long : length samples ≡ length samples0

pub stretch-none : (b : List ℕ) (p base c k f : ℕ) (words samples : List ℤ) → AreNumbers words → StretchPasses b p base c k f words samples words samples 0
stretch-none b p base c k f words samples are = record {
  goes = goes-none b p base c k f words samples;
  others = λ j h low ne. refl;
  elsewhere = λ i out. refl;
  within = are;
  long = refl;
}

pub stretch-more : (b : List ℕ) (p base c k f : ℕ) (words0 samples0 words samples words' samples' : List ℤ) (s : ℕ)
    → StretchPasses b p base c k f words0 samples0 words samples s
    → LaneGoes (section_at b (p + 28 * s) ∷ []) (base + 8 * s) 1 c k f words samples words' samples'
    → OnlyChannel c k samples samples'
    → ((i : ℕ) → (i < base + 8 * s) ⊎ (base + 8 * s + 8 ≤ i) → sample_of words' i ≡ sample_of words i)
    → AreNumbers words' → length samples' ≡ length samples
    → StretchPasses b p base c k f words0 samples0 words' samples' (s + 1)
stretch-more b p base c k f words0 samples0 words samples words' samples' s so next only beside are long = record {
  goes = goes-more b p base s 1 c k f words0 samples0 words samples words' samples' so.goes next (λ i le under. so.elsewhere i (inr le)) (λ i le under. beside i (inl under));
  others = λ j h low ne. only j h low ne ∙ so.others j h low ne;
  elsewhere = λ i out. beside i (wider i out) ∙ so.elsewhere i (narrower i out);
  within = are;
  long = long ∙ so.long;
}
  where
    wider : (i : ℕ) → (i < base) ⊎ (base + 8 * (s + 1) ≤ i) → (i < base + 8 * s) ⊎ (base + 8 * s + 8 ≤ i)
    wider i (inl low) = inl (omega (arith, low))
    wider i (inr high) = inr (omega (arith, high))

    narrower : (i : ℕ) → (i < base) ⊎ (base + 8 * (s + 1) ≤ i) → (i < base) ⊎ (base + 8 * s ≤ i)
    narrower i (inl low) = inl low
    narrower i (inr high) = inr (omega (arith, high))

-- ---- two channels that lie side by side

-- after so many sections of each
pub record PairPasses (b : List ℕ) (p q base c k f : ℕ) (words0 samples0 words samples : List ℤ) (s t : ℕ) : Type 0 where
  pub left : LaneGoes (sections_in b p s) base s c k f words0 samples0 words samples
  pub right : LaneGoes (sections_in b q t) (base + 64) t c (k + 1) f words0 samples0 words samples
  pub others : OnlyChannels c k samples0 samples
  pub elsewhere : (i : ℕ) → (i < base) ⊎ (base + 8 * s ≤ i) → (i < base + 64) ⊎ (base + 64 + 8 * t ≤ i) → sample_of words i ≡ sample_of words0 i
  pub within : AreNumbers words
  pub long : length samples ≡ length samples0

pub pair-none : (b : List ℕ) (p q base c k f : ℕ) (words samples : List ℤ) → AreNumbers words → PairPasses b p q base c k f words samples words samples 0 0
pair-none b p q base c k f words samples are = record {
  left = goes-none b p base c k f words samples;
  right = goes-none b q (base + 64) c (k + 1) f words samples;
  others = λ j h low ne ne'. refl;
  elsewhere = λ i out out'. refl;
  within = are;
  long = refl;
}

pub pair-more : (b : List ℕ) (p q base c k f : ℕ) (words0 samples0 words samples words' samples' : List ℤ) (s t m n : ℕ) → s + m ≤ 8 → t + n ≤ 8
    → PairPasses b p q base c k f words0 samples0 words samples s t
    → LaneGoes (sections_in b (p + 28 * s) m) (base + 8 * s) m c k f words samples words' samples'
    → LaneGoes (sections_in b (q + 28 * t) n) (base + 64 + 8 * t) n c (k + 1) f words samples words' samples'
    → OnlyChannels c k samples samples'
    → ((i : ℕ) → (i < base + 8 * s) ⊎ (base + 8 * s + 8 * m ≤ i) → (i < base + 64 + 8 * t) ⊎ (base + 64 + 8 * t + 8 * n ≤ i) → sample_of words' i ≡ sample_of words i)
    → AreNumbers words' → length samples' ≡ length samples
    → PairPasses b p q base c k f words0 samples0 words' samples' (s + m) (t + n)
pair-more b p q base c k f words0 samples0 words samples words' samples' s t m n few few' so left right only beside are long = record {
  left = goes-more b p base s m c k f words0 samples0 words samples words' samples' so.left left
      (λ i le under. so.elsewhere i (inr le) (inl (omega (arith, under, few))))
      (λ i le under. beside i (inl under) (inl (omega (arith, under, few))));
  right = goes-more b q (base + 64) t n c (k + 1) f words0 samples0 words samples words' samples' so.right right
      (λ i le under. so.elsewhere i (inr (omega (arith, le, few))) (inr le))
      (λ i le under. beside i (inr (omega (arith, le, few))) (inl under));
  others = λ j h low ne ne'. only j h low ne ne' ∙ so.others j h low ne ne';
  elsewhere = λ i out out'. beside i (wider base s m i out) (wider (base + 64) t n i out') ∙ so.elsewhere i (narrower base s m i out) (narrower (base + 64) t n i out');
  within = are;
  long = long ∙ so.long;
}
  where
    wider : (a s m i : ℕ) → (i < a) ⊎ (a + 8 * (s + m) ≤ i) → (i < a + 8 * s) ⊎ (a + 8 * s + 8 * m ≤ i)
    wider a s m i (inl low) = inl (omega (arith, low))
    wider a s m i (inr high) = inr (omega (arith, high))

    narrower : (a s m i : ℕ) → (i < a) ⊎ (a + 8 * (s + m) ≤ i) → (i < a) ⊎ (a + 8 * s ≤ i)
    narrower a s m i (inl low) = inl low
    narrower a s m i (inr high) = inr (omega (arith, high))

-- ---- one channel, and then the one after it

module _ (c k f : ℕ) (low : k + 1 < c) (words0 samples0 words samples words' samples' : List ℤ) where
  -- the first one stays as it is
  pub stays-left : (ss : List Section) (base n : ℕ) → LaneGoes ss base n c k f words0 samples0 words samples → OnlyChannel c (k + 1) samples samples' → ((i : ℕ) → base ≤ i → i < base + 8 * n → sample_of words' i ≡ sample_of words i)
      → LaneGoes ss base n c k f words0 samples0 words' samples'
  stays-left ss base n so only kept = record {
    samples = same-lane c k f samples' samples (λ j. only j k (omega (arith, low)) (λ e. absurd (omega (arith, e)))) ∙ so.samples;
    numbers = numbers_at-same words' words base n kept ∙ so.numbers;
  }

  -- the second one was as it was
  pub was-right : (ss : List Section) (base n : ℕ) → LaneGoes ss base n c (k + 1) f words samples words' samples' → OnlyChannel c k samples0 samples → ((i : ℕ) → base ≤ i → i < base + 8 * n → sample_of words i ≡ sample_of words0 i)
      → LaneGoes ss base n c (k + 1) f words0 samples0 words' samples'
  was-right ss base n so only kept =
      let xs : lane c (k + 1) f samples ≡ lane c (k + 1) f samples0 = same-lane c (k + 1) f samples samples0 (λ j. only j (k + 1) low (λ e. absurd (omega (arith, e)))) in
      let ns : numbers_at words base n ≡ numbers_at words0 base n = numbers_at-same words words0 base n kept in
      record {
        samples = so.samples ∙ (λ i. passed_samples ss (ns i) (xs i));
        numbers = so.numbers ∙ (λ i. numbers_passed ss (ns i) (xs i));
      }

  pub only-two : OnlyChannel c k samples0 samples → OnlyChannel c (k + 1) samples samples' → OnlyChannels c k samples0 samples'
  only-two one other = λ j h lt ne ne'. other j h lt ne' ∙ one j h lt ne
