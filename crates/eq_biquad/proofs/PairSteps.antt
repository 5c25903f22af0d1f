-- One frame more of two channels that lie side by side.
use Rattle.std.proofs.Common.{◌≡◌, ◌≢◌, refl, sym, ap, subst, ◌∙◌, ℕ, suc, ◌+◌, ◌*◌, ◌<◌, ◌≤◌, List, length, take, get_or, arith, ℤ, pos}
use Rattle.std.proofs.lemmas.List.{take_all, same_lists, get_or_default}
use Rattle.sof_base.specs.Samples.{sample_of}
use Rattle.sof_base.specs.Equations.{Section}
use Rattle.stream_law.specs.Equaliser.{passed_sections}
use Rattle.eq_biquad.specs.Lanes.{lane}
use Rattle.eq_biquad.specs.PairForms.{GoesThrough}
use Rattle.eq_biquad.specs.Passing.{passed_samples, numbers_passed}
use Rattle.eq_biquad.specs.Stretches.{OnlyChannels}
use Rattle.eq_biquad.proofs.PassLaws.{numbers_passed-more, get-passed, length-passed}
use Rattle.eq_biquad.proofs.LaneLaws.{length-lane, get-lane, other-place, other-frame}
use Rattle.eq_blob.proofs.Cases.{by_less}

-- one channel after j of n frames, whatever the others are
pub record Runs (ss : List Section) (ns : List ℤ) (c k n : ℕ) (old now : List ℤ) (numbers : List ℤ) (j : ℕ) : Type 0 where
  pub done : (i : ℕ) → i < j → sample_of now (i * c + k) ≡ get_or (passed_samples ss ns (lane c k n old)) i (pos 0)
  pub left : (i : ℕ) → j ≤ i → sample_of now (i * c + k) ≡ sample_of old (i * c + k)
  pub after : numbers ≡ numbers_passed ss ns (take j (lane c k n old))

runs-none : (ss : List Section) (ns : List ℤ) (c k n : ℕ) (old : List ℤ) → Runs ss ns c k n old old ns 0
runs-none ss ns c k n old = record {
  done = λ i lt. absurd (omega arith);
  left = λ i le. refl;
  after = refl;
}

module _ (ss : List Section) (ns : List ℤ) (c k n : ℕ) (old : List ℤ) where
  runs-more : (now now' numbers numbers' : List ℤ) (j : ℕ) → Runs ss ns c k n old now numbers j → j < n
      → GoesThrough ss numbers (sample_of now (j * c + k)) numbers' (sample_of now' (j * c + k))
      → ((i : ℕ) → i ≢ j → sample_of now' (i * c + k) ≡ sample_of now (i * c + k))
      → Runs ss ns c k n old now' numbers' (j + 1)
  runs-more now now' numbers numbers' j so lt goes rest =
      let xs = lane c k n old in
      let count : length xs ≡ n = length-lane c k n old in
      let input : get_or xs j (pos 0) ≡ sample_of now (j * c + k) = get-lane c k n old j (pos 0) lt ∙ sym (so.left j (omega arith)) in
      record {
        done = λ i under. by_less i j
            (λ less. rest i (λ e. absurd (omega (arith, less, e))) ∙ so.done i less)
            (λ same. let e : i ≡ j = omega arith in
            ap (λ m. sample_of now' (m * c + k)) e
            ∙ goes.sample
            ∙ sym (ap (λ m. get_or (passed_samples ss ns xs) m (pos 0)) e
            ∙ get-passed ss ns xs j (pos 0) (omega arith)
            ∙ (λ m. (passed_sections ss (sym so.after m) (input m)).sample)));
        left = λ i le. rest i (λ e. absurd (omega (arith, le, e))) ∙ so.left i (omega arith);
        after =
            goes.numbers
            ∙ sym (ap (λ m. numbers_passed ss ns (take m xs)) (let e : j + 1 ≡ suc j = omega arith in e)
            ∙ numbers_passed-more ss ns xs j (omega arith)
            ∙ (λ m. (passed_sections ss (sym so.after m) (input m)).numbers));
      }

  -- all frames
  pub runs-samples : (now numbers : List ℤ) (j : ℕ) → Runs ss ns c k n old now numbers j → n ≤ j → lane c k n now ≡ passed_samples ss ns (lane c k n old)
  runs-samples now numbers j so le =
      let xs = lane c k n old in
      let count : length xs ≡ n = length-lane c k n old in
      same_lists (lane c k n now) (passed_samples ss ns xs) (length-lane c k n now ∙ sym (length-passed ss ns xs ∙ count)) (λ i d lt.
      let lt' : i < n = omega (arith, length-lane c k n now) in
      get-lane c k n now i d lt' ∙ so.done i (omega arith)
      ∙ get_or_default (passed_samples ss ns xs) i (pos 0) d (omega (arith, length-passed ss ns xs)))

  pub runs-numbers : (now numbers : List ℤ) (j : ℕ) → Runs ss ns c k n old now numbers j → n ≤ j → numbers ≡ numbers_passed ss ns (lane c k n old)
  runs-numbers now numbers j so le =
      let xs = lane c k n old in
      let count : length xs ≡ n = length-lane c k n old in
      so.after ∙ ap (numbers_passed ss ns) (take_all j xs (omega arith))

-- both channels
pub record RunsBoth (ss tt : List Section) (ns ms : List ℤ) (c k n : ℕ) (old now : List ℤ) (ns' ms' : List ℤ) (j : ℕ) : Type 0 where
  pub left : Runs ss ns c k n old now ns' j
  pub right : Runs tt ms c (k + 1) n old now ms' j
  pub others : OnlyChannels c k old now
  pub long : length now ≡ length old

pub both-none : (ss tt : List Section) (ns ms : List ℤ) (c k n : ℕ) (old : List ℤ) → RunsBoth ss tt ns ms c k n old old ns ms 0
both-none ss tt ns ms c k n old = record {
  left = runs-none ss ns c k n old;
  right = runs-none tt ms c (k + 1) n old;
  others = λ i h low ne ne'. refl;
  long = refl;
}

pub both-more : (ss tt : List Section) (ns ms : List ℤ) (c k n : ℕ) (old now now' ns' ms' ns'' ms'' : List ℤ) (j : ℕ) → k + 1 < c → j < n
    → RunsBoth ss tt ns ms c k n old now ns' ms' j
    → GoesThrough ss ns' (sample_of now (j * c + k)) ns'' (sample_of now' (j * c + k))
    → GoesThrough tt ms' (sample_of now (j * c + k + 1)) ms'' (sample_of now' (j * c + k + 1))
    → ((i : ℕ) → i ≢ j * c + k → i ≢ j * c + k + 1 → sample_of now' i ≡ sample_of now i)
    → length now' ≡ length now
    → RunsBoth ss tt ns ms c k n old now' ns'' ms'' (j + 1)
both-more ss tt ns ms c k n old now now' ns' ms' ns'' ms'' j low lt so left right rest long =
    let place : j * c + k + 1 ≡ j * c + (k + 1) = omega arith in
    let less : k < c = omega (arith, low) in
    record {
      left = runs-more ss ns c k n old now now' ns' ns'' j so.left lt left (λ i ne. rest (i * c + k)
          (other-frame i j c k (omega (arith, low)) ne)
          (λ e. other-place i j c k (k + 1) less low (λ e'. absurd (omega (arith, e'))) (e ∙ place)));
      right = runs-more tt ms c (k + 1) n old now now' ms' ms'' j so.right lt
          (subst (λ p. GoesThrough tt ms' (sample_of now p) ms'' (sample_of now' p)) place right)
          (λ i ne. rest (i * c + (k + 1))
          (λ e. other-place i j c (k + 1) k low less (λ e'. absurd (omega (arith, e'))) e)
          (λ e. other-frame i j c (k + 1) (omega (arith, low)) ne (e ∙ place)));
      others = λ i h small ne ne'. rest (i * c + h)
          (other-place i j c h k small less ne)
          (λ e. other-place i j c h (k + 1) small low ne' (e ∙ place))
          ∙ so.others i h small ne ne';
      long = long ∙ so.long;
    }
