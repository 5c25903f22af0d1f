-- The numbers of sections that lie side by side, in parts.
use Rattle.std.proofs.Common.{◌≡◌, refl, sym, ap, subst, ◌∙◌, ℕ, ◌+◌, ◌-◌, ◌*◌, ◌^◌, ◌<◌, ◌≤◌, List, [], ◌∷◌, ◌++◌, map, arith, ℤ, pos, negsuc, ◌+ℤ◌, ◌-ℤ◌, ◌*ℤ◌, nat_abs, w32, w64, FitsSigned, to_z, of_z}
use Rattle.std.specs.Int.{int_div_euclid}
use Rattle.std.specs.Int.Signed.{shr_z}
use Rattle.std.proofs.lemmas.Int.{ints, to_z-of_z}
use Rattle.sof_base.specs.Equations.{Section, section_output}
use Rattle.sof_base.specs.Samples.{sat, rounded}
use Rattle.stream_law.specs.Equaliser.{next_inner, passed_sections}
use Rattle.eq_biquad.specs.Pairs.{left_number, right_number, BothAre, inner_of_sum, HasRoomToRound}
use Rattle.eq_biquad.specs.declared.stages.NearPair.{NearPair}
use Rattle.eq_biquad.specs.PairForms.{FitsBeside, HasUnitGain, IsNear, AreNear, GoesThrough, left_numbers, right_numbers}
use Rattle.eq_biquad.specs.NarrowSections.{IsNarrow}
use Rattle.eq_biquad.proofs.ArithLaws.{shr-is, shr-low, abs-sum}
use Rattle.eq_biquad.proofs.NearLaws.{sat-fits, fits}
use Rattle.eq_biquad.proofs.PairLaws.{known-again, product-low}

-- ---- the inner value

-- what is held to 32 bits fits
pub held-fits : (z : ℤ) → FitsSigned w32 (sat 32 z)
held-fits (pos n) = record { sfits = omega arith }
held-fits (negsuc n) = record { sfits = omega arith }

-- the inner values and the outputs of both fit
pub inners-fit : (s t : Section) (a b x y : ℤ) (w : List ℤ) → w ≡ next_inner s a x ∷ next_inner t b y ∷ [] → BothAre (FitsSigned w32) w
inners-fit s t a b x y w is = subst (BothAre (FitsSigned w32)) (sym is) (refl, (held-fits (rounded 30 ((s.b0 *ℤ x) +ℤ a)), held-fits (rounded 30 ((t.b0 *ℤ y) +ℤ b))))

pub outputs-fit : (s t : Section) (x y : ℤ) (w : List ℤ) → w ≡ section_output s x ∷ section_output t y ∷ [] → BothAre (FitsSigned w32) w
outputs-fit s t x y w is = subst (BothAre (FitsSigned w32)) (sym is) (refl, (held-fits (rounded (nat_abs (pos 14 +ℤ s.shift)) (x *ℤ s.gain)), held-fits (rounded (nat_abs (pos 14 +ℤ t.shift)) (y *ℤ t.gain))))

-- the sum as the code has it, and by the first number
pub inner-next : (p f a : ℤ) → inner_of_sum ((p +ℤ f) +ℤ a) ≡ sat 32 (rounded 30 (p +ℤ ((a +ℤ f) -ℤ pos 536870912)))
inner-next p f a = ap (λ z. sat 32 (int_div_euclid z (pos 1073741824))) (moved p f a)
  where
    moved : (p f a : ℤ) → (p +ℤ f) +ℤ a ≡ (p +ℤ ((a +ℤ f) -ℤ pos 536870912)) +ℤ pos 536870912
    moved p f a = omega (arith, ints)

-- ---- the output where the gain is 1

pub plain-output : (s : Section) (w : ℤ) → HasUnitGain s → FitsSigned w32 w → section_output s w ≡ w
plain-output s w plain fit =
    let z = (w *ℤ pos 16384) +ℤ pos 8192 in
    let parts = shr-low z 16384 (omega arith) in
    let is : int_div_euclid z (pos 16384) ≡ w = sym (shr-is z 16384) ∙ near w (shr_z z 16384) parts.0 parts.1.0 parts.1.1 in
    (λ i. sat 32 (rounded (nat_abs (pos 14 +ℤ plain.0 i)) (w *ℤ plain.1 i)))
    ∙ ap (sat 32) is
    ∙ sat-fits w fit
  where
    near : (w h : ℤ) (r : ℕ) → r < 16384 → (w *ℤ pos 16384) +ℤ pos 8192 ≡ (h *ℤ pos 16384) +ℤ pos r → h ≡ w
    near w h r small is = omega (arith, ints, small, is)

-- ---- coefficients of both

-- a pair of two numbers that were passed, passed again
pub coefficients-again : (pair : List ℤ) (a b : ℤ) → pair ≡ to_z w32 (of_z w32 a) ∷ to_z w32 (of_z w32 b) ∷ [] → FitsSigned w32 a → FitsSigned w32 b → map (to_z w32) (map (of_z w32) pair) ≡ a ∷ b ∷ []
coefficients-again pair a b is fit_a fit_b = known-again w32 pair a b (is ∙ (λ i. to_z-of_z w32 a fit_a i ∷ to_z-of_z w32 b fit_b i ∷ [])) fit_a fit_b

-- ---- a section more

abbrev pub ahead_next : Section → ℤ → ℤ → ℤ
ahead_next s x second = ((s.b1 *ℤ x) +ℤ second) +ℤ pos 536870912

abbrev pub fed_next : Section → ℤ → ℤ
fed_next s w = s.a1 *ℤ w

abbrev pub second_next : Section → ℤ → ℤ → ℤ
second_next s x w = (s.b2 *ℤ x) +ℤ (s.a2 *ℤ w)

-- a second number that 64 bits hold
abbrev pub IsLow : Section → ℤ → Type 0
IsLow s second = nat_abs second ≤ (nat_abs s.b2 + nat_abs s.a2) * 2 ^ 31

module _ (s : Section) (x w second : ℤ) (beside : FitsBeside s) (fit_x : FitsSigned w32 x) (fit_w : FitsSigned w32 w) (low : IsLow s second) where
  low_ahead : nat_abs (ahead_next s x second) ≤ nat_abs s.b1 * 2 ^ 31 + (nat_abs s.b2 + nat_abs s.a2) * 2 ^ 31 + 536870912
  low_ahead =
      abs-sum ((s.b1 *ℤ x) +ℤ second) (pos 536870912) (nat_abs s.b1 * 2 ^ 31 + (nat_abs s.b2 + nat_abs s.a2) * 2 ^ 31) 536870912
      (abs-sum (s.b1 *ℤ x) second (nat_abs s.b1 * 2 ^ 31) ((nat_abs s.b2 + nat_abs s.a2) * 2 ^ 31) (product-low s.b1 x fit_x) low)
      (omega arith)

  low_fed : nat_abs (fed_next s w) ≤ nat_abs s.a1 * 2 ^ 31
  low_fed = product-low s.a1 w fit_w

  low_second : nat_abs (second_next s x w) ≤ nat_abs s.b2 * 2 ^ 31 + nat_abs s.a2 * 2 ^ 31
  low_second = abs-sum (s.b2 *ℤ x) (s.a2 *ℤ w) (nat_abs s.b2 * 2 ^ 31) (nat_abs s.a2 * 2 ^ 31) (product-low s.b2 x fit_x) (product-low s.a2 w fit_w)

  pub ahead-fits : FitsSigned w64 (ahead_next s x second)
  ahead-fits = fits (ahead_next s x second) (omega (arith, low_ahead, beside.ahead))

  pub fed-fits : FitsSigned w64 (fed_next s w)
  fed-fits = fits (fed_next s w) (omega (arith, low_fed, beside.even))

  pub second-fits : FitsSigned w64 (second_next s x w)
  second-fits = fits (second_next s x w) (omega (arith, low_second, beside.ahead))

  pub next-near : IsNear s (ahead_next s x second +ℤ fed_next s w) (fed_next s w) (second_next s x w)
  next-near =
      let all = abs-sum (ahead_next s x second) (fed_next s w) (nat_abs s.b1 * 2 ^ 31 + (nat_abs s.b2 + nat_abs s.a2) * 2 ^ 31 + 536870912) (nat_abs s.a1 * 2 ^ 31) low_ahead low_fed in
      record { sum = omega (arith, all, beside.all); fed = low_fed; second = omega (arith, low_second) }

pub has-room : (s : Section) (second : ℤ) → FitsBeside s → IsLow s second → HasRoomToRound s.b1 second
has-room s second beside low = omega (arith, low, beside.ahead)

-- a sample through a section
goes-one : (s : Section) (first second x w y : ℤ) → w ≡ next_inner s first x → y ≡ section_output s w
    → GoesThrough (s ∷ []) (first ∷ second ∷ []) x (((ahead_next s x second +ℤ fed_next s w) -ℤ pos 536870912) ∷ second_next s x w ∷ []) y
goes-one s first second x w y inner out = record {
  sample = out ∙ ap (section_output s) inner;
  numbers = λ i. first_is (s.b1 *ℤ x) second (s.a1 *ℤ inner i) i ∷ ((s.b2 *ℤ x) +ℤ (s.a2 *ℤ inner i)) ∷ [];
}
  where
    first_is : (p q r : ℤ) → (((p +ℤ q) +ℤ pos 536870912) +ℤ r) -ℤ pos 536870912 ≡ (p +ℤ r) +ℤ q
    first_is p q r = omega (arith, ints)

-- a sample through two
pub goes-two : (s t : Section) (a b c d a' b' c' d' x x' y y' z z' : ℤ) → GoesThrough (s ∷ []) (a ∷ b ∷ []) x' (a' ∷ b' ∷ []) y → x' ≡ x → GoesThrough (t ∷ []) (c ∷ d ∷ []) y' (c' ∷ d' ∷ []) z → y' ≡ y → z' ≡ z
    → GoesThrough (s ∷ t ∷ []) (a ∷ b ∷ c ∷ d ∷ []) x (a' ∷ b' ∷ c' ∷ d' ∷ []) z'
goes-two s t a b c d a' b' c' d' x x' y y' z z' one in_x two in_y out =
    let middle : y' ≡ (passed_sections (s ∷ []) (a ∷ b ∷ []) x).sample = in_y ∙ one.sample ∙ ap (λ v. (passed_sections (s ∷ []) (a ∷ b ∷ []) v).sample) in_x in
    record {
      sample = out ∙ two.sample ∙ ap (λ v. (passed_sections (t ∷ []) (c ∷ d ∷ []) v).sample) middle;
      numbers = λ i. (one.numbers ∙ ap (λ v. (passed_sections (s ∷ []) (a ∷ b ∷ []) v).numbers) in_x) i ++ (two.numbers ∙ ap (λ v. (passed_sections (t ∷ []) (c ∷ d ∷ []) v).numbers) middle) i;
    }

-- ---- both

module _ (s t : Section) (beside : FitsBeside s × FitsBeside t) (x w second : List ℤ) (fit_x : BothAre (FitsSigned w32) x) (fit_w : BothAre (FitsSigned w32) w)
    (low : IsLow s (left_number second) × IsLow t (right_number second)) (near : NearPair)
    (ahead_is : near.ahead ≡ ahead_next s (left_number x) (left_number second) ∷ ahead_next t (right_number x) (right_number second) ∷ [])
    (fed_is : near.fed ≡ fed_next s (left_number w) ∷ fed_next t (right_number w) ∷ [])
    (second_is : near.second ≡ second_next s (left_number x) (left_number w) ∷ second_next t (right_number x) (right_number w) ∷ []) where
  pub stage-near : AreNear s t near
  stage-near =
      let xl = left_number x in let xr = right_number x in let wl = left_number w in let wr = right_number w in let nl = left_number second in let nr = right_number second in
      let left = next-near s xl wl nl beside.0 fit_x.1.0 fit_w.1.0 low.0 in let right = next-near t xr wr nr beside.1 fit_x.1.1 fit_w.1.1 low.1 in
      record {
        parts = record {
          ahead = subst (BothAre (FitsSigned w64)) (sym ahead_is) (refl, (ahead-fits s xl wl nl beside.0 fit_x.1.0 fit_w.1.0 low.0, ahead-fits t xr wr nr beside.1 fit_x.1.1 fit_w.1.1 low.1));
          fed = subst (BothAre (FitsSigned w64)) (sym fed_is) (refl, (fed-fits s xl wl nl beside.0 fit_x.1.0 fit_w.1.0 low.0, fed-fits t xr wr nr beside.1 fit_x.1.1 fit_w.1.1 low.1));
          second = subst (BothAre (FitsSigned w64)) (sym second_is) (refl, (second-fits s xl wl nl beside.0 fit_x.1.0 fit_w.1.0 low.0, second-fits t xr wr nr beside.1 fit_x.1.1 fit_w.1.1 low.1));
          sums = subst (λ (v : List ℤ × List ℤ). (nat_abs (left_number v.0 +ℤ left_number v.1) < 7 * 2 ^ 61) × (nat_abs (right_number v.0 +ℤ right_number v.1) < 7 * 2 ^ 61)) (λ i. (sym ahead_is i, sym fed_is i))
              (omega (arith, left.sum), omega (arith, right.sum));
        };
        left = subst (λ (v : List ℤ × (List ℤ × List ℤ)). IsNear s (left_number v.0 +ℤ left_number v.1.0) (left_number v.1.0) (left_number v.1.1)) (λ i. (sym ahead_is i, (sym fed_is i, sym second_is i))) left;
        right = subst (λ (v : List ℤ × (List ℤ × List ℤ)). IsNear t (right_number v.0 +ℤ right_number v.1.0) (right_number v.1.0) (right_number v.1.1)) (λ i. (sym ahead_is i, (sym fed_is i, sym second_is i))) right;
      }

  pub stage-left : (first y : ℤ) → left_number w ≡ next_inner s first (left_number x) → y ≡ section_output s (left_number w) → GoesThrough (s ∷ []) (first ∷ left_number second ∷ []) (left_number x) (left_numbers near) y
  stage-left first y inner out =
      subst (λ (ns : List ℤ). GoesThrough (s ∷ []) (first ∷ left_number second ∷ []) (left_number x) ns y)
      (sym (λ i. ((left_number (ahead_is i) +ℤ left_number (fed_is i)) -ℤ pos 536870912) ∷ left_number (second_is i) ∷ []))
      (goes-one s first (left_number second) (left_number x) (left_number w) y inner out)

  pub stage-right : (first y : ℤ) → right_number w ≡ next_inner t first (right_number x) → y ≡ section_output t (right_number w) → GoesThrough (t ∷ []) (first ∷ right_number second ∷ []) (right_number x) (right_numbers near) y
  stage-right first y inner out =
      subst (λ (ns : List ℤ). GoesThrough (t ∷ []) (first ∷ right_number second ∷ []) (right_number x) ns y)
      (sym (λ i. ((right_number (ahead_is i) +ℤ right_number (fed_is i)) -ℤ pos 536870912) ∷ right_number (second_is i) ∷ []))
      (goes-one t first (right_number second) (right_number x) (right_number w) y inner out)

-- ---- parts of the first numbers

-- the numbers that a section begins with, in parts
pub begun-near : (s : Section) (first second : ℤ) → nat_abs first ≤ 2 ^ 63 - 2 ^ 30 → nat_abs s.b0 ≤ 2 ^ 31 → nat_abs second ≤ (nat_abs s.b2 + nat_abs s.a2) * 2 ^ 31
    → IsNear s ((first +ℤ pos 536870912) +ℤ pos 0) (pos 0) second
begun-near s first second low few small =
    let all = abs-sum (first +ℤ pos 536870912) (pos 0) (2 ^ 63 - 2 ^ 30 + 536870912) 0 (abs-sum first (pos 536870912) (2 ^ 63 - 2 ^ 30) 536870912 low (omega arith)) (omega arith) in
    record { sum = omega (arith, all, few); fed = omega arith; second = small }

pub begun-first : (first : ℤ) → ((first +ℤ pos 536870912) +ℤ pos 0) -ℤ pos 536870912 ≡ first
begun-first first = omega (arith, ints)

pub begun-fits : (first : ℤ) → nat_abs first ≤ 2 ^ 63 - 2 ^ 30 → FitsSigned w64 (first +ℤ pos 536870912)
begun-fits first low = fits (first +ℤ pos 536870912) (let more = abs-sum first (pos 536870912) (2 ^ 63 - 2 ^ 30) 536870912 low (omega arith) in omega (arith, more))

module _ (s t : Section) (near : NearPair) (f g m n : ℤ) (ahead_is : near.ahead ≡ (f +ℤ pos 536870912) ∷ (g +ℤ pos 536870912) ∷ []) (fed_is : near.fed ≡ pos 0 ∷ pos 0 ∷ []) (second_is : near.second ≡ m ∷ n ∷ []) where
  pub begun-left : left_numbers near ≡ f ∷ m ∷ []
  begun-left = (λ i. ((left_number (ahead_is i) +ℤ left_number (fed_is i)) -ℤ pos 536870912) ∷ left_number (second_is i) ∷ []) ∙ (λ i. begun-first f i ∷ m ∷ [])

  pub begun-right : right_numbers near ≡ g ∷ n ∷ []
  begun-right = (λ i. ((right_number (ahead_is i) +ℤ right_number (fed_is i)) -ℤ pos 536870912) ∷ right_number (second_is i) ∷ []) ∙ (λ i. begun-first g i ∷ n ∷ [])

  pub begun-both : IsNarrow s f m → IsNarrow t g n → AreNear s t near
  begun-both one other =
      let left = begun-near s f m one.first_within one.input one.second_within in let right = begun-near t g n other.first_within other.input other.second_within in
      let zero : FitsSigned w64 (pos 0) = record { sfits = omega arith } in
      record {
        parts = record {
          ahead = subst (BothAre (FitsSigned w64)) (sym ahead_is) (refl, (begun-fits f one.first_within, begun-fits g other.first_within));
          fed = subst (BothAre (FitsSigned w64)) (sym fed_is) (refl, (zero, zero));
          second = subst (BothAre (FitsSigned w64)) (sym second_is) (refl, (fits m (omega (arith, one.second_within, one.ahead)), fits n (omega (arith, other.second_within, other.ahead))));
          sums = subst (λ (v : List ℤ × List ℤ). (nat_abs (left_number v.0 +ℤ left_number v.1) < 7 * 2 ^ 61) × (nat_abs (right_number v.0 +ℤ right_number v.1) < 7 * 2 ^ 61)) (λ i. (sym ahead_is i, sym fed_is i))
              (omega (arith, left.sum), omega (arith, right.sum));
        };
        left = subst (λ (v : List ℤ × (List ℤ × List ℤ)). IsNear s (left_number v.0 +ℤ left_number v.1.0) (left_number v.1.0) (left_number v.1.1)) (λ i. (sym ahead_is i, (sym fed_is i, sym second_is i))) left;
        right = subst (λ (v : List ℤ × (List ℤ × List ℤ)). IsNear t (right_number v.0 +ℤ right_number v.1.0) (right_number v.1.0) (right_number v.1.1)) (λ i. (sym ahead_is i, (sym fed_is i, sym second_is i))) right;
      }
