-- Numbers digit by digit, and bytes that are text.
use Rattle.std.proofs.Common.{◌≡◌, inl, inr, ℕ, zero, suc, ◌+◌, ◌-◌, ◌*◌, ◌<◌, ◌≤◌, ◌^◌, true, false, nat_eq, List, [], ◌∷◌, length, drop, get_or, Option, Some, None, Err, refl, sym, ap, ◌∙◌, arith}
use Rattle.std.proofs.lemmas.List.{drop_more, drop_all}
use Rattle.std.proofs.lemmas.Bool.{cases_Bool}
use Rattle.std.proofs.lemmas.Grind.{common_steps}
use Rattle.std.specs.Fmt.{decimal}
use Rattle.std.specs.Char.{digit_value}
use Rattle.std.specs.Int.{IsInRange}
use Rattle.std.specs.Str.Parse.{AllDigits, digits_value, digits_value_after}
use Rattle.std.proofs.lemmas.Str.{digit_value_digit}
use Rattle.std.proofs.lemmas.Str.Parse.{IsNumeralModel, digit_from_value}
use Rattle.std.proofs.lemmas.Fmt.{decimal_digit, decimal_nonempty, first_decimal, digits_decimal, digits_value-decimal, decimal-digits_value}
use Rattle.sof_script.specs.declared.fault_causes.Cause.TheVariants as causes
use Rattle.sof_script.specs.Splitting.{is_plain_byte, all_plain}
use Rattle.sof_script.specs.ValueForms.{is_digit, digits_behind, begins_well, decimal_value, in_range, number_value}

digit_step : (n b : ℕ) (rest : List ℕ) → is_digit b ≡ true → digits_behind n (b ∷ rest) ≡ digits_behind (n * 10 + (b - 48)) rest
unfolding digits_behind
digit_step n b rest is = rw is refl

digit_stop : (n b : ℕ) (rest : List ℕ) → is_digit b ≡ false → digits_behind n (b ∷ rest) ≡ None
unfolding digits_behind
digit_stop n b rest is = rw is refl

-- a number grows by its digits
grows : (bytes : List ℕ) (m n : ℕ) → digits_behind m bytes ≡ Some n → m ≤ n
unfolding digits_behind
grows [] m n is = let same : m ≡ n = cc is in omega arith
grows (b ∷ bytes) m n is = elim (cases_Bool (is_digit b)) [
  | inl digit ↦
      let more = rw digit at is in
      let further : m * 10 + (b - 48) ≤ n = grows bytes (m * 10 + (b - 48)) n more in
      omega arith
  | inr other ↦ let none = rw other at is in absurd (cc none)
]

pub digits_more : (bytes : List ℕ) (i n : ℕ) → digits_behind 0 bytes ≡ digits_behind n (drop i bytes) → i < length bytes → is_digit (get_or bytes i 0) ≡ true → digits_behind 0 bytes ≡ digits_behind (n * 10 + (get_or bytes i 0 - 48)) (drop (i + 1) bytes)
digits_more bytes i n so_far more is = so_far ∙ ap (digits_behind n) (drop_more bytes i 0 more) ∙ digit_step n (get_or bytes i 0) (drop (i + 1) bytes) is

pub digits_stop : (bytes : List ℕ) (i n : ℕ) → digits_behind 0 bytes ≡ digits_behind n (drop i bytes) → i < length bytes → is_digit (get_or bytes i 0) ≡ false → digits_behind 0 bytes ≡ None
digits_stop bytes i n so_far more is = so_far ∙ ap (digits_behind n) (drop_more bytes i 0 more) ∙ digit_stop n (get_or bytes i 0) (drop (i + 1) bytes) is

pub digits_large : (bytes rest : List ℕ) (m n : ℕ) → digits_behind 0 bytes ≡ digits_behind m rest → digits_behind 0 bytes ≡ Some n → m ≤ n
digits_large bytes rest m n so_far is = grows rest m n (sym so_far ∙ is)

pub digits_end : (bytes : List ℕ) (i n : ℕ) → digits_behind 0 bytes ≡ digits_behind n (drop i bytes) → length bytes ≤ i → digits_behind 0 bytes ≡ Some n
unfolding digits_behind
digits_end bytes i n so_far past = so_far ∙ ap (digits_behind n) (drop_all i bytes past)

-- ---- text

plain_small : (b : ℕ) → is_plain_byte b ≡ true → b < 128
plain_small b is = grind (arith, common_steps)

pub plain_ascii : (bytes : List ℕ) → all_plain bytes ≡ true → (i : ℕ) → get_or bytes i 0 < 128
unfolding all_plain
plain_ascii [] is i = omega arith
plain_ascii (b ∷ bytes) is i = elim (cases_Bool (is_plain_byte b)) [
  | inl plain ↦ at_place b bytes (plain_small b plain) (plain_ascii bytes (rw plain at is)) i
  | inr other ↦ let wrong = rw other at is in absurd (cc wrong)
]
  where
    at_place : (b : ℕ) (bytes : List ℕ) → b < 128 → ((i : ℕ) → get_or bytes i 0 < 128) → (i : ℕ) → get_or (b ∷ bytes) i 0 < 128
    at_place b bytes first rest zero = first
    at_place b bytes first rest (suc i) = rest i

-- ---- numbers in a range

range_large : (least most : ℕ) (o : Option ℕ) → most < 2 ^ 32 → ((n : ℕ) → o ≡ Some n → 2 ^ 32 ≤ n) → in_range least most o ≡ Err causes.Number
range_large least most None small large = refl
range_large least most (Some n) small large = let there : 2 ^ 32 ≤ n = large n refl in grind (arith, common_steps)

pub number_large : (token : List ℕ) (least most : ℕ) → most < 2 ^ 32 → ((n : ℕ) → digits_behind 0 token ≡ Some n → 2 ^ 32 ≤ n) → number_value least most token ≡ Err causes.Number
number_large token least most small large = elim (cases_Bool (begins_well token)) [
  | inl well ↦ rw well (range_large least most (digits_behind 0 token) small large)
  | inr ill ↦ rw ill refl
]

pub number_found : (token : List ℕ) (least most n : ℕ) → begins_well token ≡ true → digits_behind 0 token ≡ Some n → number_value least most token ≡ in_range least most (Some n)
number_found token least most n well is = rw (well, is) refl

-- ---- numbers and what is written for them

digit_range : (d : ℕ) → is_digit d ≡ true → IsInRange 48 57 d
digit_range d is = (grind (arith, common_steps), grind (arith, common_steps))

in_digits : (d : ℕ) → IsInRange 48 57 d → is_digit d ≡ true
in_digits d range = let low = range.0 in let high = range.1 in grind (arith, common_steps)

small_digit : (d : ℕ) → IsInRange 48 57 d → digit_value d < 10
small_digit d range = omega (arith, digit_value_digit d range, range.1)

digit_less : (d : ℕ) → IsInRange 48 57 d → digit_value d ≡ d - 48
digit_less d range = let value = digit_value_digit d range in omega (arith, value)

own : IsNumeralModel (AllDigits 10) (digits_value 10)
own = record { to = λ ds p. p; from = λ ds p. p; same = λ ds p. refl }

digits_told : (n : ℕ) (ds : List ℕ) (m : ℕ) → digits_behind n ds ≡ Some m → AllDigits 10 ds × (digits_value_after 10 n ds ≡ m)
unfolding digits_behind
digits_told n [] m is = (tt, cc is)
digits_told n (d ∷ ds) m is = elim (cases_Bool (is_digit d)) [
  | inl digit ↦
      let more = rw digit at is in
      let value : digit_value d ≡ d - 48 = digit_less d (digit_range d digit) in
      let rest = digits_told (n * 10 + (d - 48)) ds m more in
      ((small_digit d (digit_range d digit), rest.0), ap (λ (v : ℕ). digits_value_after 10 (n * 10 + v) ds) value ∙ rest.1)
  | inr other ↦ let none = rw other at is in absurd (cc none)
]

digits_read : (n : ℕ) (ds : List ℕ) → AllDigits 10 ds → digits_behind n ds ≡ Some (digits_value_after 10 n ds)
unfolding digits_behind
digits_read n [] all = refl
digits_read n (d ∷ ds) all =
    let range = digit_from_value d all.0 in
    let digit : is_digit d ≡ true = in_digits d range in
    let value : digit_value d ≡ d - 48 = digit_less d range in
    rw digit (digits_read (n * 10 + (d - 48)) ds all.1 ∙ ap (λ (v : ℕ). Some (digits_value_after 10 (n * 10 + v) ds)) (sym value))

well_begun : (ds : List ℕ) → begins_well ds ≡ true → (0 < length ds) × (get_or ds 0 0 ≡ 48 → length ds ≡ 1)
well_begun [] is = absurd (cc is)
well_begun (d ∷ []) is = (omega arith, λ zero_first. refl)
well_begun (d ∷ e ∷ ds) is = (omega arith, λ zero_first. let wrong = rw zero_first at is in absurd (cc wrong))

begun_well : (ds : List ℕ) → 0 < length ds → 48 < get_or ds 0 0 → begins_well ds ≡ true
begun_well [] some more = absurd (omega (arith, some))
begun_well (d ∷ []) some more = refl
begun_well (d ∷ e ∷ ds) some more = let other : nat_eq d 48 ≡ false = grind (arith, common_steps) in rw other refl

decimal_begins : (n : ℕ) → n < 2 ^ 64 → begins_well (decimal n) ≡ true
decimal_begins zero small = ap begins_well (decimal_digit 0 (omega arith))
decimal_begins (suc n) small = begun_well (decimal (suc n)) (decimal_nonempty (suc n) small) (first_decimal (suc n) (omega arith) small)

-- a number below 2^64 is read of its decimal digits alone
pub decimal_read : (token : List ℕ) (n : ℕ) → n < 2 ^ 64 → decimal_value token ≡ Some n → token ≡ decimal n
decimal_read token n small is = elim (cases_Bool (begins_well token)) [
  | inl well ↦
      let told = digits_told 0 token n (rw well at is) in
      let first = well_begun token well in
      sym (decimal-digits_value own token told.0 first.0 first.1 (omega (arith, told.1, small))) ∙ ap decimal told.1
  | inr ill ↦ let none = rw ill at is in absurd (cc none)
]

pub decimal_again : (n : ℕ) → n < 2 ^ 64 → decimal_value (decimal n) ≡ Some n
decimal_again n small =
    let read = digits_read 0 (decimal n) (digits_decimal own n small) ∙ ap (λ (m : ℕ). Some m) (digits_value-decimal own n small) in
    elim (cases_Bool (begins_well (decimal n))) [
      | inl well ↦ rw well read
      | inr ill ↦ absurd (cc (sym ill ∙ decimal_begins n small))
    ]
