-- Words of one width and of any value, and pairs, that are read one after the other.
use Rattle.std.proofs.Common.{◌≡◌, ℕ, zero, suc, ◌+◌, ◌-◌, ◌*◌, ◌<◌, ◌≤◌, List, [], ◌∷◌, ◌++◌, length, take, set, Result, Ok, Err, refl, sym, ap, ◌∙◌, arith}
use Rattle.std.proofs.lemmas.Bool.{le-leb, lt-leb}
use Rattle.std.proofs.lemmas.List.{take_more_set}
use Rattle.std.specs.Prelude.{◌==◌}
use Rattle.sof_base.specs.Slots.{word_at}
use Rattle.ipc3_model.specs.declared.fault.CodecFault.{CodecFault}
use Rattle.ipc3_model.specs.declared.fault.CodecFault.TheVariants.{Field}
use Rattle.ipc3_model.specs.Places.{any_bytes, any_word, word_of}
use Rattle.ipc3_model.specs.ControlWords.{value_places, pair_values_at}
use Rattle.ipc3_codec.specs.Reading.{◌>>=◌, number_in, word_in, read_as, run_in, pair_in}

-- a place that lies within the size word, of any value
pub passes : (b : List ℕ) (at width : ℕ) → at + width ≤ word_at b 0 → word_in b (any_bytes at width) ≡ Ok (number_in b (any_bytes at width))
unfolding word_in
passes b at width within = rw (le-leb (at + width) (word_at b 0) within) refl

-- and one that does not
pub fails : (b : List ℕ) (at width : ℕ) → word_at b 0 < at + width → word_in b (any_bytes at width) ≡ Err (Field at)
unfolding word_in
fails b at width beyond = rw (lt-leb (at + width) (word_at b 0) beyond) refl

pub run_none : (b : List ℕ) (width at : ℕ) → run_in b width at 0 ≡ Ok tt
unfolding run_in
run_none b width at = refl

run_first : (b : List ℕ) (width at n : ℕ) → run_in b width at (suc n) ≡ (word_in b (any_bytes at width) >>= λ _. run_in b width (at + width) n)
unfolding run_in
run_first b width at n = refl

-- one word less
pub run_passes : (b : List ℕ) (width at i n : ℕ) → i < n → at + width * i + width ≤ word_at b 0 → run_in b width (at + width * i) (n - i) ≡ run_in b width (at + width * (i + 1)) (n - (i + 1))
run_passes b width at i n lt within =
    let k : n - i ≡ suc (n - (i + 1)) = omega arith in
    let next : at + width * i + width ≡ at + width * (i + 1) = grind arith in
    rw (k, run_first b width (at + width * i) (n - (i + 1)), passes b (at + width * i) width within) (ap (λ (p : ℕ). run_in b width p (n - (i + 1))) next)

-- a word that is missing
pub run_fails : (b : List ℕ) (width at i n : ℕ) → i < n → word_at b 0 < at + width * i + width → run_in b width (at + width * i) (n - i) ≡ Err (Field (at + width * i))
run_fails b width at i n lt beyond =
    let k : n - i ≡ suc (n - (i + 1)) = omega arith in
    rw (k, run_first b width (at + width * i) (n - (i + 1)), fails b (at + width * i) width beyond) refl

-- ---- pairs

-- the pairs from a number on
abbrev pub pairs_from : List ℕ → ℕ → ℕ → List ℕ → Result (List ℕ) CodecFault
pairs_from b i n x = read_as b (value_places b i (92 + 8 * i) n) x

two_steps : {A : Type 0} (r s : Result ℕ CodecFault) (f : Result A CodecFault) → (r >>= λ _. s >>= λ _. f) ≡ ((r >>= λ _. s) >>= λ _. f)
two_steps (Ok x) s f = refl
two_steps (Err e) s f = refl

-- a pair, and those after it
pairs_step : (b : List ℕ) (i n : ℕ) (x : List ℕ) → pairs_from b i (suc n) x ≡ (pair_in b i >>= λ _. pairs_from b (i + 1) n x)
unfolding pair_in
pairs_step b i n x =
    let value : 92 + 8 * i + 4 ≡ 96 + 8 * i = omega arith in
    let next : 92 + 8 * i + 8 ≡ 92 + 8 * (i + 1) = omega arith in
    rw (value, next) (two_steps (word_in b (word_of b (92 + 8 * i) (λ c. c == i))) (word_in b (any_word (96 + 8 * i))) (pairs_from b (i + 1) n x))

pub pairs_passes : (b : List ℕ) (i n v : ℕ) (x : List ℕ) → i < n → pair_in b i ≡ Ok v → pairs_from b i (n - i) x ≡ pairs_from b (i + 1) (n - (i + 1)) x
pairs_passes b i n v x lt is =
    let k : n - i ≡ suc (n - (i + 1)) = omega arith in
    rw (k, pairs_step b i (n - (i + 1)) x, is) refl

pub pairs_fails : (b : List ℕ) (i n : ℕ) (f : CodecFault) (x : List ℕ) → i < n → pair_in b i ≡ Err f → pairs_from b i (n - i) x ≡ Err f
pairs_fails b i n f x lt is =
    let k : n - i ≡ suc (n - (i + 1)) = omega arith in
    rw (k, pairs_step b i (n - (i + 1)) x, is) refl

-- the values of one more pair
values_at-more : (n : ℕ) (b : List ℕ) (at : ℕ) → pair_values_at (n + 1) b at ≡ pair_values_at n b at ++ word_at b (at + 4 + 8 * n) ∷ []
values_at-more zero b at = let e : at + 4 + 8 * 0 ≡ at + 4 = omega arith in rw e refl
values_at-more (suc n) b at =
    let k : suc n + 1 ≡ suc (n + 1) = omega arith in
    let e : at + 8 + 4 + 8 * n ≡ at + 4 + 8 * suc n = omega arith in
    rw (k, ← e) (ap (λ (t : List ℕ). word_at b (at + 4) ∷ t) (values_at-more n b (at + 8)))

pub values_step : (b values : List ℕ) (i v : ℕ) → i < length values → pair_values_at i b 92 ≡ take i values → v ≡ word_at b (96 + 8 * i) → pair_values_at (i + 1) b 92 ≡ take (i + 1) (set values i v)
values_step b values i v lt so_far is =
    let e : 92 + 4 + 8 * i ≡ 96 + 8 * i = omega arith in
    values_at-more i b 92 ∙ rw (e, so_far, ← is) (sym (take_more_set values i v lt))
