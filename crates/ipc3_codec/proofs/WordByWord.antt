-- Words that are read one after the other.
use Rattle.std.proofs.Common.{◌≡◌, ℕ, true, false, cond, List, [], ◌∷◌, ◌++◌, Some, Result, Ok, Err, refl, ap, ◌∙◌}
use Rattle.std.specs.List.{find}
use Rattle.ipc3_model.specs.Places.{Place, any_run, is_bad, field_fault}
use Rattle.ipc3_model.specs.Messages.{faultless}
use Rattle.ipc3_model.specs.declared.fault.CodecFault.{CodecFault}
use Rattle.ipc3_model.specs.declared.fault.CodecFault.TheVariants.{Field}
use Rattle.ipc3_codec.specs.Reading.{◌>>=◌, number_in, word_in, read_as, run_in}

-- x, or the first bad place
pub read_as-is : {A : Type 0} (b : List ℕ) (places : List Place) (x : A) → read_as b places x ≡ faultless (field_fault (find (is_bad b) places)) x
unfolding word_in
read_as-is b [] x = refl
read_as-is b (place ∷ places) x =
    let w : Result ℕ CodecFault = Ok (number_in b place) in
    elim (is_bad b place) as (λ t. (cond t (Err (Field place.at)) w >>= λ _. read_as b places x) ≡ faultless (field_fault (cond t (Some place) (find (is_bad b) places))) x) [ true ↦ refl | false ↦ read_as-is b places x ]

-- what is read, and what follows it
pub read_as-append : {A B : Type 0} (b : List ℕ) (ps qs : List Place) (x : A) (y : B) (f : A → Result B CodecFault) → f x ≡ read_as b qs y → (read_as b ps x >>= f) ≡ read_as b (ps ++ qs) y
read_as-append b [] qs x y f e = e
read_as-append b (p ∷ ps) qs x y f e =
    elim (word_in b p) as (λ r. (r >>= (λ _. read_as b ps x) >>= f) ≡ (r >>= λ _. read_as b (ps ++ qs) y)) [ Ok n ↦ read_as-append b ps qs x y f e | Err z ↦ refl ]

-- a block that is read, and what follows it
pub then_read : {A B : Type 0} (b : List ℕ) (r : Result A CodecFault) (ps qs : List Place) (x : A) (y : B) (f : A → Result B CodecFault) → r ≡ read_as b ps x → f x ≡ read_as b qs y → (r >>= f) ≡ read_as b (ps ++ qs) y
then_read b r ps qs x y f is e = ap (λ r. r >>= f) is ∙ read_as-append b ps qs x y f e

-- a run, and what follows it
pub then_run : {B : Type 0} (b : List ℕ) (width at n : ℕ) (qs : List Place) (y : B) (f : Unit {0} → Result B CodecFault) → f tt ≡ read_as b qs y → (run_in b width at n >>= f) ≡ read_as b (any_run width at n ++ qs) y
unfolding run_in
then_run b width at n qs y f e = read_as-append b (any_run width at n) qs tt y f e

-- a word, and what follows it
pub then_word : {B : Type 0} (b : List ℕ) (place : Place) (qs : List Place) (y : B) (f : ℕ → Result B CodecFault) → ((n : ℕ) → f n ≡ read_as b qs y) → (word_in b place >>= f) ≡ read_as b (place ∷ qs) y
then_word b place qs y f e = elim (word_in b place) as (λ r. (r >>= f) ≡ (r >>= λ _. read_as b qs y)) [ Ok n ↦ e n | Err z ↦ refl ]
