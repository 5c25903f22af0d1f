-- The vendor arrays that are built are those of the program, and fit a widget.
use Rattle.std.proofs.Common.{ℕ, ◌≤◌, List, [], ◌∷◌, ◌++◌, length, ap, arith, length-append}
use Rattle.std.proofs.lemmas.Grind.{flat_map-append}
use Rattle.tplg_model.specs.declared.tokens.NumberTuple.{NumberTuple}
use Rattle.tplg_model.specs.declared.tokens.TextTuple.{TextTuple}
use Rattle.tplg_model.specs.declared.tokens.TokenArray.{TokenArray}
use Rattle.tplg_model.specs.Arrays.{Each, IsNumber, IsText, IsArray, AreArrays, array_size, array_spelling, arrays_spelling}
use Rattle.tplg_model.proofs.ArrayLaws.{length-spelling}
use Rattle.tplg_build.specs.Payloads.{number_array, text_array}

-- arrays of the program, and at most so many bytes
record FewArrays (arrays : List TokenArray) (most : ℕ) : Type 0 where
  are : AreArrays arrays
  few : length (arrays_spelling arrays) ≤ most

none : (most : ℕ) → FewArrays [] most
unfolding Each
none most = record { are = tt; few = omega arith }

one : (a : TokenArray) (most : ℕ) → IsArray a → array_size a ≤ most → FewArrays (a ∷ []) most
unfolding Each
one a most is few = record {
  are = (is, tt);
  few = omega (arith, length-append (array_spelling a) [], length-spelling a is, few);
}

numbers_few : (ts : List NumberTuple) → Each IsNumber ts → length ts ≤ 1000000 → FewArrays (number_array ts) 8000012
numbers_few [] all few = none 8000012
numbers_few (t ∷ ts) all few = one _ 8000012 (record { size = omega (arith, few); elements = (omega arith, omega arith, all) }) (omega (arith, few))

texts_few : (ts : List TextTuple) → Each IsText ts → length ts ≤ 1000000 → FewArrays (text_array ts) 48000012
texts_few [] all few = none 48000012
texts_few (t ∷ ts) all few = one _ 48000012 (record { size = omega (arith, few); elements = all }) (omega (arith, few))

pub each_append : {A : Type 0} (Is : A → Type 0) (xs ys : List A) → Each Is xs → Each Is ys → Each Is (xs ++ ys)
unfolding Each
each_append Is [] ys a b = b
each_append Is (x ∷ xs) ys a b = (a.0, each_append Is xs ys a.1 b)

pub each_one : {A : Type 0} (Is : A → Type 0) (x : A) → Is x → Each Is (x ∷ [])
unfolding Each
each_one Is x is = (is, tt)

module _ (numbers : List NumberTuple) (texts : List TextTuple) (are_numbers : Each IsNumber numbers) (are_texts : Each IsText texts) (few_numbers : length numbers ≤ 1000000) (few_texts : length texts ≤ 1000000) where
  pub arrays_are : AreArrays (number_array numbers ++ text_array texts)
  arrays_are = each_append IsArray (number_array numbers) (text_array texts) (numbers_few numbers are_numbers few_numbers).are (texts_few texts are_texts few_texts).are

  pub arrays_size : length (arrays_spelling (number_array numbers ++ text_array texts)) ≤ 56000024
  arrays_size =
      omega (arith, ap length (flat_map-append array_spelling (number_array numbers) (text_array texts)), length-append (arrays_spelling (number_array numbers)) (arrays_spelling (text_array texts)), (numbers_few numbers are_numbers few_numbers).few, (texts_few texts are_texts few_texts).few)
