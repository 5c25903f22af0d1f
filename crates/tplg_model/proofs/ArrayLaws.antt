-- An array that is read is the array that is spelled, and what is spelled is read again.
use Rattle.std.proofs.Common.{◌≡◌, ℕ, zero, suc, ◌+◌, ◌*◌, ◌≤◌, ◌<◌, ◌^◌, Bool, true, false, cond, eqb, ltb, List, [], ◌∷◌, ◌++◌, length, take, Option, Some, None, refl, sym, ap, ◌∙◌, arith, length-append}
use Rattle.std.proofs.lemmas.Bool.{eqb-true, eq-eqb, ne_eqb, ltb-false, le-ltb}
use Rattle.std.proofs.lemmas.List.{take_at}
use Rattle.std.specs.Int.{w32, to_le_bytes}
use Rattle.sof_base.specs.Slots.{part, word_at}
use Rattle.sof_base.proofs.FieldLaws.{IsBytes, part-add}
use Rattle.tplg_model.specs.declared.tokens.NumberTuple.{NumberTuple}
use Rattle.tplg_model.specs.declared.tokens.TokenArray.{TokenArray}
use Rattle.tplg_model.specs.declared.tokens.TokenArray.TheVariants.{Uuid, Text, Number}
use Rattle.tplg_model.specs.Arrays.{element_size, array_type, count_of, array_size, uuid_spelling, text_spelling, number_spelling, elements_spelling, array_spelling, Each, IsUuid, IsText, IsNumber, HasElements, IsArray, ArrayFault, array_fault}
use Rattle.tplg_model.specs.ArrayReading.{elements_at, uuid_at, text_at, number_tuple_at, array_with, array_at}
use Rattle.tplg_model.proofs.ElementLaws.{word_same, word_fits, word_again, uuid_element, text_element, number_element, length-elements, elements_same, elements_are, elements_width, elements_again}

-- ---- the tests of an array's three words

-- the array at the front of bytes is whole
pub record IsWhole (bytes : List ℕ) : Type 0 where
  pub long : 12 ≤ length bytes
  pub known : word_at bytes 4 ≤ 5
  pub size : word_at bytes 0 ≡ 12 + word_at bytes 8 * element_size (word_at bytes 4)
  pub room : word_at bytes 0 ≤ length bytes

passed : (b : Bool) (f : ArrayFault) (r : Option ArrayFault) → cond b (Some f) r ≡ None → (b ≡ false) × (r ≡ None)
passed true f r e = absurd cc
passed false f r e = (refl, e)

passed_not : (b : Bool) (f : ArrayFault) (r : Option ArrayFault) → cond b r (Some f) ≡ None → (b ≡ true) × (r ≡ None)
passed_not true f r e = (refl, e)
passed_not false f r e = absurd cc

pub whole_from : (at : ℕ) (bytes : List ℕ) → array_fault at bytes ≡ None → IsWhole bytes
whole_from at bytes e =
    let a = passed (ltb (length bytes) 12) _ _ e in
    let b = passed (ltb 5 (word_at bytes 4)) _ _ a.1 in
    let d = passed_not (eqb (word_at bytes 0) (12 + word_at bytes 8 * element_size (word_at bytes 4))) _ _ b.1 in
    let r = passed (ltb (length bytes) (word_at bytes 0)) _ _ d.1 in
    record { long = ltb-false _ _ a.0; known = ltb-false _ _ b.0; size = eqb-true _ _ d.0; room = ltb-false _ _ r.0 }

pub fault_none : (at : ℕ) (bytes : List ℕ) → IsWhole bytes → array_fault at bytes ≡ None
fault_none at bytes w =
    let a : ltb (length bytes) 12 ≡ false = le-ltb _ _ w.long in
    let b : ltb 5 (word_at bytes 4) ≡ false = le-ltb _ _ w.known in
    let d : eqb (word_at bytes 0) (12 + word_at bytes 8 * element_size (word_at bytes 4)) ≡ true = eq-eqb _ _ w.size in
    let r : ltb (length bytes) (word_at bytes 0) ≡ false = le-ltb _ _ w.room in
    rw (a, b, d, r) refl

-- ---- what is read is spelled so

-- an array of a type and a number of elements that was read
record Reads (kind count : ℕ) (bytes : List ℕ) (a : TokenArray) : Type 0 where
  type_is : array_type a ≡ kind
  count_is : count_of a ≡ count
  same : elements_spelling a ≡ part bytes 12 (count * element_size kind)
  has : HasElements a

pub number_size : (kind : ℕ) → 2 ≤ kind → element_size kind ≡ 8
number_size kind le =
    let a : eqb kind 0 ≡ false = ne_eqb kind 0 (λ e. omega (arith, e, le)) in
    let b : eqb kind 1 ≡ false = ne_eqb kind 1 (λ e. omega (arith, e, le)) in
    rw (a, b) refl

number_array : (kind count : ℕ) (bytes : List ℕ) → 2 ≤ kind → array_with kind count bytes ≡ Number (record { kind = kind; items = elements_at 8 number_tuple_at count bytes 12 })
number_array kind count bytes le =
    let a : eqb kind 0 ≡ false = ne_eqb kind 0 (λ e. omega (arith, e, le)) in
    let b : eqb kind 1 ≡ false = ne_eqb kind 1 (λ e. omega (arith, e, le)) in
    rw (a, b) refl

numbers_read : (kind count : ℕ) (bytes : List ℕ) → IsBytes bytes → 2 ≤ kind → kind ≤ 5 → 12 + count * element_size kind ≤ length bytes → Reads kind count bytes (array_with kind count bytes)
numbers_read kind count bytes h from to long =
    let eight = number_size kind from in
    let fits : 12 + count * 8 ≤ length bytes = rw eight at long in
    rw (number_array kind count bytes from) (record {
      type_is = refl;
      count_is = length-elements 8 number_tuple_at count bytes 12;
      same = rw eight (elements_same 8 number_tuple_at number_spelling IsNumber number_element count bytes 12 h fits);
      has = (from, to, elements_are 8 number_tuple_at number_spelling IsNumber number_element count bytes 12 h fits);
    })

with_read : (kind count : ℕ) (bytes : List ℕ) → IsBytes bytes → kind ≤ 5 → 12 + count * element_size kind ≤ length bytes → Reads kind count bytes (array_with kind count bytes)
with_read zero count bytes h known long = record {
  type_is = refl;
  count_is = length-elements 20 uuid_at count bytes 12;
  same = elements_same 20 uuid_at uuid_spelling IsUuid uuid_element count bytes 12 h long;
  has = elements_are 20 uuid_at uuid_spelling IsUuid uuid_element count bytes 12 h long;
}
with_read (suc zero) count bytes h known long = record {
  type_is = refl;
  count_is = length-elements 48 text_at count bytes 12;
  same = elements_same 48 text_at text_spelling IsText text_element count bytes 12 h long;
  has = elements_are 48 text_at text_spelling IsText text_element count bytes 12 h long;
}
with_read (suc (suc k)) count bytes h known long = numbers_read (suc (suc k)) count bytes h (omega arith) known long

words_same : (bytes : List ℕ) (n : ℕ) → IsBytes bytes → 12 + n ≤ length bytes → to_le_bytes w32 (word_at bytes 0) ++ (to_le_bytes w32 (word_at bytes 4) ++ (to_le_bytes w32 (word_at bytes 8) ++ part bytes 12 n)) ≡ part bytes 0 (4 + (4 + (4 + n)))
words_same bytes n h long =
    let a = word_same bytes 0 h (omega (arith, long)) in
    let b = word_same bytes 4 h (omega (arith, long)) in
    let c = word_same bytes 8 h (omega (arith, long)) in
    let third : to_le_bytes w32 (word_at bytes 8) ++ part bytes 12 n ≡ part bytes 8 (4 + n) = ap (λ (t : List ℕ). t ++ part bytes 12 n) c ∙ sym (part-add bytes 8 4 n) in
    let second : to_le_bytes w32 (word_at bytes 4) ++ (to_le_bytes w32 (word_at bytes 8) ++ part bytes 12 n) ≡ part bytes 4 (4 + (4 + n)) = ap (λ (t : List ℕ). to_le_bytes w32 (word_at bytes 4) ++ t) third ∙ ap (λ (t : List ℕ). t ++ part bytes 8 (4 + n)) b ∙ sym (part-add bytes 4 4 (4 + n)) in
    ap (λ (t : List ℕ). to_le_bytes w32 (word_at bytes 0) ++ t) second ∙ ap (λ (t : List ℕ). t ++ part bytes 4 (4 + (4 + n))) a ∙ sym (part-add bytes 0 4 (4 + (4 + n)))

spelled_so : (a : TokenArray) (size kind count : ℕ) (elements : List ℕ) → array_size a ≡ size → array_type a ≡ kind → count_of a ≡ count → elements_spelling a ≡ elements → array_spelling a ≡ to_le_bytes w32 size ++ (to_le_bytes w32 kind ++ (to_le_bytes w32 count ++ elements))
unfolding array_spelling
spelled_so a size kind count elements s k c e = cc

pub record Took (bytes : List ℕ) : Type 0 where
  pub whole : array_spelling (array_at bytes) ≡ take (word_at bytes 0) bytes
  pub is : IsArray (array_at bytes)

pub array_takes : (bytes : List ℕ) → IsBytes bytes → IsWhole bytes → Took bytes
unfolding array_at
array_takes bytes h w =
    let size = word_at bytes 0 in
    let kind = word_at bytes 4 in
    let count = word_at bytes 8 in
    let n = count * element_size kind in
    let fits : 12 + n ≤ length bytes = omega (arith, w.size, w.room) in
    let r = with_read kind count bytes h w.known fits in
    let size_is : array_size (array_with kind count bytes) ≡ size = (rw (r.count_is, r.type_is) (sym w.size)) in
    let total : 4 + (4 + (4 + n)) ≡ size = omega (arith, w.size) in
    record {
      whole = spelled_so (array_with kind count bytes) size kind count (part bytes 12 n) size_is r.type_is r.count_is r.same ∙ words_same bytes n h fits ∙ ap (part bytes 0) total;
      is = record { size = rw size_is (word_fits bytes 0 h (omega (arith, w.long))); elements = r.has };
    }

-- ---- what is spelled is read again

record Spelled (a : TokenArray) : Type 0 where
  known : array_type a ≤ 5
  count : count_of a < 2 ^ 32
  width : length (elements_spelling a) ≡ count_of a * element_size (array_type a)

is_spelled : (a : TokenArray) → IsArray a → Spelled a
is_spelled (Uuid items) is = record { known = omega arith; count = omega (arith, is.size); width = elements_width 20 uuid_at uuid_spelling IsUuid uuid_element items is.elements }
is_spelled (Text items) is = record { known = omega arith; count = omega (arith, is.size); width = elements_width 48 text_at text_spelling IsText text_element items is.elements }
is_spelled (Number numbers) is =
    let eight = number_size numbers.kind is.elements.0 in
    let small : 12 + length numbers.items * 8 < 2 ^ 32 = rw eight at is.size in
    record { known = is.elements.1; count = omega (arith, small); width = rw eight (elements_width 8 number_tuple_at number_spelling IsNumber number_element numbers.items is.elements.2) }

with_again : (a : TokenArray) (bytes : List ℕ) → HasElements a → part bytes 12 (count_of a * element_size (array_type a)) ≡ elements_spelling a → array_with (array_type a) (count_of a) bytes ≡ a
with_again (Uuid items) bytes has e = ap Uuid (elements_again 20 uuid_at uuid_spelling IsUuid uuid_element items bytes 12 has e)
with_again (Text items) bytes has e = ap Text (elements_again 48 text_at text_spelling IsText text_element items bytes 12 has e)
with_again (Number numbers) bytes has e =
    let eight = number_size numbers.kind has.0 in
    number_array numbers.kind (length numbers.items) bytes has.0
    ∙ ap (λ (items : List NumberTuple). Number (record { kind = numbers.kind; items = items })) (elements_again 8 number_tuple_at number_spelling IsNumber number_element numbers.items bytes 12 has.2 (rw eight at e))

pub length-spelling : (a : TokenArray) → IsArray a → length (array_spelling a) ≡ array_size a
unfolding array_spelling
length-spelling a is = omega (arith, (is_spelled a is).width)

pub record Again (a : TokenArray) (bytes : List ℕ) : Type 0 where
  pub whole : IsWhole bytes
  pub size : word_at bytes 0 ≡ length (array_spelling a)
  pub array : array_at bytes ≡ a

again_from : (a : TokenArray) (bytes : List ℕ) → IsArray a → word_at bytes 0 ≡ array_size a → word_at bytes 4 ≡ array_type a → word_at bytes 8 ≡ count_of a → part bytes 12 (count_of a * element_size (array_type a)) ≡ elements_spelling a → array_size a ≤ length bytes → Again a bytes
unfolding array_at
again_from a bytes is size kind count elements room =
    let p = is_spelled a is in
    record {
      whole = record { long = omega (arith, room); known = rw kind p.known; size = rw (size, kind, count) refl; room = omega (arith, size, room) };
      size = size ∙ sym (length-spelling a is);
      array = rw (kind, count) (with_again a bytes is.elements elements);
    }

pub array_again : (a : TokenArray) (rest : List ℕ) → IsArray a → Again a (array_spelling a ++ rest)
unfolding array_spelling
array_again a rest is =
    let p = is_spelled a is in
    let bytes = array_spelling a ++ rest in
    again_from a bytes is
    (word_again bytes 0 (array_size a) is.size refl)
    (word_again bytes 4 (array_type a) (omega (arith, p.known)) refl)
    (word_again bytes 8 (count_of a) p.count refl)
    (take_at (elements_spelling a) rest (count_of a * element_size (array_type a)) p.width)
    (omega (arith, p.width, length-append (elements_spelling a) rest))
