-- An element that is read is the element that is spelled, and what is spelled is read again.
use Rattle.std.proofs.Common.{◌≡◌, ℕ, zero, suc, ◌+◌, ◌*◌, ◌≤◌, ◌<◌, ◌^◌, List, [], ◌∷◌, ◌++◌, length, take, drop, get_or, refl, sym, ap, subst, ◌∙◌, arith, length-append}
use Rattle.std.proofs.lemmas.List.{take_at, take_more, drop_at, drop-drop, drop-take, take-take}
use Rattle.std.proofs.lemmas.Nat.{le_bytes_4, from_le_bytes-to_le_bytes_4}
use Rattle.std.specs.List.{flat_map}
use Rattle.std.specs.Int.{w32, from_le_bytes, to_le_bytes}
use Rattle.sof_base.specs.Slots.{part, word_at}
use Rattle.sof_base.proofs.FieldLaws.{IsBytes, IsBytes-part, length-part, part-add}
use Rattle.tplg_model.specs.declared.tokens.UuidTuple.{UuidTuple}
use Rattle.tplg_model.specs.declared.tokens.TextTuple.{TextTuple}
use Rattle.tplg_model.specs.declared.tokens.NumberTuple.{NumberTuple}
use Rattle.tplg_model.specs.Arrays.{Each, IsUuid, IsText, IsNumber, uuid_spelling, text_spelling, number_spelling}
use Rattle.tplg_model.specs.ArrayReading.{elements_at, uuid_at, text_at, number_tuple_at}

-- ---- words

pub word_same : (bytes : List ℕ) (at : ℕ) → IsBytes bytes → at + 4 ≤ length bytes → to_le_bytes w32 (word_at bytes at) ≡ part bytes at 4
unfolding word_at
word_same bytes at h long = le_bytes_4 (part bytes at 4) _ (length-part bytes at 4 long) (IsBytes-part bytes at 4 h) refl

pub word_fits : (bytes : List ℕ) (at : ℕ) → IsBytes bytes → at + 4 ≤ length bytes → word_at bytes at < 2 ^ 32
unfolding word_at
word_fits bytes at h long =
    let is_bytes = IsBytes-part bytes at 4 h in
    omega (arith, is_bytes 0, is_bytes 1, is_bytes 2, is_bytes 3)

pub word_again : (bytes : List ℕ) (at n : ℕ) → n < 2 ^ 32 → part bytes at 4 ≡ to_le_bytes w32 n → word_at bytes at ≡ n
unfolding word_at
word_again bytes at n lt e = ap (from_le_bytes w32) e ∙ from_le_bytes-to_le_bytes_4 n lt

-- the parts of a part
pub part_first : (bytes : List ℕ) (at m n : ℕ) (xs ys : List ℕ) → length xs ≡ m → part bytes at (m + n) ≡ xs ++ ys → part bytes at m ≡ xs
part_first bytes at m n xs ys len e = sym (take-take m (m + n) (drop at bytes) (omega arith)) ∙ ap (take m) e ∙ take_at xs ys m len

pub part_second : (bytes : List ℕ) (at m n : ℕ) (xs ys : List ℕ) → length xs ≡ m → part bytes at (m + n) ≡ xs ++ ys → part bytes (at + m) n ≡ ys
part_second bytes at m n xs ys len e = ap (take n) (sym (drop-drop m at bytes)) ∙ sym (drop-take m n (drop at bytes)) ∙ ap (drop m) e ∙ drop_at xs ys m len

-- ---- one element

pub record IsElement {A : Type 0} (size : ℕ) (element : List ℕ → ℕ → A) (spelling : A → List ℕ) (Is : A → Type 0) : Type 0 where
  pub same : (bytes : List ℕ) (at : ℕ) → IsBytes bytes → at + size ≤ length bytes → spelling (element bytes at) ≡ part bytes at size
  pub is : (bytes : List ℕ) (at : ℕ) → IsBytes bytes → at + size ≤ length bytes → Is (element bytes at)
  pub again : (bytes : List ℕ) (at : ℕ) (x : A) → Is x → part bytes at size ≡ spelling x → element bytes at ≡ x
  pub width : (x : A) → Is x → length (spelling x) ≡ size

uuid_back : (bytes : List ℕ) (at : ℕ) (t : UuidTuple) → word_at bytes at ≡ t.token → part bytes (at + 4) 16 ≡ t.bytes → uuid_at bytes at ≡ t
uuid_back bytes at t e d = rw (e, d) refl

text_back : (bytes : List ℕ) (at : ℕ) (t : TextTuple) → word_at bytes at ≡ t.token → part bytes (at + 4) 44 ≡ t.bytes → text_at bytes at ≡ t
text_back bytes at t e d = rw (e, d) refl

number_back : (bytes : List ℕ) (at : ℕ) (t : NumberTuple) → word_at bytes at ≡ t.token → word_at bytes (at + 4) ≡ t.value → number_tuple_at bytes at ≡ t
number_back bytes at t e d = rw (e, d) refl

pub uuid_element : IsElement 20 uuid_at uuid_spelling IsUuid
uuid_element = record {
  same = λ bytes at h long. ap (λ (t : List ℕ). t ++ part bytes (at + 4) 16) (word_same bytes at h (omega (arith, long))) ∙ sym (part-add bytes at 4 16);
  is = λ bytes at h long. (word_fits bytes at h (omega (arith, long)), length-part bytes (at + 4) 16 (omega (arith, long)));
  again = λ bytes at x is e. uuid_back bytes at x (word_again bytes at x.token is.0 (part_first bytes at 4 16 (to_le_bytes w32 x.token) x.bytes refl e)) (part_second bytes at 4 16 (to_le_bytes w32 x.token) x.bytes refl e);
  width = λ x is. omega (arith, length-append (to_le_bytes w32 x.token) x.bytes, is.1);
}

pub text_element : IsElement 48 text_at text_spelling IsText
text_element = record {
  same = λ bytes at h long. ap (λ (t : List ℕ). t ++ part bytes (at + 4) 44) (word_same bytes at h (omega (arith, long))) ∙ sym (part-add bytes at 4 44);
  is = λ bytes at h long. (word_fits bytes at h (omega (arith, long)), length-part bytes (at + 4) 44 (omega (arith, long)));
  again = λ bytes at x is e. text_back bytes at x (word_again bytes at x.token is.0 (part_first bytes at 4 44 (to_le_bytes w32 x.token) x.bytes refl e)) (part_second bytes at 4 44 (to_le_bytes w32 x.token) x.bytes refl e);
  width = λ x is. omega (arith, length-append (to_le_bytes w32 x.token) x.bytes, is.1);
}

pub number_element : IsElement 8 number_tuple_at number_spelling IsNumber
number_element = record {
  same = λ bytes at h long. ap (λ (t : List ℕ). t ++ to_le_bytes w32 (word_at bytes (at + 4))) (word_same bytes at h (omega (arith, long))) ∙ ap (λ (t : List ℕ). part bytes at 4 ++ t) (word_same bytes (at + 4) h (omega (arith, long))) ∙ sym (part-add bytes at 4 4);
  is = λ bytes at h long. (word_fits bytes at h (omega (arith, long)), word_fits bytes (at + 4) h (omega (arith, long)));
  again = λ bytes at x is e. number_back bytes at x (word_again bytes at x.token is.0 (part_first bytes at 4 4 (to_le_bytes w32 x.token) (to_le_bytes w32 x.value) refl e)) (word_again bytes (at + 4) x.value is.1 (part_second bytes at 4 4 (to_le_bytes w32 x.token) (to_le_bytes w32 x.value) refl e));
  width = λ x is. refl;
}

-- ---- elements one after the other

pub length-elements : {A : Type 0} (size : ℕ) (element : List ℕ → ℕ → A) (n : ℕ) (bytes : List ℕ) (at : ℕ) → length (elements_at size element n bytes at) ≡ n
unfolding elements_at
length-elements size element zero bytes at = refl
length-elements size element (suc n) bytes at = ap suc (length-elements size element n bytes (at + size))

module _ {A : Type 0} (size : ℕ) (element : List ℕ → ℕ → A) (spelling : A → List ℕ) (Is : A → Type 0) (kind : IsElement size element spelling Is) where
  pub elements_same : (n : ℕ) (bytes : List ℕ) (at : ℕ) → IsBytes bytes → at + n * size ≤ length bytes → flat_map spelling (elements_at size element n bytes at) ≡ part bytes at (n * size)
  unfolding elements_at
  elements_same zero bytes at h long = let k : 0 * size ≡ 0 = omega arith in rw k refl
  elements_same (suc n) bytes at h long =
      let k : suc n * size ≡ size + n * size = omega arith in
      let one = kind.same bytes at h (omega (arith, long, k)) in
      let others = elements_same n bytes (at + size) h (omega (arith, long, k)) in
      ap (λ (t : List ℕ). t ++ flat_map spelling (elements_at size element n bytes (at + size))) one ∙ ap (λ (t : List ℕ). part bytes at size ++ t) others ∙ sym (part-add bytes at size (n * size)) ∙ ap (part bytes at) (sym k)

  pub elements_are : (n : ℕ) (bytes : List ℕ) (at : ℕ) → IsBytes bytes → at + n * size ≤ length bytes → Each Is (elements_at size element n bytes at)
  unfolding elements_at Each
  elements_are zero bytes at h long = tt
  elements_are (suc n) bytes at h long =
      let k : suc n * size ≡ size + n * size = omega arith in
      (kind.is bytes at h (omega (arith, long, k)), elements_are n bytes (at + size) h (omega (arith, long, k)))

  pub elements_width : (xs : List A) → Each Is xs → length (flat_map spelling xs) ≡ length xs * size
  unfolding Each
  elements_width [] are = omega arith
  elements_width (x ∷ xs) are =
      let k : suc (length xs) * size ≡ size + length xs * size = omega arith in
      omega (arith, k, length-append (spelling x) (flat_map spelling xs), kind.width x are.0, elements_width xs are.1)

  pub elements_again : (xs : List A) (bytes : List ℕ) (at : ℕ) → Each Is xs → part bytes at (length xs * size) ≡ flat_map spelling xs → elements_at size element (length xs) bytes at ≡ xs
  unfolding elements_at Each
  elements_again [] bytes at are e = refl
  elements_again (x ∷ xs) bytes at are e =
      let k : suc (length xs) * size ≡ size + length xs * size = omega arith in
      let whole : part bytes at (size + length xs * size) ≡ spelling x ++ flat_map spelling xs = ap (part bytes at) (sym k) ∙ e in
      let one = kind.again bytes at x are.0 (part_first bytes at size (length xs * size) (spelling x) (flat_map spelling xs) (kind.width x are.0) whole) in
      let others = elements_again xs bytes (at + size) are.1 (part_second bytes at size (length xs * size) (spelling x) (flat_map spelling xs) (kind.width x are.0) whole) in
      rw (one, others) refl

-- what holds of each item holds of the one at a place
pub each_at : {A : Type 0} (Is : A → Type 0) (xs : List A) (i : ℕ) (d : A) → Each Is xs → i < length xs → Is (get_or xs i d)
unfolding Each
each_at Is [] i d are lt = absurd (omega arith)
each_at Is (x ∷ xs) zero d are lt = are.0
each_at Is (x ∷ xs) (suc i) d are lt = each_at Is xs i d are.1 (omega arith)

each_append : {A : Type 0} (Is : A → Type 0) (xs : List A) (x : A) → Each Is xs → Is x → Each Is (xs ++ x ∷ [])
unfolding Each
each_append Is [] x are is = (is, tt)
each_append Is (y ∷ xs) x are is = (are.0, each_append Is xs x are.1 is)

-- what holds of each item before a place, and of the item there
pub each_more : {A : Type 0} (Is : A → Type 0) (xs : List A) (i : ℕ) (x : A) → i < length xs → x ≡ get_or xs i x → Each Is (take i xs) → Is x → Each Is (take (i + 1) xs)
each_more Is xs i x lt e are is =
    subst (Each Is) (sym (take_more xs i x lt ∙ ap (λ y. take i xs ++ y ∷ []) (sym e))) (each_append Is (take i xs) x are is)
