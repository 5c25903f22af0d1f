-- The laws of arrays one after the other: reading them and spelling them are one, and the fault that reading meets is the first.
use Rattle.std.proofs.Common.{◌≡◌, ℕ, zero, suc, ◌+◌, ◌≤◌, ◌<◌, false, eqb, List, [], ◌∷◌, ◌++◌, length, take, drop, Option, Some, None, Result, Ok, Err, refl, sym, ap, subst, ◌∙◌, arith, length-append, append-nil, append_assoc, add-zero, zero-add}
use Rattle.std.proofs.lemmas.Bool.{ne_eqb}
use Rattle.std.proofs.lemmas.List.{drop_at, drop-drop, take-append-drop, length-drop, length-take, nil_from_length}
use Rattle.sof_base.specs.Slots.{word_at}
use Rattle.sof_base.proofs.FieldLaws.{IsBytes, IsBytes-drop}
use Rattle.tplg_model.specs.declared.tokens.TokenArray.{TokenArray}
use Rattle.tplg_model.specs.Arrays.{array_spelling, arrays_spelling, Each, IsArray, AreArrays, ArrayFault, array_fault, IsTokenFault}
use Rattle.tplg_model.specs.ArrayReading.{AreArraysOf, array_at, unless, with_front, arrays_from, arrays_of}
use Rattle.tplg_model.proofs.ArrayLaws.{IsWhole, whole_from, fault_none, array_takes, array_again}

abbrev pub Arrays : Type 0
Arrays = List TokenArray

-- one array, and what is read after it
abbrev pub one_more : ℕ → ℕ → List ℕ → Result Arrays ArrayFault
one_more n at bytes = unless (array_fault at bytes) (with_front (array_at bytes ∷ []) (arrays_from n (at + word_at bytes 0) (drop (word_at bytes 0) bytes)))

pub turn : (n at : ℕ) (bytes : List ℕ) → 0 < length bytes → arrays_from (suc n) at bytes ≡ one_more n at bytes
unfolding arrays_from
turn n at bytes some = let t : eqb (length bytes) 0 ≡ false = ne_eqb (length bytes) 0 (λ e. omega (arith, e, some)) in rw t refl

pub at_end : (n at : ℕ) (bytes : List ℕ) → length bytes ≡ 0 → arrays_from n at bytes ≡ Ok []
unfolding arrays_from
at_end zero at bytes e = refl
at_end (suc n) at bytes e = rw e refl

-- there are no bytes, or an array at fault, or a whole one
pub data Front (at : ℕ) (bytes : List ℕ) : Type 0 where
  No_more : length bytes ≡ 0 → Front at bytes
  At_fault : (f : ArrayFault) → 0 < length bytes → array_fault at bytes ≡ Some f → Front at bytes
  An_array : 0 < length bytes → array_fault at bytes ≡ None → Front at bytes

front_of : (at : ℕ) (bytes : List ℕ) (o : Option ArrayFault) → 0 < length bytes → array_fault at bytes ≡ o → Front at bytes
front_of at bytes (Some f) some e = At_fault f some e
front_of at bytes None some e = An_array some e

front : (at : ℕ) (bytes : List ℕ) → Front at bytes
front at [] = No_more refl
front at (b ∷ bytes) = front_of at (b ∷ bytes) (array_fault at (b ∷ bytes)) (omega arith) refl

ok_same : (xs ys : Arrays) (r : Result Arrays ArrayFault) → r ≡ Ok xs → r ≡ Ok ys → xs ≡ ys
ok_same xs ys r d e = cc

-- what is left of a list of arrays after those that were read before it
front_ok : (before xs : Arrays) (read : Result Arrays ArrayFault) → with_front before read ≡ Ok xs → (ys : Arrays) × (read ≡ Ok ys) × (before ++ ys ≡ xs)
front_ok before xs (Ok ys) e = (ys, refl, cc)
front_ok before xs (Err f) e = absurd cc

front_err : (before : Arrays) (f : ArrayFault) (read : Result Arrays ArrayFault) → with_front before read ≡ Err f → read ≡ Err f
front_err before f (Ok ys) e = absurd cc
front_err before f (Err g) e = let same : g ≡ f = cc in ap (λ (k : ArrayFault). Err k) same

at_fault : (n at : ℕ) (bytes : List ℕ) (f : ArrayFault) → 0 < length bytes → array_fault at bytes ≡ Some f → arrays_from (suc n) at bytes ≡ Err f
at_fault n at bytes f some e = turn n at bytes some ∙ (rw e refl)

pub an_array : (n at : ℕ) (bytes : List ℕ) → 0 < length bytes → array_fault at bytes ≡ None → arrays_from (suc n) at bytes ≡ with_front (array_at bytes ∷ []) (arrays_from n (at + word_at bytes 0) (drop (word_at bytes 0) bytes))
an_array n at bytes some e = turn n at bytes some ∙ (rw e refl)

-- a whole array is not empty, and lies within the bytes
some_size : (bytes : List ℕ) → IsWhole bytes → 12 ≤ word_at bytes 0
some_size bytes w = omega (arith, w.size)

-- ---- what is read is spelled so

abbrev Whole : List ℕ → Arrays → Type 0
Whole bytes xs = AreArraysOf bytes xs × AreArrays xs

whole_none : (bytes : List ℕ) → length bytes ≡ 0 → Whole bytes []
unfolding Each
whole_none bytes e = (nil_from_length bytes e, tt)

whole_more : (bytes : List ℕ) (x : TokenArray) (n : ℕ) (xs : Arrays) → array_spelling x ≡ take n bytes → IsArray x → Whole (drop n bytes) xs → Whole bytes (x ∷ xs)
unfolding Each
whole_more bytes x n xs e is w = (sym (take-append-drop n bytes) ∙ ap (λ (t : List ℕ). t ++ drop n bytes) (sym e) ∙ ap (λ (t : List ℕ). array_spelling x ++ t) w.0, (is, w.1))

pub arrays_take : (n at : ℕ) (bytes : List ℕ) (xs : Arrays) → IsBytes bytes → length bytes ≤ n → arrays_from n at bytes ≡ Ok xs → Whole bytes xs
arrays_take zero at bytes xs h enough e =
    let nothing : length bytes ≡ 0 = omega arith in
    subst (λ (ys : Arrays). Whole bytes ys) (ok_same [] xs (arrays_from 0 at bytes) (at_end 0 at bytes nothing) e) (whole_none bytes nothing)
arrays_take (suc n) at bytes xs h enough e =
    elim (front at bytes) [
      | No_more nothing ↦ subst (λ (ys : Arrays). Whole bytes ys) (ok_same [] xs (arrays_from (suc n) at bytes) (at_end (suc n) at bytes nothing) e) (whole_none bytes nothing)
      | At_fault f some e1 ↦ let is = at_fault n at bytes f some e1 in absurd cc
      | An_array some e1 ↦
          let size = word_at bytes 0 in
          let w = whole_from at bytes e1 in
          let big = some_size bytes w in
          let one = array_takes bytes h w in
          let a = front_ok (array_at bytes ∷ []) xs (arrays_from n (at + size) (drop size bytes)) (sym (an_array n at bytes some e1) ∙ e) in
          let others = arrays_take n (at + size) (drop size bytes) a.0 (IsBytes-drop size bytes h) (omega (arith, big, enough, length-drop size bytes)) a.1 in
          subst (λ (ys : Arrays). Whole bytes ys) a.2 (whole_more bytes (array_at bytes) size a.0 one.whole one.is others)
    ]

-- ---- what is spelled is read, and reading goes on after it

record GoesOn (n at : ℕ) (bytes : List ℕ) (xs : Arrays) (place : ℕ) (rest : List ℕ) : Type 0 where
  fuel : ℕ
  enough : length rest ≤ fuel
  is : arrays_from n at bytes ≡ with_front xs (arrays_from fuel place rest)

pub front_none : (read : Result Arrays ArrayFault) → read ≡ with_front [] read
front_none (Ok ys) = refl
front_none (Err e) = refl

front_more : (xs ys : Arrays) (read : Result Arrays ArrayFault) → with_front xs (with_front ys read) ≡ with_front (xs ++ ys) read
front_more xs ys (Ok zs) = ap (λ (t : Arrays). Ok t) (sym (append_assoc xs ys zs))
front_more xs ys (Err e) = refl

arrays_again : (xs : Arrays) (n at : ℕ) (rest : List ℕ) → AreArrays xs → length (arrays_spelling xs ++ rest) ≤ n → GoesOn n at (arrays_spelling xs ++ rest) xs (at + length (arrays_spelling xs)) rest
unfolding Each
arrays_again [] n at rest are enough = record { fuel = n; enough = enough; is = rw add-zero (front_none (arrays_from n at rest)) }
arrays_again (x ∷ xs) zero at rest are enough =
    let others = arrays_spelling xs ++ rest in
    let one = array_again x others are.0 in
    let big = some_size (array_spelling x ++ others) one.whole in
    absurd (omega (arith, enough, big, one.whole.room, ap length (append_assoc (array_spelling x) (arrays_spelling xs) rest)))
arrays_again (x ∷ xs) (suc m) at rest are enough =
    let others = arrays_spelling xs ++ rest in
    let bytes = array_spelling x ++ others in
    let regrouped : arrays_spelling (x ∷ xs) ++ rest ≡ bytes = append_assoc (array_spelling x) (arrays_spelling xs) rest in
    let one = array_again x others are.0 in
    let big = some_size bytes one.whole in
    let size = length (array_spelling x) in
    let len = length-append (array_spelling x) others in
    let after : drop size bytes ≡ others = drop_at (array_spelling x) others size refl in
    let tail = arrays_again xs m (at + size) rest are.1 (omega (arith, enough, ap length regrouped, len, one.size, big)) in
    let place : at + size + length (arrays_spelling xs) ≡ at + length (arrays_spelling (x ∷ xs)) = omega (arith, length-append (array_spelling x) (arrays_spelling xs)) in
    let first : arrays_from (suc m) at bytes ≡ with_front (x ∷ []) (arrays_from m (at + size) others) =
    an_array m at bytes (omega (arith, big, one.whole.room)) (fault_none at bytes one.whole) ∙ (rw (one.array, one.size, after) refl) in
    record {
      fuel = tail.fuel;
      enough = tail.enough;
      is = ap (arrays_from (suc m) at) regrouped ∙ first ∙ ap (with_front (x ∷ [])) tail.is ∙ front_more (x ∷ []) xs (arrays_from tail.fuel (at + size + length (arrays_spelling xs)) rest) ∙ (rw place refl);
    }

-- ---- faults

-- as IsTokenFault, for bytes that begin at a place
record FaultFrom (at : ℕ) (bytes : List ℕ) (f : ArrayFault) : Type 0 where
  arrays : Arrays
  rest : List ℕ
  whole : bytes ≡ arrays_spelling arrays ++ rest
  are : AreArrays arrays
  some_left : 0 < length rest
  first : array_fault (at + length (arrays_spelling arrays)) rest ≡ Some f

fault_here : (at : ℕ) (bytes : List ℕ) (f : ArrayFault) → 0 < length bytes → array_fault at bytes ≡ Some f → FaultFrom at bytes f
unfolding Each
fault_here at bytes f some e = record { arrays = []; rest = bytes; whole = refl; are = tt; some_left = some; first = rw add-zero e }

fault_later : (at : ℕ) (bytes : List ℕ) (x : TokenArray) (n : ℕ) (f : ArrayFault) → array_spelling x ≡ take n bytes → length (array_spelling x) ≡ n → IsArray x → FaultFrom (at + n) (drop n bytes) f → FaultFrom at bytes f
unfolding Each
fault_later at bytes x n f e len is q =
    let place : at + length (arrays_spelling (x ∷ q.arrays)) ≡ at + n + length (arrays_spelling q.arrays) = omega (arith, length-append (array_spelling x) (arrays_spelling q.arrays), len) in
    record {
      arrays = x ∷ q.arrays;
      rest = q.rest;
      whole = sym (take-append-drop n bytes) ∙ ap (λ (t : List ℕ). t ++ drop n bytes) (sym e) ∙ ap (λ (t : List ℕ). array_spelling x ++ t) q.whole ∙ sym (append_assoc (array_spelling x) (arrays_spelling q.arrays) q.rest);
      are = (is, q.are);
      some_left = q.some_left;
      first = rw place q.first;
    }

arrays_found : (n at : ℕ) (bytes : List ℕ) (f : ArrayFault) → IsBytes bytes → length bytes ≤ n → arrays_from n at bytes ≡ Err f → FaultFrom at bytes f
arrays_found zero at bytes f h enough e = let none = at_end 0 at bytes (omega arith) in absurd cc
arrays_found (suc n) at bytes f h enough e =
    elim (front at bytes) [
      | No_more nothing ↦ let none = at_end (suc n) at bytes nothing in absurd cc
      | At_fault g some e1 ↦ let is = at_fault n at bytes g some e1 in let same : g ≡ f = cc in fault_here at bytes f some (e1 ∙ ap (λ (k : ArrayFault). Some k) same)
      | An_array some e1 ↦
          let size = word_at bytes 0 in
          let w = whole_from at bytes e1 in
          let big = some_size bytes w in
          let one = array_takes bytes h w in
          let len : length (array_spelling (array_at bytes)) ≡ size = ap length one.whole ∙ (omega (arith, w.room, length-take size bytes)) in
          let others = front_err (array_at bytes ∷ []) f (arrays_from n (at + size) (drop size bytes)) (sym (an_array n at bytes some e1) ∙ e) in
          fault_later at bytes (array_at bytes) size f one.whole len one.is (arrays_found n (at + size) (drop size bytes) f (IsBytes-drop size bytes h) (omega (arith, big, enough, length-drop size bytes)) others)
    ]

last_fault : (n at : ℕ) (bytes : List ℕ) (f : ArrayFault) → 0 < length bytes → length bytes ≤ n → array_fault at bytes ≡ Some f → arrays_from n at bytes ≡ Err f
last_fault zero at bytes f some enough e = absurd (omega arith)
last_fault (suc n) at bytes f some enough e = at_fault n at bytes f some e

-- ---- the four laws

-- arrays that reading gives are the program's, and the bytes are these
pub read_is : (bytes : List ℕ) (xs : Arrays) → IsBytes bytes → arrays_of bytes ≡ Ok xs → AreArraysOf bytes xs × AreArrays xs
unfolding arrays_of
read_is bytes xs h e = arrays_take (length bytes) 0 bytes xs h (omega arith) e

-- arrays of the program that bytes are is what reading gives
pub read_again : (bytes : List ℕ) (xs : Arrays) → AreArrays xs → AreArraysOf bytes xs → arrays_of bytes ≡ Ok xs
unfolding arrays_of
read_again bytes xs are e =
    let spelled = arrays_spelling xs in
    let same = append-nil spelled in
    let g = arrays_again xs (length spelled) 0 [] are (rw same (omega arith)) in
    let last : arrays_from g.fuel (0 + length spelled) [] ≡ Ok [] = at_end g.fuel (0 + length spelled) [] refl in
    rw e ((rw same at g.is) ∙ (rw (last, append-nil xs) refl))

-- a fault that reading gives is the first one
pub fault_is : (bytes : List ℕ) (f : ArrayFault) → IsBytes bytes → arrays_of bytes ≡ Err f → IsTokenFault bytes f
unfolding arrays_of
fault_is bytes f h e =
    let q = arrays_found (length bytes) 0 bytes f h (omega arith) e in
    (q.arrays, q.rest, q.whole, q.are, q.some_left, rw zero-add at q.first)

-- the first fault is the one that reading gives
pub fault_again : (bytes : List ℕ) (f : ArrayFault) → IsTokenFault bytes f → arrays_of bytes ≡ Err f
unfolding arrays_of
fault_again bytes f q =
    let rest : List ℕ = q.1 in
    let spelled = arrays_spelling q.0 in
    let g = arrays_again q.0 (length (spelled ++ rest)) 0 rest q.3 (omega arith) in
    let place : 0 + length spelled ≡ length spelled = omega arith in
    let last : arrays_from g.fuel (0 + length spelled) rest ≡ Err f = rw place (last_fault g.fuel (length spelled) rest f q.4 g.enough q.5) in
    ap (λ (b : List ℕ). arrays_from (length b) 0 b) q.2 ∙ g.is ∙ (rw last refl)

-- at most one list of the program's arrays has these bytes
pub one_list : (bytes : List ℕ) (xs ys : Arrays) → AreArrays xs → AreArrays ys → AreArraysOf bytes xs → AreArraysOf bytes ys → xs ≡ ys
one_list bytes xs ys are_xs are_ys d e = ok_same xs ys (arrays_of bytes) (read_again bytes xs are_xs d) (read_again bytes ys are_ys e)

-- what is written of arrays is read as these
pub read_written : (xs : Arrays) → AreArrays xs → arrays_of (arrays_spelling xs) ≡ Ok xs
read_written xs are = read_again (arrays_spelling xs) xs are refl

-- bytes that are arrays have no fault
pub apart : (bytes : List ℕ) (xs : Arrays) (f : ArrayFault) → AreArrays xs → AreArraysOf bytes xs → IsTokenFault bytes f → ⊥
apart bytes xs f are e q =
    let whole = read_again bytes xs are e in
    let fault = fault_again bytes f q in
    cc

-- bytes have at most one first fault
pub one_fault : (bytes : List ℕ) (f g : ArrayFault) → IsTokenFault bytes f → IsTokenFault bytes g → f ≡ g
one_fault bytes f g p q =
    let first = fault_again bytes f p in
    let second = fault_again bytes g q in
    cc

-- ---- a loop that reads

-- arrays are read, and used bytes of the front
pub record SoFar (bytes : List ℕ) (xs : Arrays) (used : ℕ) : Type 0 where
  pub within : used ≤ length bytes
  pub fuel : ℕ
  pub enough : length (drop used bytes) ≤ fuel
  pub whole : arrays_of bytes ≡ with_front xs (arrays_from fuel used (drop used bytes))

pub SoFar-none : (bytes : List ℕ) → SoFar bytes [] 0
unfolding arrays_of
SoFar-none bytes = record { within = omega arith; fuel = length bytes; enough = omega arith; whole = front_none (arrays_from (length bytes) 0 bytes) }

-- one turn of what is still to be read
next_turn : (n used : ℕ) (bytes : List ℕ) → used < length bytes → length (drop used bytes) ≤ n → (m : ℕ) × (n ≡ suc m)
next_turn zero used bytes lt enough = absurd (omega (arith, length-drop used bytes))
next_turn (suc m) used bytes lt enough = (m, refl)

pub SoFar-more : (bytes : List ℕ) (xs : Arrays) (used : ℕ) → used < length bytes → SoFar bytes xs used → array_fault used (drop used bytes) ≡ None → SoFar bytes (xs ++ array_at (drop used bytes) ∷ []) (used + word_at (drop used bytes) 0)
SoFar-more bytes xs used lt s e =
    let rest = drop used bytes in
    let size = word_at rest 0 in
    let w = whole_from used rest e in
    let big = some_size rest w in
    let len = length-drop used bytes in
    let t = next_turn s.fuel used bytes lt s.enough in
    let next = an_array t.0 used rest (omega (arith, len)) e in
    let place = drop-drop size used bytes in
    record {
      within = omega (arith, w.room, len);
      fuel = t.0;
      enough = omega (arith, s.enough, t.1, big, len, length-drop (used + size) bytes);
      whole = s.whole ∙ ap (λ (n : ℕ). with_front xs (arrays_from n used rest)) t.1 ∙ ap (with_front xs) next ∙ front_more xs (array_at rest ∷ []) (arrays_from t.0 (used + size) (drop size rest)) ∙ (rw place refl);
    }

pub SoFar-fault : (bytes : List ℕ) (xs : Arrays) (used : ℕ) (f : ArrayFault) → used < length bytes → SoFar bytes xs used → array_fault used (drop used bytes) ≡ Some f → arrays_of bytes ≡ Err f
SoFar-fault bytes xs used f lt s e =
    let t = next_turn s.fuel used bytes lt s.enough in
    s.whole ∙ ap (λ (n : ℕ). with_front xs (arrays_from n used (drop used bytes))) t.1 ∙ ap (with_front xs) (at_fault t.0 used (drop used bytes) f (omega (arith, length-drop used bytes)) e)

pub SoFar-all : (bytes : List ℕ) (xs : Arrays) (used : ℕ) → length bytes ≤ used → SoFar bytes xs used → arrays_of bytes ≡ Ok xs
SoFar-all bytes xs used le s =
    let last : arrays_from s.fuel used (drop used bytes) ≡ Ok [] = at_end s.fuel used (drop used bytes) (omega (arith, length-drop used bytes)) in
    s.whole ∙ (rw (last, append-nil xs) refl)
