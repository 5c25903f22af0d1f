-- A field that is read is the field that is spelled, and what is spelled is read again.
use Rattle.std.proofs.Common.{◌*◌, ◌≡◌, ℕ, zero, suc, ◌+◌, ◌-◌, ◌≤◌, ◌<◌, Bool, true, false, ◌&&◌, List, [], ◌∷◌, ◌++◌, length, take, drop, get_or, refl, sym, ap, subst, ◌∙◌, arith, length-append, append_assoc, inl, inr}
use Rattle.std.proofs.lemmas.Bool.{cases_lt}
use Rattle.std.proofs.lemmas.List.{take_at, drop_at, drop-drop, drop-take, take-take, length-take, length-drop, get_or-drop, get_or-take, get_or_past}
use Rattle.std.proofs.Math.Seq.{take-add}
use Rattle.std.proofs.lemmas.Nat.{le_bytes_2, le_bytes_4, le_bytes_8, from_le_bytes-to_le_bytes_8, from_le_bytes-to_le_bytes_2, from_le_bytes-to_le_bytes_4}
use Rattle.std.specs.Int.{w16, w32, w64, from_le_bytes, to_le_bytes}
use Rattle.sof_base.specs.Cells.{fixed, loose, Fits}
use Rattle.sof_base.specs.Slots.{Slot, Word, Half, Long, Size, Label, Words, Raw, Spare, zeros, words_bytes, slot_cells, slots_cells, NoZero, AreWords, IsSlot, AreSlots, part, until_zero, has_zero, word_at, half_at, has_name}
use Rattle.sof_base.specs.Layouts.{long_at, name_at, words_at}
use Rattle.sof_base.specs.Layouts.{Shape, A_word, A_half, A_long, A_size, A_name, A_words, Bytes, A_spare, shape_width, slot_at, name_ends, widths, slots_from, all_named, shape_of, shapes_of}
use Rattle.sof_base.proofs.Fitting.{Fits-length, Fits-append, Fits-split, Fits-fixed, is_fixed, Fits-loose}

abbrev pub IsBytes : List ℕ → Type 0
IsBytes bytes = (i : ℕ) → get_or bytes i 0 < 256

pub IsBytes-drop : (n : ℕ) (bytes : List ℕ) → IsBytes bytes → IsBytes (drop n bytes)
IsBytes-drop n bytes h i = rw get_or-drop (h (n + i))

pub IsBytes-take : (n : ℕ) (bytes : List ℕ) → IsBytes bytes → IsBytes (take n bytes)
IsBytes-take n bytes h i =
    elim (cases_lt i n) [
      | inl lt ↦ rw (get_or-take n bytes i 0 lt) (h i)
      | inr le ↦ rw (get_or_past (take n bytes) i 0 (omega (arith, length-take n bytes))) (omega arith)
    ]

pub IsBytes-part : (bytes : List ℕ) (at n : ℕ) → IsBytes bytes → IsBytes (part bytes at n)
IsBytes-part bytes at n h = IsBytes-take n (drop at bytes) (IsBytes-drop at bytes h)

pub length-part : (bytes : List ℕ) (at n : ℕ) → at + n ≤ length bytes → length (part bytes at n) ≡ n
length-part bytes at n h = omega (arith, length-take n (drop at bytes), length-drop at bytes)

-- ---- names

length-zeros : (n : ℕ) → length (zeros n) ≡ n
length-zeros zero = refl
length-zeros (suc n) = ap suc (length-zeros n)

length-until : (bs : List ℕ) → has_zero bs ≡ true → length (until_zero bs) < length bs
unfolding until_zero has_zero
length-until [] h = absurd cc
length-until (zero ∷ bs) h = omega arith
length-until (suc b ∷ bs) h = omega (arith, length-until bs h)

no_zero-until : (bs : List ℕ) → NoZero (until_zero bs)
unfolding until_zero NoZero
no_zero-until [] = tt
no_zero-until (zero ∷ bs) = tt
no_zero-until (suc b ∷ bs) = (omega arith, no_zero-until bs)

-- a list with a 0 fits its bytes before the 0, the 0, and as many loose ones as are left
until-fits : (bs pads : List ℕ) → has_zero bs ≡ true → length pads + 1 + length (until_zero bs) ≡ length bs → Fits bs (fixed (until_zero bs ++ 0 ∷ []) ++ loose pads)
unfolding until_zero has_zero Fits
until-fits [] pads h e = absurd cc
until-fits (zero ∷ bs) pads h e = (refl, Fits-loose bs pads (omega (arith, e)))
until-fits (suc b ∷ bs) pads h e = (refl, until-fits bs pads h (omega (arith, e)))

until-again : (name bs : List ℕ) (pads : List ℕ) → NoZero name → Fits bs (fixed (name ++ 0 ∷ []) ++ loose pads) → (until_zero bs ≡ name) × (has_zero bs ≡ true)
unfolding until_zero has_zero Fits NoZero
until-again [] [] pads h f = absurd f
until-again [] (b ∷ bs) pads h f = rw f.0 (refl, refl)
until-again (x ∷ name) [] pads h f = absurd f
until-again (zero ∷ name) (b ∷ bs) pads h f = absurd (omega (arith, h.0))
until-again (suc x ∷ name) (b ∷ bs) pads h f =
    let r = until-again name bs pads h.1 f.1 in
    rw f.0 (ap (λ (t : List ℕ). suc x ∷ t) r.0, r.1)

-- ---- one field

pub record Reads (s : Shape) (bytes : List ℕ) (at : ℕ) : Type 0 where
  pub fits : Fits (part bytes at (shape_width s)) (slot_cells (slot_at s bytes at))
  pub is : IsSlot (slot_at s bytes at)

pub part-add : (bytes : List ℕ) (at m n : ℕ) → part bytes at (m + n) ≡ part bytes at m ++ part bytes (at + m) n
part-add bytes at m n = take-add m n (drop at bytes) ∙ ap (λ (t : List ℕ). take m (drop at bytes) ++ take n t) (drop-drop m at bytes)

part_none : (bytes : List ℕ) (at : ℕ) → part bytes at 0 ≡ []
part_none bytes at = refl

pub words_same : (n : ℕ) (bytes : List ℕ) (at : ℕ) → IsBytes bytes → at + 4 * n ≤ length bytes → words_bytes (words_at n bytes at) ≡ part bytes at (4 * n)
unfolding words_at words_bytes word_at
words_same zero bytes at h long = refl
words_same (suc n) bytes at h long =
    let k : 4 * suc n ≡ 4 + 4 * n = omega arith in
    let p = part bytes at 4 in
    let one : to_le_bytes w32 (from_le_bytes w32 p) ≡ p = le_bytes_4 p _ (length-part bytes at 4 (omega (arith, long))) (IsBytes-part bytes at 4 h) refl in
    let others = words_same n bytes (at + 4) h (omega (arith, long)) in
    ap (λ (t : List ℕ). t ++ words_bytes (words_at n bytes (at + 4))) one ∙ ap (λ (t : List ℕ). p ++ t) others ∙ sym (part-add bytes at 4 (4 * n)) ∙ ap (part bytes at) (sym k)

pub words_fit : (n : ℕ) (bytes : List ℕ) (at : ℕ) → IsBytes bytes → at + 4 * n ≤ length bytes → AreWords (words_at n bytes at)
unfolding words_at AreWords word_at
words_fit zero bytes at h long = tt
words_fit (suc n) bytes at h long =
    let is_bytes = IsBytes-part bytes at 4 h in
    (omega (arith, is_bytes 0, is_bytes 1, is_bytes 2, is_bytes 3), words_fit n bytes (at + 4) h (omega (arith, long)))

pub length-words : (n : ℕ) (bytes : List ℕ) (at : ℕ) → length (words_at n bytes at) ≡ n
unfolding words_at
length-words zero bytes at = refl
length-words (suc n) bytes at = ap suc (length-words n bytes (at + 4))

words_read : (n : ℕ) (bytes : List ℕ) (at : ℕ) → IsBytes bytes → at + 4 * n ≤ length bytes → Fits (part bytes at (4 * n)) (fixed (words_bytes (words_at n bytes at))) × AreWords (words_at n bytes at)
unfolding words_at words_bytes AreWords word_at
words_read n bytes at h long = (subst (λ (x : List ℕ). Fits x (fixed (words_bytes (words_at n bytes at)))) (words_same n bytes at h long) (Fits-fixed (words_bytes (words_at n bytes at))), words_fit n bytes at h long)

pub slot_reads : (s : Shape) (bytes : List ℕ) (at : ℕ) → IsBytes bytes → at + shape_width s ≤ length bytes → name_ends s bytes at ≡ true → Reads s bytes at
unfolding slot_cells IsSlot word_at half_at long_at name_at has_name
slot_reads A_word bytes at h long ok =
    let p = part bytes at 4 in
    let is_bytes = IsBytes-part bytes at 4 h in
    let len = length-part bytes at 4 long in
    let same : to_le_bytes w32 (from_le_bytes w32 p) ≡ p = le_bytes_4 p _ len is_bytes refl in
    record { fits = subst (λ (x : List ℕ). Fits p (fixed x)) (sym same) (Fits-fixed p); is = omega (arith, is_bytes 0, is_bytes 1, is_bytes 2, is_bytes 3) }
slot_reads A_half bytes at h long ok =
    let p = part bytes at 2 in
    let is_bytes = IsBytes-part bytes at 2 h in
    let len = length-part bytes at 2 long in
    let same : to_le_bytes w16 (from_le_bytes w16 p) ≡ p = le_bytes_2 p _ len is_bytes refl in
    record { fits = subst (λ (x : List ℕ). Fits p (fixed x)) (sym same) (Fits-fixed p); is = omega (arith, is_bytes 0, is_bytes 1) }
slot_reads A_long bytes at h long ok =
    let p = part bytes at 8 in
    let is_bytes = IsBytes-part bytes at 8 h in
    let len = length-part bytes at 8 long in
    let same : to_le_bytes w64 (from_le_bytes w64 p) ≡ p = le_bytes_8 p _ len is_bytes refl in
    record { fits = subst (λ (x : List ℕ). Fits p (fixed x)) (sym same) (Fits-fixed p); is = omega (arith, is_bytes 0, is_bytes 1, is_bytes 2, is_bytes 3, is_bytes 4, is_bytes 5, is_bytes 6, is_bytes 7) }
slot_reads (A_words n) bytes at h long ok =
    let w = words_read n bytes at h long in
    record { fits = w.0; is = w.1 }
slot_reads (A_size n) bytes at h long ok =
    record { fits = Fits-loose (part bytes at 4) (to_le_bytes w32 n) (length-part bytes at 4 long); is = tt }
slot_reads A_name bytes at h long ok =
    let p = part bytes at 44 in
    let len = length-part bytes at 44 long in
    let below = length-until p ok in
    let pads = zeros (43 - length (until_zero p)) in
    record { fits = until-fits p pads ok (omega (arith, below, len, length-zeros (43 - length (until_zero p)))); is = (omega (arith, below, len), no_zero-until p) }
slot_reads (Bytes n) bytes at h long ok =
    record { fits = Fits-fixed (part bytes at n); is = tt }
slot_reads (A_spare spare) bytes at h long ok =
    record { fits = Fits-loose (part bytes at (length spare)) spare (length-part bytes at (length spare) long); is = tt }

pub length-fixed : (bs : List ℕ) → length (fixed bs) ≡ length bs
length-fixed [] = refl
length-fixed (b ∷ bs) = ap suc (length-fixed bs)

length-loose : (bs : List ℕ) → length (loose bs) ≡ length bs
length-loose [] = refl
length-loose (b ∷ bs) = ap suc (length-loose bs)

pub length-words_bytes : (ns : List ℕ) → length (words_bytes ns) ≡ 4 * length ns
unfolding words_bytes
length-words_bytes [] = refl
length-words_bytes (n ∷ ns) = omega (arith, length-append (to_le_bytes w32 n) (words_bytes ns), length-words_bytes ns)

-- the width of a field is the number of its cells
pub length-slot_cells : (s : Slot) → IsSlot s → length (slot_cells s) ≡ shape_width (shape_of s)
unfolding slot_cells IsSlot
length-slot_cells (Word n) is = refl
length-slot_cells (Half n) is = refl
length-slot_cells (Long n) is = refl
length-slot_cells (Size n) is = refl
length-slot_cells (Words ns) is = length-fixed (words_bytes ns) ∙ length-words_bytes ns
length-slot_cells (Label name) is =
    let pads = zeros (43 - length name) in
    omega (arith, is.0, length-append (fixed (name ++ 0 ∷ [])) (loose pads), length-fixed (name ++ 0 ∷ []), length-loose pads, length-append name (0 ∷ []), length-zeros (43 - length name))
length-slot_cells (Raw bytes) is = length-fixed bytes
length-slot_cells (Spare bytes) is = length-loose bytes

pub words_again : (ns : List ℕ) (bytes : List ℕ) (at : ℕ) → AreWords ns → part bytes at (4 * length ns) ≡ words_bytes ns → words_at (length ns) bytes at ≡ ns
unfolding words_at words_bytes AreWords word_at
words_again [] bytes at is e = refl
words_again (n ∷ ns) bytes at is e =
    let k : 4 * suc (length ns) ≡ 4 + 4 * length ns = omega arith in
    let whole : part bytes at (4 + 4 * length ns) ≡ to_le_bytes w32 n ++ words_bytes ns = rw k at e in
    let first : part bytes at 4 ≡ to_le_bytes w32 n = sym (take-take 4 (4 + 4 * length ns) (drop at bytes) (omega arith)) ∙ ap (take 4) whole ∙ take_at (to_le_bytes w32 n) (words_bytes ns) 4 refl in
    let after : part bytes (at + 4) (4 * length ns) ≡ words_bytes ns = ap (take (4 * length ns)) (sym (drop-drop 4 at bytes)) ∙ sym (drop-take 4 (4 * length ns) (drop at bytes)) ∙ ap (drop 4) whole ∙ drop_at (to_le_bytes w32 n) (words_bytes ns) 4 refl in
    let one : from_le_bytes w32 (part bytes at 4) ≡ n = ap (from_le_bytes w32) first ∙ from_le_bytes-to_le_bytes_4 n is.0 in
    rw (one, words_again ns bytes (at + 4) is.1 after) refl

-- what is spelled is read again
pub record Again (s : Slot) (bytes : List ℕ) (at : ℕ) : Type 0 where
  pub slot : slot_at (shape_of s) bytes at ≡ s
  pub ok : name_ends (shape_of s) bytes at ≡ true

pub slot_again : (s : Slot) (bytes : List ℕ) (at : ℕ) → IsSlot s → Fits (part bytes at (shape_width (shape_of s))) (slot_cells s) → Again s bytes at
unfolding slot_cells IsSlot word_at half_at long_at name_at has_name
slot_again (Word n) bytes at is f =
    let e = is_fixed (part bytes at 4) (to_le_bytes w32 n) f in
    record { slot = ap Word (ap (from_le_bytes w32) e ∙ from_le_bytes-to_le_bytes_4 n is); ok = refl }
slot_again (Half n) bytes at is f =
    let e = is_fixed (part bytes at 2) (to_le_bytes w16 n) f in
    record { slot = ap Half (ap (from_le_bytes w16) e ∙ from_le_bytes-to_le_bytes_2 n is); ok = refl }
slot_again (Long n) bytes at is f =
    let e = is_fixed (part bytes at 8) (to_le_bytes w64 n) f in
    record { slot = ap Long (ap (from_le_bytes w64) e ∙ from_le_bytes-to_le_bytes_8 n is); ok = refl }
slot_again (Words ns) bytes at is f =
    record { slot = ap Words (words_again ns bytes at is (is_fixed (part bytes at (4 * length ns)) (words_bytes ns) f)); ok = refl }
slot_again (Size n) bytes at is f = record { slot = refl; ok = refl }
slot_again (Spare spare) bytes at is f = record { slot = refl; ok = refl }
slot_again (Label name) bytes at is f =
    let r = until-again name (part bytes at 44) (zeros (43 - length name)) is.1 f in
    record { slot = ap Label r.0; ok = r.1 }
slot_again (Raw xs) bytes at is f = record { slot = ap Raw (is_fixed (part bytes at (length xs)) xs f); ok = refl }

-- ---- a list of fields

and_true : (a b : Bool) → (a && b) ≡ true → (a ≡ true) × (b ≡ true)
and_true true b e = (refl, e)
and_true false b e = absurd cc

pub slots_read : (ss : List Shape) (bytes : List ℕ) (at off : ℕ) → IsBytes bytes → at + off + widths ss ≤ length bytes → all_named ss bytes at off ≡ true → Fits (part bytes (at + off) (widths ss)) (slots_cells (slots_from ss bytes at off)) × AreSlots (slots_from ss bytes at off)
unfolding slots_cells AreSlots Fits
slots_read [] bytes at off h long ok = (tt, tt)
slots_read (s ∷ ss) bytes at off h long ok =
    let place : at + (off + shape_width s) ≡ at + off + shape_width s = omega arith in
    let both = and_true (name_ends s bytes (at + off)) (all_named ss bytes at (off + shape_width s)) ok in
    let one = slot_reads s bytes (at + off) h (omega arith) both.0 in
    let others = slots_read ss bytes at (off + shape_width s) h (omega arith) both.1 in
    let others_here : Fits (part bytes (at + off + shape_width s) (widths ss)) (slots_cells (slots_from ss bytes at (off + shape_width s))) = subst (λ (p : ℕ). Fits (part bytes p (widths ss)) (slots_cells (slots_from ss bytes at (off + shape_width s)))) place others.0 in
    (rw (part-add bytes (at + off) (shape_width s) (widths ss)) (Fits-append (part bytes (at + off) (shape_width s)) (part bytes (at + off + shape_width s) (widths ss)) (slot_cells (slot_at s bytes (at + off))) (slots_cells (slots_from ss bytes at (off + shape_width s))) one.fits others_here), (one.is, others.1))

pub length-slots : (ss : List Slot) → AreSlots ss → length (slots_cells ss) ≡ widths (shapes_of ss)
unfolding slots_cells AreSlots
length-slots [] are = refl
length-slots (s ∷ ss) are = omega (arith, length-append (slot_cells s) (slots_cells ss), length-slot_cells s are.0, length-slots ss are.1)

-- fields that were spelled at a place
pub record AllAgain (ss : List Slot) (bytes : List ℕ) (at off : ℕ) : Type 0 where
  pub slots : slots_from (shapes_of ss) bytes at off ≡ ss
  pub ok : all_named (shapes_of ss) bytes at off ≡ true

pub slots_again : (ss : List Slot) (bytes front rest : List ℕ) (at off : ℕ) → AreSlots ss → drop (at + off) bytes ≡ front ++ rest → Fits front (slots_cells ss) → AllAgain ss bytes at off
unfolding slots_cells AreSlots
slots_again [] bytes front rest at off are e f = record { slots = refl; ok = refl }
slots_again (s ∷ ss) bytes front rest at off are e f =
    let parts = Fits-split front (slot_cells s) (slots_cells ss) f in
    let len : length parts.first ≡ shape_width (shape_of s) = Fits-length parts.first (slot_cells s) parts.fits_first ∙ length-slot_cells s are.0 in
    let here : drop (at + off) bytes ≡ parts.first ++ (parts.second ++ rest) = e ∙ ap (λ (t : List ℕ). t ++ rest) parts.whole ∙ append_assoc parts.first parts.second rest in
    let is : part bytes (at + off) (shape_width (shape_of s)) ≡ parts.first = ap (take (shape_width (shape_of s))) here ∙ take_at parts.first (parts.second ++ rest) (shape_width (shape_of s)) len in
    let place : at + off + shape_width (shape_of s) ≡ at + (off + shape_width (shape_of s)) = omega arith in
    let after : drop (at + (off + shape_width (shape_of s))) bytes ≡ parts.second ++ rest = ap (λ (n : ℕ). drop n bytes) (sym place) ∙ sym (drop-drop (shape_width (shape_of s)) (at + off) bytes) ∙ ap (drop (shape_width (shape_of s))) here ∙ drop_at parts.first (parts.second ++ rest) (shape_width (shape_of s)) len in
    let one = slot_again s bytes (at + off) are.0 (rw is parts.fits_first) in
    let others = slots_again ss bytes parts.second rest at (off + shape_width (shape_of s)) are.1 after parts.fits_second in
    record { slots = rw (one.slot, others.slots) refl; ok = rw (one.ok, others.ok) refl }
