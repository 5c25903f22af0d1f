-- Words that are written one after the other.
use Rattle.std.proofs.Common.{◌≡◌, ℕ, suc, ◌+◌, ◌≤◌, ◌<◌, List, [], ◌∷◌, ◌++◌, length, take, get_or, refl, sym, ap, ◌∙◌, append_assoc, append-nil, arith, length-append}
use Rattle.std.proofs.lemmas.List.{take_more, map-append, length-take}
use Rattle.std.proofs.lemmas.Slice.{take-put_mid}
use Rattle.std.specs.Int.{w16, w32, to_le_bytes}
use Rattle.sof_base.specs.Cells.{Cell, byte_of, fixed, written}
use Rattle.sof_base.specs.Slots.{Slot, Word, words_bytes, slot_cells, slots_cells}
use Rattle.ipc3_model.specs.ControlWords.{value_slots, part_slots}
use Rattle.sof_base.specs.declared.part.Part.{Part}
use Rattle.sof_base.proofs.WriteLaws.{written-fixed}
use Rattle.ipc3_codec.specs.Writing.{halves_bytes}
use borrow.Rule.Slice.PartMut.{put_mid}

words_bytes-push : (ns : List ℕ) (n : ℕ) → words_bytes (ns ++ n ∷ []) ≡ words_bytes ns ++ to_le_bytes w32 n
unfolding words_bytes
words_bytes-push [] n = append-nil (to_le_bytes w32 n)
words_bytes-push (m ∷ ns) n = ap (λ (t : List ℕ). to_le_bytes w32 m ++ t) (words_bytes-push ns n) ∙ sym (append_assoc (to_le_bytes w32 m) (words_bytes ns) (to_le_bytes w32 n))

-- bytes that are written over as many
pub written_over : (front rest bytes : List ℕ) → bytes ≡ front ++ rest → length bytes ≡ length front → bytes ≡ front
written_over front [] bytes is same = is ∙ append-nil front
written_over front (x ∷ rest) bytes is same = absurd (omega (arith, same, ap length is, length-append front (x ∷ rest)))

-- one more word after those that are written
pub words_bytes-more : (front words out bytes : List ℕ) (end i k : ℕ) → end ≤ length out → i < length words → bytes ≡ to_le_bytes w32 (get_or words i 0) → take end out ≡ front ++ words_bytes (take i words) → take (end + 4) (put_mid end k out bytes) ≡ front ++ words_bytes (take (i + 1) words)
words_bytes-more front words out bytes end i k room lt is so_far =
    let w = get_or words i 0 in
    let more : words_bytes (take (i + 1) words) ≡ words_bytes (take i words) ++ to_le_bytes w32 w = ap words_bytes (take_more words i 0 lt) ∙ words_bytes-push (take i words) w in
    let written : take (end + 4) (put_mid end k out bytes) ≡ take end out ++ to_le_bytes w32 w = take-put_mid end k out bytes (end + 4) (rw is refl) room ∙ ap (λ (t : List ℕ). take end out ++ t) is in
    written ∙ ap (λ (t : List ℕ). t ++ to_le_bytes w32 w) so_far ∙ append_assoc front (words_bytes (take i words)) (to_le_bytes w32 w) ∙ ap (λ (t : List ℕ). front ++ t) (sym more)

halves_bytes-push : (ns : List ℕ) (n : ℕ) → halves_bytes (ns ++ n ∷ []) ≡ halves_bytes ns ++ to_le_bytes w16 n
unfolding halves_bytes
halves_bytes-push [] n = append-nil (to_le_bytes w16 n)
halves_bytes-push (m ∷ ns) n = ap (λ (t : List ℕ). to_le_bytes w16 m ++ t) (halves_bytes-push ns n) ∙ sym (append_assoc (to_le_bytes w16 m) (halves_bytes ns) (to_le_bytes w16 n))

-- one more word of two bytes after those that are written
pub halves_bytes-more : (front halves out bytes : List ℕ) (end i k : ℕ) → end ≤ length out → i < length halves → bytes ≡ to_le_bytes w16 (get_or halves i 0) → take end out ≡ front ++ halves_bytes (take i halves) → take (end + 2) (put_mid end k out bytes) ≡ front ++ halves_bytes (take (i + 1) halves)
halves_bytes-more front halves out bytes end i k room lt is so_far =
    let w = get_or halves i 0 in
    let more : halves_bytes (take (i + 1) halves) ≡ halves_bytes (take i halves) ++ to_le_bytes w16 w = ap halves_bytes (take_more halves i 0 lt) ∙ halves_bytes-push (take i halves) w in
    let written : take (end + 2) (put_mid end k out bytes) ≡ take end out ++ to_le_bytes w16 w = take-put_mid end k out bytes (end + 2) (rw is refl) room ∙ ap (λ (t : List ℕ). take end out ++ t) is in
    written ∙ ap (λ (t : List ℕ). t ++ to_le_bytes w16 w) so_far ∙ append_assoc front (halves_bytes (take i halves)) (to_le_bytes w16 w) ∙ ap (λ (t : List ℕ). front ++ t) (sym more)

-- ---- values after their channels

value_slots-push : (channel : ℕ) (vs : List ℕ) (v : ℕ) → value_slots channel (vs ++ v ∷ []) ≡ value_slots channel vs ++ Word (channel + length vs) ∷ Word v ∷ []
value_slots-push channel [] v = let e : channel + 0 ≡ channel = omega arith in rw e refl
value_slots-push channel (w ∷ vs) v =
    let e : channel + 1 + length vs ≡ channel + suc (length vs) = omega arith in
    ap (λ (t : List Slot). Word channel ∷ Word w ∷ t) (rw e at (value_slots-push (channel + 1) vs v))

pub slots_cells-append : (xs ys : List Slot) → slots_cells (xs ++ ys) ≡ slots_cells xs ++ slots_cells ys
unfolding slots_cells
slots_cells-append [] ys = refl
slots_cells-append (x ∷ xs) ys = ap (λ (t : List Cell). slot_cells x ++ t) (slots_cells-append xs ys) ∙ sym (append_assoc (slot_cells x) (slots_cells xs) (slots_cells ys))

-- the bytes of fields, one after the other
pub written-append : (xs ys : List Slot) → written (slots_cells (xs ++ ys)) ≡ written (slots_cells xs) ++ written (slots_cells ys)
written-append xs ys = ap written (slots_cells-append xs ys) ∙ map-append byte_of (slots_cells xs) (slots_cells ys)

-- a channel and its value, as words
pair_bytes : (channel v : ℕ) → written (slots_cells (Word channel ∷ Word v ∷ [])) ≡ words_bytes (channel ∷ v ∷ [])
unfolding slots_cells slot_cells words_bytes
pair_bytes channel v = refl

-- one more value after those that are written
pub values-more : (front values out : List ℕ) (i : ℕ) → i < length values → out ≡ (front ++ written (slots_cells (value_slots 0 (take i values)))) ++ words_bytes (i ∷ get_or values i 0 ∷ []) → out ≡ front ++ written (slots_cells (value_slots 0 (take (i + 1) values)))
values-more front values out i lt is =
    let v = get_or values i 0 in
    let len : length (take i values) ≡ i = omega (arith, length-take i values) in
    let more : value_slots 0 (take (i + 1) values) ≡ value_slots 0 (take i values) ++ Word i ∷ Word v ∷ [] = ap (value_slots 0) (take_more values i 0 lt) ∙ value_slots-push 0 (take i values) v ∙ ap (λ (n : ℕ). value_slots 0 (take i values) ++ Word n ∷ Word v ∷ []) (omega (arith, len)) in
    let bytes : written (slots_cells (value_slots 0 (take (i + 1) values))) ≡ written (slots_cells (value_slots 0 (take i values))) ++ words_bytes (i ∷ v ∷ []) = ap (λ (ss : List Slot). written (slots_cells ss)) more ∙ written-append (value_slots 0 (take i values)) (Word i ∷ Word v ∷ []) ∙ ap (λ (t : List ℕ). written (slots_cells (value_slots 0 (take i values))) ++ t) (pair_bytes i v) in
    is ∙ append_assoc front (written (slots_cells (value_slots 0 (take i values)))) (words_bytes (i ∷ v ∷ [])) ∙ ap (λ (t : List ℕ). front ++ t) (sym bytes)

-- a part's bytes
pub part_bytes : (front : List ℕ) (part : Part) → (front ++ part.header) ++ part.bytes ≡ front ++ written (slots_cells (part_slots part))
unfolding slots_cells slot_cells
part_bytes front part =
    let last : written (fixed part.bytes ++ []) ≡ part.bytes = ap written (append-nil (fixed part.bytes)) ∙ written-fixed part.bytes in
    let both : written (fixed part.header ++ (fixed part.bytes ++ [])) ≡ part.header ++ part.bytes = map-append byte_of (fixed part.header) (fixed part.bytes ++ []) ∙ (rw (written-fixed part.header, last) refl) in
    append_assoc front part.header part.bytes ∙ ap (λ (t : List ℕ). front ++ t) (sym both)

-- two lists after what is written, one after the other
pub joins : (front xs ys a b : List ℕ) → a ≡ front ++ xs → b ≡ a ++ ys → b ≡ front ++ (xs ++ ys)
joins front xs ys a b e f = f ∙ ap (λ (t : List ℕ). t ++ ys) e ∙ append_assoc front xs ys
