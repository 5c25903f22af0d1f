-- A size word that is written once its bytes are there.
use Rattle.std.proofs.Common.{◌≡◌, ℕ, ◌+◌, List, [], ◌∷◌, ◌++◌, length, take, drop, sym, ap, ◌∙◌, arith, append_assoc, length-append}
use Rattle.std.proofs.lemmas.List.{take_at, drop_at, map-append}
use Rattle.std.specs.Int.{w32, to_le_bytes}
use Rattle.sof_base.specs.Cells.{Cell, written, byte_of}
use Rattle.sof_base.specs.Slots.{Slot, Word, Raw, slot_cells, slots_cells}
use Rattle.sof_base.specs.Layouts.{wrote, wrote_all, wrote_part}
use Rattle.sof_base.proofs.WriteLaws.{written-fixed, written_bytes, wrote_slots}
use Rattle.tplg_model.specs.Spelling.{BlockValue, block_type, count_of, body_cells, block_cells, header_slots}
use Rattle.tplg_write.specs.Sinks.{patched}

word_behind : (old : List ℕ) (n : ℕ) → wrote old (Word n) ≡ old ++ to_le_bytes w32 n
unfolding wrote slot_cells
word_behind old n = ap (λ (t : List ℕ). old ++ t) (written-fixed (to_le_bytes w32 n))

pub word_length : (old : List ℕ) (n : ℕ) → length (wrote old (Word n)) ≡ length old + 4
word_length old n = ap length (word_behind old n) ∙ length-append old (to_le_bytes w32 n)

raw_behind : (old bytes : List ℕ) → wrote old (Raw bytes) ≡ old ++ bytes
unfolding wrote
raw_behind old bytes = ap (λ (t : List ℕ). old ++ t) (written_bytes bytes)

drop_past : (xs ys zs : List ℕ) (n : ℕ) → n ≡ length xs + length ys → drop n (xs ++ (ys ++ zs)) ≡ zs
drop_past xs ys zs n is = ap (drop n) (sym (append_assoc xs ys zs)) ∙ drop_at (xs ++ ys) zs n (omega (arith, is, length-append xs ys))

-- the word that stands after bytes is written over, whatever comes after it
pub patched_word : (old rest : List ℕ) (m n place : ℕ) → place ≡ length old → patched place n (wrote old (Word m) ++ rest) ≡ wrote old (Word n) ++ rest
unfolding patched
patched_word old rest m n place is =
    let whole : wrote old (Word m) ++ rest ≡ old ++ (to_le_bytes w32 m ++ rest) = ap (λ (t : List ℕ). t ++ rest) (word_behind old m) ∙ append_assoc old (to_le_bytes w32 m) rest in
    let front : take place (wrote old (Word m) ++ rest) ≡ old = ap (take place) whole ∙ take_at old (to_le_bytes w32 m ++ rest) place (sym is) in
    let back : drop (place + 4) (wrote old (Word m) ++ rest) ≡ rest = ap (drop (place + 4)) whole ∙ drop_past old (to_le_bytes w32 m) rest (place + 4) (omega (arith, is)) in
    (λ i. front i ++ (to_le_bytes w32 n ++ back i)) ∙ sym (append_assoc old (to_le_bytes w32 n) rest) ∙ ap (λ (t : List ℕ). t ++ rest) (sym (word_behind old n))

-- the size of bytes, and the bytes
pub patched_raw : (old bytes : List ℕ) (n place : ℕ) → place ≡ length old → n ≡ length bytes → patched place n (wrote old (Word 0) ++ bytes) ≡ wrote_all old (Word (length bytes) ∷ Raw bytes ∷ [])
patched_raw old bytes n place is size =
    patched_word old bytes 0 n place is ∙ ap (λ (k : ℕ). wrote old (Word k) ++ bytes) size ∙ sym (raw_behind (wrote old (Word (length bytes))) bytes)

-- two words and cells after a word
rest_behind : (x : List ℕ) (i c : ℕ) (cells : List Cell) → wrote_part (wrote (wrote x (Word i)) (Word c)) cells ≡ x ++ (to_le_bytes w32 i ++ (to_le_bytes w32 c ++ written cells))
unfolding wrote_part
rest_behind x i c cells =
    ap (λ (t : List ℕ). t ++ written cells) (word_behind (wrote x (Word i)) c ∙ ap (λ (t : List ℕ). t ++ to_le_bytes w32 c) (word_behind x i))
    ∙ append_assoc (x ++ to_le_bytes w32 i) (to_le_bytes w32 c) (written cells)
    ∙ append_assoc x (to_le_bytes w32 i) (to_le_bytes w32 c ++ written cells)

-- a header whose size word is written last
pub patched_header : (old : List ℕ) (i c n place : ℕ) (cells : List Cell) → place ≡ length old → patched place n (wrote_part (wrote (wrote (wrote old (Word 0)) (Word i)) (Word c)) cells) ≡ wrote_part (wrote (wrote (wrote old (Word n)) (Word i)) (Word c)) cells
patched_header old i c n place cells is =
    ap (patched place n) (rest_behind (wrote old (Word 0)) i c cells)
    ∙ patched_word old (to_le_bytes w32 i ++ (to_le_bytes w32 c ++ written cells)) 0 n place is
    ∙ sym (rest_behind (wrote old (Word n)) i c cells)

pub header_length : (old : List ℕ) (i c m : ℕ) (cells : List Cell) → length (wrote_part (wrote (wrote (wrote old (Word m)) (Word i)) (Word c)) cells) ≡ length old + 12 + length (written cells)
header_length old i c m cells =
    ap length (rest_behind (wrote old (Word m)) i c cells)
    ∙ omega (arith, length-append (wrote old (Word m)) (to_le_bytes w32 i ++ (to_le_bytes w32 c ++ written cells)), word_length old m, length-append (to_le_bytes w32 i) (to_le_bytes w32 c ++ written cells), length-append (to_le_bytes w32 c) (written cells))

-- fields, and cells after them
pub slots_then : (old : List ℕ) (ss : List Slot) (cells : List Cell) → wrote_part (wrote_all old ss) cells ≡ wrote_part old (slots_cells ss ++ cells)
unfolding wrote_part
slots_then old ss cells =
    ap (λ (t : List ℕ). t ++ written cells) (wrote_slots old ss)
    ∙ append_assoc old (written (slots_cells ss)) (written cells)
    ∙ ap (λ (t : List ℕ). old ++ t) (sym (map-append byte_of (slots_cells ss) cells))

-- a block's header up to the size of its payload
abbrev pub front_slots : BlockValue → ℕ → List Slot
front_slots b kind = Word 0x41536F43 ∷ Word 5 ∷ Word b.version ∷ Word kind ∷ Word 36 ∷ Word b.vendor_type ∷ []

-- a block whose size word is written last
pub block_wrote : (old front : List ℕ) (b : BlockValue) (kind count n place : ℕ) → front ≡ wrote_all old (front_slots b kind) → kind ≡ block_type b.body → count ≡ count_of b.body → n ≡ length (body_cells b.body) → place ≡ length front → patched place n (wrote_part (wrote (wrote (wrote front (Word 0)) (Word b.index)) (Word count)) (body_cells b.body)) ≡ wrote_part old (block_cells b)
block_wrote old front b kind count n place is kind_is count_is size at =
    patched_header front b.index count n place (body_cells b.body) at
    ∙ (λ i. wrote_part (wrote (wrote (wrote (is i) (Word (size i))) (Word b.index)) (Word (count_is i))) (body_cells b.body))
    ∙ ap (λ (k : ℕ). wrote_part (wrote (wrote (wrote (wrote_all old (front_slots b k)) (Word (length (body_cells b.body)))) (Word b.index)) (Word (count_of b.body))) (body_cells b.body)) kind_is
    ∙ slots_then old (header_slots b) (body_cells b.body)
