-- Writing fields one after the other.
use Rattle.std.proofs.Common.{◌≡◌, ℕ, zero, suc, ◌+◌, ◌-◌, ◌<◌, List, [], ◌∷◌, ◌++◌, length, take, get_or, refl, sym, ap, ◌∙◌, arith, append-nil, append_assoc}
use Rattle.std.proofs.lemmas.List.{map-append, take_more, take-replicate}
use Rattle.std.proofs.Math.ListN.{replicate}
use Rattle.std.specs.Int.{w32, to_le_bytes}
use Rattle.sof_base.specs.Cells.{fixed, loose, written, byte_of}
use Rattle.sof_base.specs.Slots.{Slot, Raw, Label, zeros, slot_cells, slots_cells, words_bytes, Words}
use Rattle.sof_base.specs.Layouts.{wrote_part, wrote, wrote_all}

pub written-fixed : (bs : List ℕ) → written (fixed bs) ≡ bs
written-fixed [] = refl
written-fixed (b ∷ bs) = ap (λ (t : List ℕ). b ∷ t) (written-fixed bs)

pub written-loose : (bs : List ℕ) → written (loose bs) ≡ bs
written-loose [] = refl
written-loose (b ∷ bs) = ap (λ (t : List ℕ). b ∷ t) (written-loose bs)

pub written_bytes : (bytes : List ℕ) → written (slot_cells (Raw bytes)) ≡ bytes
unfolding slot_cells
written_bytes bytes = written-fixed bytes

pub written_name : (name : List ℕ) → written (slot_cells (Label name)) ≡ name ++ 0 ∷ zeros (43 - length name)
unfolding slot_cells
written_name name =
    map-append byte_of (fixed (name ++ 0 ∷ [])) (loose (zeros (43 - length name))) ∙ (rw (written-fixed (name ++ 0 ∷ []), written-loose (zeros (43 - length name))) (append_assoc name (0 ∷ []) (zeros (43 - length name))))

-- fields after what is written
pub wrote_slots : (old : List ℕ) (ss : List Slot) → wrote_all old ss ≡ old ++ written (slots_cells ss)
unfolding slots_cells wrote
wrote_slots old [] = sym (append-nil old)
wrote_slots old (s ∷ ss) = wrote_slots (old ++ written (slot_cells s)) ss ∙ append_assoc old (written (slot_cells s)) (written (slots_cells ss)) ∙ ap (λ (t : List ℕ). old ++ t) (sym (map-append byte_of (slot_cells s) (slots_cells ss)))

-- the same the other way, for tactics
pub slots_written : (old : List ℕ) (ss : List Slot) → old ++ written (slots_cells ss) ≡ wrote_all old ss
slots_written old ss = sym (wrote_slots old ss)

pub body_wrote : (old bytes xs out : List ℕ) → out ≡ wrote old (Raw bytes) → bytes ≡ xs → out ≡ old ++ written (fixed xs)
unfolding wrote
body_wrote old bytes xs out o e = o ∙ ap (λ (t : List ℕ). old ++ t) (written_bytes bytes ∙ e ∙ sym (written-fixed xs))

zeros-replicate : (n : ℕ) → replicate n 0 ≡ zeros n
zeros-replicate zero = refl
zeros-replicate (suc n) = ap (λ (t : List ℕ). 0 ∷ t) (zeros-replicate n)

-- zeros after a name
pub name_padded : (old name : List ℕ) → length name < 44 → (old ++ name) ++ take (44 - length name) (replicate 44 0) ≡ wrote old (Label name)
unfolding wrote
name_padded old name short =
    let k : 44 - length name ≡ suc (43 - length name) = omega arith in
    let pads : take (44 - length name) (replicate 44 0) ≡ 0 ∷ zeros (43 - length name) = take-replicate (44 - length name) 44 0 (omega arith) ∙ ap (λ (n : ℕ). replicate n 0) k ∙ zeros-replicate (suc (43 - length name)) in
    rw (pads, written_name name) (append_assoc old name (0 ∷ zeros (43 - length name)))

-- words after words
pub words_none : (old : List ℕ) → wrote old (Words []) ≡ old
unfolding wrote slot_cells words_bytes
words_none old = append-nil old

words_snoc : (ns : List ℕ) (n : ℕ) → words_bytes (ns ++ n ∷ []) ≡ words_bytes ns ++ to_le_bytes w32 n
unfolding words_bytes
words_snoc [] n = append-nil (to_le_bytes w32 n)
words_snoc (m ∷ ns) n = ap (λ (t : List ℕ). to_le_bytes w32 m ++ t) (words_snoc ns n) ∙ sym (append_assoc (to_le_bytes w32 m) (words_bytes ns) (to_le_bytes w32 n))

pub words_more : (old : List ℕ) (ns : List ℕ) (i : ℕ) → i < length ns → wrote old (Words (take i ns)) ++ to_le_bytes w32 (get_or ns i 0) ≡ wrote old (Words (take (i + 1) ns))
unfolding wrote slot_cells
words_more old ns i lt =
    let e : words_bytes (take (i + 1) ns) ≡ words_bytes (take i ns) ++ to_le_bytes w32 (get_or ns i 0) = ap words_bytes (take_more ns i 0 lt) ∙ words_snoc (take i ns) (get_or ns i 0) in
    append_assoc old (written (fixed (words_bytes (take i ns)))) (to_le_bytes w32 (get_or ns i 0))
    ∙ ap (λ (t : List ℕ). old ++ (t ++ to_le_bytes w32 (get_or ns i 0))) (written-fixed (words_bytes (take i ns)))
    ∙ ap (λ (t : List ℕ). old ++ t) (sym e ∙ sym (written-fixed (words_bytes (take (i + 1) ns))))

-- ---- parts

pub part_slots : (old : List ℕ) (ss : List Slot) → wrote_part old (slots_cells ss) ≡ wrote_all old ss
unfolding wrote_part
part_slots old ss = sym (wrote_slots old ss)

pub part_fixed : (old bytes : List ℕ) → wrote_part old (fixed bytes) ≡ wrote old (Raw bytes)
unfolding wrote_part wrote slot_cells
part_fixed old bytes = refl
