-- Numbers written over bytes, and fields after what was written.
use Rattle.std.proofs.Common.{◌≡◌, ℕ, suc, ◌+◌, ◌<◌, ◌≤◌, ◌^◌, slice_index, List, [], ◌∷◌, ◌++◌, length, take, drop, sym, ap, ◌∙◌, arith, append-nil, append_assoc}
use Rattle.std.proofs.Math.Seq.{take-add, take-append_seam, drop-append_seam}
use Rattle.std.proofs.lemmas.List.{drop-drop, length-take-le}
use Rattle.std.specs.Int.{w32, to_le_bytes}
use borrow.Rule.Slice.PartMut.{put_mid}
use Rattle.std.proofs.lemmas.List.{map-append}
use Rattle.sof_base.specs.Cells.{Cell, written, byte_of}
use Rattle.sof_base.specs.Slots.{AreWords}
use Rattle.sof_base.specs.Layouts.{wrote_part}
use Rattle.tplg_model.specs.Spelling.{joined_cells}
use Rattle.tplg_write.specs.Sinks.{Sunk, patched}

-- a number written over bytes after those that are kept
pub patched_behind : (kept at n k : ℕ) (xs ys : List ℕ) → k ≡ 4 → ys ≡ to_le_bytes w32 n → put_mid (kept + at) k xs ys ≡ take kept xs ++ patched at n (drop kept xs)
unfolding patched
patched_behind kept at n k xs ys four is =
    let front : take (kept + at) xs ≡ take kept xs ++ take at (drop kept xs) = take-add kept at xs in
    let back : drop k (drop (kept + at) xs) ≡ drop (at + 4) (drop kept xs) = drop-drop k (kept + at) xs ∙ ap (λ (m : ℕ). drop m xs) (rw four (omega arith)) ∙ sym (drop-drop (at + 4) kept xs) in
    (λ i. front i ++ (is i ++ back i)) ∙ append_assoc (take kept xs) (take at (drop kept xs)) (to_le_bytes w32 n ++ drop (at + 4) (drop kept xs))

-- kept bytes and those after them
abbrev pub sunk : List ℕ → List ℕ → Sunk
sunk front added = record { front = front; added = added }

pub sunk_parts : (kept : ℕ) (xs ys zs : List ℕ) → length ys ≡ kept → xs ≡ ys ++ zs → sunk (take kept xs) (drop kept xs) ≡ sunk ys zs
sunk_parts kept xs ys zs long is =
    let front : take kept xs ≡ ys = rw (is, ← long) (take-append_seam ys zs) in
    let back : drop kept xs ≡ zs = rw (is, ← long) (drop-append_seam ys zs) in
    λ i. sunk (front i) (back i)

pub sunk_patched : (kept at n k : ℕ) (items xs ys : List ℕ) → kept ≤ length items → xs ≡ items → k ≡ 4 → ys ≡ to_le_bytes w32 n → sunk (take kept (put_mid (kept + at) k xs ys)) (drop kept (put_mid (kept + at) k xs ys)) ≡ sunk (take kept items) (patched at n (drop kept items))
sunk_patched kept at n k items xs ys fits same four is =
    sunk_parts kept (put_mid (kept + at) k xs ys) (take kept items) (patched at n (drop kept items)) (length-take-le kept items fits)
    (patched_behind kept at n k xs ys four is ∙ ap (λ (b : List ℕ). take kept b ++ patched at n (drop kept b)) same)

-- ---- parts

abbrev pub wrote_parts : List ℕ → List (List Cell) → List ℕ
wrote_parts out [] = out
wrote_parts out (c ∷ cs) = wrote_parts (wrote_part out c) cs

-- parts, one after the other, are their cells joined_cells
pub parts_wrote : (old : List ℕ) (parts : List (List Cell)) → wrote_parts old parts ≡ wrote_part old (joined_cells parts)
unfolding wrote_part
parts_wrote old [] = sym (append-nil old)
parts_wrote old (c ∷ cs) =
    parts_wrote (old ++ written c) cs
    ∙ append_assoc old (written c) (written (joined_cells cs))
    ∙ ap (λ (t : List ℕ). old ++ t) (sym (map-append byte_of c (joined_cells cs)))

-- ---- words

-- words of the program each fit four bytes
pub are_words : (ws : List ℕ) → ((i : ℕ) → slice_index ws i < 2 ^ 32) → AreWords ws
unfolding AreWords
are_words [] fit = tt
are_words (w ∷ ws) fit = (fit 0, are_words ws (λ i. fit (suc i)))
