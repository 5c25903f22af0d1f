use Rattle.std.proofs.Common.{◌≡◌, ap, sym, ◌∙◌, ℕ, ◌+◌, ◌*◌, ◌/◌, ◌%◌, ◌<◌, List, length, get_or, arith, rules, pos, w32, FitsSigned}
use Rattle.std.proofs.lemmas.Int.{to_z-of_z}
use Rattle.eq_blob.specs.WordBytes.{bytes_of_words}
use Rattle.eq_blob.proofs.ByteLaws.{four, get-bytes}
use Rattle.eq_blob.proofs.bytes.byte_at.Goals as goal

pub returns : goal.returns
returns c =
    let ws = c.args.words.now in let i = c.args.i in let q : ℕ = i / 4 in let r : ℕ = i % 4 in
    let fit : FitsSigned w32 (get_or ws q (pos 0)) = search rules in
    let lt : q < length ws = omega (arith, c.requires) in
    let low : r < 4 = omega arith in
    let place : 4 * q + r ≡ i = omega arith in
    ap (λ (l : List ℕ). get_or l r 0) (c.to_le_bytes.ensures ∙ ap four (to_z-of_z w32 (get_or ws q (pos 0)) fit))
    ∙ sym (get-bytes ws q r 0 lt low)
    ∙ ap (λ n. get_or (bytes_of_words ws) n 0) place
