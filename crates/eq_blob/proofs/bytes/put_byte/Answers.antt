use Rattle.std.proofs.Common.{◌≡◌, ap, ◌∙◌, ℕ, ◌+◌, ◌*◌, ◌/◌, ◌%◌, ◌<◌, List, length, get_or, set, arith, rules, ℤ, pos, w32, FitsSigned}
use Rattle.std.specs.Int.{cast_signed, from_le_bytes}
use Rattle.std.proofs.lemmas.Int.{to_z-of_z}
use Rattle.eq_blob.specs.WordBytes.{bytes_of_words}
use Rattle.eq_blob.proofs.ByteLaws.{four, four-set, set-bytes}
use Rattle.eq_blob.proofs.bytes.put_byte.Goals as goal

pub returns : goal.returns
returns c =
    let ws = c.args.words.now in let i = c.args.i in let q : ℕ = i / 4 in let r : ℕ = i % 4 in let v : ℤ = get_or ws q (pos 0) in
    let fit : FitsSigned w32 v = search rules in
    let lt : q < length ws = omega (arith, c.requires) in
    let place : 4 * q + r ≡ i = omega arith in
    let bytes : c.to_le_bytes-four.result ≡ four v = c.to_le_bytes-four.ensures ∙ ap four (to_z-of_z w32 v fit) in
    set-bytes ws q r c.args.byte _ lt (omega arith) (four-set v c.from_le_bytes.result r c.args.byte (omega (arith, c.ranges.byte)) (c.from_le_bytes.ensures ∙ ap (λ (l : List ℕ). cast_signed w32 (from_le_bytes w32 (set l r c.args.byte))) bytes))
    ∙ ap (λ n. set (bytes_of_words ws) n c.args.byte) place
