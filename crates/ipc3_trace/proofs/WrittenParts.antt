-- Bytes of which a part was written.
use Rattle.std.proofs.Common.{◌≡◌, sym, ◌∙◌, ap, ℕ, ◌+◌, ◌≤◌, List, ◌++◌, length, take}
use Rattle.std.proofs.lemmas.List.{take-append-le, length-take-le}
use Rattle.std.proofs.Math.Seq.{take-append-add}
use borrow.Rule.Slice.PartMut.{put_mid, post_of}

-- the bytes up to a place within the part
pub take-written : (at k n : ℕ) (bytes out : List ℕ) → at ≤ length bytes → n ≤ length out → take (at + n) (put_mid at k bytes out) ≡ take at bytes ++ take n out
take-written at k n bytes out within few =
    let long : length (take at bytes) ≡ at = length-take-le at bytes within in
    (λ i. take (sym long i + n) (put_mid at k bytes out))
    ∙ take-append-add (take at bytes) (out ++ post_of at k bytes) n
    ∙ ap (λ xs. take at bytes ++ xs) (take-append-le n out (post_of at k bytes) few)
