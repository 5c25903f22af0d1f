-- Samples that are read one after the other.
use Rattle.std.proofs.Common.{◌≡◌, sym, ap, ◌∙◌, ℕ, ◌+◌, ◌*◌, ◌<◌, ◌≤◌, List, [], ◌∷◌, ◌++◌, length, take, drop, set, ℤ, arith, length-take, length-drop}
use Rattle.std.proofs.lemmas.List.{take_more_set, take-append-drop}
use Rattle.std.proofs.lemmas.List.FromFn.{map-range_with_len_more}
use Rattle.sof_base.specs.declared.format.Format.{Format}
use Rattle.sof_base.specs.Samples.{width, sample_in_of, frame_in}
use Rattle.sof_base.proofs.SampleLaws.{sample_in-drop, sample_in-append}

-- the sample of the bytes from a place on
pub sample-at : (format : Format) (bytes : List ℕ) (at : ℕ) → at + width format ≤ length bytes → sample_in_of format (take (width format) (drop at bytes)) 0 ≡ sample_in_of format bytes at
sample-at format bytes at fits =
    let w = width format in let rest = drop at bytes in
    let long : 0 + w ≤ length (take w rest) = omega (arith, length-take w rest, length-drop at bytes) in
    sym (sample_in-append format (take w rest) (drop w rest) 0 long)
    ∙ ap (λ (t : List ℕ). sample_in_of format t 0) (take-append-drop w rest)
    ∙ sample_in-drop format bytes at 0
    ∙ ap (sample_in_of format bytes) (let e : at + 0 ≡ at = omega arith in e)

-- one sample more is read
pub read-more : (format : Format) (bytes : List ℕ) (words : List ℤ) (i at : ℕ) (x : ℤ) → i < length words → at ≡ i * width format → at + width format ≤ length bytes → take i words ≡ frame_in format i bytes 0 → x ≡ sample_in_of format (take (width format) (drop at bytes)) 0 → take (i + 1) (set words i x) ≡ frame_in format (i + 1) bytes 0
read-more format bytes words i at x lt here fits so_far is =
    let place : at ≡ 0 + i * width format = omega (arith, here) in
    take_more_set words i x lt
    ∙ ap (λ (t : List ℤ). t ++ x ∷ []) so_far
    ∙ ap (λ (y : ℤ). frame_in format i bytes 0 ++ y ∷ []) (is ∙ sample-at format bytes at fits ∙ ap (sample_in_of format bytes) place)
    ∙ sym (map-range_with_len_more (λ k. sample_in_of format bytes (0 + k * width format)) 0 i i (omega arith))
