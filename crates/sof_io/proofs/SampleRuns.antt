-- Samples that are written one after the other.
use Rattle.std.proofs.Common.{◌≡◌, refl, sym, ap, ◌∙◌, ℕ, ◌+◌, ◌<◌, ◌≤◌, List, [], ◌∷◌, ◌++◌, length, take, get_or, ℤ, pos, arith, append_assoc, append-nil}
use Rattle.std.proofs.lemmas.List.{take_more}
use Rattle.std.proofs.lemmas.Slice.{take-put_mid}
use borrow.Rule.Slice.PartMut.{put_mid}
use Rattle.sof_base.specs.declared.format.Format.{Format}
use Rattle.sof_base.specs.Samples.{width, sample_out_of, frame_out}
use Rattle.sof_base.proofs.SampleLaws.{length-sample_out}

-- the bytes of samples and of those after them
pub frame_out-append : (format : Format) (xs ys : List ℤ) → frame_out format (xs ++ ys) ≡ frame_out format xs ++ frame_out format ys
frame_out-append format [] ys = refl
frame_out-append format (x ∷ xs) ys = ap (λ (t : List ℕ). sample_out_of format x ++ t) (frame_out-append format xs ys) ∙ sym (append_assoc (sample_out_of format x) (frame_out format xs) (frame_out format ys))

-- one sample more is written
pub write-more : (format : Format) (words : List ℤ) (i at : ℕ) (bytes part : List ℕ) (x : ℤ) → i < length words → at ≤ length bytes → take at bytes ≡ frame_out format (take i words) → x ≡ get_or words i (pos 0) → part ≡ sample_out_of format x → take (at + width format) (put_mid at (width format) bytes part) ≡ frame_out format (take (i + 1) words)
write-more format words i at bytes part x lt fits so_far is made =
    let long : at + width format ≡ at + length part = omega (arith, ap length made, length-sample_out format x) in
    take-put_mid at (width format) bytes part (at + width format) long fits
    ∙ ap (λ (t : List ℕ). t ++ part) so_far
    ∙ ap (λ (t : List ℕ). frame_out format (take i words) ++ t) (made ∙ sym (append-nil (sample_out_of format x)))
    ∙ ap (λ (y : ℤ). frame_out format (take i words) ++ frame_out format (y ∷ [])) is
    ∙ sym (frame_out-append format (take i words) (get_or words i (pos 0) ∷ []))
    ∙ ap (frame_out format) (sym (take_more words i (pos 0) lt))
