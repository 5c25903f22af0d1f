-- What a demux keeps of samples that lie frame after frame, one of each channel.
use Rattle.std.specs.Prelude.{◌≡◌, ◌⊎◌, ℕ, ◌%◌, List, map, length, ℤ, pos, negsuc, if◌then◌else◌}
use Rattle.std.specs.List.{range_with_len}
use Rattle.sof_base.specs.Samples.{sample_of}
use Rattle.sof_base.specs.Masks.{has_bit, kept_sample}

-- each sample where the bit of its channel is 1, and 0 else
abbrev pub all_kept : ℕ → ℕ → List ℤ → List ℤ
all_kept channels mask xs = map (λ i. kept_sample mask (i % channels) (sample_of xs i)) (range_with_len 0 (length xs))

-- -1, all of whose bits are 1, where a channel is kept, else 0
abbrev pub keep_of : ℕ → ℕ → ℤ
keep_of mask channel = if has_bit mask channel then negsuc 0 else pos 0

-- those of eight samples that begin at the first channel
abbrev pub eight_keeps : ℕ → ℕ → List ℤ
eight_keeps channels mask = map (λ k. keep_of mask (k % channels)) (range_with_len 0 8)

-- one or the other
abbrev pub IsKeep : ℤ → Type 0
IsKeep keep = (keep ≡ negsuc 0) ⊎ (keep ≡ pos 0)

-- the sample by -1, and 0 by 0
abbrev pub kept_by : ℤ → ℤ → ℤ
kept_by (pos n) x = pos 0
kept_by (negsuc n) x = x
