-- How many the first frames of a list are, and their samples.
use Rattle.std.proofs.Common.{◌≡◌, ap, ◌∙◌, ℕ, ◌*◌, ◌≤◌, List, take, length, arith, length-take}
use Rattle.sof_base.specs.Samples.{Frame}
use Rattle.sof_base.specs.FrameLists.{AreFrames, samples_of}
use Rattle.fw_ring.proofs.FrameLaws.{whole-take}
use Rattle.fw_ring.proofs.Flat.{length-samples}

pub length-first : (n : ℕ) (fs : List Frame) → n ≤ length fs → length (take n fs) ≡ n
length-first n fs held = omega (arith, length-take n fs)

-- the first frames have so many samples
pub length-taken : (channels n : ℕ) (fs : List Frame) → AreFrames channels fs → n ≤ length fs → length (samples_of (take n fs)) ≡ n * channels
length-taken channels n fs are held = length-samples channels (take n fs) (whole-take channels n fs are) ∙ ap (λ k. k * channels) (length-first n fs held)
