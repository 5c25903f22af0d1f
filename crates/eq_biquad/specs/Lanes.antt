-- The samples of one channel among frames that lie one after the other.
use Rattle.std.specs.Prelude.{ℕ, ◌+◌, ◌*◌, List, map, ℤ}
use Rattle.std.specs.List.{range_with_len}
use Rattle.sof_base.specs.Samples.{sample_of}

-- channel k of n frames
abbrev pub lane : ℕ → ℕ → ℕ → List ℤ → List ℤ
lane channels k n samples = map (λ j. sample_of samples (j * channels + k)) (range_with_len 0 n)
