use Rattle.std.proofs.Common.{◌*◌, min, take}
use Rattle.eq_blob.specs.WordBytes.{bytes_of_words}
use Rattle.eq_biquad.proofs.StretchLaws.{PairPasses}
use Rattle.eq_biquad.proofs.passing.pass_pair.Given as goal

abbrev pub invariant-loop-s : goal.invariant-loop-s
invariant-loop-s l = PairPasses (take l.len (bytes_of_words l.blob)) (4 * l.left.place) (4 * l.right.place) (64 * l.at.channel) l.at.channels l.at.channel l.at.frames l.fn.numbers l.fn.samples l.numbers l.samples (min l.left.count (2 * l.s)) (min l.right.count (2 * l.s))
