use Rattle.std.proofs.Common.{◌*◌, take}
use Rattle.eq_blob.specs.WordBytes.{bytes_of_words}
use Rattle.eq_biquad.proofs.StretchLaws.{StretchPasses}
use Rattle.eq_biquad.proofs.passing.pass_stretch.Given as goal

abbrev pub invariant-loop-s : goal.invariant-loop-s
invariant-loop-s l = StretchPasses (take l.len (bytes_of_words l.blob)) (4 * l.stretch.found.place) (8 * l.stretch.slot) l.at.channels l.at.channel l.at.frames l.fn.numbers l.fn.samples l.numbers l.samples l.s
