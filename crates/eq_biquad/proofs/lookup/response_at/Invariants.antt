use Rattle.std.proofs.Common.{◌≡◌, ◌*◌, take}
use Rattle.sof_base.specs.Blob as form
use Rattle.eq_blob.specs.WordBytes.{bytes_of_words}
use Rattle.eq_biquad.proofs.lookup.response_at.Given as goal

abbrev pub invariant-loop : goal.invariant-loop
invariant-loop l = 4 * l.place ≡ form.response_at (take l.len (bytes_of_words l.blob)) l.counter
