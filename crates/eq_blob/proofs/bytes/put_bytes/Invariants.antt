use Rattle.std.proofs.Common.{◌≡◌, ◌+◌, ◌++◌, take, drop}
use Rattle.eq_blob.specs.WordBytes.{bytes_of_words}
use Rattle.eq_blob.proofs.bytes.put_bytes.Given as goal

abbrev pub invariant-loop-i : goal.invariant-loop-i
invariant-loop-i l = bytes_of_words l.words ≡ take l.at (bytes_of_words l.fn.words) ++ (take l.i l.bytes ++ drop (l.at + l.i) (bytes_of_words l.fn.words))
