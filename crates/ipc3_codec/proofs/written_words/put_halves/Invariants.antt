use Rattle.std.proofs.Common.{◌≡◌, ◌+◌, ◌*◌, ◌++◌, take}
use Rattle.ipc3_codec.specs.Writing.{halves_bytes}
use Rattle.ipc3_codec.proofs.written_words.put_halves.Given as goal

abbrev pub invariant-loop-half : goal.invariant-loop-half
invariant-loop-half l = record {
  place : l.end ≡ l.at + 2 * l.half-index;
  so_far : take l.end l.out ≡ take l.at l.initial.out ++ halves_bytes (take l.half-index l.halves);
}
