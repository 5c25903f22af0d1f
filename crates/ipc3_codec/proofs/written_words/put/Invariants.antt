use Rattle.std.proofs.Common.{◌≡◌, ◌+◌, ◌*◌, ◌++◌, take}
use Rattle.sof_base.specs.Slots.{words_bytes}
use Rattle.ipc3_codec.proofs.written_words.put.Given as goal

abbrev pub invariant-loop-word : goal.invariant-loop-word
invariant-loop-word l = record {
  place : l.end ≡ l.at + 4 * l.word-index;
  so_far : take l.end l.out ≡ take l.at l.initial.out ++ words_bytes (take l.word-index l.words);
}
