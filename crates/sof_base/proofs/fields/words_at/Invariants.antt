use Rattle.std.proofs.Common.{◌≡◌, take, length}
use Rattle.sof_base.specs.Layouts.{words_at}
use Rattle.sof_base.proofs.fields.words_at.Given as goal

abbrev pub invariant-loop-i : goal.invariant-loop-i
invariant-loop-i g l = record {
  so_far : words_at l.i l.bytes l.at ≡ take l.i l.words;
  len : length l.words ≡ l.i-end;
}
