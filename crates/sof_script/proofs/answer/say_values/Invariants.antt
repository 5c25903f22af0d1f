use Rattle.std.proofs.Common.{◌≡◌, ◌+◌, ◌*◌, ◌≤◌, ◌++◌, take, length}
use Rattle.sof_script.specs.Text.{values_words}
use Rattle.sof_script.proofs.answer.say_values.Given as goal

abbrev pub invariant-loop-value : goal.invariant-loop-value
invariant-loop-value l = record {
  said : l.line ≡ l.fn.line ++ values_words (take l.value-index l.values);
  short : length l.line ≤ length l.fn.line + 11 * l.value-index;
}
