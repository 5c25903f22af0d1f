use Rattle.std.proofs.Common.{◌≡◌, ◌<◌, ◌^◌, drop}
use Rattle.sof_script.specs.ValueForms.{digits_behind}
use Rattle.sof_script.proofs.values.digits.Given as goal

abbrev pub invariant-loop-byte : goal.invariant-loop-byte
invariant-loop-byte l = record {
  so_far : digits_behind 0 l.bytes ≡ digits_behind l.number (drop l.byte-index l.bytes);
  small : l.number < 2 ^ 32;
}
