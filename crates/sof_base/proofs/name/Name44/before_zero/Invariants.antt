use Rattle.std.proofs.Common.{◌≡◌, length, drop}
use Rattle.sof_base.proofs.NameLaws.{Before}
use Rattle.sof_base.proofs.name.Name44.before_zero.Given as goal

abbrev pub invariant-loop-b : goal.invariant-loop-b
invariant-loop-b l = record {
  before : Before l.bytes.items (drop l.b-index l.field) l.field;
  len : length l.bytes.items ≡ l.b-index;
}
