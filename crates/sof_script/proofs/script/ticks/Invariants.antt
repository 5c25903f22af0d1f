use Rattle.std.proofs.Common.{◌≡◌, ◌*◌, ◌≤◌, take}
use Rattle.std.specs.List.{sum_by}
use Rattle.sof_script.specs.ScriptRead.{line_ticks}
use Rattle.sof_script.proofs.script.ticks.Given as goal

abbrev pub invariant-loop-numbered : goal.invariant-loop-numbered
invariant-loop-numbered l = record {
  sum : l.sum ≡ sum_by line_ticks (take l.numbered-index l.numbered-items);
  small : l.sum ≤ l.numbered-index * 4294967295;
}
