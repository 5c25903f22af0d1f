use Rattle.std.proofs.Common.{◌≡◌, ◌+◌, ◌*◌, ◌++◌, take}
use Rattle.sof_base.specs.Cells.{written}
use Rattle.sof_base.specs.Slots.{slots_cells}
use Rattle.ipc3_model.specs.ControlWords.{value_slots}
use Rattle.ipc3_codec.proofs.written_words.put_values.Given as goal

abbrev pub invariant-loop-i : goal.invariant-loop-i
invariant-loop-i l = record {
  place : l.end ≡ l.at + 8 * l.i;
  so_far : take l.end l.out ≡ take l.at l.initial.out ++ written (slots_cells (value_slots 0 (take l.i l.values)));
}
