use Rattle.std.proofs.Common.{◌≡◌, ◌≤◌, ◌*◌, length, map, take}
use Rattle.tplg_model.specs.Arrays.{Each}
use Rattle.tplg_model.specs.Spelling.{IsControl, items_cells, control_cells}
use Rattle.tplg_build.specs.WidgetForm.{control_record}
use Rattle.tplg_build.proofs.controls.controls.Given as goal

abbrev pub invariant-loop-one : goal.invariant-loop-one
invariant-loop-one l =
    (l.controls ≡ map control_record (take l.one-index l.stated)) × Each IsControl l.controls × (length (items_cells control_cells l.controls) ≤ 4001764 * l.one-index)
