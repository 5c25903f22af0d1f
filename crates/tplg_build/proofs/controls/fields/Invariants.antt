use Rattle.std.proofs.Common.{◌≡◌, ◌*◌, length, take}
use Rattle.std.specs.List.{flat_map}
use Rattle.tplg_build.specs.WidgetForm.{padded}
use Rattle.tplg_build.proofs.controls.fields.Given as goal

abbrev pub invariant-loop-text : goal.invariant-loop-text
invariant-loop-text l = (l.bytes.items ≡ flat_map (padded 44) (take l.text-index l.texts)) × (length l.bytes.items ≡ 44 * l.text-index)
