use Rattle.std.proofs.Common.{◌≡◌, ◌++◌, take}
use Rattle.std.specs.List.{flat_map}
use Rattle.tplg_source.specs.SourceText.{control_text}
use Rattle.tplg_source.proofs.texts.say_controls.Given as goal

abbrev pub invariant-loop-control : goal.invariant-loop-control
invariant-loop-control l = l.out.items ≡ l.fn.out.items ++ flat_map control_text (take l.control-index l.controls)
