use Rattle.std.proofs.Common.{◌≡◌, ◌++◌, take}
use Rattle.std.specs.List.{flat_map}
use Rattle.tplg_source.specs.SourceText.{after_comma}
use Rattle.tplg_source.proofs.text_values.say_rest.Given as goal

abbrev pub invariant-loop-text : goal.invariant-loop-text
invariant-loop-text l = l.out.items ≡ l.fn.out.items ++ flat_map after_comma (take l.text-index l.texts)
