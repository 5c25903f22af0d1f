use Rattle.std.proofs.Common.{◌≡◌, take}
use Rattle.std.specs.List.{filter_map}
use Rattle.tplg_compile.specs.ProgramValues.{keyed_by}
use Rattle.tplg_source.specs.Carried.{carried_text}
use Rattle.tplg_source.proofs.carried_tokens.texts_at.Given as goal

abbrev pub invariant-loop-key : goal.invariant-loop-key
invariant-loop-key l = l.texts ≡ filter_map (carried_text l.arrays) (keyed_by (take l.key-index l.keys))
