use Rattle.std.proofs.Common.{◌≡◌, take}
use Rattle.std.specs.List.{filter_map}
use Rattle.tplg_compile.specs.ProgramValues.{keyed_by}
use Rattle.tplg_source.specs.Carried.{carried_number}
use Rattle.tplg_source.proofs.carried_tokens.numbers_at.Given as goal

abbrev pub invariant-loop-key : goal.invariant-loop-key
invariant-loop-key l = l.numbers ≡ filter_map (carried_number l.arrays) (keyed_by (take l.key-index l.keys))
