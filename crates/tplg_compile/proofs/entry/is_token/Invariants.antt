use Rattle.std.proofs.Common.{◌≡◌, drop}
use Rattle.tplg_compile.specs.ValueForm.{is_one_of}
use Rattle.tplg_compile.specs.KeyTables.{keys_of}
use Rattle.tplg_compile.specs.ProgramValues.{keyed_by}
use Rattle.tplg_compile.proofs.entry.is_token.Given as goal

abbrev pub invariant-loop-one : goal.invariant-loop-one
invariant-loop-one l = is_one_of l.key (keys_of (keyed_by (drop l.one-index l.tokens))) ≡ is_one_of l.key (keys_of (keyed_by l.tokens))
