use Rattle.std.proofs.Common.{◌≡◌, drop}
use Rattle.tplg_compile.specs.ProgramValues.{keyed_by}
use Rattle.tplg_source.specs.SourceText.{key_in}
use Rattle.tplg_source.proofs.texts.key_in.Given as goal

abbrev pub invariant-loop-key : goal.invariant-loop-key
invariant-loop-key l = key_in (keyed_by (drop l.key-index l.keys)) l.token ≡ key_in (keyed_by l.keys) l.token
