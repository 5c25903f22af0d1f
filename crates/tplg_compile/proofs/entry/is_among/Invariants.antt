use Rattle.std.proofs.Common.{◌≡◌, drop}
use Rattle.tplg_compile.specs.ValueForm.{is_one_of}
use Rattle.tplg_compile.specs.ProgramValues.{slice_texts}
use Rattle.tplg_compile.proofs.entry.is_among.Given as goal

abbrev pub invariant-loop-one : goal.invariant-loop-one
invariant-loop-one l = is_one_of l.key (slice_texts (drop l.one-index l.keys)) ≡ is_one_of l.key (slice_texts l.keys)
