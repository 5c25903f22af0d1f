use Rattle.std.proofs.Common.{◌≡◌, ◌++◌}
use Rattle.toml.specs.View.{members_view}
use Rattle.tplg_compile.specs.ValueForm.{has_only}
use Rattle.tplg_compile.specs.ProgramValues.{slice_texts}
use Rattle.tplg_compile.specs.KeyTables.{keys_of}
use Rattle.tplg_compile.specs.ProgramValues.{keyed_by}
use Rattle.tplg_compile.proofs.entry.has_only.Given as goal

abbrev pub invariant-loop-key : goal.invariant-loop-key
invariant-loop-key l =
    (goal.iterator-loop-key).can_next l.key-iterator × (goal.iterator-loop-key).is_finite l.key-iterator
    × (has_only (slice_texts l.keys ++ (keys_of (keyed_by l.numbers) ++ keys_of (keyed_by l.texts))) (members_view l.key-iterator) ≡ has_only (slice_texts l.keys ++ (keys_of (keyed_by l.numbers) ++ keys_of (keyed_by l.texts))) (members_view l.entry.entries))
