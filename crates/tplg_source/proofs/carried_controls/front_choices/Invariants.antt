use Rattle.std.proofs.Common.{◌≡◌, map, length}
use Rattle.std.specs.List.{range_with_len}
use Rattle.tplg_source.specs.Carried.{choice_at}
use Rattle.tplg_source.proofs.carried_controls.front_choices.Given as goal

abbrev pub invariant-loop-place : goal.invariant-loop-place
invariant-loop-place l = record { kept : l.kept ≡ map (choice_at l.texts) (range_with_len 0 l.place); many : length l.kept ≡ l.place }
