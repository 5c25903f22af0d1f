-- The numbers of a script.
use Rattle.std.specs.Prelude.{◌≡◌, ◌<◌, ◌^◌, true, length}
use Rattle.std.specs.List.{list_all}
use Rattle.sof_script.specs.Commands.{Read}
use Rattle.sof_session.specs.CommandRanges.{is_in_range}

-- the numbers of a script's commands are in their ranges, and there are fewer than 2^32 of them
pub record IsInRange (read : Read) : Type 0 where
  pub ranges : list_all (λ n. is_in_range n.command) read.commands ≡ true
  pub few : length read.commands < 2 ^ 32
