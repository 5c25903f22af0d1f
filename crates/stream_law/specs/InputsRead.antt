-- How far moments have read the inputs.
use Rattle.std.specs.Prelude.{ℕ, List}
use Rattle.sof_base.specs.Ports.{InputView}
use Rattle.stream_law.specs.Past.{Moment, Past, Leads, start}
use Rattle.stream_law.specs.Stands.{HasRead}

-- the moments led to a past up to which the inputs have given their bytes
pub record Reads (whole : List (ℕ × List ℕ)) (inputs : List InputView) (moments : List Moment) : Type 0 where
  pub past : Past
  pub led : Leads whole start moments past
  pub read : HasRead whole inputs past
