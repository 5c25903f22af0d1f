-- The files of inputs, as they are read.
use Rattle.std.specs.Prelude.{◌≡◌, ℕ, Bool, List, Option, is_none}
use Rattle.sof_base.specs.Ports.{InputView}
use Rattle.sof_desk.specs.Desk.{DeskMeaning, DeskLed}
use Rattle.sof_session.specs.Fills.{FilledBy, next_read}
use Rattle.run_desk.specs.DeskCalls.{reading}

-- the inputs were filled by reads, and by no other calls, until none of them is to be read next or a read failed
pub record Refilled {D : Type 0} (means : DeskMeaning D) (done : Bool) (inputs inputs' : List InputView) (old new : D) : Type 0 where
  pub reads : List (ℕ × List ℕ)
  pub failed : Option ℕ
  pub led : DeskLed means old (reading reads failed) new
  pub filled : FilledBy reads inputs inputs'
  pub next : next_read inputs' ≡ failed
  pub done_is : done ≡ is_none failed
