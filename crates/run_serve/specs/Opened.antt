-- The result of opening the two files.
use Rattle.std.specs.Prelude.{◌≡◌, true, List, map}
use Rattle.sof_desk.specs.Desk.{DeskMeaning, DeskAct, DeskCall, Did, DeskLed}
use Rattle.run_serve.specs.ServeWords.{ServeNames}
use Rattle.run_serve.specs.AnyCalls.{AtDesk}
use Rattle.run_serve.specs.Reads.{requests_slot}
use Rattle.run_serve.specs.Serving.{replies_slot, serve_opening, Unopened}

-- both stand under their slots
pub record OpenedBoth {D : Type 0} (means : DeskMeaning D) (names : ServeNames) (old new : D) : Type 0 where
  pub led : DeskLed means old (map (λ (act : DeskAct). Did act true) (serve_opening names)) new
  pub opened : means.opened new requests_slot ≡ true
  pub created : means.created new replies_slot ≡ true

-- a call failed, and no other was made after it
abbrev pub NotOpened : {D : Type 0} → DeskMeaning D → ServeNames → D → D → Type 0
NotOpened means names old new = (calls : List DeskCall) × DeskLed means old calls new × Unopened (serve_opening names) (map AtDesk calls)
