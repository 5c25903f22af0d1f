-- What was done over a device, and the device that is handed back.
use Rattle.std.specs.Prelude.{◌≡◌, ℕ}
use Rattle.sof_desk.specs.Desk.{DeskMeaning}
use Rattle.mbox_link.specs.Calls.{Meaning}
use Rattle.sof_script.specs.Tasks.{Turning}
use Rattle.sof_session.specs.Lives.{Life, Bare, Turned, device_of, Exit}
use Rattle.run_desk.specs.Todo.{Todo, RanOn}

-- what was done, with the device that is handed back
pub record GaveBy {D P : Type 0} (means : DeskMeaning D) (dsp : Meaning P) (by : Turning (Life P)) (todo : Todo) (old : D) (p : P) (status : ℕ) (new : D) (q : P) : Type 0 where
  pub last : Life P
  pub is : device_of last ≡ q
  pub exit : Exit dsp p last
  pub ran : RanOn means by todo old (Bare p) status new last

-- by turns of sessions
abbrev pub Gave : {D P : Type 0} → DeskMeaning D → Meaning P → Todo → D → P → ℕ → D → P → Type 0
Gave means dsp todo old p status new q = GaveBy means dsp (Turned dsp) todo old p status new q
