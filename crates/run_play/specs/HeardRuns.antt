-- The run that is played of files whose bytes the desk need not tell: over the bytes that its loads and reads brought.
use Rattle.std.specs.Prelude.{◌≡◌, ◌⊎◌, ℕ, Bool, true, false, List, [], ◌∷◌, length, map, take, Ok}
use Rattle.sof_desk.specs.Desk.{DeskCall}
use Rattle.mbox_link.specs.Calls.{Meaning}
use Rattle.sof_script.specs.declared.script.Command.{Command}
use Rattle.sof_session.specs.Modes.{Mode, made_at_load, made_on_use}
use Rattle.sof_session.specs.Written.{Ground, Leg}
use Rattle.sof_session.specs.Fills.{bytes_read}
use Rattle.sof_session.specs.Lives.{Life, Bare, reads_in}
use Rattle.sof_script.specs.Tasks.{Turn}
use Rattle.sof_session.specs.RunOver.{RunOver}
use Rattle.run_play.specs.Rounds.{rounds_of}
use Rattle.run_play.specs.Plays.{ToPlay, ground_of}
use Rattle.run_desk.specs.DeskCalls.{heard_in}

-- turns made the written run of the first of these commands
abbrev pub RunsBy : {P S A : Type 0} → Meaning P → Mode P S A → Ground → List Command → P → List Turn → Life P → Type 0
RunsBy {P} {S} dsp mode g commands p turns last = (legs : List (Leg S)) × RunOver dsp mode g (take (length legs) commands) legs p turns last

-- by the mode that the words ask for
abbrev pub RunsIn : {P : Type 0} → Bool → Meaning P → Ground → List Command → P → List Turn → Life P → Type 0
RunsIn false dsp g commands p turns last = RunsBy dsp made_at_load g commands p turns last
RunsIn true dsp g commands p turns last = RunsBy dsp (made_on_use dsp) g commands p turns last

-- The turns made the written run of the commands that they carried out, over the bytes that reads brought; or the desk failed, or memory
-- was missing, before a session was begun, and the device is as it was handed in.
abbrev pub PlaysWhatIsHeard : {P : Type 0} → Meaning P → List (List ℕ) → List DeskCall → List Turn → ℕ → P → Life P → Type 0
PlaysWhatIsHeard dsp words calls turns status p last =
    (play : ToPlay (dsp.most p) words) → heard_in calls ≡ Ok play.topology ∷ Ok play.script ∷ []
    → RunsIn play.form.on_use dsp (ground_of play (bytes_read (reads_in turns))) (map (λ round. round.numbered.command) (rounds_of play.read.commands)) p turns last
    ⊎ (((status ≡ 3) ⊎ (status ≡ 7)) × (last ≡ Bare p))
