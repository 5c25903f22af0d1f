-- What `stress` does: the written run over what its number draws, and the five numbers of it.
use Rattle.std.specs.Prelude.{◌≡◌, ◌⊎◌, ℕ, List, [], map, Some}
use Rattle.std.specs.List.{concat}
use Rattle.sof_desk.specs.Desk.{DeskMeaning}
use Rattle.mbox_link.specs.Calls.{Meaning}
use Rattle.host_widgets.specs.declared.kept.Record.{Record}
use Rattle.sof_session.specs.Written.{Ground, Leg, first_at, end_of, basis_of}
use Rattle.sof_session.specs.Lives.{Life}
use Rattle.sof_script.specs.Tasks.{Turn}
use Rattle.sof_session.specs.Modes.{made_at_load}
use Rattle.sof_session.specs.RunOver.{RunOver}
use Rattle.sof_stress.specs.CommandTurns.{CommandTurn}
use Rattle.sof_stress.specs.StressRun.{stress_counts, stress_ground, stress_turns}
use Rattle.run_desk.specs.Lines.{with_newline}
use Rattle.run_desk.specs.SaidText.{Spoke, IsFront}
use Rattle.run_play.specs.Plays.{Unbegun}
use Rattle.run_words.specs.ToolForms.{stress_of}
use Rattle.sof_run.specs.Stressing.{stress_lines}

-- what is said of a run: its five numbers
abbrev pub stress_text : ℕ → Ground → List (Leg Record) → List ℕ
stress_text seed g legs =
    concat (map with_newline (stress_lines (stress_counts seed (end_of (first_at (basis_of g)) legs).known.queue.sent (map (λ (leg : Leg Record). leg.out) legs))))

-- The turns made the written run of all commands that the number draws; its five numbers were said, all of them with status 0, or a front of them with
-- status 3, and nothing else was written.
pub record StressRan {D P : Type 0} (means : DeskMeaning D) (dsp : Meaning P) (g : Ground) (seed : ℕ) (old new : D) (status : ℕ) (p : P) (last : Life P) (turns : List Turn) : Type 0 where
  pub legs : List (Leg Record)
  pub over : RunOver dsp made_at_load g (map (λ (turn : CommandTurn). turn.command) (stress_turns seed)) legs p turns last
  pub part : List ℕ
  pub spoke : Spoke means part old new
  pub is : ((status ≡ 0) × (part ≡ stress_text seed g legs)) ⊎ ((status ≡ 3) × IsFront part (stress_text seed g legs))

-- where the words are those of `stress`, it was run, or ended before it was begun
abbrev pub StressesWhole : {D P : Type 0} → DeskMeaning D → Meaning P → List (List ℕ) → D → D → ℕ → P → Life P → List Turn → Type 0
StressesWhole means dsp words old new status p last turns =
    (seed : ℕ) → stress_of words ≡ Some seed
    → StressRan means dsp (stress_ground (dsp.most p) seed) seed old new status p last turns ⊎ Unbegun means [] old new status p last
