-- What `run` has to do, by the form of its words.
use Rattle.std.specs.Prelude.{◌≡◌, ◌⊎◌, ℕ, List, [], Option, Some, None, codes}
use Rattle.sof_desk.specs.Desk.{DeskMeaning}
use Rattle.mbox_link.specs.Calls.{Meaning}
use Rattle.tplg_plan.specs.Sound.{IsSound}
use Rattle.ipc3_trace.specs.declared.entry.Entry.{Entry}
use Rattle.sof_session.specs.Lives.{Life, Bare, Turns, device_of, Exit}
use Rattle.sof_script.specs.Tasks.{Turn}
use Rattle.sof_stress.specs.GraphParts.{stress_plan}
use Rattle.sof_stress.specs.StressRun.{sent_in}
use Rattle.run_desk.specs.Todo.{Todo, Stop, Played}
use Rattle.run_play.specs.HandedBack.{Gave}
use Rattle.run_words.specs.Words.{trace_named}
use Rattle.run_words.specs.TraceForms.{replay_of}
use Rattle.run_play.specs.Keeping.{recorded_turns, KeptRecords}
use Rattle.run_play.specs.Play.{play}
use Rattle.run_tools.specs.Checking.{count_lines}
use Rattle.run_tools.specs.Picturing.{picture_lines}
use Rattle.run_tools.specs.CheckTodo.{check}
use Rattle.run_tools.specs.CompileTodo.{compile}
use Rattle.run_tools.specs.SourceTodo.{make_source}
use Rattle.run_words.specs.ToolForms.{stress_of}
use Rattle.sof_run.specs.StressTodo.{stress}
use Rattle.run_tools.specs.DecodeTodo.{decode}
use Rattle.run_replay.specs.ReplayTodo.{replay}
use Rattle.run_words.specs.Requests.{Request, Play, Check, Picture, Compile, Source, Stress, Decode, Replay, request_of}

-- what is to do where this is asked for, or nothing is, over a device of this room; a stress has sent so many messages at its end
abbrev pub todo_for : ℕ → ℕ → Option Request → Todo
todo_for room sent (Some (Play form)) = play form
todo_for room sent (Some (Check name)) = check count_lines name
todo_for room sent (Some (Picture name)) = check picture_lines name
todo_for room sent (Some (Compile names)) = compile names
todo_for room sent (Some (Source files)) = make_source files
todo_for room sent (Some (Stress seed)) = stress room sent seed
todo_for room sent (Some (Decode name)) = decode name
todo_for room sent (Some (Replay name)) = replay room name
todo_for room sent None = Stop (codes "words\n") 1

-- all that `run` does with these words, over a device of this room
abbrev pub todo_of : ℕ → ℕ → List (List ℕ) → Todo
todo_of room sent words = todo_for room sent (request_of room words)

-- a plan that a stress begins a session over is sound
abbrev pub BeginsSound : List (List ℕ) → List Turn → Type 0
BeginsSound words turns = (seed : ℕ) → stress_of words ≡ Some seed → (turns ≡ []) ⊎ IsSound (stress_plan seed)

-- It was done by turns on the device, with records in front where a trace is kept, and the session at its end has sent so many messages.
pub record GaveSent {D P : Type 0} (means : DeskMeaning D) (dsp : Meaning P) (words : List (List ℕ)) (todo : ℕ → Todo) (old : D) (p : P) (status : ℕ) (new : D) (q : P) : Type 0 where
  pub sent : ℕ
  pub last : Life P
  pub is : device_of last ≡ q
  pub exit : replay_of words ≡ None → Exit dsp p last
  pub turns : List Turn
  pub turned : Turns dsp (Bare p) turns last
  pub records : List (List Entry)
  pub kept : KeptRecords dsp (trace_named (dsp.most p) words) (Bare p) turns last turned records
  pub played : Played means (todo sent) old (recorded_turns records turns) status new
  pub is_sent : sent ≡ sent_in last
  pub sound : BeginsSound words turns

-- the same of a stress alone
pub record StressGave {D P : Type 0} (means : DeskMeaning D) (dsp : Meaning P) (seed : ℕ) (old : D) (p : P) (status : ℕ) (new : D) (q : P) : Type 0 where
  pub sent : ℕ
  pub gave : Gave means dsp (stress (dsp.most p) sent seed) old p status new q
  pub is_sent : sent ≡ sent_in gave.last
  pub sound : (gave.ran.turns ≡ []) ⊎ IsSound (stress_plan seed)
