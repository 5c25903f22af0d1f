-- What `replay` ensures, by the words.
use Rattle.std.proofs.Common.{◌≡◌, ◌⊎◌, inl, inr, subst, ℕ, List, [], Option, Some, None}
use Rattle.sof_desk.specs.Desk.{DeskMeaning}
use Rattle.mbox_link.specs.Calls.{Meaning}
use Rattle.ipc3_trace.specs.declared.entry.Entry.{Entry}
use Rattle.sof_session.specs.Lives.{Life, Bare, Turns}
use Rattle.sof_script.specs.Tasks.{Turn}
use Rattle.run_desk.specs.Todo.{DoneBy}
use Rattle.run_play.specs.Keeping.{recorded_turns, KeptRecords}
use Rattle.run_words.specs.TraceForms.{replay_of}
use Rattle.run_replay.specs.ReplayTodo.{replay}
use Rattle.run_replay.specs.Replays.{Replays}
use Rattle.run_words.specs.Requests.{Replay}
use Rattle.sof_run.specs.Forms.{todo_for, todo_of, GaveSent}
use Rattle.run_words.proofs.Requests.{replay_asked, none_kept}
use Rattle.run_desk.proofs.Statuses.{none_turned}
use Rattle.sof_run.proofs.Throughout.{words_last}
use Rattle.run_replay.proofs.ReplayVerdicts.{replays}

-- a status that may come after turns
abbrev IsBehind : ℕ → Type 0
IsBehind n = (n ≡ 5) ⊎ (n ≡ 7) → ⊥

not_early : (n : ℕ) → (n ≡ 5 → ⊥) → (n ≡ 7 → ⊥) → IsBehind n
not_early n five seven (inl is) = five is
not_early n five seven (inr is) = seven is

module _ {D P : Type 0} (means : DeskMeaning D) (dsp : Meaning P) (words : List (List ℕ)) (old new : D) (p q : P) (status : ℕ) (off : dsp.on p ≡ None) (none : dsp.pending p ≡ 0)
    (gave : GaveSent means dsp words (λ sent. todo_of (dsp.most p) sent words) old p status new q) where
  abbrev last : Life P
  last = gave.last

  -- no trace is kept of a replay
  no_records : (name : List ℕ) → replay_of words ≡ Some name → gave.records ≡ []
  no_records name is =
      subst (λ (trace : Option (List ℕ)). KeptRecords dsp trace (Bare p) gave.turns last gave.turned gave.records)
      (none_kept (dsp.most p) words (Some (Replay name)) (replay_asked (dsp.most p) words name is) (λ form e. cc e)) gave.kept

  goes : (name : List ℕ) → replay_of words ≡ Some name → DoneBy (replay (dsp.most p) name) gave.turns gave.played.calls status
  goes name is =
      subst (λ (records : List (List Entry)). DoneBy (replay (dsp.most p) name) (recorded_turns records gave.turns) gave.played.calls status) (no_records name is)
      (subst (λ r. DoneBy (todo_for (dsp.most p) gave.sent r) (recorded_turns gave.records gave.turns) gave.played.calls status) (replay_asked (dsp.most p) words name is) gave.played.goes)

  alone : (name : List ℕ) → replay_of words ≡ Some name → (status ≡ 5) ⊎ (status ≡ 7) → last ≡ Bare p
  alone name is early =
      subst (λ (ts : List Turn). Turns dsp (Bare p) ts last)
      (none_turned IsBehind (not_early 3 (λ e. cc e) (λ e. cc e)) (replay (dsp.most p) name) gave.turns gave.played.calls status (goes name is)
      (words_last IsBehind (not_early 0 (λ e. cc e) (λ e. cc e)) (dsp.most p) gave.sent (Some (Replay name)) (λ other e. (not_early 2 (λ e. cc e) (λ e. cc e), not_early 10 (λ e. cc e) (λ e. cc e)))) (λ behind. behind early))
      gave.turned

  pub replays_given : Replays means dsp words old p gave.played.calls status new last
  replays_given = replays means dsp words old new p last status off none gave.turns gave.turned gave.played.calls gave.played.led goes alone
