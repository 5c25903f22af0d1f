-- The laws of plays that public calls state.
use Rattle.std.specs.Prelude.{◌≡◌, ◌⊎◌, ◌≤◌, ℕ, List, [], ◌∷◌, length, Some, None, Ok, option_map}
use Rattle.sof_desk.specs.Desk.{DeskMeaning, DeskPlace, Slot}
use Rattle.stream_law.specs.State.{view_of}
use Rattle.mbox_link.specs.Calls.{Meaning}
use Rattle.tplg_plan.specs.declared.plans.Plan.{Plan}
use Rattle.tplg_source.specs.Outcome.{source_for}
use Rattle.sof_script.specs.declared.script.Command.{Command}
use Rattle.sof_session.specs.SessionStep.{Calm}
use Rattle.run_play.specs.Keeping.{trace_slot}
use Rattle.run_play.specs.Met.{met}
use Rattle.run_words.specs.TraceForms.{replay_of}
use Rattle.run_replay.specs.Replays.{replay_fault}
use Rattle.run_play.specs.Plays.{ToPlay, AreFilesTold}
use Rattle.run_play.specs.Traces.{put_at}
use Rattle.run_desk.specs.DeskCalls.{heard_in}
use Rattle.sof_run.specs.Run.{RunContract}

-- What `RunContract` says of a play determines what is written: two plays of the same words over the same desk and device, which did
-- nothing of its own accord, that end with status 0 wrote the same bytes.
abbrev pub PlaysAreOne : {D P : Type 0} → DeskMeaning D → Meaning P → Type 0
PlaysAreOne {D} {P} means dsp =
    (words : List (List ℕ)) (old new other : D) (p q r : P) (play : ToPlay (dsp.most p) words) → AreFilesTold (means.holds old) play →
    RunContract source_for means dsp words old p 0 new q → RunContract source_for means dsp words old p 0 other r → Calm dsp p q → Calm dsp p r →
    (place : DeskPlace) → means.wrote new place ≡ means.wrote other place

-- What `RunContract` says of a trace and of its replay: the device to which the trace is given gets the view that the traced one had. Both plays end
-- with status 0, over desks and devices of any kind of which neither device did anything of its own accord; the replay's desk tells, under
-- the name of its file, the bytes that were written to the trace.
abbrev pub ReplaysAlike : {D P E Q : Type 0} → DeskMeaning D → Meaning P → DeskMeaning E → Meaning Q → Type 0
ReplaysAlike {D} {P} {E} {Q} means dsp others device =
    (words again : List (List ℕ)) (old new : D) (p q : P) (before after : E) (r s : Q) (play : ToPlay (dsp.most p) words) (name file bytes : List ℕ) →
    play.form.trace ≡ Some name → AreFilesTold (means.holds old) play → RunContract source_for means dsp words old p 0 new q → Calm dsp p q → means.wrote new (Slot trace_slot) ≡ Some bytes →
    replay_of again ≡ Some file → others.holds before file ≡ Some bytes → RunContract source_for others device again before r 0 after s → Calm device r s →
    option_map view_of (device.on s) ≡ option_map view_of (dsp.on q)

-- So it is where the desks tell nothing: of the play's files by what its loads brought, and of the trace by what its calls put to the trace's
-- slot, which the replay's load brought.
abbrev pub HeardReplaysAlike : {D P E Q : Type 0} → DeskMeaning D → Meaning P → DeskMeaning E → Meaning Q → Type 0
HeardReplaysAlike {D} {P} {E} {Q} means dsp others device =
    (words again : List (List ℕ)) (old new : D) (p q : P) (before after : E) (r s : Q) (play : ToPlay (dsp.most p) words) (name file : List ℕ) →
    play.form.trace ≡ Some name → (a : RunContract source_for means dsp words old p 0 new q) → heard_in a.called.calls ≡ Ok play.topology ∷ Ok play.script ∷ [] → Calm dsp p q →
    replay_of again ≡ Some file → (b : RunContract source_for others device again before r 0 after s) → heard_in b.called.calls ≡ Ok (put_at (Slot trace_slot) a.called.calls) ∷ [] → Calm device r s →
    option_map view_of (device.on s) ≡ option_map view_of (dsp.on q)

-- No record of those that a run leaves is at fault in a replay over a device whose room its heap does not exceed.
abbrev pub TracesReplay : Type 0
TracesReplay = (plan : Plan) (heap room : ℕ) (commands : List Command) → heap ≤ room → replay_fault room (met plan heap commands) None ≡ None

-- So a replay of a trace that was kept whole ends with status 0 and that view, or since the desk failed or memory was missing: over a device whose room
-- the traced heap does not exceed, of a trace of at most the replay's limit, where neither device did anything of its own accord.
abbrev pub ReplaysEnd : {D P E Q : Type 0} → DeskMeaning D → Meaning P → DeskMeaning E → Meaning Q → Type 0
ReplaysEnd {D} {P} {E} {Q} means dsp others device =
    (words again : List (List ℕ)) (old new : D) (p q : P) (before after : E) (r s : Q) (status : ℕ) (play : ToPlay (dsp.most p) words) (name file bytes : List ℕ) →
    play.form.trace ≡ Some name → AreFilesTold (means.holds old) play → RunContract source_for means dsp words old p 0 new q → Calm dsp p q → means.wrote new (Slot trace_slot) ≡ Some bytes →
    play.form.heap ≤ device.most r → length bytes ≤ 16777216 → replay_of again ≡ Some file → others.holds before file ≡ Some bytes → RunContract source_for others device again before r status after s → Calm device r s →
    ((status ≡ 3) ⊎ (status ≡ 7)) ⊎ ((status ≡ 0) × (option_map view_of (device.on s) ≡ option_map view_of (dsp.on q)))

-- And where the desks tell nothing: the bytes that the load brought are within its limit.
abbrev pub HeardReplaysEnd : {D P E Q : Type 0} → DeskMeaning D → Meaning P → DeskMeaning E → Meaning Q → Type 0
HeardReplaysEnd {D} {P} {E} {Q} means dsp others device =
    (words again : List (List ℕ)) (old new : D) (p q : P) (before after : E) (r s : Q) (status : ℕ) (play : ToPlay (dsp.most p) words) (name file : List ℕ) →
    play.form.trace ≡ Some name → (a : RunContract source_for means dsp words old p 0 new q) → heard_in a.called.calls ≡ Ok play.topology ∷ Ok play.script ∷ [] → Calm dsp p q →
    play.form.heap ≤ device.most r → replay_of again ≡ Some file → (b : RunContract source_for others device again before r status after s) → heard_in b.called.calls ≡ Ok (put_at (Slot trace_slot) a.called.calls) ∷ [] → Calm device r s →
    ((status ≡ 3) ⊎ (status ≡ 7)) ⊎ ((status ≡ 0) × (option_map view_of (device.on s) ≡ option_map view_of (dsp.on q)))
