-- All that `run` ensures, from what it did.
use Rattle.std.proofs.Common.{◌≡◌, ◌⊎◌, inl, inr, ℕ, ◌<◌, ◌^◌, Bool, true, false, List, [], ◌∷◌, ◌++◌, length, map, take, Option, Some, None, Ok, refl, sym, ap, ◌∙◌, subst, arith, codes}
use Rattle.std.specs.Prelude.{option_map}
use Rattle.std.specs.List.{AllByRecursion}
use Rattle.std.proofs.lemmas.List.{length-map, take_all}
use Rattle.sof_desk.specs.Desk.{DeskMeaning, Slot, DeskCall, CountRose, with_more}
use Rattle.stream_law.specs.State.{view_of}
use Rattle.mbox_link.specs.Calls.{Meaning}
use Rattle.tplg_model.specs.declared.block.Topology.{Topology}
use Rattle.tplg_graph.specs.PlanOf.{plan_of}
use Rattle.tplg_source.specs.Outcome.{source_for}
use Rattle.host_widgets.specs.declared.kept.Record.{Record}
use Rattle.sof_script.specs.Commands.{Read}
use Rattle.tplg_plan.specs.Sound.{IsSound}
use Rattle.sof_script.specs.declared.script.Command.{Command}
use Rattle.sof_session.specs.SessionStep.{Calm}
use Rattle.sof_script.specs.Tasks.{Out, Turn, AreTurns}
use Rattle.sof_session.specs.Written.{Ground, Leg, first_at, basis_of}
use Rattle.sof_session.specs.Fills.{bytes_read}
use Rattle.sof_session.specs.Modes.{Mode, made_at_load, made_on_use}
use Rattle.sof_session.proofs.LoadMode.{load-laws}
use Rattle.sof_session.proofs.ModeLaws.{ModeLaws}
use Rattle.sof_session.proofs.UpMode.{up-laws}
use Rattle.ipc3_trace.specs.declared.entry.Entry.{Entry}
use Rattle.ipc3_trace.specs.Records.{IsEntry, records_bytes}
use Rattle.ipc3_trace.specs.Steps.{steps_of}
use Rattle.ipc3_trace.specs.WholeTraces.{IsTraceOf}
use Rattle.sof_session.specs.Lives.{Bare, Turns, device_of, carried_outs, reads_in}
use Rattle.sof_stress.specs.StressRun.{sent_in}
use Rattle.run_desk.specs.Todo.{Todo, Says, DoneBy}
use Rattle.run_desk.specs.Throughout.{Throughout}
use Rattle.run_desk.specs.Bindings.{bound_files}
use Rattle.run_play.specs.Rounds.{Round, rounds_of}
use Rattle.run_desk.specs.Prepared.{Ready, prepared}
use Rattle.run_play.specs.Play.{play}
use Rattle.run_tools.specs.Checking.{count_lines}
use Rattle.run_tools.specs.Picturing.{picture_lines}
use Rattle.run_tools.specs.CheckTodo.{check}
use Rattle.run_tools.specs.CompileTodo.{compile}
use Rattle.run_tools.specs.SourceTodo.{make_source}
use Rattle.sof_run.specs.StressTodo.{stress}
use Rattle.run_tools.specs.DecodeTodo.{decode}
use Rattle.run_replay.specs.ReplayTodo.{replay}
use Rattle.run_words.specs.Requests.{Request, Play, Check, Picture, Compile, Source, Stress, Decode, Replay, request_of}
use Rattle.run_words.specs.TraceForms.{replay_of}
use Rattle.run_words.specs.Words.{Form, play_of}
use Rattle.run_play.specs.Met.{met_units}
use Rattle.run_play.specs.Pieces.{AreWritten, opened, bytes_of_pieces}
use Rattle.run_play.specs.Traces.{met_in, put_at, TracesWhole}
use Rattle.run_play.specs.Keeping.{trace_slot, trace_slots, recorded_turns, recorded_outs, TurnsLeft, KeptRecords}
use Rattle.sof_run.specs.Forms.{todo_for, todo_of, GaveSent}
use Rattle.sof_run.specs.Ends.{IsEarly, Worded}
use Rattle.run_desk.specs.Verdicts.{MakeRun}
use Rattle.sof_run.specs.PlayVerdict.{Judged}
use Rattle.run_play.specs.Plays.{ToPlay, AreFilesTold, AreMet, Plays, PlaysIn, Unbegun, PlaysWhole, written_slots, ground_of, commands_in}
use Rattle.run_play.specs.HeardRuns.{RunsBy, RunsIn, PlaysWhatIsHeard}
use Rattle.sof_run.specs.Run.{Left}
use Rattle.sof_run.specs.Findings.{FollowsCourse}
use Rattle.run_desk.specs.TopologyBytes.{BringsBytes}
use Rattle.run_desk.specs.DeskCalls.{heard_in}
use Rattle.run_words.proofs.Requests.{play_asked, play_in, replay_meant, kept_of, nothing_asked, formless_asked}
use Rattle.run_desk.proofs.SaidLines.{said}
use Rattle.sof_run.proofs.Judging.{judge}
use Rattle.run_play.proofs.PlanWords.{sound_plan}
use Rattle.run_play.proofs.ScriptRanges.{script_sound}
use Rattle.run_play.proofs.OpenedFiles.{Next}
use Rattle.sof_run.proofs.Findings.{as_prepared, prepared_same, files_only}
use Rattle.run_desk.proofs.LoadedBytes.{loads_bring}
use Rattle.sof_run.proofs.Courses.{follows}
use Rattle.run_play.proofs.PlayRuns.{play_goes, plays, before_begun}
use Rattle.run_play.proofs.HeardRuns.{Began, Ended, play_heard, legs, over_is, met_is, view_is, all_legs}
use Rattle.run_play.proofs.RecordedTurns.{Fronted, fronted_turns, none_recorded, as_many_outs, outs_recorded}
use Rattle.run_play.proofs.MetRuns.{all_records, met-length}
use Rattle.sof_run.proofs.TraceFiles.{trace-apart, file-bytes, trace-bytes}
use Rattle.sof_run.proofs.RecordEntries.{records-each, trace-written, told_heard}
use Rattle.sof_run.proofs.OnePlay.{all_made, all_pieces}
use Rattle.sof_run.proofs.PutBytes.{play-put}
use Rattle.run_desk.proofs.Statuses.{IsLate, ends, none_turned, none_asked, three_rose}
use Rattle.sof_run.proofs.Throughout.{play_all, check_all, compile_all, source_all, stress_all, decode_all, replay_all, words_last}

not_late : (status : ℕ) → IsEarly status → IsLate status → ⊥
not_late status (inl is) (inl late) = cc (sym is ∙ late)
not_late status (inl is) (inr late) = cc (sym is ∙ late)
not_late status (inr (inl is)) (inl late) = cc (sym is ∙ late)
not_late status (inr (inl is)) (inr late) = cc (sym is ∙ late)
not_late status (inr (inr (inl is))) (inl late) = cc (sym is ∙ late)
not_late status (inr (inr (inl is))) (inr late) = cc (sym is ∙ late)
not_late status (inr (inr (inr (inl is)))) (inl late) = cc (sym is ∙ late)
not_late status (inr (inr (inr (inl is)))) (inr late) = cc (sym is ∙ late)
not_late status (inr (inr (inr (inr (inl is))))) (inl late) = cc (sym is ∙ late)
not_late status (inr (inr (inr (inr (inl is))))) (inr late) = cc (sym is ∙ late)
not_late status (inr (inr (inr (inr (inr is))))) (inl late) = cc (sym is ∙ late)
not_late status (inr (inr (inr (inr (inr is))))) (inr late) = cc (sym is ∙ late)

pub words_other : (room sent : ℕ) (r : Option Request) → Throughout (λ n. n ≡ 3 → ⊥) (λ name. Unit {0}) (todo_for room sent r)
words_other room sent None = λ e. cc e
words_other room sent (Some (Replay name)) = replay_all (λ n. n ≡ 3 → ⊥) (λ name. Unit {0}) room name (λ e. cc e) (λ e. cc e) (λ e. cc e) (λ e. cc e) (λ e. cc e) tt
words_other room sent (Some (Decode name)) = decode_all (λ n. n ≡ 3 → ⊥) (λ name. Unit {0}) name (λ e. cc e) (λ e. cc e) (λ e. cc e) (λ e. cc e) tt
words_other room sent (Some (Stress seed)) = stress_all (λ n. n ≡ 3 → ⊥) (λ name. Unit {0}) room sent seed (λ e. cc e) (λ e. cc e)
words_other room sent (Some (Compile names)) = compile_all (λ n. n ≡ 3 → ⊥) (λ name. Unit {0}) names (λ e. cc e) (λ e. cc e) (λ e. cc e) (λ e. cc e) tt
words_other room sent (Some (Source files)) = source_all (λ n. n ≡ 3 → ⊥) (λ name. Unit {0}) files (λ e. cc e) (λ e. cc e) (λ e. cc e) (λ e. cc e) tt
words_other room sent (Some (Check name)) = check_all (λ n. n ≡ 3 → ⊥) (λ name. Unit {0}) count_lines name (λ e. cc e) (λ e. cc e) (λ e. cc e) (λ e. cc e) tt
words_other room sent (Some (Picture name)) = check_all (λ n. n ≡ 3 → ⊥) (λ name. Unit {0}) picture_lines name (λ e. cc e) (λ e. cc e) (λ e. cc e) (λ e. cc e) tt
words_other room sent (Some (Play form)) = play_all (λ n. n ≡ 3 → ⊥) (λ name. Unit {0}) form (λ e. cc e) (λ e. cc e) (λ e. cc e) (λ e. cc e) (λ e. cc e) (λ e. cc e) (λ name. tt)

-- status 1 is that of words without a form
one_only : (room sent : ℕ) (r : Option Request) (turns : List Turn) (calls : List DeskCall) (status : ℕ) → DoneBy (todo_for room sent r) turns calls status → status ≡ 1 → r ≡ None
one_only room sent None turns calls status goes one = refl
one_only room sent (Some (Replay name)) turns calls status goes one =
    absurd (ends (λ n. n ≡ 1 → ⊥) (λ name. Unit {0}) (replay room name) turns calls status goes (replay_all (λ n. n ≡ 1 → ⊥) (λ name. Unit {0}) room name (λ e. cc e) (λ e. cc e) (λ e. cc e) (λ e. cc e) (λ e. cc e) tt) (λ e. cc e) one)
one_only room sent (Some (Decode name)) turns calls status goes one =
    absurd (ends (λ n. n ≡ 1 → ⊥) (λ name. Unit {0}) (decode name) turns calls status goes (decode_all (λ n. n ≡ 1 → ⊥) (λ name. Unit {0}) name (λ e. cc e) (λ e. cc e) (λ e. cc e) (λ e. cc e) tt) (λ e. cc e) one)
one_only room sent (Some (Stress seed)) turns calls status goes one =
    absurd (ends (λ n. n ≡ 1 → ⊥) (λ name. Unit {0}) (stress room sent seed) turns calls status goes (stress_all (λ n. n ≡ 1 → ⊥) (λ name. Unit {0}) room sent seed (λ e. cc e) (λ e. cc e)) (λ e. cc e) one)
one_only room sent (Some (Compile names)) turns calls status goes one =
    absurd (ends (λ n. n ≡ 1 → ⊥) (λ name. Unit {0}) (compile names) turns calls status goes (compile_all (λ n. n ≡ 1 → ⊥) (λ name. Unit {0}) names (λ e. cc e) (λ e. cc e) (λ e. cc e) (λ e. cc e) tt) (λ e. cc e) one)
one_only room sent (Some (Source files)) turns calls status goes one =
    absurd (ends (λ n. n ≡ 1 → ⊥) (λ name. Unit {0}) (make_source files) turns calls status goes (source_all (λ n. n ≡ 1 → ⊥) (λ name. Unit {0}) files (λ e. cc e) (λ e. cc e) (λ e. cc e) (λ e. cc e) tt) (λ e. cc e) one)
one_only room sent (Some (Check name)) turns calls status goes one =
    absurd (ends (λ n. n ≡ 1 → ⊥) (λ name. Unit {0}) (check count_lines name) turns calls status goes (check_all (λ n. n ≡ 1 → ⊥) (λ name. Unit {0}) count_lines name (λ e. cc e) (λ e. cc e) (λ e. cc e) (λ e. cc e) tt) (λ e. cc e) one)
one_only room sent (Some (Picture name)) turns calls status goes one =
    absurd (ends (λ n. n ≡ 1 → ⊥) (λ name. Unit {0}) (check picture_lines name) turns calls status goes (check_all (λ n. n ≡ 1 → ⊥) (λ name. Unit {0}) picture_lines name (λ e. cc e) (λ e. cc e) (λ e. cc e) (λ e. cc e) tt) (λ e. cc e) one)
one_only room sent (Some (Play form)) turns calls status goes one =
    absurd (ends (λ n. n ≡ 1 → ⊥) (λ name. Unit {0}) (play form) turns calls status goes (play_all (λ n. n ≡ 1 → ⊥) (λ name. Unit {0}) form (λ e. cc e) (λ e. cc e) (λ e. cc e) (λ e. cc e) (λ e. cc e) (λ e. cc e) (λ name. tt)) (λ e. cc e) one)

one_each : (turns : List Turn) (calls : List DeskCall) (status : ℕ) → Says (codes "words\n") 1 turns calls status → (status ≡ 1) ⊎ (status ≡ 3)
one_each turns calls status says = elim (said (codes "words\n") 1 turns calls status says) [ inl three ↦ inr three | inr one ↦ inl one.0 ]

pub worded : (room sent : ℕ) (words : List (List ℕ)) (turns : List Turn) (calls : List DeskCall) (status : ℕ) → DoneBy (todo_of room sent words) turns calls status → Worded room words status
worded room sent words turns calls status goes =
    record {
      only = λ one. nothing_asked room words (one_only room sent (request_of room words) turns calls status goes one);
      each = λ no_play no_check no_graph no_compile no_source no_stress no_decode no_replay.
          one_each turns calls status (subst (λ r. DoneBy (todo_for room sent r) turns calls status) (formless_asked room words no_play no_check no_graph no_compile no_source no_stress no_decode no_replay) goes);
    }

-- ---- the files

files_ready : (topology script : List ℕ) (t : Topology) (read : Read) → MakeRun topology script t read → prepared topology script ≡ Ready (plan_of t) read
files_ready topology script t read is = prepared_same topology script ∙ ap as_prepared (files_only topology script (Ok (t, read)) is)

-- ---- all

not_zero : (status : ℕ) → status ≡ 0 → (status ≡ 3) ⊎ (status ≡ 7) → ⊥
not_zero status zero (inl three) = cc (sym zero ∙ three)
not_zero status zero (inr seven) = cc (sym zero ∙ seven)

-- a status of any kind
abbrev AnyStatus : ℕ → Type 0
AnyStatus n = Unit {0}

module _ {D P : Type 0} (means : DeskMeaning D) (dsp : Meaning P) (words : List (List ℕ)) (old new : D) (p q : P) (status : ℕ) (given : GaveSent means dsp words (λ sent. todo_of (dsp.most p) sent words) old p status new q) where
  abbrev todo : Todo
  todo = todo_of (dsp.most p) given.sent words

  -- the turns, with the records in front of what they wrote
  abbrev all_turns : List Turn
  all_turns = recorded_turns given.records given.turns

  abbrev goes : DoneBy todo all_turns given.played.calls status
  goes = given.played.goes

  other : Throughout (λ n. n ≡ 3 → ⊥) (λ name. Unit {0}) todo
  other = words_other (dsp.most p) given.sent (request_of (dsp.most p) words)

  pub course_made : FollowsCourse source_for (dsp.most p) (sent_in given.last) words all_turns given.played.calls status
  course_made = subst (λ n. FollowsCourse source_for (dsp.most p) n words all_turns given.played.calls status) given.is_sent (follows (dsp.most p) given.sent words all_turns given.played.calls status goes)

  pub bytes_loaded : AllByRecursion BringsBytes (heard_in given.played.calls)
  bytes_loaded = loads_bring todo all_turns given.played.calls status goes

  pub count_rose : status ≡ 3 → CountRose (means.faults old) (means.faults new)
  count_rose three = three_rose means todo all_turns given.played.calls status old new goes other given.played.led three

  -- where no turn came, the device is as it was
  pub still : all_turns ≡ [] → given.last ≡ Bare p
  still none = subst (λ ts. Turns dsp (Bare p) ts given.last) (none_recorded given.records given.turns none) given.turned

  no_replay : replay_of words ≡ None → (name : List ℕ) → request_of (dsp.most p) words ≡ Some (Replay name) → IsLate 2 × IsLate 10
  no_replay none name is = absurd (cc (sym none ∙ replay_meant (dsp.most p) words name is))

  pub left : Left dsp words p q given.last given.played.calls status
  left = record {
    is = given.is;
    exit = given.exit;
    untouched = λ none early.
        still (none_turned IsLate (inr refl) todo all_turns given.played.calls status goes (words_last IsLate (inl refl) (dsp.most p) given.sent (request_of (dsp.most p) words) (no_replay none)) (not_late status early));
    unasked = λ three loads.
        still (none_asked AnyStatus todo all_turns given.played.calls status goes (words_last AnyStatus tt (dsp.most p) given.sent (request_of (dsp.most p) words) (λ name is. (tt, tt))) three loads);
  }

  pub words_end : Worded (dsp.most p) words status
  words_end = worded (dsp.most p) given.sent words all_turns given.played.calls status goes

  -- what was done is what a play does
  plays_by : (form : Form) → play_of (dsp.most p) words ≡ Some form → DoneBy (play form) all_turns given.played.calls status
  plays_by form is_form = subst (λ r. DoneBy (todo_for (dsp.most p) given.sent r) all_turns given.played.calls status) (play_asked (dsp.most p) words form is_form) goes

  kept_by : (form : Form) → play_of (dsp.most p) words ≡ Some form → KeptRecords dsp form.trace (Bare p) given.turns given.last given.turned given.records
  kept_by form is_form = subst (λ (trace : Option (List ℕ)). KeptRecords dsp trace (Bare p) given.turns given.last given.turned given.records) (kept_of (dsp.most p) words form is_form) given.kept

  fronts : AreTurns (Fronted dsp) (Bare p) all_turns given.last
  fronts = fronted_turns dsp given.records given.turns (Bare p) given.last given.turned

  pub judged : Judged means (dsp.most p) words old given.played.calls status
  judged form topology script is_form is_topology is_script =
      judge topology script means form all_turns given.played.calls status old new is_topology is_script (plays_by form is_form) given.played.led

  pub plays_whole : dsp.on p ≡ None → PlaysWhole means dsp words old new status p given.last given.turns given.records
  plays_whole off run told =
      let plan = plan_of run.t in
      let g : Ground = ground_of run (bound_files plan (means.holds old) [] run.read.bindings) in
      let ready = files_ready run.topology run.script run.t run.read run.make_run in
      let whole = sound_plan run.t run.make_run.file.0 run.make_run.whole in
      let next : Next means (play run.form) all_turns status old new = record { calls = given.played.calls; goes = plays_by run.form run.is_form; led = given.played.led } in
      let sound = script_sound run.script run.read (omega (arith, run.fit.1)) run.make_run.lines.0 in
      (elim (play_goes means dsp run.form run.topology run.script plan run.read ready all_turns status old new p given.last fronts told.0 told.1 run.fit.0 run.fit.1 told.2 next) as
      (λ w. PlaysIn run.form.on_use means dsp run.form.trace g (rounds_of run.read.commands) old new status p given.last given.turns given.records ⊎ Unbegun means (written_slots run) old new status p given.last) [
        | inl b ↦ inl (plays means dsp run.form run.topology run.script plan run.read ready all_turns status old new p given.last fronts given.records given.turns given.turned refl (kept_by run.form run.is_form) off whole run.make_run.right sound.few b (play_in (dsp.most p) words run.form run.is_form).1)
        | inr b ↦ inr (before_begun means dsp run.form run.topology run.script plan run.read ready all_turns status old new p given.last fronts b)
      ])

  -- ---- whatever the desk tells

  module _ (off : dsp.on p ≡ None) (a : ToPlay (dsp.most p) words) where
    abbrev ready : prepared a.topology a.script ≡ Ready (plan_of a.t) a.read
    ready = files_ready a.topology a.script a.t a.read a.make_run

    whole : IsSound (plan_of a.t)
    whole = sound_plan a.t a.make_run.file.0 a.make_run.whole

    few : length a.read.commands < 2 ^ 32
    few = (script_sound a.script a.read (omega (arith, a.fit.1)) a.make_run.lines.0).few

    abbrev IsBegun : Type 0
    IsBegun = Began a.form a.topology a.script (plan_of a.t) a.read ready all_turns status

    heard_by : heard_in given.played.calls ≡ Ok a.topology ∷ Ok a.script ∷ [] → IsBegun ⊎ Ended all_turns status
    heard_by heard = play_heard a.form a.topology a.script (plan_of a.t) a.read ready all_turns status given.played.calls heard (plays_by a.form a.is_form)

    -- the run is that of the mode that the words ask for
    module _ {S A : Type 0} (mode : Mode P S A) (laws : ModeLaws dsp mode (plan_of a.t) a.form.heap) (uses : a.form.on_use ≡ mode.on_use) (b : IsBegun) where
      abbrev legs_in : List (Leg S)
      legs_in = legs a.form a.topology a.script (plan_of a.t) a.read ready all_turns status dsp p given.last given.records given.turns given.turned refl (kept_by a.form a.is_form) off a.make_run.right few b mode laws uses

      run_in : RunsBy dsp mode (ground_of a (bytes_read (reads_in given.turns))) (commands_in (rounds_of a.read.commands)) p given.turns given.last
      run_in = (legs_in, over_is a.form a.topology a.script (plan_of a.t) a.read ready all_turns status dsp p given.last given.records given.turns given.turned refl (kept_by a.form a.is_form) off a.make_run.right few b mode laws uses)

    abbrev load : ModeLaws dsp made_at_load (plan_of a.t) a.form.heap
    load = load-laws dsp (plan_of a.t) a.form.heap whole

    runs_in : (on_use : Bool) → a.form.on_use ≡ on_use → IsBegun → RunsIn on_use dsp (ground_of a (bytes_read (reads_in given.turns))) (commands_in (rounds_of a.read.commands)) p given.turns given.last
    runs_in false uses b = run_in made_at_load load uses b
    runs_in true uses b = run_in (made_on_use dsp) (up-laws dsp (plan_of a.t) a.form.heap whole) uses b

    pub play_is_heard : heard_in given.played.calls ≡ Ok a.topology ∷ Ok a.script ∷ [] →
        RunsIn a.form.on_use dsp (ground_of a (bytes_read (reads_in given.turns))) (commands_in (rounds_of a.read.commands)) p given.turns given.last ⊎ (((status ≡ 3) ⊎ (status ≡ 7)) × (given.last ≡ Bare p))
    play_is_heard heard = by (heard_by heard)
      where
        by : IsBegun ⊎ Ended all_turns status → RunsIn a.form.on_use dsp (ground_of a (bytes_read (reads_in given.turns))) (commands_in (rounds_of a.read.commands)) p given.turns given.last ⊎ (((status ≡ 3) ⊎ (status ≡ 7)) × (given.last ≡ Bare p))
        by (inl b) = inl (runs_in a.form.on_use refl b)
        by (inr ended) = inr (ended.1, still ended.0)

    -- ---- the trace that is kept

    module _ (name : List ℕ) (named : a.form.trace ≡ Some name) (calm : Calm dsp p (device_of given.last)) where
      abbrev commands : List Command
      commands = commands_in (rounds_of a.read.commands)

      -- all pipelines are made at a load
      at_load : a.form.on_use ≡ false
      at_load = loads a.form.on_use refl
        where
          loads : (on_use : Bool) → a.form.on_use ≡ on_use → on_use ≡ false
          loads false uses = refl
          loads true uses = absurd (cc (sym named ∙ (play_in (dsp.most p) words a.form a.is_form).1 uses))

      kept_named : TurnsLeft dsp (Bare p) given.turns given.last given.turned given.records
      kept_named = subst (λ (trace : Option (List ℕ)). KeptRecords dsp trace (Bare p) given.turns given.last given.turned given.records) named (kept_by a.form a.is_form)

      -- records without a turn are none
      none_left : given.turns ≡ [] → given.records ≡ []
      none_left none = (subst (λ (ts : List Turn). (t : Turns dsp (Bare p) ts given.last) × TurnsLeft dsp (Bare p) ts given.last t given.records) none (given.turned, kept_named)).1

      -- as many units as turns carried out
      abbrev LeftFirst : ℕ → Type 0
      LeftFirst n = given.records ≡ met_units (plan_of a.t) a.form.heap (take n commands)

      left_by : heard_in given.played.calls ≡ Ok a.topology ∷ Ok a.script ∷ [] → LeftFirst (length (carried_outs given.turns))
      left_by heard = by (heard_by heard)
        where
          by : IsBegun ⊎ Ended all_turns status → LeftFirst (length (carried_outs given.turns))
          by (inl b) =
              let made : List (Leg Record) = legs_in made_at_load load at_load b in
              let many : length made ≡ length (carried_outs given.turns) = sym (length-map made (λ (leg : Leg Record). leg.out)) ∙ ap length (over_is a.form a.topology a.script (plan_of a.t) a.read ready all_turns status dsp p given.last given.records given.turns given.turned refl (kept_by a.form a.is_form) off a.make_run.right few b made_at_load load at_load).outs in
              subst LeftFirst many
              (subst (λ (trace : Option (List ℕ)). AreMet trace (plan_of a.t) a.form.heap (take (length made) commands) given.records) named
              (met_is a.form a.topology a.script (plan_of a.t) a.read ready all_turns status dsp p given.last given.records given.turns given.turned refl (kept_by a.form a.is_form) off a.make_run.right few b made_at_load load at_load refl calm))
          by (inr ended) =
              let none : given.turns ≡ [] = none_recorded given.records given.turns ended.0 in
              none_left none ∙ ap (λ (ts : List Turn). met_units (plan_of a.t) a.form.heap (take (length (carried_outs ts)) commands)) (sym none)

      -- all commands have a leg
      abbrev IsAll : ℕ → Type 0
      IsAll n = take n commands ≡ commands

      all_of : (n : ℕ) → n ≡ length (rounds_of a.read.commands) → IsAll n
      all_of n is = take_all n commands (omega (arith, is, length-map (rounds_of a.read.commands) (λ (round : Round). round.numbered.command)))

      view_by : heard_in given.played.calls ≡ Ok a.topology ∷ Ok a.script ∷ [] → status ≡ 0 → option_map view_of (dsp.on (device_of given.last)) ≡ option_map view_of (steps_of (met_in a))
      view_by heard zero = by (heard_by heard)
        where
          by : IsBegun ⊎ Ended all_turns status → option_map view_of (dsp.on (device_of given.last)) ≡ option_map view_of (steps_of (met_in a))
          by (inr ended) = absurd (not_zero status zero ended.1)
          by (inl b) =
              let n : ℕ = length (legs_in made_at_load load at_load b) in
              let many : n ≡ length (rounds_of a.read.commands) = all_legs a.form a.topology a.script (plan_of a.t) a.read ready all_turns status dsp p given.last given.records given.turns given.turned refl (kept_by a.form a.is_form) off a.make_run.right few b made_at_load load at_load zero in
              let left : given.records ≡ met_units (plan_of a.t) a.form.heap (take n commands) =
              subst (λ (trace : Option (List ℕ)). AreMet trace (plan_of a.t) a.form.heap (take n commands) given.records) named
              (met_is a.form a.topology a.script (plan_of a.t) a.read ready all_turns status dsp p given.last given.records given.turns given.turned refl (kept_by a.form a.is_form) off a.make_run.right few b made_at_load load at_load refl calm) in
              view_is a.form a.topology a.script (plan_of a.t) a.read ready all_turns status dsp p given.last given.records given.turns given.turned refl (kept_by a.form a.is_form) off a.make_run.right few b made_at_load load at_load refl name named calm
              ∙ ap (λ (rs : List (List Entry)). option_map view_of (steps_of (all_records rs))) (left ∙ ap (met_units (plan_of a.t) a.form.heap) (all_of n many))

      abbrev g : Ground
      g = ground_of a (bound_files (plan_of a.t) (means.holds old) [] a.read.bindings)

      -- what the desk tells was heard
      view_told : AreFilesTold (means.holds old) a ⊎ (heard_in given.played.calls ≡ Ok a.topology ∷ Ok a.script ∷ []) → status ≡ 0 → option_map view_of (dsp.on (device_of given.last)) ≡ option_map view_of (steps_of (met_in a))
      view_told (inr heard) zero = view_by heard zero
      view_told (inl told) zero =
          view_by (told_heard means all_turns a.form a.topology a.script given.played.calls old new told.0 told.1 (subst (DoneBy (play a.form) all_turns given.played.calls) zero (plays_by a.form a.is_form)) given.played.led) zero

      -- a reader takes the records
      each_taken : AllByRecursion IsEntry (all_records given.records)
      each_taken = records-each dsp given.turns (Bare p) given.last given.turned given.records kept_named

      -- what was put to the trace's slot
      abbrev IsPut : Type 0
      IsPut = (put_at (Slot trace_slot) given.played.calls ≡ records_bytes (met_in a)) × IsTraceOf (records_bytes (met_in a)) (met_in a) None

      put_by : heard_in given.played.calls ≡ Ok a.topology ∷ Ok a.script ∷ [] → status ≡ 0 → IsPut
      put_by heard zero = by (heard_by heard)
        where
          by : IsBegun ⊎ Ended all_turns status → IsPut
          by (inr ended) = absurd (not_zero status zero ended.1)
          by (inl b) =
              let g : Ground = ground_of a (bytes_read (reads_in given.turns)) in
              let rounds : List Round = rounds_of a.read.commands in
              let made : List (Leg Record) = legs_in made_at_load load at_load b in
              let outs : List Out = map (λ (leg : Leg Record). leg.out) made in
              let over = over_is a.form a.topology a.script (plan_of a.t) a.read ready all_turns status dsp p given.last given.records given.turns given.turned refl (kept_by a.form a.is_form) off a.make_run.right few b made_at_load load at_load in
              let many : length made ≡ length rounds = all_legs a.form a.topology a.script (plan_of a.t) a.read ready all_turns status dsp p given.last given.records given.turns given.turned refl (kept_by a.form a.is_form) off a.make_run.right few b made_at_load load at_load zero in
              let outs_many : length outs ≡ length rounds = length-map made (λ (leg : Leg Record). leg.out) ∙ many in
              let left : given.records ≡ met_units (plan_of a.t) a.form.heap commands =
              subst (λ (trace : Option (List ℕ)). AreMet trace (plan_of a.t) a.form.heap (take (length made) commands) given.records) named
              (met_is a.form a.topology a.script (plan_of a.t) a.read ready all_turns status dsp p given.last given.records given.turns given.turned refl (kept_by a.form a.is_form) off a.make_run.right few b made_at_load load at_load refl calm)
              ∙ ap (met_units (plan_of a.t) a.form.heap) (all_of (length made) many) in
              let each : length given.records ≡ length outs =
              ap length left ∙ met-length (plan_of a.t) a.form.heap commands ∙ length-map rounds (λ (round : Round). round.numbered.command) ∙ sym outs_many in
              let apart = trace-apart a.topology a.t a.read.bindings a.make_run.file a.fit.0 a.make_run.right in
              let put = play-put (Slot trace_slot) a.form a.topology a.script (plan_of a.t) a.read ready all_turns given.played.calls heard (subst (DoneBy (play a.form) all_turns given.played.calls) zero (plays_by a.form a.is_form)) in
              let as_outs : carried_outs all_turns ≡ recorded_outs given.records outs = outs_recorded given.records given.turns ∙ ap (recorded_outs given.records) (sym over.outs) in
              let is : put_at (Slot trace_slot) given.played.calls ≡ records_bytes (met_in a) =
              put ∙ ap (λ (os : List Out). bytes_of_pieces (Slot trace_slot) (all_pieces rounds os)) as_outs
              ∙ trace-bytes g over.doing (take (length made) commands) (first_at (basis_of g)) made rounds given.records over.run apart outs_many each
              ∙ ap (λ (rs : List (List Entry)). records_bytes (all_records rs)) left in
              (is, trace-written (records_bytes (met_in a)) (met_in a) refl (subst (λ (rs : List (List Entry)). AllByRecursion IsEntry (all_records rs)) left each_taken))

      file_by : AreFilesTold (means.holds old) a → status ≡ 0 → (bytes : List ℕ) → means.wrote new (Slot trace_slot) ≡ Some bytes → (bytes ≡ records_bytes (met_in a)) × IsTraceOf bytes (met_in a) None
      file_by told zero bytes wrote =
          by (subst (λ (on_use : Bool). PlaysIn on_use means dsp a.form.trace g (rounds_of a.read.commands) old new status p given.last given.turns given.records ⊎ Unbegun means (written_slots a) old new status p given.last) at_load (plays_whole off a told))
        where
          by : Plays means dsp made_at_load a.form.trace g (rounds_of a.read.commands) old new status p given.last given.turns given.records ⊎ Unbegun means (written_slots a) old new status p given.last → (bytes ≡ records_bytes (met_in a)) × IsTraceOf bytes (met_in a) None
          by (inr u) = absurd (not_zero status zero u.ended)
          by (inl x) =
              let outs : List Out = map (λ (leg : Leg Record). leg.out) x.legs in
              let all = all_made (rounds_of a.read.commands) (recorded_outs given.records outs) x.made (subst (AreWritten (rounds_of a.read.commands) (recorded_outs given.records outs) x.made) zero x.written) in
              let as_many : length outs ≡ length (rounds_of a.read.commands) = sym (as_many_outs given.records outs) ∙ all.0 in
              let legs_many : length x.legs ≡ length (rounds_of a.read.commands) = sym (length-map x.legs (λ (leg : Leg Record). leg.out)) ∙ as_many in
              let left : given.records ≡ met_units (plan_of a.t) a.form.heap commands =
              subst (λ (trace : Option (List ℕ)). AreMet trace (plan_of a.t) a.form.heap (take (length x.legs) commands) given.records) named (x.met calm)
              ∙ ap (met_units (plan_of a.t) a.form.heap) (all_of (length x.legs) legs_many) in
              let each : length given.records ≡ length outs =
              ap length left ∙ met-length (plan_of a.t) a.form.heap commands ∙ length-map (rounds_of a.read.commands) (λ (round : Round). round.numbered.command) ∙ sym as_many in
              let apart = trace-apart a.topology a.t a.read.bindings a.make_run.file a.fit.0 a.make_run.right in
              let is : bytes_of_pieces (Slot trace_slot) x.made ≡ records_bytes (all_records given.records) =
              ap (bytes_of_pieces (Slot trace_slot)) all.1
              ∙ trace-bytes g x.over.doing (take (length x.legs) commands) (first_at (basis_of g)) x.legs (rounds_of a.read.commands) given.records x.run apart as_many each in
              let stands : means.wrote new (Slot trace_slot) ≡ with_more (opened (trace_slots (Some name) ++ g.slots) (Slot trace_slot) (means.wrote old (Slot trace_slot))) (bytes_of_pieces (Slot trace_slot) x.made) =
              subst (λ (trace : Option (List ℕ)). means.wrote new (Slot trace_slot) ≡ with_more (opened (trace_slots trace ++ g.slots) (Slot trace_slot) (means.wrote old (Slot trace_slot))) (bytes_of_pieces (Slot trace_slot) x.made)) named (x.wrote (Slot trace_slot)) in
              let held : bytes ≡ records_bytes (met_in a) =
              file-bytes trace_slot g.slots (means.wrote old (Slot trace_slot)) (means.wrote new (Slot trace_slot)) (bytes_of_pieces (Slot trace_slot) x.made) bytes stands wrote
              ∙ is ∙ ap (λ (rs : List (List Entry)). records_bytes (all_records rs)) left in
              (held, trace-written bytes (met_in a) held (subst (λ (rs : List (List Entry)). AllByRecursion IsEntry (all_records rs)) left each_taken))

  pub plays_heard : dsp.on p ≡ None → PlaysWhatIsHeard dsp words given.played.calls given.turns status p given.last
  plays_heard off a heard = play_is_heard off a heard

  pub traces : dsp.on p ≡ None → TracesWhole means dsp words given.turns given.played.calls old new status p given.last given.records
  traces off a name named calm = record { left = left_by off a name named calm; view = view_told off a name named calm; put = put_by off a name named calm; file = file_by off a name named calm }
