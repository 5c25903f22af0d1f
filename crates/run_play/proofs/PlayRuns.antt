-- All of `play`, over files that make a run: it plays the written run, or ended before it was begun.
use Rattle.std.proofs.Common.{◌≡◌, ◌⊎◌, inl, inr, ℕ, ◌<◌, ◌≤◌, ◌^◌, Bool, true, false, List, [], ◌∷◌, ◌++◌, map, take, length, Option, Some, None, refl, sym, ◌∙◌, ap, subst, codes, arith}
use Rattle.std.specs.List.{AllByRecursion}
use Rattle.std.proofs.lemmas.List.{append-nil}
use Rattle.sof_base.specs.Ports.{InputView}
use Rattle.stream_law.specs.Table.{list_of}
use Rattle.sof_desk.specs.Desk.{DeskMeaning, DeskCall, DeskLed, with_more}
use Rattle.mbox_link.specs.Calls.{Meaning}
use Rattle.tplg_plan.specs.declared.plans.Plan.{Plan}
use Rattle.tplg_plan.specs.Sound.{IsSound}
use Rattle.sof_script.specs.Commands.{Read}
use Rattle.sof_script.specs.declared.script.Command.{Command}
use Rattle.sof_session.specs.Modes.{Mode, made_at_load, made_on_use, basis_in}
use Rattle.sof_session.specs.SessionView.{SessionView, seat_in}
use Rattle.sof_session.specs.Fills.{AreWhole, bytes_read}
use Rattle.sof_session.specs.NewInputs.{AreNew}
use Rattle.sof_script.specs.Tasks.{Out, Task, Begin, Turn, AreTurns}
use Rattle.sof_session.specs.Written.{Ground, Leg, IsRun, first_at}
use Rattle.ipc3_trace.specs.declared.entry.Entry.{Entry}
use Rattle.sof_session.specs.SessionStep.{Calm}
use Rattle.sof_session.specs.Lives.{Life, Bare, Seated, Turned, Turns, device_of, inputs_of, reads_by, reads_in, carried_outs}
use Rattle.sof_session.specs.RunOver.{RunOver}
use Rattle.sof_session.proofs.FilledRuns.{AreFilled, RunsFilled, runs-filled}
use Rattle.sof_session.proofs.LoadMode.{load-laws}
use Rattle.sof_session.proofs.ModeLaws.{ModeLaws}
use Rattle.sof_session.proofs.UpMode.{up-laws}
use Rattle.run_words.specs.Words.{Form}
use Rattle.run_desk.specs.Todo.{Todo, Ask, Free, DoneBy}
use Rattle.run_desk.specs.Bindings.{wrong_binding, bound_inputs, bound_files, bound_outputs, bound_slots}
use Rattle.run_play.specs.Rounds.{rounds_of}
use Rattle.run_desk.specs.Prepared.{Ready, prepared}
use Rattle.run_play.specs.Keeping.{trace_slots, recorded_turns, recorded_outs, KeptRecords}
use Rattle.run_play.specs.Play.{prepared_todo, traced_todo, session_todo, play}
use Rattle.run_play.specs.Pieces.{AreWritten, bytes_of_pieces}
use Rattle.run_play.specs.Plays.{IsGiven, AreMet, Plays, PlaysIn, Unbegun}
use Rattle.run_play.proofs.Slots.{bound_distinct}
use Rattle.run_play.proofs.WrittenPieces.{commands_of}
use Rattle.run_play.proofs.UnreadBytes.{Unread, grows-new}
use Rattle.run_play.proofs.CarriedUnits.{Carried, rounds_go}
use Rattle.run_play.proofs.OpenedFiles.{Next, Before, AreOpen, AreMade, AreUnread, Opened, none_unread, unread_kept, opened_none, bind, ask_goes, free_goes, stopped_before, open_all, before_traced, traced_goes}
use Rattle.run_play.proofs.RecordedTurns.{Fronted, BareBegun, bare_begun, reads_recorded, outs_recorded, as_many_outs, filled_bare}
use Rattle.run_play.proofs.MetRuns.{are-met}
use Rattle.run_play.proofs.Grounds.{messages_few}

length-map : {X Y : Type 0} (f : X → Y) (xs : List X) → length (map f xs) ≡ length xs
length-map f [] = refl
length-map f (x ∷ xs) = omega (arith, length-map f xs)

module _ {D P : Type 0} (means : DeskMeaning D) (dsp : Meaning P) (form : Form) (topology script : List ℕ) (plan : Plan) (read : Read) (ready : prepared topology script ≡ Ready plan read) (turns : List Turn) (status : ℕ) (old new : D)
    (p : P) (last : Life P) (turned : AreTurns (Fronted dsp) (Bare p) turns last) where
  abbrev inputs : List InputView
  inputs = bound_inputs plan [] read.bindings

  abbrev slots : List ℕ
  slots = bound_slots plan read.bindings

  abbrev all_slots : List ℕ
  all_slots = trace_slots form.trace ++ slots

  abbrev files : List (ℕ × List ℕ)
  files = bound_files plan (means.holds old) [] read.bindings

  abbrev pub g : Ground
  g = record { plan = plan; heap = form.heap; whole = files; slots = slots }

  -- ---- the files, and the session

  -- the session was begun over open files, and its commands were carried out
  pub record Begun : Type 0 where
    pub begins : Turn
    pub others : List Turn
    pub are : turns ≡ begins ∷ others
    pub task : begins.task ≡ Begin form.on_use plan form.heap inputs slots
    pub mid : D
    pub opened : AreMade means all_slots old mid
    pub fresh : AreNew inputs
    pub made : Carried means dsp (rounds_of read.commands) others status mid new (list_of files) last

  abbrev session : Todo
  session = session_todo form.on_use form.heap plan read.commands inputs slots

  abbrev Result : Type 0
  Result = Begun ⊎ Before means all_slots turns status old new

  begun : (mid : D) → AreMade means all_slots old mid → AreUnread means inputs files mid → Next means session turns status mid new → Begun
  begun mid are_open unread n = by turns refl turned n.calls n.goes n.led
    where
      by : (ts : List Turn) → turns ≡ ts → AreTurns (Fronted dsp) (Bare p) ts last → (calls : List DeskCall) → DoneBy session ts calls status → DeskLed means mid calls new → Begun
      by [] is turned calls goes led = absurd goes
      by (begins ∷ others) is turned calls goes led =
          let seat : SessionView P = seat_in form.on_use plan form.heap p in
          let seated : turned.0 ≡ Seated seat inputs slots = subst (λ (task : Task). Turned dsp task turned.1.0 (Bare p) turned.0) goes.0 turned.1.1 in
          let u : Unread means inputs (list_of files) mid = record { told = unread.told; none = λ slot none. unread.none slot (grows-new slot inputs unread.new none) } in
          record {
            begins = begins;
            others = others;
            are = is;
            task = goes.0;
            mid = mid;
            opened = are_open;
            fresh = unread.new;
            made = rounds_go means dsp (rounds_of read.commands) others calls status mid new seat inputs slots (list_of files) last goes.1 led (subst (λ (l : Life P). AreTurns (Fronted dsp) l others last) seated turned.2) u;
          }

  module _ (is_topology : means.holds old form.topology ≡ Some topology) (is_script : means.holds old form.script ≡ Some script) (short : length topology ≤ 1048576) (shorter : length script ≤ 1048576) (given : AllByRecursion (IsGiven (means.holds old)) read.bindings) where
    pub play_goes : Next means (play form) turns status old new → Result
    play_goes n =
        let behind : List ℕ → List ℕ → Todo = λ topology script. Free (prepared_todo form.on_use form.heap form.trace (prepared topology script)) in
        let after : List ℕ → Todo = λ topology. Ask form.script 1048576 (codes "too long script\n") (behind topology) in
        let first_open : AreOpen means [] old old = λ place. opened_none place (means.wrote old place) in
        bind (stopped_before means all_slots old old new first_open turns status (ask_goes means form.topology 1048576 (codes "too long topology\n") after turns status old new topology is_topology short n)) (λ a.
        let second_open : AreOpen means [] old a.mid = λ place. a.wrote place ∙ first_open place in
        bind (stopped_before means all_slots old a.mid new second_open turns status (ask_goes means form.script 1048576 (codes "too long script\n") (behind topology) turns status a.mid new script (a.holds form.script ∙ is_script) shorter a.next)) (λ b.
        let third_open : AreOpen means [] old b.mid = λ place. b.wrote place ∙ second_open place in
        bind (stopped_before means all_slots old b.mid new third_open turns status (free_goes means (prepared_todo form.on_use form.heap form.trace (prepared topology script)) turns status b.mid new b.next)) (λ next.
        bind (opened_all next a.holds b.holds third_open) (λ c.
        bind (traced_goes means form.trace (bound_outputs plan [] read.bindings) session turns status old c.mid new c.are c.next) (λ d.
        inl (begun d.mid d.are (unread_kept means inputs files c.mid d.mid d.unread c.unread) d.next))))))
      where
        or_traced : {A : Type 0} → A ⊎ Before means slots turns status old new → A ⊎ Before means all_slots turns status old new
        or_traced (inl a) = inl a
        or_traced (inr b) = inr (before_traced means form.trace slots turns status old new b)

        -- the bindings' files, before that of the trace
        opened_all : {first second : D} → Next means (prepared_todo form.on_use form.heap form.trace (prepared topology script)) turns status second new → ((name : List ℕ) → means.holds first name ≡ means.holds old name) → ((name : List ℕ) → means.holds second name ≡ means.holds first name) →
            AreOpen means [] old second → Opened means (means.holds old) plan (traced_todo form.trace session) turns status old new inputs (bound_outputs plan [] read.bindings) files ⊎ Before means all_slots turns status old new
        opened_all {first} {second} next one two none_open =
            or_traced (open_all means (means.holds old) plan (traced_todo form.trace session) turns status old new read.bindings [] [] [] second given (λ name. two name ∙ one name) none_open (none_unread means second) (subst (λ f. Next means (prepared_todo form.on_use form.heap form.trace f) turns status second new) ready next))

  -- ---- the run

  pub before_begun : Before means all_slots turns status old new → Unbegun means all_slots old new status p last
  before_begun b = record { ended = b.ended; wrote = b.wrote; wanting = b.wanting; device = subst (λ ts. AreTurns (Fronted dsp) (Bare p) ts last) b.none turned }

  -- the turns without the records that stand in front
  module _ (records : List (List Entry)) (bare : List Turn) (bare_turned : Turns dsp (Bare p) bare last) (recorded : turns ≡ recorded_turns records bare) (kept : KeptRecords dsp form.trace (Bare p) bare last bare_turned records) (off : dsp.on p ≡ None) (sound : IsSound plan) (right : wrong_binding plan read.bindings ≡ None) (few : length read.commands < 2 ^ 32) (b : Begun) where
    x : BareBegun records bare b.others (Begin form.on_use plan form.heap inputs slots)
    x = bare_begun form.on_use plan form.heap inputs slots records bare b.begins b.others (sym b.are ∙ recorded) b.task

    -- as many commands were carried out
    outs_are : carried_outs b.others ≡ recorded_outs records (carried_outs x.rest)
    outs_are = ap carried_outs x.others_are ∙ outs_recorded records x.rest

    as_many_bare : length (carried_outs b.others) ≡ length (carried_outs x.rest)
    as_many_bare = ap length outs_are ∙ as_many_outs records (carried_outs x.rest)

    reads_bare : reads_in b.others ≡ reads_in x.rest
    reads_bare = ap reads_in x.others_are ∙ reads_recorded records x.rest

    abbrev all : List Command
    all = commands_of (rounds_of read.commands)

    abbrev commands_made : List Command
    commands_made = take (length (carried_outs x.rest)) all

    filled : AreFilled commands_made x.rest
    filled = filled_bare commands_made records x.rest (subst (AreFilled commands_made) x.others_are (subst (λ n. AreFilled (take n all) b.others) as_many_bare b.made.filled))

    -- what was read is a front of the files
    whole : AreWhole (inputs_of last) (bytes_read (reads_in x.rest)) files
    whole = subst (λ reads. AreWhole (inputs_of last) (bytes_read reads) files) reads_bare record {
      front = λ slot. (b.made.more slot, b.made.splits slot);
      all = λ slot none. b.made.splits slot ∙ ap (λ xs. list_of (bytes_read (reads_in b.others)) slot ++ xs) (b.made.none slot none) ∙ append-nil (list_of (bytes_read (reads_in b.others)) slot);
    }

    -- the first turn reads nothing
    reads_behind : reads_in bare ≡ reads_in x.rest
    reads_behind = ap reads_in x.is ∙ ap (λ (task : Task). reads_by task ++ reads_in x.rest) x.task_is

    -- by the rules of a mode, where the records that are kept are those of its run
    module _ {S A : Type 0} (mode : Mode P S A) (laws : ModeLaws dsp mode plan form.heap) (uses : form.on_use ≡ mode.on_use) (are_met : Calm dsp p (device_of last) → AreMet form.trace plan form.heap commands_made records) where
      run : RunsFilled dsp mode g commands_made x.begins x.rest p last
      run =
          runs-filled dsp mode g laws inputs p commands_made x.begins x.rest last off b.fresh (bound_distinct plan read.bindings right)
          (x.task_is ∙ ap (λ (on_use : Bool). Begin on_use plan form.heap inputs slots) uses) filled
          (messages_few laws.most laws.most_few laws.most_tick read.commands (length (carried_outs x.rest)) few)
          (subst (λ ts. Turns dsp (Bare p) ts last) x.is bare_turned)

      as_many : length (carried_outs x.rest) ≡ length run.legs
      as_many = ap length (sym run.outs) ∙ length-map (λ (leg : Leg S). leg.out) run.legs

      -- the run over what was read, and over the files
      abbrev Both : ℕ → Type 0
      Both n = (over : RunOver dsp mode (record g { whole = bytes_read (reads_in x.rest) }) (take n all) run.legs p bare last) × IsRun (basis_in mode g) over.doing (take n all) (first_at (basis_in mode g)) run.legs

      both : Both (length run.legs)
      both =
          subst Both as_many
          (subst (λ (ts : List Turn). (over : RunOver dsp mode (record g { whole = bytes_read (reads_in x.rest) }) commands_made run.legs p ts last) × IsRun (basis_in mode g) over.doing commands_made (first_at (basis_in mode g)) run.legs) (sym x.is) (run.over, run.run files whole))

      met : Calm dsp p (device_of last) → AreMet form.trace plan form.heap (take (length run.legs) all) records
      met still = subst (λ n. AreMet form.trace plan form.heap (take n all) records) as_many (are_met still)

      plays_by : Plays means dsp mode form.trace g (rounds_of read.commands) old new status p last bare records
      plays_by = record {
        legs = run.legs;
        read = bytes_read (reads_in x.rest);
        read_is = ap bytes_read (sym reads_behind);
        files = whole;
        over = both.0;
        run = both.1;
        met = met;
        made = b.made.made;
        written = subst (λ (outs : List Out). AreWritten (rounds_of read.commands) outs b.made.made status) (outs_are ∙ ap (recorded_outs records) (sym run.outs)) b.made.written;
        wrote = λ place. b.made.wrote place ∙ ap (λ o. with_more o (bytes_of_pieces place b.made.made)) (b.opened place);
      }

    -- all pipelines are made at a load, and a trace may be kept
    plays_load : form.on_use ≡ false → Plays means dsp made_at_load form.trace g (rounds_of read.commands) old new status p last bare records
    plays_load uses =
        plays_by made_at_load (load-laws dsp plan form.heap sound) uses
        (λ still. are-met dsp plan form.heap form.trace p commands_made inputs slots x.begins x.rest bare last bare_turned records x.is kept (x.task_is ∙ ap (λ (on_use : Bool). Begin on_use plan form.heap inputs slots) uses) filled off still)

    -- they are made on use, and none is
    plays_use : form.on_use ≡ true → form.trace ≡ None → Plays means dsp (made_on_use dsp) form.trace g (rounds_of read.commands) old new status p last bare records
    plays_use uses none =
        plays_by (made_on_use dsp) (up-laws dsp plan form.heap sound) uses
        (λ still. subst (λ (trace : Option (List ℕ)). AreMet trace plan form.heap commands_made records) (sym none) (subst (λ (trace : Option (List ℕ)). KeptRecords dsp trace (Bare p) bare last bare_turned records) none kept))

    pub plays : (form.on_use ≡ true → form.trace ≡ None) → PlaysIn form.on_use means dsp form.trace g (rounds_of read.commands) old new status p last bare records
    plays untraced = by form.on_use refl
      where
        by : (on_use : Bool) → form.on_use ≡ on_use → PlaysIn on_use means dsp form.trace g (rounds_of read.commands) old new status p last bare records
        by false uses = plays_load uses
        by true uses = plays_use uses (untraced uses)
