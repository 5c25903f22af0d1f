-- The run over what calls gave, whatever the desk tells.
use Rattle.std.proofs.Common.{◌≡◌, ◌⊎◌, inl, inr, ℕ, suc, ◌<◌, ◌^◌, Bool, true, false, ltb, if◌then◌else◌, List, [], ◌∷◌, ◌++◌, map, take, length, Option, Some, None, Result, Ok, Err, MatchOption, refl, sym, ◌∙◌, ap, subst, codes, arith}
use Rattle.std.proofs.lemmas.Bool.{cases_Bool}
use Rattle.std.specs.Prelude.{option_map}
use Rattle.sof_base.specs.Ports.{InputView}
use Rattle.stream_law.specs.State.{view_of}
use Rattle.sof_io.specs.Fills.{with_input}
use Rattle.sof_desk.specs.declared.calls.LoadFault.TheVariants.{Failed, TooLong, OutOfMemory}
use Rattle.sof_desk.specs.Desk.{DeskAct, DeskCall, Load, Did, Read as ReadCall, Heard}
use Rattle.mbox_link.specs.Calls.{Meaning}
use Rattle.tplg_plan.specs.declared.plans.Plan.{Plan}
use Rattle.sof_script.specs.Commands.{Bound, Read}
use Rattle.sof_script.specs.declared.script.Command.{Command}
use Rattle.sof_session.specs.Fills.{bytes_read}
use Rattle.sof_session.specs.Modes.{Mode}
use Rattle.sof_session.specs.NewInputs.{AreNew}
use Rattle.sof_script.specs.Tasks.{Written, Out, Task, Begin, Fill, Carry, Turn}
use Rattle.sof_session.specs.Written.{Ground, Leg}
use Rattle.sof_session.specs.SessionStep.{Calm}
use Rattle.sof_session.specs.Lives.{Life, Bare, Turns, device_of, reads_by, reads_in, carried_outs}
use Rattle.sof_session.specs.RunOver.{RunOver}
use Rattle.sof_session.proofs.FilledRuns.{AreFilled, RunsFilled, runs-filled}
use Rattle.sof_session.proofs.ModeLaws.{ModeLaws}
use Rattle.run_words.specs.Words.{Form}
use Rattle.run_desk.specs.Todo.{Todo, End, Ask, Do, Free, DoneBy, Says, Over}
use Rattle.run_desk.specs.Bindings.{wrong_binding, bound_slot, binding_act, bound_inputs, bound_slots}
use Rattle.run_play.specs.Rounds.{Round, rounds_of}
use Rattle.run_desk.specs.Lines.{no_memory_line}
use Rattle.run_play.specs.Pieces.{lines_after}
use Rattle.run_desk.specs.Prepared.{Ready, prepared}
use Rattle.ipc3_trace.specs.declared.entry.Entry.{Entry}
use Rattle.ipc3_trace.specs.Steps.{steps_of}
use Rattle.run_play.specs.Keeping.{trace_acts, recorded_turns, KeptRecords}
use Rattle.run_play.specs.Play.{flush_todo, unit_todo, rounds_todo, bindings_todo, acts_todo, traced_todo, session_todo, ready_todo, prepared_todo, play}
use Rattle.run_desk.specs.LinesTodo.{lines_todo}
use Rattle.run_play.proofs.RecordedTurns.{BareBegun, bare_begun, outs_recorded, as_many_outs, filled_bare}
use Rattle.run_desk.specs.DeskCalls.{heard_in}
use Rattle.run_play.proofs.Slots.{bound_distinct}
use Rattle.run_play.proofs.WrittenPieces.{commands_of}
use Rattle.run_play.specs.Plays.{AreMet}
use Rattle.run_play.proofs.MetRuns.{are-met, records-view, all_records}
use Rattle.run_play.proofs.Grounds.{messages_few}

-- ---- the units

abbrev Good : List Round → List Turn → Type 0
Good rounds turns = AreFilled (take (length (carried_outs turns)) (commands_of rounds)) turns

-- the desk failed, or there was no memory, and no turn came
abbrev pub Ended : List Turn → ℕ → Type 0
Ended turns status = (turns ≡ []) × ((status ≡ 3) ⊎ (status ≡ 7))

-- what comes after calls was done, or they ended the run
abbrev Behind : Todo → List Turn → ℕ → Type 0
Behind rest turns status = ((later : List DeskCall) × DoneBy rest turns later status) ⊎ Ended turns status

wanting : (turns : List Turn) (calls : List DeskCall) (status : ℕ) → Says no_memory_line 7 turns calls status → Ended turns status
wanting turns [] status says = absurd says
wanting turns (Load name limit heard ∷ calls) status says = absurd says
wanting turns (ReadCall slot size got ∷ calls) status says = absurd says
wanting turns (Did act true ∷ calls) status says = (says.1, inr says.3)
wanting turns (Did act false ∷ calls) status says = (says.1, inl says.3)

do_on : (act : DeskAct) (rest : Todo) (turns : List Turn) (calls : List DeskCall) (status : ℕ) → DoneBy (Do act rest) turns calls status → Behind rest turns status
do_on act rest turns [] status goes = absurd goes
do_on act rest turns (Load name limit heard ∷ calls) status goes = absurd goes
do_on act rest turns (ReadCall slot size got ∷ calls) status goes = absurd goes
do_on act rest turns (Did a true ∷ calls) status goes = inl (calls, goes.1)
do_on act rest turns (Did a false ∷ calls) status goes = inr (goes.1.0, inl goes.1.2)

and_on : (todo rest : Todo) (turns : List Turn) (status : ℕ) → Behind todo turns status → ((calls : List DeskCall) → DoneBy todo turns calls status → Behind rest turns status) → Behind rest turns status
and_on todo rest turns status (inl more) on = on more.0 more.1
and_on todo rest turns status (inr none) on = inr none

lines_on : (lines : List (List ℕ)) (rest : Todo) (turns : List Turn) (calls : List DeskCall) (status : ℕ) → DoneBy (lines_todo lines rest) turns calls status → Behind rest turns status
lines_on [] rest turns calls status goes = inl (calls, goes)
lines_on (line ∷ lines) rest turns calls status goes =
    and_on (lines_todo lines rest) rest turns status (do_on _ (lines_todo lines rest) turns calls status goes) (λ later more. lines_on lines rest turns later status more)

flush_on : (written : List Written) (rest : Todo) (turns : List Turn) (calls : List DeskCall) (status : ℕ) → DoneBy (flush_todo written rest) turns calls status → Behind rest turns status
flush_on [] rest turns calls status goes = inl (calls, goes)
flush_on ((slot, bytes) ∷ written) rest turns calls status goes =
    and_on (flush_todo written rest) rest turns status (do_on _ (flush_todo written rest) turns calls status goes) (λ later more. flush_on written rest turns later status more)

abbrev fills : List (ℕ × List ℕ) → Option ℕ → Out → Turn
fills reads failed out = record { task = Fill reads failed; out = out }

abbrev carries : Command → Out → Turn
carries command out = record { task = Carry command; out = out }

abbrev Goods : List Round → Type 0
Goods rounds = (turns : List Turn) (calls : List DeskCall) (status : ℕ) → DoneBy (rounds_todo rounds End) turns calls status → Good rounds turns

module _ (round : Round) (rounds : List Round) (others : Goods rounds) where
  abbrev command : Command
  command = round.numbered.command

  unit_good : (reads : List (ℕ × List ℕ)) (fill_out out : Out) (turns : List Turn) (status : ℕ) → Behind (rounds_todo rounds End) turns status → Good (round ∷ rounds) (fills reads None fill_out ∷ carries command out ∷ turns)
  unit_good reads fill_out out turns status (inl more) = ((reads, refl), refl, others turns more.0 status more.1)
  unit_good reads fill_out out turns status (inr none) =
      subst (λ (ts : List Turn). Good (round ∷ rounds) (fills reads None fill_out ∷ carries command out ∷ ts)) (sym none.0) ((reads, refl), refl, tt)

  by_failed : (reads : List (ℕ × List ℕ)) (failed : Option ℕ) (out : Out) (turns : List Turn) (later : List DeskCall) (status : ℕ) →
      MatchOption failed (DoneBy (unit_todo round (rounds_todo rounds End)) turns later status) (λ slot. Over 3 turns later status) → Good (round ∷ rounds) (fills reads failed out ∷ turns)
  by_failed reads (Some slot) out turns later status over =
      subst (λ (ts : List Turn). Good (round ∷ rounds) (fills reads (Some slot) out ∷ ts)) (sym over.0) (Some slot, (reads, refl))
  by_failed reads None out [] later status goes = absurd goes
  by_failed reads None out (turn ∷ turns) later status goes =
      let is : turn ≡ carries command turn.out = λ i. record { task = goes.0 i; out = turn.out } in
      let lines = lines_after round turn.out in
      subst (λ (t : Turn). Good (round ∷ rounds) (fills reads None out ∷ t ∷ turns)) (sym is)
      (unit_good reads out turn.out turns status
      (and_on (lines_todo lines (rounds_todo rounds End)) (rounds_todo rounds End) turns status (flush_on turn.out.written (lines_todo lines (rounds_todo rounds End)) turns later status goes.1)
      (λ calls more. lines_on lines (rounds_todo rounds End) turns calls status more)))

  round_good : Goods (round ∷ rounds)
  round_good [] calls status goes = absurd goes
  round_good (turn ∷ turns) calls status goes =
      let f = goes.0 in
      let is : turn ≡ fills f.reads f.failed turn.out = λ i. record { task = f.task i; out = turn.out } in
      subst (λ (t : Turn). Good (round ∷ rounds) (t ∷ turns)) (sym is) (by_failed f.reads f.failed turn.out turns f.later status goes.1)

-- where the status is 0 each unit's command was carried out
abbrev Alls : List Round → Type 0
Alls rounds = (turns : List Turn) (calls : List DeskCall) → DoneBy (rounds_todo rounds End) turns calls 0 → length (carried_outs turns) ≡ length rounds

not_ended : (turns : List Turn) → Ended turns 0 → ⊥
not_ended turns (none, inl three) = cc three
not_ended turns (none, inr seven) = cc seven

module _ (round : Round) (rounds : List Round) (others : Alls rounds) where
  others_all : (turns : List Turn) → Behind (rounds_todo rounds End) turns 0 → length (carried_outs turns) ≡ length rounds
  others_all turns (inl more) = others turns more.0 more.1
  others_all turns (inr none) = absurd (not_ended turns none)

  all_by : (reads : List (ℕ × List ℕ)) (failed : Option ℕ) (out : Out) (turns : List Turn) (later : List DeskCall) →
      MatchOption failed (DoneBy (unit_todo round (rounds_todo rounds End)) turns later 0) (λ slot. Over 3 turns later 0) → length (carried_outs turns) ≡ suc (length rounds)
  all_by reads (Some slot) out turns later over = absurd (cc over.2)
  all_by reads None out [] later goes = absurd goes
  all_by reads None out (turn ∷ turns) later goes =
      let is : turn ≡ carries round.numbered.command turn.out = λ i. record { task = goes.0 i; out = turn.out } in
      let lines = lines_after round turn.out in
      subst (λ (t : Turn). length (carried_outs (t ∷ turns)) ≡ suc (length rounds)) (sym is)
      (ap suc (others_all turns
      (and_on (lines_todo lines (rounds_todo rounds End)) (rounds_todo rounds End) turns 0 (flush_on turn.out.written (lines_todo lines (rounds_todo rounds End)) turns later 0 goes.1)
      (λ calls more. lines_on lines (rounds_todo rounds End) turns calls 0 more))))

  round_all : Alls (round ∷ rounds)
  round_all [] calls goes = absurd goes
  round_all (turn ∷ turns) calls goes =
      let f = goes.0 in
      let is : turn ≡ fills f.reads f.failed turn.out = λ i. record { task = f.task i; out = turn.out } in
      subst (λ (t : Turn). length (carried_outs (t ∷ turns)) ≡ suc (length rounds)) (sym is) (all_by f.reads f.failed turn.out turns f.later goes.1)

rounds_all : (rounds : List Round) → Alls rounds
rounds_all [] turns calls goes = ap (λ (ts : List Turn). length (carried_outs ts)) goes.0
rounds_all (round ∷ rounds) turns calls goes = round_all round rounds (rounds_all rounds) turns calls goes

rounds_good : (rounds : List Round) → Goods rounds
rounds_good [] turns calls status goes = subst (λ (ts : List Turn). Good [] ts) (sym goes.0) tt
rounds_good (round ∷ rounds) turns calls status goes = round_good round rounds (rounds_good rounds) turns calls status goes

-- ---- the bindings

free_on : (rest : Todo) (turns : List Turn) (calls : List DeskCall) (status : ℕ) → DoneBy (Free rest) turns calls status → Behind rest turns status
free_on rest turns calls status (inl goes) = inl (calls, goes)
free_on rest turns calls status (inr says) = inr (wanting turns calls status says)

bindings_on : (plan : Plan) (bs : List Bound) (rest : Todo) (turns : List Turn) (calls : List DeskCall) (status : ℕ) → DoneBy (bindings_todo plan bs rest) turns calls status → Behind rest turns status
bindings_on plan [] rest turns calls status goes = inl (calls, goes)
bindings_on plan (b ∷ bs) rest turns calls status goes =
    and_on (bindings_todo plan bs rest) rest turns status (do_on (binding_act plan b) (bindings_todo plan bs rest) turns calls status goes) (λ later more. bindings_on plan bs rest turns later status more)

acts_on : (acts : List DeskAct) (rest : Todo) (turns : List Turn) (calls : List DeskCall) (status : ℕ) → DoneBy (acts_todo acts rest) turns calls status → Behind rest turns status
acts_on [] rest turns calls status goes = inl (calls, goes)
acts_on (act ∷ acts) rest turns calls status goes =
    and_on (acts_todo acts rest) rest turns status (do_on act (acts_todo acts rest) turns calls status goes) (λ later more. acts_on acts rest turns later status more)

new_more : (slot : ℕ) (inputs : List InputView) → AreNew inputs → AreNew (with_input slot inputs)
new_more slot [] new = (refl, tt)
new_more slot (input ∷ inputs) new =
    elim (cases_Bool (ltb slot input.slot)) [
      | inl above ↦ rw above (refl, new)
      | inr below ↦ rw below (new.0, new_more slot inputs new.1)
    ]

new_by : (input : Bool) (slot : ℕ) (i : List InputView) → AreNew i → AreNew (if input then with_input slot i else i)
new_by true slot i new = new_more slot i new
new_by false slot i new = new

pub new_inputs : (plan : Plan) (bs : List Bound) (i : List InputView) → AreNew i → AreNew (bound_inputs plan i bs)
new_inputs plan [] i new = new
new_inputs plan (b ∷ bs) i new = new_inputs plan bs (if b.input then with_input (bound_slot plan b) i else i) (new_by b.input (bound_slot plan b) i new)

-- ---- the files

module _ (form : Form) (topology script : List ℕ) (plan : Plan) (read : Read) (ready : prepared topology script ≡ Ready plan read) (turns : List Turn) (status : ℕ) where
  abbrev inputs : List InputView
  inputs = bound_inputs plan [] read.bindings

  abbrev slots : List ℕ
  slots = bound_slots plan read.bindings

  -- a session was begun, and commands were carried out
  pub record Began : Type 0 where
    pub begins : Turn
    pub others : List Turn
    pub are : turns ≡ begins ∷ others
    pub task : begins.task ≡ Begin form.on_use plan form.heap inputs slots
    pub filled : Good (rounds_of read.commands) others
    pub all : status ≡ 0 → length (carried_outs others) ≡ length (rounds_of read.commands)

  abbrev Result' : Type 0
  Result' = Began ⊎ Ended turns status

  abbrev session : Todo
  session = session_todo form.on_use form.heap plan read.commands inputs slots

  began : (calls : List DeskCall) → DoneBy session turns calls status → Began
  began calls goes = by turns refl goes
    where
      by : (ts : List Turn) → turns ≡ ts → DoneBy session ts calls status → Began
      by [] is goes = absurd goes
      by (begins ∷ others) is goes = record { begins = begins; others = others; are = is; task = goes.0; filled = rounds_good (rounds_of read.commands) others calls status goes.1; all = λ zero. rounds_all (rounds_of read.commands) others calls (subst (λ n. DoneBy (rounds_todo (rounds_of read.commands) End) others calls n) zero goes.1) }

  or_none : {A : Type 0} (todo : Todo) → Behind todo turns status → ((calls : List DeskCall) → DoneBy todo turns calls status → A ⊎ Ended turns status) → A ⊎ Ended turns status
  or_none todo (inl more) on = on more.0 more.1
  or_none todo (inr ended) on = inr ended

  ready_on : (calls : List DeskCall) → DoneBy (ready_todo form.on_use form.heap form.trace plan read) turns calls status → Result'
  ready_on calls goes =
      or_none (traced_todo form.trace session) (bindings_on plan read.bindings (traced_todo form.trace session) turns calls status goes) (λ later more.
      or_none session (acts_on (trace_acts form.trace) session turns later status more) (λ last done. inl (began last done)))

  files_on : (calls : List DeskCall) → DoneBy (Free (prepared_todo form.on_use form.heap form.trace (prepared topology script))) turns calls status → Result'
  files_on calls goes =
      or_none (prepared_todo form.on_use form.heap form.trace (prepared topology script)) (free_on (prepared_todo form.on_use form.heap form.trace (prepared topology script)) turns calls status goes) (λ later more.
      ready_on later (subst (λ files. DoneBy (prepared_todo form.on_use form.heap form.trace files) turns later status) ready more))

  -- a load that answered this, first of all that loads answered
  module _ (name line : List ℕ) (next : List ℕ → Todo) (bytes : List ℕ) (more : List Heard) where
    asked : (calls : List DeskCall) → heard_in calls ≡ Ok bytes ∷ more → DoneBy (Ask name 1048576 line next) turns calls status → ((later : List DeskCall) → heard_in later ≡ more → DoneBy (next bytes) turns later status → Result') → Result'
    asked [] heard goes on = absurd goes
    asked (Did act done ∷ calls) heard goes on = absurd goes
    asked (ReadCall slot size got ∷ calls) heard goes on = absurd goes
    asked (Load n l (Ok got) ∷ calls) heard goes on =
        let same : got ≡ bytes = cc heard in
        let rest : heard_in calls ≡ more = cc heard in
        on calls rest (subst (λ (xs : List ℕ). DoneBy (next xs) turns calls status) same goes.2)
    asked (Load n l (Err TooLong) ∷ calls) heard goes on = absurd (cc heard)
    asked (Load n l (Err OutOfMemory) ∷ calls) heard goes on = absurd (cc heard)
    asked (Load n l (Err Failed) ∷ calls) heard goes on = absurd (cc heard)

  pub play_heard : (calls : List DeskCall) → heard_in calls ≡ Ok topology ∷ Ok script ∷ [] → DoneBy (play form) turns calls status → Began ⊎ Ended turns status
  play_heard calls heard goes =
      asked form.topology (codes "too long topology\n") (λ xs. Ask form.script 1048576 (codes "too long script\n") (λ ys. Free (prepared_todo form.on_use form.heap form.trace (prepared xs ys)))) topology (Ok script ∷ []) calls heard goes (λ later rest goes.
      asked form.script (codes "too long script\n") (λ ys. Free (prepared_todo form.on_use form.heap form.trace (prepared topology ys))) script [] later rest goes (λ last none goes.
      files_on last goes))

  -- ---- the run, by the rules of a mode

  module _ {P S A : Type 0} (dsp : Meaning P) (p : P) (last : Life P) (records : List (List Entry)) (bare : List Turn) (bare_turned : Turns dsp (Bare p) bare last) (recorded : turns ≡ recorded_turns records bare) (kept : KeptRecords dsp form.trace (Bare p) bare last bare_turned records) (off : dsp.on p ≡ None) (right : wrong_binding plan read.bindings ≡ None) (few : length read.commands < 2 ^ 32) (b : Began)
      (mode : Mode P S A) (laws : ModeLaws dsp mode plan form.heap) (uses : form.on_use ≡ mode.on_use) where
    abbrev all : List Command
    all = commands_of (rounds_of read.commands)

    abbrev heard_g : List (ℕ × List ℕ) → Ground
    heard_g whole = record { plan = plan; heap = form.heap; whole = whole; slots = slots }

    abbrev x : BareBegun records bare b.others (Begin form.on_use plan form.heap inputs slots)
    x = bare_begun form.on_use plan form.heap inputs slots records bare b.begins b.others (sym b.are ∙ recorded) b.task

    begun_in : x.begins.task ≡ Begin mode.on_use plan form.heap inputs slots
    begun_in = x.task_is ∙ ap (λ (on_use : Bool). Begin on_use plan form.heap inputs slots) uses

    as_many_bare : length (carried_outs b.others) ≡ length (carried_outs x.rest)
    as_many_bare = ap length (ap carried_outs x.others_are ∙ outs_recorded records x.rest) ∙ as_many_outs records (carried_outs x.rest)

    abbrev made : List Command
    made = take (length (carried_outs x.rest)) all

    filled : AreFilled made x.rest
    filled = filled_bare made records x.rest (subst (AreFilled made) x.others_are (subst (λ n. AreFilled (take n all) b.others) as_many_bare b.filled))

    pub run : RunsFilled dsp mode (heard_g []) made x.begins x.rest p last
    run =
        runs-filled dsp mode (heard_g []) laws inputs p made x.begins x.rest last off (new_inputs plan read.bindings [] tt) (bound_distinct plan read.bindings right)
        begun_in filled
        (messages_few laws.most laws.most_few laws.most_tick read.commands (length (carried_outs x.rest)) few)
        (subst (λ (ts : List Turn). Turns dsp (Bare p) ts last) x.is bare_turned)

    abbrev pub legs : List (Leg S)
    legs = run.legs

    outs_length : (xs : List (Leg S)) → length (map (λ (leg : Leg S). leg.out) xs) ≡ length xs
    outs_length [] = refl
    outs_length (x ∷ xs) = omega (arith, outs_length xs)

    as_many : length (carried_outs x.rest) ≡ length run.legs
    as_many = ap length (sym run.outs) ∙ outs_length run.legs

    -- where all pipelines are made at a load and no count of the device rose, the records are those that the run leaves
    pub met_is : mode.on_use ≡ false → Calm dsp p (device_of last) → AreMet form.trace plan form.heap (take (length legs) all) records
    met_is at_load still =
        subst (λ n. AreMet form.trace plan form.heap (take n all) records) as_many
        (are-met dsp plan form.heap form.trace p made inputs slots x.begins x.rest bare last bare_turned records x.is kept
        (begun_in ∙ ap (λ (on_use : Bool). Begin on_use plan form.heap inputs slots) at_load) filled off still)

    -- and lead to the device
    pub view_is : mode.on_use ≡ false → (name : List ℕ) → form.trace ≡ Some name → Calm dsp p (device_of last) → option_map view_of (dsp.on (device_of last)) ≡ option_map view_of (steps_of (all_records records))
    view_is at_load name named still =
        records-view dsp plan form.heap name p made inputs slots x.begins x.rest bare last bare_turned records x.is
        (subst (λ (trace : Option (List ℕ)). KeptRecords dsp trace (Bare p) bare last bare_turned records) named kept)
        (begun_in ∙ ap (λ (on_use : Bool). Begin on_use plan form.heap inputs slots) at_load) filled off still

    -- with status 0 each unit has its leg
    pub all_legs : status ≡ 0 → length legs ≡ length (rounds_of read.commands)
    all_legs zero = sym as_many ∙ sym as_many_bare ∙ b.all zero

    reads_are : reads_in x.rest ≡ reads_in bare
    reads_are = sym (ap reads_in x.is ∙ ap (λ (task : Task). reads_by task ++ reads_in x.rest) x.task_is)

    pub over_is : RunOver dsp mode (heard_g (bytes_read (reads_in bare))) (take (length legs) all) legs p bare last
    over_is =
        subst (λ (n : ℕ). RunOver dsp mode (heard_g (bytes_read (reads_in bare))) (take n all) legs p bare last) as_many
        (subst (λ (reads : List (ℕ × List ℕ)). RunOver dsp mode (heard_g (bytes_read reads)) made legs p bare last) reads_are
        (subst (λ (ts : List Turn). RunOver dsp mode (heard_g (bytes_read (reads_in x.rest))) made legs p ts last) (sym x.is) run.over))
