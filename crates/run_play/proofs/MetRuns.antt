-- The records of turns over a device that did nothing of its own accord are those that the run of their commands leaves.
use Rattle.std.proofs.Common.{false, ◌≡◌, refl, sym, ap, ◌∙◌, subst, ℕ, List, [], ◌∷◌, ◌++◌, length, Option, Some, None, arith}
use Rattle.std.specs.Prelude.{option_map}
use Rattle.std.specs.List.{flat_map}
use Rattle.sof_base.specs.Ports.{InputView}
use Rattle.stream_law.specs.State.{FwState, view_of}
use Rattle.mbox_link.specs.declared.fates.Fate.TheVariants.{Pass}
use Rattle.mbox_link.specs.CalmDevice.{calm}
use Rattle.mbox_link.specs.Calls.{Meaning, Steady, world}
use Rattle.mbox_link.specs.Meetings.{Doing}
use Rattle.tplg_plan.specs.declared.plans.Plan.{Plan}
use Rattle.ipc3_trace.specs.declared.entry.Entry.{Entry}
use Rattle.ipc3_trace.specs.Steps.{quiescent, AreAlike, recorded, step_by, steps_from, steps_of}
use Rattle.sof_script.specs.declared.script.Command.{Command}
use Rattle.host_widgets.specs.declared.kept.Record.{Record}
use Rattle.sof_session.specs.Commands.{Known, command_rules, first_known, next}
use Rattle.sof_session.specs.Modes.{made_at_load, IsInMode}
use Rattle.sof_session.specs.SessionView.{SessionView, new_seat}
use Rattle.sof_session.specs.SessionStep.{Calm, known_of}
use Rattle.sof_script.specs.Tasks.{Task, Begin, Fill, Carry, Turn}
use Rattle.sof_session.specs.Written.{empty_outputs}
use Rattle.sof_session.specs.Lives.{Life, Bare, Seated, Turned, Turns, Carries, device_of}
use Rattle.sof_session.proofs.FilledRuns.{AreFilled}
use Rattle.sof_session.proofs.LinkFates.{Steady-none}
use Rattle.sof_session.proofs.LoadMode.{load-stepped}
use Rattle.sof_session.proofs.StepCounts.{Calm-between}
use Rattle.run_play.specs.Met.{command_deeds, met_from, met_units}
use Rattle.run_play.specs.Keeping.{TurnLeft, TurnsLeft, KeptRecords}
use Rattle.run_play.specs.Plays.{AreMet}
use Rattle.ipc3_trace.proofs.AlikeViews.{alike-view}
use Rattle.sof_session.proofs.SteadyLives.{step-steady, lives-steady}

pub steps-append : (s : Option FwState) (es fs : List Entry) → steps_from s (es ++ fs) ≡ steps_from (steps_from s es) fs
steps-append s [] fs = refl
steps-append s (e ∷ es) fs = steps-append (step_by s e) es fs

-- all records, one list after the other
abbrev pub all_records : List (List Entry) → List Entry
all_records records = flat_map (λ (es : List Entry). es) records

-- one list for each command
met-as-many : (plan : Plan) (heap : ℕ) (known : Known Record) (s : Option FwState) (commands : List Command) → length (met_from plan heap known s commands) ≡ length commands
met-as-many plan heap known s [] = refl
met-as-many plan heap known s (command ∷ commands) =
    let records = recorded s (command_deeds plan heap known command) in
    omega (arith, met-as-many plan heap (next (command_rules plan heap) calm known command).known (steps_from s records) commands)

pub met-length : (plan : Plan) (heap : ℕ) (commands : List Command) → length (met_units plan heap commands) ≡ length commands
met-length plan heap commands = met-as-many plan heap (first_known (command_rules plan heap)) None commands

module _ {P : Type 0} (means : Meaning P) where
  -- ---- one turn

  -- what comes after a turn that fills the inputs
  after-fill : (reads : List (ℕ × List ℕ)) (next : Option ℕ) (turn : Turn) (turns : List Turn) (seat : SessionView P) (inputs : List InputView) (slots : List ℕ) (last : Life P) (turned : Turns means (Seated seat inputs slots) (turn ∷ turns) last) (records : List (List Entry)) →
      TurnsLeft means (Seated seat inputs slots) (turn ∷ turns) last turned records → turn.task ≡ Fill reads next →
      (inputs' : List InputView) × (slots' : List ℕ) × (more : Turns means (Seated seat inputs' slots') turns last) × TurnsLeft means (Seated seat inputs' slots') turns last more records
  after-fill reads next turn turns seat inputs slots last turned records kept is =
      let moved = subst (λ (task : Task). (t : Turned means task turn.out (Seated seat inputs slots) turned.0) × TurnLeft means task turn.out (Seated seat inputs slots) turned.0 t records (λ rest. TurnsLeft means turned.0 turns last turned.2 rest)) is (turned.1, kept) in
      by turned.0 moved.0 turned.2 moved.1
    where
      by : (m : Life P) → Turned means (Fill reads next) turn.out (Seated seat inputs slots) m → (more : Turns means m turns last) → TurnsLeft means m turns last more records →
          (inputs' : List InputView) × (slots' : List ℕ) × (more : Turns means (Seated seat inputs' slots') turns last) × TurnsLeft means (Seated seat inputs' slots') turns last more records
      by (Bare dsp) step more left = absurd step
      by (Seated seat' inputs' slots') step more left =
          let moved = subst (λ (s : SessionView P). (more : Turns means (Seated s inputs' slots') turns last) × TurnsLeft means (Seated s inputs' slots') turns last more records) step.0 (more, left) in
          (inputs', slots', moved.0, moved.1)

  -- and after one that carries out a command, where all pipelines are made at a load
  record CarriedOn (command : Command) (turns : List Turn) (seat : SessionView P) (last : Life P) (records : List (List Entry)) : Type 0 where
    after : SessionView P
    inputs : List InputView
    slots : List ℕ
    doing : Doing
    none : Calm means seat.link.device after.link.device → (number : ℕ) → doing number ≡ Pass
    known_is : known_of after.link after.kept ≡ (next (command_rules seat.plan seat.heap) doing (known_of seat.link seat.kept) command).known
    mode_is : IsInMode made_at_load after
    plan_is : after.plan ≡ seat.plan
    heap_is : after.heap ≡ seat.heap
    steady : Steady means seat.link.device after.link.device
    es : List Entry
    rest : List (List Entry)
    are : records ≡ es ∷ rest
    met : Calm means seat.link.device after.link.device → (s : Option FwState) → AreAlike (means.on seat.link.device) s → (es ≡ recorded s (command_deeds seat.plan seat.heap (known_of seat.link seat.kept) command)) × AreAlike (means.on after.link.device) (steps_from s es)
    more : Turns means (Seated after inputs slots) turns last
    kept : TurnsLeft means (Seated after inputs slots) turns last more rest

  after-carry : (command : Command) (turn : Turn) (turns : List Turn) (seat : SessionView P) (inputs : List InputView) (slots : List ℕ) (last : Life P) (turned : Turns means (Seated seat inputs slots) (turn ∷ turns) last) (records : List (List Entry)) →
      TurnsLeft means (Seated seat inputs slots) (turn ∷ turns) last turned records → turn.task ≡ Carry command → IsInMode made_at_load seat → CarriedOn command turns seat last records
  after-carry command turn turns seat inputs slots last turned records kept is mode_is =
      let moved = subst (λ (task : Task). (t : Turned means task turn.out (Seated seat inputs slots) turned.0) × TurnLeft means task turn.out (Seated seat inputs slots) turned.0 t records (λ rest. TurnsLeft means turned.0 turns last turned.2 rest)) is (turned.1, kept) in
      by turned.0 records moved.0 turned.2 moved.1
    where
      by : (m : Life P) (rs : List (List Entry)) (step : Turned means (Carry command) turn.out (Seated seat inputs slots) m) → (more : Turns means m turns last) →
          TurnLeft means (Carry command) turn.out (Seated seat inputs slots) m step rs (λ rest. TurnsLeft means m turns last more rest) → CarriedOn command turns seat last rs
      by (Bare dsp) rs step more left = absurd step
      by (Seated seat' inputs' slots') [] step more left = absurd left
      by (Seated seat' inputs' slots') (es ∷ rest) step more left =
          let c : Carries means command turn.out seat seat' inputs inputs' slots = step.1 in
          let d = (load-stepped means command seat seat' (world seat.link inputs (empty_outputs slots)) (world seat'.link inputs' c.outputs) turn.out.answer c.stepped mode_is).0 in
          record {
            after = seat';
            inputs = inputs';
            slots = slots';
            doing = d.done.doing;
            none = d.done.none;
            known_is = d.done.known_is;
            mode_is = d.stays;
            plan_is = c.plan_is;
            heap_is = c.heap_is;
            steady = step-steady means command turn.out seat seat' inputs inputs' slots c;
            es = es;
            rest = rest;
            are = refl;
            met = left.0.met;
            more = more;
            kept = left.1;
          }

  -- ---- all turns

  module _ (plan : Plan) (heap : ℕ) where
    -- where the records so far lead
    record IsHere (seat : SessionView P) (known : Known Record) (s : Option FwState) : Type 0 where
      mode_is : IsInMode made_at_load seat
      plan_is : seat.plan ≡ plan
      heap_is : seat.heap ≡ heap
      known_is : known_of seat.link seat.kept ≡ known
      alike : AreAlike (means.on seat.link.device) s

    abbrev MetOn : List Command → List (List Entry) → Known Record → Option FwState → Life P → Type 0
    MetOn commands records known s last = (records ≡ met_from plan heap known s commands) × AreAlike (means.on (device_of last)) (steps_from s (all_records records))

    met-none : (seat : SessionView P) (inputs : List InputView) (slots : List ℕ) (last : Life P) (records : List (List Entry)) (known : Known Record) (s : Option FwState) → last ≡ Seated seat inputs slots → records ≡ [] → AreAlike (means.on seat.link.device) s → MetOn [] records known s last
    met-none seat inputs slots last records known s is none alike = (
      none,
      subst (λ (rs : List (List Entry)). AreAlike (means.on (device_of last)) (steps_from s (all_records rs))) (sym none) (subst (λ (l : Life P). AreAlike (means.on (device_of l)) s) (sym is) alike),
    )

    met-on : (commands : List Command) (turns : List Turn) (seat : SessionView P) (inputs : List InputView) (slots : List ℕ) (last : Life P) (turned : Turns means (Seated seat inputs slots) turns last) (records : List (List Entry)) →
        TurnsLeft means (Seated seat inputs slots) turns last turned records → AreFilled commands turns → (known : Known Record) (s : Option FwState) → IsHere seat known s → Calm means seat.link.device (device_of last) → MetOn commands records known s last
    met-on [] [] seat inputs slots last turned records kept are known s here still = met-none seat inputs slots last records known s turned kept here.alike
    met-on [] (turn ∷ []) seat inputs slots last turned records kept are known s here still =
        let f = after-fill are.1.0 are.0 turn [] seat inputs slots last turned records kept are.1.1 in
        met-none seat f.0 f.1 last records known s f.2 f.3 here.alike
    met-on [] (turn ∷ other ∷ turns) seat inputs slots last turned records kept are known s here still = absurd are
    met-on (command ∷ commands) [] seat inputs slots last turned records kept are known s here still = absurd are
    met-on (command ∷ commands) (turn ∷ []) seat inputs slots last turned records kept are known s here still = absurd are
    met-on (command ∷ commands) (filling ∷ turn ∷ turns) seat inputs slots last turned records kept are known s here still =
        let f = after-fill are.0.0 None filling (turn ∷ turns) seat inputs slots last turned records kept are.0.1 in
        let c = after-carry command turn turns seat f.0 f.1 last f.2 records f.3 are.1 here.mode_is in
        let steady = lives-steady means turns (Seated c.after c.inputs c.slots) last c.more in
        let none = Steady-none means seat.link.device seat.link.device refl in
        let ended = Steady-none means (device_of last) (device_of last) refl in
        let first : Calm means seat.link.device c.after.link.device = Calm-between means seat.link.device seat.link.device c.after.link.device (device_of last) none steady still in
        let later : Calm means c.after.link.device (device_of last) = Calm-between means seat.link.device c.after.link.device (device_of last) (device_of last) c.steady ended still in
        let l = c.met first s here.alike in
        let deeds : command_deeds seat.plan seat.heap (known_of seat.link seat.kept) command ≡ command_deeds plan heap known command =
        λ i. command_deeds (here.plan_is i) (here.heap_is i) (here.known_is i) command in
        let is : c.es ≡ recorded s (command_deeds plan heap known command) = l.0 ∙ ap (recorded s) deeds in
        let doing : c.doing ≡ calm = λ i. λ n. (c.none first n) i in
        let known' : Known Record = (next (command_rules plan heap) calm known command).known in
        let known_is : known_of c.after.link c.after.kept ≡ known' =
        c.known_is ∙ (λ i. (next (command_rules (here.plan_is i) (here.heap_is i)) (doing i) (here.known_is i) command).known) in
        let rest = met-on commands turns c.after c.inputs c.slots last c.more c.rest c.kept are.2 known' (steps_from s c.es)
        (record { mode_is = c.mode_is; plan_is = c.plan_is ∙ here.plan_is; heap_is = c.heap_is ∙ here.heap_is; known_is = known_is; alike = l.1 }) later in
        let others : c.rest ≡ met_from plan heap known' (steps_from s (recorded s (command_deeds plan heap known command))) commands =
        rest.0 ∙ ap (λ (es : List Entry). met_from plan heap known' (steps_from s es) commands) is in (
          c.are ∙ (λ i. is i ∷ others i),
          subst (λ (rs : List (List Entry)). AreAlike (means.on (device_of last)) (steps_from s (all_records rs))) (sym c.are)
              (subst (AreAlike (means.on (device_of last))) (sym (steps-append s c.es (all_records c.rest))) rest.1),
        )

    -- from a session that begins over a device that is off
    pub met-run : (p : P) (commands : List Command) (inputs : List InputView) (slots : List ℕ) (begins : Turn) (turns : List Turn) (last : Life P) (turned : Turns means (Bare p) (begins ∷ turns) last) (records : List (List Entry)) →
        TurnsLeft means (Bare p) (begins ∷ turns) last turned records → begins.task ≡ Begin false plan heap inputs slots → AreFilled commands turns → means.on p ≡ None → Calm means p (device_of last) →
        (records ≡ met_units plan heap commands) × AreAlike (means.on (device_of last)) (steps_of (all_records records))
    met-run p commands inputs slots begins turns last turned records kept is are off still =
        let seated : turned.0 ≡ Seated (new_seat plan heap p) inputs slots = subst (λ (task : Task). Turned means task begins.out (Bare p) turned.0) is turned.1 in
        let first = subst (λ (task : Task). (t : Turned means task begins.out (Bare p) turned.0) × TurnLeft means task begins.out (Bare p) turned.0 t records (λ rest. TurnsLeft means turned.0 turns last turned.2 rest)) is (turned.1, kept) in
        let behind : TurnsLeft means turned.0 turns last turned.2 records = first.1 in
        let moved = subst (λ (l : Life P). (more : Turns means l turns last) × TurnsLeft means l turns last more records) seated (turned.2, behind) in
        met-on commands turns (new_seat plan heap p) inputs slots last moved.0 records moved.1 are (first_known (command_rules plan heap)) None
        (record { mode_is = refl; plan_is = refl; heap_is = refl; known_is = refl; alike = ap (option_map quiescent) off }) still

    -- of a trace that is kept, or not
    pub are-met : (trace : Option (List ℕ)) (p : P) (commands : List Command) (inputs : List InputView) (slots : List ℕ) (begins : Turn) (turns all : List Turn) (last : Life P) (turned : Turns means (Bare p) all last) (records : List (List Entry)) →
        all ≡ begins ∷ turns → KeptRecords means trace (Bare p) all last turned records → begins.task ≡ Begin false plan heap inputs slots → AreFilled commands turns → means.on p ≡ None → Calm means p (device_of last) → AreMet trace plan heap commands records
    are-met None p commands inputs slots begins turns all last turned records whole kept is are off still = kept
    are-met (Some name) p commands inputs slots begins turns all last turned records whole kept is are off still =
        let moved = subst (λ (ts : List Turn). (t : Turns means (Bare p) ts last) × TurnsLeft means (Bare p) ts last t records) whole (turned, kept) in
        (met-run p commands inputs slots begins turns last moved.0 records moved.1 is are off still).0

    -- where a trace is kept they lead to the device
    pub records-view : (name : List ℕ) (p : P) (commands : List Command) (inputs : List InputView) (slots : List ℕ) (begins : Turn) (turns all : List Turn) (last : Life P) (turned : Turns means (Bare p) all last) (records : List (List Entry)) →
        all ≡ begins ∷ turns → KeptRecords means (Some name) (Bare p) all last turned records → begins.task ≡ Begin false plan heap inputs slots → AreFilled commands turns → means.on p ≡ None → Calm means p (device_of last) →
        option_map view_of (means.on (device_of last)) ≡ option_map view_of (steps_of (all_records records))
    records-view name p commands inputs slots begins turns all last turned records whole kept is are off still =
        let moved = subst (λ (ts : List Turn). (t : Turns means (Bare p) ts last) × TurnsLeft means (Bare p) ts last t records) whole (turned, kept) in
        alike-view (means.on (device_of last)) (steps_of (all_records records)) (met-run p commands inputs slots begins turns last moved.0 records moved.1 is are off still).1
