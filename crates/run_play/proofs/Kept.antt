-- Plays over devices of whose calls nothing is kept, or their records: as turns of sessions, with records in front.
use Rattle.std.proofs.Common.{Bool, ◌≡◌, refl, sym, ap, ◌∙◌, subst, ℕ, true, false, List, [], ◌∷◌, ◌++◌, length, Option, Some, None, arith}
use Rattle.std.specs.Prelude.{is_some, option_map}
use Rattle.sof_base.specs.Ports.{InputView}
use Rattle.sof_desk.specs.Desk.{DeskMeaning}
use Rattle.mbox_link.specs.Calls.{World, Meaning, Call, Led, world}
use Rattle.mbox_link.specs.Wire.{Wire}
use Rattle.mbox_link.specs.Link.{inner}
use Rattle.ipc3_trace.specs.declared.entry.Entry.{Entry}
use Rattle.ipc3_trace.specs.HeldRecords.{HeldRecords, no_records}
use Rattle.ipc3_trace.specs.Records.{records_bytes}
use Rattle.ipc3_trace.specs.AlongCalls.{entries_along}
use Rattle.ipc3_trace.specs.Tracing.{Traced, tracer, traced, new_tracer, Emptied}
use Rattle.ipc3_trace.proofs.HeldLaws.{holds-records, tracer-is-device}
use Rattle.ipc3_trace.proofs.FitLaws.{fits-records}
use Rattle.ipc3_trace.proofs.LeadingLaws.{records-lead}
use Rattle.tplg_plan.specs.declared.plans.Plan.{Plan}
use Rattle.sof_script.specs.declared.script.Command.{Command}
use Rattle.sof_session.specs.Agreement.{AreAgreed}
use Rattle.sof_script.specs.Commands.{Read}
use Rattle.sof_session.specs.Commands.{command_rules}
use Rattle.sof_session.specs.Modes.{made_at_load, IsInMode, CommandDoneIn, SteppedBy}
use Rattle.sof_session.specs.SessionView.{SessionView, first_up, with_device}
use Rattle.sof_session.specs.SessionStep.{Calm, known_of}
use Rattle.sof_session.proofs.Draining.{AreAgreed-drained}
use Rattle.sof_session.proofs.LoadMode.{load-stepped}
use Rattle.sof_script.specs.Tasks.{Out, Task, Begin, Fill, Carry, Give, Turn, AreTurns}
use Rattle.sof_session.specs.Written.{empty_outputs}
use Rattle.sof_session.specs.Lives.{Life, Bare, Seated, Turned, Turns, Carries, device_of, Exit}
use Rattle.run_play.specs.Met.{command_deeds}
use Rattle.run_play.specs.StepCalls.{command_calls, step_calls}
use Rattle.run_play.specs.Keeping.{trace_slot, fronted, recorded_turns, LeftRecords, LeftBy, TurnsLeft}
use Rattle.run_play.specs.KeptTurns.{KeptCarry, KeptTurn, CanKeep, GaveKept}
use Rattle.run_play.specs.Opening.{SameFiles}
use Rattle.run_play.specs.Play.{ready_todo}
use Rattle.run_desk.specs.Todo.{Todo, Free, Played}
use Rattle.run_play.specs.HandedBack.{GaveBy}
use Rattle.run_play.proofs.Begins.{BeginsAtLoad, begins_at_load}
use Rattle.run_play.proofs.TracedSessions.{bare_seat, bare_life, stepped-bare, agreed-bare, calm-traced}
use Rattle.run_play.proofs.DeedRecords.{Leaves}
use Rattle.run_play.proofs.CommandRecords.{command-leaves}

-- ---- the file

-- what a device may hold can be written: it holds nothing, or its file is there
pub can_keep : {D K : Type 0} {N : Type 0} (means : DeskMeaning D) (holds : K → List ℕ) (trace : Option N) (d : D) → (trace ≡ None → (k : K) → holds k ≡ []) → (is_some trace ≡ true → means.created d trace_slot ≡ true) → CanKeep means holds d
can_keep means holds None d none some = λ k held. absurd (held (none refl k))
can_keep means holds (Some name) d none some = λ k held. some refl

pub keeps-same : {D K : Type 0} (means : DeskMeaning D) (holds : K → List ℕ) (old new : D) → SameFiles means old new → CanKeep means holds old → CanKeep means holds new
keeps-same means holds old new same keeps = λ k held. same.created trace_slot ∙ keeps k held

-- the name of a trace that is kept
pub some_named : {N : Type 0} (trace : Option N) → is_some trace ≡ true → trace ≡ None → ⊥
some_named trace some none = cc (sym some ∙ ap is_some none)

pub none_named : {N : Type 0} (trace : Option N) → is_some trace ≡ false → trace ≡ None
none_named None none = refl
none_named (Some name) none = absurd (cc none)

-- it is one of a play that makes all pipelines at a load
pub at_load_by : {N : Type 0} (on_use : Bool) (trace : Option N) → is_some trace ≡ true → (on_use ≡ true → trace ≡ None) → on_use ≡ false
at_load_by false trace some none = refl
at_load_by true trace some none = absurd (some_named trace some (none refl))

pub none_mapped : {N : Type 0} (f : N → List ℕ) (trace : Option N) → option_map f trace ≡ None → trace ≡ None
none_mapped f None none = refl
none_mapped f (Some name) none = absurd (cc none)

pub named_as : {N : Type 0} (f : N → List ℕ) (trace : Option N) → is_some trace ≡ true → (name : List ℕ) × (option_map f trace ≡ Some name)
named_as f None some = absurd (cc some)
named_as f (Some n) some = (f n, refl)

-- ---- a device of which nothing is kept

module _ {P : Type 0} (means : Meaning P) where
  abbrev Untraced : Task → Out → Life P → Life P → Type 0
  Untraced = KeptTurn means (λ (d : P). []) (λ (old new : P). new ≡ old)

  bare-carry : (command : Command) (out : Out) (old : Life P) (seat' : SessionView P) (inputs' : List InputView) (slots' : List ℕ) → KeptCarry means (λ (d : P). []) (λ (old new : P). new ≡ old) command out old seat' inputs' slots' → Turned means (Carry command) out old (Seated seat' inputs' slots')
  bare-carry command out old seat' inputs' slots' k =
      let same : seat' ≡ k.left = k.rest ∙ ap (with_device k.left) k.emptied.did in
      subst (λ (o : Out). Turned means (Carry command) o old (Seated seat' inputs' slots')) (sym k.out_is)
      (subst (λ (s : SessionView P). Turned means (Carry command) k.bare old (Seated s inputs' slots')) (sym same) k.turned)

  bare-turn : (task : Task) (out : Out) (old new : Life P) → Untraced task out old new → Turned means task out old new
  bare-turn (Begin on_use plan heap inputs slots) out (Bare dsp) new turned = turned.0
  bare-turn (Begin on_use plan heap inputs slots) out (Seated seat inputs' slots') new turned = absurd turned
  bare-turn (Fill reads next) out old new turned = turned
  bare-turn (Give call) out old new turned = absurd turned
  bare-turn (Carry command) out old (Bare dsp) turned = absurd turned
  bare-turn (Carry command) out old (Seated seat' inputs' slots') turned = bare-carry command out old seat' inputs' slots' turned

  bare-turns : (turns : List Turn) (p q : Life P) → AreTurns Untraced p turns q → Turns means p turns q
  bare-turns [] p q turned = turned
  bare-turns (turn ∷ turns) p q turned = (turned.0, bare-turn turn.task turn.out p turned.0 turned.1, bare-turns turns turned.0 q turned.2)

  pub untraced_gave : {D : Type 0} (desk : DeskMeaning D) (todo : Todo) (old new : D) (p q : P) (status : ℕ) → GaveBy desk means Untraced todo old p status new q → GaveKept desk means None todo old p status new q
  untraced_gave desk todo old new p q status gave = record {
    last = gave.last;
    is = gave.is;
    exit = gave.exit;
    turns = gave.ran.turns;
    turned = bare-turns gave.ran.turns (Bare p) gave.last gave.ran.turned;
    records = [];
    kept = refl;
    played = gave.ran.played;
  }

-- ---- a tracer

-- a turn that carries out no command uses up no records
recorded-behind : (records : List (List Entry)) (reads : List (ℕ × List ℕ)) (next : Option ℕ) (out : Out) (turns : List Turn) →
    recorded_turns records (record { task = Fill reads next; out = out } ∷ turns) ≡ record { task = Fill reads next; out = out } ∷ recorded_turns records turns
recorded-behind [] reads next out turns = refl
recorded-behind (es ∷ records) reads next out turns = refl

recorded-begun : (records : List (List Entry)) (on_use : Bool) (plan : Plan) (heap : ℕ) (inputs : List InputView) (slots : List ℕ) (out : Out) (turns : List Turn) →
    recorded_turns records (record { task = Begin on_use plan heap inputs slots; out = out } ∷ turns) ≡ record { task = Begin on_use plan heap inputs slots; out = out } ∷ recorded_turns records turns
recorded-begun [] on_use plan heap inputs slots out turns = refl
recorded-begun (es ∷ records) on_use plan heap inputs slots out turns = refl

device-bare : {P : Type 0} (l : Life (Traced P)) → device_of (bare_life l) ≡ (device_of l).device
device-bare (Bare dsp) = refl
device-bare (Seated seat inputs slots) = refl

module _ {P : Type 0} (means : Meaning P) where
  abbrev T : Meaning (Traced P)
  T = tracer means

  abbrev holds : Traced P → List ℕ
  holds t = t.held.bytes

  abbrev ByTracer : Task → Out → Life (Traced P) → Life (Traced P) → Type 0
  ByTracer = KeptTurn T holds Emptied

  -- nothing is held, and a session makes all pipelines at a load, and its two sides agree
  abbrev IsCleanSeat : SessionView (Traced P) → Type 0
  IsCleanSeat seat = (seat.link.device.held ≡ no_records) × IsInMode made_at_load seat × AreAgreed T seat

  abbrev Clean : Life (Traced P) → Type 0
  Clean (Bare dsp) = dsp.held ≡ no_records
  Clean (Seated seat inputs slots) = IsCleanSeat seat

  -- a session that is begun over a device makes all pipelines at a load
  abbrev IsFirst : Life (Traced P) → List Turn → Type 0
  IsFirst (Bare dsp) turns = BeginsAtLoad turns
  IsFirst (Seated seat inputs slots) turns = Unit {0}

  -- turns with records in front are turns of the device
  record Split (turns : List Turn) (p q : Life (Traced P)) : Type 0 where
    bare : List Turn
    turned : Turns means (bare_life p) bare (bare_life q)
    records : List (List Entry)
    kept : TurnsLeft means (bare_life p) bare (bare_life q) turned records
    are : turns ≡ recorded_turns records bare

  -- ---- a command

  module _ (command : Command) (out : Out) (seat seat' : SessionView (Traced P)) (inputs inputs' : List InputView) (slots slots' : List ℕ) (clean : seat.link.device.held ≡ no_records) (mode_is : IsInMode made_at_load seat) (agreed : AreAgreed T seat)
      (k : KeptCarry T holds Emptied command out (Seated seat inputs slots) seat' inputs' slots') where
    abbrev left : SessionView (Traced P)
    left = k.left

    abbrev c : Carries T command k.bare seat left inputs inputs' slots
    c = k.turned.1

    abbrev w : World (Wire (Traced P))
    w = world seat.link inputs (empty_outputs slots)

    abbrev v : World (Wire (Traced P))
    v = world left.link inputs' c.outputs

    pub did : CommandDoneIn T made_at_load command seat left w v k.bare.answer
    did = (load-stepped T command seat left w v k.bare.answer c.stepped mode_is).0

    abbrev cs : List Call
    cs = command_calls T (command_rules seat.plan seat.heap) seat.heap command seat.kept left.kept w v k.bare.answer did.done

    pub l : Leaves means (Calm T seat.link.device left.link.device) (inner w) (inner v) cs (command_deeds seat.plan seat.heap (known_of seat.link seat.kept) command) 1048576
    l = command-leaves means seat.plan seat.heap command seat.kept left.kept w v k.bare.answer agreed.sound agreed.agree.record_is agreed.fated agreed.pending did.done

    abbrev pub es : List Entry
    es = entries_along T (inner w) cs (inner v) l.led

    none-held : length seat.link.device.held.bytes ≡ 0
    none-held = ap (λ (h : HeldRecords). length h.bytes) clean

    uncut : left.link.device.held.cut_short ≡ false
    uncut = fits-records means (inner w) (inner v) cs l.led (ap (λ (h : HeldRecords). h.cut_short) clean) l.are (omega (arith, none-held, l.few))

    bytes-are : left.link.device.held.bytes ≡ records_bytes es
    bytes-are = (holds-records means (inner w) (inner v) cs l.led uncut).1 ∙ ap (λ (h : HeldRecords). h.bytes ++ records_bytes es) clean

    -- the session after it
    device-is : seat'.link.device ≡ new_tracer left.link.device.device
    device-is = k.emptied.did

    same-bare : bare_seat seat' ≡ bare_seat left
    same-bare = ap bare_seat k.rest ∙ (λ i. record { link = record { device = (device-is i).device; entries = left.link.entries; sent = left.link.sent; dropped = left.link.dropped; refused = left.link.refused }; kept = left.kept; plan = left.plan; heap = left.heap; up = left.up })

    pub clean-after : Clean (Seated seat' inputs' slots')
    clean-after = (
      ap (λ (t : Traced P). t.held) device-is,
      ap (λ (s : SessionView (Traced P)). is_some s.up) k.rest ∙ did.stays,
      subst (AreAgreed T) (sym k.rest) (AreAgreed-drained T left seat'.link.device k.emptied.on k.emptied.quiet c.agrees),
    )

    -- the device's own step, by the calls of the tracer's
    abbrev wb : World (Wire P)
    wb = world (bare_seat seat).link inputs (empty_outputs slots)

    abbrev vb : World (Wire P)
    vb = world (bare_seat left).link inputs' c.outputs

    stepped : (s : SteppedBy means command (bare_seat seat) (bare_seat left) wb vb k.bare.answer) × (step_calls means command (bare_seat seat) (bare_seat left) wb vb k.bare.answer s ≡ cs)
    stepped = stepped-bare means command seat left w v k.bare.answer (none_named seat.up mode_is) did

    abbrev bare-carries : Carries means command k.bare (bare_seat seat) (bare_seat left) inputs inputs' slots
    bare-carries = record {
      outputs = c.outputs;
      stepped = stepped.0;
      shown = c.shown;
      written = c.written;
      ends = c.ends;
      plan_is = c.plan_is;
      heap_is = c.heap_is;
      agrees = agreed-bare means left c.agrees;
    }

    inside : (led : Led means (traced (inner w)) cs (traced (inner v))) × (es ≡ entries_along means (traced (inner w)) cs (traced (inner v)) led)
    inside = tracer-is-device means (inner w) (inner v) cs l.led

    left-records : LeftRecords means command (bare_seat seat) (bare_seat left) wb vb cs es
    left-records = record {
      led = inside.0;
      are = inside.1;
      each = l.are;
      met = λ calm s alike.
          let m = l.met (calm-traced means seat.link.device left.link.device calm) agreed.pending s alike in
          (m.1, records-lead T (inner w) (inner v) cs l.led m.0 s alike);
    }

    -- the turn of the device, and that it left these records
    abbrev LeftTurn : SessionView P → Type 0
    LeftTurn s =
        (t : Turned means (Carry command) k.bare (Seated (bare_seat seat) inputs slots) (Seated s inputs' slots')) × LeftBy means command k.bare (Seated (bare_seat seat) inputs slots) (Seated s inputs' slots') t es

    pub turned-bare : LeftTurn (bare_seat seat')
    turned-bare =
        let records = subst (λ (x : List Call). LeftRecords means command (bare_seat seat) (bare_seat left) wb vb x es) (sym stepped.1) left-records in
        let here : LeftTurn (bare_seat left) = ((k.turned.0, bare-carries), records) in
        subst LeftTurn (sym same-bare) here

    pub out-bare : out ≡ fronted (records_bytes es) k.bare
    out-bare = k.out_is ∙ ap (λ (bytes : List ℕ). fronted bytes k.bare) bytes-are

  -- ---- turns, one after another

  -- one, and those after it
  split-by : (task : Task) (out : Out) (turns : List Turn) (p m q : Life (Traced P)) → (Clean m → IsFirst m turns → AreTurns ByTracer m turns q → Split turns m q) → Clean p → IsFirst p (record { task = task; out = out } ∷ turns) → ByTracer task out p m → AreTurns ByTracer m turns q → Split (record { task = task; out = out } ∷ turns) p q
  split-by (Begin on_use plan heap inputs slots) out turns (Bare dsp) m q others clean first step more =
      let after : Clean m = subst Clean (sym step.0) (clean, ap (λ (u : Bool). is_some (first_up u)) first, step.1) in
      let rest = others after (subst (λ (l : Life (Traced P)). IsFirst l turns) (sym step.0) tt) more in
      record {
        bare = record { task = Begin on_use plan heap inputs slots; out = out } ∷ rest.bare;
        turned = (bare_life m, ap bare_life step.0, rest.turned);
        records = rest.records;
        kept = rest.kept;
        are = ap (λ (ts : List Turn). record { task = Begin on_use plan heap inputs slots; out = out } ∷ ts) rest.are ∙ sym (recorded-begun rest.records on_use plan heap inputs slots out rest.bare);
      }
  split-by (Begin on_use plan heap inputs slots) out turns (Seated seat inputs' slots') m q others clean first step more = absurd step
  split-by (Give call) out turns p m q others clean first step more = absurd step
  split-by (Fill reads next) out turns (Bare dsp) m q others clean first step more = absurd step
  split-by (Fill reads next) out turns (Seated seat inputs slots) (Bare dsp) q others clean first step more = absurd step
  split-by (Fill reads next) out turns (Seated seat inputs slots) (Seated seat' inputs' slots') q others clean first step more =
      let after : Clean (Seated seat' inputs' slots') = subst IsCleanSeat (sym step.0) clean in
      let rest = others after tt more in
      record {
        bare = record { task = Fill reads next; out = out } ∷ rest.bare;
        turned = (Seated (bare_seat seat') inputs' slots', (ap bare_seat step.0, step.1, step.2, step.3), rest.turned);
        records = rest.records;
        kept = rest.kept;
        are = ap (λ (ts : List Turn). record { task = Fill reads next; out = out } ∷ ts) rest.are ∙ sym (recorded-behind rest.records reads next out rest.bare);
      }
  split-by (Carry command) out turns p (Bare dsp) q others clean first step more = absurd step
  split-by (Carry command) out turns (Bare dsp) (Seated seat' inputs' slots') q others clean first step more = absurd step.turned
  split-by (Carry command) out turns (Seated seat inputs slots) (Seated seat' inputs' slots') q others clean first step more =
      let rest = others (clean-after command out seat seat' inputs inputs' slots slots' clean.0 clean.1 clean.2 step) tt more in
      let records = es command out seat seat' inputs inputs' slots slots' clean.0 clean.1 clean.2 step in
      let left = turned-bare command out seat seat' inputs inputs' slots slots' clean.0 clean.1 clean.2 step in
      record {
        bare = record { task = Carry command; out = step.bare } ∷ rest.bare;
        turned = (bare_life (Seated seat' inputs' slots'), left.0, rest.turned);
        records = records ∷ rest.records;
        kept = (left.1, rest.kept);
        are = λ i. record { task = Carry command; out = out-bare command out seat seat' inputs inputs' slots slots' clean.0 clean.1 clean.2 step i } ∷ rest.are i;
      }

  split : (turns : List Turn) (p q : Life (Traced P)) → Clean p → IsFirst p turns → AreTurns ByTracer p turns q → Split turns p q
  split [] p q clean first turned = record { bare = []; turned = ap bare_life turned; records = []; kept = refl; are = refl }
  split (turn ∷ turns) p q clean first turned = split-by turn.task turn.out turns p turned.0 q (split turns turned.0 q) clean first turned.1 turned.2

  exit-bare : (p : P) (last : Life (Traced P)) → Exit T (new_tracer p) last → Exit means p (bare_life last)
  exit-bare p (Bare q) exit = ap (λ (t : Traced P). t.device) exit
  exit-bare p (Seated seat inputs slots) exit = agreed-bare means seat exit

  pub traced_gave : {D : Type 0} (desk : DeskMeaning D) (name : List ℕ) (on_use : Bool) → on_use ≡ false → (heap : ℕ) (plan : Plan) (read : Read) (old new : D) (p : P) (q : Traced P) (status : ℕ) →
      GaveBy desk T ByTracer (Free (ready_todo on_use heap (Some name) plan read)) old (new_tracer p) status new q → GaveKept desk means (Some name) (Free (ready_todo on_use heap (Some name) plan read)) old p status new q.device
  traced_gave desk name on_use at_load heap plan read old new p q status gave =
      let first = begins_at_load on_use at_load heap (Some name) plan read gave.ran.turns gave.ran.played.calls status gave.ran.played.goes in
      let s = split gave.ran.turns (Bare (new_tracer p)) gave.last refl first gave.ran.turned in
      record {
        last = bare_life gave.last;
        is = device-bare gave.last ∙ ap (λ (t : Traced P). t.device) gave.is;
        exit = exit-bare p gave.last gave.exit;
        turns = s.bare;
        turned = s.turned;
        records = s.records;
        kept = s.kept;
        played = subst (λ (ts : List Turn). Played desk (Free (ready_todo on_use heap (Some name) plan read)) old ts status new) s.are gave.ran.played;
      }
