-- Turns that fill a session's inputs and carry out commands, by turns, make the written run: over the bytes that were read, and over
-- all bytes that the inputs may have as a whole.
use Rattle.std.proofs.Common.{◌≡◌, refl, sym, ap, ◌∙◌, subst, ℕ, ◌+◌, ◌-◌, ◌<◌, ◌≤◌, ◌^◌, List, [], ◌∷◌, ◌++◌, map, drop, length, Bool, true, false, cond, ◌==◌, Option, Some, None, nat_eq, length-append, append_assoc, arith}
use Rattle.std.proofs.lemmas.Bool.{eqb-true, true≢false}
use Rattle.std.proofs.lemmas.List.{append-nil, length-drop}
use Rattle.std.specs.List.{IsDistinct}
use Rattle.std.specs.Prelude.{find}
use Rattle.std.specs.Option.{option_map_or}
use Rattle.sof_base.specs.Ports.{InputView}
use Rattle.sof_io.specs.Takes.{input_slots}
use Rattle.stream_law.specs.State.{FwState}
use Rattle.stream_law.specs.Table.{list_of, number_of}
use Rattle.stream_law.specs.Past.{Moment, Past, start}
use Rattle.stream_law.specs.Stands.{Stands, HasRead, position_of, left_of}
use Rattle.stream_law.specs.Viewing.{Fills}
use Rattle.stream_law.proofs.Filled.{filled, Stands-filled}
use Rattle.stream_law.proofs.Standing.{Stands-start}
use Rattle.mbox_link.specs.declared.fates.Fate.TheVariants.{Pass}
use Rattle.mbox_link.specs.Calls.{Meaning, Steady}
use Rattle.mbox_link.specs.Meetings.{Doing, lags}
use Rattle.mbox_link.proofs.Led.{Steady-by}
use Rattle.sof_script.specs.declared.script.Command.{Command}
use Rattle.sof_session.specs.Commands.{Known, CommandResult}
use Rattle.sof_session.specs.Fills.{AreWhole, FilledBy, bytes_read, next_read, after_read, may_grow}
use Rattle.sof_session.specs.NewInputs.{AreNew}
use Rattle.sof_session.specs.Lives.{Life, Bare, Seated, Carries, Turned, Turns, device_of, inputs_of, reads_by, reads_in, with_out, carried_outs}
use Rattle.sof_script.specs.Tasks.{Turn, Task, Begin, Fill, Carry, Out}
use Rattle.sof_session.specs.RunOver.{IsAt, EndsAt, TurnedBy, TurnsBy, RunOver}
use Rattle.sof_session.specs.Modes.{Mode, basis_in}
use Rattle.sof_session.specs.SessionView.{SessionView, seat_in}
use Rattle.sof_session.specs.SessionStep.{Calm, known_of}
use Rattle.sof_session.specs.Written.{Ground, At, Leg, IsLeg, IsRun, first_at, end_of, moments_of, boots_in, raised}
use Rattle.sof_session.proofs.FilledInputs.{is-read, IsNext, next-there, none-wanting, bound-slots, bound-grows}
use Rattle.sof_session.proofs.InputMoves.{IsInRange, empty-in-range, leads-moves}
use Rattle.sof_session.proofs.LinkFates.{Steady-none}
use Rattle.sof_session.proofs.RunBoots.{boots-append}
use Rattle.sof_session.proofs.ModeLaws.{ModeLaws}
use Rattle.sof_session.proofs.RunLegs.{messages}
use Rattle.sof_session.proofs.RunLegs as one
use Rattle.sof_session.proofs.SameDoings.{then_by, first-same, later-same}
use Rattle.sof_session.proofs.StepCounts.{Calm-between}
use Rattle.sof_session.proofs.WholeBytes.{Whole, SameBytes, leads-same, leads-whole, whole-same, whole-trans, whole-filled}

-- a turn fills the inputs, up to some next read or none
abbrev pub Filling : Turn → Option ℕ → Type 0
Filling turn next = (reads : List (ℕ × List ℕ)) × (turn.task ≡ Fill reads next)

-- these turns carry out these commands, each after a turn that filled the inputs; one more may have filled them in part
abbrev pub AreFilled : List Command → List Turn → Type 0
AreFilled [] [] = Unit {0}
AreFilled [] (turn ∷ []) = (next : Option ℕ) × Filling turn next
AreFilled [] (turn ∷ other ∷ turns) = ⊥
AreFilled (command ∷ commands) [] = ⊥
AreFilled (command ∷ commands) (turn ∷ []) = ⊥
AreFilled (command ∷ commands) (filling ∷ turn ∷ turns) = Filling filling None × (turn.task ≡ Carry command) × AreFilled commands turns

-- Their run: over the bytes that were read a session is where it ends; and by the same doings its legs are the run over all bytes of
-- which those that were read are a front, and all where an input has ended.
pub record RunsFilled {P S A : Type 0} (means : Meaning P) (mode : Mode P S A) (g : Ground) (commands : List Command) (begins : Turn) (turns : List Turn) (p : P) (last : Life P) : Type 0 where
  pub legs : List (Leg S)
  pub over : RunOver means mode (record g { whole = bytes_read (reads_in turns) }) commands legs p (begins ∷ turns) last
  pub outs : map (λ (leg : Leg S). leg.out) legs ≡ carried_outs turns
  pub run : (whole : List (ℕ × List ℕ)) → AreWhole (inputs_of last) (bytes_read (reads_in turns)) whole → IsRun (basis_in mode (record g { whole = whole })) over.doing commands (first_at (basis_in mode g)) legs

-- ---- reads, one after another, over the bytes so far

abbrev with_reads : Whole → List (ℕ × List ℕ) → Whole
with_reads whole [] = whole
with_reads whole ((slot, bytes) ∷ reads) = with_reads (filled whole slot bytes) reads

reads-append : (whole : Whole) (xs ys : List (ℕ × List ℕ)) → with_reads whole (xs ++ ys) ≡ with_reads (with_reads whole xs) ys
reads-append whole [] ys = refl
reads-append whole ((slot, bytes) ∷ xs) ys = reads-append (filled whole slot bytes) xs ys

reads-are : (whole : Whole) (reads : List (ℕ × List ℕ)) (s : ℕ) → list_of (with_reads whole reads) s ≡ list_of whole s ++ list_of (bytes_read reads) s
reads-are whole [] s = sym (append-nil (list_of whole s))
reads-are whole ((slot, bytes) ∷ reads) s = reads-are (filled whole slot bytes) reads s ∙ by (slot == s) refl
  where
    by : (h : Bool) → (slot == s) ≡ h → cond h (list_of whole slot ++ bytes) (list_of whole s) ++ list_of (bytes_read reads) s ≡ list_of whole s ++ cond h (bytes ++ list_of (bytes_read reads) slot) (list_of (bytes_read reads) s)
    by true is =
        let same : slot ≡ s = eqb-true slot s is in
        ap (λ (x : ℕ). (list_of whole x ++ bytes) ++ list_of (bytes_read reads) s) same
        ∙ append_assoc (list_of whole s) bytes (list_of (bytes_read reads) s)
        ∙ ap (λ (x : ℕ). list_of whole s ++ (bytes ++ list_of (bytes_read reads) x)) (sym same)
    by false is = refl

-- from nothing they are what was read
from-none : (reads : List (ℕ × List ℕ)) → SameBytes (with_reads [] reads) (bytes_read reads)
from-none reads s = reads-are [] reads s

falls : (b c : Bool) → (b ≡ true → c ≡ true) → c ≡ false → b ≡ false
falls true c up closed = absurd (true≢false (sym (up refl) ∙ closed))
falls false c up closed = refl

-- ---- what stands

stands-more : (device : Option FwState) (whole : Whole) (inputs inputs' : List InputView) (moments : List Moment) (slot : ℕ) (more : List ℕ) (past : Past) → (stands : Stands device whole inputs moments) × (stands.past ≡ past) →
    number_of past.positions slot ≤ length (list_of whole slot) → Fills slot more inputs inputs' → (stands : Stands device (filled whole slot more) inputs' moments) × (stands.past ≡ past)
unfolding Stands-filled
stands-more device whole inputs inputs' moments slot more past s within fills =
    (Stands-filled device whole inputs inputs' moments slot more s.0 (subst (λ (p : Past). number_of p.positions slot ≤ length (list_of whole slot)) (sym s.1) within) fills, s.1)

stands-same : (device : Option FwState) (first other : Whole) (inputs : List InputView) (moments : List Moment) (past : Past) → SameBytes first other → (stands : Stands device first inputs moments) × (stands.past ≡ past) → (stands : Stands device other inputs moments) × (stands.past ≡ past)
stands-same device first other inputs moments past same s = (
  record {
    past = s.0.past;
    led = leads-same first other same moments start s.0.past s.0.led;
    read = record { positions = s.0.read.positions; left = λ slot. s.0.read.left slot ∙ ap (drop (number_of s.0.past.positions slot)) (same slot) };
    kept = s.0.kept;
    holds = s.0.holds;
    agrees = s.0.agrees;
  },
  s.1,
)

-- inputs that are new were not read
new-read : (inputs : List InputView) → AreNew inputs → HasRead [] inputs start
new-read inputs new = record { positions = λ slot bound. position inputs new slot; left = λ slot. left inputs new slot }
  where
    position : (inputs : List InputView) → AreNew inputs → (slot : ℕ) → position_of inputs slot ≡ 0
    position [] new slot = refl
    position (x ∷ xs) new slot = at (x.slot == slot) (position xs new.1 slot)
      where
        at : (h : Bool) → position_of xs slot ≡ 0 → option_map_or (λ (y : InputView). y.position) (cond h (Some x) (find (λ (y : InputView). y.slot == slot) xs)) 0 ≡ 0
        at true rest = ap (λ (y : InputView). y.position) new.0
        at false rest = rest

    left : (inputs : List InputView) → AreNew inputs → (slot : ℕ) → left_of inputs slot ≡ []
    left [] new slot = refl
    left (x ∷ xs) new slot = at (x.slot == slot) (left xs new.1 slot)
      where
        at : (h : Bool) → left_of xs slot ≡ [] → option_map_or (λ (y : InputView). y.left) (cond h (Some x) (find (λ (y : InputView). y.slot == slot) xs)) [] ≡ []
        at true rest = ap (λ (y : InputView). y.left) new.0
        at false rest = rest

module _ {P S A : Type 0} (means : Meaning P) (mode : Mode P S A) (g : Ground) (laws : ModeLaws means mode g.plan g.heap) where
  abbrev over : Whole → Ground
  over whole = record g { whole = whole }

  -- A session is where a run is over the bytes that were read; no input that may still grow went past its bytes; and what the next
  -- command's bound rests on.
  record IsFilledAt (whole : Whole) (seat : SessionView P) (inputs : List InputView) (slots : List ℕ) (before : List Moment) (at : At S) : Type 0 where
    is : IsAt means mode (over whole) seat inputs slots before at
    distinct : IsDistinct nat_eq (input_slots inputs)
    within : (slot : ℕ) → may_grow slot inputs ≡ true → number_of at.past.positions slot ≤ length (list_of whole slot)
    range : IsInRange at.past.view
    few : lags at.known.queue.entries ≤ 16
    kept : laws.IsKept at.known.kept

  -- ---- reads

  module _ (seat : SessionView P) (slots : List ℕ) (before : List Moment) (at : At S) where
    one-read : (whole : Whole) (inputs : List InputView) (slot : ℕ) (bytes : List ℕ) → IsFilledAt whole seat inputs slots before at → IsNext slot inputs → IsFilledAt (filled whole slot bytes) seat (after_read slot bytes inputs) slots before at
    one-read whole inputs slot bytes f n =
        let r = is-read slot bytes inputs in
        record {
          is = record {
            mode_is = f.is.mode_is;
            plan_is = f.is.plan_is;
            heap_is = f.is.heap_is;
            slots_are = f.is.slots_are;
            known_is = f.is.known_is;
            stands = stands-more (means.on seat.link.device) whole inputs (after_read slot bytes inputs) before slot bytes at.past f.is.stands (f.within slot n.grows) (r.fills n.there);
          };
          distinct = subst (IsDistinct nat_eq) (sym r.slots) f.distinct;
          within = λ s may.
              (let more = (whole-filled inputs whole slot bytes n.grows).front s in
              let first = f.within s (r.grew s may) in
              omega (arith, first, ap length more.1, length-append (list_of whole s) more.0));
          range = f.range;
          few = f.few;
          kept = f.kept;
        }

    record AfterReads (reads : List (ℕ × List ℕ)) (whole : Whole) (inputs inputs' : List InputView) : Type 0 where
      later : IsFilledAt (with_reads whole reads) seat inputs' slots before at
      front : AreWhole inputs whole (with_reads whole reads)
      closes : (slot : ℕ) → may_grow slot inputs ≡ false → may_grow slot inputs' ≡ false

    all-read : (reads : List (ℕ × List ℕ)) (whole : Whole) (inputs inputs' : List InputView) → FilledBy reads inputs inputs' → IsFilledAt whole seat inputs slots before at → AfterReads reads whole inputs inputs'
    all-read [] whole inputs inputs' is f = subst (AfterReads [] whole inputs) (sym is) (record { later = f; front = whole-same inputs whole; closes = λ slot closed. closed })
    all-read ((slot, bytes) ∷ reads) whole inputs inputs' is f =
        let n = next-there 983040 slot inputs f.distinct is.0 in
        let mid = after_read slot bytes inputs in
        let r = is-read slot bytes inputs in
        let closes : (s : ℕ) → may_grow s inputs ≡ false → may_grow s mid ≡ false = λ s. falls (may_grow s mid) (may_grow s inputs) (r.grew s) in
        let rest = all-read reads (filled whole slot bytes) mid inputs' is.2 (one-read whole inputs slot bytes f n) in
        record {
          later = rest.later;
          front = whole-trans inputs mid whole (filled whole slot bytes) (with_reads (filled whole slot bytes) reads) closes (whole-filled inputs whole slot bytes n.grows) rest.front;
          closes = λ s closed. rest.closes s (closes s closed);
        }

  -- ---- the legs that turns make from a place

  -- The turns met all doings that are these from the place on.
  record MakesFilled (commands : List Command) (turns : List Turn) (whole : Whole) (seat : SessionView P) (inputs : List InputView) (slots : List ℕ) (before : List Moment) (at : At S) (last : Life P) : Type 0 where
    doing : Doing
    met : (e : Doing) → ((number : ℕ) → at.known.queue.sent < number → e number ≡ doing number) → TurnsBy means e (Seated seat inputs slots) turns last
    none : Calm means seat.link.device (device_of last) → (number : ℕ) → doing number ≡ Pass
    legs : List (Leg S)
    run : (all : Whole) → AreWhole (inputs_of last) (with_reads whole (reads_in turns)) all → IsRun (basis_in mode (over all)) doing commands at legs
    counted : one.AreCounted means mode g laws commands at legs
    outs : map (λ (leg : Leg S). leg.out) legs ≡ carried_outs turns
    ends : EndsAt means mode (over (with_reads whole (reads_in turns))) last (before ++ moments_of legs) (end_of at legs)
    boots : means.boots (device_of last) ≡ raised (boots_in (moments_of legs)) (means.boots seat.link.device)
    steady : Steady means seat.link.device (device_of last)
    front : AreWhole inputs whole (with_reads whole (reads_in turns))
    closes : (slot : ℕ) → may_grow slot inputs ≡ false → may_grow slot (inputs_of last) ≡ false

  -- none more
  makes-none : (whole : Whole) (seat : SessionView P) (inputs : List InputView) (slots : List ℕ) (before : List Moment) (at : At S) → IsFilledAt whole seat inputs slots before at → MakesFilled [] [] whole seat inputs slots before at (Seated seat inputs slots)
  makes-none whole seat inputs slots before at f = record {
    doing = λ number. Pass;
    met = λ e after. refl;
    none = λ calm number. refl;
    legs = [];
    run = λ all are. refl;
    counted = tt;
    outs = refl;
    ends = subst (λ (ms : List Moment). IsAt means mode (over whole) seat inputs slots ms at) (sym (append-nil before)) f.is;
    boots = refl;
    steady = Steady-none means seat.link.device seat.link.device refl;
    front = whole-same inputs whole;
    closes = λ slot closed. closed;
  }

  -- after a turn that filled the inputs
  makes-filled : (commands : List Command) (turn : Turn) (turns : List Turn) (reads : List (ℕ × List ℕ)) (next : Option ℕ) → turn.task ≡ Fill reads next → (whole : Whole) (inputs inputs' : List InputView) (seat : SessionView P) (slots : List ℕ) (before : List Moment) (at : At S) (last : Life P) →
      AfterReads seat slots before at reads whole inputs inputs' → FilledBy reads inputs inputs' → next_read inputs' ≡ next → MakesFilled commands turns (with_reads whole reads) seat inputs' slots before at last → MakesFilled commands (turn ∷ turns) whole seat inputs slots before at last
  makes-filled commands turn turns reads next is whole inputs inputs' seat slots before at last a by upto m =
      let final = with_reads (with_reads whole reads) (reads_in turns) in
      let all-is : with_reads whole (reads_in (turn ∷ turns)) ≡ final = ap (λ (task : Task). with_reads whole (reads_by task ++ reads_in turns)) is ∙ reads-append whole reads (reads_in turns) in
      record {
        doing = m.doing;
        met = λ e after. (Seated seat inputs' slots, subst (λ (task : Task). TurnedBy means e task turn.out (Seated seat inputs slots) (Seated seat inputs' slots)) (sym is) (refl, refl, by, upto), m.met e after);
        none = m.none;
        legs = m.legs;
        run = λ all are. m.run all (subst (λ (w : Whole). AreWhole (inputs_of last) w all) all-is are);
        counted = m.counted;
        outs = m.outs ∙ sym (ap (λ (task : Task). with_out task turn.out (carried_outs turns)) is);
        ends = subst (λ (w : Whole). EndsAt means mode (over w) last (before ++ moments_of m.legs) (end_of at m.legs)) (sym all-is) m.ends;
        boots = m.boots;
        steady = m.steady;
        front = subst (AreWhole inputs whole) (sym all-is) (whole-trans inputs inputs' whole (with_reads whole reads) final a.closes a.front m.front);
        closes = λ slot closed. m.closes slot (a.closes slot closed);
      }

  -- ---- a leg

  module _ (whole : Whole) (seat seat' : SessionView P) (inputs inputs' : List InputView) (slots slots' : List ℕ) (command : Command) (out : Out) (before : List Moment) (at : At S)
      (c : Carries means command out seat seat' inputs inputs' slots) (same : slots' ≡ slots) (f : IsFilledAt whole seat inputs slots before at) (full : next_read inputs ≡ None) where
    abbrev doing : Doing
    doing = one.doing means mode (over whole) laws seat seat' inputs inputs' slots slots' command out before at c same f.is

    abbrev come : CommandResult S A
    come = one.come means mode (over whole) laws seat seat' inputs inputs' slots slots' command out before at c same f.is

    abbrev at' : At S
    at' = one.at' means mode (over whole) laws seat seat' inputs inputs' slots slots' command out before at c same f.is

    abbrev leg : Leg S
    leg = one.leg means mode (over whole) laws seat seat' inputs inputs' slots slots' command out before at c same f.is

    is-leg : IsLeg (basis_in mode (over whole)) doing command at leg
    is-leg = one.is-leg means mode (over whole) laws seat seat' inputs inputs' slots slots' command out before at c same f.is

    is-at : IsAt means mode (over whole) seat' inputs' slots' (before ++ come.moments) at'
    is-at = one.is-at means mode (over whole) laws seat seat' inputs inputs' slots slots' command out before at c same f.is

    moved : (slot : ℕ) → IsInRange at'.past.view × (number_of at'.past.positions slot ≤ number_of at.past.positions slot + 983040)
    moved slot =
        let paced = laws.paced at.known doing command f.kept f.few in
        let by = leads-moves whole slot come.moments at.past at'.past is-leg.goes.led f.range paced.0 in
        (by.0, omega (arith, by.1, paced.1))

    -- an input that may still grow held enough for the command
    enough : (slot : ℕ) → may_grow slot inputs ≡ true → number_of at.past.positions slot + 983040 ≤ length (list_of whole slot)
    enough slot may =
        let held = none-wanting 983040 slot inputs full may in
        let left : left_of inputs slot ≡ drop (number_of at.past.positions slot) (list_of whole slot) = subst (λ (p : Past). left_of inputs slot ≡ drop (number_of p.positions slot) (list_of whole slot)) f.is.stands.1 (f.is.stands.0.read.left slot) in
        omega (arith, held, ap length left, length-drop (number_of at.past.positions slot) (list_of whole slot))

    within' : (slot : ℕ) → may_grow slot inputs' ≡ true → number_of at'.past.positions slot ≤ length (list_of whole slot)
    within' slot may = let most = enough slot (sym (bound-grows inputs inputs' c.ends slot) ∙ may) in let by = (moved slot).1 in omega (arith, most, by)

    later : IsFilledAt whole seat' inputs' slots' (before ++ come.moments) at'
    later = record {
      is = is-at;
      distinct = subst (IsDistinct nat_eq) (sym (bound-slots inputs inputs' c.ends)) f.distinct;
      within = within';
      range = (moved 0).0;
      few = subst (λ (k : Known S). lags k.queue.entries ≤ 16) is-at.known_is c.agrees.fated.held.few;
      kept = one.is-kept means mode (over whole) laws seat seat' inputs inputs' slots slots' command out before at c same f.is;
    }

    -- the leg is one over all bytes of which those that were read are a front
    whole-leg : (all : Whole) → AreWhole inputs' whole all → IsLeg (basis_in mode (over all)) doing command at leg
    whole-leg all are = record {
      command_is = refl;
      goes = record { known = refl; led = leads-whole inputs' whole all are come.moments at.past at'.past within' is-leg.goes.led };
      out_is = is-leg.out_is;
      moments_are = refl;
    }

    module _ (commands : List Command) (turn : Turn) (turns : List Turn) (last : Life P) (counted : one.IsCounted means mode g laws command at) (is : turn.task ≡ Carry command) (out_is : turn.out ≡ out)
        (rest : MakesFilled commands turns whole seat' inputs' slots' (before ++ come.moments) at' last) where
      abbrev joined : Doing
      joined = then_by come.known.queue.sent doing rest.doing

      abbrev final : Whole
      final = with_reads whole (reads_in turns)

      all-is : with_reads whole (reads_in (turn ∷ turns)) ≡ final
      all-is = ap (λ (task : Task). with_reads whole (reads_by task ++ reads_in turns)) is

      run-more : (all : Whole) → AreWhole (inputs_of last) final all → IsRun (basis_in mode (over all)) joined (command ∷ commands) at (leg ∷ rest.legs)
      run-more all are = (
        one.leg-same means mode (over all) laws doing joined command at leg
            (laws.same at.known doing joined command counted.0 counted.1 (λ number low high. sym (first-same come.known.queue.sent doing rest.doing number high)))
            (whole-leg all (whole-trans inputs' (inputs_of last) whole final all rest.closes rest.front are)),
        one.run-same means mode (over all) laws rest.doing joined commands at' rest.legs rest.counted (λ number later. sym (later-same come.known.queue.sent doing rest.doing number later)) (rest.run all are),
      )

      met-more : (e : Doing) → ((number : ℕ) → at.known.queue.sent < number → e number ≡ joined number) → TurnsBy means e (Seated seat inputs slots) (turn ∷ turns) last
      met-more e after =
          let up = laws.within at.known doing command counted.0 counted.1 in (
            Seated seat' inputs' slots',
            subst (λ (o : Out). TurnedBy means e turn.task o (Seated seat inputs slots) (Seated seat' inputs' slots')) (sym out_is)
                (one.turned-by means mode (over whole) laws seat seat' inputs inputs' slots slots' command out before at c same f.is e (λ number low high. after number low ∙ first-same come.known.queue.sent doing rest.doing number high) turn.task is),
            rest.met e (λ number later. after number (omega (arith, later, up.0)) ∙ later-same come.known.queue.sent doing rest.doing number later),
          )

      makes-more : MakesFilled (command ∷ commands) (turn ∷ turns) whole seat inputs slots before at last
      makes-more = record {
        doing = joined;
        met = met-more;
        none = λ calm. one.then-pass come.known.queue.sent doing rest.doing
            ((one.done means mode (over whole) laws seat seat' inputs inputs' slots slots' command out before at c same f.is).0.done.none (Calm-between means seat.link.device seat.link.device seat'.link.device (device_of last) (Steady-none means seat.link.device seat.link.device refl) rest.steady calm))
            (rest.none (Calm-between means seat.link.device seat'.link.device (device_of last) (device_of last) steadily (Steady-none means (device_of last) (device_of last) refl) calm));
        legs = leg ∷ rest.legs;
        run = λ all are. run-more all (subst (λ (w : Whole). AreWhole (inputs_of last) w all) all-is are);
        counted = (counted, rest.counted);
        outs = (λ i. sym out_is i ∷ rest.outs i) ∙ sym (ap (λ (task : Task). with_out task turn.out (carried_outs turns)) is);
        ends = subst (λ (w : Whole). EndsAt means mode (over w) last (before ++ moments_of (leg ∷ rest.legs)) (end_of at' rest.legs)) (sym all-is)
            (subst (λ (ms : List Moment). EndsAt means mode (over final) last ms (end_of at' rest.legs)) (append_assoc before come.moments (moments_of rest.legs)) rest.ends);
        boots = rest.boots ∙ ap (raised (boots_in (moments_of rest.legs))) booted ∙ sym (boots-append come.moments (moments_of rest.legs) (means.boots seat.link.device));
        steady = Steady-by means seat.link.device seat'.link.device (device_of last) steadily rest.steady;
        front = subst (AreWhole inputs whole) (sym all-is) (record { front = rest.front.front; all = λ slot closed. rest.front.all slot (bound-grows inputs inputs' c.ends slot ∙ closed) });
        closes = λ slot closed. rest.closes slot (bound-grows inputs inputs' c.ends slot ∙ closed);
      }
        where
          steadily : Steady means seat.link.device seat'.link.device
          steadily = one.steadily means mode (over whole) laws seat seat' inputs inputs' slots slots' command out before at c same f.is

          booted : means.boots seat'.link.device ≡ raised (boots_in come.moments) (means.boots seat.link.device)
          booted = one.booted means mode (over whole) laws seat seat' inputs inputs' slots slots' command out before at c same f.is

  -- ---- all of them

  -- a turn that fills leaves the session
  fill-turn : (reads : List (ℕ × List ℕ)) (next : Option ℕ) (turn : Turn) (seat : SessionView P) (inputs : List InputView) (slots : List ℕ) (m : Life P) → turn.task ≡ Fill reads next → Turned means turn.task turn.out (Seated seat inputs slots) m →
      (inputs' : List InputView) × (m ≡ Seated seat inputs' slots) × FilledBy reads inputs inputs' × (next_read inputs' ≡ next)
  fill-turn reads next turn seat inputs slots m is turned = by m (subst (λ (task : Task). Turned means task turn.out (Seated seat inputs slots) m) is turned)
    where
      by : (m : Life P) → Turned means (Fill reads next) turn.out (Seated seat inputs slots) m → (inputs' : List InputView) × (m ≡ Seated seat inputs' slots) × FilledBy reads inputs inputs' × (next_read inputs' ≡ next)
      by (Bare dsp) step = absurd step
      by (Seated seat' inputs' slots') step = (inputs', (λ i. Seated (step.0 i) inputs' (step.1 i)), step.2, step.3)

  makes : (commands : List Command) (turns : List Turn) (whole : Whole) (seat : SessionView P) (inputs : List InputView) (slots : List ℕ) (before : List Moment) (at : At S) (last : Life P) →
      AreFilled commands turns → at.known.queue.sent + messages laws.most commands < 2 ^ 63 → IsFilledAt whole seat inputs slots before at → Turns means (Seated seat inputs slots) turns last →
      MakesFilled commands turns whole seat inputs slots before at last
  makes [] [] whole seat inputs slots before at last are counted f turned = subst (MakesFilled [] [] whole seat inputs slots before at) (sym turned) (makes-none whole seat inputs slots before at f)
  makes [] (turn ∷ []) whole seat inputs slots before at last are counted f turned =
      let s = fill-turn are.1.0 are.0 turn seat inputs slots turned.0 are.1.1 turned.1 in
      let a = all-read seat slots before at are.1.0 whole inputs s.0 s.2 f in
      subst (MakesFilled [] (turn ∷ []) whole seat inputs slots before at) (sym (turned.2 ∙ s.1))
      (makes-filled [] turn [] are.1.0 are.0 are.1.1 whole inputs s.0 seat slots before at (Seated seat s.0 slots) a s.2 s.3 (makes-none (with_reads whole are.1.0) seat s.0 slots before at a.later))
  makes [] (turn ∷ other ∷ turns) whole seat inputs slots before at last are counted f turned = absurd are
  makes (command ∷ commands) [] whole seat inputs slots before at last are counted f turned = absurd are
  makes (command ∷ commands) (turn ∷ []) whole seat inputs slots before at last are counted f turned = absurd are
  makes (command ∷ commands) (filling ∷ turn ∷ turns) whole seat inputs slots before at last are counted f turned =
      let s = fill-turn are.0.0 None filling seat inputs slots turned.0 are.0.1 turned.1 in
      let a = all-read seat slots before at are.0.0 whole inputs s.0 s.2 f in
      let mid = with_reads whole are.0.0 in
      let onward : Turns means (Seated seat s.0 slots) (turn ∷ turns) last = subst (λ (m : Life P). Turns means m (turn ∷ turns) last) s.1 turned.2 in
      makes-filled (command ∷ commands) filling (turn ∷ turns) are.0.0 None are.0.1 whole inputs s.0 seat slots before at last a s.2 s.3
      ((elim onward.0 as (λ (m : Life P). Turned means (Carry command) turn.out (Seated seat s.0 slots) m → Turns means m turns last → MakesFilled (command ∷ commands) (turn ∷ turns) mid seat s.0 slots before at last) [
        | Bare dsp ↦ λ step rest. absurd step
        | Seated seat' inputs' slots' ↦ λ step rest.
            let here : one.IsCounted means mode g laws command at = (f.kept, omega (arith, counted)) in
            let within = laws.within at.known (doing mid seat seat' s.0 inputs' slots slots' command turn.out before at step.1 step.0 a.later s.3) command here.0 here.1 in
            makes-more mid seat seat' s.0 inputs' slots slots' command turn.out before at step.1 step.0 a.later s.3 commands turn turns last here are.1 refl
            (makes commands turns mid seat' inputs' slots' (before ++ (come mid seat seat' s.0 inputs' slots slots' command turn.out before at step.1 step.0 a.later s.3).moments)
            (at' mid seat seat' s.0 inputs' slots slots' command turn.out before at step.1 step.0 a.later s.3) last are.2 (omega (arith, counted, within.1))
            (later mid seat seat' s.0 inputs' slots slots' command turn.out before at step.1 step.0 a.later s.3) rest)
      ]) (subst (λ (task : Task). Turned means task turn.out (Seated seat s.0 slots) onward.0) are.1 onward.1) onward.2)

  -- where a run ends, by the same bytes
  ends-same : (first other : Whole) (last : Life P) (moments : List Moment) (at : At S) → SameBytes first other → EndsAt means mode (over first) last moments at → EndsAt means mode (over other) last moments at
  ends-same first other (Bare dsp) moments at same ends = ends
  ends-same first other (Seated seat inputs slots) moments at same ends = record {
    mode_is = ends.mode_is;
    plan_is = ends.plan_is;
    heap_is = ends.heap_is;
    slots_are = ends.slots_are;
    known_is = ends.known_is;
    stands = stands-same (means.on seat.link.device) first other inputs moments at.past same ends.stands;
  }

-- ---- from the beginning

pub runs-filled : {P S A : Type 0} (means : Meaning P) (mode : Mode P S A) (g : Ground) (laws : ModeLaws means mode g.plan g.heap) (inputs : List InputView) (p : P) (commands : List Command) (begins : Turn) (turns : List Turn) (last : Life P) →
    means.on p ≡ None → AreNew inputs → IsDistinct nat_eq (input_slots inputs) →
    begins.task ≡ Begin mode.on_use g.plan g.heap inputs g.slots → AreFilled commands turns → messages laws.most commands < 2 ^ 63 → Turns means (Bare p) (begins ∷ turns) last →
    RunsFilled means mode g commands begins turns p last
runs-filled {P} {S} means mode g laws inputs p commands begins turns last off new distinct is_begin are counted turned =
    let seat = seat_in mode.on_use g.plan g.heap p in
    let begun : turned.0 ≡ Seated seat inputs g.slots = subst (λ (task : Task). Turned means task begins.out (Bare p) turned.0) is_begin turned.1 in
    let first = Stands-start [] inputs (new-read inputs new) in
    let is : IsFilledAt means mode g laws [] seat inputs g.slots [] (first_at (basis_in mode g)) = record {
      is = record {
        mode_is = laws.begins p;
        plan_is = refl;
        heap_is = refl;
        slots_are = refl;
        known_is = ap (λ (kept : S). known_of seat.link kept) (laws.sees_first p off);
        stands = subst (λ o. (stands : Stands o [] inputs []) × (stands.past ≡ start)) (sym off) (first, sym first.led);
      };
      distinct = distinct;
      within = λ slot may. omega arith;
      range = empty-in-range;
      few = omega arith;
      kept = laws.first;
    } in
    let m = makes means mode g laws commands turns [] seat inputs g.slots [] (first_at (basis_in mode g)) last are (omega (arith, counted)) is (subst (λ (l : Life P). Turns means l turns last) begun turned.2) in
    let same = from-none (reads_in turns) in
    let by : TurnedBy means m.doing begins.task begins.out (Bare p) turned.0 =
    subst (λ (task : Task). TurnedBy means m.doing task begins.out (Bare p) turned.0) (sym is_begin) (subst (λ (task : Task). Turned means task begins.out (Bare p) turned.0) is_begin turned.1) in
    record {
      legs = m.legs;
      over = record {
        doing = m.doing;
        met = (turned.0, by, subst (λ (l : Life P). TurnsBy means m.doing l turns last) (sym begun) (m.met m.doing (λ number after. refl)));
        outs = m.outs ∙ sym (ap (λ (task : Task). with_out task begins.out (carried_outs turns)) is_begin);
        none = m.none;
        run = m.run (bytes_read (reads_in turns)) (record { front = λ slot. ([], sym (same slot) ∙ sym (append-nil (list_of (with_reads [] (reads_in turns)) slot))); all = λ slot closed. sym (same slot) });
        ends = ends-same means mode g laws (with_reads [] (reads_in turns)) (bytes_read (reads_in turns)) last (moments_of m.legs) (end_of (first_at (basis_in mode g)) m.legs) same m.ends;
        boots = m.boots;
      };
      outs = m.outs;
      run = λ whole whole_is. m.run whole (record { front = λ slot. ((whole_is.front slot).0, (whole_is.front slot).1 ∙ ap (λ (bs : List ℕ). bs ++ (whole_is.front slot).0) (sym (same slot))); all = λ slot closed. whole_is.all slot closed ∙ sym (same slot) });
    }
