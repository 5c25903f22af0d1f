-- Turns of a session over any device make the written run: its legs, by one doing of the device, from a place to the end.
use Rattle.std.proofs.Common.{◌≡◌, refl, sym, ap, ◌∙◌, subst, ℕ, ◌+◌, ◌<◌, ◌≤◌, ◌^◌, ◌-◌, Bool, true, false, List, [], ◌∷◌, ◌++◌, map, None, append_assoc, arith}
use Rattle.std.proofs.lemmas.List.{append-nil}
use Rattle.std.specs.Prelude.{nat_le, if◌then◌else◌}
use Rattle.sof_base.specs.Ports.{InputView, OutputView}
use Rattle.stream_law.specs.Past.{Moment, Past, Leads, start}
use Rattle.stream_law.specs.Stands.{Stands, HasRead}
use Rattle.stream_law.proofs.Standing.{Stands-start}
use Rattle.mbox_link.specs.declared.fates.Fate.TheVariants.{Pass}
use Rattle.mbox_link.specs.Calls.{Meaning, Steady, world}
use Rattle.mbox_link.specs.Meetings.{Doing}
use Rattle.mbox_link.proofs.Led.{Steady-by}
use Rattle.tplg_plan.specs.declared.plans.Plan.{Plan}
use Rattle.sof_script.specs.declared.script.Command.{Command}
use Rattle.sof_session.specs.Modes.{Mode, CommandDoneIn, basis_in}
use Rattle.sof_session.specs.SessionView.{SessionView, seat_in}
use Rattle.sof_session.specs.Commands.{Known, CommandResult, is_plan, next}
use Rattle.sof_session.specs.Written.{Basis, Ground, At, Leg, IsLeg, IsRun, came_at, first_at, end_of, moments_of, boots_in, raised, empty_outputs, written_in, written_between}
use Rattle.sof_script.specs.Tasks.{Out, Turn, Task, Begin, Carry}
use Rattle.sof_session.specs.SessionStep.{Calm, StandsAt, CallsBy, known_of}
use Rattle.sof_session.specs.Lives.{Life, Bare, Seated, Carries, Turned, Turns, device_of, with_out, carried_outs}
use Rattle.sof_session.specs.RunOver.{IsAt, EndsAt, TurnedBy, TurnsBy, RunOver}
use Rattle.sof_session.proofs.LinkFates.{Steady-none}
use Rattle.sof_session.proofs.RunBoots.{boots-append}
use Rattle.sof_session.proofs.SameDoings.{then_by, first-same, later-same}
use Rattle.sof_session.proofs.ModeLaws.{ModeLaws}
use Rattle.sof_session.proofs.StepCounts.{Calm-between}

-- these turns carry out these commands
abbrev pub AreCarried : List Command → List Turn → Type 0
AreCarried [] [] = Unit {0}
AreCarried [] (turn ∷ turns) = ⊥
AreCarried (command ∷ commands) [] = ⊥
AreCarried (command ∷ commands) (turn ∷ turns) = (turn.task ≡ Carry command) × AreCarried commands turns

-- what they answer is what all turns answer
carried-all : (commands : List Command) (turns : List Turn) → AreCarried commands turns → carried_outs turns ≡ map (λ (turn : Turn). turn.out) turns
carried-all [] [] carried = refl
carried-all [] (turn ∷ turns) carried = absurd carried
carried-all (command ∷ commands) [] carried = absurd carried
carried-all (command ∷ commands) (turn ∷ turns) carried =
    ap (λ (task : Task). with_out task turn.out (carried_outs turns)) carried.0 ∙ ap (λ (outs : List Out). turn.out ∷ outs) (carried-all commands turns carried.1)

-- the most messages that they send
abbrev pub messages : (Command → ℕ) → List Command → ℕ
messages most [] = 0
messages most (command ∷ commands) = most command + messages most commands

module _ {P S A : Type 0} (means : Meaning P) (mode : Mode P S A) (g : Ground) (laws : ModeLaws means mode g.plan g.heap) where
  -- what a run of the mode is written by
  abbrev pub basis : Basis S A
  basis = basis_in mode g

  -- what is kept at a place is as after a command, and a command's messages have numbers that a link counts
  abbrev pub IsCounted : Command → At S → Type 0
  IsCounted command at = laws.IsKept at.known.kept × (at.known.queue.sent + laws.most command < 2 ^ 64 - 1)

  abbrev pub AreCounted : List Command → At S → List (Leg S) → Type 0
  AreCounted [] old legs = Unit {0}
  AreCounted (command ∷ commands) old [] = Unit {0}
  AreCounted (command ∷ commands) old (leg ∷ legs) = IsCounted command old × AreCounted commands leg.at legs

  -- ---- doings

  module _ (d e : Doing) where
    -- by doings that are one up to its last message, a leg is one
    pub leg-same : (command : Command) (old : At S) (leg : Leg S) → came_at basis d command old ≡ came_at basis e command old → IsLeg basis d command old leg → IsLeg basis e command old leg
    leg-same command old leg same is = record {
      command_is = is.command_is;
      goes = record { known = is.goes.known ∙ ap (λ (c : CommandResult S A). c.known) same; led = subst (λ (c : CommandResult S A). Leads g.whole old.past c.moments leg.at.past) same is.goes.led };
      out_is = is.out_is ∙ ap (λ (c : CommandResult S A). let out : Out = record { answer = c.answer; shown = basis.rules.shown old.known.kept command; written = written_between g.slots old.past leg.at.past } in out) same;
      moments_are = is.moments_are ∙ ap (λ (c : CommandResult S A). c.moments) same;
    }

    -- and by doings that are one at later numbers, a run
    pub run-same : (commands : List Command) (old : At S) (legs : List (Leg S)) → AreCounted commands old legs → ((number : ℕ) → old.known.queue.sent < number → d number ≡ e number) → IsRun basis d commands old legs → IsRun basis e commands old legs
    run-same [] old legs counted same is = is
    run-same (command ∷ commands) old [] counted same is = is
    run-same (command ∷ commands) old (leg ∷ legs) counted same is =
        let one = laws.same old.known d e command counted.0.0 counted.0.1 (λ number low high. same number low) in
        let up = laws.within old.known d command counted.0.0 counted.0.1 in
        let known = ap (λ (k : Known S). k.queue.sent) is.0.goes.known in
        (leg-same command old leg one is.0, run-same commands leg.at legs counted.1 (λ number later. same number (omega (arith, later, up.0, known))) is.1)

pub then-pass : (last : ℕ) (d e : Doing) → ((number : ℕ) → d number ≡ Pass) → ((number : ℕ) → e number ≡ Pass) → (number : ℕ) → then_by last d e number ≡ Pass
then-pass last d e first later number = by (nat_le number last)
  where
    by : (b : Bool) → (if b then d number else e number) ≡ Pass
    by true = first number
    by false = later number

slots-empty : (slots : List ℕ) → map (λ (o : OutputView). o.slot) (empty_outputs slots) ≡ slots
slots-empty [] = refl
slots-empty (slot ∷ slots) = ap (λ xs. slot ∷ xs) (slots-empty slots)

-- ---- legs from a place on

module _ {P S A : Type 0} (means : Meaning P) (mode : Mode P S A) (g : Ground) (laws : ModeLaws means mode g.plan g.heap) where
  abbrev b : Basis S A
  b = basis_in mode g

  -- the legs that turns make from a place, after these moments; the turns met all doings that are these from the place on
  pub record Makes (commands : List Command) (turns : List Turn) (from : Life P) (before : List Moment) (at : At S) (last : Life P) : Type 0 where
    pub doing : Doing
    pub met : (e : Doing) → ((number : ℕ) → at.known.queue.sent < number → e number ≡ doing number) → TurnsBy means e from turns last
    pub none : Calm means (device_of from) (device_of last) → (number : ℕ) → doing number ≡ Pass
    pub legs : List (Leg S)
    pub run : IsRun b doing commands at legs
    pub counted : AreCounted means mode g laws commands at legs
    pub outs : map (λ (leg : Leg S). leg.out) legs ≡ map (λ (turn : Turn). turn.out) turns
    pub ends : EndsAt means mode g last (before ++ moments_of legs) (end_of at legs)
    pub boots : means.boots (device_of last) ≡ raised (boots_in (moments_of legs)) (means.boots (device_of from))
    pub steady : Steady means (device_of from) (device_of last)

  -- none more
  makes-none : (from : Life P) (before : List Moment) (at : At S) (last : Life P) → last ≡ from → EndsAt means mode g last before at → Makes [] [] from before at last
  makes-none from before at last same ends = record {
    doing = λ number. Pass;
    met = λ e after. same;
    none = λ calm number. refl;
    legs = [];
    run = refl;
    counted = tt;
    outs = refl;
    ends = subst (λ (ms : List Moment). EndsAt means mode g last ms at) (sym (append-nil before)) ends;
    boots = ap (λ (l : Life P). means.boots (device_of l)) same;
    steady = Steady-none means (device_of from) (device_of last) (ap device_of same);
  }

  -- one leg, by a session's step
  module _ (seat seat' : SessionView P) (inputs inputs' : List InputView) (slots slots' : List ℕ) (command : Command) (out : Out) (before : List Moment) (at : At S)
      (c : Carries means command out seat seat' inputs inputs' slots) (same : slots' ≡ slots) (is : IsAt means mode g seat inputs slots before at) where
    pub done : (d : CommandDoneIn means mode command seat seat' (world seat.link inputs (empty_outputs slots)) (world seat'.link inputs' c.outputs) out.answer) × (c.stepped.doing ≡ d.done.doing)
    done = laws.stepped command seat seat' (world seat.link inputs (empty_outputs slots)) (world seat'.link inputs' c.outputs) out.answer c.stepped is.mode_is

    abbrev pub doing : Doing
    doing = done.0.done.doing

    to : next (mode.rules seat.plan seat.heap) doing (known_of seat.link (mode.sees seat)) command ≡ came_at b doing command at
    to = λ i. next (mode.rules (is.plan_is i) (is.heap_is i)) doing (is.known_is i) command

    abbrev pub come : CommandResult S A
    come = came_at b doing command at

    abbrev Stood : List Moment → Type 0
    Stood moments = (past' : Past) × Leads g.whole at.past moments past' × StandsAt means g.whole (before ++ moments) past' (world seat'.link inputs' c.outputs)
        × (written_in c.outputs ≡ written_between (map (λ o. o.slot) (empty_outputs slots)) at.past past')

    pub stood : Stood come.moments
    stood = subst (λ (x : CommandResult S A). Stood x.moments) to (done.0.done.stands g.whole before at.past is.stands)

    abbrev pub at' : At S
    at' = record { known = come.known; past = stood.0 }

    abbrev pub leg : Leg S
    leg = record { command = command; out = out; moments = come.moments; at = at' }

    out-is : out ≡ record { answer = come.answer; shown = b.rules.shown at.known.kept command; written = written_between g.slots at.past stood.0 }
    out-is = λ i. record {
      answer = (done.0.done.answer_is ∙ ap (λ (x : CommandResult S A). x.answer) to) i;
      shown = (c.shown ∙ laws.shows command seat is.mode_is ∙ (λ j. (mode.rules (is.plan_is j) (is.heap_is j)).shown (is.known_is j).kept command)) i;
      written = (c.written ∙ stood.3 ∙ ap (λ xs. written_between xs at.past stood.0) (slots-empty slots ∙ is.slots_are)) i;
    }

    pub is-leg : IsLeg b doing command at leg
    is-leg = record { command_is = refl; goes = record { known = refl; led = stood.1 }; out_is = out-is; moments_are = refl }

    pub is-at : IsAt means mode g seat' inputs' slots' (before ++ come.moments) at'
    is-at = record {
      mode_is = done.0.stays;
      plan_is = c.plan_is ∙ is.plan_is;
      heap_is = c.heap_is ∙ is.heap_is;
      slots_are = same ∙ is.slots_are;
      known_is = done.0.done.known_is ∙ ap (λ (x : CommandResult S A). x.known) to;
      stands = stood.2;
    }

    pub is-kept : laws.IsKept at'.known.kept
    is-kept = subst (λ (k : Known S). laws.IsKept k.kept) is-at.known_is (laws.kept seat' c.agrees is-at.mode_is is-at.plan_is)

    -- its calls, over the run's plan and heap
    calls : let r = mode.rules g.plan g.heap in
        CallsBy means r.acts g.heap doing (r.job (mode.sees seat) command) (mode.sees seat') (world seat.link inputs (empty_outputs slots)) (world seat'.link inputs' c.outputs) out.answer (is_plan command) (r.fault (mode.sees seat) command)
    calls = subst (λ (x : Plan × ℕ). let r = mode.rules x.0 x.1 in
        CallsBy means r.acts x.1 doing (r.job (mode.sees seat) command) (mode.sees seat') (world seat.link inputs (empty_outputs slots)) (world seat'.link inputs' c.outputs) out.answer (is_plan command) (r.fault (mode.sees seat) command))
        (λ i. (is.plan_is i, is.heap_is i)) done.0.done.calls

    pub steadily : Steady means seat.link.device seat'.link.device
    steadily = laws.inside (mode.sees seat) (mode.sees seat') (world seat.link inputs (empty_outputs slots)) (world seat'.link inputs' c.outputs) out.answer command doing calls

    pub booted : means.boots seat'.link.device ≡ raised (boots_in come.moments) (means.boots seat.link.device)
    booted =
        laws.boots (mode.sees seat) (mode.sees seat') (world seat.link inputs (empty_outputs slots)) (world seat'.link inputs' c.outputs) out.answer command doing calls
        ∙ ap (λ (k : Known S). raised (boots_in (next (mode.rules g.plan g.heap) doing k command).moments) (means.boots seat.link.device)) is.known_is

    -- a turn by doings that are those of the step at the numbers of its messages
    pub turned-by : (e : Doing) → ((number : ℕ) → at.known.queue.sent < number → number ≤ come.known.queue.sent → e number ≡ doing number) → (task : Task) → task ≡ Carry command → TurnedBy means e task out (Seated seat inputs slots) (Seated seat' inputs' slots')
    turned-by e met task is_task =
        let first : seat.link.sent ≡ at.known.queue.sent = ap (λ (k : Known S). k.queue.sent) is.known_is in
        let later : seat'.link.sent ≡ come.known.queue.sent = ap (λ (k : Known S). k.queue.sent) is-at.known_is in
        subst (λ (t : Task). TurnedBy means e t out (Seated seat inputs slots) (Seated seat' inputs' slots')) (sym is_task)
        (same, (c, λ number low high. met number (subst (λ (n : ℕ). n < number) first low) (subst (λ (n : ℕ). number ≤ n) later high) ∙ sym (ap (λ (x : Doing). x number) done.1)))

    -- and those after it
    module _ (commands : List Command) (turn : Turn) (turns : List Turn) (last : Life P) (counted : IsCounted means mode g laws command at) (is_task : turn.task ≡ Carry command) (out_is : turn.out ≡ out)
        (rest : Makes commands turns (Seated seat' inputs' slots') (before ++ come.moments) at' last) where
      abbrev joined : Doing
      joined = then_by come.known.queue.sent doing rest.doing

      met-more : (e : Doing) → ((number : ℕ) → at.known.queue.sent < number → e number ≡ joined number) → TurnsBy means e (Seated seat inputs slots) (turn ∷ turns) last
      met-more e after =
          let up = laws.within at.known doing command counted.0 counted.1 in (
            Seated seat' inputs' slots',
            subst (λ (o : Out). TurnedBy means e turn.task o (Seated seat inputs slots) (Seated seat' inputs' slots')) (sym out_is)
                (turned-by e (λ number low high. after number low ∙ first-same come.known.queue.sent doing rest.doing number high) turn.task is_task),
            rest.met e (λ number later. after number (omega (arith, later, up.0)) ∙ later-same come.known.queue.sent doing rest.doing number later),
          )

      makes-more : Makes (command ∷ commands) (turn ∷ turns) (Seated seat inputs slots) before at last
      makes-more = record {
        doing = joined;
        met = met-more;
        none = λ calm. then-pass come.known.queue.sent doing rest.doing
            (done.0.done.none (Calm-between means seat.link.device seat.link.device seat'.link.device (device_of last) (Steady-none means seat.link.device seat.link.device refl) rest.steady calm))
            (rest.none (Calm-between means seat.link.device seat'.link.device (device_of last) (device_of last) steadily (Steady-none means (device_of last) (device_of last) refl) calm));
        legs = leg ∷ rest.legs;
        run = (
          leg-same means mode g laws doing joined command at leg
              (laws.same at.known doing joined command counted.0 counted.1 (λ number low high. sym (first-same come.known.queue.sent doing rest.doing number high)))
              is-leg,
          run-same means mode g laws rest.doing joined commands at' rest.legs rest.counted (λ number later. sym (later-same come.known.queue.sent doing rest.doing number later)) rest.run,
        );
        counted = (counted, rest.counted);
        outs = λ i. sym out_is i ∷ rest.outs i;
        ends = subst (λ (ms : List Moment). EndsAt means mode g last ms (end_of at' rest.legs)) (append_assoc before come.moments (moments_of rest.legs)) rest.ends;
        boots = rest.boots ∙ ap (raised (boots_in (moments_of rest.legs))) booted ∙ sym (boots-append come.moments (moments_of rest.legs) (means.boots seat.link.device));
        steady = Steady-by means seat.link.device seat'.link.device (device_of last) steadily rest.steady;
      }

  -- all of them
  makes : (commands : List Command) (turns : List Turn) (seat : SessionView P) (inputs : List InputView) (slots : List ℕ) (before : List Moment) (at : At S) (last : Life P) →
      AreCarried commands turns → at.known.queue.sent + messages laws.most commands < 2 ^ 63 → laws.IsKept at.known.kept →
      IsAt means mode g seat inputs slots before at → Turns means (Seated seat inputs slots) turns last → Makes commands turns (Seated seat inputs slots) before at last
  makes [] [] seat inputs slots before at last carried counted kept is turned =
      makes-none (Seated seat inputs slots) before at last turned (subst (λ (l : Life P). EndsAt means mode g l before at) (sym turned) is)
  makes [] (turn ∷ turns) seat inputs slots before at last carried counted kept is turned = absurd carried
  makes (command ∷ commands) [] seat inputs slots before at last carried counted kept is turned = absurd carried
  makes (command ∷ commands) (turn ∷ turns) seat inputs slots before at last carried counted kept is turned =
      (elim turned.0 as (λ (m : Life P). Turned means (Carry command) turn.out (Seated seat inputs slots) m → Turns means m turns last → Makes (command ∷ commands) (turn ∷ turns) (Seated seat inputs slots) before at last) [
        | Bare dsp ↦ λ step rest. absurd step
        | Seated seat' inputs' slots' ↦ λ step rest.
            let here : IsCounted means mode g laws command at = (kept, omega (arith, counted)) in
            let within = laws.within at.known (doing seat seat' inputs inputs' slots slots' command turn.out before at step.1 step.0 is) command here.0 here.1 in
            makes-more seat seat' inputs inputs' slots slots' command turn.out before at step.1 step.0 is commands turn turns last here carried.0 refl
            (makes commands turns seat' inputs' slots' (before ++ (come seat seat' inputs inputs' slots slots' command turn.out before at step.1 step.0 is).moments)
            (at' seat seat' inputs inputs' slots slots' command turn.out before at step.1 step.0 is) last carried.1 (omega (arith, counted, within.1))
            (is-kept seat seat' inputs inputs' slots slots' command turn.out before at step.1 step.0 is)
            (is-at seat seat' inputs inputs' slots slots' command turn.out before at step.1 step.0 is) rest)
      ]) (subst (λ (task : Task). Turned means task turn.out (Seated seat inputs slots) turned.0) carried.0 turned.1) turned.2

  -- ---- from the beginning

  pub run-over : (inputs : List InputView) (p : P) (commands : List Command) (begins : Turn) (turns : List Turn) (last : Life P) → means.on p ≡ None → HasRead g.whole inputs start →
      begins.task ≡ Begin mode.on_use g.plan g.heap inputs g.slots → AreCarried commands turns → messages laws.most commands < 2 ^ 63 → Turns means (Bare p) (begins ∷ turns) last →
      (legs : List (Leg S)) × RunOver means mode g commands legs p (begins ∷ turns) last × (map (λ (leg : Leg S). leg.out) legs ≡ map (λ (turn : Turn). turn.out) turns)
  run-over inputs p commands begins turns last off read is_begin carried counted turned =
      let seat = seat_in mode.on_use g.plan g.heap p in
      let begun : turned.0 ≡ Seated seat inputs g.slots = subst (λ (task : Task). Turned means task begins.out (Bare p) turned.0) is_begin turned.1 in
      let first = Stands-start g.whole inputs read in
      let is : IsAt means mode g seat inputs g.slots [] (first_at b) = record {
        mode_is = laws.begins p;
        plan_is = refl;
        heap_is = refl;
        slots_are = refl;
        known_is = ap (λ (kept : S). known_of seat.link kept) (laws.sees_first p off);
        stands = subst (λ o. (stands : Stands o g.whole inputs []) × (stands.past ≡ start)) (sym off) (first, sym first.led);
      } in
      let m = makes commands turns seat inputs g.slots [] (first_at b) last carried (omega (arith, counted)) laws.first is
      (subst (λ (l : Life P). Turns means l turns last) begun turned.2) in
      let by : TurnedBy means m.doing begins.task begins.out (Bare p) turned.0 =
      subst (λ (task : Task). TurnedBy means m.doing task begins.out (Bare p) turned.0) (sym is_begin) (subst (λ (task : Task). Turned means task begins.out (Bare p) turned.0) is_begin turned.1) in (
        m.legs,
        record {
          doing = m.doing;
          met = (turned.0, by, subst (λ (l : Life P). TurnsBy means m.doing l turns last) (sym begun) (m.met m.doing (λ number after. refl)));
          outs = m.outs ∙ sym (ap (λ (task : Task). with_out task begins.out (carried_outs turns)) is_begin ∙ carried-all commands turns carried);
          none = m.none;
          run = m.run;
          ends = m.ends;
          boots = m.boots;
        },
        m.outs,
      )
