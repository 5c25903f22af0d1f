-- Turns of a session, one after another, and what is counted of them.
use Rattle.std.proofs.Common.{◌≡◌, ℕ, suc, ◌+◌, ◌-◌, ◌*◌, ◌<◌, ◌≤◌, true, false, List, [], ◌∷◌, ◌++◌, map, length, length-append, refl, sym, ◌∙◌, ap, subst, append_assoc, arith, eq-eqb, Some}
use Rattle.std.proofs.lemmas.List.{append-nil}
use Rattle.std.specs.List.{slice_get}
use Rattle.sof_base.specs.Ports.{InputView, OutputView, HasRoom}
use Rattle.sof_base.specs.DrainedOutputs.{drained}
use Rattle.sof_io.specs.Bound.{output_slots}
use Rattle.mbox_link.specs.Calls.{Meaning, world}
use Rattle.host_widgets.specs.declared.answers.Answer.{Answer}
use Rattle.sof_script.specs.declared.script.Command.{Command}
use Rattle.sof_session.specs.Agreement.{AreAgreed}
use Rattle.sof_session.specs.Fills.{input_ends}
use Rattle.sof_session.specs.SessionView.{SessionView}
use Rattle.sof_session.specs.Modes.{SteppedBy, shown_in}
use Rattle.sof_script.specs.Tasks.{Out, Turn, Carry}
use Rattle.sof_session.specs.Written.{with_bytes, written_in}
use Rattle.sof_session.specs.Lives.{Life, Seated, Turned}
use Rattle.sof_session.proofs.Writings.{empty-outputs}
use Rattle.sof_stress.specs.declared.counts.Counts.{Counts}
use Rattle.sof_stress.specs.CommandTurns.{CommandTurn, bytes_to, command_turns, turns_of, no_counts, turn_counted, all_counted}
use Rattle.sof_stress.specs.CarriedTurns.{turns_after, CarriedOut, AreCountsOf, CarriesOn, CarriedFirst, CommandsCarried, IsUnderWay}

-- a session's step is a turn
pub carries-on : {P : Type 0} (means : Meaning P) (command : Command) (seat seat' : SessionView P) (inputs inputs' : List InputView) (outputs outputs' : List OutputView) (answer : Answer) →
    drained outputs ≡ outputs → SteppedBy means command seat seat' (world seat.link inputs outputs) (world seat'.link inputs' outputs') answer → seat'.plan ≡ seat.plan → seat'.heap ≡ seat.heap → AreAgreed means seat' → input_ends inputs' ≡ input_ends inputs →
    Turned means (Carry command) (record { answer = answer; shown = shown_in command seat.up seat.plan seat.kept; written = written_in outputs' }) (Seated seat inputs (output_slots outputs)) (Seated seat' inputs' (output_slots outputs))
carries-on means command seat seat' inputs inputs' outputs outputs' answer empty stepped plan heap agreed ends = (
  refl,
  record {
    outputs = outputs';
    stepped = subst (λ (xs : List OutputView). SteppedBy means command seat seat' (world seat.link inputs xs) (world seat'.link inputs' outputs') answer) (sym (empty-outputs outputs empty)) stepped;
    shown = refl;
    written = refl;
    ends = ends;
    plan_is = plan;
    heap_is = heap;
    agrees = agreed;
  },
)

-- ---- one output

bytes-of-one : (slot : ℕ) (bytes : List ℕ) → bytes_to slot (with_bytes slot bytes []) ≡ length bytes
bytes-of-one slot [] = refl
bytes-of-one slot (b ∷ bs) = rw (eq-eqb slot slot refl) (omega arith)

-- what the only output holds
pub one-held : (outputs : List OutputView) (slot : ℕ) (held : OutputView) → output_slots outputs ≡ slot ∷ [] → slice_get outputs 0 ≡ Some held → HasRoom 0 outputs → (length held.bytes ≡ bytes_to slot (written_in outputs)) × (length held.bytes ≤ 1048576)
one-held [] slot held is there room = absurd (cc is)
one-held (o ∷ other ∷ os) slot held is there room = absurd (cc is)
one-held (o ∷ []) slot held is there room =
    let same : o ≡ held = cc there in
    let slots : o.slot ≡ slot = cc is in
    let turn_counted : length o.bytes ≡ bytes_to slot (with_bytes o.slot o.bytes []) = subst (λ s. length o.bytes ≡ bytes_to slot (with_bytes s o.bytes [])) (sym slots) (sym (bytes-of-one slot o.bytes)) in
    let most : length o.bytes ≤ 1048576 = omega (arith, room.0) in
    subst (λ (h : OutputView). (length h.bytes ≡ bytes_to slot (with_bytes o.slot o.bytes [])) × (length h.bytes ≤ 1048576)) same (turn_counted, most)

-- ---- commands

-- the counts of some turns are those of more
pub counts-mono : (m n : ℕ) (counts : Counts) → m ≤ n → AreCountsOf m counts → AreCountsOf n counts
counts-mono m n counts le are = record {
  messages = are.messages;
  ticks = omega (arith, are.ticks, le);
  done = omega (arith, are.done, le);
  refused = omega (arith, are.refused, le);
  bytes = omega (arith, are.bytes, le);
}

-- the turns of commands and of others after them
turns-append : (xs ys : List Command) (rest : List CommandTurn) → turns_of (xs ++ ys) ++ rest ≡ turns_of xs ++ (turns_of ys ++ rest)
turns-append [] ys rest = refl
turns-append (x ∷ xs) ys rest =
    append_assoc (command_turns x) (turns_of (xs ++ ys)) rest
    ∙ ap (λ ts. command_turns x ++ ts) (turns-append xs ys rest)
    ∙ sym (append_assoc (command_turns x) (turns_of xs) (turns_of ys ++ rest))

-- before the first command
pub first-under-way : {P : Type 0} (slot : ℕ) (seat : SessionView P) (outputs : List OutputView) (counts : Counts) → seat.link.sent ≡ 0 → output_slots outputs ≡ slot ∷ [] → drained outputs ≡ outputs → counts ≡ no_counts → IsUnderWay slot 0 seat outputs counts
first-under-way slot seat outputs counts sent slots empty none = record {
  sent = omega (arith, sent);
  slots = slots;
  empty = empty;
  counted = subst (λ (c : Counts). AreCountsOf 0 c) (sym none) (record { messages = refl; ticks = omega arith; done = omega arith; refused = omega arith; bytes = omega arith });
}

module _ {P : Type 0} (means : Meaning P) (slot : ℕ) where
  -- one turn
  pub one-first : (turn : CommandTurn) (out : Out) (old new : Life P) (before after : Counts) → Turned means (Carry turn.command) out old new → after ≡ turn_counted slot turn out before → CarriedFirst means slot (turn ∷ []) old before new after
  one-first turn out old new before after turned counts rest end last done = record {
    turns = record { task = Carry turn.command; out = out } ∷ done.turns;
    turned = (new, turned, done.turned);
    tasks = ap (λ ts. Carry turn.command ∷ ts) done.tasks;
    counts = done.counts ∙ ap (λ c. all_counted slot rest (map (λ (t : Turn). t.out) done.turns) c) counts;
  }

  -- none
  pub none-carried : (life : Life P) (counts : Counts) → CarriedOut means slot [] life counts life counts
  none-carried life counts = record { turns = []; turned = refl; tasks = refl; counts = refl }

  -- the turns of a command: one more before its last
  module _ (command : Command) (n i : ℕ) (old m new : Life P) (before mid after : Counts) where
    abbrev Left : ℕ → Life P → Counts → Type 0
    Left k life counts = (rest : List CommandTurn) → CarriesOn means slot (turns_after n command ++ rest) (turns_after k command ++ rest) old before life counts

    pub turns-on : i < n → Left (n - i) m mid → CarriedFirst means slot (record { command = command; last = false } ∷ []) m mid new after → Left (n - (i + 1)) new after
    turns-on below so_far here rest end last done =
        let more : n - i ≡ suc (n - (i + 1)) = omega (arith, below) in
        let left : CarriesOn means slot (turns_after n command ++ rest) (turns_after (suc (n - (i + 1))) command ++ rest) old before m mid = subst (λ k. CarriesOn means slot (turns_after n command ++ rest) (turns_after k command ++ rest) old before m mid) more (so_far rest) in
        left end last (here (turns_after (n - (i + 1)) command ++ rest) end last done)

    pub turns-last : n ≤ i → Left (n - i) m mid → CarriedFirst means slot (record { command = command; last = true } ∷ []) m mid new after → CarriedFirst means slot (turns_after n command) old before new after
    turns-last past so_far here rest end last done =
        let none : n - i ≡ 0 = omega (arith, past) in
        let left : CarriesOn means slot (turns_after n command ++ rest) (turns_after 0 command ++ rest) old before m mid = subst (λ k. CarriesOn means slot (turns_after n command ++ rest) (turns_after k command ++ rest) old before m mid) none (so_far rest) in
        left end last (here rest end last done)

  -- ---- many commands

  -- none yet
  pub none-yet : (seat : SessionView P) (inputs : List InputView) (outputs : List OutputView) (counts : Counts) → drained outputs ≡ outputs → CommandsCarried means slot [] seat inputs outputs counts seat inputs outputs counts
  none-yet seat inputs outputs counts empty = record {
    carried = λ rest end last done. done;
    sent = omega arith;
    slots = refl;
    empty = empty;
    counted = λ n are. counts-mono n (n + 10 * 0) counts (omega arith) are;
  }

  module _ {seat seat' : SessionView P} {inputs inputs' : List InputView} {outputs outputs' : List OutputView} {counts counts' : Counts} where
    -- one
    pub one-carried : (made command : Command) → made ≡ command →
        CarriedFirst means slot (command_turns made) (Seated seat inputs (output_slots outputs)) counts (Seated seat' inputs' (output_slots outputs')) counts' → seat'.link.sent ≤ seat.link.sent + 12000 →
        output_slots outputs' ≡ output_slots outputs → drained outputs' ≡ outputs' → ((n : ℕ) → AreCountsOf n counts → AreCountsOf (n + 10) counts') →
        CommandsCarried means slot (command ∷ []) seat inputs outputs counts seat' inputs' outputs' counts'
    one-carried made command is carried sent slots empty turn_counted = record {
      carried = subst (λ (ts : List CommandTurn). CarriedFirst means slot ts (Seated seat inputs (output_slots outputs)) counts (Seated seat' inputs' (output_slots outputs')) counts') (ap command_turns is ∙ sym (append-nil (command_turns command))) carried;
      sent = omega (arith, sent);
      slots = slots;
      empty = empty;
      counted = λ n are. counts-mono (n + 10) (n + 10 * 1) counts' (omega arith) (turn_counted n are);
    }

    -- what stands after them
    pub stays-under-way : (commands : List Command) (n m : ℕ) → n + length commands ≤ m → IsUnderWay slot n seat outputs counts → CommandsCarried means slot commands seat inputs outputs counts seat' inputs' outputs' counts' → IsUnderWay slot m seat' outputs' counts'
    stays-under-way commands n m within before here = record {
      sent = omega (arith, within, before.sent, here.sent);
      slots = here.slots ∙ before.slots;
      empty = here.empty;
      counted = counts-mono (10 * n + 10 * length commands) (10 * m) counts' (omega (arith, within)) (here.counted (10 * n) before.counted);
    }

    -- others after them
    pub and-then : (first second : List Command) {seat'' : SessionView P} {inputs'' : List InputView} {outputs'' : List OutputView} {counts'' : Counts} →
        CommandsCarried means slot first seat inputs outputs counts seat' inputs' outputs' counts' → CommandsCarried means slot second seat' inputs' outputs' counts' seat'' inputs'' outputs'' counts'' → CommandsCarried means slot (first ++ second) seat inputs outputs counts seat'' inputs'' outputs'' counts''
    and-then first second {seat''} {inputs''} {outputs''} {counts''} here there = record {
      carried = λ rest end last done.
          subst (λ (ts : List CommandTurn). CarriedOut means slot ts (Seated seat inputs (output_slots outputs)) counts end last) (sym (turns-append first second rest))
          (here.carried (turns_of second ++ rest) end last (there.carried rest end last done));
      sent = omega (arith, here.sent, there.sent, length-append first second);
      slots = there.slots ∙ here.slots;
      empty = there.empty;
      counted = λ n are.
          counts-mono (n + 10 * length first + 10 * length second) (n + 10 * length (first ++ second)) counts'' (omega (arith, length-append first second))
          (there.counted (n + 10 * length first) (here.counted n are));
    }

    -- all that there are
    pub all-carried : (commands : List Command) → CommandsCarried means slot commands seat inputs outputs counts seat' inputs' outputs' counts' →
        CarriedOut means slot (turns_of commands) (Seated seat inputs (output_slots outputs)) counts (Seated seat' inputs' (output_slots outputs')) counts'
    all-carried commands here =
        subst (λ (ts : List CommandTurn). CarriedOut means slot ts (Seated seat inputs (output_slots outputs)) counts (Seated seat' inputs' (output_slots outputs')) counts') (append-nil (turns_of commands))
        (here.carried [] (Seated seat' inputs' (output_slots outputs')) counts' (none-carried (Seated seat' inputs' (output_slots outputs')) counts'))
