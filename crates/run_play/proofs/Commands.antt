-- The commands and their lines, one after another.
use Rattle.std.proofs.Common.{◌≡◌, ◌⊎◌, inl, inr, ℕ, suc, ◌≤◌, ◌+◌, ◌-◌, ◌<◌, Bool, true, false, List, [], ◌∷◌, ◌++◌, length, drop, get_or, Option, Some, None, MatchOption, refl, sym, ◌∙◌, ap, subst, arith}
use Rattle.std.specs.Prelude.{is_some, unwrap_or}
use Rattle.std.specs.List.{slice_get}
use Rattle.std.proofs.lemmas.Bool.{true≢false, false≢true}
use Rattle.std.proofs.lemmas.List.{drop_more, drop_all}
use Rattle.std.proofs.lemmas.Option.{slice_get_within, get_or_from_slice_get, slice_get_cases}
use Rattle.sof_desk.specs.Desk.{DeskMeaning, Put, Spoken, Acted}
use Rattle.host_widgets.specs.declared.answers.Answer.{Answer}
use Rattle.sof_base.specs.Ports.{InputView, OutputView}
use Rattle.sof_base.specs.DrainedOutputs.{drained}
use Rattle.sof_io.specs.Bound.{output_slots}
use Rattle.mbox_link.specs.Calls.{Meaning, World, world}
use Rattle.mbox_link.specs.Wire.{Wire}
use Rattle.mbox_link.specs.Drained.{Drained}
use Rattle.sof_script.specs.declared.script.Command.{Command}
use Rattle.sof_script.specs.declared.script.Command.TheVariants as commands
use Rattle.sof_script.specs.declared.script.Numbered.{Numbered}
use Rattle.host_widgets.specs.declared.kept.Record.{Record}
use Rattle.host_widgets.specs.UpState.{UpState}
use Rattle.tplg_plan.specs.declared.plans.Plan.{Plan}
use Rattle.sof_session.specs.Commands.{Known, command_rules}
use Rattle.sof_session.specs.Agreement.{AreAgreed}
use Rattle.sof_session.specs.SessionView.{SessionView, with_device}
use Rattle.sof_session.specs.SessionStep.{CommandDone}
use Rattle.sof_session.specs.Modes.{SteppedBy, DoneWith, up_state_of, lines_in, shown_in}
use Rattle.sof_session.specs.UpCommands.{up_rules}
use Rattle.sof_session.specs.ShownLines.{IsLineAt}
use Rattle.sof_session.specs.Fills.{input_ends}
use Rattle.sof_script.specs.Tasks.{Out, Written, Turn, Turning, Carry}
use Rattle.sof_session.specs.Written.{with_bytes, written_in}
use Rattle.sof_session.proofs.Writings.{empty-outputs}
use Rattle.sof_session.specs.Lives.{Life, Seated, Turned}
use Rattle.run_play.specs.Keeping.{trace_slot}
use Rattle.run_play.specs.KeptTurns.{KeptTurn}
use Rattle.run_desk.specs.Todo as todo
use Rattle.run_desk.specs.Todo.{Todo, Refill, Played, DeskPhase, LeadsOn, PhaseFails, Phase}
use Rattle.run_play.specs.Rounds.{Round, command_rounds, rounds_of}
use Rattle.run_desk.specs.Lines.{with_newline}
use Rattle.run_play.specs.Pieces.{lines_after}
use Rattle.run_play.specs.LineParts.{is_show}
use Rattle.run_play.specs.Play.{flush_todo, unit_todo, round_todo, rounds_todo, commands_todo, rounds_after}
use Rattle.run_desk.specs.LinesTodo.{lines_todo}
use Rattle.run_desk.proofs.Steps.{do_on, do_off, step_on, beside, beside_failed}

-- what the answer says of the list
found : (o : Option (List ℕ)) (line : List ℕ) → MatchOption o (true ≡ false) (λ text. (true ≡ true) × (line ≡ text)) → o ≡ Some line
found None line is = absurd (cc is)
found (Some text) line is = ap Some (sym is.1)

missing : (o : Option (List ℕ)) (line : List ℕ) → MatchOption o (false ≡ false) (λ text. (false ≡ true) × (line ≡ text)) → o ≡ None
missing None line is = refl
missing (Some text) line is = absurd (cc is.0)

-- where a line is, the lines from there on
line_at : (lines : List (List ℕ)) (k : ℕ) (line : List ℕ) → IsLineAt lines k true line → drop k lines ≡ line ∷ drop (k + 1) lines
line_at lines k line is =
    let there : slice_get lines k ≡ Some line = found (slice_get lines k) line is in
    drop_more lines k [] (slice_get_within lines k line there) ∙ ap (λ x. x ∷ drop (k + 1) lines) (get_or_from_slice_get lines k line [] there)

-- no line is there: all lines are before
past_by : (lines : List (List ℕ)) (k : ℕ) → ((x : List ℕ) × (k < length lines) × (slice_get lines k ≡ Some x) × (get_or lines k x ≡ x)) ⊎ ((length lines ≤ k) × (slice_get lines k ≡ None)) → slice_get lines k ≡ None → length lines ≤ k
past_by lines k (inl there) none = absurd (cc (sym none ∙ there.2))
past_by lines k (inr past) none = past.0

past : (lines : List (List ℕ)) (k : ℕ) (line : List ℕ) → IsLineAt lines k false line → length lines ≤ k
past lines k line is = past_by lines k (slice_get_cases lines k).1 (missing (slice_get lines k) line is)

module _ {D : Type 0} (means : DeskMeaning D) where
  -- no line
  pub none_said : (old : D) → DeskPhase means (lines_todo []) true old old
  none_said old = λ rest turns status end played. played

  -- a line that was not said
  pub line_failed : (line : List ℕ) (lines : List (List ℕ)) (old new : D) → Acted means (Put Spoken (with_newline line)) false old new → DeskPhase means (lines_todo (line ∷ lines)) false old new
  line_failed line lines old new acted = λ rest. do_off means (Put Spoken (with_newline line)) (lines_todo lines rest) old new acted

  -- a line that was said, and then the others
  pub line_said : (line : List ℕ) (lines : List (List ℕ)) (done : Bool) (old m new : D) → Acted means (Put Spoken (with_newline line)) true old m → DeskPhase means (lines_todo lines) done m new → DeskPhase means (lines_todo (line ∷ lines)) done old new
  line_said line lines true old m new acted phase = λ rest turns status end played.
      do_on means (Put Spoken (with_newline line)) (lines_todo lines rest) turns status old m end acted (phase rest turns status end played)
  line_said line lines false old m new acted phase = λ rest.
      do_on means (Put Spoken (with_newline line)) (lines_todo lines rest) [] 3 old m new acted (phase rest)

  -- what is left on the right, said, makes the whole on the left said
  abbrev pub Leads : (whole left : List (List ℕ)) → D → D → Type 0
  Leads whole left old new = (rest : Todo) (turns : List Turn) (status : ℕ) (end : D) → Played means (lines_todo left rest) new turns status end → Played means (lines_todo whole rest) old turns status end

  -- a line more
  pub leads_on : (lines : List (List ℕ)) (k : ℕ) (line : List ℕ) (old m new : D) → IsLineAt lines k true line → Leads lines (drop k lines) old m → Acted means (Put Spoken (with_newline line)) true m new → Leads lines (drop (k + 1) lines) old new
  leads_on lines k line old m new is so_far acted = λ rest turns status end played.
      so_far rest turns status end (subst (λ xs. Played means (lines_todo xs rest) m turns status end) (sym (line_at lines k line is)) (do_on means (Put Spoken (with_newline line)) (lines_todo (drop (k + 1) lines) rest) turns status m new end acted played))

  pub leads_off : (lines : List (List ℕ)) (k : ℕ) (line : List ℕ) (old m new : D) → IsLineAt lines k true line → Leads lines (drop k lines) old m → Acted means (Put Spoken (with_newline line)) false m new → DeskPhase means (lines_todo lines) false old new
  leads_off lines k line old m new is so_far acted = λ rest.
      so_far rest [] 3 new (subst (λ xs. Played means (lines_todo xs rest) m [] 3 new) (sym (line_at lines k line is)) (do_off means (Put Spoken (with_newline line)) (lines_todo (drop (k + 1) lines) rest) m new acted))

  -- past the last line
  pub leads_all : (lines : List (List ℕ)) (k : ℕ) (line : List ℕ) (old new : D) → IsLineAt lines k false line → Leads lines (drop k lines) old new → DeskPhase means (lines_todo lines) true old new
  leads_all lines k line old new is so_far = λ rest turns status end played.
      so_far rest turns status end (subst (λ xs. Played means (lines_todo xs rest) new turns status end) (sym (drop_all k lines (past lines k line is))) played)

  -- what a command shows: nothing, or how everything stands
  module _ (up : Option (List ℕ)) (plan : Plan) (kept : Record) where
    pub shown_none : (command : Command) (old : D) → is_show command ≡ false → DeskPhase means (lines_todo (shown_in command up plan kept)) true old old
    shown_none commands.Show old is = absurd (cc is)
    shown_none command old is = none_said old

    pub shown_all : (command : Command) (done : Bool) (old new : D) → is_show command ≡ true → DeskPhase means (lines_todo (lines_in up plan kept)) done old new → DeskPhase means (lines_todo (shown_in command up plan kept)) done old new
    shown_all commands.Show done old new is phase = phase
    shown_all command done old new is phase = absurd (cc is)

  module _ {L : Type 0} (by : Turning L) where
    -- ---- one unit

    module _ (round : Round) (answer : Answer) (shown : List (List ℕ)) (written : List Written) where
      abbrev out : Out
      out = record { answer = answer; shown = shown; written = written }

      abbrev lines : List (List ℕ)
      lines = lines_after round out

      abbrev after : Todo → Out → Todo
      after rest out = flush_todo out.written (lines_todo (lines_after round out) rest)

      -- a turn, the bytes, and the lines
      pub round_said : (done : Bool) (old m new : D) (p q : L) → by (Carry round.numbered.command) out p q → DeskPhase means (flush_todo written) true old m → DeskPhase means (lines_todo lines) done m new → Phase means by (unit_todo round) done old p new q
      round_said true old m new p q turned flushed said = λ rest status end r ran.
          step_on means by (record { task = Carry round.numbered.command; out = out }) (after rest) status old end p q r turned
          (beside means by (flush_todo written) old m q flushed (lines_todo lines rest) status end r (beside means by (lines_todo lines) m new q said rest status end r ran))
      round_said false old m new p q turned flushed said = λ rest.
          step_on means by (record { task = Carry round.numbered.command; out = out }) (after rest) 3 old new p q q turned
          (beside means by (flush_todo written) old m q flushed (lines_todo lines rest) 3 new q (beside_failed means by (lines_todo lines) m new q said rest))

      -- the bytes were not all appended
      pub round_cut : (old new : D) (p q : L) → by (Carry round.numbered.command) out p q → DeskPhase means (flush_todo written) false old new → Phase means by (unit_todo round) false old p new q
      round_cut old new p q turned failed = λ rest.
          step_on means by (record { task = Carry round.numbered.command; out = out }) (after rest) 3 old new p q q turned
          (beside_failed means by (flush_todo written) old new q failed (lines_todo lines rest))

    -- one that is not the last of its command has no lines
    pub earlier_said : (numbered : Numbered) (answer : Answer) (shown : List (List ℕ)) (written : List Written) (done : Bool) (old new : D) (p q : L) →
        by (Carry numbered.command) (record { answer = answer; shown = shown; written = written }) p q → DeskPhase means (flush_todo written) done old new →
        Phase means by (unit_todo (record { numbered = numbered; last = false })) done old p new q
    earlier_said numbered answer shown written true old new p q turned flushed = round_said (record { numbered = numbered; last = false }) answer shown written true old new new p q turned flushed (none_said new)
    earlier_said numbered answer shown written false old new p q turned failed = round_cut (record { numbered = numbered; last = false }) answer shown written old new p q turned failed

    -- ---- the inputs are filled first

    module _ (round : Round) (old m new : D) (p r q : L) where
      pub round_on : (done : Bool) → Phase means by Refill true old p m r → Phase means by (unit_todo round) done m r new q → Phase means by (round_todo round) done old p new q
      round_on true filled unit = λ rest status end t ran. filled (unit_todo round rest) status end t (unit rest status end t ran)
      round_on false filled unit = λ rest. filled (unit_todo round rest) 3 new q (unit rest)

    pub round_unfilled : (round : Round) (old new : D) (p q : L) → Phase means by Refill false old p new q → Phase means by (round_todo round) false old p new q
    round_unfilled round old new p q failed = λ rest. failed (unit_todo round rest)

    -- ---- the units of a command

    left : (n i : ℕ) → i < n → n - i ≡ suc (n - (i + 1))
    left n i within = omega (arith, within)

    module _ (numbered : Numbered) (n i : ℕ) (old m new : D) (p r q : L) (so_far : LeadsOn means by (rounds_todo (rounds_after n numbered)) (rounds_todo (rounds_after (n - i) numbered)) old p m r) where
      -- one that is not the last
      pub rounds_on : i < n → LeadsOn means by (round_todo (record { numbered = numbered; last = false })) (λ rest. rest) m r new q → LeadsOn means by (rounds_todo (rounds_after n numbered)) (rounds_todo (rounds_after (n - (i + 1)) numbered)) old p new q
      rounds_on within done = λ rest status end t ran.
          so_far rest status end t (subst (λ k. todo.RanOn means by (rounds_todo (rounds_after k numbered) rest) m r status end t) (sym (left n i within)) (done (rounds_todo (rounds_after (n - (i + 1)) numbered) rest) status end t ran))

      pub rounds_off : i < n → PhaseFails means by (round_todo (record { numbered = numbered; last = false })) m r new q → PhaseFails means by (rounds_todo (rounds_after n numbered)) old p new q
      rounds_off within failed = λ rest.
          so_far rest 3 new q (subst (λ k. todo.RanOn means by (rounds_todo (rounds_after k numbered) rest) m r 3 new q) (sym (left n i within)) (failed (rounds_todo (rounds_after (n - (i + 1)) numbered) rest)))

      -- the last
      pub rounds_last : (done : Bool) → n ≤ i → Phase means by (round_todo (record { numbered = numbered; last = true })) done m r new q → Phase means by (rounds_todo (rounds_after n numbered)) done old p new q
      rounds_last true past phase = λ rest status end t ran.
          so_far rest status end t (subst (λ k. todo.RanOn means by (rounds_todo (rounds_after k numbered) rest) m r status end t) (sym (none n i past)) (phase rest status end t ran))
        where
          none : (n i : ℕ) → n ≤ i → n - i ≡ 0
          none n i past = omega (arith, past)
      rounds_last false past phase = λ rest.
          so_far rest 3 new q (subst (λ k. todo.RanOn means by (rounds_todo (rounds_after k numbered) rest) m r 3 new q) (sym (none n i past)) (phase rest))
        where
          none : (n i : ℕ) → n ≤ i → n - i ≡ 0
          none n i past = omega (arith, past)

    -- ---- the commands

    rounds_append : (a b : List Round) (rest : Todo) → rounds_todo (a ++ b) rest ≡ rounds_todo a (rounds_todo b rest)
    rounds_append [] b rest = refl
    rounds_append (round ∷ a) b rest = ap (round_todo round) (rounds_append a b rest)

    module _ (script : List Numbered) (i : ℕ) (other : Numbered) (old m new : D) (p r q : L) (within : i < length script) (so_far : LeadsOn means by (commands_todo script) (commands_todo (drop i script)) old p m r) where
      here : (rest : Todo) → commands_todo (drop i script) rest ≡ rounds_todo (command_rounds (get_or script i other)) (commands_todo (drop (i + 1) script) rest)
      here rest = ap (λ cs. commands_todo cs rest) (drop_more script i other within) ∙ rounds_append (command_rounds (get_or script i other)) (rounds_of (drop (i + 1) script)) rest

      -- a command more
      pub commands_on : LeadsOn means by (rounds_todo (command_rounds (get_or script i other))) (λ rest. rest) m r new q → LeadsOn means by (commands_todo script) (commands_todo (drop (i + 1) script)) old p new q
      commands_on done = λ rest status end t ran.
          so_far rest status end t (subst (λ x. todo.RanOn means by x m r status end t) (sym (here rest)) (done (commands_todo (drop (i + 1) script) rest) status end t ran))

      pub commands_off : PhaseFails means by (rounds_todo (command_rounds (get_or script i other))) m r new q → PhaseFails means by (commands_todo script) old p new q
      commands_off failed = λ rest.
          so_far rest 3 new q (subst (λ x. todo.RanOn means by x m r 3 new q) (sym (here rest)) (failed (commands_todo (drop (i + 1) script) rest)))

-- a command leaves what it shows
pub shown_same : (command : Command) (up up' : Option (List ℕ)) (plan plan' : Plan) (kept kept' : Record) → plan' ≡ plan → (command ≡ commands.Show → (kept' ≡ kept) × (up' ≡ up)) → shown_in command up' plan' kept' ≡ shown_in command up plan kept
shown_same commands.Show up up' plan plan' kept kept' over same = let both = same refl in λ i. lines_in (both.1 i) (over i) (both.0 i)
shown_same command up up' plan plan' kept kept' over same = refl

none-up : (o : Option (List ℕ)) → is_some o ≡ false → o ≡ None
none-up None is = refl
none-up (Some up) is = absurd (true≢false is)

some-up : (o : Option (List ℕ)) → is_some o ≡ true → o ≡ Some (unwrap_or o [])
some-up None is = absurd (false≢true is)
some-up (Some up) is = refl

-- and one that shows leaves the record and what is up
pub show_stays : {P : Type 0} (means : Meaning P) (command : Command) (seat seat' : SessionView P) (w v : World (Wire P)) (answer : Answer) → SteppedBy means command seat seat' w v answer → command ≡ commands.Show → (seat'.kept ≡ seat.kept) × (seat'.up ≡ seat.up)
show_stays means command seat seat' w v answer stepped is = by seat.up refl stepped.did
  where
    by : (up : Option (List ℕ)) → seat.up ≡ up → DoneWith means stepped.doing up command seat seat' w v answer → (seat'.kept ≡ seat.kept) × (seat'.up ≡ seat.up)
    by None at did =
        let shows : CommandDone means (command_rules seat.plan seat.heap) seat.heap commands.Show seat.kept seat'.kept w v answer = subst (λ (c : Command). CommandDone means (command_rules seat.plan seat.heap) seat.heap c seat.kept seat'.kept w v answer) is did.0.done in
        (ap (λ (k : Known Record). k.kept) shows.known_is, none-up seat'.up did.0.stays ∙ sym at)
    by (Some up) at did =
        let shows : CommandDone means (up_rules seat.plan seat.heap) seat.heap commands.Show (up_state_of means seat) (up_state_of means seat') w v answer =
        subst (λ (c : Command). CommandDone means (up_rules seat.plan seat.heap) seat.heap c (up_state_of means seat) (up_state_of means seat') w v answer) is did.0.done in (
          ap (λ (k : Known UpState). k.kept.kept) shows.known_is,
          some-up seat'.up did.0.stays ∙ ap Some (ap (λ (k : Known UpState). k.kept.up) shows.known_is ∙ ap (λ (o : Option (List ℕ)). unwrap_or o []) at) ∙ sym at,
        )

-- a session's step is a turn
pub carries_on : {P : Type 0} (means : Meaning P) (command : Command) (seat seat' : SessionView P) (inputs inputs' : List InputView) (outputs outputs' : List OutputView) (answer : Answer) →
    drained outputs ≡ outputs → SteppedBy means command seat seat' (world seat.link inputs outputs) (world seat'.link inputs' outputs') answer → input_ends inputs' ≡ input_ends inputs → seat'.plan ≡ seat.plan → seat'.heap ≡ seat.heap → AreAgreed means seat' →
    Turned means (Carry command) (record { answer = answer; shown = shown_in command seat.up seat.plan seat.kept; written = written_in outputs' }) (Seated seat inputs (output_slots outputs)) (Seated seat' inputs' (output_slots outputs))
carries_on means command seat seat' inputs inputs' outputs outputs' answer empty stepped ends plan heap agreed = (
  refl,
  record {
    outputs = outputs';
    stepped = subst (λ (xs : List OutputView). SteppedBy means command seat seat' (world seat.link inputs xs) (world seat'.link inputs' outputs') answer) (sym (empty-outputs outputs empty)) stepped;
    shown = refl;
    written = refl;
    ends = ends;
    plan_is = plan;
    heap_is = heap;
    agrees = agreed;
  },
)

-- and what its device holds is written before all else, and let go
pub kept_on : {K : Type 0} (means : Meaning K) (holds : K → List ℕ) (empties : K → K → Type 0) (command : Command) (seat left seat' : SessionView K) (inputs inputs' : List InputView) (outputs outputs' : List OutputView) (answer : Answer) →
    drained outputs ≡ outputs → SteppedBy means command seat left (world seat.link inputs outputs) (world left.link inputs' outputs') answer → input_ends inputs' ≡ input_ends inputs → left.plan ≡ seat.plan → left.heap ≡ seat.heap → AreAgreed means left →
    Drained means empties left.link.device seat'.link.device → seat' ≡ with_device left seat'.link.device →
    KeptTurn means holds empties (Carry command) (record { answer = answer; shown = shown_in command seat.up seat.plan seat.kept; written = with_bytes trace_slot (holds left.link.device) (written_in outputs') })
    (Seated seat inputs (output_slots outputs)) (Seated seat' inputs' (output_slots outputs))
kept_on means holds empties command seat left seat' inputs inputs' outputs outputs' answer empty stepped ends plan heap agreed emptied rest = record {
  left = left;
  bare = record { answer = answer; shown = shown_in command seat.up seat.plan seat.kept; written = written_in outputs' };
  turned = carries_on means command seat left inputs inputs' outputs outputs' answer empty stepped ends plan heap agreed;
  out_is = refl;
  emptied = emptied;
  rest = rest;
}

-- the same slots, stated otherwise
module _ {D P : Type 0} (means : DeskMeaning D) (by : Turning (Life P)) where
  pub same_slots : (phase : Todo → Todo) (done : Bool) (old new : D) (p : Life P) (seat : SessionView P) (inputs : List InputView) (slots slots' : List ℕ) → slots' ≡ slots → Phase means by phase done old p new (Seated seat inputs slots) → Phase means by phase done old p new (Seated seat inputs slots')
  same_slots phase done old new p seat inputs slots slots' same made = subst (λ (xs : List ℕ). Phase means by phase done old p new (Seated seat inputs xs)) (sym same) made
