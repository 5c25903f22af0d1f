-- The phases of `play`, one after another.
use Rattle.std.proofs.Common.{◌≡◌, ℕ, Bool, true, false, List, [], Option, Some, None, Ok, refl, sym, subst, codes, if◌then◌else◌}
use Rattle.sof_desk.specs.Desk.{DeskMeaning, Loaded}
use Rattle.host_widgets.specs.declared.answers.Answer.TheVariants as answers
use Rattle.mbox_link.specs.Calls.{Meaning}
use Rattle.tplg_plan.specs.declared.plans.Plan.{Plan}
use Rattle.sof_script.specs.declared.script.Numbered.{Numbered}
use Rattle.sof_script.specs.Commands.{Read}
use Rattle.sof_base.specs.Ports.{InputView}
use Rattle.sof_session.specs.SessionView.{seat_in}
use Rattle.sof_session.specs.Lives.{Life, Bare, Seated}
use Rattle.sof_script.specs.Tasks.{Turn, Turning, Begin}
use Rattle.run_desk.specs.declared.preparing.Halt.{Halt}
use Rattle.run_desk.specs.declared.preparing.Halt.TheVariants as halt
use Rattle.run_words.specs.Words.{Form}
use Rattle.run_desk.specs.Todo.{Todo, End, Stop, Ask, Free, Played, RanOn, DeskPhase, Phase}
use Rattle.run_desk.specs.TopologyBytes.{AreBytes}
use Rattle.run_desk.specs.Bindings.{bound_inputs, bound_slots}
use Rattle.run_desk.specs.Lines.{halt_line, halt_status}
use Rattle.run_desk.specs.Prepared.{Prepared, Ready, Halted, prepared}
use Rattle.run_play.specs.Play.{prepared_todo, ready_todo, bindings_todo, traced_todo, session_todo, commands_todo, play}
use Rattle.run_desk.specs.Halts.{Halts}
use Rattle.run_play.specs.HandedBack.{GaveBy}
use Rattle.run_play.specs.Keeping.{recorded_turns, KeptRecords}
use Rattle.run_play.specs.KeptTurns.{GaveKept}
use Rattle.run_desk.proofs.Steps.{ask_on, free_on, free_off, alone, step_on}

module _ {D : Type 0} (means : DeskMeaning D) where
  -- what is to do for a halt
  abbrev pub halt_todo : Halt → Todo
  halt_todo why = Stop (halt_line why) (halt_status why)

  told_todo : (on_use : Bool) (heap : ℕ) (trace : Option (List ℕ)) (files : Prepared) (h : Halt) (status : ℕ) (old new : D) → files ≡ Halted h → Played means (halt_todo h) old [] status new → Played means (Free (prepared_todo on_use heap trace files)) old [] status new
  told_todo on_use heap trace files h status old new is played = free_on means (prepared_todo on_use heap trace files) [] status old new (subst (λ f. Played means (prepared_todo on_use heap trace f) old [] status new) (sym is) played)

  -- a halt after both loads
  pub halted_todo : (on_use : Bool) (heap : ℕ) (trace : Option (List ℕ)) (files : Prepared) (h : Halt) (status : ℕ) (old new : D) → Halts h files → Played means (halt_todo h) old [] status new → Played means (Free (prepared_todo on_use heap trace files)) old [] status new
  halted_todo on_use heap trace files halt.OutOfMemory status old new is played = free_off means (prepared_todo on_use heap trace files) status old new played
  halted_todo on_use heap trace files h status old new is played = told_todo on_use heap trace files h status old new is played

-- both files were loaded
module _ {D : Type 0} (means : DeskMeaning D) (form : Form) (topology script : List ℕ) (old m n new : D) (status : ℕ) (first : Loaded means form.topology 1048576 (Ok topology) old m) (second : Loaded means form.script 1048576 (Ok script) m n) (are : AreBytes topology) (others : AreBytes script) where
  loaded : (turns : List Turn) → Played means (Free (prepared_todo form.on_use form.heap form.trace (prepared topology script))) n turns status new → Played means (play form) old turns status new
  loaded turns played =
      let asks = λ (bytes : List ℕ). Free (prepared_todo form.on_use form.heap form.trace (prepared topology bytes)) in
      let after = λ (bytes : List ℕ). Ask form.script 1048576 (codes "too long script\n") (λ script. Free (prepared_todo form.on_use form.heap form.trace (prepared bytes script))) in
      ask_on means form.topology 1048576 (codes "too long topology\n") after topology turns status old m new first are
      (ask_on means form.script 1048576 (codes "too long script\n") asks script turns status m n new second others played)

  -- they make a run
  pub ready_on : (plan : Plan) (read : Read) (turns : List Turn) → prepared topology script ≡ Ready plan read → Played means (Free (ready_todo form.on_use form.heap form.trace plan read)) n turns status new → Played means (play form) old turns status new
  ready_on plan read turns is played = loaded turns (subst (λ files. Played means (Free (prepared_todo form.on_use form.heap form.trace files)) n turns status new) (sym is) played)

  -- they make none
  pub halted_on : (h : Halt) → Halts h (prepared topology script) → Played means (halt_todo means h) n [] status new → Played means (play form) old [] status new
  halted_on h is played = loaded [] (halted_todo means form.on_use form.heap form.trace (prepared topology script) h status n new is played)

-- the second file was not loaded
pub second_missing : {D : Type 0} (means : DeskMeaning D) (form : Form) (topology : List ℕ) (old m new : D) (status : ℕ) → Loaded means form.topology 1048576 (Ok topology) old m → AreBytes topology →
    ((next : List ℕ → Todo) → Played means (Ask form.script 1048576 (codes "too long script\n") next) m [] status new) → Played means (play form) old [] status new
second_missing means form topology old m new status first are missing =
    let after = λ (bytes : List ℕ). Ask form.script 1048576 (codes "too long script\n") (λ script. Free (prepared_todo form.on_use form.heap form.trace (prepared bytes script))) in
    ask_on means form.topology 1048576 (codes "too long topology\n") after topology [] status old m new first are (missing (λ script. Free (prepared_todo form.on_use form.heap form.trace (prepared topology script))))

module _ {D L : Type 0} (means : DeskMeaning D) (by : Turning L) where
  -- what calls on the desk make of a run
  over : (whole left : Todo) (old m new : D) (p q : L) (status : ℕ) → ((turns : List Turn) → Played means left m turns status new → Played means whole old turns status new) → RanOn means by left m p status new q → RanOn means by whole old p status new q
  over whole left old m new p q status desk ran = record { turns = ran.turns; turned = ran.turned; played = desk ran.turns ran.played }

  ended : (old : D) (p : L) → RanOn means by End old p 0 old p
  ended old p = alone means by End old old p 0 record { calls = []; led = refl; goes = (refl, refl, refl) }

  -- the commands, done or cut off
  pub session_done : (commands : List Numbered) (done : Bool) (old new : D) (p q : L) → Phase means by (commands_todo commands) done old p new q → RanOn means by (commands_todo commands End) old p (if done then 0 else 3) new q
  session_done commands true old new p q phase = phase End 0 new q (ended new q)
  session_done commands false old new p q phase = phase End

  -- memory was there
  pub free_ran : (todo : Todo) (old new : D) (p q : L) (status : ℕ) → RanOn means by todo old p status new q → RanOn means by (Free todo) old p status new q
  free_ran todo old new p q status ran = over (Free todo) todo old old new p q status (λ turns played. free_on means todo turns status old new played) ran

module _ {D P : Type 0} (means : DeskMeaning D) (by : Turning (Life P)) where
  module _ (on_use : Bool) (plan : Plan) (heap : ℕ) (p : P) where
    -- a session over the device
    pub begin_on : (inputs : List InputView) (slots : List ℕ) (commands : List Numbered) (old new : D) (status : ℕ) (q : Life P) →
        by (Begin on_use plan heap inputs slots) (record { answer = answers.Done; shown = []; written = [] }) (Bare p) (Seated (seat_in on_use plan heap p) inputs slots) →
        RanOn means by (commands_todo commands End) old (Seated (seat_in on_use plan heap p) inputs slots) status new q → RanOn means by (session_todo on_use heap plan commands inputs slots) old (Bare p) status new q
    begin_on inputs slots commands old new status q begun ran =
        step_on means by (record { task = Begin on_use plan heap inputs slots; out = record { answer = answers.Done; shown = []; written = [] } }) (λ out. commands_todo commands End) status old new (Bare p) (Seated (seat_in on_use plan heap p) inputs slots) q begun ran

    -- the bindings come before it, and the trace
    pub opened_on : (trace : Option (List ℕ)) (read : Read) (old m n new : D) (status : ℕ) (q : Life P) → DeskPhase means (bindings_todo plan read.bindings) true old m → DeskPhase means (traced_todo trace) true m n →
        RanOn means by (session_todo on_use heap plan read.commands (bound_inputs plan [] read.bindings) (bound_slots plan read.bindings)) n (Bare p) status new q → RanOn means by (Free (ready_todo on_use heap trace plan read)) old (Bare p) status new q
    opened_on trace read old m n new status q opens creates ran =
        let session = session_todo on_use heap plan read.commands (bound_inputs plan [] read.bindings) (bound_slots plan read.bindings) in
        free_ran means by (ready_todo on_use heap trace plan read) old new (Bare p) q status
        (over means by (ready_todo on_use heap trace plan read) (traced_todo trace session) old m new (Bare p) q status (λ turns played. opens (traced_todo trace session) turns status new played)
        (over means by (traced_todo trace session) session m n new (Bare p) q status (λ turns played. creates session turns status new played) ran))

  -- nothing was done with the device
  pub gave_alone : (dsp : Meaning P) (todo : Todo) (old new : D) (p : P) (status : ℕ) → Played means todo old [] status new → GaveBy means dsp by todo old p status new p
  gave_alone dsp todo old new p status played = record { last = Bare p; is = refl; exit = refl; ran = alone means by todo old new (Bare p) status played }

-- there was no memory, and the device is handed back as it was
pub wanted_gave : {D P : Type 0} (means : DeskMeaning D) (dsp : Meaning P) (by : Turning (Life P)) (todo : Todo) (old new : D) (p q : P) (status : ℕ) → q ≡ p → Played means todo old [] status new → GaveBy means dsp by todo old p status new q
wanted_gave means dsp by todo old new p q status same played = subst (λ d. GaveBy means dsp by todo old p status new d) (sym same) (gave_alone means by dsp todo old new p status played)

-- no turn leaves no records
none_kept : {P : Type 0} (dsp : Meaning P) (trace : Option (List ℕ)) (p : P) → KeptRecords dsp trace (Bare p) [] (Bare p) refl []
none_kept dsp None p = refl
none_kept dsp (Some name) p = refl

pub kept_alone : {D P : Type 0} (means : DeskMeaning D) (dsp : Meaning P) (trace : Option (List ℕ)) (todo : Todo) (old new : D) (p : P) (status : ℕ) → Played means todo old [] status new → GaveKept means dsp trace todo old p status new p
kept_alone means dsp trace todo old new p status played =
    record { last = Bare p; is = refl; exit = refl; turns = []; turned = refl; records = []; kept = none_kept dsp trace p; played = played }

pub wanted_kept : {D P : Type 0} (means : DeskMeaning D) (dsp : Meaning P) (trace : Option (List ℕ)) (todo : Todo) (old new : D) (p q : P) (status : ℕ) → q ≡ p → Played means todo old [] status new → GaveKept means dsp trace todo old p status new q
wanted_kept means dsp trace todo old new p q status same played = subst (λ d. GaveKept means dsp trace todo old p status new d) (sym same) (kept_alone means dsp trace todo old new p status played)

-- what was done is part of something else
pub kept_whole : {D P : Type 0} (means : DeskMeaning D) (dsp : Meaning P) (trace : Option (List ℕ)) (todo whole : Todo) (old m new : D) (p q : P) (status : ℕ) → ((turns : List Turn) → Played means todo m turns status new → Played means whole old turns status new) →
    GaveKept means dsp trace todo m p status new q → GaveKept means dsp trace whole old p status new q
kept_whole means dsp trace todo whole old m new p q status desk gave = record {
  last = gave.last;
  is = gave.is;
  exit = gave.exit;
  turns = gave.turns;
  turned = gave.turned;
  records = gave.records;
  kept = gave.kept;
  played = desk (recorded_turns gave.records gave.turns) gave.played;
}
