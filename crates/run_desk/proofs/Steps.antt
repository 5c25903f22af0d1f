-- One call or one turn, and then what comes after it.
use Rattle.std.proofs.Common.{◌≡◌, ℕ, Bool, true, false, List, [], ◌∷◌, Ok, Err, refl, inl, inr, if◌then◌else◌}
use Rattle.sof_desk.specs.declared.calls.LoadFault.TheVariants.{Failed, TooLong, OutOfMemory}
use Rattle.sof_desk.specs.Desk.{DeskMeaning, DeskAct, Put, Spoken, DeskCall, Load, Did, Read, Loaded, Acted}
use Rattle.sof_script.specs.Tasks.{Out, Turn, Turning}
use Rattle.run_desk.specs.TopologyBytes.{AreBytes}
use Rattle.run_desk.specs.Lines.{no_memory_line}
use Rattle.run_desk.specs.Todo.{Todo, Stop, Ask, Do, Step, Free, Says, Played, RanOn, DeskPhase, LeadsOn, PhaseFails}

-- a line that is said comes with no turn
pub no_turns : (line : List ℕ) (n : ℕ) (turns : List Turn) (calls : List DeskCall) (status : ℕ) → Says line n turns calls status → turns ≡ []
no_turns line n turns [] status says = absurd says
no_turns line n turns (Load name limit heard ∷ calls) status says = absurd says
no_turns line n turns (Read slot size got ∷ calls) status says = absurd says
no_turns line n turns (Did act done ∷ calls) status says = says.1

module _ {D : Type 0} (means : DeskMeaning D) where
  pub says : (line : List ℕ) (status : ℕ) (done : Bool) (old new : D) → Acted means (Put Spoken line) done old new → Played means (Stop line status) old [] (if done then status else 3) new
  says line status done old new acted =
      record { calls = Did (Put Spoken line) done ∷ []; led = (new, acted, refl); goes = (refl, refl, refl, refl) }

  pub do_on : (act : DeskAct) (next : Todo) (turns : List Turn) (status : ℕ) (old m new : D) → Acted means act true old m → Played means next m turns status new → Played means (Do act next) old turns status new
  do_on act next turns status old m new acted played =
      record { calls = Did act true ∷ played.calls; led = (m, acted, played.led); goes = (refl, played.goes) }

  pub do_off : (act : DeskAct) (next : Todo) (old new : D) → Acted means act false old new → Played means (Do act next) old [] 3 new
  do_off act next old new acted =
      record { calls = Did act false ∷ []; led = (new, acted, refl); goes = (refl, (refl, refl, refl)) }

  module _ (name : List ℕ) (limit : ℕ) (line : List ℕ) (next : List ℕ → Todo) where
    pub ask_on : (bytes : List ℕ) (turns : List Turn) (status : ℕ) (old m new : D) → Loaded means name limit (Ok bytes) old m → AreBytes bytes → Played means (next bytes) m turns status new → Played means (Ask name limit line next) old turns status new
    ask_on bytes turns status old m new loaded are played =
        record { calls = Load name limit (Ok bytes) ∷ played.calls; led = (m, loaded, played.led); goes = (refl, refl, played.goes, are) }

    pub ask_long : (status : ℕ) (old m new : D) → Loaded means name limit (Err TooLong) old m → Played means (Stop line 5) m [] status new → Played means (Ask name limit line next) old [] status new
    ask_long status old m new loaded played =
        record { calls = Load name limit (Err TooLong) ∷ played.calls; led = (m, loaded, played.led); goes = (refl, refl, played.goes) }

    pub ask_free : (status : ℕ) (old m new : D) → Loaded means name limit (Err OutOfMemory) old m → Played means (Stop no_memory_line 7) m [] status new → Played means (Ask name limit line next) old [] status new
    ask_free status old m new loaded played =
        record { calls = Load name limit (Err OutOfMemory) ∷ played.calls; led = (m, loaded, played.led); goes = (refl, refl, played.goes) }

    pub ask_off : (old new : D) → Loaded means name limit (Err Failed) old new → Played means (Ask name limit line next) old [] 3 new
    ask_off old new loaded =
        record { calls = Load name limit (Err Failed) ∷ []; led = (new, loaded, refl); goes = (refl, refl, (refl, refl, refl)) }

  -- memory was there, or not
  pub free_on : (next : Todo) (turns : List Turn) (status : ℕ) (old new : D) → Played means next old turns status new → Played means (Free next) old turns status new
  free_on next turns status old new played = record { calls = played.calls; led = played.led; goes = inl played.goes }

  pub free_off : (next : Todo) (status : ℕ) (old new : D) → Played means (Stop no_memory_line 7) old [] status new → Played means (Free next) old [] status new
  free_off next status old new played = record { calls = played.calls; led = played.led; goes = inr played.goes }

  module _ {L : Type 0} (by : Turning L) where
    -- calls on the desk alone
    pub alone : (todo : Todo) (old new : D) (p : L) (status : ℕ) → Played means todo old [] status new → RanOn means by todo old p status new p
    alone todo old new p status played = record { turns = []; turned = refl; played = played }

    -- a turn, and what comes after it
    pub step_on : (turn : Turn) (next : Out → Todo) (status : ℕ) (old new : D) (p m q : L) → by turn.task turn.out p m → RanOn means by (next turn.out) old m status new q → RanOn means by (Step turn.task next) old p status new q
    step_on turn next status old new p m q turned ran =
        record {
          turns = turn ∷ ran.turns;
          turned = (m, turned, ran.turned);
          played = record { calls = ran.played.calls; led = ran.played.led; goes = (refl, ran.played.goes) };
        }

    -- a phase on the desk alone, with a device beside it
    pub beside : (phase : Todo → Todo) (old new : D) (p : L) → DeskPhase means phase true old new → LeadsOn means by phase (λ rest. rest) old p new p
    beside phase old new p done rest status end r ran =
        record { turns = ran.turns; turned = ran.turned; played = done rest ran.turns status end ran.played }

    pub beside_failed : (phase : Todo → Todo) (old new : D) (p : L) → DeskPhase means phase false old new → PhaseFails means by phase old p new p
    beside_failed phase old new p failed rest = alone (phase rest) old new p 3 (failed rest)

  -- one call, as a phase
  pub do_phase : (act : DeskAct) (done : Bool) (old new : D) → Acted means act done old new → DeskPhase means (Do act) done old new
  do_phase act true old new acted = λ rest turns status end played. do_on act rest turns status old new end acted played
  do_phase act false old new acted = λ rest. do_off act rest old new acted
