-- Lines that are said, one after another.
use Rattle.std.proofs.Common.{◌≡◌, ℕ, Bool, true, false, List, [], ◌∷◌, Result, Ok, Err, is_ok, refl, if◌then◌else◌}
use Rattle.std.specs.Result.{IsErr}
use Rattle.sof_desk.specs.Desk.{DeskMeaning, DeskCall, Load, Did, Read}
use Rattle.sof_script.specs.Tasks.{Turn}
use Rattle.run_desk.specs.Todo.{End, Played, DeskPhase, DoneBy}
use Rattle.run_desk.specs.LinesTodo.{lines_todo}

-- a failure is no success
pub was_err : {A E : Type 0} (r : Result A E) → IsErr r → is_ok r ≡ false
was_err (Ok a) err = absurd (cc err)
was_err (Err e) err = refl

module _ {D : Type 0} (means : DeskMeaning D) where
  -- one line, and then others
  pub then_lines : (line : List ℕ) (lines : List (List ℕ)) (done : Bool) (old m new : D) → DeskPhase means (lines_todo (line ∷ [])) true old m → DeskPhase means (lines_todo lines) done m new → DeskPhase means (lines_todo (line ∷ lines)) done old new
  then_lines line lines true old m new first others = λ rest turns status end played. first (lines_todo lines rest) turns status end (others rest turns status end played)
  then_lines line lines false old m new first others = λ rest. first (lines_todo lines rest) [] 3 new (others rest)

-- no turn comes with lines
pub lines_turnless : (lines : List (List ℕ)) (turns : List Turn) (calls : List DeskCall) (status : ℕ) → DoneBy (lines_todo lines End) turns calls status → turns ≡ []
lines_turnless [] turns calls status goes = goes.0
lines_turnless (line ∷ lines) turns [] status goes = absurd goes
lines_turnless (line ∷ lines) turns (Load name limit heard ∷ calls) status goes = absurd goes
lines_turnless (line ∷ lines) turns (Read n size got ∷ calls) status goes = absurd goes
lines_turnless (line ∷ lines) turns (Did act true ∷ calls) status goes = lines_turnless lines turns calls status goes.1
lines_turnless (line ∷ lines) turns (Did act false ∷ calls) status goes = goes.1.0

module _ {D : Type 0} (means : DeskMeaning D) where
  -- the lines, said or cut off
  pub lines_played : (lines : List (List ℕ)) (done : Bool) (old new : D) → DeskPhase means (lines_todo lines) done old new → Played means (lines_todo lines End) old [] (if done then 0 else 3) new
  lines_played lines true old new phase = phase End [] 0 new (record { calls = []; led = refl; goes = (refl, refl, refl) })
  lines_played lines false old new phase = phase End
