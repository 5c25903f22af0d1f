-- What loads brought is bytes.
use Rattle.std.proofs.Common.{◌≡◌, inl, inr, ℕ, true, false, List, [], ◌∷◌, ◌++◌, Option, Some, None, MatchOption, Ok, Err, refl, sym, subst}
use Rattle.std.specs.List.{AllByRecursion}
use Rattle.sof_desk.specs.declared.calls.LoadFault.TheVariants.{Failed, TooLong, OutOfMemory}
use Rattle.sof_desk.specs.Desk.{Heard, DeskCall, Load, Did, Read}
use Rattle.sof_script.specs.Tasks.{Turn}
use Rattle.run_desk.specs.TopologyBytes.{BringsBytes}
use Rattle.run_desk.specs.Lines.{no_memory_line}
use Rattle.run_desk.specs.Todo.{Todo, End, Stop, Ask, Do, Step, Refill, Send, Free, Says, Over, DoneBy}
use Rattle.run_desk.specs.DeskCalls.{reading, answer_in, heard_in}

-- reads are no loads
pub heard_behind : (reads : List (ℕ × List ℕ)) (failed : Option ℕ) (later : List DeskCall) → heard_in (reading reads failed ++ later) ≡ heard_in later
heard_behind [] None later = refl
heard_behind [] (Some slot) later = refl
heard_behind ((slot, bytes) ∷ reads) failed later = heard_behind reads failed later

-- these calls' loads brought bytes
abbrev Bring : List DeskCall → Type 0
Bring calls = AllByRecursion BringsBytes (heard_in calls)

none_bring : (calls : List DeskCall) → calls ≡ [] → Bring calls
none_bring calls none = subst (λ (cs : List DeskCall). Bring cs) (sym none) tt

said_bring : (line : List ℕ) (n : ℕ) (turns : List Turn) (calls : List DeskCall) (status : ℕ) → Says line n turns calls status → Bring calls
said_bring line n turns [] status says = absurd says
said_bring line n turns (Load name limit heard ∷ calls) status says = absurd says
said_bring line n turns (Read slot size got ∷ calls) status says = absurd says
said_bring line n turns (Did act done ∷ calls) status says = none_bring calls says.2

pub loads_bring : (todo : Todo) (turns : List Turn) (calls : List DeskCall) (status : ℕ) → DoneBy todo turns calls status → AllByRecursion BringsBytes (heard_in calls)
loads_bring End turns calls status goes = none_bring calls goes.1
loads_bring (Stop line n) turns calls status goes = said_bring line n turns calls status goes
loads_bring (Ask name limit line next) turns [] status goes = absurd goes
loads_bring (Ask name limit line next) turns (Did act done ∷ calls) status goes = absurd goes
loads_bring (Ask name limit line next) turns (Read n size got ∷ calls) status goes = absurd goes
loads_bring (Ask name limit line next) turns (Load n l (Ok bytes) ∷ calls) status goes = (goes.3, loads_bring (next bytes) turns calls status goes.2)
loads_bring (Ask name limit line next) turns (Load n l (Err TooLong) ∷ calls) status goes = (tt, said_bring line 5 turns calls status goes.2)
loads_bring (Ask name limit line next) turns (Load n l (Err OutOfMemory) ∷ calls) status goes = (tt, said_bring no_memory_line 7 turns calls status goes.2)
loads_bring (Ask name limit line next) turns (Load n l (Err Failed) ∷ calls) status goes = (tt, none_bring calls goes.2.1)
loads_bring (Do act next) turns [] status goes = absurd goes
loads_bring (Do act next) turns (Load n l heard ∷ calls) status goes = absurd goes
loads_bring (Do act next) turns (Read n size got ∷ calls) status goes = absurd goes
loads_bring (Do act next) turns (Did a true ∷ calls) status goes = loads_bring next turns calls status goes.1
loads_bring (Do act next) turns (Did a false ∷ calls) status goes = none_bring calls goes.1.1
loads_bring (Step task next) (turn ∷ turns) calls status goes = loads_bring (next turn.out) turns calls status goes.1
loads_bring (Refill next) (turn ∷ turns) calls status goes =
    let f = goes.0 in
    let later : Bring f.later =
    (elim f.failed as (λ failed. MatchOption failed (DoneBy next turns f.later status) (λ slot. Over 3 turns f.later status) → Bring f.later) [
      | None ↦ λ done. loads_bring next turns f.later status done
      | Some slot ↦ λ over. none_bring f.later over.1
    ]) goes.1 in
    subst (λ (cs : List DeskCall). Bring cs) (sym f.calls_are) (subst (λ (hs : List Heard). AllByRecursion BringsBytes hs) (sym (heard_behind f.reads f.failed f.later)) later)
loads_bring (Send message next) (turn ∷ turns) calls status goes = loads_bring (next (answer_in turn.task)) turns calls status goes.1
loads_bring (Free next) turns calls status (inl goes) = loads_bring next turns calls status goes
loads_bring (Free next) turns calls status (inr says) = said_bring no_memory_line 7 turns calls status says
loads_bring todo [] calls status goes = absurd goes
