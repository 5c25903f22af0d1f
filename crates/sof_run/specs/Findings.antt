-- What the bytes that loads brought come to, by what is said of them; and that by it the course of the words was made.
use Rattle.std.specs.Prelude.{◌≡◌, ℕ, List, [], ◌∷◌, Option, Ok, MatchResult}
use Rattle.sof_desk.specs.Desk.{Heard, DeskCall}
use Rattle.tplg_model.specs.declared.block.Topology.{Topology}
use Rattle.tplg_compile.specs.Compiled.{IsCompiled, IsCompileFault}
use Rattle.ipc3_trace.specs.WholeTraces.{IsTraceOf}
use Rattle.sof_script.specs.Tasks.{Turn}
use Rattle.run_desk.specs.Verdicts.{MakeRun, IsHalt}
use Rattle.run_tools.specs.Checks.{IsRight, IsWrong}
use Rattle.run_words.specs.Requests.{request_of}
use Rattle.sof_run.specs.Calls.{Findings, course, Made}
use Rattle.run_desk.specs.DeskCalls.{heard_in}

-- Each of the four determines its value: a script is read in one way; bytes are the file of one topology at most, or have one first
-- fault; a topology keeps all rules, or breaks one first, with one least item; a text is the source of one topology at most, or has one
-- fault; bytes have one list of records, up to their end or their first fault.

-- What the loads brought has these findings: topology and script make this run, or this is why they make none; a
-- topology's bytes are the file of this one, which keeps all rules, or this is why they are none; a text is the source of this topology,
-- which keeps all rules, or this is its fault; a trace's bytes are these records, up to their end or to this fault.
pub record AreFindings (heard : List Heard) (found : Findings) : Type 0 where
  pub run : (topology script : List ℕ) → heard ≡ Ok topology ∷ Ok script ∷ [] → MatchResult found.run (λ run. MakeRun topology script run.0 run.1) (IsHalt topology script)
  pub topology : (bytes : List ℕ) → heard ≡ Ok bytes ∷ [] → MatchResult found.topology (IsRight bytes) (IsWrong bytes)
  pub source : (text : List ℕ) → heard ≡ Ok text ∷ [] → MatchResult found.source (IsCompiled text) (IsCompileFault text)
  pub trace : (bytes : List ℕ) → heard ≡ Ok bytes ∷ [] → IsTraceOf bytes found.trace.0 found.trace.1

-- what these words ask for was done, by what the loaded bytes come to and by the turns that were made
pub record FollowsCourse (source : Topology → Option (List ℕ)) (room sent : ℕ) (words : List (List ℕ)) (turns : List Turn) (calls : List DeskCall) (status : ℕ) : Type 0 where
  pub found : Findings
  pub are : AreFindings (heard_in calls) found
  pub made : let c = course source room sent (request_of room words) found (heard_in calls) turns in Made c.items c.status turns calls status
