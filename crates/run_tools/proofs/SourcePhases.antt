-- The phases of `source`, one after another.
use Rattle.std.proofs.Common.{◌≡◌, ℕ, Bool, List, [], Some, None, Result, Ok, Err, sym, subst, codes, if◌then◌else◌}
use Rattle.sof_desk.specs.Desk.{DeskMeaning, Loaded}
use Rattle.tplg_model.specs.declared.block.Topology.{Topology}
use Rattle.tplg_source.specs.Outcome.{source_for}
use Rattle.run_desk.specs.declared.preparing.Halt.{Halt}
use Rattle.run_desk.specs.declared.preparing.Halt.TheVariants as halt
use Rattle.run_desk.specs.Todo.{Stop, Free, Played, DeskPhase}
use Rattle.run_desk.specs.TopologyBytes.{AreBytes}
use Rattle.run_desk.specs.Lines.{halt_line, halt_status}
use Rattle.run_desk.specs.Halts.{HaltsAtCheck}
use Rattle.run_desk.specs.Prepared.{checked}
use Rattle.run_tools.specs.CompileTodo.{file_todo}
use Rattle.run_words.specs.ToolForms.{SourceFiles}
use Rattle.run_tools.specs.Sourcing.{no_source_line}
use Rattle.run_tools.specs.SourceTodo.{kept_todo, sourced_todo, make_source}
use Rattle.run_desk.proofs.Steps.{ask_on, free_on, free_off}
use Rattle.run_tools.proofs.CompilePhases.{file_ended}

module _ {D : Type 0} (means : DeskMeaning D) where
  -- the topology was loaded
  module _ (files : SourceFiles) (bytes : List ℕ) (old m new : D) (loaded : Loaded means files.topology 1048576 (Ok bytes) old m) (are : AreBytes bytes) where
    after : (status : ℕ) → Played means (Free (sourced_todo files.out (checked bytes))) m [] status new → Played means (make_source files) old [] status new
    after status played = ask_on means files.topology 1048576 (codes "too long topology\n") (λ bytes. Free (sourced_todo files.out (checked bytes))) bytes [] status old m new loaded are played

    come_to : (r : Result Topology Halt) (status : ℕ) → checked bytes ≡ r → Played means (sourced_todo files.out r) m [] status new → Played means (make_source files) old [] status new
    come_to r status is played =
        after status (free_on means (sourced_todo files.out (checked bytes)) [] status m new (subst (λ r. Played means (sourced_todo files.out r) m [] status new) (sym is) played))

    -- the file of its source was made, or not all of it
    pub source_made : (t : Topology) (text : List ℕ) (done : Bool) → checked bytes ≡ Ok t → source_for t ≡ Some text → DeskPhase means (file_todo files.out text) done m new → Played means (make_source files) old [] (if done then 0 else 3) new
    source_made t text done is kept phase =
        come_to (Ok t) (if done then 0 else 3) is
        (subst (λ o. Played means (kept_todo files.out o) m [] (if done then 0 else 3) new) (sym kept) (file_ended means files.out text done m new phase))

    -- that it has none was said
    pub no_source : (t : Topology) (status : ℕ) → checked bytes ≡ Ok t → source_for t ≡ None → Played means (Stop no_source_line 2) m [] status new → Played means (make_source files) old [] status new
    no_source t status is none played = come_to (Ok t) status is (subst (λ o. Played means (kept_todo files.out o) m [] status new) (sym none) played)

    -- why it is not right was said
    pub source_halted : (h : Halt) (status : ℕ) → HaltsAtCheck h (checked bytes) → Played means (Stop (halt_line h) (halt_status h)) m [] status new → Played means (make_source files) old [] status new
    source_halted halt.OutOfMemory status is played = after status (free_off means (sourced_todo files.out (checked bytes)) status m new played)
    source_halted h status is played = come_to (Err h) status is played
