-- What `source` does, by the bytes of its topology.
use Rattle.std.specs.Prelude.{◌≡◌, ◌⊎◌, ℕ, ◌<◌, ◌≤◌, List, [], ◌∷◌, length, Option, Some, None, Ok, Err, codes}
use Rattle.sof_desk.specs.declared.calls.LoadFault.TheVariants.{TooLong}
use Rattle.sof_desk.specs.Desk.{DeskMeaning, DeskCall, Load}
use Rattle.tplg_model.specs.declared.block.Topology.{Topology}
use Rattle.tplg_graph.specs.PlanOf.{plan_of}
use Rattle.tplg_compile.specs.Compiled.{IsCompiled}
use Rattle.tplg_same.specs.SamePlan.{IsSamePlan}
use Rattle.run_desk.specs.declared.preparing.Halt.{Halt}
use Rattle.run_desk.specs.Lines.{with_newline, halt_line}
use Rattle.run_desk.specs.DeskCalls.{saying, heard_in}
use Rattle.run_tools.specs.Checks.{telling, IsRight, IsWrong}
use Rattle.run_tools.specs.Compiling.{wrote_line}
use Rattle.run_tools.specs.Compiles.{making, WroteFile}
use Rattle.run_words.specs.ToolForms.{SourceFiles, source_files_of}
use Rattle.run_tools.specs.Sourcing.{no_source_line}

-- The status by the topology's bytes, whose cases exclude each other, and all calls on the desk: a desk that failed or want of
-- memory; 5 where the file is too long; 2 where it is no right topology, or one of which `source` makes no source, and then the
-- line for it was said; 0 where its source was made: a text that compiles to a topology of the same plan. Which text this is, if there is one, is a
-- function of the topology.
abbrev pub SourceVerdict : (Topology → Option (List ℕ)) → SourceFiles → List ℕ → List DeskCall → ℕ → Type 0
SourceVerdict source files bytes calls status =
    ((status ≡ 3) ⊎ (status ≡ 7))
    ⊎ (((status ≡ 5) × (1048576 < length bytes) × (calls ≡ Load files.topology 1048576 (Err TooLong) ∷ saying (codes "too long topology\n") ∷ []))
    ⊎ (((why : Halt) × (status ≡ 2) × (length bytes ≤ 1048576) × IsWrong bytes why × (calls ≡ telling files.topology bytes (halt_line why ∷ [])))
    ⊎ (((t : Topology) × (status ≡ 2) × (length bytes ≤ 1048576) × IsRight bytes t × (source t ≡ None) × (calls ≡ telling files.topology bytes (no_source_line ∷ [])))
    ⊎ ((status ≡ 0) × (length bytes ≤ 1048576)
    × ((t : Topology) × (text : List ℕ) × (made : Topology) × IsRight bytes t × IsCompiled text made × IsSamePlan (plan_of made) (plan_of t) × (source t ≡ Some text)
    × (calls ≡ Load files.topology 1048576 (Ok bytes) ∷ making files.out text))))))

-- Where the words are those of `source`.
pub record Sources {D P : Type 0} (source : Topology → Option (List ℕ)) (means : DeskMeaning D) (words : List (List ℕ)) (old : D) (p : P) (calls : List DeskCall) (status : ℕ) (new : D) (q : P) : Type 0 where
  -- the device is not touched
  pub alone : (files : SourceFiles) → source_files_of words ≡ Some files → q ≡ p
  -- the status is by the topology's bytes, where the desk tells them, and, whatever the desk tells, by those that the load brought
  pub judged : (files : SourceFiles) (bytes : List ℕ) → source_files_of words ≡ Some files → (means.holds old files.topology ≡ Some bytes) ⊎ (heard_in calls ≡ Ok bytes ∷ [])
      → SourceVerdict source files bytes calls status
  -- of a right topology that has a source this was made, or a front of it, and nothing else was written
  pub wrote : (files : SourceFiles) (bytes : List ℕ) (t : Topology) (text : List ℕ) → source_files_of words ≡ Some files → means.holds old files.topology ≡ Some bytes → length bytes ≤ 1048576
      → IsRight bytes t → source t ≡ Some text → WroteFile means text (with_newline (wrote_line text)) old new status
