-- What `compile` does, by the bytes of its source.
use Rattle.std.specs.Prelude.{◌≡◌, ◌⊎◌, ℕ, ◌≤◌, true, List, [], ◌∷◌, length, nat_eq, Option, Some, Ok, Err, codes, if◌then◌else◌, ◌<◌}
use Rattle.sof_desk.specs.declared.calls.LoadFault.TheVariants.{TooLong}
use Rattle.sof_desk.specs.Desk.{DeskMeaning, DeskPlace, Slot, Spoken, Create, Put, DeskCall, Load, Did, with_more, with_nothing}
use Rattle.tplg_model.specs.declared.block.Topology.{Topology}
use Rattle.tplg_model.specs.File.{spelling}
use Rattle.tplg_compile.specs.declared.source_fault.SourceFault.{SourceFault}
use Rattle.tplg_compile.specs.Compiled.{IsCompiled, IsCompileFault}
use Rattle.run_desk.specs.Lines.{no_memory_line, with_newline}
use Rattle.run_desk.specs.TopologyBytes.{IsFile}
use Rattle.run_desk.specs.DeskCalls.{saying, heard_in}
use Rattle.run_desk.specs.SaidText.{Spoke, IsFront}
use Rattle.run_words.specs.ToolForms.{CompileNames, compile_of}
use Rattle.run_tools.specs.Compiling.{source_line, wrote_line}

-- a file was created in slot 0, its bytes were appended, and their number was said
abbrev pub making : List ℕ → List ℕ → List DeskCall
making out bytes = Did (Create 0 out) true ∷ Did (Put (Slot 0) bytes) true ∷ saying (with_newline (wrote_line bytes)) ∷ []

-- The status by the source's bytes, whose cases exclude each other, and all calls on the desk: a desk that failed or want of
-- memory; 5 where the source is too long; 4 where it is refused, and then the line for its fault was said; 0 where it is the
-- source of a topology that keeps all rules, and then the topology's file was made.
abbrev pub CompileVerdict : CompileNames → List ℕ → List DeskCall → ℕ → Type 0
CompileVerdict names text calls status =
    ((status ≡ 3) ⊎ (status ≡ 7))
    ⊎ (((status ≡ 5) × (1048576 < length text) × (calls ≡ Load names.source 1048576 (Err TooLong) ∷ saying (codes "too long source\n") ∷ []))
    ⊎ (((fault : SourceFault) × (status ≡ 4) × (length text ≤ 1048576) × IsCompileFault text fault
    × (calls ≡ Load names.source 1048576 (Ok text) ∷ saying (source_line fault) ∷ []))
    ⊎ ((status ≡ 0) × (length text ≤ 1048576) × ((t : Topology) × IsCompiled text t × (calls ≡ Load names.source 1048576 (Ok text) ∷ making names.out (spelling t))))))

-- ---- what was written

-- what stands at a place once slot 0 was created, these bytes were appended to it and these were said
abbrev pub compiled_at : List ℕ → List ℕ → DeskPlace → Option (List ℕ) → Option (List ℕ)
compiled_at file said Spoken was = with_more was said
compiled_at file said (Slot n) was = if nat_eq 0 n then with_more (with_nothing was) file else was

-- slot 0 was created, these bytes were appended to it and these were said, and nothing else was written
abbrev pub MadeFile : {D : Type 0} → DeskMeaning D → List ℕ → List ℕ → D → D → Type 0
MadeFile means file said old new = (place : DeskPlace) → means.wrote new place ≡ compiled_at file said place (means.wrote old place)

-- A file was made and a line said: with status 0 all bytes and all of the line; with status 3 a front of the bytes and no line,
-- or all bytes and a front of the line. Or nothing was made: the line for want of memory was said, or with status 3 a front
-- of it.
abbrev pub WroteFile : {D : Type 0} → DeskMeaning D → List ℕ → List ℕ → D → D → ℕ → Type 0
WroteFile means bytes line old new status =
    ((status ≡ 0) × MadeFile means bytes line old new)
    ⊎ (((status ≡ 3) × ((part : List ℕ) × IsFront part bytes × MadeFile means part [] old new))
    ⊎ (((status ≡ 3) × ((part : List ℕ) × IsFront part line × MadeFile means bytes part old new))
    ⊎ (((status ≡ 7) × Spoke means no_memory_line old new)
    ⊎ ((status ≡ 3) × ((part : List ℕ) × IsFront part no_memory_line × Spoke means part old new)))))

-- ---- all

-- Where the words are those of `compile`.
pub record Compiles {D P : Type 0} (means : DeskMeaning D) (words : List (List ℕ)) (old : D) (p : P) (calls : List DeskCall) (status : ℕ) (new : D) (q : P) : Type 0 where
  -- the device is not touched
  pub alone : (names : CompileNames) → compile_of words ≡ Some names → q ≡ p
  -- the status is by the bytes of the source that the words name, where the desk tells them, and, whatever the desk tells, by those that
  -- the load brought
  pub judged : (names : CompileNames) (text : List ℕ) → compile_of words ≡ Some names → (means.holds old names.source ≡ Some text) ⊎ (heard_in calls ≡ Ok text ∷ [])
      → CompileVerdict names text calls status
  -- of a source within its limit the file of its topology was made, or a front of it, and nothing else was written
  pub wrote : (names : CompileNames) (text : List ℕ) (t : Topology) → compile_of words ≡ Some names → means.holds old names.source ≡ Some text → length text ≤ 1048576 → IsCompiled text t
      → WroteFile means (spelling t) (with_newline (wrote_line (spelling t))) old new status
  -- what was made reads back as the topology
  pub reads_back : (names : CompileNames) (text : List ℕ) (t : Topology) → compile_of words ≡ Some names → means.holds old names.source ≡ Some text → IsCompiled text t → status ≡ 0
      → IsFile (spelling t) t
