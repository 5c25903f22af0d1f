-- The phases of `compile`, one after another.
use Rattle.std.proofs.Common.{◌≡◌, ℕ, Bool, true, false, List, [], ◌∷◌, Some, Ok, Err, refl, sym, ◌∙◌, ap, subst, codes, if◌then◌else◌}
use Rattle.sof_desk.specs.Desk.{DeskMeaning, Create, Put, Slot, Loaded, Acted}
use Rattle.tplg_model.specs.declared.block.Topology.{Topology}
use Rattle.tplg_model.specs.File.{IsTopology, spelling}
use Rattle.tplg_compile.specs.declared.source_fault.SourceFault.{SourceFault}
use Rattle.tplg_compile.specs.declared.source_fault.SourceFault.TheVariants.{Syntax, OutOfMemory}
use Rattle.tplg_compile.specs.Results.{FaultIs}
use Rattle.tplg_compile.specs.InOrder.{compiled_of}
use Rattle.run_desk.specs.Todo.{Todo, End, Stop, Ask, Do, Free, Played, DeskPhase}
use Rattle.run_desk.specs.TopologyBytes.{AreBytes}
use Rattle.run_desk.specs.LinesTodo.{lines_todo}
use Rattle.run_words.specs.ToolForms.{CompileNames}
use Rattle.run_tools.specs.Compiling.{source_line, source_status, wrote_line}
use Rattle.run_tools.specs.CompileTodo.{file_todo, compiled_todo, compile}
use Rattle.run_desk.proofs.Statuses.{ends}
use Rattle.run_desk.proofs.Steps.{do_on, do_off, ask_on, free_on, free_off}

module _ {D : Type 0} (means : DeskMeaning D) where
  module _ (out bytes : List ℕ) where
    -- the file is not created
    pub not_created : (old new : D) → Acted means (Create 0 out) false old new → DeskPhase means (file_todo out bytes) false old new
    not_created old new created = λ rest. do_off means (Create 0 out) (Do (Put (Slot 0) bytes) (lines_todo (wrote_line bytes ∷ []) rest)) old new created

    module _ (old m : D) (created : Acted means (Create 0 out) true old m) where
      -- its bytes are not all appended
      pub not_appended : (new : D) → Acted means (Put (Slot 0) bytes) false m new → DeskPhase means (file_todo out bytes) false old new
      not_appended new appended = λ rest.
          do_on means (Create 0 out) (Do (Put (Slot 0) bytes) (lines_todo (wrote_line bytes ∷ []) rest)) [] 3 old m new created
          (do_off means (Put (Slot 0) bytes) (lines_todo (wrote_line bytes ∷ []) rest) m new appended)

      -- they are, and then their number is said or not
      pub appended_on : (n new : D) (done : Bool) → Acted means (Put (Slot 0) bytes) true m n → DeskPhase means (lines_todo (wrote_line bytes ∷ [])) done n new → DeskPhase means (file_todo out bytes) done old new
      appended_on n new true appended said = λ rest turns status end played.
          do_on means (Create 0 out) (Do (Put (Slot 0) bytes) (lines_todo (wrote_line bytes ∷ []) rest)) turns status old m end created
          (do_on means (Put (Slot 0) bytes) (lines_todo (wrote_line bytes ∷ []) rest) turns status m n end appended (said rest turns status end played))
      appended_on n new false appended said = λ rest.
          do_on means (Create 0 out) (Do (Put (Slot 0) bytes) (lines_todo (wrote_line bytes ∷ []) rest)) [] 3 old m new created
          (do_on means (Put (Slot 0) bytes) (lines_todo (wrote_line bytes ∷ []) rest) [] 3 m n new appended (said rest))

  pub file_ended : (out bytes : List ℕ) (done : Bool) (old new : D) → DeskPhase means (file_todo out bytes) done old new → Played means (file_todo out bytes End) old [] (if done then 0 else 3) new
  file_ended out bytes true old new phase = phase End [] 0 new record { calls = []; led = refl; goes = (refl, refl, refl) }
  file_ended out bytes false old new phase = phase End

  -- the source was loaded
  module _ (names : CompileNames) (text : List ℕ) (old m new : D) (loaded : Loaded means names.source 1048576 (Ok text) old m) (are : AreBytes text) where
    after : (status : ℕ) → Played means (Free (compiled_todo names.out (compiled_of text))) m [] status new → Played means (compile names) old [] status new
    after status played = ask_on means names.source 1048576 (codes "too long source\n") (λ text. Free (compiled_todo names.out (compiled_of text))) text [] status old m new loaded are played

    -- the file of its topology was made, or not all of it
    pub made : (t : Topology) (bytes : List ℕ) (done : Bool) → compiled_of text ≡ Ok t → bytes ≡ spelling t → DeskPhase means (file_todo names.out bytes) done m new → Played means (compile names) old [] (if done then 0 else 3) new
    made t bytes done is same phase =
        after (if done then 0 else 3) (free_on means (compiled_todo names.out (compiled_of text)) [] (if done then 0 else 3) m new
        (subst (λ r. Played means (compiled_todo names.out r) m [] (if done then 0 else 3) new) (sym is)
        (subst (λ xs. Played means (file_todo names.out xs End) m [] (if done then 0 else 3) new) same (file_ended names.out bytes done m new phase))))

    told : (f : SourceFault) (status : ℕ) → compiled_of text ≡ Err f → Played means (Stop (source_line f) (source_status f)) m [] status new → Played means (compile names) old [] status new
    told f status is played =
        after status (free_on means (compiled_todo names.out (compiled_of text)) [] status m new (subst (λ r. Played means (compiled_todo names.out r) m [] status new) (sym is) played))

    -- why it is refused was said
    pub refused : (f : SourceFault) (status : ℕ) → FaultIs f (compiled_of text) → Played means (Stop (source_line f) (source_status f)) m [] status new → Played means (compile names) old [] status new
    refused OutOfMemory status is played = after status (free_off means (compiled_todo names.out (compiled_of text)) status m new played)
    refused f status is played = told f status is played

-- ---- with status 0 a topology was made

not_zero : (f : SourceFault) → source_status f ≡ 0 → ⊥
not_zero Syntax e = cc e
not_zero f e = cc e

module _ {D : Type 0} (means : DeskMeaning D) where
  -- nothing is made where the source is refused
  pub none_refused : (f : SourceFault) (old new : D) (status : ℕ) → Played means (Stop (source_line f) (source_status f)) old [] status new → status ≡ 0 → ⊥
  none_refused f old new status played =
      ends (λ n. n ≡ 0 → ⊥) (λ name. Unit {0}) (Stop (source_line f) (source_status f)) [] played.calls status played.goes (not_zero f) (λ e. cc e)

  -- nor where it is not loaded
  pub none_missing : (name line : List ℕ) (limit : ℕ) (old new : D) (status : ℕ) → ((next : List ℕ → Todo) → Played means (Ask name limit line next) old [] status new) → status ≡ 0 → ⊥
  none_missing name line limit old new status missing =
      let played = missing (λ bytes. Stop [] 1) in
      ends (λ n. n ≡ 0 → ⊥) (λ name. Unit {0}) (Ask name limit line (λ bytes. Stop [] 1)) [] played.calls status played.goes (tt, (λ e. cc e), (λ e. cc e), (λ bytes. λ e. cc e)) (λ e. cc e)

  -- the topology of the loaded text is the one that was made
  pub made_is : (name text : List ℕ) (limit : ℕ) (old m : D) (t : Topology) → Loaded means name limit (Ok text) old m → compiled_of text ≡ Ok t → IsTopology t
      → (told : List ℕ) (u : Topology) → means.holds old name ≡ Some told → compiled_of told ≡ Ok u → IsTopology u
  made_is name text limit old m t loaded is sound told u holds other =
      let same : text ≡ told = loaded.answers.1 told holds in
      let one : t ≡ u = cc (sym is ∙ ap compiled_of same ∙ other) in
      subst IsTopology one sound
