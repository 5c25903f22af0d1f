-- The records of a trace that are left, said, make all of it said.
use Rattle.std.proofs.Common.{◌≡◌, ◌≤◌, ℕ, true, false, List, [], ◌∷◌, length, Option, Some, None, refl, sym, subst}
use Rattle.sof_desk.specs.Desk.{DeskMeaning}
use Rattle.sof_base.proofs.FieldLaws.{IsBytes}
use Rattle.ipc3_trace.specs.declared.entry.Entry.{Entry}
use Rattle.ipc3_trace.specs.declared.fault.TraceFault.{TraceFault}
use Rattle.ipc3_trace.specs.EntryLines.{entry_line}
use Rattle.ipc3_trace.specs.RecordsAt.{IsRecordAt}
use Rattle.ipc3_trace.specs.TraceFaults.{IsFaultAt}
use Rattle.ipc3_trace.specs.Reading.{trace_in}
use Rattle.ipc3_trace.specs.FaultLines.{trace_fault_line}
use Rattle.ipc3_trace.proofs.WholeLaws.{StandFrom, stands-in, goes-on, ends-here}
use Rattle.run_desk.specs.Todo.{Stop, Played, DeskPhase}
use Rattle.run_desk.specs.LinesTodo.{lines_todo}
use Rattle.run_tools.specs.DecodeTodo.{decoded_todo}

-- from a place on these are left, and saying them makes all said
pub record LeftToTell {D : Type 0} (means : DeskMeaning D) (bytes : List ℕ) (at : ℕ) (old new : D) : Type 0 where
  pub es : List Entry
  pub fault : Option TraceFault
  pub stand : StandFrom bytes at es fault
  pub leads : (status : ℕ) (end : D) → Played means (decoded_todo es fault) new [] status end → Played means (decoded_todo (trace_in bytes).0 (trace_in bytes).1) old [] status end

module _ {D : Type 0} (means : DeskMeaning D) (bytes : List ℕ) where
  abbrev AllSaid : D → ℕ → D → Type 0
  AllSaid old status new = Played means (decoded_todo (trace_in bytes).0 (trace_in bytes).1) old [] status new

  pub left-first : (old : D) → IsBytes bytes → LeftToTell means bytes 0 old old
  left-first old is = record { es = (trace_in bytes).0; fault = (trace_in bytes).1; stand = stands-in bytes is; leads = λ status end played. played }

  pub left-more : (at next : ℕ) (e : Entry) (old mid new : D) → LeftToTell means bytes at old mid → IsRecordAt bytes at e next → DeskPhase means (lines_todo (entry_line e ∷ [])) true mid new → LeftToTell means bytes next old new
  left-more at next e old mid new left r phase =
      let on = goes-on bytes at left.es left.fault e next left.stand r in
      record {
        es = on.0;
        fault = left.fault;
        stand = on.2;
        leads = λ status end played. left.leads status end (subst (λ (es : List Entry). Played means (decoded_todo es left.fault) mid [] status end) (sym on.1) (phase (decoded_todo on.0 left.fault) [] status end played));
      }

  pub left-failed : (at next : ℕ) (e : Entry) (old mid new : D) → LeftToTell means bytes at old mid → IsRecordAt bytes at e next → DeskPhase means (lines_todo (entry_line e ∷ [])) false mid new → AllSaid old 3 new
  left-failed at next e old mid new left r phase =
      let on = goes-on bytes at left.es left.fault e next left.stand r in
      left.leads 3 new (subst (λ (es : List Entry). Played means (decoded_todo es left.fault) mid [] 3 new) (sym on.1) (phase (decoded_todo on.0 left.fault)))

  -- where none is left
  last : (es : List Entry) (x y : Option TraceFault) (mid new : D) (status : ℕ) → es ≡ [] → x ≡ y → Played means (decoded_todo [] y) mid [] status new → Played means (decoded_todo es x) mid [] status new
  last es x y mid new status none same played =
      let first : List Entry × Option TraceFault = ([], y) in
      let path : first ≡ (es, x) = (λ i. (sym none i, sym same i)) in
      subst (λ (p : List Entry × Option TraceFault). Played means (decoded_todo p.0 p.1) mid [] status new) path played

  pub left-done : (at : ℕ) (old mid : D) → LeftToTell means bytes at old mid → at ≡ length bytes → AllSaid old 0 mid
  left-done at old mid left here =
      let e = ends-here bytes at left.es left.fault None left.stand here in
      left.leads 0 mid (last left.es left.fault None mid mid 0 e.0 e.1 record { calls = []; led = refl; goes = (refl, refl, refl) })

  pub left-stopped : (at status : ℕ) (fault : TraceFault) (old mid new : D) → LeftToTell means bytes at old mid → at ≤ length bytes → IsFaultAt bytes at fault → Played means (Stop (trace_fault_line fault) 2) mid [] status new → AllSaid old status new
  left-stopped at status fault old mid new left within is played =
      let e = ends-here bytes at left.es left.fault (Some fault) left.stand (within, is) in
      left.leads status new (last left.es left.fault (Some fault) mid new status e.0 e.1 played)
