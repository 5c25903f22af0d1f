-- Rows that are done, and what they leave.
use Rattle.std.proofs.Common.{◌≡◌, refl, sym, ap, ◌∙◌, subst, ℕ, Bool, true, false, cond, not, ◌||◌, Result, Ok, Err, ℤ}
use Rattle.std.specs.Prelude.{OnErr, OnOk}
use Rattle.std.proofs.lemmas.Bool.{or_parts}
use Rattle.sof_base.specs.declared.errno.Errno.{Errno}
use Rattle.stream_law.specs.State.{FwState, View, view_of}
use Rattle.mbox_link.specs.Step.{busy, no_memory}
use Rattle.row_laws.specs.Tiled.{heap_bytes}
use Rattle.row_laws.specs.Kept.{FirmwareInvariant}
use Rattle.row_laws.specs.RowLaws.{RowIsKept}
use Rattle.fw_heap.specs.Regions.{RegionState}
use Rattle.fw_components.specs.Tables.{Tables}
use Rattle.fw_pipeline.specs.Rows as rows
use Rattle.fw_components.specs.States.{AreOf}
use Rattle.fw_schedule.specs.Ticks.{HasShapes}
use Rattle.fw_core.specs.Held.{state_in, IsPieceHeld}
use Rattle.fw_core.specs.Answers.{answer_of, IsRow}

-- a row that is done passes each of its tests
pub pass : (b : Bool) (e : ℤ) (x : Result FwState ℤ) (g : FwState) → cond b (Err e) x ≡ Ok g → x ≡ Ok g
pass true e x g is = cc
pass false e x g is = is

-- and tells which way they went
pub passed : (b : Bool) (e : ℤ) (x : Result FwState ℤ) (g : FwState) → cond b (Err e) x ≡ Ok g → b ≡ false
passed true e x g is = cc
passed false e x g is = refl

pub same-ok : (f g : FwState) → ◌≡◌ {A = Result FwState ℤ} (Ok f) (Ok g) → f ≡ g
same-ok f g is = cc

pub not-false : (h : Bool) → not h ≡ false → h ≡ true
not-false true e = refl
not-false false e = cc

-- what the tests of a row that brings something say
pub new-tests : (used other full hole : Bool) (h g : FwState) → cond (used || other) (Err busy) (cond (full || not hole) (Err no_memory) (Ok h)) ≡ Ok g → (used ≡ false) × (hole ≡ true) × (h ≡ g)
new-tests used other full hole h g is =
    let right = pass (used || other) busy (cond (full || not hole) (Err no_memory) (Ok h)) g is in (
      (or_parts used other (passed (used || other) busy (cond (full || not hole) (Err no_memory) (Ok h)) g is)).0,
      not-false hole (or_parts full (not hole) (passed (full || not hole) no_memory (Ok h) g right)).1,
      same-ok h g (pass (full || not hole) no_memory (Ok h) g right),
    )

-- What a call answers is what its row tells, where the views agree, and the state is the row's where it is done.
pub told-by : {X : Type 0} (answer : Result X Errno) (o : Result FwState ℤ) (v : View) (s : FwState) → rows.view_answer v answer ≡ rows.view_after o → ((g : FwState) → o ≡ Ok g → view_of g ≡ v → OnOk answer (g ≡ s)) → answer_of s answer ≡ o
told-by (Ok done) (Ok g) v s is leads = ap (λ (f : FwState). let r : Result FwState ℤ = Ok f in r) (sym (leads g refl (same-view g v is)))
  where
    same-view : (g : FwState) (v : View) → ◌≡◌ {A = Result View ℤ} (Ok v) (Ok (view_of g)) → view_of g ≡ v
    same-view g v is = cc
told-by (Ok done) (Err e) v s is leads = cc
told-by (Err error) (Ok g) v s is leads = cc
told-by (Err error) (Err e) v s is leads = ap (λ (n : ℤ). let r : Result FwState ℤ = Err n in r) (same-error error.0 e is)
  where
    same-error : (m n : ℤ) → ◌≡◌ {A = Result View ℤ} (Err m) (Err n) → m ≡ n
    same-error m n is = cc

-- all that is said of a row, by what it tells
pub row-is : {X : Type 0} (row : FwState → Result FwState ℤ) (t u : Tables) (r s : RegionState) (answer : Result X Errno) → IsPieceHeld t r
    → ((clock : ℕ) → answer_of (state_in u s clock) answer ≡ row (state_in t r clock))
    → RowIsKept row → ((f g : FwState) → FirmwareInvariant f → row f ≡ Ok g → heap_bytes g.heap ≡ heap_bytes f.heap)
    → OnOk answer (AreOf s.home u) → OnOk answer (row (state_in t r 0) ≡ Ok (state_in u s 0) → HasShapes u) → ((s.home ≡ r.home) × (s.size ≡ r.size) × (s.usable ≡ r.usable)) → OnErr answer ((u ≡ t) × (s ≡ r)) → IsRow row t u r s answer
row-is {X} row t u r s answer held told keeps whole homes shapes same kept = record { told = told; held = by answer told homes shapes kept; same = same; kept = kept }
  where
    by : (answer : Result X Errno) → ((clock : ℕ) → answer_of (state_in u s clock) answer ≡ row (state_in t r clock)) → OnOk answer (AreOf s.home u) → OnOk answer (row (state_in t r 0) ≡ Ok (state_in u s 0) → HasShapes u) → OnErr answer ((u ≡ t) × (s ≡ r)) → IsPieceHeld u s
    by (Ok done) told homes shapes kept = record {
      kept = λ clock. keeps (state_in t r clock) (state_in u s clock) (held.kept clock) (sym (told clock));
      homes = homes;
      whole = whole (state_in t r 0) (state_in u s 0) (held.kept 0) (sym (told 0)) ∙ held.whole ∙ sym same.2;
      shapes = shapes (sym (told 0));
    }
    by (Err error) told homes shapes kept = subst (λ (p : Tables × RegionState). IsPieceHeld p.0 p.1) (λ i. (sym kept.0 i, sym kept.1 i)) held

-- where nothing changes
pub row-stays : {X : Type 0} (row : FwState → Result FwState ℤ) (t : Tables) (r : RegionState) (answer : Result X Errno) → IsPieceHeld t r → ((clock : ℕ) → answer_of (state_in t r clock) answer ≡ row (state_in t r clock)) → IsRow row t t r r answer
row-stays {X} row t r answer held told = record { told = told; held = held; same = (refl, refl, refl); kept = by answer }
  where
    by : (answer : Result X Errno) → OnErr answer ((t ≡ t) × (r ≡ r))
    by (Ok done) = tt
    by (Err error) = (refl, refl)

-- what follows where it is done
pub on-ok : {X A B : Type 0} (answer : Result X Errno) → OnOk answer A → (A → B) → OnOk answer B
on-ok (Ok done) a to = to a
on-ok (Err error) a to = tt
