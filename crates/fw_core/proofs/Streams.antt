-- The rows of streams: their states are stated by the calls themselves.
use Rattle.std.proofs.Common.{◌≡◌, refl, ap, subst, ℕ, Bool, cond, Result, Ok, Err, ℤ}
use Rattle.std.specs.Prelude.{OnErr, OnOk}
use Rattle.sof_base.specs.declared.errno.Errno.{Errno}
use Rattle.sof_base.specs.declared.format.Params.{Params}
use Rattle.stream_law.specs.declared.stream.Phase.TheVariants.{Prepared, Running, Paused}
use Rattle.stream_law.specs.State.{FwState}
use Rattle.stream_law.specs.Ways.{is_live_phase, is_running_phase}
use Rattle.mbox_link.specs.Step.{pcm_params, is_prepared, is_paused, no_device, invalid}
use Rattle.row_laws.specs.Tiled.{heap_bytes}
use Rattle.row_laws.specs.RowLaws.{RowIsKept}
use Rattle.row_laws.proofs.RowKept.{pcm_free-kept, trigger-kept, leaves-prepared, leaves-moving, leaves-running, leaves-paused}
use Rattle.fw_heap.specs.Regions.{RegionState}
use Rattle.fw_components.specs.Tables.{Tables}
use Rattle.fw_pipeline.specs.declared.phases.Trigger.{Trigger}
use Rattle.fw_pipeline.specs.declared.phases.Trigger.TheVariants as what
use Rattle.fw_pipeline.specs.Rows.{told_state}
use Rattle.fw_pipeline.specs.Triggers.{triggered}
use Rattle.fw_core.specs.Held.{state_in}
use Rattle.fw_core.specs.Answers.{answer_of}
use Rattle.fw_core.proofs.RowLaws.{pass}

-- ---- what they keep

pub triggered-kept : (t : Trigger) (host : ℕ) → RowIsKept (λ f. triggered t f host)
triggered-kept what.Start host f g kept is = trigger-kept host is_prepared Running leaves-prepared refl f g kept is
triggered-kept what.Stop host f g kept is = trigger-kept host is_live_phase Prepared leaves-moving refl f g kept is
triggered-kept what.Pause host f g kept is = trigger-kept host is_running_phase Paused leaves-running refl f g kept is
triggered-kept what.Release host f g kept is = trigger-kept host is_paused Running leaves-paused refl f g kept is
triggered-kept what.Free host f g kept is = pcm_free-kept host f g kept is

same-heap : (f g h : FwState) → h.heap ≡ f.heap → ◌≡◌ {A = Result FwState ℤ} (Ok h) (Ok g) → heap_bytes g.heap ≡ heap_bytes f.heap
same-heap f g h same is = let e : h ≡ g = cc in subst (λ (g : FwState). heap_bytes g.heap ≡ heap_bytes f.heap) e (ap heap_bytes same)

two-tests : (a b : Bool) (e n : ℤ) (f g h : FwState) → h.heap ≡ f.heap → cond a (Err e) (cond b (Err n) (Ok h)) ≡ Ok g → heap_bytes g.heap ≡ heap_bytes f.heap
two-tests a b e n f g h same is = same-heap f g h same (pass b n (Ok h) g (pass a e (cond b (Err n) (Ok h)) g is))

pub triggered-whole : (t : Trigger) (host : ℕ) (f g : FwState) → triggered t f host ≡ Ok g → heap_bytes g.heap ≡ heap_bytes f.heap
triggered-whole what.Start host f g is = two-tests _ _ no_device invalid f g _ refl is
triggered-whole what.Stop host f g is = two-tests _ _ no_device invalid f g _ refl is
triggered-whole what.Pause host f g is = two-tests _ _ no_device invalid f g _ refl is
triggered-whole what.Release host f g is = two-tests _ _ no_device invalid f g _ refl is
triggered-whole what.Free host f g is = two-tests _ _ no_device invalid f g _ refl is

pub params-whole : (host direction : ℕ) (p : Params) (f g : FwState) → pcm_params f host direction p ≡ Ok g → heap_bytes g.heap ≡ heap_bytes f.heap
params-whole host direction p f g is = two-tests _ _ no_device invalid f g _ refl is

-- ---- what calls tell

-- the state that a call tells is that of its row
pub told-state : {X : Type 0} (t u : Tables) (r : RegionState) (clock : ℕ) (answer : Result X Errno) (o : Result FwState ℤ) → told_state u (state_in t r clock) answer ≡ o → answer_of (state_in u r clock) answer ≡ o
told-state t u r clock (Ok done) o is = is
told-state t u r clock (Err error) o is = is

pub ok-homes : {X : Type 0} (A : Type 0) (answer : Result X Errno) → A → OnOk answer A
ok-homes A (Ok done) a = a
ok-homes A (Err error) a = tt

pub err-same : {X : Type 0} (t u : Tables) (r : RegionState) (answer : Result X Errno) → OnErr answer (u ≡ t) → OnErr answer ((u ≡ t) × (r ≡ r))
err-same t u r (Ok done) kept = kept
err-same t u r (Err error) kept = (kept, refl)
