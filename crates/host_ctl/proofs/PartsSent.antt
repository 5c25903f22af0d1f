-- What parts that were sent leave, by whether the link failed.
use Rattle.std.proofs.Common.{◌≡◌, ℕ, List, true, false, Ok, Err, refl, subst}
use Rattle.mbox_link.specs.Calls.{World, Meaning, Cut, Did}
use Rattle.tplg_plan.specs.declared.plans.Plan.{Plan}
use Rattle.host_widgets.specs.declared.answers.HostFault.{HostFault}
use Rattle.host_widgets.specs.declared.kept.Record.{Record}
use Rattle.host_widgets.specs.ActCarried.{ActsSent}
use Rattle.host_widgets.specs.ActCarried.{PlainEnd, is_down}
use Rattle.host_widgets.specs.ActLists.{part_acts}
use Rattle.host_widgets.specs.Host.{Outcome}
use Rattle.host_widgets.specs.Kept.{went_down}
use Rattle.host_widgets.proofs.LinkEnds.{down-is, stays}
use Rattle.host_ctl.specs.ControlAnswers.{PartsPass}

module _ {D : Type 0} (means : Meaning D) (plan : Plan) (heap comp : ℕ) (blob : List ℕ) (kept : Record) (w : World D) where
  ends-up : (result : Outcome) (v : World D) → is_down result ≡ false → PlainEnd means heap result kept kept v v
  ends-up (Ok done) v held = (refl, refl)
  ends-up (Err fault) v held = stays (Unit {0}) means heap kept fault v held

  ends-down : (result : Outcome) (kept' : Record) (m v : World D) → is_down result ≡ true → Did means Cut m v → kept' ≡ went_down kept → PlainEnd means heap result kept kept' m v
  ends-down (Ok done) kept' m v lost cut record_is = absurd (cc lost)
  ends-down (Err fault) kept' m v lost cut record_is = subst (λ (f : HostFault). PlainEnd means heap (Err f) kept kept' m v) (down-is (Unit {0}) fault lost) (record_is, (v, cut, refl))

  -- the link held
  pub parts-held : (v : World D) (result : Outcome) → ActsSent means plan (part_acts comp blob) w v result → is_down result ≡ false → PartsPass means plan heap comp blob kept kept w v result
  parts-held v result sent held = record { sent = v; parts = sent; ends = ends-up result v held }

  -- it failed
  pub parts-lost : (kept' : Record) (m v : World D) (result : Outcome) → ActsSent means plan (part_acts comp blob) w m result → is_down result ≡ true → Did means Cut m v → kept' ≡ went_down kept → PartsPass means plan heap comp blob kept kept' w v result
  parts-lost kept' m v result sent lost cut record_is = record { sent = m; parts = sent; ends = ends-down result kept' m v lost cut record_is }
