-- What a command does to a session, from what it did on its link.
use Rattle.std.proofs.Common.{◌≡◌, refl, sym, subst, ℕ, List, [], ◌++◌, map, Option}
use Rattle.sof_base.specs.Ports.{Io, InputView, OutputView}
use Rattle.sof_base.specs.DrainedOutputs.{drained}
use Rattle.stream_law.specs.State.{FwState}
use Rattle.stream_law.specs.Past.{Moment, Past, Leads}
use Rattle.mbox_link.specs.Calls.{World, Meaning}
use Rattle.mbox_link.specs.Wire.{Wire}
use Rattle.host_widgets.proofs.StandingOn.{StandsOn, Gained, stands-none}
use Rattle.sof_session.specs.SessionStep.{StandsAt}
use Rattle.sof_session.specs.SessionCalls.{ports}
use Rattle.sof_session.specs.Written.{written_between, written_in}
use Rattle.sof_session.proofs.Writings.{gained-written}

module _ {P : Type 0} (means : Meaning P) (w v : World (Wire P)) where
  -- what stood stands these moments later, and the outputs hold what was written
  abbrev pub Standing : List Moment → Type 0
  Standing moments = (whole : List (ℕ × List ℕ)) (before : List Moment) (past : Past) → StandsAt means whole before past w →
      (past' : Past) × Leads whole past moments past' × StandsAt means whole (before ++ moments) past' v
      × (written_in v.io.outputs ≡ written_between (map (λ o. o.slot) w.io.outputs) past past')

  -- from outputs to which nothing was written yet
  pub standing-by : (ms : List Moment) → StandsOn (means.on w.device.device) w.io (means.on v.device.device) v.io ms → drained w.io.outputs ≡ w.io.outputs → Standing ms
  standing-by ms on empty whole before past stood =
      let s = on whole before stood.0 in
      let so = subst (λ (p : Past). Leads whole p ms s.0.past × Gained w.io.outputs v.io.outputs p s.0.past) stood.1 (s.1, s.2) in
      (s.0.past, so.0, (s.0, refl), gained-written w.io.outputs v.io.outputs past s.0.past so.1 empty)

  -- where the device stays as it is, so does what stands
  pub stays-standing : means.on v.device.device ≡ means.on w.device.device → v.io ≡ w.io → drained w.io.outputs ≡ w.io.outputs → Standing []
  stays-standing same io empty = standing-by [] (subst (λ (x : Option FwState × Io). StandsOn (means.on w.device.device) w.io x.0 x.1 []) (λ i. (sym same i, sym io i)) (stands-none (means.on w.device.device) w.io)) empty

-- endpoints that stayed
pub same-ports : (inputs inputs' : List InputView) (outputs outputs' : List OutputView) → inputs' ≡ inputs → outputs' ≡ outputs → ports inputs' outputs' ≡ ports inputs outputs
same-ports inputs inputs' outputs outputs' ins outs = λ i. ports (ins i) (outs i)
