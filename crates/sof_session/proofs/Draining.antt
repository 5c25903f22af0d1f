-- A session whose device let go of what it held is as it was.
use Rattle.std.proofs.Common.{◌≡◌, ◌∙◌, ℕ, List, sym, ap, subst, Option, Some, None, option_map, arith}
use Rattle.stream_law.specs.State.{FwState, View, view_of}
use Rattle.mbox_link.specs.Calls.{Meaning, Quiet}
use Rattle.mbox_link.specs.Wire.{Wire}
use Rattle.mbox_link.specs.Drained.{over_drained}
use Rattle.host_widgets.specs.declared.kept.Power.{Power}
use Rattle.host_widgets.specs.declared.kept.Power.TheVariants.{Unloaded, On, Off}
use Rattle.host_widgets.specs.Host.{SidesBy}
use Rattle.host_dynamic.specs.UpDevices.{there_on}
use Rattle.host_dynamic.specs.UpStates.{IsUpState}
use Rattle.sof_session.specs.SessionView.{SessionView, with_device}
use Rattle.sof_session.specs.Agreement.{AreAgreed, Powered, PoweredBy, Ringed, expected_in}

module _ {P : Type 0} (means : Meaning P) (seat : SessionView P) (dsp : P) (on : means.on dsp ≡ means.on seat.link.device) where
  sides-same : (view : View) (power : Power) → SidesBy means seat.plan view seat.kept seat.link.device power → SidesBy means seat.plan view seat.kept dsp power
  sides-same view Unloaded sides = (sides.0, on ∙ sides.1)
  sides-same view On sides = ap (λ (s : Option FwState). option_map view_of s) on ∙ sides
  sides-same view Off sides = (sides.0, on ∙ sides.1)

  load-same : (power : Power) → Powered means seat power → Powered means (with_device seat dsp) power
  load-same Unloaded off = on ∙ off
  load-same On (f, is, keeps) = (f, on ∙ is, keeps)
  load-same Off off = on ∙ off

  powered-same : (up : Option (List ℕ)) → PoweredBy means seat up → PoweredBy means (with_device seat dsp) up
  powered-same None powered = load-same seat.kept.power powered
  powered-same (Some up) powered = subst (λ (o : Option FwState). IsUpState seat.plan (record { kept = seat.kept; up = up; there = there_on o }) × Ringed o) (sym on) powered

  pub AreAgreed-drained : Quiet means seat.link.device dsp → AreAgreed means seat → AreAgreed means (with_device seat dsp)
  AreAgreed-drained quiet agreed = record {
    agree = record { record_is = agreed.agree.record_is; sides = sides-same (expected_in seat.up seat.plan seat.kept) seat.kept.power agreed.agree.sides };
    powered = powered-same seat.up agreed.powered;
    room = omega (arith, quiet.most, agreed.room);
    pending = quiet.pending ∙ agreed.pending;
    fated = record { held = agreed.fated.held; dropped = agreed.fated.dropped; refused = agreed.fated.refused; counted = agreed.fated.counted };
    sound = agreed.sound;
  }

-- a link that was drained, in its session
module _ {P : Type 0} (means : Meaning P) (empties : P → P → Type 0) (seat : SessionView P) (drained : Wire P) (done : over_drained means empties seat.link drained) where
  abbrev after : SessionView P
  after = record { link = drained; kept = seat.kept; plan = seat.plan; heap = seat.heap; up = seat.up }

  pub session-same : after ≡ with_device seat drained.device
  session-same = ap (λ (l : Wire P). record { link = l; kept = seat.kept; plan = seat.plan; heap = seat.heap; up = seat.up }) done.1

  pub session-agreed : AreAgreed means seat → AreAgreed means after
  session-agreed agreed = subst (AreAgreed means) (sym session-same) (AreAgreed-drained means seat drained.device done.0.on done.0.quiet agreed)
