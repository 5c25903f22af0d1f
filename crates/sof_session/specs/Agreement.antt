-- What the type of a session keeps: its two sides agree.
use Rattle.std.specs.Prelude.{◌≡◌, ◌<◌, ◌≤◌, ◌^◌, ℕ, List, map, Option, Some, None}
use Rattle.stream_law.specs.State.{FwState, View}
use Rattle.stream_law.specs.Ways.{buffers}
use Rattle.mbox_link.specs.Calls.{Meaning}
use Rattle.mbox_link.specs.Wire.{Wire}
use Rattle.mbox_link.specs.Fates.{AreHeld}
use Rattle.host_widgets.specs.declared.kept.Power.{Power}
use Rattle.host_widgets.specs.declared.kept.Power.TheVariants.{On}
use Rattle.tplg_plan.specs.declared.plans.Plan.{Plan}
use Rattle.tplg_plan.specs.Sound.{IsSound}
use Rattle.host_widgets.specs.declared.kept.Record.{Record}
use Rattle.host_widgets.specs.Keeps.{KeepsRecord}
use Rattle.host_widgets.specs.Host.{AgreesBy}
use Rattle.host_widgets.specs.ViewOf.{record_view}
use Rattle.host_widgets.specs.Up.{up_view}
use Rattle.host_dynamic.specs.UpDevices.{up_state_in}
use Rattle.host_dynamic.specs.UpStates.{IsUpState}
use Rattle.sof_session.specs.SessionView.{SessionView}

-- where the record says that the power is on, the device is on in a state that keeps it; else it is off
abbrev pub Powered : {P : Type 0} → Meaning P → SessionView P → Power → Type 0
Powered means seat On = (f : FwState) × (means.on seat.link.device ≡ Some f) × KeepsRecord seat.plan seat.heap seat.kept f
Powered means seat _ = means.on seat.link.device ≡ None

-- what is planned has a meaning, all lags are at most 16 ticks, and the link has lost and refused no more messages than were sent
pub record IsFated {P : Type 0} (wire : Wire P) : Type 0 where
  pub held : AreHeld wire.entries
  pub dropped : wire.dropped ≤ wire.sent
  pub refused : wire.refused ≤ wire.sent
  pub counted : wire.sent < 2 ^ 64

-- the view that is expected while the power is on: all that the record says, or what of it is up
abbrev pub expected_in : Option (List ℕ) → Plan → Record → View
expected_in None plan kept = record_view plan kept
expected_in (Some up) plan kept = up_view plan kept up

-- a device that is on has a ring for each buffer
abbrev pub Ringed : Option FwState → Type 0
Ringed None = Unit {0}
Ringed (Some f) = map (λ r. r.buffer) f.rings ≡ buffers f.graph

-- what is kept of the device: where all pipelines are made at a load, it keeps the record while it is on; and where they are made on use,
-- what is up is what the streams need that are not closed, this, and nothing else, is there, and each buffer of it has a ring
abbrev pub PoweredBy : {P : Type 0} → Meaning P → SessionView P → Option (List ℕ) → Type 0
PoweredBy means seat None = Powered means seat seat.kept.power
PoweredBy means seat (Some up) = IsUpState seat.plan (up_state_in means seat.kept up seat.link.device) × Ringed (means.on seat.link.device)

-- The two sides agree: the device is on with the view that is expected, or off; the device itself has no tick pending, and
-- what is planned has a meaning.
pub record AreAgreed {P : Type 0} (means : Meaning P) (seat : SessionView P) : Type 0 where
  pub agree : AgreesBy means seat.plan (expected_in seat.up seat.plan seat.kept) seat.kept seat.link.device
  pub powered : PoweredBy means seat seat.up
  pub room : seat.heap ≤ means.most seat.link.device
  pub pending : means.pending seat.link.device ≡ 0
  pub fated : IsFated seat.link
  pub sound : IsSound seat.plan
