-- When the two sides of a session agree: before its first call, and after one that left the device in a state that keeps the plan.
use Rattle.std.proofs.Common.{◌≡◌, ℕ, ◌*◌, ◌≤◌, List, [], Bool, true, false, Option, Some, None, refl, sym, ap, ◌∙◌, subst, arith}
use Rattle.std.specs.Prelude.{is_some}
use Rattle.std.specs.Option.{option_map}
use Rattle.sof_base.specs.Ports.{Io, OutputView, HasRoom}
use Rattle.stream_law.specs.State.{FwState, View, view_of}
use Rattle.mbox_link.specs.Calls.{World, Meaning, Call, Led, Steady}
use Rattle.mbox_link.specs.Link.{link}
use Rattle.mbox_link.specs.Wire.{Wire}
use Rattle.mbox_link.proofs.Led.{Led-steady}
use Rattle.mbox_link.proofs.Rooms.{HasRoom-less}
use Rattle.tplg_plan.specs.declared.plans.Plan.{Plan}
use Rattle.host_widgets.specs.declared.kept.Power.{Power}
use Rattle.host_widgets.specs.declared.kept.Power.TheVariants.{Unloaded, On}
use Rattle.host_widgets.specs.declared.kept.Record.{Record}
use Rattle.tplg_plan.specs.Sound.{IsSound}
use Rattle.host_widgets.specs.Host.{Agrees, AgreesBy, SidesBy}
use Rattle.host_widgets.specs.Kept.{first_record}
use Rattle.host_widgets.specs.ViewOf.{record_view}
use Rattle.host_widgets.proofs.Records.{closed-record}
use Rattle.host_dynamic.specs.UpDevices.{there_on}
use Rattle.host_dynamic.specs.UpStates.{IsUpState}
use Rattle.host_dynamic.proofs.UpLoading.{first-is}
use Rattle.sof_session.specs.Agreement.{AreAgreed, IsFated, PoweredBy, Ringed, expected_in}
use Rattle.sof_session.specs.SessionView.{SessionView, first_up, seat_in}
use Rattle.sof_session.proofs.LinkFates.{Led-fated, Led-inside}

abbrev pub at : {D : Type 0} → D → Io → World D
at device io = record { device = device; io = io }

-- the device is on that shows something
pub shown-on : (device : Option FwState) (view : View) → option_map view_of device ≡ Some view → (f : FwState) × (device ≡ Some f) × (view_of f ≡ view)
shown-on None view shows = absurd (cc shows)
shown-on (Some f) view shows = (f, refl, cc shows)

-- ---- the two sides in a mode

-- a session with this up, and all else the same
abbrev pub with_up : {P : Type 0} → SessionView P → Option (List ℕ) → SessionView P
with_up seat up = record { link = seat.link; kept = seat.kept; plan = seat.plan; heap = seat.heap; up = up }

-- all pipelines are made at a load
abbrev pub AgreeAtLoad : {P : Type 0} → Meaning P → SessionView P → Type 0
AgreeAtLoad means seat = AreAgreed means (with_up seat None)

pub agreed-in : {P : Type 0} (means : Meaning P) (seat : SessionView P) (up : Option (List ℕ)) → seat.up ≡ up → AreAgreed means seat → AreAgreed means (with_up seat up)
agreed-in means seat up is agreed = subst (λ (o : Option (List ℕ)). AreAgreed means (with_up seat o)) is agreed

pub same-some : {P : Type 0} {a b : SessionView P} → a ≡ b → is_some b.up ≡ true → is_some a.up ≡ true
same-some {P} is some = ap (λ (s : SessionView P). is_some s.up) is ∙ some

-- ---- the same over its link

module _ {P : Type 0} (means : Meaning P) (plan : Plan) (view : View) (kept : Record) (wire : Wire P) where
  sides-outside : (power : Power) → SidesBy means plan view kept wire.device power → SidesBy (link means) plan view kept wire power
  sides-outside Unloaded sides = sides
  sides-outside power sides = sides

  sides-inside : (power : Power) → SidesBy (link means) plan view kept wire power → SidesBy means plan view kept wire.device power
  sides-inside Unloaded sides = sides
  sides-inside power sides = sides

  pub agrees-outside : AgreesBy means plan view kept wire.device → AgreesBy (link means) plan view kept wire
  agrees-outside agree = record { record_is = agree.record_is; sides = sides-outside kept.power agree.sides }

  pub agrees-inside : AgreesBy (link means) plan view kept wire → AgreesBy means plan view kept wire.device
  agrees-inside agree = record { record_is = agree.record_is; sides = sides-inside kept.power agree.sides }

-- where all pipelines are made at a load, by what is kept in either mode
pub seat-agrees : {P : Type 0} (means : Meaning P) (seat : SessionView P) → seat.up ≡ None → AreAgreed means seat → Agrees (link means) seat.plan seat.kept seat.link
seat-agrees means seat none agreed = agrees-outside means seat.plan (record_view seat.plan seat.kept) seat.kept seat.link (agreed-in means seat None none agreed).agree

module _ {P : Type 0} (means : Meaning P) (seat : SessionView P) (agreed : AreAgreed means seat) (on : seat.kept.power ≡ On) where
  -- the device is on where the record says so
  pub device-on : (f : FwState) × (means.on seat.link.device ≡ Some f) × (view_of f ≡ expected_in seat.up seat.plan seat.kept)
  device-on = let view = expected_in seat.up seat.plan seat.kept in shown-on (means.on seat.link.device) view (subst (SidesBy means seat.plan view seat.kept seat.link.device) on agreed.agree.sides)

  pub is-on : is_some (means.on seat.link.device) ≡ true
  is-on = ap (λ (o : Option FwState). is_some o) device-on.1

-- ---- calls

-- what calls keep
module _ {P : Type 0} (means : Meaning P) (old wire : Wire P) (io io' : Io) where
  pub record CallsKept : Type 0 where
    pub steady : Steady (link means) old wire
    pub inside : Steady means old.device wire.device
    pub fated : IsFated wire

  pub calls-kept : IsFated old → (calls : List Call) → Led (link means) (at old io) calls (at wire io') → CallsKept
  calls-kept fated calls led = record { steady = Led-steady (link means) calls (at old io) (at wire io') led; inside = Led-inside means calls (at old io) (at wire io') led; fated = Led-fated means calls (at old io) (at wire io') fated led }

-- a session after a call, over the same plan and heap
abbrev pub seat_then : {P : Type 0} → SessionView P → Wire P → Record → Option (List ℕ) → SessionView P
seat_then old wire kept up = record { link = wire; kept = kept; plan = old.plan; heap = old.heap; up = up }

pub agreed-then : {P : Type 0} (means : Meaning P) (old : SessionView P) (wire : Wire P) (io io' : Io) → AreAgreed means old → CallsKept means old.link wire io io' → (kept : Record) (up : Option (List ℕ)) → AgreesBy means old.plan (expected_in up old.plan kept) kept wire.device →
    PoweredBy means (seat_then old wire kept up) up → AreAgreed means (seat_then old wire kept up)
agreed-then means old wire io io' agreed calls kept up agree powered = record {
  agree = agree;
  powered = powered;
  room = omega (arith, agreed.room, calls.steady.most);
  pending = omega (arith, agreed.pending, calls.inside.pending);
  fated = calls.fated;
  sound = agreed.sound;
}

-- before the first command nothing is loaded, and the device is off
module _ {P : Type 0} (means : Meaning P) (plan : Plan) (heap : ℕ) (dsp : P) (off : means.on dsp ≡ None) (sound : IsSound plan) where
  -- nothing is up
  first-powered : (on_use : Bool) → PoweredBy means (seat_in on_use plan heap dsp) (first_up on_use)
  first-powered false = off
  first-powered true = subst (λ (o : Option FwState). IsUpState plan (record { kept = first_record plan; up = []; there = there_on o }) × Ringed o) (sym off) (first-is plan sound, tt)

  pub AreAgreed-new : (on_use : Bool) → means.pending dsp ≡ 0 → heap ≤ means.most dsp → AreAgreed means (seat_in on_use plan heap dsp)
  AreAgreed-new on_use pending room = record {
    agree = record { record_is = closed-record Unloaded plan; sides = (refl, off) };
    powered = first-powered on_use;
    room = room;
    pending = pending;
    fated = record { held = record { meant = tt; apart = tt; few = omega arith }; dropped = omega arith; refused = omega arith; counted = omega arith };
    sound = sound;
  }

-- ---- room

module _ {P : Type 0} (means : Meaning P) (seat : SessionView P) (agreed : AreAgreed means seat) where
  -- at most 16 ticks come before messages
  pub few-pending : (link means).pending seat.link ≤ 16
  few-pending = let few = agreed.fated.held.few in omega (arith, few, agreed.pending)

  -- for which outputs have room that are empty
  pub pending-room : (outputs : List OutputView) → HasRoom 983040 outputs → HasRoom (61440 * (link means).pending seat.link) outputs
  pending-room outputs room = HasRoom-less outputs 983040 (61440 * (link means).pending seat.link) (omega (arith, few-pending)) room
