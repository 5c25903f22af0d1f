-- A tick by its call on the link. After it the two sides agree again and the endpoints have the same slots,
-- and the same inputs have ended.
use Rattle.std.proofs.Common.{◌≡◌, ◌⊎◌, ⊎_elim, ℕ, suc, zero, List, [], ◌∷◌, Option, Some, None, refl, sym, ap, subst, ◌∙◌}
use Rattle.std.specs.Option.{option_map}
use Rattle.sof_base.specs.Ports.{Io}
use Rattle.stream_law.specs.Move.{audio_after}
use Rattle.stream_law.specs.Past as past
use Rattle.stream_law.specs.State.{View, view_of}
use Rattle.mbox_link.specs.Exchange.{ticked}
use Rattle.mbox_link.specs.Calls.{Meaning, Tick, Did, Led}
use Rattle.mbox_link.specs.Link.{link}
use Rattle.mbox_link.specs.Wire.{Wire}
use Rattle.host_widgets.specs.declared.kept.Power.{Power}
use Rattle.host_widgets.specs.declared.kept.Power.TheVariants.{Unloaded, On, Off}
use Rattle.host_widgets.specs.ActCalls.{calls_of}
use Rattle.host_widgets.specs.Host.{SidesBy}
use Rattle.host_widgets.specs.Orders.{where_on}
use Rattle.host_widgets.specs.There.{There}
use Rattle.host_dynamic.specs.UpDevices.{there_on}
use Rattle.host_dynamic.specs.UpStates.{IsUpState}
use Rattle.host_widgets.proofs.UpExchanges.{ticks-there}
use Rattle.sof_session.specs.Agreement.{AreAgreed, Powered, PoweredBy, Ringed, expected_in}
use Rattle.sof_session.specs.SessionView.{SessionView}
use Rattle.sof_session.proofs.Agreement.{at, agreed-then, calls-kept, seat_then, shown-on}
use Rattle.sof_session.proofs.Keeping.{Keeps-moved}
use Rattle.sof_session.proofs.UpRings.{ticked-rings}
use Rattle.sof_session.proofs.Writings.{bound_ends, one-ends}

-- a tick of a device that is on, by its one call on the link; one that is off is not called
abbrev pub TickedBy : {P : Type 0} → Meaning P → Power → Wire P → Wire P → Io → Io → Type 0
TickedBy means On old new io io' = Did (link means) Tick (at old io) (at new io')
TickedBy means Unloaded old new io io' = (new ≡ old) × (io' ≡ io)
TickedBy means Off old new io io' = (new ≡ old) × (io' ≡ io)

pub off-ticked : {P : Type 0} (means : Meaning P) (power : Power) (wire : Wire P) (io : Io) → (power ≡ Unloaded) ⊎ (power ≡ Off) → TickedBy means power wire wire io io
off-ticked means Unloaded wire io off = (refl, refl)
off-ticked means Off wire io off = (refl, refl)
off-ticked means On wire io off = absurd (⊎_elim (λ (is : On ≡ Unloaded). cc is) (λ (is : On ≡ Off). cc is) off)

module _ {P : Type 0} (means : Meaning P) (old : SessionView P) (wire : Wire P) (io io' : Io) where
  abbrev TickedSo : Power → Type 0
  TickedSo power = TickedBy means power old.link wire io io'

  -- the device shows this while the power is on
  abbrev Shows : View → Power → Type 0
  Shows view power = SidesBy means old.plan view old.kept old.link.device power

  -- its calls, none where the power is not on
  pub ticked-led : (power : Power) → TickedSo power → Led (link means) (at old.link io) (calls_of old.heap (where_on power (past.Tick ∷ []))) (at wire io')
  ticked-led On tick = (at wire io', tick, refl)
  ticked-led Unloaded same = λ i. at (same.0 i) (same.1 i)
  ticked-led Off same = λ i. at (same.0 i) (same.1 i)

  -- ---- the device

  ticked-sides : (view : View) (power : Power) → Shows view power → TickedSo power → SidesBy means old.plan view old.kept wire.device power
  ticked-sides view On shows tick = let f = shown-on (means.on old.link.device) view shows in ap (option_map view_of) (tick.on f.0 f.1).0 ∙ ap (λ (v : View). Some v) f.2
  ticked-sides view Unloaded sides same = (sides.0, ap (λ (w : Wire P). means.on w.device) same.0 ∙ sides.1)
  ticked-sides view Off sides same = (sides.0, ap (λ (w : Wire P). means.on w.device) same.0 ∙ sides.1)

  ticked-powered : (power : Power) → Powered means old power → TickedSo power → Powered means (seat_then old wire old.kept old.up) power
  ticked-powered On powered tick = let f = powered.0 in ((ticked (f, io)).0, (tick.on f powered.1).0, Keeps-moved old.plan old.heap old.kept f (audio_after f io) powered.2)
  ticked-powered Unloaded powered same = ap (λ (w : Wire P). means.on w.device) same.0 ∙ powered
  ticked-powered Off powered same = ap (λ (w : Wire P). means.on w.device) same.0 ∙ powered

  -- what is there stays
  pub ticked-there : (view : View) (power : Power) → Shows view power → TickedSo power → there_on (means.on wire.device) ≡ there_on (means.on old.link.device)
  ticked-there view On shows tick = let f = shown-on (means.on old.link.device) view shows in ap there_on (tick.on f.0 f.1).0 ∙ ticks-there (suc zero) (f.0, io) ∙ sym (ap there_on f.1)
  ticked-there view Unloaded sides same = ap (λ (w : Wire P). there_on (means.on w.device)) same.0
  ticked-there view Off sides same = ap (λ (w : Wire P). there_on (means.on w.device)) same.0

  ticked-ringed : (power : Power) → TickedSo power → Ringed (means.on old.link.device) → Ringed (means.on wire.device)
  ticked-ringed On tick rings = ticked-rings (link means) (at old.link io) (at wire io') tick rings
  ticked-ringed Unloaded same rings = subst (λ (w : Wire P). Ringed (means.on w.device)) (sym same.0) rings
  ticked-ringed Off same rings = subst (λ (w : Wire P). Ringed (means.on w.device)) (sym same.0) rings

  -- ---- the endpoints

  ends-stay : (view : View) (power : Power) → Shows view power → TickedSo power → bound_ends io' ≡ bound_ends io
  ends-stay view On shows tick = let f = shown-on (means.on old.link.device) view shows in ap bound_ends (tick.on f.0 f.1).1 ∙ one-ends f.0 io
  ends-stay view Unloaded sides same = ap bound_ends same.1
  ends-stay view Off sides same = ap bound_ends same.1

  -- ---- a session

  module _ (agreed : AreAgreed means old) (tick : TickedBy means old.kept.power old.link wire io io') where
    abbrev pub ticked_seat : SessionView P
    ticked_seat = seat_then old wire old.kept old.up

    powered-by : (up : Option (List ℕ)) → PoweredBy means old up → PoweredBy means ticked_seat up
    powered-by None powered = ticked-powered old.kept.power powered tick
    powered-by (Some up) powered = (
      subst (λ (t : There). IsUpState old.plan (record { kept = old.kept; up = up; there = t })) (sym (ticked-there (expected_in old.up old.plan old.kept) old.kept.power agreed.agree.sides tick)) powered.0,
      ticked-ringed old.kept.power tick powered.1,
    )

    pub AreAgreed-ticked : AreAgreed means ticked_seat
    AreAgreed-ticked =
        agreed-then means old wire io io' agreed (calls-kept means old.link wire io io' agreed.fated (calls_of old.heap (where_on old.kept.power (past.Tick ∷ []))) (ticked-led old.kept.power tick)) old.kept old.up
        (record { record_is = agreed.agree.record_is; sides = ticked-sides (expected_in old.up old.plan old.kept) old.kept.power agreed.agree.sides tick }) (powered-by old.up agreed.powered)

    pub ticked-ends : bound_ends io' ≡ bound_ends io
    ticked-ends = ends-stay (expected_in old.up old.plan old.kept) old.kept.power agreed.agree.sides tick
