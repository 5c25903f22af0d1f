-- What the calls on a link do to its device, and to what it holds.
use Rattle.std.proofs.Common.{◌≡◌, ℕ, ◌+◌, ◌≤◌, ◌<◌, ◌^◌, replicate, List, [], ◌∷◌, Option, refl, sym, ap, subst, arith}
use Rattle.mbox_link.specs.declared.fates.Fate.{Fate}
use Rattle.mbox_link.specs.declared.fates.Fate.TheVariants.{Pass, Refuse, Drop, Lose}
use Rattle.mbox_link.specs.Meetings.{without_entry}
use Rattle.mbox_link.specs.Exchange.{more}
use Rattle.mbox_link.specs.Calls.{World, Meaning, Call, Boot, Cut, Exchange, Tick, Did, Led, Exchanged, Steady}
use Rattle.mbox_link.specs.Wire.{Wire}
use Rattle.mbox_link.specs.Link.{link, inner, over, Met, MetLate, after_message, next_fate, next_lag, dropped_after, refused_after}
use Rattle.mbox_link.proofs.FateLaws.{AreHeld-without}
use Rattle.mbox_link.proofs.Steps.{NoneFell-same}
use Rattle.mbox_link.proofs.Led.{Steady-by, Led-steady}
use Rattle.sof_session.specs.Agreement.{IsFated}

-- ---- what is held

dropped-few : (fate : Fate) (count sent : ℕ) → count ≤ sent → count < 2 ^ 64 → dropped_after fate count ≤ more sent
dropped-few Pass count sent few below = grind (arith, few, below)
dropped-few fate count sent few below = grind (arith, few, below)

refused-few : (fate : Fate) (count sent : ℕ) → count ≤ sent → count < 2 ^ 64 → refused_after fate count ≤ more sent
refused-few Pass count sent few below = grind (arith, few, below)
refused-few fate count sent few below = grind (arith, few, below)

more-counted : (count : ℕ) → more count < 2 ^ 64
more-counted count = grind arith

pub more-few : (count : ℕ) → more count ≤ count + 1
more-few count = grind arith

-- the link with another device, and after a message
over_fated : {P : Type 0} (wire : Wire P) (dsp : P) (after : Wire P) → IsFated wire → after ≡ over wire dsp → IsFated after
over_fated wire dsp after fated is = subst IsFated (sym is) record { held = fated.held; dropped = fated.dropped; refused = fated.refused; counted = fated.counted }

message_fated : {P : Type 0} (wire : Wire P) (dsp : P) (after : Wire P) → IsFated wire → after ≡ after_message wire dsp → IsFated after
message_fated wire dsp after fated is = subst IsFated (sym is) record {
  held = AreHeld-without (more wire.sent) wire.entries fated.held;
  dropped = dropped-few (next_fate wire) wire.dropped wire.sent fated.dropped (omega (arith, fated.dropped, fated.counted));
  refused = refused-few (next_fate wire) wire.refused wire.sent fated.refused (omega (arith, fated.refused, fated.counted));
  counted = more-counted wire.sent;
}

-- ---- what the device does

module _ {P : Type 0} (means : Meaning P) where
  pub Steady-none : (a b : P) → b ≡ a → Steady means a b
  Steady-none a b same = subst (Steady means a) (sym same) record { faults = NoneFell-same (means.faults a); refusals = NoneFell-same (means.refusals a); boots = omega arith; pending = omega arith; most = refl }

  met_steady : (fate : Fate) (request : List ℕ) (answer : Option (List ℕ)) (w v : World P) → Met means fate request answer w v → Steady means w.device v.device
  met_steady Pass request answer w v met = met.steady
  met_steady (Refuse e) request answer w v met = Steady-none w.device v.device (ap (λ (x : World P). x.device) met.1)
  met_steady Drop request answer w v met = Steady-none w.device v.device (ap (λ (x : World P). x.device) met.1)
  met_steady Lose request answer w v met = met.2.steady

  -- the ticks before it, and then what its fate says
  late_steady : (lag : ℕ) (fate : Fate) (request : List ℕ) (answer : Option (List ℕ)) (w v : World P) → MetLate means lag fate request answer w v → Steady means w.device v.device
  late_steady lag fate request answer w v (m, led, met) =
      Steady-by means w.device m.device v.device (Led-steady means (replicate lag Tick) w m led) (met_steady fate request answer m v met)

  -- a message
  module _ (request : List ℕ) (answer : Option (List ℕ)) (w v : World (Wire P)) (x : Exchanged (link means) request answer w v) where
    pub exchange_steady : Steady means w.device.device v.device.device
    exchange_steady = late_steady (next_lag w.device) (next_fate w.device) request answer (inner w) (inner v) x.did.0

    pub exchange_fated : IsFated w.device → IsFated v.device
    exchange_fated fated = message_fated w.device v.device.device v.device fated x.did.1

    pub exchange_sent : v.device.sent ≡ more w.device.sent
    exchange_sent = ap (λ (wire : Wire P). wire.sent) x.did.1

    pub exchange_entries : v.device.entries ≡ without_entry (more w.device.sent) w.device.entries
    exchange_entries = ap (λ (wire : Wire P). wire.entries) x.did.1

  -- a call
  call_fated : (call : Call) (w v : World (Wire P)) → IsFated w.device → Did (link means) call w v → IsFated v.device
  call_fated (Boot heap) w v fated d = over_fated w.device v.device.device v.device fated d.0.did.1
  call_fated Cut w v fated d = over_fated w.device v.device.device v.device fated d.0.did.1
  call_fated (Exchange request answer) w v fated d = exchange_fated request answer w v d fated
  call_fated Tick w v fated d = over_fated w.device v.device.device v.device fated d.did.1

  abbrev one_call : (call : Call) (w v : World P) → Did means call w v → Steady means w.device v.device
  one_call call w v d = Led-steady means (call ∷ []) w v (v, d, refl)

  call_steady : (call : Call) (w v : World (Wire P)) → Did (link means) call w v → Steady means w.device.device v.device.device
  call_steady (Boot heap) w v d = one_call (Boot heap) (inner w) (inner v) (d.0.did.0, d.1)
  call_steady Cut w v d = one_call Cut (inner w) (inner v) (d.0.did.0, d.1)
  call_steady (Exchange request answer) w v d = exchange_steady request answer w v d
  call_steady Tick w v d = one_call Tick (inner w) (inner v) d.did.0

  -- calls, one after the other
  pub Led-fated : (calls : List Call) (w v : World (Wire P)) → IsFated w.device → Led (link means) w calls v → IsFated v.device
  Led-fated [] w v fated led = subst (λ (x : World (Wire P)). IsFated x.device) (sym led) fated
  Led-fated (call ∷ calls) w v fated led = Led-fated calls led.0 v (call_fated call w led.0 fated led.1) led.2

  pub Led-inside : (calls : List Call) (w v : World (Wire P)) → Led (link means) w calls v → Steady means w.device.device v.device.device
  Led-inside [] w v led = Steady-none w.device.device v.device.device (ap (λ (x : World (Wire P)). x.device.device) led)
  Led-inside (call ∷ calls) w v led =
      Steady-by means w.device.device led.0.device.device v.device.device (call_steady call w led.0 led.1) (Led-inside calls led.0 v led.2)
