-- While the far side fails in no message, the calls are those of the device itself.
use Rattle.std.proofs.Common.{◌≡◌, ◌∙◌, ℕ, ◌+◌, ◌<◌, ◌≤◌, ◌^◌, List, [], ◌∷◌, Option, Some, None, sym, ap, subst, arith}
use Rattle.mbox_link.specs.Calls.{World, Meaning, Call, Boot, Cut, Exchange, Tick, Did, Led, Exchanged}
use Rattle.mbox_link.proofs.Led.{Led-one, Led-steady}
use Rattle.ipc3_far.specs.FarDevices.{FarDevice, far, own_world, FarAgrees}

module _ {P : Type 0} (means : Meaning P) where
  -- its count does not fall
  pub not_fewer : (calls : List Call) (w v : World (FarDevice P)) → Led (far means) w calls v → w.device.broken ≤ v.device.broken
  not_fewer calls w v led = (Led-steady (far means) calls w v led).faults.0

  own_exchange : (own answer : Option (List ℕ)) (request : List ℕ) (w m : World P) (f g : FarDevice P) → Exchanged means request own w m → FarAgrees request own answer f g → g.broken ≡ f.broken → f.broken + 1 < 2 ^ 64 → Exchanged means request answer w m
  own_exchange own (Some reply) request w m f g x agrees same few = subst (λ a. Exchanged means request a w m) agrees.0 x
  own_exchange own None request w m f g x agrees same few = absurd (omega (arith, agrees.0, same, few))

  -- a call in which the far side does not fail
  own_call : (call : Call) (w m : World (FarDevice P)) → Did (far means) call w m → m.device.broken ≡ w.device.broken → w.device.broken + 1 < 2 ^ 64 → Did means call (own_world w) (own_world m)
  own_call (Boot heap) w m did same few = (did.0.did.0, did.1)
  own_call Cut w m did same few = (did.0.did.0, did.1)
  own_call (Exchange request answer) w m did same few = own_exchange did.did.0 answer request (own_world w) (own_world m) w.device m.device did.did.1 did.did.2 same few
  own_call Tick w m did same few = did.did.0

  pub agreed : (w v : World (FarDevice P)) (calls : List Call) → Led (far means) w calls v → v.device.broken ≡ w.device.broken → w.device.broken + 1 < 2 ^ 64 → Led means (own_world w) calls (own_world v)
  agreed w v [] led same few = ap (λ (x : World (FarDevice P)). own_world x) led
  agreed w v (call ∷ calls) (m, did, led) same few =
      let up = not_fewer (call ∷ []) w m (Led-one (far means) w m call did) in
      let on = not_fewer calls m v led in
      let still : m.device.broken ≡ w.device.broken = omega (arith, up, on, same) in
      (own_world m, own_call call w m did still few, agreed m v calls led (same ∙ sym still) (omega (arith, still, few)))
