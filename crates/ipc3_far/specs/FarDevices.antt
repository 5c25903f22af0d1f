-- A device that a far side is compared with: it means what the device in it means, tells the far side its calls, and its link fails where the
-- far side does.
use Rattle.std.specs.Prelude.{◌≡◌, ℕ, Bool, false, List, ◌∷◌, Option, Some, None, is_some}
use Rattle.std.specs.Str.{bytes_eq}
use Rattle.mbox_link.specs.Exchange.{more}
use Rattle.mbox_link.specs.Calls.{World, Meaning, BootedDevice, CutOff, Exchanged, Ticked}
use Rattle.ipc3_trace.specs.declared.entry.Entry.TheVariants.{Boot, Cut, Tick}
use Rattle.ipc3_trace.specs.Records.{record_bytes}
use Rattle.ipc3_far.specs.declared.answer.FarAnswer.{FarAnswer}
use Rattle.ipc3_far.specs.declared.answer.FarAnswer.TheVariants.{Reply}
use Rattle.ipc3_far.specs.FarEnds.{FarEnds, new_ends, Sends, SendsWhere, Exchanges, Asks, LetsOut}

-- a device, in how many messages the far side failed, and the bytes between both
pub record FarDevice (P : Type 0) : Type 0 where
  pub device : P
  pub broken : ℕ
  pub ends : FarEnds

-- no message was sent
abbrev pub new_far : {P : Type 0} → P → (sent unread : Option (List ℕ)) → FarDevice P
new_far dsp sent unread = record { device = dsp; broken = 0; ends = new_ends sent unread }

-- what was sent, and what is yet to be read, stay as they are
pub record LetsAllOut {P : Type 0} (old new : FarDevice P) : Type 0 where
  pub device : new.device ≡ old.device
  pub broken : new.broken ≡ old.broken
  pub ends : LetsOut old.ends new.ends

-- the device in it, with the endpoints' bytes
abbrev pub own_world : {P : Type 0} → World (FarDevice P) → World P
own_world w = record { device = w.device.device; io = w.io }

-- whether what came back of a message is this reply
abbrev pub is_far_reply : FarAnswer → List ℕ → Bool
is_far_reply (Reply reply) own = bytes_eq reply own
is_far_reply answer own = false

-- whether what came back of a message is the device's own reply, which there is none of if its link failed
abbrev pub is_right : FarAnswer → Option (List ℕ) → Bool
is_right answer None = false
is_right answer (Some own) = is_far_reply answer own

-- A message's answer by that of the device itself: the device's reply is handed on, which the far side gave too; or the link failed, which is
-- counted, since the far side was asked and did not give it. No other reply is ever handed on.
abbrev pub FarAgrees : {P : Type 0} → (request : List ℕ) (own answer : Option (List ℕ)) → FarDevice P → FarDevice P → Type 0
FarAgrees request own (Some reply) f g = (own ≡ Some reply) × (g.broken ≡ f.broken) × Exchanges request reply f.ends g.ends
FarAgrees request own None f g = (g.broken ≡ more f.broken) × ((answer : FarAnswer) × (is_right answer own ≡ false) × Asks request answer f.ends g.ends)

-- ---- what it means

abbrev pub far : {P : Type 0} → Meaning P → Meaning (FarDevice P)
far means =
    record {
      on = λ f. means.on f.device;
      faults = λ f. f.broken ∷ means.faults f.device;
      refusals = λ f. means.refusals f.device;
      boots = λ f. means.boots f.device;
      pending = λ f. means.pending f.device;
      most = λ f. means.most f.device;
      boot = λ heap f g. BootedDevice means heap f.device g.device × (g.broken ≡ f.broken) × Sends (record_bytes (Boot heap)) f.ends g.ends;
      cut = λ f g. CutOff means f.device g.device × (g.broken ≡ f.broken) × SendsWhere (is_some (means.on f.device)) (record_bytes Cut) f.ends g.ends;
      exchange = λ request answer w v.
          (own : Option (List ℕ)) × Exchanged means request own (own_world w) (own_world v) × FarAgrees request own answer w.device v.device;
      tick = λ w v.
          Ticked means (own_world w) (own_world v) × (v.device.broken ≡ w.device.broken)
          × SendsWhere (is_some (means.on w.device.device)) (record_bytes Tick) w.device.ends v.device.ends;
    }
