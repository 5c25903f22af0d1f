-- Boots, cuts and ticks over a link leave its numbers as they are.
use Rattle.std.proofs.Common.{◌≡◌, ap, ◌∙◌, ℕ, List, [], ◌∷◌}
use Rattle.stream_law.specs.Past as past
use Rattle.stream_law.specs.Past.{Moment}
use Rattle.mbox_link.specs.Calls.{World, Meaning, Led}
use Rattle.mbox_link.specs.Wire.{Wire}
use Rattle.mbox_link.specs.Link.{link}
use Rattle.mbox_link.specs.Meetings.{queue_of}
use Rattle.host_widgets.specs.ActCalls.{calls_of}

module _ {P : Type 0} (means : Meaning P) (heap : ℕ) where
  -- boots, cuts and ticks leave the link's numbers, and what is pending
  pub record Quietly (w v : World (Wire P)) : Type 0 where
    pub queue : queue_of v.device ≡ queue_of w.device
    pub sent : v.device.sent ≡ w.device.sent
    pub pending : means.pending v.device.device ≡ means.pending w.device.device

  pub quietly : (moments : List Moment) (w v : World (Wire P)) → Led (link means) w (calls_of heap moments) v → Quietly w v
  quietly [] w v led = record {
    queue = ap (λ (x : World (Wire P)). queue_of x.device) led;
    sent = ap (λ (x : World (Wire P)). x.device.sent) led;
    pending = ap (λ (x : World (Wire P)). means.pending x.device.device) led;
  }
  quietly (past.Boot ∷ moments) w v led =
      let rest = quietly moments led.0 v led.2 in
      let did = led.1.0.did in
      record { queue = rest.queue ∙ ap queue_of did.1; sent = rest.sent ∙ ap (λ (l : Wire P). l.sent) did.1; pending = rest.pending ∙ did.0.quiet.pending }
  quietly (past.Cut ∷ moments) w v led =
      let rest = quietly moments led.0 v led.2 in
      let did = led.1.0.did in
      record { queue = rest.queue ∙ ap queue_of did.1; sent = rest.sent ∙ ap (λ (l : Wire P). l.sent) did.1; pending = rest.pending ∙ did.0.quiet.pending }
  quietly (past.Now view fresh ∷ moments) w v led = quietly moments w v led
  quietly (past.Tick ∷ moments) w v led =
      let rest = quietly moments led.0 v led.2 in
      let did = led.1.did in
      record { queue = rest.queue ∙ ap queue_of did.1; sent = rest.sent ∙ ap (λ (l : Wire P). l.sent) did.1; pending = rest.pending ∙ did.0.quiet.pending }
