-- What an exchange of a device that a far side is compared with does, from what the device's own does.
use Rattle.std.proofs.Common.{◌≡◌, ◌∙◌, ap, ℕ, ◌-◌, ◌≤◌, true, false, List, Option, Some, None, refl, subst, arith}
use Rattle.std.proofs.lemmas.Slice.Eq.{bytes_eq-Decides}
use Rattle.stream_law.specs.State.{FwState}
use Rattle.mbox_link.specs.Exchange.{Rose, ticks, more}
use Rattle.mbox_link.specs.Calls.{World, Meaning, Exchanged}
use Rattle.mbox_link.proofs.Steps.{Rose-more, Stepped-lost}
use Rattle.ipc3_far.specs.declared.answer.FarAnswer.{FarAnswer}
use Rattle.ipc3_far.specs.declared.answer.FarAnswer.TheVariants.{Reply, Other, End, Unsent, Unread}
use Rattle.ipc3_far.specs.FarEnds.{FarEnds, Exchanges, Asks}
use Rattle.ipc3_trace.specs.declared.entry.Entry.TheVariants as entries
use Rattle.ipc3_trace.specs.Records.{record_bytes}
use Rattle.std.specs.Io.KnownBytes.{Consumes}
use Rattle.ipc3_far.specs.FarDevices.{FarDevice, far, is_far_reply, is_right}

-- a far reply that is the device's own went over both ends
pub right_reply : (message : List ℕ) (answer : FarAnswer) (own : List ℕ) (old new : FarEnds) → is_far_reply answer own ≡ true → Asks message answer old new → Exchanges message own old new
right_reply message (Reply reply) own old new right asks =
    let same : reply ≡ own = (bytes_eq-Decides reply own).0 right in
    record {
      all = asks.0.all;
      sent = asks.0.sent;
      read = subst (Consumes old.unread new.unread) (asks.1.1 ∙ ap (λ r. record_bytes (entries.Reply r)) same) asks.1.2;
    }
right_reply message (Other other) own old new right asks = absurd (cc right)
right_reply message End own old new right asks = absurd (cc right)
right_reply message (Unsent reason) own old new right asks = absurd (cc right)
right_reply message (Unread reason) own old new right asks = absurd (cc right)

-- with a count of the messages in which the far side failed, and the bytes between both
abbrev pub with_far : {P : Type 0} → World P → ℕ → FarEnds → World (FarDevice P)
with_far w count ends = record { device = record { device = w.device; broken = count; ends = ends }; io = w.io }

module _ {P : Type 0} (means : Meaning P) (request : List ℕ) (w v : World P) (broken : ℕ) (old new : FarEnds) (answer : FarAnswer) (asks : Asks request answer old new) where
  -- the reply is handed on
  pub far_passed : (own : Option (List ℕ)) → is_right answer own ≡ true → Exchanged means request own w v → Exchanged (far means) request own (with_far w broken old) (with_far v broken new)
  far_passed None right x = absurd (cc right)
  far_passed (Some reply) right x = record {
    did = (Some reply, x, (refl, refl, right_reply request answer reply old new right asks));
    step = x.step;
    room = x.room;
    moves = x.moves;
    boots = x.boots;
    steady = record { faults = (omega arith, x.steady.faults); refusals = x.steady.refusals; boots = x.steady.boots; pending = x.steady.pending; most = x.steady.most };
  }

  -- the link failed, which is counted
  pub far_failed : broken ≤ more broken → (own : Option (List ℕ)) → is_right answer own ≡ false → Exchanged means request own w v → Exchanged (far means) request None (with_far w broken old) (with_far v (more broken) new)
  far_failed no_fewer own wrong x =
      let place = λ (s : FwState). ticks (means.pending w.device - means.pending v.device) (s, w.io) in
      let after = λ (s : FwState) (on : means.on w.device ≡ Some s).
      Stepped-lost (Rose (means.refusals w.device) (means.refusals v.device)) (Rose (means.faults w.device) (means.faults v.device)) (place s) request own (means.on v.device) v.io (x.step s on) in
      record {
        did = (own, x, (refl, (answer, wrong, asks)));
        step = λ s on. ((after s on).0, Rose-more broken (means.faults w.device) (means.faults v.device), (after s on).1);
        room = x.room;
        moves = x.moves;
        boots = x.boots;
        steady = record { faults = (no_fewer, x.steady.faults); refusals = x.steady.refusals; boots = x.steady.boots; pending = x.steady.pending; most = x.steady.most };
      }
