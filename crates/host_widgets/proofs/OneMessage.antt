-- The result of one message.
use Rattle.std.proofs.Common.{◌≡◌, ℕ, true, false, List, Result, Ok, Err, refl, sym, ap, subst, ◌∙◌}
use Rattle.ipc3_model.specs.declared.reply.Reply.{Reply}
use Rattle.mbox_link.specs.Calls.{World, Meaning, Cut, Exchanged, Did}
use Rattle.host_widgets.specs.declared.answers.HostFault.{HostFault}
use Rattle.host_widgets.specs.declared.kept.Record.{Record}
use Rattle.host_widgets.specs.Kept.{went_down}
use Rattle.host_widgets.specs.Host.{Outcome}
use Rattle.host_widgets.specs.Bringing.{Sent}
use Rattle.host_widgets.specs.ActCalls.{came_to}
use Rattle.host_widgets.specs.ActCarried.{Replied, Passes, PlainEnd, is_down}
use Rattle.host_widgets.proofs.LinkEnds.{down-is, stays}

module _ {D : Type 0} (means : Meaning D) (heap : ℕ) (request : List ℕ) (kept : Record) (w : World D) where
  exchanged : (v : World D) (result : Result Reply HostFault) (sent : Sent means request w v result) → Exchanged means request sent.answer w v
  exchanged v result sent = subst (λ (x : World D). Exchanged means request sent.answer w x) (sym sent.led.2) sent.led.1

  ends-up : (result : Result Reply HostFault) (v : World D) → is_down result ≡ false → PlainEnd means heap (came_to result) kept kept v v
  ends-up (Ok reply) v up = (refl, refl)
  ends-up (Err fault) v up = stays Reply means heap kept fault v up

  -- the link held
  pub heard : (v : World D) (result : Result Reply HostFault) → Sent means request w v result → is_down result ≡ false → Replied means heap request kept kept w v result
  heard v result sent up = record { answer = sent.answer; sent = v; exchanged = exchanged v result sent; said = sent.said; ends = ends-up result v up }

  ends-down : (result : Result Reply HostFault) (kept' : Record) (m v : World D) → is_down result ≡ true → Did means Cut m v → kept' ≡ went_down kept → PlainEnd means heap (came_to result) kept kept' m v
  ends-down (Ok reply) kept' m v down cut record_is = absurd (cc down)
  ends-down (Err fault) kept' m v down cut record_is = subst (λ (f : HostFault). PlainEnd means heap (Err f) kept kept' m v) (down-is Reply fault down) (record_is, (v, cut, refl))

  -- it failed
  pub went_dead : (kept' : Record) (m v : World D) (result : Result Reply HostFault) → Sent means request w m result → is_down result ≡ true → Did means Cut m v → kept' ≡ went_down kept → Replied means heap request kept kept' w v result
  went_dead kept' m v result sent down cut record_is =
      record { answer = sent.answer; sent = m; exchanged = exchanged m result sent; said = sent.said; ends = ends-down result kept' m v down cut record_is }

  -- what was heard, without its reply
  pub passes : (kept' : Record) (v : World D) (result : Result Reply HostFault) (came : Outcome) → Replied means heap request kept kept' w v result → came ≡ came_to result → Passes means heap request kept kept' w v came
  passes kept' v result came h is = record {
    answer = h.answer;
    sent = h.sent;
    exchanged = h.exchanged;
    said = is ∙ ap came_to h.said;
    ends = subst (λ (o : Outcome). PlainEnd means heap o kept kept' h.sent v) (sym is) h.ends;
  }
