-- What an exchange of a tracer does, from what its device's does.
use Rattle.std.proofs.Common.{◌≡◌, ◌≤◌, ◌-◌, inl, inr, ℕ, ℤ, pos, negsuc, true, List, length, Option, Some, None, Result, Ok, Err, refl, sym, ap, subst, arith}
use Rattle.std.specs.Prelude.{is_some}
use Rattle.sof_base.specs.Ports.{Io}
use Rattle.sof_base.specs.Slots.{slots_cells, slot_cells}
use Rattle.stream_law.specs.State.{FwState}
use Rattle.ipc3_model.specs.declared.reply.Body.{Body}
use Rattle.ipc3_model.specs.declared.reply.Body.TheVariants as bodies
use Rattle.ipc3_model.specs.Messages.{decoded}
use Rattle.ipc3_model.specs.Replies.{reply_spelling}
use Rattle.mbox_link.specs.Step.{row_of, body_of, replied, step}
use Rattle.mbox_link.specs.Exchange.{Stepped, Rose, ticks}
use Rattle.mbox_link.specs.Calls.{World, Meaning, Exchanged}
use Rattle.ipc3_trace.specs.declared.entry.Entry.TheVariants.{Reply}
use Rattle.ipc3_trace.specs.Records.{IsEntry, record_bytes}
use Rattle.ipc3_trace.specs.HeldRecords.{HeldRecords, kept_exchange}
use Rattle.ipc3_trace.specs.AlongCalls.{back_of}
use Rattle.ipc3_trace.specs.Tracing.{tracer, with_records}

abbrev pub at : {D : Type 0} → D → Io → World D
at device io = record { device = device; io = io }

-- ---- a reply has the 12 bytes of its header at least

reply-long : (error : ℤ) (body : Body) → 12 ≤ length (reply_spelling (record { error = error; body = body }))
unfolding slots_cells slot_cells
reply-long error bodies.Nothing = omega arith
reply-long error (bodies.Values values) = omega arith
reply-long error (bodies.Part part) = omega arith

replied-long : (f : FwState) (said : Body) (r : Result FwState ℤ) → 12 ≤ length (replied f said r).1
replied-long f said (Ok g) = reply-long (pos 0) said
replied-long f said (Err e) = reply-long e bodies.Nothing

step-long : (f : FwState) (request : List ℕ) → 12 ≤ length (step f request).1
unfolding step
step-long f request = replied-long f (body_of f (decoded request)) (row_of f (decoded request))

answer-long : (refused faulted : Type 0) (p : FwState × Io) (request reply : List ℕ) (after : Option FwState) (io : Io) → Stepped refused faulted p request (Some reply) after io → 12 ≤ length reply
answer-long refused faulted p request reply after io (same, inl (left, is)) = subst (λ (r : List ℕ). 12 ≤ length r) (sym is) (step-long p.0 request)
answer-long refused faulted p request reply after io (same, inr (rose, refusal, left)) =
    subst (λ (r : List ℕ). 12 ≤ length r) (sym refusal.is) (reply-long (negsuc refusal.code) bodies.Nothing)

module _ {P : Type 0} (means : Meaning P) where
  -- so what comes back from a device that is on is a record
  pub reply-entry : (request reply : List ℕ) (w v : World P) → Exchanged means request (Some reply) w v → is_some (means.on w.device) ≡ true → length reply ≤ 384 → IsEntry (Reply reply)
  reply-entry request reply w v x on short = by (means.on w.device) refl on
    where
      by : (o : Option FwState) → means.on w.device ≡ o → is_some o ≡ true → IsEntry (Reply reply)
      by None e here = absurd (cc here)
      by (Some f) e here =
          (answer-long (Rose (means.refusals w.device) (means.refusals v.device)) (Rose (means.faults w.device) (means.faults v.device)) (ticks (means.pending w.device - means.pending v.device) (f, w.io)) request reply (means.on v.device) v.io (x.step f e), short)

  pub traced-exchange : (request : List ℕ) (answer : Option (List ℕ)) (p q : P) (held after : HeldRecords) (io jo : Io) →
      Exchanged means request answer (at p io) (at q jo) → IsEntry (back_of answer) → after ≡ kept_exchange request (record_bytes (back_of answer)) held →
      Exchanged (tracer means) request answer (at (with_records p held) io) (at (with_records q after) jo)
  traced-exchange request answer p q held after io jo x is e = record {
    did = (x, is, ap (with_records q) e);
    step = x.step;
    room = x.room;
    moves = x.moves;
    boots = x.boots;
    steady = record { faults = x.steady.faults; refusals = x.steady.refusals; boots = x.steady.boots; pending = x.steady.pending; most = x.steady.most };
  }
