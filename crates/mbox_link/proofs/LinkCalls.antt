-- What a link's exchanges do, from what is known of the device after it.
use Rattle.std.proofs.Common.{◌≡◌, inr, ℕ, ◌+◌, ◌-◌, ◌*◌, ◌≤◌, List, replicate, Option, Some, None, refl, sym, subst, arith}
use Rattle.sof_base.specs.Ports.{Io, OutputView, HasRoom}
use Rattle.stream_law.specs.State.{FwState}
use Rattle.mbox_link.specs.Step.{error_reply}
use Rattle.mbox_link.specs.Exchange.{ticks, IsRefusal, Rose, Stepped, more}
use Rattle.mbox_link.specs.Calls.{World, Meaning, Exchanged, Tick, Led, MovesBy}
use Rattle.mbox_link.specs.declared.fates.Fate.TheVariants.{Pass, Refuse, Drop, Lose}
use Rattle.mbox_link.specs.Meetings.{planned, without_entry, lags}
use Rattle.mbox_link.specs.Fates.{AreEntriesApart, AreHeld, IsError}
use Rattle.mbox_link.specs.Wire.{Wire}
use Rattle.mbox_link.specs.Link.{link, inner, next_fate, next_lag, after_message}
use Rattle.mbox_link.proofs.FateLaws.{lag-held, lags-without, lags-planned}
use Rattle.mbox_link.proofs.Led.{Led-steady}
use Rattle.mbox_link.proofs.ManyTicks.{TicksDid, ticks-did, Late, late-exchange}
use Rattle.mbox_link.proofs.Rooms.{HasRoom-less, room-held}
use Rattle.mbox_link.proofs.Steps.{Stepped-raise, Stepped-lost, Rose-more}

abbrev pub at : {D : Type 0} → D → Io → World D
at device io = record { device = device; io = io }

-- ---- what is pending before and after a message

lag-fell : (all left lag a b : ℕ) → left + lag ≡ all → b ≤ a → (all + a) - (left + b) ≡ lag + (a - b)
lag-fell all left lag a b is less = omega (arith, is, less)

lag-gone : (all left lag a b : ℕ) → left + lag ≡ all → b ≡ a → (all + a) - (left + b) ≡ lag
lag-gone all left lag a b is same = omega (arith, is, same)

lag-less : (all left a b : ℕ) → left ≤ all → b ≤ a → left + b ≤ all + a
lag-less all left a b less few = omega (arith, less, few)

-- the room for all that is pending is room for a message's ticks, and for what is pending of the device
pub room-for-lag : {P : Type 0} (means : Meaning P) (held now : Wire P) → held ≡ now → (outputs : List OutputView) → HasRoom (61440 * (lags now.entries + means.pending now.device)) outputs →
    AreHeld held.entries → (number lag : ℕ) → lag ≡ (planned held.entries number).lag → HasRoom (61440 * (lag + means.pending held.device)) outputs
room-for-lag {P} means held now same outputs room are number lag is =
    let less = lag-held number held.entries are lag is in
    HasRoom-less outputs (61440 * (lags held.entries + means.pending held.device)) (61440 * (lag + means.pending held.device)) (omega (arith, less))
    (subst (λ (l : Wire P). HasRoom (61440 * (lags l.entries + means.pending l.device)) outputs) (sym same) room)

-- ---- by the message's fate; `m` is where its ticks led

module _ {P : Type 0} (means : Meaning P) (request : List ℕ) (w : World (Wire P)) (apart : AreEntriesApart w.device.entries) (m : World P) (came : Led means (inner w) (replicate (next_lag w.device) Tick) m) where
  abbrev old : Wire P
  old = w.device

  abbrev left : ℕ
  left = lags (without_entry (more old.sent) old.entries)

  all-is : left + next_lag old ≡ lags old.entries
  all-is = lags-planned (more old.sent) old.entries apart

  less : (dsp : P) → means.pending dsp ≤ means.pending old.device → left + means.pending dsp ≤ lags old.entries + means.pending old.device
  less dsp few = lag-less (lags old.entries) left (means.pending old.device) (means.pending dsp) (lags-without (more old.sent) old.entries) few

  -- with an exchange
  module _ (u : Wire P) (dsp : P) (io : Io) (is : u ≡ after_message w.device dsp) where
    abbrev place : ℕ → FwState → FwState × Io
    place n s = ticks n (s, w.io)

    fell : means.pending dsp ≤ means.pending old.device → (lags old.entries + means.pending old.device) - (left + means.pending dsp) ≡ next_lag old + (means.pending old.device - means.pending dsp)
    fell few = lag-fell (lags old.entries) left (next_lag old) (means.pending old.device) (means.pending dsp) all-is few

    room : (answer : Option (List ℕ)) → Late means (next_lag old) request answer (inner w) (at dsp io) → (n : ℕ) → HasRoom (61440 * (lags old.entries + means.pending old.device) + n) w.io.outputs → HasRoom (61440 * (left + means.pending dsp) + n) io.outputs
    room answer late = room-held (lags old.entries) left (next_lag old) (means.pending old.device) (means.pending dsp) w.io.outputs io.outputs all-is late.room

    moves : (answer : Option (List ℕ)) → Late means (next_lag old) request answer (inner w) (at dsp io) → MovesBy (61440 * ((lags old.entries + means.pending old.device) - (left + means.pending dsp))) w.io.inputs io.inputs
    moves answer late = subst (λ n. MovesBy (61440 * n) w.io.inputs io.inputs) (sym (fell late.steady.pending)) late.moves

    -- the step, by what is pending of the link
    stepped : (answer : Option (List ℕ)) → Late means (next_lag old) request answer (inner w) (at dsp io) → (s : FwState) → means.on old.device ≡ Some s →
        Stepped (Rose (means.refusals old.device) (means.refusals dsp)) (Rose (means.faults old.device) (means.faults dsp)) (place ((lags old.entries + means.pending old.device) - (left + means.pending dsp)) s) request answer (means.on dsp) io
    stepped answer late s on =
        subst (λ (n : ℕ). Stepped (Rose (means.refusals old.device) (means.refusals dsp)) (Rose (means.faults old.device) (means.faults dsp)) (place n s) request answer (means.on dsp) io)
        (sym (fell late.steady.pending)) (late.step s on)

    pub link_passed : (answer : Option (List ℕ)) → Pass ≡ next_fate w.device → Exchanged means request answer m (at dsp io) → Exchanged (link means) request answer w (at u io)
    link_passed answer fate x =
        let late = late-exchange means (next_lag old) request answer (inner w) m (at dsp io) came x in
        subst (λ y. Exchanged (link means) request answer w (at y io)) (sym is) record {
          did = ((m, came, rw (← fate) x), refl);
          step = λ s on. rw (← fate) (Stepped-raise (place ((lags old.entries + means.pending old.device) - (left + means.pending dsp)) s) request answer (means.on dsp) io inr inr (stepped answer late s on));
          room = room answer late;
          moves = moves answer late;
          boots = late.boots;
          steady = rw (← fate) record { faults = (omega arith, late.steady.faults); refusals = (omega arith, late.steady.refusals); boots = late.steady.boots; pending = less dsp late.steady.pending; most = late.steady.most };
        }

    pub link_lost : (lost : Option (List ℕ)) → w.device.dropped ≤ more w.device.dropped → Lose ≡ next_fate w.device → Exchanged means request lost m (at dsp io) → Exchanged (link means) request None w (at u io)
    link_lost lost no_fewer fate x =
        let late = late-exchange means (next_lag old) request lost (inner w) m (at dsp io) came x in
        let after = λ (s : FwState) (on : means.on old.device ≡ Some s). Stepped-lost (Rose (means.refusals old.device) (means.refusals dsp)) (Rose (means.faults old.device) (means.faults dsp)) (place ((lags old.entries + means.pending old.device) - (left + means.pending dsp)) s) request lost (means.on dsp) io (stepped lost late s on) in
        subst (λ y. Exchanged (link means) request None w (at y io)) (sym is) record {
          did = ((m, came, rw (← fate) (refl, lost, x)), refl);
          step = λ s on. rw (← fate) ((after s on).0, Rose-more old.dropped (means.faults old.device) (means.faults dsp), (after s on).1);
          room = room lost late;
          moves = moves lost late;
          boots = late.boots;
          steady = rw (← fate) record { faults = (no_fewer, late.steady.faults); refusals = (omega arith, late.steady.refusals); boots = late.steady.boots; pending = less dsp late.steady.pending; most = late.steady.most };
        }

  -- without one, the device stands where its ticks led
  module _ (u : Wire P) (is : u ≡ after_message w.device m.device) where
    so_far : TicksDid means (next_lag old) (inner w) m
    so_far = ticks-did means (next_lag old) (inner w) m came

    gone : (lags old.entries + means.pending old.device) - (left + means.pending m.device) ≡ next_lag old
    gone = lag-gone (lags old.entries) left (next_lag old) (means.pending old.device) (means.pending m.device) all-is so_far.quiet.pending

    few : means.pending m.device ≤ means.pending old.device
    few = omega (arith, so_far.quiet.pending)

    ticks_room : (n : ℕ) → HasRoom (61440 * (next_lag old + means.pending old.device) + n) w.io.outputs → HasRoom (61440 * means.pending m.device + n) m.io.outputs
    ticks_room n room = so_far.room (61440 * means.pending m.device + n)
        (HasRoom-less w.io.outputs (61440 * (next_lag old + means.pending old.device) + n) (61440 * next_lag old + (61440 * means.pending m.device + n)) (omega (arith, so_far.quiet.pending)) room)

    room_left : (n : ℕ) → HasRoom (61440 * (lags old.entries + means.pending old.device) + n) w.io.outputs → HasRoom (61440 * (left + means.pending m.device) + n) m.io.outputs
    room_left = room-held (lags old.entries) left (next_lag old) (means.pending old.device) (means.pending m.device) w.io.outputs m.io.outputs all-is ticks_room

    moves_so_far : MovesBy (61440 * ((lags old.entries + means.pending old.device) - (left + means.pending m.device))) w.io.inputs m.io.inputs
    moves_so_far = subst (λ n. MovesBy (61440 * n) w.io.inputs m.io.inputs) (sym gone) so_far.moves

    -- it has the state and the endpoints of these ticks
    state_is : (s : FwState) → means.on old.device ≡ Some s → let p = ticks ((lags old.entries + means.pending old.device) - (left + means.pending m.device)) (s, w.io) in (means.on m.device ≡ Some p.0) × (m.io ≡ p.1)
    state_is s on = subst (λ (n : ℕ). (means.on m.device ≡ Some (ticks n (s, w.io)).0) × (m.io ≡ (ticks n (s, w.io)).1)) (sym gone) (so_far.on s on)

    pub link_dropped : w.device.dropped ≤ more w.device.dropped → Drop ≡ next_fate w.device → Exchanged (link means) request None w (at u m.io)
    link_dropped no_fewer fate =
        let still = Led-steady means (replicate (next_lag old) Tick) (inner w) m came in
        subst (λ y. Exchanged (link means) request None w (at y m.io)) (sym is) record {
          did = ((m, came, rw (← fate) (refl, refl)), refl);
          step = λ s on. rw (← fate) ((state_is s on).1, Rose-more old.dropped (means.faults old.device) (means.faults m.device), inr (state_is s on).0);
          room = room_left;
          moves = moves_so_far;
          boots = so_far.boots;
          steady = rw (← fate) record { faults = (no_fewer, still.faults); refusals = (omega arith, still.refusals); boots = still.boots; pending = less m.device few; most = still.most };
        }

    pub link_refused : (e : _) → IsError e → w.device.refused ≤ more w.device.refused → Refuse e ≡ next_fate w.device → Exchanged (link means) request (Some (error_reply e)) w (at u m.io)
    link_refused e meant no_fewer fate =
        let still = Led-steady means (replicate (next_lag old) Tick) (inner w) m came in
        let refusal : IsRefusal (error_reply e) = record { code = meant.code; small = meant.small; is = rw meant.is refl } in
        subst (λ y. Exchanged (link means) request (Some (error_reply e)) w (at y m.io)) (sym is) record {
          did = ((m, came, rw (← fate) (refl, refl)), refl);
          step = λ s on. rw (← fate) ((state_is s on).1, inr (Rose-more old.refused (means.refusals old.device) (means.refusals m.device), refusal, (state_is s on).0));
          room = room_left;
          moves = moves_so_far;
          boots = so_far.boots;
          steady = rw (← fate) record { faults = (omega arith, still.faults); refusals = (no_fewer, still.refusals); boots = still.boots; pending = less m.device few; most = still.most };
        }
