-- Ticks of a device, one after another, and a message after them.
use Rattle.std.proofs.Common.{◌≡◌, ℕ, zero, suc, ◌+◌, ◌-◌, ◌*◌, ◌≤◌, List, replicate, true, Option, Some, None, refl, sym, ap, ◌∙◌, subst, arith}
use Rattle.std.specs.Prelude.{is_some}
use Rattle.std.proofs.lemmas.Bool.{false≢true}
use Rattle.sof_base.specs.Ports.{Io, InputView, HasRoom}
use Rattle.stream_law.specs.State.{FwState}
use Rattle.stream_law.specs.Stands.{position_of}
use Rattle.mbox_link.specs.Exchange.{ticked, ticks, Stepped, Rose}
use Rattle.mbox_link.specs.Calls.{World, Meaning, Tick, Led, Steady, Quiet, Exchanged, MovesBy}
use Rattle.mbox_link.proofs.Rooms.{HasRoom-less}
use Rattle.mbox_link.proofs.Led.{Led-steady, Steady-by}

-- ticks after ticks
pub ticks-append : (m n : ℕ) (p : FwState × Io) → ticks (m + n) p ≡ ticks n (ticks m p)
ticks-append zero n p = ap (λ (k : ℕ). ticks k p) (let same : zero + n ≡ n = omega arith in same)
ticks-append (suc m) n p = ap (λ (k : ℕ). ticks k p) (let same : suc m + n ≡ suc (m + n) = omega arith in same) ∙ ticks-append m n (ticked p)

-- inputs that move once more
pub MovesBy-then : (m n most : ℕ) (a b c : List InputView) → m + n ≤ most → MovesBy m a b → MovesBy n b c → MovesBy most a c
MovesBy-then m n most a b c fits first then slot = let at : position_of b slot ≤ position_of a slot + m = first slot in omega (arith, fits, at, then slot)

module _ {D : Type 0} (means : Meaning D) where
  pub Quiet-by : (a b c : D) → Quiet means a b → Quiet means b c → Quiet means a c
  Quiet-by a b c first then =
      record {
        faults = then.faults ∙ first.faults;
        refusals = then.refusals ∙ first.refusals;
        pending = then.pending ∙ first.pending;
        most = then.most ∙ first.most;
      }

  -- what so many ticks leave
  pub record TicksDid (n : ℕ) (w v : World D) : Type 0 where
    pub on : (s : FwState) → means.on w.device ≡ Some s → (means.on v.device ≡ Some (ticks n (s, w.io)).0) × (v.io ≡ (ticks n (s, w.io)).1)
    pub room : (k : ℕ) → HasRoom (61440 * n + k) w.io.outputs → HasRoom k v.io.outputs
    pub moves : MovesBy (61440 * n) w.io.inputs v.io.inputs
    pub boots : means.boots v.device ≡ means.boots w.device
    pub quiet : Quiet means w.device v.device

  none-did : (w : World D) → TicksDid zero w w
  none-did w = record {
    on = λ s on. (on, refl);
    room = λ k room. HasRoom-less w.io.outputs (61440 * 0 + k) k (omega arith) room;
    moves = λ slot. omega arith;
    boots = refl;
    quiet = record { faults = refl; refusals = refl; pending = refl; most = refl };
  }

  pub ticks-did : (n : ℕ) (w v : World D) → Led means w (replicate n Tick) v → TicksDid n w v
  ticks-did zero w v led = subst (λ (x : World D). TicksDid zero w x) (sym led) (none-did w)
  ticks-did (suc n) w v led =
      let first = led.1 in
      let rest = ticks-did n led.0 v led.2 in
      record {
        on = λ s on.
            let now = first.on s on in
            let state = (ticked (s, w.io)).0 in
            subst (λ (io : Io). (means.on v.device ≡ Some (ticks n (state, io)).0) × (v.io ≡ (ticks n (state, io)).1)) now.1 (rest.on state now.0);
        room = λ k room. rest.room k (first.room (61440 * n + k) (HasRoom-less w.io.outputs (61440 * suc n + k) ((61440 * n + k) + 61440) (omega arith) room));
        moves = MovesBy-then 61440 (61440 * n) (61440 * suc n) w.io.inputs led.0.io.inputs v.io.inputs (omega arith) first.moves rest.moves;
        boots = rest.boots ∙ first.boots;
        quiet = Quiet-by w.device led.0.device v.device first.quiet rest.quiet;
      }

  -- a device that is on stays on
  pub ticks-up : (n : ℕ) (w v : World D) → Led means w (replicate n Tick) v → is_some (means.on w.device) ≡ true → is_some (means.on v.device) ≡ true
  ticks-up n w v led up = by (means.on w.device) refl up
    where
      by : (o : Option FwState) → means.on w.device ≡ o → is_some o ≡ true → is_some (means.on v.device) ≡ true
      by None is up = absurd (false≢true up)
      by (Some s) is up = ap (λ (o : Option FwState). is_some o) ((ticks-did n w v led).on s is).0

  -- an exchange after so many ticks, from before them
  pub record Late (lag : ℕ) (request : List ℕ) (answer : Option (List ℕ)) (w v : World D) : Type 0 where
    pub step : (s : FwState) → means.on w.device ≡ Some s →
        Stepped (Rose (means.refusals w.device) (means.refusals v.device)) (Rose (means.faults w.device) (means.faults v.device)) (ticks (lag + (means.pending w.device - means.pending v.device)) (s, w.io)) request answer (means.on v.device) v.io
    pub room : (k : ℕ) → HasRoom (61440 * (lag + means.pending w.device) + k) w.io.outputs → HasRoom (61440 * means.pending v.device + k) v.io.outputs
    pub moves : MovesBy (61440 * (lag + (means.pending w.device - means.pending v.device))) w.io.inputs v.io.inputs
    pub boots : means.boots v.device ≡ means.boots w.device
    pub steady : Steady means w.device v.device

  pub late-exchange : (lag : ℕ) (request : List ℕ) (answer : Option (List ℕ)) (w m v : World D) → Led means w (replicate lag Tick) m → Exchanged means request answer m v → Late lag request answer w v
  late-exchange lag request answer w m v led x =
      let did = ticks-did lag w m led in
      let same = did.quiet.pending in
      record {
        step = λ s on.
            let q = ticks lag (s, w.io) in
            let t = did.on s on in
            let place : ticks (means.pending m.device - means.pending v.device) (q.0, m.io) ≡ ticks (lag + (means.pending w.device - means.pending v.device)) (s, w.io) =
            (λ i. ticks (same i - means.pending v.device) (q.0, t.1 i)) ∙ sym (ticks-append lag (means.pending w.device - means.pending v.device) (s, w.io)) in
            subst (λ (y : List ℕ × List ℕ × (FwState × Io)). Stepped (Rose y.0 (means.refusals v.device)) (Rose y.1 (means.faults v.device)) y.2 request answer (means.on v.device) v.io)
            (λ i. (did.quiet.refusals i, did.quiet.faults i, place i)) (x.step q.0 t.0);
        room = λ k room. x.room k (did.room (61440 * means.pending m.device + k)
            (HasRoom-less w.io.outputs (61440 * (lag + means.pending w.device) + k) (61440 * lag + (61440 * means.pending m.device + k)) (omega (arith, same)) room));
        moves = MovesBy-then (61440 * lag) (61440 * (means.pending m.device - means.pending v.device)) (61440 * (lag + (means.pending w.device - means.pending v.device))) w.io.inputs m.io.inputs v.io.inputs (omega (arith, same)) did.moves x.moves;
        boots = x.boots ∙ did.boots;
        steady = Steady-by means w.device m.device v.device (Led-steady means (replicate lag Tick) w m led) x.steady;
      }
