-- What the firmware's calls do.
use Rattle.std.proofs.Common.{◌≡◌, inl, refl, sym, ap, ◌∙◌, subst, ℕ, ◌+◌, List, [], Bool, true, false, cond, Option, Some, None, Result, Ok, Err, ℤ, pos, arith}
use Rattle.std.specs.Prelude.{is_some, IfOk, OnErr}
use Rattle.std.proofs.lemmas.Bool.{false≢true}
use Rattle.sof_base.specs.Ports.{Io, HasRoom}
use Rattle.sof_base.specs.declared.errno.Errno.{Errno}
use Rattle.ipc3_model.specs.declared.reply.Body.{Body}
use Rattle.ipc3_model.specs.Messages.{decoded}
use Rattle.ipc3_model.specs.Replies.{reply_spelling}
use Rattle.stream_law.specs.State.{FwState}
use Rattle.mbox_link.specs.Step.{step, replied, row_of, body_of, error_reply}
use Rattle.mbox_link.specs.Exchange.{Stepped, Rose, ticked}
use Rattle.mbox_link.specs.Calls.{World, Exchanged, Ticked, MovesBy}
use Rattle.fw_heap.specs.Regions.{RegionState}
use Rattle.fw_components.specs.Tables.{Tables}
use Rattle.fw_core.specs.Held.{state_in}
use Rattle.fw_core.specs.Answers.{answer_of, reply_with, IsRow}
use Rattle.fw_core.specs.Device.{FirmwareView, firmware, stepped, reply_to, with_state, after_tick}

-- ---- an exchange

step-done : (R F : Type 0) (o : Option FwState) (f : FwState) (io : Io) (request : List ℕ) → o ≡ Some f → Stepped R F (f, io) request (reply_to o request) (stepped o request) io
step-done R F o f io request is = subst (λ p. Stepped R F (f, io) request (reply_to p request) (stepped p request) io) (sym is) (refl, inl (refl, refl))

pub firmware-exchanged : (request : List ℕ) (answer : Option (List ℕ)) (w v : World FirmwareView) → firmware.exchange request answer w v → Exchanged firmware request answer w v
firmware-exchanged request answer w v done =
    subst (λ a. Exchanged firmware request a w v) (sym done.0) (subst (λ x. Exchanged firmware request (reply_to w.device.state request) w x) (sym done.1) record {
      did = (refl, refl);
      step = λ f is. step-done (Rose [] []) (Rose [] []) w.device.state f w.io request is;
      room = λ n room. room;
      moves = λ slot. omega arith;
      boots = refl;
      steady = record { faults = tt; refusals = tt; boots = omega arith; pending = omega arith; most = refl };
    })

-- the state and the reply after a message that was answered so
replied-by : (f g : FwState) (answer : Result Body Errno) (body : Body) (row : Result FwState ℤ) → answer_of g answer ≡ row → IfOk answer (λ said. said ≡ body) → OnErr answer (g ≡ f) → replied f body row ≡ (g, reply_spelling (reply_with answer))
replied-by f g (Ok said) body row is told kept = subst (λ r. replied f body r ≡ (g, reply_spelling (record { error = pos 0; body = said }))) is (ap (λ (b : Body). (g, reply_spelling (record { error = pos 0; body = b }))) (sym told))
replied-by f g (Err error) body row is told kept = subst (λ r. replied f body r ≡ (g, error_reply error.0)) is (ap (λ (h : FwState). (h, error_reply error.0)) (sym kept))

same-state : (t u : Tables) (r s : RegionState) (clock : ℕ) (answer : Result Body Errno) → OnErr answer ((u ≡ t) × (s ≡ r)) → OnErr answer (state_in u s clock ≡ state_in t r clock)
same-state t u r s clock (Ok done) kept = kept
same-state t u r s clock (Err error) kept = λ i. state_in (kept.0 i) (kept.1 i) clock

said-at : (t : Tables) (r : RegionState) (clock : ℕ) (request : List ℕ) (answer : Result Body Errno) → IfOk answer (λ said. (clock : ℕ) → said ≡ body_of (state_in t r clock) (decoded request)) → IfOk answer (λ said. said ≡ body_of (state_in t r clock) (decoded request))
said-at t r clock request (Ok said) told = told clock
said-at t r clock request (Err error) told = told

-- a device that answers so has done the step
pub step-answered : (on : Bool) (boots clock : ℕ) (t u : Tables) (r s : RegionState) (answer : Result Body Errno) (request : List ℕ) (old : FirmwareView) → record { state = cond on (Some (state_in t r clock)) None; boots = boots; most = r.size; home = r.home } ≡ old → is_some old.state ≡ true → IsRow (λ f. row_of f (decoded request)) t u r s answer → IfOk answer (λ said. (clock : ℕ) → said ≡ body_of (state_in t r clock) (decoded request)) → (record { state = cond on (Some (state_in u s clock)) None; boots = boots; most = s.size; home = s.home } ≡ with_state (stepped old.state request) old) × (reply_to old.state request ≡ Some (reply_spelling (reply_with answer)))
unfolding step
step-answered true boots clock t u r s answer request old was on row told =
    let f = state_in t r clock in let g = state_in u s clock in
    let done : replied f (body_of f (decoded request)) (row_of f (decoded request)) ≡ (g, reply_spelling (reply_with answer)) = replied-by f g answer (body_of f (decoded request)) (row_of f (decoded request)) (row.told clock) (said-at t r clock request answer told) (same-state t u r s clock answer row.kept) in
    subst (λ (d : FirmwareView). (record { state = Some g; boots = boots; most = s.size; home = s.home } ≡ with_state (stepped d.state request) d) × (reply_to d.state request ≡ Some (reply_spelling (reply_with answer)))) was
    (λ i. record { state = Some (sym done i).0; boots = boots; most = row.same.1 i; home = row.same.0 i }, ap (λ (p : FwState × List ℕ). Some p.1) done)
step-answered false boots clock t u r s answer request old was on row told = absurd (false≢true (ap (λ (d : FirmwareView). is_some d.state) was ∙ on))

-- ---- a tick

module _ (w v : World FirmwareView) where
  -- where it is off
  pub ticked-off : w.device.state ≡ None → v ≡ w → (room : (n : ℕ) → HasRoom (n + 61440) w.io.outputs → HasRoom n v.io.outputs) → Ticked firmware w v
  ticked-off off same room = record {
    did = same ∙ sym (ap (λ o. after_tick o w) off);
    on = λ f is. absurd (none-some (sym off ∙ is));
    off = λ still. (ap (λ (x : World FirmwareView). x.device.state) same ∙ off, ap (λ (x : World FirmwareView). x.io) same);
    room = room;
    moves = subst (λ (x : World FirmwareView). MovesBy 61440 w.io.inputs x.io.inputs) (sym same) (λ slot. omega arith);
    boots = ap (λ (x : World FirmwareView). x.device.boots) same;
    quiet = record { faults = refl; refusals = refl; pending = refl; most = ap (λ (x : World FirmwareView). x.device.most) same };
  }
    where
      none-some : {f : FwState} → None ≡ Some f → ⊥
      none-some e = cc e

  -- where it is on
  pub ticked-on : (f : FwState) → w.device.state ≡ Some f → v ≡ record { device = with_state (Some (ticked (f, w.io)).0) w.device; io = (ticked (f, w.io)).1 } → (room : (n : ℕ) → HasRoom (n + 61440) w.io.outputs → HasRoom n v.io.outputs) →
      MovesBy 61440 w.io.inputs (ticked (f, w.io)).1.inputs → Ticked firmware w v
  ticked-on f on is room moves = record {
    did = is ∙ sym (ap (λ o. after_tick o w) on);
    on = λ g at.
        let same : f ≡ g = some-same f g (sym on ∙ at) in
        (ap (λ (x : World FirmwareView). x.device.state) is ∙ ap (λ (h : FwState). Some (ticked (h, w.io)).0) same, ap (λ (x : World FirmwareView). x.io) is ∙ ap (λ (h : FwState). (ticked (h, w.io)).1) same);
    off = λ off. absurd (some-none (sym on ∙ off));
    room = room;
    moves = subst (λ (x : World FirmwareView). MovesBy 61440 w.io.inputs x.io.inputs) (sym is) moves;
    boots = ap (λ (x : World FirmwareView). x.device.boots) is;
    quiet = record { faults = refl; refusals = refl; pending = refl; most = ap (λ (x : World FirmwareView). x.device.most) is };
  }
    where
      some-same : (f g : FwState) → Some f ≡ Some g → f ≡ g
      some-same f g e = cc e

      some-none : {f : FwState} → Some f ≡ None → ⊥
      some-none e = cc e
