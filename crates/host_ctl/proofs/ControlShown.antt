-- A device that has the component of a control as the record sets it: right before a message, and after one that leaves it.
use Rattle.std.proofs.Common.{◌≡◌, ⊎_elim, sym, ap, subst, ◌∙◌, ℕ, ◌<◌, ◌-◌, List, length, true, pos, Some, Result, Ok, Err}
use Rattle.std.specs.Prelude.{is_some}
use Rattle.std.specs.Option.{option_map}
use Rattle.sof_base.specs.Ports.{Io}
use Rattle.stream_law.specs.State.{FwState, View, view_of}
use Rattle.stream_law.specs.Ways.{comp_of}
use Rattle.ipc3_model.specs.declared.message.Message.{Message}
use Rattle.ipc3_model.specs.declared.reply.Body.{Body}
use Rattle.ipc3_model.specs.declared.reply.Reply.{Reply}
use Rattle.ipc3_model.specs.Meanings.{IsMessage}
use Rattle.ipc3_model.specs.Messages.{message_spelling, decoded}
use Rattle.mbox_link.specs.Calls.{World, Meaning}
use Rattle.mbox_link.specs.Exchange.{ticks}
use Rattle.mbox_link.specs.Step.{row, body_of}
use Rattle.tplg_plan.specs.declared.plans.Plan.{Plan}
use Rattle.tplg_plan.specs.declared.plans.ControlPlan.{ControlPlan}
use Rattle.tplg_plan.specs.Sound.{IsLive, IsSound}
use Rattle.host_widgets.specs.declared.answers.HostFault.{HostFault}
use Rattle.host_widgets.specs.declared.answers.HostFault.TheVariants.{LinkDown, Refused}
use Rattle.host_widgets.specs.declared.kept.Power.{Power}
use Rattle.host_widgets.specs.declared.kept.Power.TheVariants.{Unloaded, On, Off}
use Rattle.host_widgets.specs.declared.kept.Record.{Record}
use Rattle.host_widgets.specs.ActCalls.{came_to}
use Rattle.host_widgets.specs.ActCarried.{PlainEnd, Replied}
use Rattle.host_widgets.specs.Host.{Agrees, IsRecordOf, Sides, errno, verdict}
use Rattle.host_widgets.specs.ViewOf.{graph_by, record_view, set_comp}
use Rattle.host_widgets.proofs.ActsCome.{still}
use Rattle.host_widgets.proofs.Effects.{row-decoded}
use Rattle.host_widgets.proofs.Exchanges.{came, state_of, verdict-number}
use Rattle.host_widgets.proofs.ReplyErrors.{done_reply}
use Rattle.host_ctl.specs.ControlAnswers.{HasSet, IsSetAt, IsSetFor}
use Rattle.host_ctl.specs.ControlPlaces.{control_here}
use Rattle.host_ctl.proofs.ControlsThere.{live}
use Rattle.host_ctl.proofs.PutShows.{found-set}

-- a device that agrees with a record has each component as it sets it
module _ {D : Type 0} (means : Meaning D) (plan : Plan) (kept : Record) (device : D) (agrees : Agrees means plan kept device) where
  pub agrees-set : (id : ℕ) → IsSetAt means plan kept id device
  agrees-set id f on = by kept.power agrees.sides
    where
      by : (power : Power) → Sides means plan kept device power → comp_of f.graph id ≡ comp_of (graph_by plan kept) id
      by On side = let same : view_of f ≡ record_view plan kept = cc (sym (ap (option_map view_of) on) ∙ side) in ap (λ (v : View). comp_of v.graph id) same
      by Off side = absurd (cc (sym on ∙ side.1))
      by Unloaded side = absurd (cc (sym on ∙ side.1))

  pub set-for : (name : List ℕ) → IsSetFor means plan kept name device
  set-for name k named = agrees-set k.comp

module _ (plan : Plan) (sound : IsSound plan) (kept : Record) (is : IsRecordOf plan kept) (i : ℕ) (low : i < length plan.controls) where
  abbrev k : ControlPlan
  k = control_here plan i

  abbrev here : IsLive plan.graph k
  here = live plan sound kept is i low

  -- a state that has it so
  abbrev pub IsThere : FwState → Type 0
  IsThere f = comp_of f.graph k.comp ≡ Some (set_comp plan kept here.comp)

  set-there : comp_of (graph_by plan kept) k.comp ≡ Some (set_comp plan kept here.comp)
  set-there = found-set plan kept k.comp plan.graph.comps ∙ ap (option_map (set_comp plan kept)) here.there

  pub has-there : {D : Type 0} (means : Meaning D) (device : D) → HasSet means plan kept k.comp device → (f : FwState) × (means.on device ≡ Some f) × IsThere f
  has-there means device has = (has.0, has.1, has.2 ∙ set-there)

  module _ {D : Type 0} (means : Meaning D) (w : World D) (on : is_some (means.on w.device) ≡ true) (set : IsSetAt means plan kept k.comp w.device) where
    pub state : (f : FwState) × (means.on w.device ≡ Some f)
    state = state_of (means.on w.device) on

    -- the state and the endpoints right before a message
    abbrev pub before : World D → FwState × Io
    before v = ticks (means.pending w.device - means.pending v.device) (state.0, w.io)

    pub before-there : (v : World D) → IsThere (before v).0
    before-there v = ap (λ (x : View). comp_of x.graph k.comp) (still (means.pending w.device - means.pending v.device) (state.0, w.io)) ∙ set state.0 state.1 ∙ set-there

    -- one that is left so has it still
    pub left-set : (v : World D) (next : FwState) → means.on v.device ≡ Some next → next ≡ (before v).0 → HasSet means plan kept k.comp v.device
    left-set v next on_next same = ((before v).0, on_next ∙ ap (λ (f : FwState). Some f) same, before-there v ∙ sym set-there)

    -- What an exchange that passed brings, of a message that leaves the state: what the firmware has there, and has still.
    pub heard : (heap : ℕ) (message : Message) → IsMessage message → ((f f' : FwState) → row f message ≡ Ok f' → f' ≡ f) → (body : Body) →
        ((f : FwState) → IsThere f → (body_of f (decoded (message_spelling message)) ≡ body) × (verdict (Some (done_reply body)) ≡ Ok (record { error = pos 0; body = body }))) →
        (kept' : Record) (v : World D) (result : Result Reply HostFault) → Replied means heap (message_spelling message) kept kept' w v result → (reply : Reply) → result ≡ Ok reply → (reply.body ≡ body) × HasSet means plan kept k.comp v.device
    heard heap message fits stays body carries kept' v result h reply ok = ⊎_elim
        (λ took. (let same : Ok reply ≡ Ok (record { error = pos 0; body = body }) = sym ok ∙ h.said ∙ ap verdict took.said ∙ ap (λ (b : Body). verdict (Some (done_reply b))) here.0 ∙ here.1 in
        let one : reply ≡ record { error = pos 0; body = body } = cc same in
        let end : v ≡ h.sent = (subst (λ (r : Result Reply HostFault). PlainEnd means heap (came_to r) kept kept' h.sent v) ok h.ends).1 in
        let still = stays now took.next (sym (row-decoded now message fits) ∙ took.row) in
        (ap (λ (r : Reply). r.body) one, subst (λ (x : World D). HasSet means plan kept k.comp x.device) (sym end) (left-set h.sent took.next took.on still))))
        (λ rest. ⊎_elim
        (λ it. absurd (let no : Ok reply ≡ Err (Refused (errno it.error)) = sym ok ∙ h.said ∙ ap verdict it.said ∙ verdict-number it.error it.number in cc no))
        (λ rest. ⊎_elim
        (λ it. absurd (let no : Ok reply ≡ Err (Refused (errno it.error)) = sym ok ∙ h.said ∙ ap verdict it.said ∙ verdict-number it.error it.number in cc no))
        (λ it. absurd (let no : Ok reply ≡ Err LinkDown = sym ok ∙ h.said ∙ ap verdict it.said in cc no))
        rest) rest)
        (came means (message_spelling message) h.answer w h.sent state.0 state.1 h.exchanged).way
      where
        now : FwState
        now = (before h.sent).0

        here : (body_of now (decoded (message_spelling message)) ≡ body) × (verdict (Some (done_reply body)) ≡ Ok (record { error = pos 0; body = body }))
        here = carries now (before-there h.sent)

-- what it has, it has in each of its states
pub has-set : {D : Type 0} (means : Meaning D) (plan : Plan) (kept : Record) (id : ℕ) (device : D) → HasSet means plan kept id device → IsSetAt means plan kept id device
has-set means plan kept id device has f on = let same : has.0 ≡ f = cc (sym has.1 ∙ on) in ap (λ (g : FwState). comp_of g.graph id) (sym same) ∙ has.2

pub set-has : {D : Type 0} (means : Meaning D) (plan : Plan) (kept : Record) (id : ℕ) (device : D) → is_some (means.on device) ≡ true → IsSetAt means plan kept id device → HasSet means plan kept id device
set-has means plan kept id device on set = let s = state_of (means.on device) on in (s.0, s.1, set s.0 s.1)
