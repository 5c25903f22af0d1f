-- One act of each kind, for the control at a place of a sound plan.
use Rattle.std.proofs.Common.{◌≡◌, refl, sym, ap, subst, ◌∙◌, ℕ, ◌<◌, ◌≤◌, zero, suc, List, [], ◌∷◌, length, get_or, Option, Some, Result, Ok, true, pos, arith}
use Rattle.std.specs.Prelude.{is_some}
use Rattle.std.specs.Option.{option_map, option_and_then}
use Rattle.std.proofs.lemmas.Bool.{le-leb}
use Rattle.stream_law.specs.declared.graph.Comp.{Comp}
use Rattle.stream_law.specs.State.{FwState}
use Rattle.stream_law.specs.Ways.{comp_of}
use Rattle.ipc3_model.specs.declared.message.Message.{Message}
use Rattle.ipc3_model.specs.declared.message.Message.TheVariants.{GetValue}
use Rattle.ipc3_model.specs.declared.reply.Body.TheVariants.{Values}
use Rattle.ipc3_model.specs.declared.reply.Reply.{Reply}
use Rattle.ipc3_model.specs.Meanings.{IsMessage}
use Rattle.ipc3_model.specs.Messages.{message_spelling}
use Rattle.ipc3_model.proofs.Spelled.{decoded_reply-exactly}
use Rattle.mbox_link.specs.Step.{body_of, row, values_body}
use Rattle.mbox_link.specs.Calls.{World, Meaning}
use Rattle.tplg_plan.specs.declared.plans.Plan.{Plan}
use Rattle.tplg_plan.specs.declared.plans.ControlPlan.{ControlPlan}
use Rattle.tplg_plan.specs.declared.plans.ControlKind.{ControlKind}
use Rattle.tplg_plan.specs.declared.plans.ControlKind.TheVariants.{Blob}
use Rattle.tplg_plan.specs.Sound.{IsSound}
use Rattle.host_widgets.specs.declared.answers.Answer.TheVariants as answers
use Rattle.host_widgets.specs.declared.answers.HostFault.{HostFault}
use Rattle.host_widgets.specs.declared.kept.Record.{Record}
use Rattle.host_widgets.specs.declared.kept.ControlRec.{ControlRec}
use Rattle.host_widgets.specs.ViewOf.{set_comp}
use Rattle.host_widgets.specs.Host.{IsRecordOf, verdict, judged}
use Rattle.host_widgets.specs.ActCarried.{Replied}
use Rattle.host_widgets.proofs.Effects.{decoded-message}
use Rattle.host_widgets.proofs.GreatestGains.{AreGains, value-slots}
use Rattle.host_widgets.proofs.ReplyErrors.{done_reply, zero-fits}
use Rattle.host_ctl.specs.ControlOrders.{control_answer}
use Rattle.host_ctl.specs.ControlAnswers.{HasSet, IsSetAt, value_command, carried_by, setting_answer, Shows}
use Rattle.host_ctl.specs.ControlAsks.{named_control}
use Rattle.host_ctl.specs.ControlPlaces.{no_control, no_values, control_here, record_here}
use Rattle.host_ctl.proofs.ControlShown.{IsThere, has-there, heard}
use Rattle.host_ctl.proofs.ControlsThere.{live}
use Rattle.host_ctl.proofs.ControlsTaken.{asks, ask-fits, ask-stays, shown-here}
use Rattle.host_ctl.proofs.PutAnswers.{values_by, values-at, values-fit, set-said}

-- the control at a place, as it is read from the plan's list
pub place-control : (plan : Plan) (i : ℕ) → i < length plan.controls → (xs : List ControlPlan) (d : ControlPlan) → xs ≡ plan.controls → get_or xs i d ≡ control_here plan i
place-control plan i low xs d is = ap (λ (ks : List ControlPlan). get_or ks i d) is ∙ by plan.controls i low
  where
    by : (ks : List ControlPlan) (j : ℕ) → j < length ks → get_or ks j d ≡ get_or ks j no_control
    by [] j low = absurd (omega (arith, low))
    by (k ∷ ks) zero low = refl
    by (k ∷ ks) (suc j) low = by ks j (omega (arith, low))

pub place-record : (rs : List ControlRec) (i : ℕ) → i < length rs → (xs : List ControlRec) (d : ControlRec) → xs ≡ rs → get_or xs i d ≡ get_or rs i no_values
place-record rs i low xs d is = ap (λ (ys : List ControlRec). get_or ys i d) is ∙ by rs i low
  where
    by : (ys : List ControlRec) (j : ℕ) → j < length ys → get_or ys j d ≡ get_or ys j no_values
    by [] j low = absurd (omega (arith, low))
    by (y ∷ ys) zero low = refl
    by (y ∷ ys) (suc j) low = by ys j (omega (arith, low))

-- a reply with so many gains is read as it was written
values-read : (vs : List ℕ) → AreGains vs → 1 ≤ length vs → length vs ≤ 8 → verdict (Some (done_reply (Values vs))) ≡ Ok (record { error = pos 0; body = Values vs })
values-read vs are some few =
    ap judged (decoded_reply-exactly (record { error = pos 0; body = Values vs }) (zero-fits, (value-slots 0 vs (omega (arith, few)) are, rw (le-leb 1 (length vs) some, le-leb (length vs) 8 few) refl)))

said-values : (c : ControlRec) (q : ControlKind) (command : ℕ) (vs : List ℕ) → value_command q ≡ Some command → vs ≡ values_by c q → carried_by (Values vs) ≡ control_answer q c
said-values c (Blob most initial) command vs at is = absurd (cc at)
said-values c q command vs at is = ap answers.Values is

-- ---- what the firmware has, where it has the component of the control as the record sets it

module _ {D : Type 0} (means : Meaning D) (plan : Plan) (sound : IsSound plan) (heap i : ℕ) (low : i < length plan.controls) (kept : Record) (is : IsRecordOf plan kept) where
  abbrev control : ControlPlan
  control = control_here plan i

  pub ask-said : (w : World D) → is_some (means.on w.device) ≡ true → IsSetAt means plan kept control.comp w.device → (command : ℕ) → value_command control.kind ≡ Some command → (message : Message) → message ≡ GetValue control.comp command →
      (kept' : Record) (v : World D) (result : Result Reply HostFault) → Replied means heap (message_spelling message) kept kept' w v result → (reply : Reply) → result ≡ Ok reply → (carried_by reply.body ≡ control_answer control.kind (record_here kept i)) × HasSet means plan kept control.comp v.device
  ask-said w on set command at message says kept' v result h reply ok =
      let fits = subst IsMessage (asks plan sound kept is i low command at) (ask-fits plan sound kept is i low command at) in
      let vs = values_by (record_here kept i) control.kind in
      let x = set_comp plan kept (live plan sound kept is i low).comp in
      let shown = shown-here plan sound kept is i low in
      let said = heard plan sound kept is i low means w on set heap (GetValue control.comp command) fits (λ f f' so. ask-stays plan sound kept is i low command at f f' (ap (row f) (asks plan sound kept is i low command at) ∙ so)) (Values vs)
      (λ f there. (let fit = values-fit f control.comp x there (record_here kept i) control.kind command shown at in
      (ap (body_of f) (decoded-message (GetValue control.comp command) fits) ∙ ap values_body (values-at f control.comp x there (record_here kept i) control.kind command shown at), values-read vs fit.0 fit.1 fit.2)))
      kept' v result (subst (λ (m : Message). Replied means heap (message_spelling m) kept kept' w v result) says h) reply ok in
      (ap carried_by said.0 ∙ said-values (record_here kept i) control.kind command vs at refl, said.1)

  -- it tells this
  pub said-shown : (device : D) → HasSet means plan kept control.comp device → (name : List ℕ) → named_control plan name ≡ Some control → Shows plan name (control_answer control.kind (record_here kept i)) (means.on device)
  said-shown device has name named =
      let s = has-there plan sound kept is i low means device has in
      subst (λ (o : Option FwState). Shows plan name (control_answer control.kind (record_here kept i)) o) (sym s.1) (shown-by s.0 s.2)
    where
      shown-by : (f : FwState) → IsThere plan sound kept is i low f → Shows plan name (control_answer control.kind (record_here kept i)) (Some f)
      shown-by f there =
          ap (option_and_then (λ (k : ControlPlan). option_map (λ (c : Comp). setting_answer c.setting) (comp_of f.graph k.comp))) named
          ∙ ap (option_map (λ (c : Comp). setting_answer c.setting)) there
          ∙ ap Some (set-said f control.comp (set_comp plan kept (live plan sound kept is i low).comp) there (record_here kept i) control.kind (shown-here plan sound kept is i low))
