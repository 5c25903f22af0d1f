-- The acts that ask for a control, and for the parts of an equaliser's blob: both laws of one act hold of each.
use Rattle.std.proofs.Common.{◌≡◌, pos, refl, sym, ap, subst, ◌∙◌, ℕ, zero, suc, ◌+◌, ◌<◌, ◌≤◌, ◌^◌, Bool, true, not, cond, List, [], ◌∷◌, map, length, Option, Some, None, Result, Ok, Err, arith}
use Rattle.std.specs.Prelude.{is_some, nat_lt, option_and_then}
use Rattle.std.specs.List.{AllByRecursion, range_with_len}
use Rattle.std.proofs.lemmas.Bool.{lt-ltb, le-leb}
use Rattle.sof_base.specs.Slots.{AreSlots, IsSlot}
use Rattle.sof_base.specs.declared.part.Part.{Part}
use Rattle.stream_law.specs.declared.graph.Comp.{Comp}
use Rattle.stream_law.specs.declared.graph.Kind.{Kind}
use Rattle.stream_law.specs.declared.graph.Setting.{Setting}
use Rattle.stream_law.specs.State.{FwState, view_of}
use Rattle.stream_law.specs.Ways.{comp_of}
use Rattle.ipc3_model.specs.declared.message.Message.TheVariants.{GetData}
use Rattle.ipc3_model.specs.declared.reply.Body.TheVariants as bodies
use Rattle.ipc3_model.specs.declared.reply.Reply.{Reply}
use Rattle.ipc3_model.specs.Messages.{message_spelling, decoded}
use Rattle.ipc3_model.specs.Meanings.{IsMessage}
use Rattle.ipc3_model.proofs.Spelled.{decoded_reply-exactly}
use Rattle.mbox_link.specs.BlobParts.{parts, part_numbers, blob_part}
use Rattle.mbox_link.specs.Step as fw
use Rattle.mbox_link.specs.Step.{row, body_of, part_body, no_device, invalid}
use Rattle.mbox_link.specs.Calls.{World, Meaning}
use Rattle.tplg_plan.specs.declared.plans.Plan.{Plan}
use Rattle.tplg_plan.specs.declared.plans.ControlPlan.{ControlPlan}
use Rattle.tplg_plan.specs.declared.plans.ControlKind.{ControlKind}
use Rattle.tplg_plan.specs.declared.plans.ControlKind.TheVariants.{Volume, Choice, Blob, Masks}
use Rattle.tplg_plan.specs.Ranges.{is_initial}
use Rattle.tplg_plan.specs.Sound.{IsControlOf, IsLive, IsSound}
use Rattle.host_widgets.specs.declared.answers.HostFault.{HostFault}
use Rattle.host_widgets.specs.declared.kept.ControlRec.{ControlRec}
use Rattle.host_widgets.specs.declared.kept.Power.TheVariants.{On}
use Rattle.host_widgets.specs.declared.kept.Record.{Record}
use Rattle.host_widgets.specs.ActCalls.{came_to}
use Rattle.host_widgets.specs.ActCarried.{Replied}
use Rattle.host_widgets.specs.ActMessages.{ask_message, get_message, act_message}
use Rattle.host_widgets.specs.Host.{IsRecordOf, verdict, judged}
use Rattle.host_widgets.specs.HostActs.{Act, Ask}
use Rattle.host_widgets.specs.ViewOf.{set_comp, record_setting}
use Rattle.host_widgets.proofs.ActsCome.{IsAnswered}
use Rattle.host_widgets.proofs.ControlLists.{takes-by}
use Rattle.host_widgets.proofs.Effects.{decoded-message}
use Rattle.host_widgets.proofs.OneActLaws.{IsPlain, IsShown, IsTaken}
use Rattle.host_widgets.proofs.PartFacts.{few-parts, header-long, part-left, part-some, payload-long}
use Rattle.host_widgets.proofs.ReplyErrors.{done_reply, zero-fits}
use Rattle.host_ctl.specs.ControlOrders.{ask_acts}
use Rattle.host_ctl.specs.ControlAnswers.{HasBlob, HasSet, IsSetAt, value_command}
use Rattle.host_ctl.specs.ControlPlaces.{control_here, record_here}
use Rattle.host_widgets.proofs.ActSteps.{AreMet, EachBy, IsMet, met-by}
use Rattle.host_ctl.proofs.ControlActs.{still-taken}
use Rattle.host_ctl.proofs.ControlShown.{IsThere, heard}
use Rattle.host_ctl.proofs.ControlsTaken.{ask-comes, ask-is, ask-shown, done-stays, found-in, id-low, shown-here}
use Rattle.host_widgets.proofs.DonePasses.{done-passes}
use Rattle.host_ctl.proofs.ControlsThere.{Was, live, of-comp, was-here}
use Rattle.host_ctl.proofs.PartsTold.{of-blob}
use Rattle.host_ctl.proofs.PutAnswers.{used-comp}

-- ---- the message

data-fits : (id index : ℕ) → id < 2 ^ 32 → index < 2 ^ 32 → IsMessage (GetData id index)
unfolding AreSlots IsSlot
data-fits id index fits small =
    ((tt, (omega arith, (tt, (fits, (omega arith, (omega arith, (tt, (tt, (tt, (tt, (tt, (tt, (tt, (tt, (tt, (tt, (small, (tt, (tt, (tt, (tt, (tt, (tt, tt))))))))))))))))))))))), tt)

-- one that asked and was done leaves the state
asked-stays : (f f' : FwState) (id index : ℕ) → row f (GetData id index) ≡ Ok f' → f' ≡ f
asked-stays f f' id index = done-stays f f' (fw.is_used f.graph id) (is_some (fw.part_at f.graph id index))

-- one for a part that is there is done
part-asked : (f : FwState) (id index : ℕ) (x : Comp) (p : Part) → comp_of f.graph id ≡ Some x → fw.part_by x.kind x.setting index ≡ Some p → row f (GetData id index) ≡ Ok f
part-asked f id index x p there at =
    by (fw.is_used f.graph id) (fw.part_at f.graph id index) (used-comp f.graph id x there) (ap (option_and_then (λ (c : Comp). fw.part_by c.kind c.setting index)) there ∙ at)
  where
    by : (b : Bool) (o : Option Part) → b ≡ true → o ≡ Some p → cond (not b) (Err no_device) (cond (not (is_some o)) (Err invalid) (Ok f)) ≡ Ok f
    by b o used is = rw (used, is) refl

-- an equaliser's control is that of a blob
pub blob-kind : (q : ControlKind) → HasBlob q → (most : ℕ) × (initial : List ℕ) × (q ≡ Blob most initial)
blob-kind (Volume min max channels lowest step mute) has = absurd has
blob-kind (Choice items) has = absurd has
blob-kind (Masks min max channels) has = absurd has
blob-kind (Blob most initial) has = (most, initial, refl)

few-initial : (blob : List ℕ) → is_initial blob ≡ true → parts blob ≤ 4
few-initial [] is = omega arith
few-initial (b ∷ blob) is = (few-parts (b ∷ blob) is).1

-- ---- parts that are asked for, one after another

-- so many parts from this one on
abbrev pub asks_from : ℕ → ℕ → ℕ → List Act
asks_from comp a n = map (Ask comp) (range_with_len a n)

-- what is so of one that asks for each of so many parts
asks-each : (plan : Plan) (So : Record → Act → Type 0) (comp m : ℕ) (kept : Record) → ((j : ℕ) → j < m → So kept (Ask comp j)) → (n j : ℕ) → j + n ≡ m → EachBy plan So kept (asks_from comp j n)
asks-each plan So comp m kept each zero j all = tt
asks-each plan So comp m kept each (suc n) j all = (each j (omega (arith, all)), λ now. asks-each plan So comp m kept each n (j + 1) (let rest : (j + 1) + n ≡ m = omega (arith, all) in rest))

asks-ask-nothing : (comp : ℕ) (js : List ℕ) → AllByRecursion IsPlain (map (Ask comp) js)
asks-ask-nothing comp [] = tt
asks-ask-nothing comp (j ∷ js) = (tt, asks-ask-nothing comp js)

pub asks-plain : (comp : ℕ) (q : ControlKind) (c : ControlRec) → AllByRecursion IsPlain (ask_acts comp q c)
asks-plain comp (Blob most initial) c = asks-ask-nothing comp (part_numbers c.blob)
asks-plain comp q c = (tt, tt)

-- ---- at a place

module _ (plan : Plan) (sound : IsSound plan) (kept : Record) (is : IsRecordOf plan kept) (i : ℕ) (low : i < length plan.controls) (most : ℕ) (initial : List ℕ) (kind : (control_here plan i).kind ≡ Blob most initial) where
  abbrev k : ControlPlan
  k = control_here plan i

  abbrev r : ControlRec
  r = record_here kept i

  abbrev here : IsLive plan.graph k
  here = live plan sound kept is i low

  pub initial-here : is_initial r.blob ≡ true
  initial-here = by k.kind kind here.kind (was-here plan sound kept is i low)
    where
      by : (q : ControlKind) → q ≡ Blob most initial → IsControlOf q here.comp.kind → Was (record { comp = k.comp; kind = q }) r → is_initial r.blob ≡ true
      by q e of was = subst (λ (y : ControlKind). IsControlOf y here.comp.kind → Was (record { comp = k.comp; kind = y }) r → is_initial r.blob ≡ true) (sym e) (λ of was. takes-by (Blob most initial) here.comp.kind r of was) of was

  -- ---- one part

  module _ (j : ℕ) (few : j < parts r.blob) where
    abbrev ask : Act
    ask = Ask k.comp j

    pub part-asks : act_message plan ask ≡ GetData k.comp j
    part-asks = ap (ask_message k.comp j) (of-comp plan sound kept is i low) ∙ ap (get_message k.comp j) kind

    part-fits : IsMessage (act_message plan ask)
    part-fits = subst IsMessage (sym part-asks) (data-fits k.comp j (id-low plan sound kept is i low) (let most = few-initial r.blob initial-here in omega (arith, few, most)))

    part-stays : (f f' : FwState) → row f (act_message plan ask) ≡ Ok f' → f' ≡ f
    part-stays f f' so = asked-stays f f' k.comp j (ap (row f) (sym part-asks) ∙ so)

    part-passes : (f : FwState) → came_to (verdict (Some (done_reply (body_of f (decoded (message_spelling (act_message plan ask))))))) ≡ Ok tt
    part-passes f = done-passes (body_of f (decoded (message_spelling (act_message plan ask))))

    pub part-is : IsTaken plan kept ask
    part-is = still-taken plan kept ask is refl refl (part-fits, decoded-message (act_message plan ask) part-fits) part-passes part-stays

    pub part-shown : IsShown plan kept ask
    part-shown = record { message = part-fits; power = refl; shown = λ f f' shows so. (is, ap view_of (part-stays f f' so) ∙ shows) }

    -- the record sets a component that has the part
    part-had : fw.part_by (set_comp plan kept here.comp).kind (set_comp plan kept here.comp).setting j ≡ Some (blob_part r.blob j)
    part-had =
        let shown = shown-here plan sound kept is i low in
        let x = set_comp plan kept here.comp in
        ap (λ (s : Setting). fw.part_by x.kind s j) shown.1
        ∙ by k.kind kind shown.0
        ∙ ap (λ (b : Bool). cond b (Some (blob_part r.blob j)) None) (lt-ltb j (parts r.blob) few)
      where
        by : (q : ControlKind) → q ≡ Blob most initial → IsControlOf q here.comp.kind →
            fw.part_by here.comp.kind (record_setting here.comp.kind (Some (record { comp = k.comp; kind = q }, r))) j ≡ cond (nat_lt j (parts r.blob)) (Some (blob_part r.blob j)) None
        by q e of =
            let eq = (subst (λ (y : ControlKind). IsControlOf y here.comp.kind) e of).0 in
            ap (λ (kd : Kind). fw.part_by kd (record_setting kd (Some (record { comp = k.comp; kind = q }, r))) j) eq

    part-there : (f : FwState) → IsThere plan sound kept is i low f → row f (GetData k.comp j) ≡ Ok f
    part-there f there = part-asked f k.comp j (set_comp plan kept here.comp) (blob_part r.blob j) there part-had

    -- the reply of a firmware that has it carries it
    part-carried : (f : FwState) → IsThere plan sound kept is i low f → body_of f (decoded (message_spelling (GetData k.comp j))) ≡ bodies.Part (blob_part r.blob j)
    part-carried f there =
        ap (body_of f) (decoded-message (GetData k.comp j) (subst IsMessage part-asks part-fits))
        ∙ ap (λ (o : Option Comp). part_body (option_and_then (λ (c : Comp). fw.part_by c.kind c.setting j) o)) there
        ∙ ap part_body part-had

    -- and is read as it was written
    part-read : verdict (Some (done_reply (bodies.Part (blob_part r.blob j)))) ≡ Ok (record { error = pos 0; body = bodies.Part (blob_part r.blob j) })
    part-read =
        let b = of-blob r.blob j few initial-here in
        let s = part-some r.blob b j few in
        let l = part-left r.blob b j few in
        let p = payload-long r.blob b in
        let most = few-initial r.blob initial-here in
        ap judged (decoded_reply-exactly (record { error = pos 0; body = bodies.Part (blob_part r.blob j) })
        (zero-fits, (omega (arith, few, most), header-long r.blob b, rw (le-leb 1 (length (blob_part r.blob j).bytes) s.0, le-leb (length (blob_part r.blob j).bytes) 260 s.1) refl, le-leb ((blob_part r.blob j).remaining + length (blob_part r.blob j).bytes) 992 (omega (arith, l, p.1)))))

    -- what an exchange that passed brings is the part, and the component stays as it is
    pub part-heard : {D : Type 0} (means : Meaning D) (heap : ℕ) (m : World D) (on : is_some (means.on m.device) ≡ true) (set : IsSetAt means plan kept k.comp m.device) (kept' : Record) (v : World D) (result : Result Reply HostFault) →
        Replied means heap (message_spelling (GetData k.comp j)) kept kept' m v result → (reply : Reply) → result ≡ Ok reply → (reply.body ≡ bodies.Part (blob_part r.blob j)) × HasSet means plan kept k.comp v.device
    part-heard means heap m on set =
        heard plan sound kept is i low means m on set heap (GetData k.comp j) (subst IsMessage part-asks part-fits) (λ f f' so. asked-stays f f' k.comp j so) (bodies.Part (blob_part r.blob j)) (λ f there. (part-carried f there, part-read))

    pub part-comes : (heap : ℕ) → IsAnswered plan heap kept ask
    part-comes heap = record { message = part-fits; passes = part-passes; answers = λ f shows. (f, ap (row f) part-asks ∙ part-there f (found-in plan sound kept is i low f shows)) }

-- ---- all of them, by the control's kind

module _ (plan : Plan) (sound : IsSound plan) (kept : Record) (is : IsRecordOf plan kept) (i : ℕ) (low : i < length plan.controls) where
  abbrev control : ControlPlan
  control = control_here plan i

  abbrev c : ControlRec
  c = record_here kept i

  asks-of : (So : Record → Act → Type 0) → ((command : ℕ) → value_command control.kind ≡ Some command → So kept (Ask control.comp 0)) →
      ((most : ℕ) (initial : List ℕ) → control.kind ≡ Blob most initial → (j : ℕ) → j < parts c.blob → So kept (Ask control.comp j)) → (q : ControlKind) → control.kind ≡ q → EachBy plan So kept (ask_acts control.comp q c)
  asks-of So one part (Volume min max channels lowest step mute) e = (one 0 (ap value_command e), λ now. tt)
  asks-of So one part (Choice items) e = (one 1 (ap value_command e), λ now. tt)
  asks-of So one part (Masks min max channels) e = (one 2 (ap value_command e), λ now. tt)
  asks-of So one part (Blob most initial) e = asks-each plan So control.comp (parts c.blob) kept (part most initial e) (parts c.blob) 0 (let all : 0 + parts c.blob ≡ parts c.blob = omega arith in all)

  -- both laws of one act hold of each
  pub asks-taken : EachBy plan (IsTaken plan) kept (ask_acts control.comp control.kind c)
  asks-taken = asks-of (IsTaken plan) (λ command at. ask-is plan sound kept is i low command at) (λ most initial e j few. part-is plan sound kept is i low most initial e j few) control.kind refl

  pub asks-met : (heap : ℕ) → kept.power ≡ On → AreMet plan heap kept (ask_acts control.comp control.kind c)
  asks-met heap on = asks-of (IsMet plan heap) (λ command at. met-by plan heap kept (Ask control.comp 0) on (ask-shown plan sound kept is i low command at) (ask-comes plan sound kept is i low command at heap))
      (λ most initial e j few. met-by plan heap kept (Ask control.comp j) on (part-shown plan sound kept is i low most initial e j few) (part-comes plan sound kept is i low most initial e j few heap)) control.kind refl
