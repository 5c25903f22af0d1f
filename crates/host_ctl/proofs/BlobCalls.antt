-- A blob at the equaliser of a place: the record with it, and what the firmware makes of its parts.
use Rattle.std.proofs.Common.{◌≡◌, refl, sym, ap, subst, ◌∙◌, ℕ, zero, suc, ◌+◌, ◌<◌, ◌≤◌, Bool, true, false, cond, List, [], ◌∷◌, map, length, Some, option_map, Ok, inl, inr, arith}
use Rattle.std.specs.List.{AllByRecursion, range_with_len}
use Rattle.sof_base.specs.BlobFaults.{is_blob}
use Rattle.stream_law.specs.declared.graph.Kind.{Kind}
use Rattle.stream_law.specs.declared.graph.Kind.TheVariants as kinds
use Rattle.stream_law.specs.declared.graph.Setting.TheVariants as settings
use Rattle.stream_law.specs.State.{FwState, View, view_of}
use Rattle.stream_law.specs.Ways.{comp_of}
use Rattle.ipc3_model.specs.declared.message.Message.TheVariants.{SetData}
use Rattle.ipc3_model.specs.Meanings.{IsMessage}
use Rattle.ipc3_model.specs.Messages.{message_spelling, decoded}
use Rattle.mbox_link.specs.BlobParts.{blob_part, is_last, parts}
use Rattle.mbox_link.specs.Step.{body_of, row, with_comps, with_setting}
use Rattle.mbox_link.specs.Calls.{World, Meaning}
use Rattle.tplg_plan.specs.declared.plans.Plan.{Plan}
use Rattle.tplg_plan.specs.declared.plans.ControlPlan.{ControlPlan}
use Rattle.tplg_plan.specs.declared.plans.ControlKind.{ControlKind}
use Rattle.tplg_plan.specs.declared.plans.ControlKind.TheVariants.{Volume, Choice, Blob, Masks}
use Rattle.tplg_plan.specs.Sound.{IsControlOf, IsLive, IsSound}
use Rattle.host_widgets.specs.declared.answers.Answer.TheVariants.{Done}
use Rattle.host_widgets.specs.declared.kept.ControlRec.{ControlRec}
use Rattle.host_widgets.specs.declared.kept.Power.TheVariants as powers
use Rattle.host_widgets.specs.declared.kept.Record.{Record}
use Rattle.host_widgets.specs.ActLists.{part_acts}
use Rattle.host_widgets.specs.AnsweredOrders.{OrderAnswered}
use Rattle.host_widgets.specs.Controls.{control_of}
use Rattle.host_widgets.specs.Host.{Outcome, Agrees, AreControls, IsRecordOf, IsControlSet}
use Rattle.host_widgets.specs.HostActs.{Act, Part, after, with_blob}
use Rattle.host_widgets.specs.Kept.{control_at, with_control}
use Rattle.host_widgets.specs.ViewOf.{set_comp, record_setting, record_view}
use Rattle.host_widgets.proofs.Effects.{decoded-message}
use Rattle.host_widgets.proofs.LookedUp.{each-found}
use Rattle.host_widgets.proofs.OneActLaws.{bare-passes}
use Rattle.host_widgets.proofs.PartFacts.{few-parts, more-behind, none-behind}
use Rattle.host_widgets.proofs.PartRows.{HasStaged, part-last, part-message, part-more}
use Rattle.host_widgets.proofs.PartsReady.{made-last, made-more, parts-ready}
use Rattle.host_ctl.specs.ControlOrders.{bytes_order_at}
use Rattle.host_ctl.specs.ControlAnswers.{MayInstall}
use Rattle.host_ctl.specs.ControlPlaces.{control_here, record_here}
use Rattle.host_widgets.proofs.ActSteps.{Both, EachBy, IsMet, all_after, sends-carried}
use Rattle.host_ctl.proofs.ControlsTaken.{found-in, id-low}
use Rattle.host_ctl.proofs.ControlsThere.{Was, at-here, control-twice, controls-with, kinds-here, live, of-comp}
use Rattle.host_ctl.proofs.PutShows.{all-set, there-at}
use Rattle.host_ctl.proofs.PutStands.{off-agrees, record-with}

-- the view with a blob in force at an equaliser
abbrev pub blob_view : ℕ → List ℕ → View → View
blob_view id blob v = record { graph = with_comps (map (with_setting id (settings.Blob blob)) v.graph.comps) v.graph; streams = v.streams }

-- ---- what may be installed

blob-of : (q : ControlKind) (blob : List ℕ) → MayInstall q blob → is_blob blob ≡ true
blob-of (Volume min max channels lowest step mute) blob may = absurd may
blob-of (Choice items) blob may = absurd may
blob-of (Masks min max channels) blob may = absurd may
blob-of (Blob most initial) blob may = may.1

kind-of : (q : ControlKind) (blob : List ℕ) → MayInstall q blob → (kind : Kind) → IsControlOf q kind → kind ≡ kinds.Eq
kind-of (Volume min max channels lowest step mute) blob may kind of = absurd may
kind-of (Choice items) blob may kind of = absurd may
kind-of (Masks min max channels) blob may kind of = absurd may
kind-of (Blob most initial) blob may kind of = of.0

set-of : (id : ℕ) (q : ControlKind) (blob : List ℕ) → MayInstall q blob → (c : ControlRec) → Was (record { comp = id; kind = q }) c → IsControlSet q (with_blob blob c)
set-of id (Volume min max channels lowest step mute) blob may c was = absurd may
set-of id (Choice items) blob may c was = absurd may
set-of id (Masks min max channels) blob may c was = absurd may
set-of id (Blob most initial) blob may c (inl first) = (ap (λ (x : ControlRec). x.values) first, may.0, may.1)
set-of id (Blob most initial) blob may c (inr set) = (set.0, may.0, may.1)

module _ (plan : Plan) (sound : IsSound plan) (kept : Record) (is : IsRecordOf plan kept) (i : ℕ) (low : i < length plan.controls) (blob : List ℕ) (may : MayInstall (control_here plan i).kind blob) where
  abbrev k : ControlPlan
  k = control_here plan i

  abbrev r : ControlRec
  r = record_here kept i

  abbrev here : IsLive plan.graph k
  here = live plan sound kept is i low

  -- the record with the blob
  abbrev now : Record
  now = with_control plan k.comp (with_blob blob) kept

  pub a-blob : is_blob blob ≡ true
  a-blob = blob-of k.kind blob may

  pub an-equaliser : here.comp.kind ≡ kinds.Eq
  an-equaliser = kind-of k.kind blob may here.comp.kind here.kind

  set-blobs : AreControls plan.controls now.controls
  set-blobs = controls-with k.comp (with_blob blob) plan.controls kept.controls (all plan.controls (each-found (λ (x : ControlPlan). x.comp) plan.controls sound.controls_ascend)) is.controls
    where
      all : (ks : List ControlPlan) → AllByRecursion (λ (x : ControlPlan). control_of plan x.comp ≡ Some x) ks → AllByRecursion (λ (x : ControlPlan). x.comp ≡ k.comp → (c : ControlRec) → Was x c → IsControlSet x.kind (with_blob blob c)) ks
      all [] each = tt
      all (x ∷ ks) each = (
        λ same c was.
            let one : Some k ≡ Some x = sym (of-comp plan sound kept is i low) ∙ ap (control_of plan) (sym same) ∙ each.0 in
            let x-is : k ≡ x = cc one in
            subst (λ (y : ControlPlan). Was y c → IsControlSet y.kind (with_blob blob c)) x-is (λ was. set-of k.comp k.kind blob may c was) was,
        all ks each.1,
      )

  pub now-record : IsRecordOf plan now
  now-record = record-with plan kept k.comp (with_blob blob) is set-blobs

  setting-at : record_setting here.comp.kind (control_at plan now k.comp) ≡ settings.Blob blob
  setting-at =
      ap (record_setting here.comp.kind) (there-at k.comp (with_blob blob) plan.controls kept.controls ∙ ap (option_map (λ (p : ControlPlan × ControlRec). (p.0, with_blob blob p.1))) (at-here plan sound kept is i low))
      ∙ ap (λ (kind : Kind). record_setting kind (Some (k, with_blob blob r))) an-equaliser

  pub now-view : blob_view k.comp blob (record_view plan kept) ≡ record_view plan now
  now-view = λ j. record {
    graph = with_comps (all-set plan kept k.comp (with_blob blob) here.comp.kind (settings.Blob blob) setting-at plan.graph.comps (kinds-here plan sound kept is i low) j) plan.graph;
    streams = (record_view plan kept).streams;
  }

  -- ---- its parts

  abbrev parts_from : ℕ → ℕ → List Act
  parts_from j n = map (Part k.comp blob) (range_with_len j n)

  -- the record changes with the last
  left-by : (j : ℕ) (b : Bool) → is_last blob j ≡ b → after plan (Part k.comp blob j) kept ≡ cond b now kept
  left-by j b so = ap (λ (b : Bool). cond b now kept) so

  pub part-record : (j : ℕ) → IsRecordOf plan (after plan (Part k.comp blob j) kept)
  part-record j = by (is_last blob j)
    where
      by : (b : Bool) → IsRecordOf plan (cond b now kept)
      by true = now-record
      by false = is

  -- what is so of each is so of all of them, which leave the record with the blob
  module _ (So : Record → Act → Type 0) (each : (j : ℕ) → j < parts blob → So kept (Part k.comp blob j)) where
    abbrev AllSo : ℕ → ℕ → Record → Type 0
    AllSo j n before = EachBy plan So before (parts_from j n) × (all_after plan (parts_from j n) before ≡ now)

    from-each : (n j : ℕ) → j + suc n ≡ parts blob → AllSo j (suc n) kept
    from-each zero j all = by (is_last blob j) refl
      where
        by : (b : Bool) → is_last blob j ≡ b → AllSo j (suc zero) kept
        by true last = ((each j (omega (arith, all)), λ record_is. tt), left-by j true last)
        by false more = absurd (let behind = (more-behind blob a-blob j (omega (arith, all)) more).0 in omega (arith, all, behind))
    from-each (suc n) j all = by (is_last blob j) refl (from-each n (j + 1) (omega (arith, all)))
      where
        by : (b : Bool) → is_last blob j ≡ b → AllSo (j + 1) (suc n) kept → AllSo j (suc (suc n)) kept
        by true last rest = absurd (let none = none-behind blob a-blob j (omega (arith, all)) last in omega (arith, all, none))
        by false more rest = let r = subst (AllSo (j + 1) (suc n)) (sym (left-by j false more)) rest in ((each j (omega (arith, all)), λ record_is. r.0), r.1)

    pub parts-each : EachBy plan So kept (part_acts k.comp blob) × (all_after plan (part_acts k.comp blob) kept ≡ now)
    parts-each = by (parts blob) refl (few-parts blob a-blob).0
      where
        by : (n : ℕ) → parts blob ≡ n → 1 ≤ n → AllSo 0 n kept
        by zero same some = absurd (omega (arith, some))
        by (suc n) same some = from-each n 0 (let all : 0 + suc n ≡ parts blob = omega (arith, same) in all)

  -- ---- what a firmware that shows the record makes of them

  part-met : (heap : ℕ) → kept.power ≡ powers.On → (j : ℕ) → j < parts blob → IsMet plan heap kept (Part k.comp blob j)
  part-met heap on j few = record {
    on = on;
    message = fits;
    passes = λ f. bare-passes (body_of f (decoded (message_spelling (SetData k.comp (blob_part blob j))))) (ap (body_of f) (decoded-message (SetData k.comp (blob_part blob j)) fits));
    answers = λ f shows staged. answered f (found-in plan sound kept is i low f shows) staged (is_last blob j) refl;
    power = same-power (is_last blob j);
    shown = λ f f' shows staged done. (part-record j, shown-so f f' shows staged done (is_last blob j) refl);
  }
    where
      fits : IsMessage (SetData k.comp (blob_part blob j))
      fits = part-message k.comp blob a-blob j few (id-low plan sound kept is i low)

      same-power : (b : Bool) → (cond b now kept).power ≡ kept.power
      same-power true = refl
      same-power false = refl

      answered : (f : FwState) → comp_of f.graph k.comp ≡ Some (set_comp plan kept here.comp) → HasStaged k.comp blob j f → (b : Bool) → is_last blob j ≡ b → (next : FwState) × (row f (SetData k.comp (blob_part blob j)) ≡ Ok next)
      answered f there staged true last = (_, part-last k.comp blob a-blob j few f staged (set_comp plan kept here.comp) there an-equaliser last)
      answered f there staged false more = (_, part-more k.comp blob a-blob j few f staged (set_comp plan kept here.comp) there an-equaliser more)

      shown-so : (f f' : FwState) → view_of f ≡ record_view plan kept → HasStaged k.comp blob j f → row f (SetData k.comp (blob_part blob j)) ≡ Ok f' → (b : Bool) → is_last blob j ≡ b → view_of f' ≡ record_view plan (after plan (Part k.comp blob j) kept)
      shown-so f f' shows staged done true last =
          ap view_of (made-last k.comp blob a-blob j few f f' staged last done) ∙ ap (blob_view k.comp blob) shows ∙ now-view ∙ ap (record_view plan) (sym (left-by j true last))
      shown-so f f' shows staged done false more =
          ap view_of (made-more k.comp blob a-blob j few f f' staged more done) ∙ shows ∙ ap (record_view plan) (sym (left-by j false more))

  abbrev installs : Record → Record
  installs = with_control plan k.comp (with_blob blob)

  -- where the two sides agree, what was answered was carried out
  pub bytes-carried : {D : Type 0} (means : Meaning D) (heap : ℕ) (w : World D) → (kept.power ≡ powers.Unloaded → ⊥) → Agrees means plan kept w.device → (kept' : Record) (v : World D) (result : Outcome) →
      OrderAnswered means plan heap (bytes_order_at plan kept k.comp blob) kept kept' w v result → Both means plan heap (bytes_order_at plan kept k.comp blob) kept kept' w v result
  bytes-carried means heap w up agrees kept' v result =
      sends-carried means plan heap kept.power (part_acts k.comp blob) installs Done kept kept' w v result (λ on. (parts-each (IsMet plan heap) (part-met heap on)).0) (parts-ready k.comp blob a-blob plan)
      (λ on d. subst (λ (r : Record). Agrees means plan r d → Agrees means plan (installs r) d) (sym (parts-each (IsMet plan heap) (part-met heap on)).1)
      (subst (λ (r : Record). Agrees means plan r d) (sym (control-twice plan k.comp (with_blob blob) (λ r. refl) kept))))
      (λ off. off-agrees means plan kept k.comp (with_blob blob) up off now-record) agrees
