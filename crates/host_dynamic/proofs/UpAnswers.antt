-- The firmware itself answers the messages of plain commands as the rules say, where what is up is there.
use Rattle.std.proofs.Common.{◌≡◌, refl, sym, ap, subst, ◌∙◌, ℕ, ◌<◌, List, length, Bool, true, false, not, cond, ◌==◌, Option, Some, None, Ok, Err}
use Rattle.std.specs.Prelude.{find, is_some, option_and_then}
use Rattle.std.specs.List.{zip}
use Rattle.std.proofs.lemmas.Bool.{lt-ltb}
use Rattle.sof_base.specs.BlobFaults.{is_blob}
use Rattle.stream_law.specs.declared.graph.Kind.{Kind}
use Rattle.stream_law.specs.declared.graph.Kind.TheVariants as kinds
use Rattle.stream_law.specs.declared.graph.Setting.{Setting}
use Rattle.stream_law.specs.declared.graph.Comp.{Comp}
use Rattle.stream_law.specs.State.{FwState}
use Rattle.stream_law.specs.Ways.{comp_of}
use Rattle.stream_law.specs.Order.{is_among}
use Rattle.ipc3_model.specs.declared.message.Message.{Message}
use Rattle.ipc3_model.specs.declared.message.Message.TheVariants.{SetData}
use Rattle.mbox_link.specs.BlobParts.{blob_part, is_last, parts}
use Rattle.mbox_link.specs.Step.{row, is_used, part_by, part_at, no_device, invalid}
use Rattle.tplg_plan.specs.declared.plans.Plan.{Plan}
use Rattle.tplg_plan.specs.declared.plans.ControlPlan.{ControlPlan}
use Rattle.tplg_plan.specs.declared.plans.ControlKind.{ControlKind}
use Rattle.tplg_plan.specs.declared.plans.ControlKind.TheVariants.{Volume, Blob}
use Rattle.tplg_plan.specs.Sound.{IsControlOf, IsLive, IsSound}
use Rattle.host_widgets.specs.declared.kept.ControlRec.{ControlRec}
use Rattle.host_widgets.specs.declared.kept.Found.TheVariants as founds
use Rattle.host_widgets.specs.declared.kept.Power.TheVariants as powers
use Rattle.host_widgets.specs.declared.trigger.Trigger.{Trigger}
use Rattle.host_widgets.specs.declared.trigger.Trigger.TheVariants.{Start}
use Rattle.host_widgets.specs.Acts.{trigger_message}
use Rattle.host_widgets.specs.ActMessages.{set_message, act_message}
use Rattle.host_widgets.specs.HostActs.{Put, Part, Trig, Free, Save, Ask, triggered_stream, with_values, Act}
use Rattle.host_widgets.specs.HostRecord.{closed}
use Rattle.host_widgets.specs.Kept.{control_at, with_control, with_stream}
use Rattle.host_widgets.specs.StreamStands.{takes_trigger}
use Rattle.host_widgets.specs.ViewOf.{record_setting, set_comp}
use Rattle.host_widgets.proofs.LookedUp.{found-is}
use Rattle.host_widgets.proofs.PartRows.{HasStaged, part-more, part-last}
use Rattle.host_ctl.specs.ControlAnswers.{MaySet, MayInstall, value_command}
use Rattle.host_ctl.specs.ControlPlaces.{control_here, record_here}
use Rattle.host_ctl.proofs.BlobCalls.{a-blob, an-equaliser}
use Rattle.host_ctl.proofs.ControlParts.{part-asks}
use Rattle.host_ctl.proofs.ControlsTaken.{puts, asks}
use Rattle.host_ctl.proofs.ControlsThere.{live, at-here, was-here}
use Rattle.host_ctl.proofs.PutAnswers.{used-comp, values_by, values-at, asked-answers}
use Rattle.host_pcm.specs.Asks.{is_closed}
use Rattle.host_widgets.specs.There.{There, there_in, by_row, by_part, there_after, silent_state}
use Rattle.host_widgets.specs.UpState.{UpState, up_own}
use Rattle.host_dynamic.specs.UpStates.{IsUpState}
use Rattle.host_widgets.proofs.RowsTold.{told}
use Rattle.host_widgets.proofs.RowsThere.{IsNoPart}
use Rattle.host_widgets.proofs.StageBetween.{comp-at}
use Rattle.host_widgets.proofs.StageStreams.{free-told, trigger-told}
use Rattle.host_dynamic.proofs.UpControls.{asks-stay, put-told}
use Rattle.host_widgets.proofs.UpExchanges.{IsOwn, own-told}
use Rattle.host_widgets.proofs.UpStages.{Stage, StreamPair, at_stage, index_of_id, up_stage}
use Rattle.host_dynamic.proofs.UpStreams.{begun, has, whole}
use Rattle.host_dynamic.proofs.UpTriggers.{takes-open}

-- ---- messages that are no part of a blob

no-trigger : (host : ℕ) (what : Trigger) → IsNoPart (trigger_message host what)
no-trigger host Start = tt
no-trigger host what = tt

no-set : (comp : ℕ) (values : List ℕ) (q : ControlKind) → IsNoPart (set_message comp values q)
no-set comp values (Volume min max channels lowest step mute) = tt
no-set comp values kind = tt

module _ (plan : Plan) (sound : IsSound plan) (s : UpState) (is : IsUpState plan s) (on : s.kept.power ≡ powers.On) (f : FwState) (same : there_in f ≡ s.there) where
  abbrev st : Stage
  st = up_stage plan s.up

  standing : s.there ≡ at_stage plan s.kept st s.there.heap
  standing = (begun plan sound s.up 0 s is refl on).is

  -- what a firmware takes in which what is up is there, each takes in which this is there
  own-so : (act : Act) → IsNoPart (act_message plan act) → up_own plan s act ≡ None → there_after plan act s.there ≡ by_row plan act s.there → (now : There) →
      told (row (silent_state (at_stage plan s.kept st s.there.heap)) (act_message plan act)) ≡ Ok now → IsOwn plan s act f
  own-so act no_part free rows now done = own-told plan s act no_part rows f same free now (ap (λ (t : There). told (row (silent_state t) (act_message plan act))) standing ∙ done)

  -- ---- streams

  module _ (host : ℕ) (p : StreamPair) (found : find (λ (q : StreamPair). q.0.host == host) (zip plan.streams s.kept.streams) ≡ Some p) where
    pub own-trigger : (what : Trigger) → takes_trigger what p.1.found ≡ true → IsOwn plan s (Trig host what) f
    own-trigger what moves = own-so (Trig host what) (no-trigger host what) refl refl (at_stage plan (with_stream plan host (triggered_stream what) s.kept) st s.there.heap)
        (trigger-told plan sound s.kept st (whole plan sound s.up host s) s.there.heap host p found (has plan sound s.up host s is refl on p found (takes-open what p.1.found moves)) what moves)

    pub own-free : p.1.found ≡ founds.Prepared → IsOwn plan s (Free host) f
    own-free prepared = own-so (Free host) tt refl refl (at_stage plan (with_stream plan host (λ r. closed) s.kept) st s.there.heap)
        (free-told plan sound s.kept st (whole plan sound s.up host s) s.there.heap host p found (has plan sound s.up host s is refl on p found (ap is_closed prepared)) prepared)

  -- before the power is cut
  pub own-save : IsOwn plan s Save f
  own-save = λ i. Ok (same i)

  -- ---- controls

  module _ (i : ℕ) (low : i < length plan.controls) (up : is_among s.up (index_of_id plan (control_here plan i).comp) ≡ true) where
    abbrev k : ControlPlan
    k = control_here plan i

    abbrev r : ControlRec
    r = record_here s.kept i

    abbrev here : IsLive plan.graph k
    here = live plan sound s.kept is.record_is i low

    pub own-put : (values : List ℕ) → MaySet k.kind values → IsOwn plan s (Put k.comp values) f
    own-put values may = own-so (Put k.comp values) (subst IsNoPart (sym (puts plan sound s.kept is.record_is i low values may)) (no-set k.comp values k.kind)) refl refl
        (at_stage plan (with_control plan k.comp (with_values values) s.kept) st s.there.heap) (put-told plan sound s is i low values may up s.there.heap)

    -- its component, as the record sets it
    pub shown-comp : comp_of f.graph k.comp ≡ Some (set_comp plan s.kept here.comp)
    shown-comp = ap (λ (t : There). comp_of t.graph k.comp) (same ∙ standing) ∙ comp-at plan sound s.kept st k.comp here.comp here.there up

    setting : (set_comp plan s.kept here.comp).setting ≡ record_setting here.comp.kind (Some (k, r))
    setting =
        ap (λ (id : ℕ). record_setting here.comp.kind (control_at plan s.kept id)) (found-is (λ (c : Comp). c.id) plan.graph.comps k.comp here.comp here.there)
        ∙ ap (record_setting here.comp.kind) (at-here plan sound s.kept is.record_is i low)

    pub own-ask : (command : ℕ) → value_command k.kind ≡ Some command → IsOwn plan s (Ask k.comp 0) f
    own-ask command at =
        ap (λ (m : Message). told (row f m)) (asks plan sound s.kept is.record_is i low command at)
        ∙ ap told (asked-answers f k.comp (set_comp plan s.kept here.comp) shown-comp r command (values_by r k.kind)
        (values-at f k.comp (set_comp plan s.kept here.comp) shown-comp r k.kind command (here.kind, setting, was-here plan sound s.kept is.record_is i low) at))
        ∙ (λ j. Ok ((same ∙ sym (asks-stay plan k.comp 0 s.there)) j))

    -- a part of its blob is asked for
    pub own-ask-part : (most : ℕ) (initial : List ℕ) → k.kind ≡ Blob most initial → (j : ℕ) → j < parts r.blob → IsOwn plan s (Ask k.comp j) f
    own-ask-part most initial kind j few =
        ap (λ (m : Message). told (row f m)) (part-asks plan sound s.kept is.record_is i low most initial kind j few)
        ∙ by (is_used f.graph k.comp) (is_some (part_at f.graph k.comp j)) (used-comp f.graph k.comp (set_comp plan s.kept here.comp) shown-comp) some
        ∙ (λ n. Ok ((same ∙ sym (asks-stay plan k.comp j s.there)) n))
      where
        equaliser : here.comp.kind ≡ kinds.Eq
        equaliser = (subst (λ (q : ControlKind). IsControlOf q here.comp.kind) kind here.kind).0

        some : is_some (part_at f.graph k.comp j) ≡ true
        some =
            ap (λ (o : Option Comp). is_some (option_and_then (λ (c : Comp). part_by c.kind c.setting j) o)) shown-comp
            ∙ ap (λ (x : Setting). is_some (part_by here.comp.kind x j)) setting
            ∙ ap (λ (x : Kind). is_some (part_by x (record_setting x (Some (k, r))) j)) equaliser
            ∙ ap (λ (b : Bool). is_some (cond b (Some (blob_part r.blob j)) None)) (lt-ltb j (parts r.blob) few)

        by : (a b : Bool) → a ≡ true → b ≡ true → told (cond (not a) (Err no_device) (cond (not b) (Err invalid) (Ok f))) ≡ Ok (there_in f)
        by a b is_a is_b = rw (is_a, is_b) refl

    -- a part of a blob is sent, where those before it are staged
    pub own-part : (blob : List ℕ) → MayInstall k.kind blob → (j : ℕ) → j < parts blob → HasStaged k.comp blob j f → IsOwn plan s (Part k.comp blob j) f
    own-part blob may j few staged = by (is_last blob j) refl
      where
        whole-blob : is_blob blob ≡ true
        whole-blob = a-blob plan sound s.kept is.record_is i low blob may

        equaliser : here.comp.kind ≡ kinds.Eq
        equaliser = an-equaliser plan sound s.kept is.record_is i low blob may

        by : (b : Bool) → is_last blob j ≡ b → told (row f (SetData k.comp (blob_part blob j))) ≡ Ok (by_part k.comp blob (is_last blob j) s.there)
        by true e =
            ap told (part-last k.comp blob whole-blob j few f staged (set_comp plan s.kept here.comp) shown-comp equaliser e)
            ∙ (λ n. Ok (by_part k.comp blob true (same n))) ∙ (λ n. Ok (by_part k.comp blob (sym e n) s.there))
        by false e =
            ap told (part-more k.comp blob whole-blob j few f staged (set_comp plan s.kept here.comp) shown-comp equaliser e)
            ∙ (λ n. Ok (same n)) ∙ (λ n. Ok (by_part k.comp blob (sym e n) s.there))
