-- The law of one act for values that are put, and for what changes nothing.
use Rattle.std.proofs.Common.{◌≡◌, refl, sym, ap, ◌∙◌, subst, ℕ, Bool, true, false, List, [], ◌∷◌, map, Option, Some, None, Ok, ◌++◌, ◌==◌}
use Rattle.std.specs.Prelude.{if◌then◌else◌}
use Rattle.stream_law.specs.declared.graph.Comp.{Comp}
use Rattle.stream_law.specs.State.{FwState, View, view_of}
use Rattle.stream_law.specs.Ways.{comp_of, buffers, is_of}
use Rattle.stream_law.specs.Seen.{seen, is_volume}
use Rattle.stream_law.specs.Past.{Now, Leads}
use Rattle.stream_law.specs.Stands.{Stands}
use Rattle.stream_law.proofs.SeenLaws.{seen-sees}
use Rattle.ipc3_model.specs.declared.message.Message.{Message}
use Rattle.ipc3_model.specs.Messages.{message_spelling, decoded}
use Rattle.ipc3_model.specs.Meanings.{IsMessage}
use Rattle.mbox_link.specs.Step.{row, body, body_of}
use Rattle.tplg_plan.specs.declared.plans.Plan.{Plan}
use Rattle.tplg_plan.specs.declared.plans.ControlPlan.{ControlPlan}
use Rattle.tplg_plan.specs.declared.plans.ControlKind.{ControlKind}
use Rattle.tplg_plan.specs.Sound.{IsControlOf}
use Rattle.host_widgets.specs.Controls.{control_of}
use Rattle.host_widgets.specs.Host.{IsRecordOf, AreControls, verdict}
use Rattle.host_widgets.proofs.ReplyErrors.{done_reply}
use Rattle.host_widgets.specs.declared.kept.Record.{Record}
use Rattle.host_widgets.specs.declared.kept.ControlRec.{ControlRec}
use Rattle.host_widgets.specs.Kept.{changed, control_at, with_control}
use Rattle.host_widgets.specs.HostActs.{Act, Put, after, fresh_by, fresh_in, with_values}
use Rattle.host_widgets.specs.ActMessages.{act_message, put_message}
use Rattle.host_widgets.specs.ViewOf.{record_view}
use Rattle.host_widgets.specs.ActCalls.{came_to}
use Rattle.host_ctl.proofs.PutShows.{AreKind, put_state, put-made}
use Rattle.host_ctl.proofs.PutStands.{put-stands, stands-seen, put-record}
use Rattle.host_widgets.proofs.Effects.{set-bare}
use Rattle.host_widgets.proofs.OneActLaws.{IsTaken, LeavesSo, bare-passes}

-- its message fits, and is read as it was written
abbrev pub IsRead : Message → Type 0
IsRead m = IsMessage m × (decoded (message_spelling m) ≡ Ok m)

-- ---- values

-- what a firmware is left with by values that are in force
module _ (plan : Plan) (kept : Record) (is : IsRecordOf plan kept) (comp : ℕ) (values : List ℕ) (controls : AreControls plan.controls (with_control plan comp (with_values values) kept).controls)
    (f : FwState) (shows : view_of f ≡ record_view plan kept) (rings : map (λ r. r.buffer) f.rings ≡ buffers plan.graph) where
  abbrev now : Record
  now = with_control plan comp (with_values values) kept

  abbrev v : View
  v = record_view plan now

  will : IsRecordOf plan now
  will = put-record plan kept comp (with_values values) (λ c. refl) is controls

  -- at a volume, and at another
  put-left : (volume : Bool) → is_of plan.graph is_volume comp ≡ volume → LeavesSo plan (Put comp values) f (put_state f v comp volume) now
  put-left true kind = record {
    record_now = will;
    shows_now = refl;
    heap = refl;
    rings = (seen-sees f v (Some comp) rings).buffers;
    stands = λ whole inputs before stood. subst (λ (fresh : Option ℕ). (after_it : Stands (Some (seen v (Some comp) f)) whole inputs (before ++ Now v fresh ∷ [])) × Leads whole stood.past (Now v fresh ∷ []) after_it.past) (sym (ap (fresh_by comp) kind))
        (stands-seen plan kept comp (with_values values) (λ c. refl) (Some comp) is f (seen v (Some comp) f) shows (seen-sees f v (Some comp) rings) whole inputs before stood);
  }
  put-left false kind = record {
    record_now = will;
    shows_now = refl;
    heap = refl;
    rings = rings;
    stands = λ whole inputs before stood. subst (λ (fresh : Option ℕ). (after_it : Stands (Some (record f { graph = v.graph; streams = v.streams })) whole inputs (before ++ Now v fresh ∷ [])) × Leads whole stood.past (Now v fresh ∷ []) after_it.past) (sym (ap (fresh_by comp) kind))
        (put-stands plan kept comp (with_values values) (λ c. refl) is f (record f { graph = v.graph; streams = v.streams }) shows refl refl refl refl whole inputs before stood);
  }

-- values that are put at a live control of a component of its kind
pub put-taken : (plan : Plan) (kept : Record) → IsRecordOf plan kept → (comp : ℕ) (values : List ℕ) (x : Comp) → comp_of plan.graph comp ≡ Some x →
    (k : ControlKind) (c : ControlRec) → control_at plan kept comp ≡ Some (record { comp = comp; kind = k }, c) → control_of plan comp ≡ Some (record { comp = comp; kind = k }) →
    AreKind comp x.kind plan.graph.comps → IsControlOf k x.kind → AreControls plan.controls (with_control plan comp (with_values values) kept).controls → IsRead (act_message plan (Put comp values)) → IsTaken plan kept (Put comp values)
put-taken plan kept is comp values x there k c at of are live controls read = record {
  message = read.0;
  passes = λ f. bare-passes (body_of f (decoded (message_spelling (act_message plan (Put comp values))))) (ap (body_of f) read.1 ∙ ap (λ (o : Option ControlPlan). body f (put_message comp values o)) of ∙ set-bare f comp values k);
  record_is = is;
  leaves = λ f f' shows rings ready done.
      subst (λ (g : FwState). LeavesSo plan (Put comp values) f g (with_control plan comp (with_values values) kept)) (sym (put-made plan kept f f' shows comp values x there k c at of are live done))
      (put-left plan kept is comp values controls f shows rings (is_of plan.graph is_volume comp) refl);
}

-- ---- what changes nothing

pub same-controls : (ks : List ControlPlan) (cs : List ControlRec) → changed (λ (k : ControlPlan). k.comp) 0 (λ c. c) ks cs ≡ cs
same-controls [] cs = refl
same-controls (k ∷ ks) [] = refl
same-controls (k ∷ ks) (c ∷ cs) = λ i. by (k.comp == 0) i ∷ same-controls ks cs i
  where
    by : (b : Bool) → (if b then c else c) ≡ c
    by true = refl
    by false = refl

-- an act that leaves the record and the state, as a message before the power is cut or one that asks
pub still-taken : (plan : Plan) (kept : Record) (act : Act) → IsRecordOf plan kept → after plan act kept ≡ kept → fresh_in plan act ≡ None → IsRead (act_message plan act) →
    ((f : FwState) → came_to (verdict (Some (done_reply (body_of f (decoded (message_spelling (act_message plan act))))))) ≡ Ok tt) → ((f f' : FwState) → row f (act_message plan act) ≡ Ok f' → f' ≡ f) → IsTaken plan kept act
still-taken plan kept act is same none read passes stays = record {
  message = read.0;
  passes = passes;
  record_is = is;
  leaves = λ f f' shows rings ready done.
      let unchanged : with_control plan 0 (λ c. c) kept ≡ kept = (λ i. record { power = kept.power; streams = kept.streams; controls = same-controls plan.controls kept.controls i }) in
      let shows' = shows ∙ ap (record_view plan) (sym unchanged) in
      subst (λ (x : FwState × Record). LeavesSo plan act f x.0 x.1) (λ i. (sym (stays f f' done) i, (unchanged ∙ sym same) i)) record {
        record_now = put-record plan kept 0 (λ c. c) (λ c. refl) is (subst (λ (r : Record). AreControls plan.controls r.controls) (sym unchanged) is.controls);
        shows_now = shows';
        heap = refl;
        rings = rings;
        stands = λ whole inputs before stood. subst (λ (fresh : Option ℕ). (after_it : Stands (Some f) whole inputs (before ++ Now (record_view plan (with_control plan 0 (λ c. c) kept)) fresh ∷ [])) × Leads whole stood.past (Now (record_view plan (with_control plan 0 (λ c. c) kept)) fresh ∷ []) after_it.past) (sym none)
            (put-stands plan kept 0 (λ c. c) (λ c. refl) is f f shows shows' refl refl refl whole inputs before stood);
      };
}
