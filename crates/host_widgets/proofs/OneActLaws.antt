-- The laws of one act that the firmware takes: what its row leaves, in every plan.
use Rattle.std.proofs.Common.{map, ◌≡◌, refl, sym, ap, ◌∙◌, subst, ℕ, Bool, true, List, [], ◌∷◌, ◌++◌, Option, Some, None, Ok}
use Rattle.std.specs.List.{AllByRecursion}
use Rattle.sof_base.specs.Ports.{InputView}
use Rattle.stream_law.specs.State.{FwState, view_of}
use Rattle.stream_law.specs.Ways.{buffers}
use Rattle.stream_law.specs.Seen.{seen}
use Rattle.stream_law.specs.Past.{Moment, Now, Leads}
use Rattle.stream_law.specs.Stands.{Stands}
use Rattle.stream_law.proofs.SeenLaws.{seen-sees}
use Rattle.ipc3_model.specs.declared.reply.Body.{Body}
use Rattle.ipc3_model.specs.declared.reply.Body.TheVariants.{Nothing}
use Rattle.ipc3_model.specs.Messages.{message_spelling, decoded}
use Rattle.ipc3_model.specs.Meanings.{IsMessage}
use Rattle.mbox_link.specs.Step.{row, body_of}
use Rattle.tplg_plan.specs.declared.plans.Plan.{Plan}
use Rattle.host_widgets.specs.declared.kept.StreamRec.{StreamRec}
use Rattle.host_widgets.specs.declared.kept.Record.{Record}
use Rattle.host_widgets.specs.Host.{IsRecordOf, verdict}
use Rattle.host_widgets.specs.Kept.{with_stream}
use Rattle.host_widgets.specs.HostActs.{Act, Make, Join, Put, Part, after, fresh_in}
use Rattle.host_widgets.specs.ActMessages.{act_message}
use Rattle.host_widgets.specs.ViewOf.{record_view}
use Rattle.host_widgets.specs.ActCalls.{came_to}
use Rattle.host_widgets.proofs.ReplyErrors.{done_reply}
use Rattle.host_widgets.proofs.Exchanges.{verdict-zero}
use Rattle.host_widgets.proofs.ActsStand.{KeepsWhereLive, stream-stands}
use Rattle.host_widgets.proofs.PartRows.{HasStaged}

-- what an act asks of what is staged: a part after the first of a blob, that those before it are
abbrev pub IsReady : Act → FwState → Type 0
IsReady (Part comp blob k) f = HasStaged comp blob k f
IsReady act f = Unit {0}

-- and acts, one after another, as the firmware takes them, or refuses them where they go on; ticks before a message leave what
-- is staged
abbrev pub AreReady : Plan → Bool → List Act → FwState → Type 0
AreReady plan goes_on [] f = Unit {0}
AreReady plan goes_on (act ∷ acts) f =
    (g : FwState) → g.staging ≡ f.staging →
    IsReady act g × ((f' : FwState) → row g (act_message plan act) ≡ Ok f' → AreReady plan goes_on acts f') × (goes_on ≡ true → AreReady plan goes_on acts g)

-- an act that asks nothing
abbrev pub IsPlain : Act → Type 0
IsPlain (Part comp blob k) = ⊥
IsPlain act = Unit {0}

plain-asks : (act : Act) → IsPlain act → (f : FwState) → IsReady act f
plain-asks (Make id) is f = tt
plain-asks (Join source sink) is f = tt
plain-asks (Put comp values) is f = tt
plain-asks (Part comp blob k) is f = absurd is
plain-asks act is f = tt

pub plain-ready : (plan : Plan) (goes_on : Bool) (acts : List Act) → AllByRecursion IsPlain acts → (f : FwState) → AreReady plan goes_on acts f
plain-ready plan goes_on [] all f = tt
plain-ready plan goes_on (act ∷ acts) all f = λ g same. (plain-asks act all.0 g, (λ f' done. plain-ready plan goes_on acts all.1 f'), λ on. plain-ready plan goes_on acts all.1 g)

-- What a row that was done leaves: a record of the plan, which the state shows, in the same heap, with a ring for each buffer; and
-- what stood stands a moment later.
pub record LeavesSo (plan : Plan) (act : Act) (f f' : FwState) (now : Record) : Type 0 where
  pub record_now : IsRecordOf plan now
  pub shows_now : view_of f' ≡ record_view plan now
  pub heap : f'.heap ≡ f.heap
  pub rings : map (λ r. r.buffer) f'.rings ≡ buffers plan.graph
  pub stands : (whole : List (ℕ × List ℕ)) (inputs : List InputView) (before : List Moment) (stood : Stands (Some f) whole inputs before) →
      (after_it : Stands (Some f') whole inputs (before ++ Now (record_view plan now) (fresh_in plan act) ∷ [])) × Leads whole stood.past (Now (record_view plan now) (fresh_in plan act) ∷ []) after_it.past

abbrev pub Leaves : Plan → Record → Act → FwState → FwState → Type 0
Leaves plan kept act f f' = LeavesSo plan act f f' (after plan act kept)

-- The law of one act: its message fits, the reply of one that is done passes, and a row that was done leaves all of this, where the
-- act found staged what it asks.
pub record IsTaken (plan : Plan) (kept : Record) (act : Act) : Type 0 where
  pub message : IsMessage (act_message plan act)
  pub passes : (f : FwState) → came_to (verdict (Some (done_reply (body_of f (decoded (message_spelling (act_message plan act))))))) ≡ Ok tt
  pub record_is : IsRecordOf plan kept
  pub leaves : (f f' : FwState) → view_of f ≡ record_view plan kept → map (λ r. r.buffer) f.rings ≡ buffers plan.graph → IsReady act f → row f (act_message plan act) ≡ Ok f' → Leaves plan kept act f f'

-- a reply without a body passes
pub bare-passes : (said : Body) → said ≡ Nothing → came_to (verdict (Some (done_reply said))) ≡ Ok tt
bare-passes said bare = ap (λ (b : Body). came_to (verdict (Some (done_reply b)))) bare ∙ ap came_to verdict-zero

-- What a row of it that was done shows: the record after it, which is one of the plan at the same power.
pub record IsShown (plan : Plan) (kept : Record) (act : Act) : Type 0 where
  pub message : IsMessage (act_message plan act)
  pub power : (after plan act kept).power ≡ kept.power
  pub shown : (f f' : FwState) → view_of f ≡ record_view plan kept → row f (act_message plan act) ≡ Ok f' → IsRecordOf plan (after plan act kept) × (view_of f' ≡ record_view plan (after plan act kept))

-- An act that changes the stream of a host: its message fits and has no body for a reply, a row that was done gives the view of
-- the record, and then the record may be so.
pub record IsStreamAct (plan : Plan) (kept : Record) (act : Act) : Type 0 where
  pub host : ℕ
  pub change : StreamRec → StreamRec
  pub changes : after plan act kept ≡ with_stream plan host change kept
  pub no_blob : fresh_in plan act ≡ None
  pub message : IsMessage (act_message plan act)
  pub bare : (f : FwState) → body_of f (decoded (message_spelling (act_message plan act))) ≡ Nothing
  pub sees : (f f' : FwState) → view_of f ≡ record_view plan kept → row f (act_message plan act) ≡ Ok f' → f' ≡ seen (record_view plan (after plan act kept)) None f
  pub record_is : IsRecordOf plan kept
  pub record_will : (f f' : FwState) → view_of f ≡ record_view plan kept → row f (act_message plan act) ≡ Ok f' → IsRecordOf plan (with_stream plan host change kept)
  pub live : KeepsWhereLive change host plan.streams kept.streams

-- so the law of one act holds of it
pub stream-taken : (plan : Plan) (kept : Record) (act : Act) → IsStreamAct plan kept act → IsTaken plan kept act
stream-taken plan kept act is = record {
  message = is.message;
  passes = λ f. bare-passes (body_of f (decoded (message_spelling (act_message plan act)))) (is.bare f);
  record_is = is.record_is;
  leaves = λ f f' shows rings ready done.
      let will = is.record_will f f' shows done in
      let v = record_view plan (with_stream plan is.host is.change kept) in
      let seen_is : f' ≡ seen v None f = is.sees f f' shows done ∙ ap (λ (now : Record). seen (record_view plan now) None f) is.changes in
      subst (λ (x : Record × FwState). LeavesSo plan act f x.1 x.0) (λ i. (sym is.changes i, sym seen_is i)) record {
        record_now = will;
        shows_now = refl;
        heap = refl;
        rings = (seen-sees f v None rings).buffers;
        stands = λ whole inputs before stood. subst (λ (fresh : Option ℕ). (after_it : Stands (Some (seen v None f)) whole inputs (before ++ Now v fresh ∷ [])) × Leads whole stood.past (Now v fresh ∷ []) after_it.past) (sym is.no_blob)
            (stream-stands plan kept is.host is.change f shows rings is.record_is will is.live whole inputs before stood);
      };
}

pub stream-shown : (plan : Plan) (kept : Record) (act : Act) → IsStreamAct plan kept act → IsShown plan kept act
stream-shown plan kept act is = record {
  message = is.message;
  power = ap (λ (r : Record). r.power) is.changes;
  shown = λ f f' shows done. (subst (IsRecordOf plan) (sym is.changes) (is.record_will f f' shows done), ap view_of (is.sees f f' shows done));
}
