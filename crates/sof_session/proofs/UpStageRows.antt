-- Rows of acts that make and unmake pipelines, and of parameters that are given again while nothing is Live, leave what stood standing.
use Rattle.std.proofs.Common.{◌≡◌, refl, sym, ap, ◌∙◌, subst, ℕ, ◌+◌, ◌-◌, ◌*◌, Bool, true, false, not, cond, ◌&&◌, ◌==◌, List, [], ◌∷◌, map, length, Option, Some, None, Result, Ok, Err, ℤ, arith}
use Rattle.std.specs.Prelude.{find, IsTrue}
use Rattle.std.specs.List.{list_any, list_all}
use Rattle.std.specs.Option.{option_and_then}
use Rattle.std.proofs.lemmas.Bool.{true≢false, or_parts, eq-eqb, ne_eqb, leb-true, leb-false, not-true}
use Rattle.sof_base.specs.declared.format.Params.{Params}
use Rattle.stream_law.specs.declared.graph.Comp.{Comp}
use Rattle.stream_law.specs.declared.graph.Graph.{Graph}
use Rattle.stream_law.specs.declared.stream.StreamView.{StreamView}
use Rattle.stream_law.specs.State.{FwState, View, RingView, view_of}
use Rattle.stream_law.specs.Past.{Now}
use Rattle.stream_law.specs.Seen.{is_volume, seen}
use Rattle.stream_law.specs.Silence.{is_silent}
use Rattle.stream_law.specs.Viewing.{Sees}
use Rattle.stream_law.specs.Ways.{comp_of, buffers, is_of, on_way, is_live_phase, agree}
use Rattle.stream_law.proofs.Building.{silent-flows}
use Rattle.stream_law.proofs.SeenLaws.{seen-sees}
use Rattle.stream_law.proofs.Silent.{silent-dead}
use Rattle.ipc3_model.specs.declared.message.Message.{Message}
use Rattle.ipc3_model.specs.declared.message.Message.TheVariants as messages
use Rattle.mbox_link.specs.BlobParts.{blob_part, is_last, payload, left_behind}
use Rattle.mbox_link.specs.Step.{no_device, invalid, is_used, is_refused_params, is_stream_phase, phase_at, with_params, row}
use Rattle.tplg_plan.specs.declared.plans.Plan.{Plan}
use Rattle.tplg_plan.specs.declared.plans.ControlKind.TheVariants as controls
use Rattle.tplg_plan.specs.Sound.{IsSound}
use Rattle.host_widgets.specs.declared.kept.Record.{Record}
use Rattle.host_widgets.specs.declared.kept.StreamRec.{StreamRec}
use Rattle.host_widgets.specs.Acts.{direction_of}
use Rattle.host_widgets.specs.ActMessages.{act_message}
use Rattle.host_widgets.specs.HostActs.{Make, Put, Part, Finish, Prepare, fresh_by, Act, Unmake, fresh_in}
use Rattle.host_widgets.specs.HostActs as acts
use Rattle.host_widgets.specs.HostRecord.{may_have}
use Rattle.host_widgets.specs.ViewOf.{record_view}
use Rattle.host_widgets.proofs.StandingOn.{LeadsOn}
use Rattle.host_widgets.specs.There.{There, there_in, there_view}
use Rattle.host_widgets.proofs.Between.{IsBetween, kind-of}
use Rattle.host_widgets.proofs.StageBetween.{stage-between}
use Rattle.host_widgets.proofs.StageStays.{streams-agree}
use Rattle.host_widgets.proofs.UpContext.{IsServing}
use Rattle.host_widgets.proofs.UpStages.{Stage, StreamPair, stage_graph, IsStage, IsAmid}
use Rattle.sof_session.proofs.EachMessage.{make-so, unmake-so, put-so}
use Rattle.sof_session.proofs.LiveViews.{SameLife, life-by, sees-stands}
use Rattle.sof_session.proofs.RowStands.{fresh_of, IsStill, set-found, row-stands}
use Rattle.sof_session.proofs.StageLives.{stage-life}

-- ---- while nothing is Live

none-found : (g : Graph) (x : ℕ) (ss : List StreamView) → list_any (λ (s : StreamView). is_live_phase s.phase) ss ≡ false → find (λ (s : StreamView). is_live_phase s.phase && on_way g s.host x) ss ≡ None
none-found g x [] still = refl
none-found g x (s ∷ ss) still =
    let parts = or_parts (is_live_phase s.phase) (list_any (λ (t : StreamView). is_live_phase t.phase) ss) still in
    ap (λ (b : Bool). cond (b && on_way g s.host x) (Some s) (find (λ (t : StreamView). is_live_phase t.phase && on_way g t.host x) ss)) parts.0 ∙ none-found g x ss parts.1

-- two views in which nothing is Live have one life
silent-life : (v w : View) → IsTrue (is_silent v) → IsTrue (is_silent w) → SameLife v w
silent-life v w first second = record {
  lives = λ x. silent-dead v x first ∙ sym (silent-dead w x second);
  flowing = λ b. silent-flows v b first ∙ sym (silent-flows w b second);
  params = λ x. ap (option_and_then (λ (s : StreamView). s.params)) (none-found v.graph x v.streams (not-true (list_any (λ (s : StreamView). is_live_phase s.phase) v.streams) first)
      ∙ sym (none-found w.graph x w.streams (not-true (list_any (λ (s : StreamView). is_live_phase s.phase) w.streams) second)));
  comps = λ c is. absurd (true≢false (sym is ∙ silent-dead w c second));
  edges = λ b is. absurd (true≢false (sym is ∙ silent-dead w b second));
}

module _ (host direction : ℕ) (params : Params) (f : FwState) where
  abbrev IsSeen : Result FwState ℤ → Type 0
  IsSeen (Ok next) = map (λ (r : RingView). r.buffer) f.rings ≡ buffers f.graph → Sees f (view_of next) None next
  IsSeen (Err e) = Unit {0}

  tested : (b : Bool) (e : ℤ) (r : Result FwState ℤ) → IsSeen r → IsSeen (cond b (Err e) r)
  tested true e r is = tt
  tested false e r is = is

  params-see : (next : FwState) → row f (messages.PcmParams host direction params) ≡ Ok next → map (λ (r : RingView). r.buffer) f.rings ≡ buffers f.graph → Sees f (view_of next) None next
  params-see next done = subst IsSeen done
      (tested (not (is_used f.graph host)) no_device (cond (is_refused_params (view_of f) host direction params (is_stream_phase is_live_phase (phase_at f host))) (Err invalid) (Ok (seen (with_params f host params) None f)))
      (tested (is_refused_params (view_of f) host direction params (is_stream_phase is_live_phase (phase_at f host))) invalid (Ok (seen (with_params f host params) None f)) (λ named. seen-sees f (with_params f host params) None named)))

pub quiet-row : (plan : Plan) (host : ℕ) (params : Params) (f g : FwState) → IsTrue (is_silent (view_of f)) → IsTrue (is_silent (view_of g)) → agree (view_of g) ≡ true → row f (act_message plan (Prepare host params)) ≡ Ok g →
    LeadsOn (Some f) (Some g) (Now (view_of g) None ∷ [])
quiet-row plan host params f g first second agrees done =
    sees-stands f g (silent-life (view_of f) (view_of g) first second) None agrees (λ whole inputs before stood. params-see host (direction_of plan host) params f g done stood.holds.buffers)

-- ---- acts

-- an act that makes or unmakes
abbrev pub Builds : Act → Type 0
Builds (Make id) = Unit {0}
Builds (acts.Join source sink) = Unit {0}
Builds (Put comp values) = Unit {0}
Builds (Part comp blob k) = Unit {0}
Builds (Finish id) = Unit {0}
Builds (Unmake id) = Unit {0}
Builds act = ⊥

-- the last part has no bytes after it
last-same : (blob : List ℕ) (k : ℕ) → ((blob_part blob k).remaining == 0) ≡ is_last blob k
last-same blob k = by (is_last blob k) refl
  where
    by : (b : Bool) → is_last blob k ≡ b → (left_behind blob k == 0) ≡ is_last blob k
    by true e =
        let most = leb-true (length (payload blob)) (260 * (k + 1)) e in
        eq-eqb (left_behind blob k) 0 (let none : left_behind blob k ≡ 0 = omega (arith, most) in none) ∙ sym e
    by false e =
        let more = leb-false (length (payload blob)) (260 * (k + 1)) e in
        ne_eqb (left_behind blob k) 0 (λ z. let none : length (payload blob) - 260 * (k + 1) ≡ 0 = z in omega (arith, more, none)) ∙ sym e

module _ (plan : Plan) (sound : IsSound plan) (kept : Record) (up n : List ℕ) (serving : IsServing plan kept up) (each : list_all (λ (r : StreamRec). may_have r.found r.params) kept.streams ≡ true) where
  module _ (st st' : Stage) (amid : IsAmid plan up n st) (amid' : IsAmid plan up n st') (f g : FwState) (at : IsStage plan kept st (there_in f)) (at' : IsStage plan kept st' (there_in g)) where
    same : SameLife (view_of f) (view_of g)
    same = life-by (view_of f) (view_of g) (record_view plan kept)
        (subst (λ (v : View). SameLife v (record_view plan kept)) (sym (ap there_view at.is)) (stage-life plan sound kept up n st amid serving each))
        (subst (λ (v : View). SameLife v (record_view plan kept)) (sym (ap there_view at'.is)) (stage-life plan sound kept up n st' amid' serving each))

    agrees : agree (view_of g) ≡ true
    agrees = subst (λ (v : View). agree v ≡ true) (sym (ap there_view at'.is))
        (streams-agree plan sound kept up serving.held serving.shapes (λ (p : StreamPair). st'.has p.0.host) (stage_graph plan kept st') (stage-between plan sound kept up n st' amid'))

    -- what is there is of its kind
    same-kind : (comp : ℕ) → (c : Comp) × (comp_of f.graph comp ≡ Some c) → is_of f.graph is_volume comp ≡ is_of plan.graph is_volume comp
    same-kind comp (c, found) =
        let between : IsBetween plan.graph up (stage_graph plan kept st) = stage-between plan sound kept up n st amid in
        let here : comp_of (stage_graph plan kept st) comp ≡ Some c = ap (λ (t : There). comp_of t.graph comp) (sym at.is) ∙ found in
        let w = between.comp_whole comp c here in
        kind-of f.graph is_volume comp c found ∙ ap is_volume w.2 ∙ sym (kind-of plan.graph is_volume comp w.0 w.1)

    -- the message of such an act, with its mark
    abbrev IsMarked : Option ℕ → Message → Type 0
    IsMarked fresh m = IsStill m × (fresh_of f m ≡ fresh)

    marked : (act : Act) → Builds act → row f (act_message plan act) ≡ Ok g → IsMarked (fresh_in plan act) (act_message plan act)
    marked (Make id) builds done = make-so (IsMarked None) plan id (λ c. (tt, refl)) (λ e. (tt, refl)) (λ sched period. (tt, refl))
    marked (acts.Join source sink) builds done = (tt, refl)
    marked (Put comp values) builds done =
        put-so (λ (m : Message). row f m ≡ Ok g → IsMarked (fresh_by comp (is_of plan.graph is_volume comp)) m) plan comp values (λ command sent is. (tt, ap (fresh_by comp) (same-kind comp (set-found f comp command sent g is)))) done
    marked (Part comp blob k) builds done = (tt, ap (fresh_by comp) (last-same blob k))
    marked (Finish id) builds done = (tt, refl)
    marked (Unmake id) builds done = unmake-so (IsMarked None) plan id (tt, refl) (tt, refl) (tt, refl)
    marked act builds done = absurd builds

    pub stage-row : (act : Act) → Builds act → row f (act_message plan act) ≡ Ok g → LeadsOn (Some f) (Some g) (Now (view_of g) (fresh_in plan act) ∷ [])
    stage-row act builds done =
        let m = marked act builds done in
        subst (λ (fresh : Option ℕ). LeadsOn (Some f) (Some g) (Now (view_of g) fresh ∷ [])) m.1 (row-stands f g same agrees (act_message plan act) m.0 done)
