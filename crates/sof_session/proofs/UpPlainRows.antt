-- What stood goes on standing over a plain act that the firmware takes, where what is up is there before it and after it.
use Rattle.std.proofs.Common.{◌≡◌, refl, sym, ap, ◌∙◌, subst, ℕ, zero, suc, ◌+◌, ◌-◌, ◌*◌, Bool, true, false, not, cond, List, [], ◌∷◌, ◌++◌, map, filter, length, Option, Some, None, Result, Ok, Err, is_some, inl, inr, ◌⊎◌, ◌==◌, ◌&&◌, ◌||◌, Contains, zip, arith}
use Rattle.std.specs.Prelude.{ℤ, nat_le, option_map, option_and_then}
use Rattle.std.specs.List.{list_all}
use Rattle.std.specs.Option.{option_map_or}
use Rattle.std.proofs.lemmas.Bool.{true≢false, false≢true, and_parts, and_from, or_right, eqb-true, eq-eqb, ne_eqb, leb-true, leb-false, false_from_ne_true, not-false}
use Rattle.sof_base.specs.declared.format.Params.{Params}
use Rattle.sof_base.specs.declared.part.Part.{Part as BlobPart}
use Rattle.sof_base.specs.BlobFaults.{is_blob}
use Rattle.stream_law.specs.declared.graph.Comp.{Comp}
use Rattle.stream_law.specs.declared.graph.Graph.{Graph}
use Rattle.stream_law.specs.declared.graph.Setting.{Setting}
use Rattle.stream_law.specs.declared.graph.Setting.TheVariants as settings
use Rattle.stream_law.specs.declared.stream.Phase.{Phase}
use Rattle.stream_law.specs.declared.stream.Phase.TheVariants as phases
use Rattle.stream_law.specs.declared.stream.StreamView.{StreamView}
use Rattle.stream_law.specs.State.{FwState, View, Staging, view_of}
use Rattle.stream_law.specs.Made.{blob}
use Rattle.stream_law.specs.Past.{Now, Leads, after_now}
use Rattle.stream_law.specs.Seen.{seen, is_equaliser, is_volume, blob_in}
use Rattle.stream_law.specs.Stands.{Stands}
use Rattle.stream_law.specs.Stays.{HasParams, KeepsShape}
use Rattle.stream_law.specs.Viewing.{Sees, StaysAsLive}
use Rattle.stream_law.specs.Ways.{comp_of, is_of, is_live_phase, is_running_phase, touch, same_shape, agree}
use Rattle.stream_law.proofs.Members.{IsIn, find-in, kept-in}
use Rattle.stream_law.proofs.SeenLaws.{seen-sees}
use Rattle.stream_law.proofs.Shapes.{live-stays}
use Rattle.stream_law.proofs.Standing.{Stands-now}
use Rattle.stream_law.proofs.Waits.{eqb_turned}
use Rattle.ipc3_model.specs.declared.message.Message.TheVariants.{SetValue, SetData}
use Rattle.ipc3_model.specs.declared.message.Message.{Message}
use Rattle.mbox_link.specs.BlobParts.{payload, blob_part, is_last}
use Rattle.mbox_link.specs.Step.{row, no_device, invalid, is_used, has_kind, kind_at, is_host, goes, is_rate, is_way_ready, is_prepared, is_paused, is_stream_phase, phase_at, set_stream, set_phase, stream_changed, is_refused_params, pcm_params, control_values_at, part_at, new_setting, with_setting_at, value_set, staging_at, keeps_order, staged_bytes, with_staged, with_blob_at, blob_installed, part_staged, set_data}
use Rattle.stream_law.specs.Joins.{crosses}
use Rattle.tplg_plan.specs.declared.plans.Plan.{Plan}
use Rattle.tplg_plan.specs.declared.plans.StreamPlan.{StreamPlan}
use Rattle.tplg_plan.specs.declared.plans.ControlPlan.{ControlPlan}
use Rattle.tplg_plan.specs.declared.plans.ControlKind.TheVariants as controls
use Rattle.tplg_plan.specs.Sound.{IsSound}
use Rattle.host_widgets.specs.declared.kept.ControlRec.{ControlRec}
use Rattle.host_widgets.specs.declared.kept.Record.{Record}
use Rattle.host_widgets.specs.declared.kept.StreamRec.{StreamRec}
use Rattle.host_widgets.specs.declared.trigger.Trigger.{Trigger}
use Rattle.host_widgets.specs.declared.trigger.Trigger.TheVariants.{Start, Stop, Pause, Release}
use Rattle.host_widgets.specs.Acts.{direction_of, trigger_message}
use Rattle.host_widgets.specs.ActMessages.{act_message, put_message, ask_message}
use Rattle.host_widgets.specs.Controls.{control_of}
use Rattle.host_widgets.specs.Expected.{stream_view}
use Rattle.host_widgets.specs.Host.{IsRecordOf}
use Rattle.host_widgets.specs.HostActs.{Act, Make, Join, Put, Part, Finish, Prepare, Trig, Free, Save, Ask, Unmake, after, fresh_by, fresh_in, with_values, with_blob}
use Rattle.host_widgets.specs.HostRecord.{may_have}
use Rattle.host_widgets.specs.Kept.{with_control}
use Rattle.host_widgets.specs.ViewOf.{record_view, set_comp, record_setting}
use Rattle.host_widgets.proofs.ActsStand.{all-have}
use Rattle.host_widgets.proofs.LookedUp.{found-is}
use Rattle.host_widgets.proofs.StandingOn.{LeadsOn}
use Rattle.host_ctl.proofs.PutShows.{found-set, elsewhere-at}
use Rattle.host_ctl.proofs.PutStands.{stands-seen, put-stands, shape-with}
use Rattle.host_widgets.specs.UpState.{UpState, up_act_rules}
use Rattle.host_dynamic.specs.Parts.{up_part, part_record}
use Rattle.host_widgets.specs.There.{There, there_in, there_view}
use Rattle.host_widgets.specs.Up.{is_host_up, up_view}
use Rattle.host_dynamic.specs.UpStates.{IsThere}
use Rattle.host_widgets.proofs.Between.{IsBetween, kind-of}
use Rattle.host_dynamic.proofs.PartViews.{part-shows}
use Rattle.host_widgets.proofs.StageBetween.{passing-found, stage-between}
use Rattle.host_widgets.proofs.StagePrepares.{up-amid, own-found, one-of-host}
use Rattle.host_widgets.proofs.StageStays.{all-pass, pass-each, from-map}
use Rattle.host_widgets.proofs.UpContext.{IsServing}
use Rattle.host_widgets.proofs.UpStages.{StreamPair, stage_graph, up_stage}
use Rattle.host_dynamic.proofs.UpStanding.{there-stage}
use Rattle.host_widgets.specs.Indices.{is_up}
use Rattle.host_widgets.proofs.RecordsStay.{none-left, none-right}
use Rattle.sof_session.proofs.EachMessage.{put-so, ask-so}
use Rattle.sof_session.proofs.LiveViews.{life-stands}

-- ---- what a row that passed says

two-tests : (a b : Bool) (d e : ℤ) (left g : FwState) → ◌≡◌ {A = Result FwState ℤ} (cond (not a) (Err d) (cond b (Err e) (Ok left))) (Ok g) → (b ≡ false) × (left ≡ g)
two-tests true false d e left g is = (refl, cc is)
two-tests true true d e left g is = absurd (cc is)
two-tests false b d e left g is = absurd (cc is)

-- of six that do not hold, the second, and the last
six : (a b c d e h : Bool) → (a || b || c || d || e || h) ≡ false → (b ≡ false) × (h ≡ false)
six true b c d e h is = absurd (true≢false is)
six false true c d e h is = absurd (true≢false is)
six false false true d e h is = absurd (true≢false is)
six false false false true e h is = absurd (true≢false is)
six false false false false true h is = absurd (true≢false is)
six false false false false false true is = absurd (true≢false is)
six false false false false false false is = (refl, refl)

contains-in : {X : Type 0} (xs : List X) (x : X) → Contains xs x → IsIn x xs
contains-in [] x (k, low, is) = absurd (omega (arith, low))
contains-in (y ∷ xs) x (zero, low, is) = inl (sym is)
contains-in (y ∷ xs) x (suc k, low, is) = inr (contains-in xs x (k, omega (arith, low), is))

-- the last part of a blob leaves nothing after it
none-behind : (n m : ℕ) → (n - m == 0) ≡ nat_le n m
none-behind n m = by (nat_le n m) refl
  where
    by : (b : Bool) → nat_le n m ≡ b → (n - m == 0) ≡ b
    by true e = let ends = leb-true n m e in eq-eqb (n - m) 0 (let z : n - m ≡ 0 = omega (arith, ends) in z)
    by false e = let more = leb-false n m e in ne_eqb (n - m) 0 (λ z. let zero_is : n - m ≡ 0 = z in omega (arith, more, zero_is))

-- ---- a firmware with other bytes staged

module _ (f : FwState) (staging : List Staging) where
  abbrev staged : FwState
  staged = record f { staging = staging }

  pub staged-now : LeadsOn (Some f) (Some (record f { staging = staging })) (Now (view_of f) None ∷ [])
  staged-now whole inputs before stood =
      life-stands f staged (record { lives = λ x. refl; flowing = λ b. refl; params = λ x. refl; comps = λ c is. refl; edges = λ b is. refl })
      (record { clock = refl; ringed = λ is. is; frames = λ b. inl refl; numbers = λ c there. refl; named = λ c there was. was })
      (ap agree stood.holds.view ∙ stood.agrees) whole inputs before stood

-- ---- streams that change

module _ (f : FwState) (to : StreamView → StreamView) where
  abbrev pub changed_view : View
  changed_view = record { graph = f.graph; streams = map to f.streams }

  in-mapped : (ss : List StreamView) (s : StreamView) → Contains ss s → Contains (map to ss) (to s)
  in-mapped [] s (k, low, is) = absurd (omega (arith, low))
  in-mapped (x ∷ ss) s (zero, low, is) = (0, omega arith, ap to is)
  in-mapped (x ∷ ss) s (suc k, low, is) = let r = in-mapped ss s (k, omega (arith, low), is) in (suc r.0, omega (arith, r.1), r.2)

  module _ (hosts : (s : StreamView) → (to s).host ≡ s.host) (lives : (s : StreamView) → Contains f.streams s → is_live_phase s.phase ≡ true → (to s).params ≡ s.params) (was : HasParams (view_of f)) (will : HasParams changed_view) where
    shape : agree changed_view ≡ true → KeepsShape (view_of f) changed_view None
    shape agrees = record {
      keeps = record {
        ways = record { joins = refl; edges = refl; ids = refl; kinds = λ c. refl };
        params = λ s there moves. (to s, in-mapped f.streams s there, hosts s, lives s there moves);
        old_have = was;
        new_have = will;
        agrees = agrees;
      };
      blobs = λ c none. refl;
      ramps = λ c. refl;
    }

    pub streams-now : (agree (view_of f) ≡ true → agree changed_view ≡ true) → LeadsOn (Some f) (Some (seen changed_view None f)) (Now changed_view None ∷ [])
    unfolding Stands-now
    streams-now agrees whole inputs before stood =
        let fair : agree changed_view ≡ true = agrees (ap agree stood.holds.view ∙ stood.agrees) in (
          Stands-now f (seen changed_view None f) changed_view None whole inputs before stood (seen-sees f changed_view None stood.holds.buffers) fair (live-stays (view_of f) changed_view None (shape fair)),
          (after_now changed_view None stood.past, refl, refl),
        )

-- streams agree whose parameters stay, or go
module _ (g : Graph) (to : StreamView → StreamView) (hosts : (s : StreamView) → (to s).host ≡ s.host) (params : (s : StreamView) → ((to s).params ≡ s.params) ⊎ ((to s).params ≡ None)) where
  fair : (x y : StreamView) → (not (touch g x.host y.host) || same_shape x.params y.params) ≡ true → (not (touch g (to x).host (to y).host) || same_shape (to x).params (to y).params) ≡ true
  fair x y is = by (params x) (params y)
    where
      by : ((to x).params ≡ x.params) ⊎ ((to x).params ≡ None) → ((to y).params ≡ y.params) ⊎ ((to y).params ≡ None) → (not (touch g (to x).host (to y).host) || same_shape (to x).params (to y).params) ≡ true
      by (inl a) (inl b) = (λ i. not (touch g (hosts x i) (hosts y i)) || same_shape (a i) (b i)) ∙ is
      by (inr a) b = or_right (not (touch g (to x).host (to y).host)) (same_shape (to x).params (to y).params) (ap (λ (o : Option Params). same_shape o (to y).params) a ∙ none-left (to y).params)
      by (inl a) (inr b) = or_right (not (touch g (to x).host (to y).host)) (same_shape (to x).params (to y).params) (ap (λ (o : Option Params). same_shape (to x).params o) b ∙ none-right (to x).params)

  pub agree-less : (ss : List StreamView) → agree (record { graph = g; streams = ss }) ≡ true → agree (record { graph = g; streams = map to ss }) ≡ true
  unfolding agree
  agree-less ss is = all-pass (λ (s : StreamView). list_all (λ (t : StreamView). not (touch g s.host t.host) || same_shape s.params t.params) (map to ss)) (map to ss) (λ s s_in.
      all-pass (λ (t : StreamView). not (touch g s.host t.host) || same_shape s.params t.params) (map to ss) (λ t t_in.
      let a = from-map to ss s s_in in
      let b = from-map to ss t t_in in
      let old = pass-each (λ (y : StreamView). not (touch g a.0.host y.host) || same_shape a.0.params y.params) ss b.0 (pass-each (λ (x : StreamView). list_all (λ (y : StreamView). not (touch g x.host y.host) || same_shape x.params y.params) ss) ss a.0 is a.1) b.1 in
      (λ i. not (touch g (a.2 i).host (b.2 i).host) || same_shape (a.2 i).params (b.2 i).params) ∙ fair a.0 b.0 old))

phase-host : (host : ℕ) (phase : Phase) (s : StreamView) → (set_phase host phase s).host ≡ s.host
phase-host host phase s = by (s.host == host)
  where
    by : (b : Bool) → (cond b (record { host = s.host; phase = phase; params = s.params }) s).host ≡ s.host
    by true = refl
    by false = refl

phase-params : (host : ℕ) (phase : Phase) (s : StreamView) → (set_phase host phase s).params ≡ s.params
phase-params host phase s = by (s.host == host)
  where
    by : (b : Bool) → (cond b (record { host = s.host; phase = phase; params = s.params }) s).params ≡ s.params
    by true = refl
    by false = refl

stream-host : (host : ℕ) (phase : Phase) (o : Option Params) (s : StreamView) → (set_stream host phase o s).host ≡ s.host
stream-host host phase o s = by (s.host == host)
  where
    by : (b : Bool) → (cond b (record { host = s.host; phase = phase; params = o }) s).host ≡ s.host
    by true = refl
    by false = refl

-- that of another host stays
stream-apart : (host : ℕ) (phase : Phase) (o : Option Params) (s : StreamView) → (s.host == host) ≡ false → (set_stream host phase o s).params ≡ s.params
stream-apart host phase o s apart = ap (λ (b : Bool). (cond b (record { host = s.host; phase = phase; params = o }) s).params) apart

stream-none : (host : ℕ) (phase : Phase) (s : StreamView) → ((set_stream host phase None s).params ≡ s.params) ⊎ ((set_stream host phase None s).params ≡ None)
stream-none host phase s = by (s.host == host)
  where
    by : (b : Bool) → ((cond b (record { host = s.host; phase = phase; params = None }) s).params ≡ s.params) ⊎ ((cond b (record { host = s.host; phase = phase; params = None }) s).params ≡ None)
    by true = inr refl
    by false = inl refl

-- what is prepared does not move
prepared-still : (o : Option Phase) → is_stream_phase is_prepared o ≡ true → is_stream_phase is_live_phase o ≡ false
prepared-still (Some phases.Prepared) is = refl
prepared-still (Some phases.Idle) is = absurd (false≢true is)
prepared-still (Some phases.Running) is = absurd (false≢true is)
prepared-still (Some phases.Paused) is = absurd (false≢true is)
prepared-still None is = absurd (false≢true is)

-- ---- the part that is up, with its record

module _ (plan : Plan) (up : List ℕ) where
  abbrev part : Plan
  part = up_part plan up

  abbrev may : StreamRec → Bool
  may r = may_have r.found r.params

  abbrev left_of_pairs : List StreamPlan → List StreamRec → List StreamRec
  left_of_pairs ss rs = map (λ (p : StreamPair). p.1) (filter (is_host_up plan up) (zip ss rs))

  part-each : (ss : List StreamPlan) (rs : List StreamRec) → list_all may rs ≡ true → list_all may (left_of_pairs ss rs) ≡ true
  part-each [] rs is = refl
  part-each (s ∷ ss) [] is = refl
  part-each (s ∷ ss) (r ∷ rs) is = by (is_up plan.graph up s.host) (part-each ss rs parts.1)
    where
      parts : (may r ≡ true) × (list_all may rs ≡ true)
      parts = and_parts (may r) (list_all may rs) is

      by : (h : Bool) → list_all may (left_of_pairs ss rs) ≡ true → list_all may (map (λ (p : StreamPair). p.1) (cond h ((s, r) ∷ filter (is_host_up plan up) (zip ss rs)) (filter (is_host_up plan up) (zip ss rs)))) ≡ true
      by true rest = and_from (may r) (list_all may (left_of_pairs ss rs)) parts.0 rest
      by false rest = rest

  part-long : (ss : List StreamPlan) (rs : List StreamRec) → length rs ≡ length ss → length (left_of_pairs ss rs) ≡ length (filter (λ (s : StreamPlan). is_up plan.graph up s.host) ss)
  part-long [] rs same = refl
  part-long (s ∷ ss) [] same = absurd (omega (arith, same))
  part-long (s ∷ ss) (r ∷ rs) same = by (is_up plan.graph up s.host) (part-long ss rs (let rest : length rs ≡ length ss = omega (arith, same) in rest))
    where
      by : (h : Bool) → length (left_of_pairs ss rs) ≡ length (filter (λ (x : StreamPlan). is_up plan.graph up x.host) ss) →
          length (map (λ (p : StreamPair). p.1) (cond h ((s, r) ∷ filter (is_host_up plan up) (zip ss rs)) (filter (is_host_up plan up) (zip ss rs)))) ≡ length (cond h (s ∷ filter (λ (x : StreamPlan). is_up plan.graph up x.host) ss) (filter (λ (x : StreamPlan). is_up plan.graph up x.host) ss))
      by true rest = omega (arith, rest)
      by false rest = rest

  record-part : (kept : Record) → IsRecordOf plan kept → agree (up_view plan kept up) ≡ true → IsRecordOf (up_part plan up) (part_record plan up kept)
  record-part kept is agrees = record {
    streams = part-long plan.streams kept.streams is.streams;
    controls = is.controls;
    each = part-each plan.streams kept.streams is.each;
    shapes = ap agree (part-shows plan kept up is.streams) ∙ agrees;
  }

  -- a stream that is up and moves has parameters
  up-have : (kept : Record) → IsRecordOf plan kept → HasParams (up_view plan kept up)
  up-have kept is = subst HasParams (part-shows plan kept up is.streams) (all-have part.streams (part_record plan up kept).streams (part-each plan.streams kept.streams is.each))

  -- ---- one blob changes

  module _ (kept : Record) (id : ℕ) (bytes : List ℕ) where
    abbrev now : Record
    now = with_control part id (with_blob bytes) (part_record plan up kept)

    -- the blobs of other equalisers stay
    others : (c : ℕ) → (id == c) ≡ false → blob_in (record_view part now) c ≡ blob_in (record_view part (part_record plan up kept)) c
    others c apart =
        ap (λ (o : Option Comp). option_map_or (λ (x : Comp). blob x.setting) o []) (found-set part now c part.graph.comps)
        ∙ by (comp_of part.graph c) refl
        ∙ sym (ap (λ (o : Option Comp). option_map_or (λ (x : Comp). blob x.setting) o []) (found-set part (part_record plan up kept) c part.graph.comps))
      where
        by : (o : Option Comp) → comp_of part.graph c ≡ o → option_map_or (λ (x : Comp). blob x.setting) (option_map (set_comp part now) o) [] ≡ option_map_or (λ (x : Comp). blob x.setting) (option_map (set_comp part (part_record plan up kept)) o) []
        by None e = refl
        by (Some x) e =
            let same : x.id ≡ c = found-is (λ (y : Comp). y.id) part.graph.comps c x e in
            let other : (x.id == id) ≡ false = ap (λ (n : ℕ). n == id) same ∙ eqb_turned c id ∙ apart in
            ap (λ (o : Option (ControlPlan × ControlRec)). blob (record_setting x.kind o)) (elsewhere-at id (with_blob bytes) x.id other part.controls kept.controls)

-- ---- plain acts

abbrev pub IsPlainly : Act → Type 0
IsPlainly (Make id) = ⊥
IsPlainly (Join source sink) = ⊥
IsPlainly (Finish id) = ⊥
IsPlainly (Unmake id) = ⊥
IsPlainly act = Unit {0}

module _ (plan : Plan) (sound : IsSound plan) (s : UpState) (was : IsRecordOf plan s.kept) (serves : IsServing plan s.kept s.up) (stood_there : IsThere plan s) (f g : FwState) (same : there_in f ≡ s.there) where
  shown : view_of f ≡ up_view plan s.kept s.up
  shown = ap there_view same ∙ stood_there.view

  -- after a change of the record
  module _ (kept : Record) (will : IsRecordOf plan kept) (behind : view_of g ≡ up_view plan kept s.up) where
    -- ---- streams

    from-record : (x : StreamView) → IsIn x f.streams → (q : StreamPair) × IsIn q (zip plan.streams s.kept.streams) × (x ≡ stream_view q)
    from-record x there =
        let r = from-map stream_view (filter (is_host_up plan s.up) (zip plan.streams s.kept.streams)) x (subst (IsIn x) (ap (λ (v : View). v.streams) shown) there) in
        (r.0, (kept-in (is_host_up plan s.up) (zip plan.streams s.kept.streams) r.0 r.1).0, r.2)

    -- the stream of a host that does not move is no other that moves
    apart-live : (host : ℕ) → is_stream_phase is_live_phase (phase_at f host) ≡ false → (x : StreamView) → Contains f.streams x → is_live_phase x.phase ≡ true → (x.host == host) ≡ false
    apart-live host still x there moves = false_from_ne_true (x.host == host) (λ e.
        let y = passing-found (λ (z : StreamView). z.host == host) f.streams x (contains-in f.streams x there) e in
        let y_in = find-in (λ (z : StreamView). z.host == host) f.streams y.0 y.1 in
        let q = from-record x (contains-in f.streams x there) in
        let r = from-record y.0 y_in.0 in
        let same_host : r.0.0.host ≡ q.0.0.host = ap (λ (z : StreamView). z.host) (sym r.2) ∙ eqb-true y.0.host host y_in.1 ∙ sym (eqb-true x.host host e) ∙ ap (λ (z : StreamView). z.host) q.2 in
        let one : r.0 ≡ q.0 = one-of-host plan sound s.kept q.0.0.host q.0 (own-found plan sound s.kept q.0 q.1) r.0 r.1 (eq-eqb r.0.0.host q.0.0.host same_host) in
        let whole : y.0 ≡ x = r.2 ∙ ap stream_view one ∙ sym q.2 in
        let rests : is_live_phase y.0.phase ≡ false = sym (ap (λ (o : Option StreamView). is_stream_phase is_live_phase (option_map (λ (z : StreamView). z.phase) o)) y.1) ∙ still in
        true≢false (sym moves ∙ ap (λ (z : StreamView). is_live_phase z.phase) (sym whole) ∙ rests))

    -- a row that changes streams so
    stream-leads : (to : StreamView → StreamView) → ((x : StreamView) → (to x).host ≡ x.host) → ((x : StreamView) → Contains f.streams x → is_live_phase x.phase ≡ true → (to x).params ≡ x.params) → (agree (view_of f) ≡ true → agree (changed_view f to) ≡ true) →
        seen (changed_view f to) None f ≡ g → LeadsOn (Some f) (Some g) (Now (view_of g) None ∷ [])
    stream-leads to hosts lives agrees made =
        subst (λ (x : FwState). LeadsOn (Some f) (Some x) (Now (view_of x) None ∷ [])) made
        (streams-now f to hosts lives (subst HasParams (sym shown) (up-have plan s.up s.kept was)) (subst HasParams (sym (ap view_of made ∙ behind)) (up-have plan s.up kept will)) agrees)

    changed-leads : (host : ℕ) (from : Phase → Bool) (to : StreamView → StreamView) → ((x : StreamView) → (to x).host ≡ x.host) → ((x : StreamView) → ((to x).params ≡ x.params) ⊎ ((to x).params ≡ None)) →
        (is_stream_phase from (phase_at f host) ≡ true → (x : StreamView) → Contains f.streams x → is_live_phase x.phase ≡ true → (to x).params ≡ x.params) → stream_changed f host from to ≡ Ok g → LeadsOn (Some f) (Some g) (Now (view_of g) None ∷ [])
    changed-leads host from to hosts params lives passed =
        let r = two-tests (is_used f.graph host) (not (has_kind is_host (kind_at f.graph host) && is_stream_phase from (phase_at f host))) no_device invalid (seen (changed_view f to) None f) g passed in
        let starts = (and_parts (has_kind is_host (kind_at f.graph host)) (is_stream_phase from (phase_at f host)) (not-false (has_kind is_host (kind_at f.graph host) && is_stream_phase from (phase_at f host)) r.0)).1 in
        stream-leads to hosts (lives starts) (agree-less f.graph to hosts params f.streams) r.1

    phase-leads : (host : ℕ) (from : Phase → Bool) (phase : Phase) → stream_changed f host from (set_phase host phase) ≡ Ok g → LeadsOn (Some f) (Some g) (Now (view_of g) None ∷ [])
    phase-leads host from phase passed = changed-leads host from (set_phase host phase) (phase-host host phase) (λ x. inl (phase-params host phase x)) (λ starts x there moves. phase-params host phase x) passed

    trigger-leads : (host : ℕ) (what : Trigger) → row f (trigger_message host what) ≡ Ok g → LeadsOn (Some f) (Some g) (Now (view_of g) None ∷ [])
    trigger-leads host Start passed = phase-leads host is_prepared phases.Running passed
    trigger-leads host Stop passed = phase-leads host is_live_phase phases.Prepared passed
    trigger-leads host Pause passed = phase-leads host is_running_phase phases.Paused passed
    trigger-leads host Release passed = phase-leads host is_paused phases.Running passed

    free-leads : (host : ℕ) → stream_changed f host is_prepared (set_stream host phases.Idle None) ≡ Ok g → LeadsOn (Some f) (Some g) (Now (view_of g) None ∷ [])
    free-leads host passed = changed-leads host is_prepared (set_stream host phases.Idle None) (stream-host host phases.Idle None) (stream-none host phases.Idle)
        (λ starts x there moves. stream-apart host phases.Idle None x (apart-live host (prepared-still (phase_at f host) starts) x there moves)) passed

    params-leads : (host : ℕ) (params : Params) → pcm_params f host (direction_of plan host) params ≡ Ok g → LeadsOn (Some f) (Some g) (Now (view_of g) None ∷ [])
    params-leads host params passed =
        let given : StreamView → StreamView = set_stream host phases.Prepared (Some params) in
        let moving = is_stream_phase is_live_phase (phase_at f host) in
        let r = two-tests (is_used f.graph host) (is_refused_params (view_of f) host (direction_of plan host) params moving) no_device invalid (seen (changed_view f given) None f) g passed in
        let t = six (not (has_kind (λ kind. goes kind (direction_of plan host)) (kind_at f.graph host))) moving (not (is_rate params.rate)) (not (is_way_ready f.graph host)) (crosses f.graph) (not (agree (changed_view f given))) r.0 in
        stream-leads given (stream-host host phases.Prepared (Some params)) (λ x there moves. stream-apart host phases.Prepared (Some params) x (apart-live host t.0 x there moves)) (λ was_fair. not-false (agree (changed_view f given)) t.1) r.1

    -- ---- controls

    abbrev part_was : Record
    part_was = part_record plan s.up s.kept

    shows : view_of f ≡ record_view (up_part plan s.up) part_was
    shows = shown ∙ sym (part-shows plan s.kept s.up was.streams)

    part-is : agree (view_of f) ≡ true → IsRecordOf (up_part plan s.up) part_was
    part-is fair_then = record-part plan s.up s.kept was (ap agree (sym shown) ∙ fair_then)

    -- a component that is there is of the same kind in the plan
    volume-same : (id : ℕ) (c : Comp) → comp_of f.graph id ≡ Some c → is_of f.graph is_volume id ≡ is_of plan.graph is_volume id
    volume-same id c found =
        let stage : f.graph ≡ stage_graph plan s.kept (up_stage plan s.up) = ap (λ (t : There). t.graph) (same ∙ (there-stage plan sound s stood_there).is) in
        let between : IsBetween plan.graph s.up (stage_graph plan s.kept (up_stage plan s.up)) = stage-between plan sound s.kept s.up [] (up_stage plan s.up) (up-amid plan sound s.up serves.brought) in
        let d = between.comp_whole id c (ap (λ (h : Graph). comp_of h id) (sym stage) ∙ found) in
        kind-of f.graph is_volume id c found ∙ ap is_volume d.2 ∙ sym (kind-of plan.graph is_volume id d.0 d.1)

    module _ (id : ℕ) (values : List ℕ) (put : with_control plan id (with_values values) s.kept ≡ kept) where
      abbrev view_then : View
      view_then = record_view (up_part plan s.up) (with_control (up_part plan s.up) id (with_values values) part_was)

      shows-then : view_of g ≡ view_then
      shows-then = behind ∙ ap (λ (r : Record). up_view plan r s.up) (sym put) ∙ sym (part-shows plan (with_control plan id (with_values values) s.kept) s.up was.streams)

      -- by whether it is a volume
      set-leads : (setting : Setting) (b : Bool) → cond b (seen (with_setting_at f id setting) (Some id) f) (record f { graph = (with_setting_at f id setting).graph }) ≡ g → LeadsOn (Some f) (Some g) (Now (view_of g) (fresh_by id b) ∷ [])
      set-leads setting true made whole inputs before stood =
          let w : View = with_setting_at f id setting in
          let is_now : w ≡ view_then = ap view_of made ∙ shows-then in
          let sees : Sees f view_then (Some id) g = subst (λ (x : FwState × View). Sees f x.1 (Some id) x.0) (λ i. (made i, is_now i)) (seen-sees f w (Some id) stood.holds.buffers) in
          subst (λ (v : View). (after_it : Stands (Some g) whole inputs (before ++ Now v (Some id) ∷ [])) × Leads whole stood.past (Now v (Some id) ∷ []) after_it.past) (sym shows-then)
          (stands-seen (up_part plan s.up) part_was id (with_values values) (λ c. refl) (Some id) (part-is (ap agree stood.holds.view ∙ stood.agrees)) f g shows sees whole inputs before stood)
      set-leads setting false made whole inputs before stood =
          subst (λ (v : View). (after_it : Stands (Some g) whole inputs (before ++ Now v None ∷ [])) × Leads whole stood.past (Now v None ∷ []) after_it.past) (sym shows-then)
          (put-stands (up_part plan s.up) part_was id (with_values values) (λ c. refl) (part-is (ap agree stood.holds.view ∙ stood.agrees)) f g shows shows-then (ap (λ (x : FwState). x.clock) (sym made)) (ap (λ (x : FwState). x.rings) (sym made)) (ap (λ (x : FwState). x.histories) (sym made)) whole inputs before stood)

      value-leads : (command : ℕ) (vs : List ℕ) → row f (SetValue id command vs) ≡ Ok g → LeadsOn (Some f) (Some g) (Now (view_of g) (fresh_by id (is_of plan.graph is_volume id)) ∷ [])
      value-leads command vs passed = used (is_used f.graph id) passed
        where
          by : (o : Option Comp) → comp_of f.graph id ≡ o → value_set f id (option_and_then (λ (c : Comp). new_setting c.kind c.setting command vs) o) ≡ Ok g → LeadsOn (Some f) (Some g) (Now (view_of g) (fresh_by id (is_of plan.graph is_volume id)) ∷ [])
          by None at is = absurd (cc is)
          by (Some c) at is = set (new_setting c.kind c.setting command vs) is
            where
              set : (o : Option Setting) → value_set f id o ≡ Ok g → LeadsOn (Some f) (Some g) (Now (view_of g) (fresh_by id (is_of plan.graph is_volume id)) ∷ [])
              set None is = absurd (cc is)
              set (Some setting) is =
                  subst (λ (b : Bool). LeadsOn (Some f) (Some g) (Now (view_of g) (fresh_by id b) ∷ [])) (volume-same id c at)
                  (set-leads setting (is_of f.graph is_volume id) (cc is))

          used : (b : Bool) → cond (not b) (Err no_device) (value_set f id (option_and_then (λ (c : Comp). new_setting c.kind c.setting command vs) (comp_of f.graph id))) ≡ Ok g → LeadsOn (Some f) (Some g) (Now (view_of g) (fresh_by id (is_of plan.graph is_volume id)) ∷ [])
          used true is = by (comp_of f.graph id) refl is
          used false is = absurd (cc is)

      put-leads : row f (put_message id values (control_of plan id)) ≡ Ok g → LeadsOn (Some f) (Some g) (Now (view_of g) (fresh_by id (is_of plan.graph is_volume id)) ∷ [])
      put-leads passed = put-so (λ (m : Message). row f m ≡ Ok g → LeadsOn (Some f) (Some g) (Now (view_of g) (fresh_by id (is_of plan.graph is_volume id)) ∷ [])) plan id values value-leads passed

    -- ---- blobs

    module _ (id : ℕ) (bytes : List ℕ) (put : with_control plan id (with_blob bytes) s.kept ≡ kept) where
      abbrev blob_then : View
      blob_then = record_view (up_part plan s.up) (with_control (up_part plan s.up) id (with_blob bytes) part_was)

      shows-blob : view_of g ≡ blob_then
      shows-blob = behind ∙ ap (λ (r : Record). up_view plan r s.up) (sym put) ∙ sym (part-shows plan (with_control plan id (with_blob bytes) s.kept) s.up was.streams)

      blob-leads : (x : List ℕ) → blob_installed id x f ≡ g → LeadsOn (Some f) (Some g) (Now (view_of g) (Some id) ∷ [])
      unfolding Stands-now
      blob-leads x made whole inputs before stood =
          let w : View = with_blob_at f id x in
          let q = seen-sees f w (Some id) stood.holds.buffers in
          let is_now : w ≡ blob_then = ap view_of made ∙ shows-blob in
          let raw : Sees f w (Some id) (blob_installed id x f) = record { clock = q.clock; view = q.view; buffers = q.buffers; rings = q.rings; remembered = q.remembered; histories = q.histories } in
          let sees : Sees f blob_then (Some id) g = subst (λ (y : FwState × View). Sees f y.1 (Some id) y.0) (λ i. (made i, is_now i)) raw in
          let own = part-is (ap agree stood.holds.view ∙ stood.agrees) in
          let shape = shape-with (up_part plan s.up) part_was id (with_blob bytes) (Some id) (others plan s.up s.kept id bytes) own in
          let stays : StaysAsLive (view_of f) blob_then (Some id) = subst (λ (v : View). StaysAsLive v blob_then (Some id)) (sym shows) (live-stays (record_view (up_part plan s.up) part_was) blob_then (Some id) shape) in
          subst (λ (v : View). (after_it : Stands (Some g) whole inputs (before ++ Now v (Some id) ∷ [])) × Leads whole stood.past (Now v (Some id) ∷ []) after_it.past) (sym shows-blob)
          (Stands-now f g blob_then (Some id) whole inputs before stood sees shape.keeps.agrees stays, (after_now blob_then (Some id) stood.past, refl, refl))

  -- ---- a part of a blob

  part-passed : (id : ℕ) (p : BlobPart) → set_data f id p ≡ Ok g → part_staged f id (staged_bytes (staging_at f id) p) p ≡ Ok g
  part-passed id p passed = by (is_used f.graph id) (not (has_kind is_equaliser (kind_at f.graph id)) || not (keeps_order (staging_at f id) p)) passed
    where
      by : (a b : Bool) → cond (not a) (Err no_device) (cond b (Err invalid) (part_staged f id (staged_bytes (staging_at f id) p) p)) ≡ Ok g → part_staged f id (staged_bytes (staging_at f id) p) p ≡ Ok g
      by true false is = is
      by true true is = absurd (cc is)
      by false b is = absurd (cc is)

  part-leads : (id : ℕ) (bytes : List ℕ) (k : ℕ) (kept : Record) → IsRecordOf plan kept → cond (is_last bytes k) (with_control plan id (with_blob bytes) s.kept) s.kept ≡ kept → view_of g ≡ up_view plan kept s.up → row f (SetData id (blob_part bytes k)) ≡ Ok g →
      LeadsOn (Some f) (Some g) (Now (view_of g) (fresh_by id (is_last bytes k)) ∷ [])
  part-leads id bytes k kept will put behind passed = by (is_last bytes k) refl put
    where
      p : BlobPart
      p = blob_part bytes k

      joined : List ℕ
      joined = staged_bytes (staging_at f id) p

      step : part_staged f id joined p ≡ Ok g
      step = part-passed id p passed

      installed : (r b : Bool) → r ≡ true → cond (not r) (Ok (with_staged id joined p f)) (cond (not b) (Err invalid) (Ok (blob_installed id joined f))) ≡ Ok g → blob_installed id joined f ≡ g
      installed true true e is = cc is
      installed true false e is = absurd (cc is)
      installed false b e is = absurd (false≢true e)

      more : (r b : Bool) → r ≡ false → cond (not r) (Ok (with_staged id joined p f)) (cond (not b) (Err invalid) (Ok (blob_installed id joined f))) ≡ Ok g → with_staged id joined p f ≡ g
      more false b e is = cc is
      more true b e is = absurd (true≢false e)

      by : (b : Bool) → is_last bytes k ≡ b → cond b (with_control plan id (with_blob bytes) s.kept) s.kept ≡ kept → LeadsOn (Some f) (Some g) (Now (view_of g) (fresh_by id b) ∷ [])
      by true e put = blob-leads kept will behind id bytes put joined (installed (p.remaining == 0) (is_blob joined) (none-behind (length (payload bytes)) (260 * (k + 1)) ∙ e) step)
      by false e put = subst (λ (x : FwState). LeadsOn (Some f) (Some x) (Now (view_of x) None ∷ [])) (more (p.remaining == 0) (is_blob joined) (none-behind (length (payload bytes)) (260 * (k + 1)) ∙ e) step) (staged-now f (with_staged id joined p f).staging)

  -- ---- what changes nothing

  still-leads : f ≡ g → LeadsOn (Some f) (Some g) (Now (view_of g) None ∷ [])
  still-leads made = subst (λ (x : FwState). LeadsOn (Some f) (Some x) (Now (view_of x) None ∷ [])) made (staged-now f f.staging)

  ask-made : (comp k : ℕ) → row f (ask_message comp k (control_of plan comp)) ≡ Ok g → f ≡ g
  ask-made comp k passed = ask-so (λ (m : Message). row f m ≡ Ok g → f ≡ g) plan comp k
      (λ command is. (two-tests (is_used f.graph comp) (not (is_some (control_values_at f.graph comp command))) no_device invalid f g is).1)
      (λ is. (two-tests (is_used f.graph comp) (not (is_some (part_at f.graph comp k))) no_device invalid f g is).1) passed

  -- ---- whatever the act

  leads-by : (act : Act) → IsPlainly act → IsRecordOf plan (after plan act s.kept) → view_of g ≡ up_view plan (after plan act s.kept) s.up → row f (act_message plan act) ≡ Ok g → LeadsOn (Some f) (Some g) (Now (view_of g) (fresh_in plan act) ∷ [])
  leads-by (Put id values) plain will behind passed = put-leads (after plan (Put id values) s.kept) will behind id values refl passed
  leads-by (Part id bytes k) plain will behind passed = part-leads id bytes k (after plan (Part id bytes k) s.kept) will refl behind passed
  leads-by (Prepare host params) plain will behind passed = params-leads (after plan (Prepare host params) s.kept) will behind host params passed
  leads-by (Trig host what) plain will behind passed = trigger-leads (after plan (Trig host what) s.kept) will behind host what passed
  leads-by (Free host) plain will behind passed = free-leads (after plan (Free host) s.kept) will behind host passed
  leads-by Save plain will behind passed = still-leads (cc passed)
  leads-by (Ask comp k) plain will behind passed = still-leads (ask-made comp k passed)
  leads-by act plain will behind passed = absurd plain

-- an act at a state in which what is up is there, before it and after it
pub plain-row : (plan : Plan) → IsSound plan → (act : Act) → IsPlainly act → (s : UpState) → IsRecordOf plan s.kept → IsServing plan s.kept s.up → IsThere plan s → (let t = (up_act_rules plan).after act s in IsRecordOf plan t.kept → IsThere plan t → (f g : FwState) → there_in f ≡ s.there → there_in g ≡ t.there →
    row f (act_message plan act) ≡ Ok g → LeadsOn (Some f) (Some g) (Now (there_view t.there) (fresh_in plan act) ∷ []))
plain-row plan sound act plain s was serves at will behind f g same same_then passed =
    subst (λ (v : View). LeadsOn (Some f) (Some g) (Now v (fresh_in plan act) ∷ [])) (ap there_view same_then)
    (leads-by plan sound s was serves at f g same act plain will (ap there_view same_then ∙ behind.view) passed)
