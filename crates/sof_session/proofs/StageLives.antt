-- At each stage between what is up and the whole the same is Live as in the whole.
use Rattle.std.proofs.Common.{◌≡◌, refl, sym, ap, ◌∙◌, ℕ, Bool, true, false, cond, ◌&&◌, ◌||◌, ◌==◌, List, [], ◌∷◌, map, filter, inl, inr, Option, Some, None, is_some}
use Rattle.std.specs.Prelude.{find}
use Rattle.std.specs.List.{zip, list_any, list_all}
use Rattle.std.specs.Option.{option_map, option_map_or, option_and_then}
use Rattle.std.proofs.lemmas.Bool.{and_parts, true≢false, false≢true, false_from_ne_true, eqb-true}
use Rattle.sof_base.specs.declared.format.Params.{Params}
use Rattle.stream_law.specs.declared.graph.Comp.{Comp}
use Rattle.stream_law.specs.declared.graph.Edge.{Edge}
use Rattle.stream_law.specs.declared.graph.Graph.{Graph}
use Rattle.stream_law.specs.declared.graph.Setting.{Setting}
use Rattle.stream_law.specs.declared.stream.StreamView.{StreamView}
use Rattle.stream_law.specs.State.{View}
use Rattle.stream_law.specs.Order.{is_among}
use Rattle.stream_law.specs.Seen.{flows}
use Rattle.stream_law.specs.Ways.{comp_of, edge_of, source_of, sink_of, on_way, is_live_phase, live, live_end, live_params}
use Rattle.stream_law.proofs.Members.{IsIn, any-in}
use Rattle.stream_law.proofs.Shapes.{on_way_same}
use Rattle.tplg_plan.specs.declared.plans.Plan.{Plan}
use Rattle.tplg_plan.specs.Sound.{IsSound}
use Rattle.host_widgets.specs.declared.kept.Found.{Found}
use Rattle.host_widgets.specs.declared.kept.Found.TheVariants as founds
use Rattle.host_widgets.specs.declared.kept.Record.{Record}
use Rattle.host_widgets.specs.declared.kept.StreamRec.{StreamRec}
use Rattle.host_widgets.specs.Expected.{stream_view, phase_of}
use Rattle.host_widgets.specs.HostRecord.{may_have}
use Rattle.host_widgets.specs.Kept.{control_at}
use Rattle.host_widgets.specs.ViewOf.{graph_by, record_setting, record_view, set_comp}
use Rattle.host_widgets.proofs.ControlLists.{Pair}
use Rattle.host_widgets.proofs.NamedIds.{component-found}
use Rattle.host_widgets.proofs.PutsTaken.{comp_while}
use Rattle.host_widgets.proofs.ReadyWays.{comp-set, ways-set}
use Rattle.host_widgets.specs.Need.{HasAt, IsEnough}
use Rattle.host_widgets.proofs.Needs.{has-at}
use Rattle.host_widgets.proofs.Between.{IsBetween, comp-named, edge-named}
use Rattle.host_widgets.proofs.BetweenWays.{way-stays}
use Rattle.host_widgets.proofs.HostStreams.{stream-comp, in-zip}
use Rattle.host_widgets.proofs.StageBetween.{comp-index, comp-at, stage-between}
use Rattle.host_widgets.proofs.StageStays.{pass-each, from-map}
use Rattle.host_widgets.proofs.UpContext.{IsServing, comp-up-by}
use Rattle.host_widgets.proofs.UpStages.{Stage, StreamPair, stage_graph, stage_streams, index_of_id, IsAmid}
use Rattle.sof_session.proofs.LiveViews.{SameLife}
use Rattle.host_widgets.specs.Indices.{index_at, is_up}

-- ---- lists

-- a member that is left passes one test where it passes the other, and one that is not left passes none
abbrev SameTests : {X Y : Type 0} → (X → Y) → (Y → Bool) → (Y → Bool) → (X → Bool) → X → Type 0
SameTests f p q keep x = (keep x ≡ false → q (f x) ≡ false) × (keep x ≡ true → p (f x) ≡ q (f x))

any-same : {X Y : Type 0} (f : X → Y) (p q : Y → Bool) (keep : X → Bool) (xs : List X) → ((x : X) → IsIn x xs → SameTests f p q keep x) → list_any p (map f (filter keep xs)) ≡ list_any q (map f xs)
any-same f p q keep [] each = refl
any-same {X} f p q keep (x ∷ xs) each = by (keep x) refl (any-same f p q keep xs (λ y there. each y (inr there)))
  where
    by : (b : Bool) → keep x ≡ b → list_any p (map f (filter keep xs)) ≡ list_any q (map f xs) → list_any p (map f (cond b (x ∷ filter keep xs) (filter keep xs))) ≡ (q (f x) || list_any q (map f xs))
    by true e rest = λ i. (each x (inl refl)).1 e i || rest i
    by false e rest = rest ∙ ap (λ (b : Bool). b || list_any q (map f xs)) (sym ((each x (inl refl)).0 e))

find-same : {X Y : Type 0} (f : X → Y) (p q : Y → Bool) (keep : X → Bool) (xs : List X) → ((x : X) → IsIn x xs → SameTests f p q keep x) → find p (map f (filter keep xs)) ≡ find q (map f xs)
find-same f p q keep [] each = refl
find-same {X} f p q keep (x ∷ xs) each = by (keep x) refl (find-same f p q keep xs (λ y there. each y (inr there)))
  where
    by : (b : Bool) → keep x ≡ b → find p (map f (filter keep xs)) ≡ find q (map f xs) → find p (map f (cond b (x ∷ filter keep xs) (filter keep xs))) ≡ cond (q (f x)) (Some (f x)) (find q (map f xs))
    by true e rest = λ i. cond ((each x (inl refl)).1 e i) (Some (f x)) (rest i)
    by false e rest = rest ∙ ap (λ (b : Bool). cond b (Some (f x)) (find q (map f xs))) (sym ((each x (inl refl)).0 e))

-- where the test fails it is the second
second : (b : Bool) (x y : Setting) → b ≡ false → cond b x y ≡ y
second true x y e = absurd (true≢false e)
second false x y e = refl

-- a stream that runs or is paused has parameters
live-has : (found : Found) (params : Option Params) → may_have found params ≡ true → is_live_phase (phase_of found) ≡ true → is_some params ≡ true
live-has founds.Running (Some p) may is = refl
live-has founds.Running None may is = absurd (false≢true may)
live-has founds.Paused (Some p) may is = refl
live-has founds.Paused None may is = absurd (false≢true may)
live-has founds.Closed params may is = absurd (false≢true is)
live-has found params may is = absurd (false≢true is)

module _ (plan : Plan) (sound : IsSound plan) (kept : Record) (up n : List ℕ) (st : Stage) (amid : IsAmid plan up n st) (serving : IsServing plan kept up) (each : list_all (λ (r : StreamRec). may_have r.found r.params) kept.streams ≡ true) where
  abbrev g : Graph
  g = plan.graph

  abbrev k : Graph
  k = stage_graph plan kept st

  abbrev pairs : List StreamPair
  pairs = zip plan.streams kept.streams

  abbrev pub stage_view : View
  stage_view = record { graph = stage_graph plan kept st; streams = stage_streams plan kept st }

  abbrev whole : View
  whole = record_view plan kept

  between : IsBetween plan.graph up (stage_graph plan kept st)
  between = stage-between plan sound kept up n st amid

  -- ---- ways of streams that run or are paused

  set : Comp → Setting
  set c = record_setting c.kind (control_at plan kept c.id)

  whole-way : (host x : ℕ) → on_way (graph_by plan kept) host x ≡ on_way g host x
  whole-way host x = on_way_same (graph_by plan kept) g (ways-set g (λ (c : Comp). record_setting c.kind (control_at plan kept c.id))) host x

  live-enough : (p : StreamPair) → IsIn p pairs → is_live_phase (phase_of p.1.found) ≡ true → IsEnough plan.graph p.0.host (is_among up)
  live-enough p there is = serving.held p there (live-has p.1.found p.1.params (pass-each (λ (r : StreamRec). may_have r.found r.params) kept.streams p.1 each (in-zip plan.streams kept.streams p there).1) is)

  stage-way : (p : StreamPair) → IsIn p pairs → is_live_phase (phase_of p.1.found) ≡ true → (x : ℕ) → on_way k p.0.host x ≡ on_way (graph_by plan kept) p.0.host x
  stage-way p there is x = way-stays plan sound up k between p.0.host (live-enough p there is) x ∙ sym (whole-way p.0.host x)

  -- one that is not there is at rest
  still : (p : StreamPair) → IsIn p pairs → st.has p.0.host ≡ false → is_live_phase (phase_of p.1.found) ≡ false
  still p there down =
      let c = stream-comp plan sound kept p there in
      let lost : is_up plan.graph up p.0.host ≡ false = comp-up-by plan sound up p.0.host c.0 c.1 ∙ false_from_ne_true (is_among up (index_of_id plan p.0.host)) (λ is. true≢false (sym (amid.there p.0.host is) ∙ down)) in
      ap (λ (s : StreamView). is_live_phase s.phase) (serving.rests p there lost)

  -- ---- what is Live

  abbrev at_stage_test : ℕ → StreamView → Bool
  at_stage_test x s = is_live_phase s.phase && on_way k s.host x

  abbrev whole_test : ℕ → StreamView → Bool
  whole_test x s = is_live_phase s.phase && on_way (graph_by plan kept) s.host x

  one-stream : (x : ℕ) (p : StreamPair) → IsIn p pairs → SameTests stream_view (at_stage_test x) (whole_test x) (λ (q : StreamPair). st.has q.0.host) p
  one-stream x p there = (λ down. ap (λ (b : Bool). b && on_way (graph_by plan kept) p.0.host x) (still p there down), λ here. by (is_live_phase (phase_of p.1.found)) refl)
    where
      by : (b : Bool) → is_live_phase (phase_of p.1.found) ≡ b → (is_live_phase (phase_of p.1.found) && on_way k p.0.host x) ≡ (is_live_phase (phase_of p.1.found) && on_way (graph_by plan kept) p.0.host x)
      by true e = ap (λ (b : Bool). is_live_phase (phase_of p.1.found) && b) (stage-way p there e x)
      by false e = ap (λ (b : Bool). b && on_way k p.0.host x) e ∙ sym (ap (λ (b : Bool). b && on_way (graph_by plan kept) p.0.host x) e)

  lives : (x : ℕ) → live stage_view x ≡ live whole x
  unfolding live
  lives x = any-same stream_view (at_stage_test x) (whole_test x) (λ (q : StreamPair). st.has q.0.host) pairs (one-stream x)

  params-same : (x : ℕ) → live_params stage_view x ≡ live_params whole x
  params-same x = ap (option_and_then (λ (s : StreamView). s.params)) (find-same stream_view (at_stage_test x) (whole_test x) (λ (q : StreamPair). st.has q.0.host) pairs (one-stream x))

  -- what is Live is up
  live-up : (x : ℕ) → live whole x ≡ true → HasAt (is_among up) (index_at g x)
  unfolding live
  live-up x is =
      let r = any-in (whole_test x) whole.streams is in
      let p = from-map stream_view pairs r.0 r.1 in
      let parts = and_parts (is_live_phase (phase_of p.0.1.found)) (on_way (graph_by plan kept) p.0.0.host x) (ap (whole_test x) (sym p.2) ∙ r.2) in
      (live-enough p.0 p.1 parts.0).way x (sym (whole-way p.0.0.host x) ∙ parts.1)

  edges-same : (b : ℕ) → live whole b ≡ true → edge_of k b ≡ edge_of whole.graph b
  edges-same b is = by (edge_of g b) refl
    where
      none : (o : Option Edge) → edge_of k b ≡ o → edge_of g b ≡ None → o ≡ None
      none None at lost = refl
      none (Some e) at lost = let w = between.edge_whole b e at in absurd (cc (sym lost ∙ w.1))

      by : (o : Option Edge) → edge_of g b ≡ o → edge_of k b ≡ edge_of g b
      by None at = none (edge_of k b) refl at ∙ sym at
      by (Some e) at = between.edge_up b e at (has-at (is_among up) (index_at g b) e.pipe (edge-named plan sound up b e at) (live-up b is)) ∙ sym at

  -- a component that is up has what the record sets
  none-todo : (c : Comp) → is_among up (index_of_id plan c.id) ≡ true → list_any (λ (p : Pair). p.0.comp == c.id) st.todo ≡ false
  none-todo c here = false_from_ne_true (list_any (λ (p : Pair). p.0.comp == c.id) st.todo) (λ some.
      let r = any-in (λ (p : Pair). p.0.comp == c.id) st.todo some in
      true≢false (sym here ∙ ap (λ (x : ℕ). is_among up (index_of_id plan x)) (sym (eqb-true r.0.0.comp c.id r.2)) ∙ amid.todo r.0 r.1))

  abbrev with_setting_of : Comp → Setting → Comp
  with_setting_of c setting = record { id = c.id; kind = c.kind; pipe = c.pipe; setting = setting; ramp = c.ramp }

  set-while : (c : Comp) → is_among up (index_of_id plan c.id) ≡ true → comp_while plan kept st.todo c ≡ set_comp plan kept c
  set-while c here = ap (with_setting_of c) (second (list_any (λ (p : Pair). p.0.comp == c.id) st.todo) _ _ (none-todo c here))

  comps-same : (c : ℕ) → live whole c ≡ true → comp_of k c ≡ comp_of whole.graph c
  comps-same c is = by (comp_of g c) refl ∙ sym (comp-set g (λ (x : Comp). record_setting x.kind (control_at plan kept x.id)) c)
    where
      none : (o : Option Comp) → comp_of k c ≡ o → comp_of g c ≡ None → o ≡ None
      none None at lost = refl
      none (Some d) at lost = let w = between.comp_whole c d at in absurd (cc (sym lost ∙ w.1))

      by : (o : Option Comp) → comp_of g c ≡ o → comp_of k c ≡ option_map (set_comp plan kept) (comp_of g c)
      by None at = none (comp_of k c) refl at ∙ sym (ap (option_map (set_comp plan kept)) at)
      by (Some d) at =
          let keeps = has-at (is_among up) (index_at g c) d.pipe (comp-named plan sound up c d at) (live-up c is) in
          let here : is_among up (index_of_id plan c) ≡ true = ap (is_among up) (comp-index plan sound c d at) ∙ keeps in
          let own : d.id ≡ c = (component-found plan sound c d at).same in
          comp-at plan sound kept st c d at (amid.there c here) ∙ ap Some (set-while d (ap (λ (x : ℕ). is_among up (index_of_id plan x)) own ∙ here)) ∙ sym (ap (option_map (set_comp plan kept)) at)

  flows-same : (b : ℕ) → flows stage_view b ≡ flows whole b
  unfolding flows
  flows-same b = by (live whole b) refl
    where
      by : (t : Bool) → live whole b ≡ t → (live stage_view b && live_end stage_view (source_of k b) && live_end stage_view (sink_of k b)) ≡ (live whole b && live_end whole (source_of g b) && live_end whole (sink_of g b))
      by true e =
          let edge = edges-same b e in
          λ i. lives b i && option_map_or (λ x. lives x i) (option_and_then (λ (x : Edge). x.source) (edge i)) false && option_map_or (λ x. lives x i) (option_and_then (λ (x : Edge). x.sink) (edge i)) false
      by false e =
          ap (λ (t : Bool). t && live_end stage_view (source_of k b) && live_end stage_view (sink_of k b)) (lives b ∙ e)
          ∙ sym (ap (λ (t : Bool). t && live_end whole (source_of g b) && live_end whole (sink_of g b)) e)

  pub stage-life : SameLife stage_view whole
  stage-life = record { lives = lives; flowing = flows-same; params = params-same; comps = comps-same; edges = edges-same }
