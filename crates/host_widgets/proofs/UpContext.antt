-- What is so of a plan, a record and what is up while pipelines are made and unmade.
use Rattle.std.proofs.Common.{◌≡◌, refl, sym, ap, subst, ◌∙◌, ℕ, ◌<◌, List, [], ◌∷◌, ◌++◌, length, Bool, true, false, inl, inr, ◌⊎◌, ◌==◌, ◌||◌, Some, None}
use Rattle.std.specs.Prelude.{Option, count_by}
use Rattle.std.specs.Option.{option_map_or}
use Rattle.std.specs.List.{zip}
use Rattle.std.proofs.lemmas.Bool.{true≢false, eqb-true, eq-eqb}
use Rattle.stream_law.specs.declared.graph.Comp.{Comp}
use Rattle.stream_law.specs.declared.graph.Edge.{Edge}
use Rattle.stream_law.specs.declared.graph.Pipe.{Pipe}
use Rattle.stream_law.specs.declared.graph.Join.{Join}
use Rattle.stream_law.specs.declared.graph.Graph.{Graph}
use Rattle.stream_law.specs.Ways.{comp_of, edge_of, agree}
use Rattle.stream_law.specs.Order.{is_among}
use Rattle.stream_law.proofs.Members.{IsIn, in-all, find-in}
use Rattle.tplg_plan.specs.declared.plans.Plan.{Plan}
use Rattle.tplg_plan.specs.Sound.{IsSound, IsPassed, IsBufferOf, pipe_at, FillsBuffer, DrainsBuffer}
use Rattle.host_widgets.specs.declared.kept.Record.{Record}
use Rattle.host_widgets.specs.Acts.{widget_words}
use Rattle.host_widgets.specs.Expected.{stream_view}
use Rattle.host_widgets.specs.Host.{AreControls}
use Rattle.host_widgets.specs.IdleStreams.{idle_view}
use Rattle.host_widgets.specs.ViewOf.{record_view}
use Rattle.host_widgets.proofs.LookedUp.{all-found, alone}
use Rattle.host_widgets.proofs.NamedIds.{component-found, buffer-found, pipeline-found, each-pipe}
use Rattle.host_widgets.specs.Need.{HasAt, end_index, HasBrought}
use Rattle.host_widgets.specs.Up.{is_join_at}
use Rattle.host_widgets.proofs.Needs.{in-left, has-at}
use Rattle.host_widgets.proofs.Between.{comp-named, side-of, fills-index, drains-index}
use Rattle.host_widgets.proofs.StageBetween.{passing-found, comp-index, edge-index}
use Rattle.host_widgets.proofs.StageStays.{AreHeldUp}
use Rattle.host_widgets.proofs.Sublists.{AreOnce, splits-once}
use Rattle.host_widgets.proofs.UpStages.{StreamPair, index_of_id}
use Rattle.host_widgets.specs.Indices.{is_up, join_index}

-- The record is one of the plan. What is up has what it brings; the streams that have parameters have what they need; and a stream whose
-- host is not up is at rest.
pub record IsServing (plan : Plan) (kept : Record) (up : List ℕ) : Type 0 where
  pub long : length kept.streams ≡ length plan.streams
  pub controls : AreControls plan.controls kept.controls
  pub shapes : agree (record_view plan kept) ≡ true
  pub brought : HasBrought plan.graph (is_among up)
  pub held : AreHeldUp plan kept up
  pub rests : (p : StreamPair) → IsIn p (zip plan.streams kept.streams) → is_up plan.graph up p.0.host ≡ false → stream_view p ≡ idle_view p.0.host

-- none of these is up
abbrev pub AreApart : List ℕ → List ℕ → Type 0
AreApart up n = (i : ℕ) → is_among n i ≡ true → is_among up i ≡ false

-- what is among two lists
pub among-both : (xs ys : List ℕ) (i : ℕ) → is_among (xs ++ ys) i ≡ (is_among xs i || is_among ys i)
among-both [] ys i = refl
among-both (x ∷ xs) ys i = by (x == i) (among-both xs ys i)
  where
    by : (b : Bool) → is_among (xs ++ ys) i ≡ (is_among xs i || is_among ys i) → (b || is_among (xs ++ ys) i) ≡ ((b || is_among xs i) || is_among ys i)
    by true rest = refl
    by false rest = rest

module _ (plan : Plan) (sound : IsSound plan) where
  abbrev g : Graph
  g = plan.graph

  pub pipe-index : (id : ℕ) (p : Pipe) → pipe_at g id ≡ Some p → index_of_id plan id ≡ p.index
  pipe-index id p found = (pipeline-found plan sound id p found).is.index

  -- of a pipeline of the graph
  pub own-index : (p : Pipe) → IsIn p g.pipes → index_of_id plan p.id ≡ p.index
  own-index p there = pipe-index p.id p (in-all (λ (x : Pipe). pipe_at g x.id ≡ Some x) g.pipes p (each-pipe plan sound) there)

  -- whether a component is up
  pub comp-up-by : (up : List ℕ) (id : ℕ) (c : Comp) → comp_of g id ≡ Some c → is_up g up id ≡ is_among up (index_of_id plan id)
  comp-up-by up id c found = ap (λ (o : Option ℕ). option_map_or (is_among up) o false) (comp-named plan sound up id c found) ∙ ap (is_among up) (sym (comp-index plan sound id c found))

  -- ---- joins of indices

  -- the index of a join, with the ids at its ends
  pub record JoinEnds (j : Join) : Type 0 where
    pub edge : Edge
    pub at : join_index g j ≡ Some edge.pipe
    pub found : edge_of g edge.buffer ≡ Some edge
    pub ends : ((j.sink ≡ edge.buffer) × (edge.source ≡ Some j.source)) ⊎ ((j.source ≡ edge.buffer) × (edge.sink ≡ Some j.sink))

  pub join-ends : (j : Join) → IsIn j g.joins → JoinEnds j
  join-ends j there = by (side-of plan sound [] j there)
    where
      by : FillsBuffer g j ⊎ DrainsBuffer g j → JoinEnds j
      by (inl (c, e, comp, edge, is)) =
          let same = (buffer-found plan sound j.sink e edge).same in
          record { edge = e; at = fills-index plan sound [] j c e comp edge; found = ap (edge_of g) same ∙ edge; ends = inl (sym same, is) }
      by (inr (e, c, edge, comp, is)) =
          let same = (buffer-found plan sound j.source e edge).same in
          record { edge = e; at = drains-index plan sound [] j e edge; found = ap (edge_of g) same ∙ edge; ends = inr (sym same, is) }

  -- a join of an index has this index at its buffer
  pub join-at : (i : ℕ) (j : Join) → is_join_at g i j ≡ true → join_index g j ≡ Some i
  join-at i j is = by (join_index g j) refl is
    where
      by : (o : Option ℕ) → join_index g j ≡ o → option_map_or (λ k. k == i) o false ≡ true → join_index g j ≡ Some i
      by None at none = absurd (true≢false (sym none))
      by (Some k) at is = at ∙ ap Some (eqb-true k i is)

  -- the ids of a join are those of widgets
  pub join-low : (j : Join) → IsIn j g.joins → (j.source < length plan.widgets) × (j.sink < length plan.widgets)
  join-low j there = by (side-of plan sound [] j there)
    where
      by : FillsBuffer g j ⊎ DrainsBuffer g j → (j.source < length plan.widgets) × (j.sink < length plan.widgets)
      by (inl (c, e, comp, edge, is)) = ((component-found plan sound j.source c comp).low, (buffer-found plan sound j.sink e edge).low)
      by (inr (e, c, edge, comp, is)) = ((buffer-found plan sound j.source e edge).low, (component-found plan sound j.sink c comp).low)

  -- no join is twice in the graph
  pub whole-once : AreOnce g.joins
  whole-once = splits-once g.joins split
    where
      split : (before : List Join) (j : Join) (behind : List Join) → g.joins ≡ before ++ j ∷ behind → IsIn j before → ⊥
      split before j behind cut there = by (side-of plan sound [] j whole)
        where
          whole : IsIn j g.joins
          whole = subst (IsIn j) (sym cut) (in-left before (j ∷ behind) j there)

          no : (p : Join → Bool) → count_by p g.joins ≡ 1 → p j ≡ true → ⊥
          no p one is =
              let none = alone p before j behind (ap (count_by p) (sym cut) ∙ one) is in
              let some = passing-found p before j there is in
              cc (sym none ∙ some.1)

          by : FillsBuffer g j ⊎ DrainsBuffer g j → ⊥
          by (inl (c, e, comp, edge, is)) =
              let passed = all-found (IsPassed g) (λ (x : Edge). x.buffer == j.sink) g.edges e sound.passed edge in
              no (λ (x : Join). x.sink == e.buffer) passed.ins (eq-eqb j.sink e.buffer (sym (buffer-found plan sound j.sink e edge).same))
          by (inr (e, c, edge, comp, is)) =
              let passed = all-found (IsPassed g) (λ (x : Edge). x.buffer == j.source) g.edges e sound.passed edge in
              no (λ (x : Join). x.source == e.buffer) passed.outs (eq-eqb j.source e.buffer (sym (buffer-found plan sound j.source e edge).same))

  -- both ends of a join of a set that has what it brings are of this set
  module _ (up : List ℕ) (brought : HasBrought g (is_among up)) where
    pub ends-up : (j : Join) → IsIn j g.joins → (i : ℕ) → join_index g j ≡ Some i → is_among up i ≡ true → (is_among up (index_of_id plan j.source) ≡ true) × (is_among up (index_of_id plan j.sink) ≡ true)
    ends-up j there i at in_up = by r.ends
      where
        r : JoinEnds j
        r = join-ends j there

        e : Edge
        e = r.edge

        here : is_among up e.pipe ≡ true
        here = let same : i ≡ e.pipe = cc (sym at ∙ r.at) in ap (is_among up) (sym same) ∙ in_up

        buffer : is_among up (index_of_id plan e.buffer) ≡ true
        buffer = ap (is_among up) (edge-index plan sound e.buffer e r.found) ∙ here

        both : HasAt (is_among up) (end_index g e.source) × HasAt (is_among up) (end_index g e.sink)
        both = in-all (λ (x : Edge). is_among up x.pipe ≡ true → HasAt (is_among up) (end_index g x.source) × HasAt (is_among up) (end_index g x.sink)) g.edges e brought.ends (find-in (λ (x : Edge). x.buffer == e.buffer) g.edges e r.found).0 here

        at-end : (o : Option ℕ) (id : ℕ) (c : Comp) → o ≡ Some id → comp_of g id ≡ Some c → HasAt (is_among up) (end_index g o) → is_among up (index_of_id plan id) ≡ true
        at-end o id c is found has =
            ap (is_among up) (comp-index plan sound id c found) ∙ has-at (is_among up) (end_index g o) c.pipe (ap (end_index g) is ∙ comp-named plan sound up id c found) has

        is : IsBufferOf g (widget_words plan e.buffer) e
        is = (buffer-found plan sound e.buffer e r.found).is

        by : ((j.sink ≡ e.buffer) × (e.source ≡ Some j.source)) ⊎ ((j.source ≡ e.buffer) × (e.sink ≡ Some j.sink)) → (is_among up (index_of_id plan j.source) ≡ true) × (is_among up (index_of_id plan j.sink) ≡ true)
        by (inl (to, from)) =
            let one : is.source.id ≡ j.source = cc (sym is.from.0 ∙ from) in (
              at-end e.source j.source is.source from (ap (comp_of g) (sym one) ∙ is.from.1) both.0,
              ap (λ (id : ℕ). is_among up (index_of_id plan id)) to ∙ buffer,
            )
        by (inr (from, to)) =
            let one : is.sink.id ≡ j.sink = cc (sym is.to.0 ∙ to) in (
              ap (λ (id : ℕ). is_among up (index_of_id plan id)) from ∙ buffer,
              at-end e.sink j.sink is.sink to (ap (comp_of g) (sym one) ∙ is.to.1) both.1,
            )
