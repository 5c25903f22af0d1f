-- What the ids of a sound plan name: a component, a buffer or a pipeline, one alone; and they are few.
use Rattle.std.proofs.Common.{◌≡◌, inl, inr, refl, sym, ap, subst, ◌∙◌, ℕ, ◌+◌, ◌≤◌, ◌<◌, ◌^◌, List, [], ◌∷◌, ◌++◌, map, length, get_or, Bool, true, ◌==◌, ◌||◌, Some, None, length-append, arith}
use Rattle.std.specs.List.{list_any, find, AllByRecursion}
use Rattle.std.proofs.lemmas.Bool.{or_left, or_right}
use Rattle.std.proofs.lemmas.List.{length-map}
use Rattle.std.proofs.lemmas.List.Folds.{list_any-append}
use Rattle.std.proofs.lemmas.Option.{slice_get-get_or}
use Rattle.stream_law.specs.declared.graph.Comp.{Comp}
use Rattle.stream_law.specs.declared.graph.Edge.{Edge}
use Rattle.stream_law.specs.declared.graph.Pipe.{Pipe}
use Rattle.stream_law.specs.Ways.{comp_of, edge_of, components, buffers}
use Rattle.tplg_plan.specs.declared.plans.Plan.{Plan}
use Rattle.tplg_plan.specs.Sound.{pipe_at, Names, IsComponentOf, IsBufferOf, IsPipelineOf, IsSound}
use Rattle.host_widgets.specs.Acts.{no_words}
use Rattle.host_widgets.proofs.LookedUp.{found-is, all-found, any-found, each-found, all-below}

module _ (plan : Plan) (sound : IsSound plan) where
  -- the widget of an id, and what the id names
  pub named-at : (id : ℕ) → id < length plan.widgets → Names plan.graph id (get_or plan.widgets id no_words)
  named-at id low = sound.named id (get_or plan.widgets id no_words) (slice_get-get_or plan.widgets id no_words low)

  -- a component that was found
  pub record IsComponent (id : ℕ) (c : Comp) : Type 0 where
    pub low : id < length plan.widgets
    pub same : c.id ≡ id
    pub no_edge : edge_of plan.graph id ≡ None
    pub no_pipe : pipe_at plan.graph id ≡ None
    pub is : IsComponentOf (get_or plan.widgets id no_words) c

  pub component-found : (id : ℕ) (c : Comp) → comp_of plan.graph id ≡ Some c → IsComponent id c
  component-found id c found = by (named-at id low)
    where
      same : c.id ≡ id
      same = found-is (λ (x : Comp). x.id) plan.graph.comps id c found

      low : id < length plan.widgets
      low = let at : c.id < length plan.widgets = all-found (λ (x : Comp). x.id < length plan.widgets) (λ (x : Comp). x.id == id) plan.graph.comps c sound.comps_below found in omega (arith, at, same)

      by : Names plan.graph id (get_or plan.widgets id no_words) → IsComponent id c
      by (inl n) =
          let one : n.comp ≡ c = cc (sym n.there ∙ found) in
          record { low = low; same = same; no_edge = n.no_edge; no_pipe = n.no_pipe; is = subst (IsComponentOf (get_or plan.widgets id no_words)) one n.is }
      by (inr (inl n)) = absurd (cc (sym n.no_comp ∙ found))
      by (inr (inr n)) = absurd (cc (sym n.no_comp ∙ found))

  -- a buffer that was found
  pub record IsBuffer (id : ℕ) (e : Edge) : Type 0 where
    pub low : id < length plan.widgets
    pub same : e.buffer ≡ id
    pub no_comp : comp_of plan.graph id ≡ None
    pub no_pipe : pipe_at plan.graph id ≡ None
    pub is : IsBufferOf plan.graph (get_or plan.widgets id no_words) e

  pub buffer-found : (id : ℕ) (e : Edge) → edge_of plan.graph id ≡ Some e → IsBuffer id e
  buffer-found id e found = by (named-at id low)
    where
      same : e.buffer ≡ id
      same = found-is (λ (x : Edge). x.buffer) plan.graph.edges id e found

      low : id < length plan.widgets
      low = let at : e.buffer < length plan.widgets = all-found (λ (x : Edge). x.buffer < length plan.widgets) (λ (x : Edge). x.buffer == id) plan.graph.edges e sound.edges_below found in omega (arith, at, same)

      by : Names plan.graph id (get_or plan.widgets id no_words) → IsBuffer id e
      by (inl n) = absurd (cc (sym n.no_edge ∙ found))
      by (inr (inl n)) =
          let one : n.edge ≡ e = cc (sym n.there ∙ found) in
          record { low = low; same = same; no_comp = n.no_comp; no_pipe = n.no_pipe; is = subst (IsBufferOf plan.graph (get_or plan.widgets id no_words)) one n.is }
      by (inr (inr n)) = absurd (cc (sym n.no_edge ∙ found))

  -- a pipeline that was found
  pub record IsPipeline (id : ℕ) (p : Pipe) : Type 0 where
    pub low : id < length plan.widgets
    pub same : p.id ≡ id
    pub no_comp : comp_of plan.graph id ≡ None
    pub no_edge : edge_of plan.graph id ≡ None
    pub is : IsPipelineOf plan.graph (get_or plan.widgets id no_words) p

  pub pipeline-found : (id : ℕ) (p : Pipe) → pipe_at plan.graph id ≡ Some p → IsPipeline id p
  pipeline-found id p found = by (named-at id low)
    where
      same : p.id ≡ id
      same = found-is (λ (x : Pipe). x.id) plan.graph.pipes id p found

      low : id < length plan.widgets
      low = let at : p.id < length plan.widgets = all-found (λ (x : Pipe). x.id < length plan.widgets) (λ (x : Pipe). x.id == id) plan.graph.pipes p sound.pipes_below found in omega (arith, at, same)

      by : Names plan.graph id (get_or plan.widgets id no_words) → IsPipeline id p
      by (inl n) = absurd (cc (sym n.no_pipe ∙ found))
      by (inr (inl n)) = absurd (cc (sym n.no_pipe ∙ found))
      by (inr (inr n)) =
          let one : n.pipe ≡ p = cc (sym n.there ∙ found) in
          record { low = low; same = same; no_comp = n.no_comp; no_edge = n.no_edge; is = subst (IsPipelineOf plan.graph (get_or plan.widgets id no_words)) one n.is }

  -- each record is found by its id
  pub each-comp : AllByRecursion (λ (c : Comp). comp_of plan.graph c.id ≡ Some c) plan.graph.comps
  each-comp = each-found (λ (c : Comp). c.id) plan.graph.comps sound.comps_ascend

  pub each-edge : AllByRecursion (λ (e : Edge). edge_of plan.graph e.buffer ≡ Some e) plan.graph.edges
  each-edge = each-found (λ (e : Edge). e.buffer) plan.graph.edges sound.edges_ascend

  pub each-pipe : AllByRecursion (λ (p : Pipe). pipe_at plan.graph p.id ≡ Some p) plan.graph.pipes
  each-pipe = each-found (λ (p : Pipe). p.id) plan.graph.pipes sound.pipes_ascend

  -- ---- few

  abbrev all_ids : List ℕ
  all_ids = components plan.graph ++ (buffers plan.graph ++ map (λ (p : Pipe). p.id) plan.graph.pipes)

  keyed : {X : Type 0} (key : X → ℕ) (xs : List X) (id : ℕ) (x : X) → find (λ y. key y == id) xs ≡ Some x → list_any (λ n. n == id) (map key xs) ≡ true
  keyed key [] id x found = absurd (cc found)
  keyed {X} key (y ∷ ys) id x found = any (any-found (λ z. key z == id) (y ∷ ys) x found)
    where
      any_map : (zs : List X) → list_any (λ z. key z == id) zs ≡ list_any (λ n. n == id) (map key zs)
      any_map [] = refl
      any_map (z ∷ zs) = ap (λ (b : Bool). (key z == id) || b) (any_map zs)

      any : list_any (λ z. key z == id) (y ∷ ys) ≡ true → list_any (λ n. n == id) (map key (y ∷ ys)) ≡ true
      any is = sym (any_map (y ∷ ys)) ∙ is

  among : (id : ℕ) → id < length plan.widgets → list_any (λ n. n == id) all_ids ≡ true
  among id low = list_any-append (λ (n : ℕ). n == id) (components plan.graph) (buffers plan.graph ++ map (λ (p : Pipe). p.id) plan.graph.pipes) ∙ by (named-at id low)
    where
      rest : list_any (λ (n : ℕ). n == id) (buffers plan.graph ++ map (λ (p : Pipe). p.id) plan.graph.pipes) ≡ (list_any (λ (n : ℕ). n == id) (buffers plan.graph) || list_any (λ (n : ℕ). n == id) (map (λ (p : Pipe). p.id) plan.graph.pipes))
      rest = list_any-append (λ (n : ℕ). n == id) (buffers plan.graph) (map (λ (p : Pipe). p.id) plan.graph.pipes)

      by : Names plan.graph id (get_or plan.widgets id no_words) → (list_any (λ (n : ℕ). n == id) (components plan.graph) || list_any (λ (n : ℕ). n == id) (buffers plan.graph ++ map (λ (p : Pipe). p.id) plan.graph.pipes)) ≡ true
      by (inl n) = or_left (list_any (λ (n : ℕ). n == id) (components plan.graph)) _ (keyed (λ (c : Comp). c.id) plan.graph.comps id n.comp n.there)
      by (inr (inl n)) = or_right (list_any (λ (n : ℕ). n == id) (components plan.graph)) _ (rest ∙ or_left (list_any (λ (n : ℕ). n == id) (buffers plan.graph)) _ (keyed (λ (e : Edge). e.buffer) plan.graph.edges id n.edge n.there))
      by (inr (inr n)) = or_right (list_any (λ (n : ℕ). n == id) (components plan.graph)) _ (rest ∙ or_right (list_any (λ (n : ℕ). n == id) (buffers plan.graph)) _ (keyed (λ (p : Pipe). p.id) plan.graph.pipes id n.pipe n.there))

  -- each widget is one of the three, of which there are at most so many
  pub few-widgets : length plan.widgets ≤ 288
  few-widgets =
      let most = all-below (length plan.widgets) all_ids among in
      let parts : length all_ids ≡ length (components plan.graph) + length (buffers plan.graph ++ map (λ (p : Pipe). p.id) plan.graph.pipes) = length-append (components plan.graph) (buffers plan.graph ++ map (λ (p : Pipe). p.id) plan.graph.pipes) in
      let two : length (buffers plan.graph ++ map (λ (p : Pipe). p.id) plan.graph.pipes) ≡ length (buffers plan.graph) + length (map (λ (p : Pipe). p.id) plan.graph.pipes) = length-append (buffers plan.graph) (map (λ (p : Pipe). p.id) plan.graph.pipes) in
      let a : length (components plan.graph) ≡ length plan.graph.comps = length-map plan.graph.comps (λ (c : Comp). c.id) in
      let b : length (buffers plan.graph) ≡ length plan.graph.edges = length-map plan.graph.edges (λ (e : Edge). e.buffer) in
      let c : length (map (λ (p : Pipe). p.id) plan.graph.pipes) ≡ length plan.graph.pipes = length-map plan.graph.pipes (λ (p : Pipe). p.id) in
      omega (arith, most, parts, two, a, b, c, sound.comps, sound.edges, sound.pipes)

  -- an id is a word
  pub id-fits : (id : ℕ) → id < length plan.widgets → id < 2 ^ 32
  id-fits id low = omega (arith, low, few-widgets)
