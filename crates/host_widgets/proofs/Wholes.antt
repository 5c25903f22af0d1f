-- All that a sound plan has is of one of its pipelines, so to bring a device up makes all of them.
use Rattle.std.proofs.Common.{[], ◌∷◌, ◌≡◌, refl, sym, ap, subst, ◌∙◌, inl, inr, ℕ, ◌+◌, ◌<◌, List, ◌++◌, map, filter, length, get_or, true, false, ◌==◌, ◌&&◌, Some}
use Rattle.std.specs.Prelude.{Option}
use Rattle.std.specs.Option.{option_map_or}
use Rattle.std.specs.List.{flat_map, list_any}
use Rattle.std.proofs.lemmas.Bool.{eqb-true, and_parts}
use Rattle.stream_law.specs.declared.graph.Comp.{Comp}
use Rattle.stream_law.specs.declared.graph.Edge.{Edge}
use Rattle.stream_law.specs.declared.graph.Pipe.{Pipe}
use Rattle.stream_law.specs.declared.graph.Join.{Join as Joined}
use Rattle.stream_law.specs.declared.graph.Graph.{Graph}
use Rattle.stream_law.specs.Order.{is_among}
use Rattle.stream_law.specs.Ways.{comp_of, edge_of, is_complete}
use Rattle.stream_law.proofs.Members.{IsIn, in-all, in-each, any-in, find-in}
use Rattle.tplg_plan.specs.declared.plans.Plan.{Plan}
use Rattle.tplg_plan.specs.Sound.{IsSound, IsLive, Names}
use Rattle.host_widgets.specs.declared.kept.Record.{Record}
use Rattle.host_widgets.specs.Acts.{widget_ids, widget_words, no_words}
use Rattle.host_widgets.specs.ActLists.{bring_up, control_acts}
use Rattle.host_widgets.specs.HostActs.{Act, Make, Join, Finish}
use Rattle.host_widgets.specs.Indices.{pipe_indices, named_index, index_at, is_up}
use Rattle.host_widgets.specs.Groups.{is_control_of, finish_ids, making_lists}
use Rattle.host_widgets.specs.Kept.{controls_of}
use Rattle.host_widgets.proofs.ControlLists.{Pair, all-first}
use Rattle.host_widgets.proofs.NamedIds.{named-at, component-found}
use Rattle.host_widgets.proofs.Needs.{in-map, in-among}
use Rattle.host_widgets.proofs.Sublists.{filter-all}

map-map : {X Y Z : Type 0} (f : X → Y) (g : Y → Z) (xs : List X) → map g (map f xs) ≡ map (λ x. g (f x)) xs
map-map f g [] = refl
map-map {X} {Y} {Z} f g (x ∷ xs) = ap (λ (zs : List Z). g (f x) ∷ zs) (map-map f g xs)

pub complete-among : (ps : List Pipe) (i : ℕ) → list_any (λ p. p.index == i && p.complete) ps ≡ true → is_among (map (λ (p : Pipe). p.index) ps) i ≡ true
complete-among ps i is =
    let r = any-in (λ p. p.index == i && p.complete) ps is in
    in-among (map (λ (p : Pipe). p.index) ps) i (subst (λ y. IsIn y (map (λ (p : Pipe). p.index) ps)) (eqb-true r.0.index i (and_parts (r.0.index == i) r.0.complete r.2).0) (in-map (λ (p : Pipe). p.index) ps r.0 r.1))

module _ (plan : Plan) (sound : IsSound plan) where
  abbrev g : Graph
  g = plan.graph

  abbrev every : List ℕ
  every = pipe_indices g

  -- ---- each thing has an index of a pipeline

  pub comp-in : (c : Comp) → IsIn c g.comps → is_among every c.pipe ≡ true
  comp-in c here = complete-among g.pipes c.pipe (in-all (λ (x : Comp). is_complete g x.pipe ≡ true) g.comps c sound.comps_piped here)

  pub edge-in : (e : Edge) → IsIn e g.edges → is_among every e.pipe ≡ true
  edge-in e here = complete-among g.pipes e.pipe (in-all (λ (x : Edge). is_complete g x.pipe ≡ true) g.edges e sound.edges_piped here)

  pub pipe-in : (p : Pipe) → IsIn p g.pipes → is_among every p.index ≡ true
  pipe-in p here = in-among every p.index (in-map (λ (x : Pipe). x.index) g.pipes p here)

  pub widget-in : (id : ℕ) → id < length plan.widgets → is_among every (widget_words plan id).pipe ≡ true
  widget-in id low = by (named-at plan sound id low)
    where
      by : Names g id (get_or plan.widgets id no_words) → is_among every (widget_words plan id).pipe ≡ true
      by (inl n) = ap (is_among every) n.is.pipe ∙ comp-in n.comp (find-in (λ (x : Comp). x.id == id) g.comps n.comp n.there).0
      by (inr (inl n)) = ap (is_among every) n.is.pipe ∙ edge-in n.edge (find-in (λ (x : Edge). x.buffer == id) g.edges n.edge n.there).0
      by (inr (inr n)) = ap (is_among every) n.is.index ∙ pipe-in n.pipe (find-in (λ (x : Pipe). x.id == id) g.pipes n.pipe n.there).0

  -- the index of a component that is there
  comp-named : (id : ℕ) (c : Comp) → comp_of g id ≡ Some c → index_at g id ≡ Some c.pipe
  comp-named id c found = ap (λ (o : Option Comp). named_index o (edge_of g id)) found

  -- whether a component is of these indices, by its widget
  pub comp-by : (n : List ℕ) (id : ℕ) (c : Comp) → comp_of g id ≡ Some c → is_up g n id ≡ is_among n (widget_words plan id).pipe
  comp-by n id c found = ap (λ (o : Option ℕ). option_map_or (is_among n) o false) (comp-named id c found) ∙ ap (is_among n) (sym (component-found plan sound id c found).is.pipe)

  -- a component that is there is up with all
  pub comp-up : (id : ℕ) (c : Comp) → comp_of g id ≡ Some c → is_up g every id ≡ true
  comp-up id c found =
      ap (λ (o : Option ℕ). option_map_or (is_among every) o false) (comp-named id c found) ∙ comp-in c (find-in (λ (x : Comp). x.id == id) g.comps c found).0

  pub control-in : (kept : Record) (p : Pair) → IsIn p (controls_of plan kept) → is_control_of plan every p ≡ true
  control-in kept p here =
      let live = in-all (λ (x : Pair). IsLive g x.0) (controls_of plan kept) p (all-first (IsLive g) plan.controls kept.controls sound.live) here in
      comp-up p.0.comp live.comp live.there

  -- ---- so it is of all of them

  pipes-whole : filter (λ (p : Pipe). is_among every p.index) g.pipes ≡ g.pipes
  pipes-whole = filter-all (λ (p : Pipe). is_among every p.index) g.pipes (in-each (λ (p : Pipe). is_among every p.index ≡ true) g.pipes pipe-in)

  controls-whole : (kept : Record) → filter (is_control_of plan every) (controls_of plan kept) ≡ controls_of plan kept
  controls-whole kept = filter-all (is_control_of plan every) (controls_of plan kept) (in-each (λ (p : Pair). is_control_of plan every p ≡ true) (controls_of plan kept) (control-in kept))

  finishes-whole : map Finish (finish_ids g every) ≡ map (λ (p : Pipe). Finish p.id) g.pipes
  finishes-whole = ap (λ (ps : List Pipe). map Finish (map (λ (p : Pipe). p.id) ps)) pipes-whole ∙ map-map (λ (p : Pipe). p.id) Finish g.pipes

  -- ---- messages

  abbrev joining : Joined → Act
  joining j = Join j.source j.sink

  -- the parts of a list of acts
  abbrev listed : List ℕ → List Joined → List Pair → List Act → List Act
  listed ids joins pairs finishes = map Make ids ++ (map joining joins ++ (flat_map control_acts pairs ++ finishes))

  -- all of the plan, by lists
  pub bring-up-lists : (kept : Record) → bring_up plan kept ≡ making_lists plan kept (widget_ids plan) g.joins every
  bring-up-lists kept = sym (λ i. listed (widget_ids plan) g.joins (controls-whole kept i) (finishes-whole i))
