-- What is so of every plan lets what a stream needs be found.
use Rattle.std.proofs.Common.{◌≡◌, subst, ℕ, ◌<◌, List, [], ◌∷◌, map, length, true, inl, inr, ◌⊎◌, ◌==◌, Some, None, refl, arith}
use Rattle.std.specs.List.{AllByRecursion}
use Rattle.std.proofs.lemmas.Bool.{eqb-true}
use Rattle.stream_law.specs.declared.graph.Comp.{Comp}
use Rattle.stream_law.specs.declared.graph.Edge.{Edge}
use Rattle.stream_law.specs.declared.graph.Join.{Join}
use Rattle.stream_law.specs.declared.graph.Graph.{Graph}
use Rattle.stream_law.specs.Ways.{comp_of, edge_of, components, is_complete}
use Rattle.stream_law.specs.Order.{is_among}
use Rattle.stream_law.proofs.Members.{IsIn, in-all, in-each, find-in}
use Rattle.tplg_plan.specs.declared.plans.Plan.{Plan}
use Rattle.tplg_plan.specs.Sound.{IsSound, IsSideOf, FillsBuffer, DrainsBuffer}
use Rattle.host_widgets.proofs.NamedIds.{few-widgets}
use Rattle.host_widgets.proofs.ReadyWays.{has_host, host-there}
use Rattle.std.specs.Prelude.{Option}
use Rattle.host_widgets.specs.Need.{end_index}
use Rattle.host_dynamic.specs.Noting.{IsLowJoin, IsSearchable}
use Rattle.host_widgets.proofs.Needs.{in-map, among-in, in-among}
use Rattle.host_widgets.specs.Indices.{named_index, index_at, pipe_indices}
use Rattle.host_widgets.proofs.Wholes.{complete-among}

module _ (plan : Plan) (sound : IsSound plan) where
  abbrev g : Graph
  g = plan.graph

  comp-low : (x : ℕ) (c : Comp) → comp_of g x ≡ Some c → x < 288
  comp-low x c at =
      let r = find-in (λ (k : Comp). k.id == x) g.comps c at in
      omega (arith, in-all (λ (k : Comp). k.id < length plan.widgets) g.comps c sound.comps_below r.0, few-widgets plan sound, eqb-true c.id x r.1)

  edge-low : (x : ℕ) (e : Edge) → edge_of g x ≡ Some e → x < 288
  edge-low x e at =
      let r = find-in (λ (k : Edge). k.buffer == x) g.edges e at in
      omega (arith, in-all (λ (k : Edge). k.buffer < length plan.widgets) g.edges e sound.edges_below r.0, few-widgets plan sound, eqb-true e.buffer x r.1)

  side-low : (j : Join) → FillsBuffer g j ⊎ DrainsBuffer g j → IsLowJoin j
  side-low j (inl (c, e, from, to, is)) = (comp-low j.source c from, edge-low j.sink e to)
  side-low j (inr (e, c, from, to, is)) = (edge-low j.source e from, comp-low j.sink c to)

  pub comps-low : AllByRecursion (λ (c : Comp). c.id < 288) g.comps
  comps-low = in-each (λ (c : Comp). c.id < 288) g.comps (λ c here. omega (arith, in-all (λ (k : Comp). k.id < length plan.widgets) g.comps c sound.comps_below here, few-widgets plan sound))

  pub edges-low : AllByRecursion (λ (e : Edge). e.buffer < 288) g.edges
  edges-low = in-each (λ (e : Edge). e.buffer < 288) g.edges (λ e here. omega (arith, in-all (λ (k : Edge). k.buffer < length plan.widgets) g.edges e sound.edges_below here, few-widgets plan sound))

  pub joins-low : AllByRecursion IsLowJoin g.joins
  joins-low = in-each IsLowJoin g.joins (λ j here. side-low j (in-all (IsSideOf g) g.joins j sound.joins here).between)

  -- an index is that of a pipeline
  pub index-among : (x j : ℕ) → index_at g x ≡ Some j → is_among (pipe_indices g) j ≡ true
  index-among x j is = by (comp_of g x) refl (edge_of g x) refl is
    where
      by : (c : Option Comp) → comp_of g x ≡ c → (e : Option Edge) → edge_of g x ≡ e → named_index c e ≡ Some j → is_among (pipe_indices g) j ≡ true
      by (Some c) at e at' is =
          let r = find-in (λ (k : Comp). k.id == x) g.comps c at in let same : c.pipe ≡ j = cc is in
          subst (λ i. is_among (pipe_indices g) i ≡ true) same (complete-among g.pipes c.pipe (in-all (λ (c : Comp). is_complete g c.pipe ≡ true) g.comps c sound.comps_piped r.0))
      by None at (Some e) at' is =
          let r = find-in (λ (k : Edge). k.buffer == x) g.edges e at' in let same : e.pipe ≡ j = cc is in
          subst (λ i. is_among (pipe_indices g) i ≡ true) same (complete-among g.pipes e.pipe (in-all (λ (e : Edge). is_complete g e.pipe ≡ true) g.edges e sound.edges_piped r.0))
      by None at None at' is = absurd (cc is)

  pub end-among : (end : Option ℕ) (j : ℕ) → end_index g end ≡ Some j → is_among (pipe_indices g) j ≡ true
  end-among None j is = absurd (cc is)
  end-among (Some c) j is = index-among c j is

  pub searchable : (host : ℕ) → has_host plan.streams host ≡ true → IsSearchable g host
  searchable host some =
      let at = host-there plan sound host some in
      let found = find-in (λ (k : Comp). k.id == host) g.comps at.comp at.there in
      record {
        pipes = sound.pipes;
        comps = in-each (λ (c : Comp). c.id < 288) g.comps (λ c here. omega (arith, in-all (λ (k : Comp). k.id < length plan.widgets) g.comps c sound.comps_below here, few-widgets plan sound));
        joins = in-each IsLowJoin g.joins (λ j here. side-low j (in-all (IsSideOf g) g.joins j sound.joins here).between);
        piped = record {
          there = in-among (components g) host (subst (λ y. IsIn y (components g)) (eqb-true at.comp.id host found.1) (in-map (λ (k : Comp). k.id) g.comps at.comp found.0));
          comps = in-each (λ (c : Comp). is_among (pipe_indices g) c.pipe ≡ true) g.comps (λ c here. complete-among g.pipes c.pipe (in-all (λ (c : Comp). is_complete g c.pipe ≡ true) g.comps c sound.comps_piped here));
          edges = in-each (λ (e : Edge). is_among (pipe_indices g) e.pipe ≡ true) g.edges (λ e here. complete-among g.pipes e.pipe (in-all (λ (e : Edge). is_complete g e.pipe ≡ true) g.edges e sound.edges_piped here));
        };
      }

-- a host that is there has a low id
pub host-low : (g : Graph) (host : ℕ) → IsSearchable g host → host < 288
host-low g host s = by g.comps s.comps (among-in (components g) host s.piped.there)
  where
    by : (cs : List Comp) → AllByRecursion (λ (c : Comp). c.id < 288) cs → IsIn host (map (λ (c : Comp). c.id) cs) → host < 288
    by [] low here = absurd here
    by (c ∷ cs) low (inl same) = omega (arith, low.0, same)
    by (c ∷ cs) low (inr more) = by cs low.1 more
