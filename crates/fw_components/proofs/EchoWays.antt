-- The chart that walks give is that of the ways of a graph.
use Rattle.std.proofs.Common.{◌≡◌, refl, sym, ap, ◌∙◌, subst, ℕ, List, [], ◌∷◌, ◌++◌, map, filter, Bool, false, not, ◌&&◌}
use Rattle.std.specs.List.{AllByRecursion, list_any}
use Rattle.stream_law.specs.declared.graph.Edge.{Edge}
use Rattle.stream_law.specs.declared.graph.Join.{Join}
use Rattle.stream_law.specs.declared.graph.Pipe.{Pipe}
use Rattle.stream_law.specs.Ways.{splits}
use Rattle.stream_law.proofs.Members.{in-all, in-each, kept-in}
use Rattle.fw_places.specs.Charts.{Chart}
use Rattle.fw_places.specs.Walks.{IsListed}
use Rattle.fw_places.specs.WayCharts.{WayChart, AreWaysOf, echo_edges}
use Rattle.fw_units.specs.declared.component.Component.{Component}
use Rattle.fw_units.specs.Units.{kind_by, comp_by, edge_by}
use Rattle.fw_components.specs.EchoEdges.{AreLinkable, linked_ids, is_echo_by, is_edge_in}
use Rattle.fw_components.proofs.EchoGraph.{graph, echoes-are, left-joins, no-echoes, all-joins}

-- the ids of components and edges are those of their graph
comps-ids : (cs : List Component) → map (λ (c : Component). c.id) cs ≡ map (λ x. x.id) (map comp_by cs)
comps-ids [] = refl
comps-ids (c ∷ cs) = ap (λ (xs : List ℕ). c.id ∷ xs) (comps-ids cs)

pub edges-ids : (bs : List Component) → map (λ (e : Edge). e.buffer) (map edge_by bs) ≡ map (λ (b : Component). b.id) bs
edges-ids [] = refl
edges-ids (b ∷ bs) = ap (λ (xs : List ℕ). b.id ∷ xs) (edges-ids bs)

-- joins that are left of joins between what is listed are so too
pub left-listed : (ids : List ℕ) (p : Join → Bool) (joins : List Join) → AllByRecursion (IsListed ids) joins → AllByRecursion (IsListed ids) (filter p joins)
left-listed ids p joins listed = in-each (IsListed ids) (filter p joins) (λ j here. in-all (IsListed ids) joins j listed (kept-in p joins j here).0)

module _ (comps : List Component) (edges : List Edge) (pipes : List Pipe) (joins : List Join) (ways : WayChart) where
  -- by the echo edges that walks find, and the joins at none of them
  pub ways-found : (can : AreLinkable comps edges joins) → (es : List Edge) (places : Chart) → places.ids ≡ linked_ids comps edges → places.joins ≡ joins → es ≡ filter (is_echo_by comps places) edges
      → ways.ids ≡ places.ids → ways.joins ≡ filter (λ j. not (is_edge_in es j.source) && not (is_edge_in es j.sink)) joins → ways.echoes ≡ es
      → AreWaysOf (graph comps edges pipes joins can.named) ways
  ways-found can es places all along found ids left echoes =
      let same : places ≡ record { ids = places.ids; joins = joins } = λ i. let r : Chart = record { ids = places.ids; joins = along i } in r in
      let are : es ≡ echo_edges (graph comps edges pipes joins can.named) =
      found ∙ ap (λ (p : Chart). filter (is_echo_by comps p) edges) same ∙ echoes-are comps edges pipes joins can.named places.ids all can.distinct in
      record {
        ids = ids ∙ all ∙ ap (λ (xs : List ℕ). xs ++ map (λ (e : Edge). e.buffer) edges) (comps-ids comps);
        joins = left ∙ ap (λ (xs : List Edge). filter (λ (j : Join). not (is_edge_in xs j.source) && not (is_edge_in xs j.sink)) joins) are ∙ left-joins comps edges pipes joins can.named;
        echoes = echoes ∙ are;
        distinct = can.distinct;
        listed = subst (λ (xs : List ℕ). AllByRecursion (IsListed xs) joins) (sym (ids ∙ all)) can.listed;
      }

  -- where no component splits
  pub ways-plain : (can : AreLinkable comps edges joins) → list_any (λ c. splits (kind_by c.unit)) comps ≡ false → ways.ids ≡ linked_ids comps edges → ways.joins ≡ joins → ways.echoes ≡ [] → AreWaysOf (graph comps edges pipes joins can.named) ways
  ways-plain can plain ids left echoes = record {
    ids = ids ∙ ap (λ (xs : List ℕ). xs ++ map (λ (e : Edge). e.buffer) edges) (comps-ids comps);
    joins = left ∙ sym (all-joins comps edges pipes joins can.named plain);
    echoes = echoes ∙ sym (no-echoes comps edges pipes joins can.named plain);
    distinct = can.distinct;
    listed = subst (λ (xs : List ℕ). AllByRecursion (IsListed xs) joins) (sym ids) can.listed;
  }
