-- What one join more lets walks reach, and the ways of hosts.
use Rattle.std.proofs.Common.{◌≡◌, refl, sym, ap, ◌∙◌, ℕ, List, length, Bool, true, false, ◌==◌, ◌&&◌, ◌||◌, inl, inr, ◌⊎◌}
use Rattle.std.proofs.lemmas.Bool.{or_left, or_right, or_cases, or_parts, and_parts, eq-eqb}
use Rattle.std.specs.List.{AllByRecursion, list_any}
use Rattle.mbox_link.specs.Step.{has_comp, has_edge, leads_in, leads_out, has_free_in, has_free_out, kind_at, takes_join}
use Rattle.stream_law.specs.declared.graph.Graph.{Graph}
use Rattle.stream_law.specs.declared.graph.Join.{Join}
use Rattle.stream_law.specs.Ways.{leads}
use Rattle.stream_law.specs.Joins.{would_cycle}
use Rattle.stream_law.proofs.Members.{in-any, in-each}
use Rattle.stream_law.specs.Order.{is_among}
use Rattle.fw_units.specs.declared.component.Component.{Component}
use Rattle.fw_components.specs.Tables.{Tables, graph_of, ids_of}
use Rattle.fw_units.specs.Changes.{has_id}
use Rattle.fw_components.proofs.Listed.{listed-is}
use Rattle.fw_units.proofs.Ids.{all-fail}
use Rattle.row_laws.proofs.Unreached.{leads-none, leads-never}
use Rattle.fw_walks.proofs.Naming.{comp-named, edge-named}
use Rattle.fw_places.specs.Walks.{leads_by}

pub comps-listed : (t : Tables) (ids : List ℕ) → ids ≡ ids_of t → AllByRecursion (λ c. is_among ids c.id ≡ true) t.comps
comps-listed t ids is = in-each (λ (c : Component). is_among ids c.id ≡ true) t.comps (λ c there. ap (λ (xs : List ℕ). is_among xs c.id) is ∙ listed-is t c.id ∙ or_left (has_id t.comps c.id) _ (in-any (λ d. d.id == c.id) t.comps c there (eq-eqb c.id c.id refl)))

pub cycle-marked : (g : Graph) (from to : ℕ) → leads_by false g.joins to from ≡ would_cycle g from to
unfolding would_cycle
cycle-marked g from to = refl

-- no walk leads from one id to another where no join goes on from the one, or none comes to the other
leads-loose : (js : List Join) (from to : ℕ) → (from == to || (list_any (λ j. j.source == from) js && list_any (λ j. j.sink == to) js)) ≡ false → leads js (length js) from to ≡ false
leads-loose js from to none = by (list_any (λ (j : Join). j.source == from) js) refl parts.1
  where
    parts : ((from == to) ≡ false) × ((list_any (λ j. j.source == from) js && list_any (λ j. j.sink == to) js) ≡ false)
    parts = or_parts (from == to) (list_any (λ (j : Join). j.source == from) js && list_any (λ (j : Join). j.sink == to) js) none

    by : (h : Bool) → list_any (λ j. j.source == from) js ≡ h → (h && list_any (λ j. j.sink == to) js) ≡ false → leads js (length js) from to ≡ false
    by true is rest = leads-never js (length js) from to parts.0 (all-fail (λ (j : Join). j.sink == to) js rest)
    by false is rest = leads-none js (length js) from to parts.0 (all-fail (λ (j : Join). j.source == from) js is)

pub never-closes : (g : Graph) (js : List Join) (from to : ℕ) → js ≡ g.joins → (to == from || (list_any (λ j. j.source == to) js && list_any (λ j. j.sink == from) js)) ≡ false → false ≡ would_cycle g from to
unfolding would_cycle
never-closes g js from to is none = sym (leads-loose js to from none) ∙ ap (λ (l : List Join). leads l (length l) to from) is

-- a component and a buffer are listed
pub ends-listed : (t : Tables) (source sink : ℕ) → takes_join (graph_of t) source sink ≡ true → (is_among (ids_of t) source ≡ true) × (is_among (ids_of t) sink ≡ true)
ends-listed t source sink takes = by (or_cases (leads_in (graph_of t) source sink && has_free_out (graph_of t) source (kind_at (graph_of t) source)) (leads_out (graph_of t) source sink && has_free_in (graph_of t) sink (kind_at (graph_of t) sink)) takes)
  where
    comp : (x : ℕ) → has_comp (graph_of t) x ≡ true → is_among (ids_of t) x ≡ true
    comp x there = listed-is t x ∙ or_left (has_id t.comps x) _ (comp-named t x ∙ there)

    edge : (x : ℕ) → has_edge (graph_of t) x ≡ true → is_among (ids_of t) x ≡ true
    edge x there = listed-is t x ∙ or_right (has_id t.comps x) _ (edge-named t x ∙ there)

    by : ((leads_in (graph_of t) source sink && has_free_out (graph_of t) source (kind_at (graph_of t) source)) ≡ true) ⊎ ((leads_out (graph_of t) source sink && has_free_in (graph_of t) sink (kind_at (graph_of t) sink)) ≡ true) → (is_among (ids_of t) source ≡ true) × (is_among (ids_of t) sink ≡ true)
    by (inl e) = let p = and_parts (has_comp (graph_of t) source) (has_edge (graph_of t) sink) (and_parts (leads_in (graph_of t) source sink) _ e).0 in (comp source p.0, edge sink p.1)
    by (inr e) = let p = and_parts (has_edge (graph_of t) source) (has_comp (graph_of t) sink) (and_parts (leads_out (graph_of t) source sink) _ e).0 in (edge source p.0, comp sink p.1)
