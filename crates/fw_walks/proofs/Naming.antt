-- What ids name, by the tables of a registry and by its graph.
use Rattle.std.proofs.Common.{◌≡◌, refl, sym, ap, ◌∙◌, ℕ, List, [], ◌∷◌, Bool, true, false, cond, map, ◌==◌, ◌||◌, Option, Some, None, option_map, suc, length, filter}
use Rattle.std.specs.Prelude.{find, option_and_then}
use Rattle.stream_law.specs.declared.graph.Edge.{Edge}
use Rattle.stream_law.specs.Placed.{Ascends}
use Rattle.stream_law.specs.Ways.{is_end}
use Rattle.stream_law.proofs.Placing.{Ascends-distinct}
use Rattle.row_laws.proofs.Ascending.{ascends-keys}
use Rattle.row_laws.proofs.Found.{ends-agree}
use Rattle.mbox_link.specs.Step.{is_used, has_comp, has_edge, has_pipe}
use Rattle.fw_units.specs.declared.component.Component.{Component}
use Rattle.fw_units.specs.Units.{comp_by, edge_by, pipe_by}
use Rattle.fw_components.specs.Tables.{Tables, graph_of}
use Rattle.fw_units.specs.Changes.{has_id}
use Rattle.fw_walks.proofs.OnWays.{any-map}

pub comp-named : (t : Tables) (id : ℕ) → has_id t.comps id ≡ has_comp (graph_of t) id
comp-named t id = sym (any-map (λ c. c.id == id) comp_by t.comps)

pub edge-named : (t : Tables) (id : ℕ) → has_id t.buffers id ≡ has_edge (graph_of t) id
edge-named t id = sym (any-map (λ e. e.buffer == id) edge_by t.buffers)

pub pipe-named : (t : Tables) (id : ℕ) → has_id t.pipes id ≡ has_pipe (graph_of t) id
pipe-named t id = sym (any-map (λ p. p.id == id) pipe_by t.pipes)

pub used-named : (t : Tables) (id : ℕ) → ((has_id t.comps id || has_id t.buffers id) || has_id t.pipes id) ≡ is_used (graph_of t) id
used-named t id = ap (λ (p : Bool × Bool × Bool). (p.0 || p.1) || p.2) (λ i. (comp-named t id i, edge-named t id i, pipe-named t id i))

-- what is found of those that are shown
pub find-map : {X Y : Type 0} (p : Y → Bool) (f : X → Y) (xs : List X) → find p (map f xs) ≡ option_map f (find (λ x. p (f x)) xs)
find-map p f [] = refl
find-map {X} p f (x ∷ xs) = by (p (f x)) (find-map p f xs)
  where
    by : (h : Bool) → find p (map f xs) ≡ option_map f (find (λ x. p (f x)) xs) → cond h (Some (f x)) (find p (map f xs)) ≡ option_map f (cond h (Some x) (find (λ x. p (f x)) xs))
    by true rest = refl
    by false rest = rest

module _ {X Y Z : Type 0} (p : Y → Bool) (f : X → Y) where
  pub found-shown : (h : Y → Z) (xs : List X) → option_map (λ x. h (f x)) (find (λ x. p (f x)) xs) ≡ option_map h (find p (map f xs))
  found-shown h xs = by (find (λ x. p (f x)) xs) ∙ ap (option_map h) (sym (find-map p f xs))
    where
      by : (o : Option X) → option_map (λ x. h (f x)) o ≡ option_map h (option_map f o)
      by None = refl
      by (Some x) = refl

  pub found-then : (h : Y → Option Z) (xs : List X) → option_and_then (λ x. h (f x)) (find (λ x. p (f x)) xs) ≡ option_and_then h (find p (map f xs))
  found-then h xs = by (find (λ x. p (f x)) xs) ∙ ap (option_and_then h) (sym (find-map p f xs))
    where
      by : (o : Option X) → option_and_then (λ x. h (f x)) o ≡ option_and_then h (option_map f o)
      by None = refl
      by (Some x) = refl

-- how many buffers have an end
filter-shown : (p : Edge → Bool) (cs : List Component) → length (filter (λ c. p (edge_by c)) cs) ≡ length (filter p (map edge_by cs))
filter-shown p [] = refl
filter-shown p (c ∷ cs) = by (p (edge_by c)) (filter-shown p cs)
  where
    by : (h : Bool) → length (filter (λ c. p (edge_by c)) cs) ≡ length (filter p (map edge_by cs)) → length (cond h (c ∷ filter (λ c. p (edge_by c)) cs) (filter (λ c. p (edge_by c)) cs)) ≡ length (cond h (edge_by c ∷ filter p (map edge_by cs)) (filter p (map edge_by cs)))
    by true rest = ap suc rest
    by false rest = rest

same-keys : (cs : List Component) → map (λ (c : Component). c.id) cs ≡ map (λ (e : Edge). e.buffer) (map edge_by cs)
same-keys [] = refl
same-keys (c ∷ cs) = ap (λ (ids : List ℕ). c.id ∷ ids) (same-keys cs)

pub counted-shown : (pick : Edge → Option ℕ) (id : ℕ) (cs : List Component) → Ascends (λ c. c.id) cs → length (filter (λ c. is_end (pick (edge_by c)) id) cs) ≡ length (filter (λ b. is_end (option_and_then pick (find (λ e. e.buffer == b) (map edge_by cs))) id) (map (λ e. e.buffer) (map edge_by cs)))
counted-shown pick id cs up =
    filter-shown (λ e. is_end (pick e) id) cs
    ∙ sym (ends-agree pick id (map edge_by cs) (Ascends-distinct (λ (e : Edge). e.buffer) (map edge_by cs) (ascends-keys (λ (c : Component). c.id) (λ (e : Edge). e.buffer) cs (map edge_by cs) (same-keys cs) up)))
