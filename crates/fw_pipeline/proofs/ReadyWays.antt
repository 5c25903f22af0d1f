-- The way of a host's stream by what is marked, and whether all on it is ready.
use Rattle.std.proofs.Common.{◌≡◌, refl, sym, ap, ◌∙◌, ℕ, List, [], ◌∷◌, Bool, true, not, map, ◌==◌, ◌&&◌, ◌||◌, inl, inr}
use Rattle.std.proofs.lemmas.Bool.{or_left, or_right, eq-eqb}
use Rattle.std.specs.List.{list_all}
use Rattle.stream_law.specs.declared.graph.Comp.{Comp}
use Rattle.stream_law.specs.declared.graph.Edge.{Edge}
use Rattle.stream_law.specs.Ways.{on_way}
use Rattle.stream_law.proofs.Members.{IsIn, in-any}
use Rattle.stream_law.specs.Order.{is_among}
use Rattle.mbox_link.specs.Step.{is_ready_comp, is_ready_edge}
use Rattle.fw_units.specs.declared.component.Component.{Component}
use Rattle.fw_units.specs.Units.{comp_by, edge_by}
use Rattle.fw_components.specs.Tables.{Tables, graph_of}
use Rattle.fw_units.specs.Changes.{has_id}
use Rattle.fw_components.specs.Tables.{ids_of}
use Rattle.fw_places.specs.Walks.{is_marked}
use Rattle.fw_components.proofs.Listed.{listed-is}

pub all-map : {X Y : Type 0} (p : Y → Bool) (f : X → Y) (xs : List X) → list_all p (map f xs) ≡ list_all (λ x. p (f x)) xs
all-map p f [] = refl
all-map p f (x ∷ xs) = ap (λ h. p (f x) && h) (all-map p f xs)

pub all-each : {X : Type 0} (p q : X → Bool) (xs : List X) → ((x : X) → IsIn x xs → p x ≡ q x) → list_all p xs ≡ list_all q xs
all-each p q [] same = refl
all-each p q (x ∷ xs) same = ap (λ (h : Bool × Bool). h.0 && h.1) (λ i. (same x (inl refl) i, all-each p q xs (λ y there. same y (inr there)) i))

module _ (t : Tables) (ids : List ℕ) (is : ids ≡ ids_of t) (host : ℕ) (marks : List Bool) (on : (x : ℕ) → is_among ids x ≡ true → is_marked ids marks x ≡ on_way (graph_of t) host x) where
  comp-listed : (c : Component) → IsIn c t.comps → is_among ids c.id ≡ true
  comp-listed c there = ap (λ (xs : List ℕ). is_among xs c.id) is ∙ listed-is t c.id ∙ or_left (has_id t.comps c.id) _ (in-any (λ d. d.id == c.id) t.comps c there (eq-eqb c.id c.id refl))

  buffer-listed : (c : Component) → IsIn c t.buffers → is_among ids c.id ≡ true
  buffer-listed c there = ap (λ (xs : List ℕ). is_among xs c.id) is ∙ listed-is t c.id ∙ or_right (has_id t.comps c.id) _ (in-any (λ d. d.id == c.id) t.buffers c there (eq-eqb c.id c.id refl))

  pub comps-marked : list_all (λ c. not (is_marked ids marks c.id) || is_ready_comp (graph_of t) (comp_by c)) t.comps ≡ list_all (λ c. not (on_way (graph_of t) host c.id) || is_ready_comp (graph_of t) c) (graph_of t).comps
  comps-marked =
      all-each (λ c. not (is_marked ids marks c.id) || is_ready_comp (graph_of t) (comp_by c)) (λ c. not (on_way (graph_of t) host c.id) || is_ready_comp (graph_of t) (comp_by c)) t.comps (λ c there. ap (λ h. not h || is_ready_comp (graph_of t) (comp_by c)) (on c.id (comp-listed c there)))
      ∙ sym (all-map (λ (c : Comp). not (on_way (graph_of t) host c.id) || is_ready_comp (graph_of t) c) comp_by t.comps)

  pub buffers-marked : list_all (λ c. not (is_marked ids marks c.id) || is_ready_edge (graph_of t) (edge_by c)) t.buffers ≡ list_all (λ e. not (on_way (graph_of t) host e.buffer) || is_ready_edge (graph_of t) e) (graph_of t).edges
  buffers-marked =
      all-each (λ c. not (is_marked ids marks c.id) || is_ready_edge (graph_of t) (edge_by c)) (λ c. not (on_way (graph_of t) host c.id) || is_ready_edge (graph_of t) (edge_by c)) t.buffers (λ c there. ap (λ h. not h || is_ready_edge (graph_of t) (edge_by c)) (on c.id (buffer-listed c there)))
      ∙ sym (all-map (λ (e : Edge). not (on_way (graph_of t) host e.buffer) || is_ready_edge (graph_of t) e) edge_by t.buffers)
