-- Ends that are components, by the records of edges and by their buffers.
use Rattle.std.proofs.Common.{◌≡◌, refl, sym, ap, subst, ◌∙◌, ℕ, List, [], ◌∷◌, map, find, Bool, true, false, cond, ◌&&◌, ◌==◌, Option, Some, None, option_and_then, ◌⊎◌, inl, inr}
use Rattle.std.specs.Option.{option_map_or}
use Rattle.std.specs.List.{list_all}
use Rattle.std.proofs.lemmas.Bool.{false≢true, and_parts, or_cases}
use Rattle.stream_law.specs.declared.graph.Comp.{Comp}
use Rattle.stream_law.specs.declared.graph.Edge.{Edge}
use Rattle.stream_law.specs.declared.graph.Graph.{Graph}
use Rattle.stream_law.specs.Ways.{is_end, components, source_of, sink_of}
use Rattle.stream_law.specs.Order.{is_among}
use Rattle.tplg_walks.specs.Cycles.{are_joined}
use Rattle.tplg_walks.proofs.Among.{is_end-some}

abbrev pub ids_of : List Comp → List ℕ
ids_of comps = map (λ c. c.id) comps

-- an end, where it is there, is one of these
abbrev pub is_known : List ℕ → Option ℕ → Bool
is_known ids end = option_map_or (is_among ids) end true

abbrev pub are_known : List ℕ → List Edge → Bool
are_known ids edges = list_all (λ e. is_known ids e.source && is_known ids e.sink) edges

-- the edge of a buffer has known ends
of-buffer : (ids : List ℕ) (edges : List Edge) (buffer : ℕ) (e : Edge) → are_known ids edges ≡ true → find (λ e. e.buffer == buffer) edges ≡ Some e → (is_known ids e.source ≡ true) × (is_known ids e.sink ≡ true)
of-buffer ids [] buffer e all h = cc
of-buffer ids (x ∷ xs) buffer e all h = by_test (x.buffer == buffer) h (and_parts (is_known ids x.source && is_known ids x.sink) (are_known ids xs) all) (of-buffer ids xs buffer e)
  where
    by_test : (b : Bool) → cond b (Some x) (find (λ e. e.buffer == buffer) xs) ≡ Some e → ((is_known ids x.source && is_known ids x.sink) ≡ true) × (are_known ids xs ≡ true) → (are_known ids xs ≡ true → find (λ e. e.buffer == buffer) xs ≡ Some e → (is_known ids e.source ≡ true) × (is_known ids e.sink ≡ true)) → (is_known ids e.source ≡ true) × (is_known ids e.sink ≡ true)
    by_test true f parts rest = let same : x ≡ e = cc in subst (λ y. (is_known ids y.source ≡ true) × (is_known ids y.sink ≡ true)) same (and_parts (is_known ids x.source) (is_known ids x.sink) parts.0)
    by_test false f parts rest = rest parts.1 f

pub known-source : (g : Graph) (buffer a : ℕ) → are_known (components g) g.edges ≡ true → source_of g buffer ≡ Some a → is_among (components g) a ≡ true
known-source g buffer a all h = by_edge (find (λ e. e.buffer == buffer) g.edges) refl h
  where
    by_edge : (o : Option Edge) → find (λ e. e.buffer == buffer) g.edges ≡ o → option_and_then (λ e. e.source) o ≡ Some a → is_among (components g) a ≡ true
    by_edge None e f = cc
    by_edge (Some x) e f = ap (is_known (components g)) (sym f) ∙ (of-buffer (components g) g.edges buffer x all e).0

pub known-sink : (g : Graph) (buffer a : ℕ) → are_known (components g) g.edges ≡ true → sink_of g buffer ≡ Some a → is_among (components g) a ≡ true
known-sink g buffer a all h = by_edge (find (λ e. e.buffer == buffer) g.edges) refl h
  where
    by_edge : (o : Option Edge) → find (λ e. e.buffer == buffer) g.edges ≡ o → option_and_then (λ e. e.sink) o ≡ Some a → is_among (components g) a ≡ true
    by_edge None e f = cc
    by_edge (Some x) e f = ap (is_known (components g)) (sym f) ∙ (of-buffer (components g) g.edges buffer x all e).1

-- where an edge leads from a component, it is known
pub joined-source : (ids : List ℕ) (edges : List Edge) (a c : ℕ) → are_known ids edges ≡ true → are_joined edges a c ≡ true → is_among ids a ≡ true
joined-source ids [] a c all h = absurd (false≢true h)
joined-source ids (e ∷ es) a c all h =
    let parts = and_parts (is_known ids e.source && is_known ids e.sink) (are_known ids es) all in
    by_first (or_cases (is_end e.source a && is_end e.sink c) (are_joined es a c) h) (and_parts (is_known ids e.source) (is_known ids e.sink) parts.0).0 (joined-source ids es a c parts.1)
  where
    by_first : ((is_end e.source a && is_end e.sink c) ≡ true) ⊎ (are_joined es a c ≡ true) → is_known ids e.source ≡ true → (are_joined es a c ≡ true → is_among ids a ≡ true) → is_among ids a ≡ true
    by_first (inr k) known rest = rest k
    by_first (inl k) known rest = ap (is_known ids) (sym (is_end-some e.source a (and_parts (is_end e.source a) (is_end e.sink c) k).0)) ∙ known
