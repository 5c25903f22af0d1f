-- A heap of which one piece is given back.
use Rattle.std.proofs.Common.{◌≡◌, ◌∙◌, ℕ, ◌+◌, ◌≤◌, List, [], ◌∷◌, ◌++◌, map, filter, length, length-append, true, false, not, inl, inr, ◌⊎◌, ◌==◌, ◌||◌, arith}
use Rattle.std.proofs.lemmas.Bool.{or_left, or_right, or_cases}
use Rattle.std.proofs.lemmas.List.{length-map}
use Rattle.std.specs.List.{AllByRecursion}
use Rattle.stream_law.specs.declared.graph.Comp.{Comp}
use Rattle.stream_law.specs.declared.graph.Edge.{Edge}
use Rattle.stream_law.specs.declared.graph.Pipe.{Pipe}
use Rattle.stream_law.specs.declared.graph.Graph.{Graph}
use Rattle.stream_law.specs.State.{PieceView, HeapView}
use Rattle.stream_law.specs.Placed.{HasDistinct}
use Rattle.stream_law.specs.Ways.{components, buffers}
use Rattle.stream_law.specs.Order.{is_among}
use Rattle.mbox_link.specs.Step.{has_comp, has_edge, has_pipe, is_used, without_piece}
use Rattle.row_laws.specs.Kept.{ArePieces, has_piece}
use Rattle.row_laws.proofs.Growing.{all-by}
use Rattle.row_laws.proofs.Joined.{among-map}
use Rattle.row_laws.proofs.Fewer.{all-kept, among-append, distinct-filter, distinct-most, not-true, other-any}

-- the ids of a graph, with those of its pipelines
abbrev all_ids : Graph → List ℕ
all_ids g = components g ++ (buffers g ++ map (λ (p : Pipe). p.id) g.pipes)

used-among : (g : Graph) (n : ℕ) → is_used g n ≡ true → is_among (all_ids g) n ≡ true
used-among g n e = among-append (components g) (buffers g ++ map (λ (p : Pipe). p.id) g.pipes) n ∙ by (or_cases (has_comp g n || has_edge g n) (has_pipe g n) e)
  where
    edges-first : is_among (buffers g) n ≡ true → is_among (buffers g ++ map (λ (p : Pipe). p.id) g.pipes) n ≡ true
    edges-first there = among-append (buffers g) (map (λ (p : Pipe). p.id) g.pipes) n ∙ or_left (is_among (buffers g) n) _ there

    node : (has_comp g n ≡ true) ⊎ (has_edge g n ≡ true) → (is_among (components g) n || is_among (buffers g ++ map (λ (p : Pipe). p.id) g.pipes) n) ≡ true
    node (inl c) = or_left (is_among (components g) n) _ (among-map (λ (c : Comp). c.id) g.comps n c)
    node (inr b) = or_right (is_among (components g) n) _ (edges-first (among-map (λ (e : Edge). e.buffer) g.edges n b))

    by : ((has_comp g n || has_edge g n) ≡ true) ⊎ (has_pipe g n ≡ true) → (is_among (components g) n || is_among (buffers g ++ map (λ (p : Pipe). p.id) g.pipes) n) ≡ true
    by (inl first) = node (or_cases (has_comp g n) (has_edge g n) first)
    by (inr p) = or_right (is_among (components g) n) _ (among-append (buffers g) (map (λ (p : Pipe). p.id) g.pipes) n ∙ or_right (is_among (buffers g) n) _ (among-map (λ (p : Pipe). p.id) g.pipes n p))

length-ids : (g : Graph) → length (all_ids g) ≡ length g.comps + length g.edges + length g.pipes
length-ids g = omega (arith, length-append (components g) (buffers g ++ map (λ (p : Pipe). p.id) g.pipes), length-append (buffers g) (map (λ (p : Pipe). p.id) g.pipes), length-map g.comps (λ (c : Comp). c.id), length-map g.edges (λ (e : Edge). e.buffer), length-map g.pipes (λ (p : Pipe). p.id))

-- pieces of ids that name something, no id twice, are no more than there are components, buffers and pipelines
pieces-few : (g : Graph) (ps : List PieceView) → HasDistinct (λ p. p.id) ps → AllByRecursion (λ p. is_used g p.id ≡ true) ps → length ps ≤ length g.comps + length g.edges + length g.pipes
pieces-few g ps distinct named = omega (arith, distinct-most (map (λ (p : PieceView). p.id) ps) (all_ids g) distinct (each ps named), length-ids g, length-map ps (λ (p : PieceView). p.id))
  where
    each : (qs : List PieceView) → AllByRecursion (λ p. is_used g p.id ≡ true) qs → AllByRecursion (λ n. is_among (all_ids g) n ≡ true) (map (λ (p : PieceView). p.id) qs)
    each [] all = tt
    each (q ∷ qs) all = (used-among g q.id all.0, each qs all.1)

-- an id of another piece, and that piece
abbrev pub HasOther : ℕ → HeapView → ℕ → Type 0
HasOther id heap n = ((n == id) ≡ false) × (has_piece heap n ≡ true)

other-piece : (id : ℕ) (heap : HeapView) (n : ℕ) → HasOther id heap n → has_piece (without_piece id heap) n ≡ true
other-piece id heap n had = other-any (λ (p : PieceView). p.id) id n had.0 heap.pieces ∙ had.1

-- where all other ids name what they did, and the rest of the graph has other pieces
pub pieces-less : (id : ℕ) (g less : Graph) (heap : HeapView) → ArePieces g heap → HasDistinct (λ p. p.id) heap.pieces → ((n : ℕ) → (n == id) ≡ false → is_used g n ≡ true → is_used less n ≡ true) → AllByRecursion (λ c. HasOther id heap c.id) less.comps → AllByRecursion (λ e. HasOther id heap e.buffer) less.edges → AllByRecursion (λ p. HasOther id heap p.id) less.pipes → ArePieces less (without_piece id heap)
pieces-less id g less heap are distinct used comps edges pipes = record {
  few = pieces-few less (without_piece id heap).pieces (distinct-filter (λ (p : PieceView). p.id) (λ p. not (p.id == id)) heap.pieces distinct) named;
  named = named;
  comps = all-by (λ c. HasOther id heap c.id) (λ c. has_piece (without_piece id heap) c.id ≡ true) (λ c had. other-piece id heap c.id had) less.comps comps;
  edges = all-by (λ e. HasOther id heap e.buffer) (λ e. has_piece (without_piece id heap) e.buffer ≡ true) (λ e had. other-piece id heap e.buffer had) less.edges edges;
  pipes = all-by (λ p. HasOther id heap p.id) (λ p. has_piece (without_piece id heap) p.id ≡ true) (λ p had. other-piece id heap p.id had) less.pipes pipes;
}
  where
    named : AllByRecursion (λ p. is_used less p.id ≡ true) (filter (λ (p : PieceView). not (p.id == id)) heap.pieces)
    named = all-kept (λ (p : PieceView). not (p.id == id)) (λ p. is_used g p.id ≡ true) (λ p. is_used less p.id ≡ true) (λ p e is. used p.id (not-true (p.id == id) e) is) heap.pieces are.named
