-- A walk along a graph's edges, each named by its buffer, is one along the list of its edges.
use Rattle.std.proofs.Common.{◌≡◌, refl, ap, ◌∙◌, ℕ, zero, suc, List, [], ◌∷◌, Bool, true, false, cond, ◌==◌, ◌&&◌, Option, Some, find}
use Rattle.std.specs.Prelude.{option_and_then}
use Rattle.std.proofs.lemmas.Bool.{eq-eqb, and_from, or_left, or_right}
use Rattle.stream_law.specs.declared.graph.Edge.{Edge}
use Rattle.stream_law.specs.declared.graph.Graph.{Graph}
use Rattle.stream_law.specs.Ways.{is_end}
use Rattle.stream_law.specs.Walks as law
use Rattle.tplg_walks.specs.Cycles.{are_joined, EdgeWalk}

end_at : (o : Option ℕ) (c : ℕ) → o ≡ Some c → is_end o c ≡ true
end_at o c e = ap (λ x. is_end x c) e ∙ eq-eqb c c refl

pub edge-joined : (es : List Edge) (buffer a c : ℕ) → option_and_then (λ e. e.source) (find (λ e. e.buffer == buffer) es) ≡ Some a → option_and_then (λ e. e.sink) (find (λ e. e.buffer == buffer) es) ≡ Some c → are_joined es a c ≡ true
edge-joined [] buffer a c s t = absurd (cc s)
edge-joined (e ∷ es) buffer a c s t = by_test (e.buffer == buffer) s t (λ k l. edge-joined es buffer a c k l)
  where
    by_test : (here : Bool) → option_and_then (λ e. e.source) (cond here (Some e) (find (λ e. e.buffer == buffer) es)) ≡ Some a → option_and_then (λ e. e.sink) (cond here (Some e) (find (λ e. e.buffer == buffer) es)) ≡ Some c → (option_and_then (λ e. e.source) (find (λ e. e.buffer == buffer) es) ≡ Some a → option_and_then (λ e. e.sink) (find (λ e. e.buffer == buffer) es) ≡ Some c → are_joined es a c ≡ true) → are_joined (e ∷ es) a c ≡ true
    by_test true s t rest = or_left (is_end e.source a && is_end e.sink c) (are_joined es a c) (and_from (is_end e.source a) (is_end e.sink c) (end_at e.source a s) (end_at e.sink c t))
    by_test false s t rest = or_right (is_end e.source a && is_end e.sink c) (are_joined es a c) (rest s t)

pub walk-joined : (g : Graph) (n a b : ℕ) → law.Walk g n a b → EdgeWalk g.edges n a b
walk-joined g zero a b w = w
walk-joined g (suc n) a b w = (w.0, edge-joined g.edges w.1.buffer a w.0 w.1.source w.1.sink, walk-joined g n w.0 b w.2)
