-- How components wait for their turn in the order: as long as edges lead into them from components that are not placed.
use Rattle.std.specs.Prelude.{◌≡◌, ℕ, ◌-◌, ◌<◌, ◌+◌, List, [], ◌∷◌, length, slice_index, count_by, find, Bool, true, false, ◌&&◌, not, if◌then◌else◌, ◌==◌, nat_le, Option, Some, None}
use Rattle.std.specs.Option.{option_map_or}
use Rattle.stream_law.specs.declared.graph.Comp.{Comp}
use Rattle.stream_law.specs.declared.graph.Edge.{Edge}
use Rattle.stream_law.specs.declared.turns.Turn.{Turn}
use Rattle.stream_law.specs.Ways.{is_end}
use Rattle.stream_law.specs.Order.{is_among}

-- both ends are none, or one component
abbrev pub same_end : Option ℕ → Option ℕ → Bool
same_end None None = true
same_end (Some a) (Some b) = a == b
same_end _ _ = false

-- the edge that is found by the buffer of e has the ends of e
abbrev pub is_found : List Edge → Edge → Bool
is_found edges e = option_map_or (λ f. same_end f.source e.source && same_end f.sink e.sink)
    (find (λ f. f.buffer == e.buffer) edges) false

-- an end is a component that is not placed
abbrev pub is_open : List ℕ → Option ℕ → Bool
is_open placed end = option_map_or (λ a. not (is_among placed a)) end false

-- how many edges lead into c from components that are not placed
abbrev pub waits : List Edge → List ℕ → ℕ → ℕ
waits edges placed c = count_by (λ e. is_end e.sink c && (is_found edges e && is_open placed e.source)) edges

-- an edge leads from a
abbrev pub leads_from : List Edge → ℕ → Edge → Bool
leads_from edges a e = is_end e.source a && is_found edges e

-- a component at this end waits for one edge less
abbrev pub lowered : Option ℕ → Turn → Turn
lowered end t = if is_end end t.id then record { place = t.place; id = t.id; waits = t.waits - 1 } else t

-- a component waits no longer for those of these edges that lead from a
abbrev pub freed : List Edge → ℕ → List Edge → Turn → Turn
freed edges a those t = record {
  place = t.place;
  id = t.id;
  waits = t.waits - count_by (λ e. leads_from edges a e && is_end e.sink t.id) those;
}

-- the turns of components from a place on, before any is placed
abbrev pub turns_from : List Edge → ℕ → List Comp → List Turn
turns_from edges k [] = []
turns_from edges k (x ∷ xs) = record { place = k; id = x.id; waits = waits edges [] x.id } ∷ turns_from edges (k + 1) xs

-- the better of two turns: one that waits for nothing, of the lesser id
abbrev pub better : Option Turn → Turn → Option Turn
better best t = if t.waits == 0 then Some (option_map_or (λ (b : Turn). if nat_le b.id t.id then b else t) best t) else best

-- the best of these turns and one before them
abbrev pub best_of : Option Turn → List Turn → Option Turn
best_of best [] = best
best_of best (t ∷ ts) = best_of (better best t) ts

-- a turn is that of the component at its place, and waits for the edges from components that are not placed
pub record IsTurn (ids : List ℕ) (edges : List Edge) (placed : List ℕ) (t : Turn) : Type 0 where
  pub within : t.place < length ids
  pub there : slice_index ids t.place ≡ t.id
  pub waiting : t.waits ≡ waits edges placed t.id
