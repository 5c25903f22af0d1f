-- The sides of buffers that are joined.
use Rattle.std.proofs.Common.{◌≡◌, refl, ap, ◌∙◌, ℕ, ◌+◌, ◌*◌, ◌≤◌, zero, suc, List, [], ◌∷◌, length, map, filter, Some, None, Option, Bool, true, false, cond, ◌==◌, ◌&&◌, ◌||◌, arith}
use Rattle.std.proofs.lemmas.Bool.{false≢true, true≢false, eqb-true, and_parts, or_parts}
use Rattle.std.specs.Prelude.{option_and_then, find, is_some, nat_lt}
use Rattle.std.specs.List.{list_any}
use Rattle.stream_law.specs.declared.graph.Edge.{Edge}
use Rattle.stream_law.specs.declared.graph.Join.{Join}
use Rattle.stream_law.specs.declared.graph.Graph.{Graph}
use Rattle.stream_law.specs.Placed.{placed}
use Rattle.stream_law.specs.Ways.{leads, source_of, sink_of}
use Rattle.stream_law.specs.Joins.{joined_edge, would_cycle}
use Rattle.mbox_link.specs.Step.{has_comp, has_edge, leads_in, leads_out, is_joined, takes_join}
use Rattle.row_laws.specs.Wired.{side_count, sides_joined}

-- both sides of an edge
abbrev both : Edge → ℕ
both e = side_count e.source + side_count e.sink

side-most : (o : Option ℕ) → side_count o ≤ 1
side-most None = omega arith
side-most (Some end) = omega arith

side-none : (o : Option ℕ) → is_some o ≡ false → side_count o ≡ 0
side-none None e = refl
side-none (Some end) e = absurd (true≢false e)

-- no edge has more than two
pub sides-most : (edges : List Edge) → sides_joined edges ≤ 2 * length edges
sides-most [] = omega arith
sides-most (e ∷ edges) = omega (arith, side-most e.source, side-most e.sink, sides-most edges)

pub sides-placed : (key : Edge → ℕ) (e : Edge) (edges : List Edge) → sides_joined (placed key e edges) ≡ both e + sides_joined edges
sides-placed key e [] = refl
sides-placed key e (x ∷ edges) = by (nat_lt (key e) (key x)) (sides-placed key e edges)
  where
    by : (h : Bool) → sides_joined (placed key e edges) ≡ both e + sides_joined edges → sides_joined (cond h (e ∷ x ∷ edges) (x ∷ placed key e edges)) ≡ both e + (both x + sides_joined edges)
    by true rest = refl
    by false rest = omega (arith, rest)

-- an edge and a join, by whether the join comes from its buffer and whether it goes to it
abbrev at_side : Bool → Bool → Join → Edge → Edge
at_side from to j e =
    cond from (record { buffer = e.buffer; pipe = e.pipe; size = e.size; source = e.source; sink = Some j.sink })
    (cond to (record { buffer = e.buffer; pipe = e.pipe; size = e.size; source = Some j.source; sink = e.sink }) e)

no_fewer : (from to : Bool) (j : Join) (e : Edge) → both e ≤ both (at_side from to j e)
no_fewer true to j e = omega (arith, side-most e.sink)
no_fewer false true j e = omega (arith, side-most e.source)
no_fewer false false j e = omega arith

sides-no_fewer : (j : Join) (edges : List Edge) → sides_joined edges ≤ sides_joined (map (joined_edge j) edges)
sides-no_fewer j [] = omega arith
sides-no_fewer j (e ∷ edges) = let here : both e ≤ both (joined_edge j e) = no_fewer (e.buffer == j.source) (e.buffer == j.sink) j e in omega (arith, here, sides-no_fewer j edges)

-- a join at a side that was not joined makes one more
sides-gain : (j : Join) (pick : Edge → Option ℕ) (b : ℕ) → ((e : Edge) → (e.buffer == b) ≡ true → is_some (pick e) ≡ false → both e + 1 ≤ both (joined_edge j e)) → (edges : List Edge) → list_any (λ e. e.buffer == b) edges ≡ true → is_some (option_and_then pick (find (λ e. e.buffer == b) edges)) ≡ false → sides_joined edges + 1 ≤ sides_joined (map (joined_edge j) edges)
sides-gain j pick b gain [] there free = absurd (false≢true there)
sides-gain j pick b gain (e ∷ edges) there free = by (e.buffer == b) refl there free (sides-gain j pick b gain edges)
  where
    by : (h : Bool) → (e.buffer == b) ≡ h → (h || list_any (λ e. e.buffer == b) edges) ≡ true → is_some (option_and_then pick (cond h (Some e) (find (λ e. e.buffer == b) edges))) ≡ false → (list_any (λ e. e.buffer == b) edges ≡ true → is_some (option_and_then pick (find (λ e. e.buffer == b) edges)) ≡ false → sides_joined edges + 1 ≤ sides_joined (map (joined_edge j) edges)) → both e + sides_joined edges + 1 ≤ both (joined_edge j e) + sides_joined (map (joined_edge j) edges)
    by true is any none rest = omega (arith, gain e is none, sides-no_fewer j edges)
    by false is any none rest = let here : both e ≤ both (joined_edge j e) = no_fewer (e.buffer == j.source) (e.buffer == j.sink) j e in omega (arith, here, rest any none)

gain_source : (j : Join) → (j.sink == j.source) ≡ false → (e : Edge) → (e.buffer == j.sink) ≡ true → is_some e.source ≡ false → both e + 1 ≤ both (joined_edge j e)
gain_source j apart e is none =
    let same : e.buffer ≡ j.sink = eqb-true e.buffer j.sink is in
    let other : (e.buffer == j.source) ≡ false = ap (λ n. n == j.source) same ∙ apart in
    let made : joined_edge j e ≡ at_side false true j e = ap (λ (h : Bool × Bool). at_side h.0 h.1 j e) (λ i. (other i, is i)) in
    let now : both (joined_edge j e) ≡ both (at_side false true j e) = ap (λ x. both x) made in
    omega (arith, now, side-none e.source none)

gain_sink : (j : Join) (e : Edge) → (e.buffer == j.source) ≡ true → is_some e.sink ≡ false → both e + 1 ≤ both (joined_edge j e)
gain_sink j e is none =
    let made : joined_edge j e ≡ at_side true (e.buffer == j.sink) j e = ap (λ h. at_side h (e.buffer == j.sink) j e) is in
    let now : both (joined_edge j e) ≡ both (at_side true (e.buffer == j.sink) j e) = ap (λ x. both x) made in
    omega (arith, now, side-none e.sink none)

-- what is not reached is another id
leads-apart : (joins : List Join) (n a b : ℕ) → leads joins n a b ≡ false → (a == b) ≡ false
leads-apart joins zero a b e = e
leads-apart joins (suc n) a b e = (or_parts (a == b) (list_any (λ j. leads joins n j.sink b) (filter (λ j. j.source == a) joins)) e).0

-- where a component takes one more, at a side that is not joined and with no cycle, the join has a side of its own
pub side-of_its_own : (g : Graph) (j : Join) → is_joined g j.source j.sink ≡ false → takes_join g j.source j.sink ≡ true → would_cycle g j.source j.sink ≡ false → sides_joined g.edges + 1 ≤ sides_joined (map (joined_edge j) g.edges)
unfolding would_cycle
side-of_its_own g j free takes no_cycle = by (leads_in g j.source j.sink) refl (leads_out g j.source j.sink) refl parts.0 parts.1 _ _ takes
  where
    parts : ((leads_in g j.source j.sink && is_some (source_of g j.sink)) ≡ false) × ((leads_out g j.source j.sink && is_some (sink_of g j.source)) ≡ false)
    parts = or_parts (leads_in g j.source j.sink && is_some (source_of g j.sink)) (leads_out g j.source j.sink && is_some (sink_of g j.source)) free

    apart : (j.sink == j.source) ≡ false
    apart = leads-apart g.joins (length g.joins) j.sink j.source no_cycle

    by : (h : Bool) → leads_in g j.source j.sink ≡ h → (k : Bool) → leads_out g j.source j.sink ≡ k → (h && is_some (source_of g j.sink)) ≡ false → (k && is_some (sink_of g j.source)) ≡ false → (x y : Bool) → ((h && x) || (k && y)) ≡ true → sides_joined g.edges + 1 ≤ sides_joined (map (joined_edge j) g.edges)
    by true goes k out first second x y any = sides-gain j (λ e. e.source) j.sink (gain_source j apart) g.edges (and_parts (has_comp g j.source) (has_edge g j.sink) goes).1 first
    by false goes true out first second x y any = sides-gain j (λ e. e.sink) j.source (gain_sink j) g.edges (and_parts (has_edge g j.source) (has_comp g j.sink) out).0 second
    by false goes false out first second x y any = absurd (false≢true any)
