-- What is seen is reached, and where nothing more is found all that is reached is seen.
use Rattle.std.proofs.Common.{◌≡◌, refl, sym, ap, subst, ◌∙◌, ℕ, zero, suc, ◌<◌, ◌≤◌, List, [], ◌∷◌, ◌++◌, length, length-append, get_or, Bool, true, false, not, ◌==◌, ◌&&◌, ◌||◌, ◌⊎◌, inl, inr, Option, Some, None, arith}
use Rattle.std.specs.Option.{option_map_or}
use Rattle.std.specs.List.{list_any, cons_option, IsDistinct}
use Rattle.std.proofs.lemmas.Bool.{false≢true, true≢false, eqb-true, eq-eqb, and_parts, and_from, not-true, not_from_false, or_left, or_right, or_cases, or_parts, cases_Bool}
use Rattle.std.proofs.lemmas.List.Folds.{list_any_at}
use Rattle.stream_law.specs.declared.graph.Edge.{Edge}
use Rattle.stream_law.specs.Ways.{is_end}
use Rattle.tplg_walks.specs.Cycles.{are_joined, EdgeWalk, Reaches}
use Rattle.stream_law.specs.Order.{is_among}
use Rattle.tplg_walks.specs.Reach.{IsFound, IsSaturated, AreSeen, sinks_of}
use Rattle.tplg_walks.proofs.Among.{push_cases, distinct-push, distinct-le}
use Rattle.tplg_walks.proofs.Among.{is_end-some}

-- an end that is the start, or seen
abbrev pub is_from : ℕ → List ℕ → Option ℕ → Bool
is_from from seen end = option_map_or (λ a. (a == from) || is_among seen a) end false

-- an end that is not seen
abbrev pub is_new : List ℕ → Option ℕ → Bool
is_new seen end = option_map_or (λ b. not (is_among seen b)) end false

-- an edge from the start or what is seen to what is not
abbrev pub leads_on : ℕ → List ℕ → Edge → Bool
leads_on from seen e = is_from from seen e.source && is_new seen e.sink

-- one more edge at the end of a walk
pub walk_end : (edges : List Edge) (n a c b : ℕ) → EdgeWalk edges n a c → are_joined edges c b ≡ true → EdgeWalk edges (suc n) a b
walk_end edges zero a c b w j = (b, ap (λ x. are_joined edges x b) w ∙ j, refl)
walk_end edges (suc n) a c b w j = (w.0, w.1, walk_end edges n w.0 c b w.2 j)

-- an end that is the start or seen, and one that is not seen
from-some : (from : ℕ) (seen : List ℕ) (o : Option ℕ) → is_from from seen o ≡ true → (a : ℕ) × (o ≡ Some a) × ((a ≡ from) ⊎ (is_among seen a ≡ true))
from-some from seen None h = absurd (false≢true h)
from-some from seen (Some a) h = (a, refl, by_case (or_cases (a == from) (is_among seen a) h))
  where
    by_case : ((a == from) ≡ true) ⊎ (is_among seen a ≡ true) → (a ≡ from) ⊎ (is_among seen a ≡ true)
    by_case (inl k) = inl (eqb-true a from k)
    by_case (inr k) = inr k

new-some : (seen : List ℕ) (o : Option ℕ) (b : ℕ) → o ≡ Some b → is_new seen o ≡ true → is_among seen b ≡ false
new-some seen o b e h = not-true (is_among seen b) (ap (is_new seen) (sym e) ∙ h)

-- an edge at a place that leads on
pub found_at : (edges : List Edge) (from : ℕ) (seen : List ℕ) (k : ℕ) (d : Edge) (b : ℕ) → k < length edges → is_from from seen (get_or edges k d).source ≡ true → is_new seen (get_or edges k d).sink ≡ true → (get_or edges k d).sink ≡ Some b → IsFound edges from seen b
found_at edges from seen k d b within f n e =
    let source = from-some from seen (get_or edges k d).source f in
    record {
      apart = new-some seen (get_or edges k d).sink b e n;
      source = source.0;
      behind = source.2;
      edge = list_any_at (λ x. is_end x.source source.0 && is_end x.sink b) edges k d within (and_from (is_end (get_or edges k d).source source.0) (is_end (get_or edges k d).sink b) (ap (λ o. is_end o source.0) source.1 ∙ eq-eqb source.0 source.0 refl) (ap (λ o. is_end o b) e ∙ eq-eqb b b refl));
    }

-- where no edge leads on, an edge from what is seen leads to what is seen
pub closed : (edges : List Edge) (from : ℕ) (seen : List ℕ) → list_any (leads_on from seen) edges ≡ false → IsSaturated edges from seen
closed [] from seen none a b behind j = absurd (false≢true j)
closed (e ∷ es) from seen none a b behind j =
    let parts = or_parts (leads_on from seen e) (list_any (leads_on from seen) es) none in
    by_first (or_cases (is_end e.source a && is_end e.sink b) (are_joined es a b) j) parts.0 (closed es from seen parts.1 a b behind)
  where
    is_from_here : (a ≡ from) ⊎ (is_among seen a ≡ true) → is_from from seen (Some a) ≡ true
    is_from_here (inl h) = or_left (a == from) (is_among seen a) (eq-eqb a from h)
    is_from_here (inr h) = or_right (a == from) (is_among seen a) h

    seen_already : (is_among seen b ≡ true) ⊎ (is_among seen b ≡ false) → is_end e.source a ≡ true → is_end e.sink b ≡ true → leads_on from seen e ≡ false → is_among seen b ≡ true
    seen_already (inl h) s t no_more = h
    seen_already (inr h) s t no_more = absurd (true≢false (sym (and_from (is_from from seen e.source) (is_new seen e.sink) (ap (is_from from seen) (is_end-some e.source a s) ∙ is_from_here behind) (ap (is_new seen) (is_end-some e.sink b t) ∙ not_from_false (is_among seen b) h)) ∙ no_more))

    by_first : ((is_end e.source a && is_end e.sink b) ≡ true) ⊎ (are_joined es a b ≡ true) → leads_on from seen e ≡ false → (are_joined es a b ≡ true → is_among seen b ≡ true) → is_among seen b ≡ true
    by_first (inr h) no_more rest = rest h
    by_first (inl h) no_more rest = let ends = and_parts (is_end e.source a) (is_end e.sink b) h in seen_already (cases_Bool (is_among seen b)) ends.0 ends.1 no_more

pub length-sinks_of : (edges : List Edge) → length (sinks_of edges) ≤ length edges
length-sinks_of [] = omega arith
length-sinks_of (e ∷ es) = by_sink e.sink (length-sinks_of es)
  where
    by_sink : (o : Option ℕ) → length (sinks_of es) ≤ length es → length (cons_option o (sinks_of es)) ≤ suc (length es)
    by_sink None low = omega arith
    by_sink (Some b) low = omega arith

joined-sink : (edges : List Edge) (a b : ℕ) → are_joined edges a b ≡ true → is_among (sinks_of edges) b ≡ true
joined-sink [] a b h = absurd (false≢true h)
joined-sink (e ∷ es) a b h = by_first (or_cases (is_end e.source a && is_end e.sink b) (are_joined es a b) h) (joined-sink es a b)
  where
    more : (o : Option ℕ) → is_among (sinks_of es) b ≡ true → is_among (cons_option o (sinks_of es)) b ≡ true
    more None k = k
    more (Some c) k = or_right (c == b) (is_among (sinks_of es) b) k

    by_first : ((is_end e.source a && is_end e.sink b) ≡ true) ⊎ (are_joined es a b ≡ true) → (are_joined es a b ≡ true → is_among (sinks_of es) b ≡ true) → is_among (cons_option e.sink (sinks_of es)) b ≡ true
    by_first (inl k) rest = ap (λ o. is_among (cons_option o (sinks_of es)) b) (is_end-some e.sink b (and_parts (is_end e.source a) (is_end e.sink b) k).1) ∙ or_left (b == b) (is_among (sinks_of es) b) (eq-eqb b b refl)
    by_first (inr k) rest = more e.sink (rest k)

pub Seen-none : (edges : List Edge) (from : ℕ) → AreSeen edges from []
unfolding IsDistinct
Seen-none edges from = record { distinct = tt; there = λ x h. absurd (false≢true h); reached = λ x h. absurd (false≢true h) }

pub Seen-more : (edges : List Edge) (from : ℕ) (seen : List ℕ) (b : ℕ) → IsFound edges from seen b → AreSeen edges from seen → AreSeen edges from (seen ++ b ∷ [])
Seen-more edges from seen b f s = record { distinct = distinct-push seen b s.distinct f.apart; there = λ x h. there x (push_cases seen b x h); reached = λ x h. reached x (push_cases seen b x h) }
  where
    there : (x : ℕ) → (is_among seen x ≡ true) ⊎ (b ≡ x) → is_among (sinks_of edges) x ≡ true
    there x (inl h) = s.there x h
    there x (inr h) = ap (is_among (sinks_of edges)) (sym h) ∙ joined-sink edges f.source b f.edge

    by_source : (f.source ≡ from) ⊎ (is_among seen f.source ≡ true) → Reaches edges from b
    by_source (inl h) = (0, (b, ap (λ a. are_joined edges a b) (sym h) ∙ f.edge, refl))
    by_source (inr h) = let w = s.reached f.source h in (suc w.0, walk_end edges (suc w.0) from f.source b w.1 f.edge)

    reached : (x : ℕ) → (is_among seen x ≡ true) ⊎ (b ≡ x) → Reaches edges from x
    reached x (inl h) = s.reached x h
    reached x (inr h) = let r = by_source f.behind in (r.0, subst (EdgeWalk edges (suc r.0) from) h r.1)

pub Seen-few : (edges : List Edge) (from : ℕ) (seen : List ℕ) → AreSeen edges from seen → length seen ≤ length edges
Seen-few edges from seen s = let few = distinct-le seen (sinks_of edges) s.distinct s.there in omega (arith, few, length-sinks_of edges)

-- before one more is found, there are fewer than the edges
pub Seen-room : (edges : List Edge) (from : ℕ) (seen : List ℕ) (b : ℕ) → IsFound edges from seen b → AreSeen edges from seen → length seen < length edges
Seen-room edges from seen b f s = omega (arith, Seen-few edges from (seen ++ b ∷ []) (Seen-more edges from seen b f s), length-append seen (b ∷ []))

all_seen : (edges : List Edge) (from : ℕ) (seen : List ℕ) → IsSaturated edges from seen → (n a b : ℕ) → (a ≡ from) ⊎ (is_among seen a ≡ true) → EdgeWalk edges (suc n) a b → is_among seen b ≡ true
all_seen edges from seen closed zero a b behind w = ap (is_among seen) (sym w.2) ∙ closed a w.0 behind w.1
all_seen edges from seen closed (suc n) a b behind w = all_seen edges from seen closed n w.0 b (inr (closed a w.0 behind w.1)) w.2

pub Seen-all : (edges : List Edge) (from : ℕ) (seen : List ℕ) → IsSaturated edges from seen → AreSeen edges from seen → (b : ℕ) → Reaches edges from b → is_among seen b ≡ true
Seen-all edges from seen closed s b r = all_seen edges from seen closed r.0 from b (inl refl) r.1
