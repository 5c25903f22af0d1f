-- The places of edges are those of buffers.
use Rattle.std.proofs.Common.{◌≡◌, refl, sym, ap, ◌∙◌, subst, ℕ, zero, suc, ◌-◌, ◌<◌, List, [], ◌∷◌, ◌++◌, map, take, drop, length, get_or, Option, Some, Bool, false, cond, ◌==◌, arith}
use Rattle.std.proofs.lemmas.Bool.{eq-eqb}
use Rattle.std.proofs.lemmas.List.{get_or-map, length-map, map-append, take-map, drop-map}
use Rattle.std.specs.Prelude.{nat_eq, position, option_map, slice_get, slice_range}
use Rattle.std.specs.List.{IsDistinct}
use Rattle.stream_law.specs.Placed.{Ascends}
use Rattle.stream_law.proofs.Placing.{Ascends-distinct}
use Rattle.stream_law.specs.declared.graph.Comp.{Comp}
use Rattle.stream_law.specs.declared.graph.Edge.{Edge}
use Rattle.fw_units.specs.declared.component.Component.{Component}
use Rattle.fw_units.specs.Units.{comp_by, edge_by}
use Rattle.fw_units.proofs.Positions.{first, first-is}
use Rattle.fw_moves.specs.Moving.{AreAt}
use Rattle.fw_moves.proofs.PlaceLaws.{length-places, place-at}
use Rattle.fw_places.proofs.Marking.{all-at}
use Rattle.fw_components.specs.Tables.{Tables, view_by}
use Rattle.fw_schedule.specs.declared.steps.Ends.{Ends}
use Rattle.fw_schedule.specs.Schedules.{ArePlaces}

-- the first that passes, of what is read off each
first-of : {X Y : Type 0} (p : Y → Bool) (f : X → Y) (xs : List X) → first p (map f xs) ≡ first (λ x. p (f x)) xs
first-of p f [] = refl
first-of p f (x ∷ xs) = ap (λ o. cond (p (f x)) (Some 0) (option_map suc o)) (first-of p f xs)

pub position-of : {X Y : Type 0} (p : Y → Bool) (f : X → Y) (xs : List X) → position p (map f xs) ≡ position (λ x. p (f x)) xs
position-of p f xs = first-is p (map f xs) ∙ first-of p f xs ∙ sym (first-is (λ x. p (f x)) xs)

-- where keys ascend, one stands at the first place of its key
own-first : {X : Type 0} (key : X → ℕ) (xs : List X) (i : ℕ) (d : X) → IsDistinct nat_eq (map key xs) → i < length xs → first (λ x. key x == key (get_or xs i d)) xs ≡ Some i
unfolding IsDistinct
own-first key [] i d distinct low = absurd (omega (arith, low))
own-first key (x ∷ xs) zero d distinct low = ap (λ h. cond h (Some 0) (option_map suc (first (λ y. key y == key x) xs))) (eq-eqb (key x) (key x) refl)
own-first {X} key (x ∷ xs) (suc i) d distinct low =
    let under : i < length xs = omega (arith, low) in
    let y : X = get_or xs i d in
    let apart : (key x == key y) ≡ false = ap (λ n. key x == n) (sym (get_or-map key xs i d 0 under)) ∙ all-at (λ n. (key x == n) ≡ false) (map key xs) i 0 (omega (arith, under, length-map xs key)) distinct.0 in
    ap (λ h. cond h (Some 0) (option_map suc (first (λ z. key z == key y) xs))) apart ∙ ap (option_map suc) (own-first key xs i d distinct.1 under)

pub own-place : {X : Type 0} (key : X → ℕ) (xs : List X) (i : ℕ) (d : X) → Ascends key xs → i < length xs → d ≡ get_or xs i d → Some i ≡ position (λ x. key x == key d) xs
own-place key xs i d up low is =
    sym (own-first key xs i d (Ascends-distinct key xs up) low)
    ∙ ap (λ y. first (λ x. key x == key y) xs) (sym is)
    ∙ sym (first-is (λ x. key x == key d) xs)

-- the place of a component, by its id alone
pub comp-place : (comps : List Comp) (id : ℕ) → position (λ x. x.id == id) comps ≡ position (λ n. n == id) (map (λ (x : Comp). x.id) comps)
comp-place comps id = sym (position-of (λ n. n == id) (λ (x : Comp). x.id) comps)

-- and in the table
pub place-of-comp : (cs : List Component) (id : ℕ) → position (λ x. x.id == id) (map comp_by cs) ≡ position (λ c. c.id == id) cs
place-of-comp cs id = position-of (λ (x : Comp). x.id == id) comp_by cs

-- the places of all ends, in the table
pub ends-at : (t : Tables) (ends : Ends) → ArePlaces (view_by t) ends → AreAt t.buffers ends.ids.items ends.places.items
ends-at t ends are = are ∙ each ends.ids.items
  where
    each : (ids : List ℕ) → map (λ b. position (λ e. e.buffer == b) (map edge_by t.buffers)) ids ≡ map (λ b. position (λ c. c.id == b) t.buffers) ids
    each [] = refl
    each (b ∷ ids) = λ i. position-of (λ (e : Edge). e.buffer == b) edge_by t.buffers i ∷ each ids i

-- one more, and where it stands
pub placed-more : (at : ℕ → Option ℕ) (ids places ids' places' : List ℕ) (id place : ℕ) → map (λ k. Some k) places ≡ map at ids → ids' ≡ ids ++ id ∷ [] → places' ≡ places ++ place ∷ [] → Some place ≡ at id → map (λ k. Some k) places' ≡ map at ids'
placed-more at ids places ids' places' id place are more further is =
    ap (map (λ (k : ℕ). Some k)) further
    ∙ map-append (λ (k : ℕ). Some k) places (place ∷ [])
    ∙ (λ i. are i ++ is i ∷ [])
    ∙ sym (map-append at ids (id ∷ []))
    ∙ sym (ap (map at) more)

-- that of a buffer, among edges
pub edge-place : (t : Tables) (i : ℕ) (d : Component) → Ascends (λ c. c.id) t.buffers → i < length t.buffers → d ≡ get_or t.buffers i d → Some i ≡ position (λ e. e.buffer == d.id) (map edge_by t.buffers)
edge-place t i d up low is = own-place (λ (c : Component). c.id) t.buffers i d up low is ∙ sym (position-of (λ (e : Edge). e.buffer == d.id) edge_by t.buffers)

-- that of a component, in the graph
pub graph-place : (cs : List Component) (i : ℕ) (d : Component) → Ascends (λ c. c.id) cs → i < length cs → d ≡ get_or cs i d → Some i ≡ position (λ x. x.id == d.id) (map comp_by cs)
graph-place cs i d up low is = own-place (λ (c : Component). c.id) cs i d up low is ∙ sym (place-of-comp cs d.id)

-- those of some of them
at-taken : (cs : List Component) (ids places : List ℕ) (n : ℕ) → AreAt cs ids places → AreAt cs (take n ids) (take n places)
at-taken cs ids places n are = sym (take-map (λ (at : ℕ). Some at) n places) ∙ ap (take n) are ∙ take-map (λ (b : ℕ). position (λ c. c.id == b) cs) n ids

at-dropped : (cs : List Component) (ids places : List ℕ) (n : ℕ) → AreAt cs ids places → AreAt cs (drop n ids) (drop n places)
at-dropped cs ids places n are = sym (drop-map (λ (at : ℕ). Some at) n places) ∙ ap (drop n) are ∙ drop-map (λ (b : ℕ). position (λ c. c.id == b) cs) n ids

pub range-at : (cs : List Component) (ids places : List ℕ) (from to : ℕ) → AreAt cs ids places → AreAt cs (slice_range ids from to) (slice_range places from to)
range-at cs ids places from to are = at-taken cs (drop from ids) (drop from places) (to - from) (at-dropped cs ids places from are)

pub some-at : (t : Tables) (ends : Ends) (from to : ℕ) (ids places : List ℕ) → ArePlaces (view_by t) ends → ids ≡ slice_range ends.ids.items from to → places ≡ slice_range ends.places.items from to → AreAt t.buffers ids places
some-at t ends from to ids places are is at =
    subst (λ (p : List ℕ × List ℕ). AreAt t.buffers p.0 p.1) (λ i. (sym is i, sym at i)) (range-at t.buffers ends.ids.items ends.places.items from to (ends-at t ends are))

-- as many as there are ends
pub length-all : (t : Tables) (ends : Ends) → ArePlaces (view_by t) ends → length ends.places.items ≡ length ends.ids.items
length-all t ends are = length-places t.buffers ends.ids.items ends.places.items (ends-at t ends are)

-- the first of them
pub place-first : (cs : List Component) (ids places : List ℕ) (b : ℕ) → AreAt cs ids places → slice_get ids 0 ≡ Some b → Some (get_or places 0 0) ≡ position (λ c. c.id == b) cs
place-first cs [] places b are is = absurd (cc is)
place-first cs (x ∷ ids) places b are is =
    let same : x ≡ b = cc is in
    place-at cs (x ∷ ids) places 0 are (omega arith) ∙ ap (λ n. position (λ (c : Component). c.id == n) cs) same

pub first-some : (cs : List Component) (ids places : List ℕ) (b : ℕ) → AreAt cs ids places → slice_get ids 0 ≡ Some b → 0 < length places
first-some cs [] places b are is = absurd (cc is)
first-some cs (x ∷ ids) places b are is = omega (arith, length-places cs (x ∷ ids) places are)
