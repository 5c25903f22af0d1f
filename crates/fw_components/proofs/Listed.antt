-- The ids and joins of a registry, for walks.
use Rattle.std.proofs.Common.{◌≡◌, refl, sym, ap, subst, ◌∙◌, ℕ, ◌+◌, ◌*◌, ◌≤◌, ◌<◌, List, [], ◌∷◌, ◌++◌, Bool, true, false, not, cond, length, map, ◌==◌, ◌&&◌, ◌||◌, inl, inr, ◌⊎◌, Option, Some, None, arith, length-append}
use Rattle.std.proofs.lemmas.Bool.{true≢false, false≢true, or_left, or_right, or_cases, or_parts, and_parts}
use Rattle.std.proofs.lemmas.List.{length-map}
use Rattle.std.proofs.lemmas.List.Folds.{list_any-append}
use Rattle.std.specs.Prelude.{position, unwrap_or, nat_lt, is_some}
use Rattle.std.specs.List.{AllByRecursion, list_any, position_or_len}
use Rattle.stream_law.specs.declared.graph.Join.{Join}
use Rattle.stream_law.proofs.Members.{in-all, in-each}
use Rattle.stream_law.specs.Order.{is_among}
use Rattle.fw_places.specs.Walks.{place_in, IsListed}
use Rattle.fw_places.proofs.Reaching.{at-place}
use Rattle.fw_units.specs.declared.component.Component.{Component}
use Rattle.fw_units.specs.Units.{source_by, sink_by, comp_by, edge_by}
use Rattle.fw_components.specs.Tables.{Tables, all_of, ids_of}
use Rattle.fw_units.specs.Changes.{has_id}
use Rattle.fw_components.specs.Kept.{IsKept, AreJoined, is_between, sides, side}

ids-map : (cs : List Component) (x : ℕ) → list_any (λ y. y == x) (map (λ (c : Component). c.id) cs) ≡ has_id cs x
ids-map [] x = refl
ids-map (c ∷ cs) x = ap (λ h. c.id == x || h) (ids-map cs x)

-- the ids of components and buffers
pub ids-are : (t : Tables) (ids : List ℕ) → ids ≡ map (λ c. c.id) t.comps ++ map (λ c. c.id) t.buffers → ids ≡ ids_of t
ids-are t ids is = is ∙ ap (λ (p : List ℕ × List ℕ). p.0 ++ p.1) (λ i. (comps-map t.comps i, buffers-map t.buffers i))
  where
    comps-map : (cs : List Component) → map (λ (c : Component). c.id) cs ≡ map (λ x. x.id) (map comp_by cs)
    comps-map [] = refl
    comps-map (c ∷ cs) = ap (λ xs. c.id ∷ xs) (comps-map cs)

    buffers-map : (cs : List Component) → map (λ (c : Component). c.id) cs ≡ map (λ e. e.buffer) (map edge_by cs)
    buffers-map [] = refl
    buffers-map (c ∷ cs) = ap (λ xs. c.id ∷ xs) (buffers-map cs)

-- an id is listed where it is a component's or a buffer's
pub listed-is : (t : Tables) (x : ℕ) → is_among (ids_of t) x ≡ (has_id t.comps x || has_id t.buffers x)
listed-is t x =
    ap (λ (ids : List ℕ). is_among ids x) (sym (ids-are t _ refl))
    ∙ list_any-append (λ y. y == x) (map (λ c. c.id) t.comps) (map (λ c. c.id) t.buffers)
    ∙ ap (λ (p : Bool × Bool). p.0 || p.1) (λ i. (ids-map t.comps x i, ids-map t.buffers x i))

-- joins between components and buffers are of ids that are listed
pub between-listed : (t : Tables) → AllByRecursion (λ j. is_between t.comps t.buffers j ≡ true) t.joins → AllByRecursion (IsListed (ids_of t)) t.joins
between-listed t between = in-each (IsListed (ids_of t)) t.joins (λ j there. by j (or_cases (has_id t.comps j.source && has_id t.buffers j.sink) (has_id t.buffers j.source && has_id t.comps j.sink) (in-all _ t.joins j between there)))
  where
    by : (j : Join) → ((has_id t.comps j.source && has_id t.buffers j.sink) ≡ true) ⊎ ((has_id t.buffers j.source && has_id t.comps j.sink) ≡ true) → IsListed (ids_of t) j
    by j (inl into) = let p = and_parts (has_id t.comps j.source) (has_id t.buffers j.sink) into in (listed-is t j.source ∙ or_left (has_id t.comps j.source) _ p.0, listed-is t j.sink ∙ or_right (has_id t.comps j.sink) _ p.1)
    by j (inr from) = let p = and_parts (has_id t.buffers j.source) (has_id t.comps j.sink) from in (listed-is t j.source ∙ or_right (has_id t.comps j.source) _ p.0, listed-is t j.sink ∙ or_left (has_id t.comps j.sink) _ p.1)

pub joins-listed : (t : Tables) → IsKept t → AllByRecursion (IsListed (ids_of t)) t.joins
joins-listed t kept = between-listed t kept.linked.between

sides-most : (cs : List Component) → sides cs ≤ 2 * length cs
sides-most [] = omega arith
sides-most (c ∷ cs) = omega (arith, one (source_by c.unit), one (sink_by c.unit), sides-most cs)
  where
    one : (o : Option ℕ) → side o ≤ 1
    one None = omega arith
    one (Some n) = omega arith

pub joins-few : (t : Tables) → IsKept t → length t.joins ≤ 256
joins-few t kept = omega (arith, kept.linked.all, sides-most t.buffers, kept.buffers)

ids-length : (t : Tables) → length (ids_of t) ≡ length t.comps + length t.buffers
ids-length t = let e = ap length (sym (ids-are t _ refl)) ∙ length-append (map (λ c. c.id) t.comps) (map (λ c. c.id) t.buffers) in let a = length-map t.comps (λ (c : Component). c.id) in let b = length-map t.buffers (λ (c : Component). c.id) in omega (arith, e, a, b)

pub ids-few : (t : Tables) → IsKept t → length (ids_of t) ≤ 256
ids-few t kept = omega (arith, ids-length t, kept.comps, kept.buffers)

pub are-joined : (t : Tables) → IsKept t → AreJoined t.comps t.buffers t.joins
are-joined t kept = record {
  few_comps = kept.comps;
  few_buffers = kept.buffers;
  few_joins = joins-few t kept;
  between = kept.linked.between;
  named = kept.named.comps;
  named_buffers = kept.named.buffers;
}

-- the same of equal lists
pub lists-joined : (t : Tables) → IsKept t → (comps buffers : List Component) (joins : List Join) → comps ≡ t.comps → buffers ≡ t.buffers → joins ≡ t.joins → AreJoined comps buffers joins
lists-joined t kept comps buffers joins ours theirs along = subst (λ (p : List Component × List Component × List Join). AreJoined p.0 p.1 p.2) (λ i. (sym ours i, sym theirs i, sym along i)) (are-joined t kept)

-- the tables of components, buffers and joins alone
abbrev pub joined : List Component → List Component → List Join → Tables
joined comps buffers joins = record { comps = comps; buffers = buffers; pipes = []; joins = joins }

-- ---- the place of an id among all

abbrev is_of : ℕ → Component → Bool
is_of id c = c.id == id

place-among : (id : ℕ) (cs ps : List Component) → has_id cs id ≡ true → position_or_len (is_of id) (cs ++ ps) ≡ place_in (map (λ c. c.id) cs) id
place-among id [] ps there = absurd (false≢true there)
place-among id (c ∷ cs) ps there = by (c.id == id) there (place-among id cs ps)
  where
    by : (h : Bool) → (h || has_id cs id) ≡ true → (has_id cs id ≡ true → position_or_len (is_of id) (cs ++ ps) ≡ place_in (map (λ c. c.id) cs) id) → cond (not h) (1 + position_or_len (is_of id) (cs ++ ps)) 0 ≡ cond (not h) (1 + place_in (map (λ c. c.id) cs) id) 0
    by true there rest = refl
    by false there rest = ap (λ n. 1 + n) (rest there)

place-behind : (id : ℕ) (cs bs ps : List Component) → (has_id cs id || has_id bs id) ≡ true → position_or_len (is_of id) (cs ++ (bs ++ ps)) ≡ place_in (map (λ c. c.id) cs ++ map (λ c. c.id) bs) id
place-behind id [] bs ps there = place-among id bs ps there
place-behind id (c ∷ cs) bs ps there = by (c.id == id) there (place-behind id cs bs ps)
  where
    by : (h : Bool) → ((h || has_id cs id) || has_id bs id) ≡ true → ((has_id cs id || has_id bs id) ≡ true → position_or_len (is_of id) (cs ++ (bs ++ ps)) ≡ place_in (map (λ c. c.id) cs ++ map (λ c. c.id) bs) id) → cond (not h) (1 + position_or_len (is_of id) (cs ++ (bs ++ ps))) 0 ≡ cond (not h) (1 + place_in (map (λ c. c.id) cs ++ map (λ c. c.id) bs) id) 0
    by true there rest = refl
    by false there rest = ap (λ n. 1 + n) (rest there)

position-is : (p : Component → Bool) (xs : List Component) (k : ℕ) → Some k ≡ position p xs → k ≡ position_or_len p xs
position-is p xs k is = by (nat_lt (position_or_len p xs) (length xs)) is
  where
    by : (h : Bool) → Some k ≡ cond h (Some (position_or_len p xs)) None → k ≡ position_or_len p xs
    by true is = ap (λ (o : Option ℕ). unwrap_or o 0) is
    by false is = absurd (true≢false (ap (λ (o : Option ℕ). is_some o) is))

-- a component or a buffer stands among all at the place of its id
pub place-of-all : (t : Tables) (id k : ℕ) → (has_id t.comps id || has_id t.buffers id) ≡ true → Some k ≡ position (λ c. c.id == id) (all_of t) → k ≡ place_in (ids_of t) id
place-of-all t id k there is = position-is (is_of id) (all_of t) k is ∙ place-behind id t.comps t.buffers t.pipes there ∙ ap (λ (xs : List ℕ). place_in xs id) (ids-are t _ refl)

pub place-low : (t : Tables) → IsKept t → (id k : ℕ) → (has_id t.comps id || has_id t.buffers id) ≡ true → k ≡ place_in (ids_of t) id → k < 256
place-low t kept id k there is = omega (arith, is, (at-place (ids_of t) id (listed-is t id ∙ there)).0, ids-few t kept)

none-before : (id : ℕ) (cs ds : List Component) → has_id cs id ≡ false → position_or_len (is_of id) (cs ++ ds) ≡ length cs + position_or_len (is_of id) ds
none-before id [] ds none = let e : position_or_len (is_of id) ds ≡ 0 + position_or_len (is_of id) ds = omega arith in e
none-before id (c ∷ cs) ds none = by (c.id == id) none (none-before id cs ds)
  where
    by : (h : Bool) → (h || has_id cs id) ≡ false → (has_id cs id ≡ false → position_or_len (is_of id) (cs ++ ds) ≡ length cs + position_or_len (is_of id) ds) → cond (not h) (1 + position_or_len (is_of id) (cs ++ ds)) 0 ≡ length (c ∷ cs) + position_or_len (is_of id) ds
    by true none rest = absurd (true≢false none)
    by false none rest = let e : 1 + position_or_len (is_of id) (cs ++ ds) ≡ length (c ∷ cs) + position_or_len (is_of id) ds = omega (arith, rest none) in e

-- what stands before the pipelines is listed, and nothing else is
pub listed-below : (t : Tables) (id k : ℕ) → Some k ≡ position (λ c. c.id == id) (all_of t) → k < length t.comps + length t.buffers → is_among (ids_of t) id ≡ true
listed-below t id k is low = listed-is t id ∙ by (has_id t.comps id || has_id t.buffers id) refl
  where
    by : (h : Bool) → (has_id t.comps id || has_id t.buffers id) ≡ h → h ≡ true
    by true there = refl
    by false none =
        let both = or_parts (has_id t.comps id) (has_id t.buffers id) none in
        absurd (omega (arith, low, position-is (is_of id) (all_of t) k is, none-before id t.comps (t.buffers ++ t.pipes) both.0, none-before id t.buffers t.pipes both.1))

pub unlisted-above : (t : Tables) (id k : ℕ) → Some k ≡ position (λ c. c.id == id) (all_of t) → length t.comps + length t.buffers ≤ k → is_among (ids_of t) id ≡ false
unlisted-above t id k is high = listed-is t id ∙ by (has_id t.comps id || has_id t.buffers id) refl
  where
    by : (h : Bool) → (has_id t.comps id || has_id t.buffers id) ≡ h → h ≡ false
    by true there = absurd (omega (arith, high, place-of-all t id k there is, (at-place (ids_of t) id (listed-is t id ∙ there)).0, ids-length t))
    by false none = refl

-- and it is found
pub found-among : (t : Tables) (id : ℕ) → (has_id t.comps id || has_id t.buffers id) ≡ true → has_id (all_of t) id ≡ true
found-among t id there = by (or_cases (has_id t.comps id) (has_id t.buffers id) there)
  where
    all : has_id (all_of t) id ≡ (has_id t.comps id || (has_id t.buffers id || has_id t.pipes id))
    all = list_any-append (is_of id) t.comps (t.buffers ++ t.pipes) ∙ ap (λ h. has_id t.comps id || h) (list_any-append (is_of id) t.buffers t.pipes)

    by : (has_id t.comps id ≡ true) ⊎ (has_id t.buffers id ≡ true) → has_id (all_of t) id ≡ true
    by (inl ours) = all ∙ or_left (has_id t.comps id) _ ours
    by (inr theirs) = all ∙ or_right (has_id t.comps id) _ (or_left (has_id t.buffers id) _ theirs)
