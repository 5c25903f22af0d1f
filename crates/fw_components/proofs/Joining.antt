-- One more join, at a side of a buffer that was not joined.
use Rattle.std.proofs.Common.{◌≡◌, refl, sym, ap, ◌∙◌, subst, ℕ, ◌+◌, ◌≤◌, List, [], ◌∷◌, ◌++◌, map, filter, length, Bool, true, false, cond, inl, inr, ◌⊎◌, ◌==◌, ◌&&◌, ◌||◌, Option, Some, None, arith}
use Rattle.std.proofs.lemmas.Bool.{true≢false, false≢true, false_from_ne_true, eqb-true, or_cases, or_left, or_right, and_parts, and_from}
use Rattle.std.proofs.lemmas.List.{length-append}
use Rattle.std.specs.Prelude.{is_none}
use Rattle.std.specs.List.{list_any, AllByRecursion}
use Rattle.stream_law.specs.declared.graph.Join.{Join}
use Rattle.fw_units.specs.declared.component.Component.{Component}
use Rattle.fw_units.specs.declared.component.Unit as units
use Rattle.fw_units.specs.declared.component.Unit.TheVariants.{Buffer}
use Rattle.fw_units.specs.Units.{is_buffer, source_by, sink_by}
use Rattle.mbox_link.specs.Step.{touches}
use Rattle.fw_units.specs.Changes.{has_id, joined_at, sourced_unit, sunk_unit}
use Rattle.fw_components.specs.Changes.{has_free_source, has_free_sink}
use Rattle.fw_components.specs.Kept.{AreIdsApart, side, sides_by, sides, joins_at, is_between, IsLinked, IsBuffering}
use Rattle.fw_units.proofs.Ids.{all-with, has-map, other-way}
use Rattle.fw_components.proofs.Linked.{between-all}

-- ---- one buffer

side-most : (o : Option ℕ) → side o ≤ 1
side-most None = omega arith
side-most (Some end) = omega arith

side-none : (o : Option ℕ) → is_none o ≡ true → side o ≡ 0
side-none None e = refl
side-none (Some end) e = absurd (false≢true e)

-- a set side is at most one more
sunk-most : (id : ℕ) (u : units.Unit) → sides_by (sunk_unit id u) ≤ sides_by u + 1
sunk-most id (Buffer size ring source sink) = omega arith
sunk-most id u = omega arith

sourced-most : (id : ℕ) (u : units.Unit) → sides_by (sourced_unit id u) ≤ sides_by u + 1
sourced-most id (Buffer size ring source sink) = omega arith
sourced-most id u = omega arith

-- none is lost
sunk-least : (id : ℕ) (u : units.Unit) → sides_by u ≤ sides_by (sunk_unit id u)
sunk-least id (Buffer size ring source sink) = omega (arith, side-most sink)
sunk-least id u = omega arith

sourced-least : (id : ℕ) (u : units.Unit) → sides_by u ≤ sides_by (sourced_unit id u)
sourced-least id (Buffer size ring source sink) = omega (arith, side-most source)
sourced-least id u = omega arith

-- a free side of a buffer is gained
sunk-gain : (id : ℕ) (u : units.Unit) → is_buffer u ≡ true → is_none (sink_by u) ≡ true → sides_by u + 1 ≤ sides_by (sunk_unit id u)
sunk-gain id (Buffer size ring source sink) e free = omega (arith, side-none sink free)
sunk-gain id u e free = absurd (false≢true e)

sourced-gain : (id : ℕ) (u : units.Unit) → is_buffer u ≡ true → is_none (source_by u) ≡ true → sides_by u + 1 ≤ sides_by (sourced_unit id u)
sourced-gain id (Buffer size ring source sink) e free = omega (arith, side-none source free)
sourced-gain id u e free = absurd (false≢true e)

-- a join at a component, by where it is at it
abbrev pub joined_by : Bool → Bool → Join → Component → Component
joined_by from to j c =
    cond from (record { id = c.id; pipe = c.pipe; channels = c.channels; unit = sunk_unit j.sink c.unit })
    (cond to (record { id = c.id; pipe = c.pipe; channels = c.channels; unit = sourced_unit j.source c.unit }) c)

module _ (j : Join) where
  pub joined-id : (c : Component) → (joined_at j c).id ≡ c.id
  joined-id c = by (c.id == j.source) (c.id == j.sink)
    where
      by : (h k : Bool) → (joined_by h k j c).id ≡ c.id
      by true k = refl
      by false true = refl
      by false false = refl

  joined-least : (c : Component) → sides_by c.unit ≤ sides_by (joined_at j c).unit
  joined-least c = by (c.id == j.source) (c.id == j.sink)
    where
      by : (h k : Bool) → sides_by c.unit ≤ sides_by (joined_by h k j c).unit
      by true k = sunk-least j.sink c.unit
      by false true = sourced-least j.source c.unit
      by false false = omega arith

  -- whether it is at an id, as a number
  one_at : ℕ → ℕ
  one_at id = cond (touches id j) 1 0

  turned : (a b : ℕ) → (a == b) ≡ (b == a)
  turned a b = by (a == b) refl (b == a) refl
    where
      by : (h : Bool) → (a == b) ≡ h → (k : Bool) → (b == a) ≡ k → h ≡ k
      by true e true f = refl
      by false e false f = refl
      by true e false f = absurd (true≢false (sym e ∙ other-way b a f))
      by false e true f = absurd (true≢false (sym f ∙ other-way a b e))

  joined-most : (c : Component) → sides_by (joined_at j c).unit ≤ sides_by c.unit + one_at c.id
  unfolding one_at
  joined-most c = subst (λ (p : Bool × Bool). sides_by (joined_by p.0 p.1 j c).unit ≤ sides_by c.unit + one_at c.id) (λ i. (turned j.source c.id i, turned j.sink c.id i)) (by (j.source == c.id) (j.sink == c.id))
    where
      by : (h k : Bool) → sides_by (joined_by h k j c).unit ≤ sides_by c.unit + cond (h || k) 1 0
      by true k = sunk-most j.sink c.unit
      by false true = sourced-most j.source c.unit
      by false false = omega arith

  joins-more : (id : ℕ) (joins : List Join) → joins_at id (joins ++ j ∷ []) ≡ joins_at id joins + one_at id
  unfolding one_at
  joins-more id [] = by (touches id j)
    where
      by : (h : Bool) → length (cond {A = List Join} h (j ∷ []) []) ≡ 0 + cond h 1 0
      by true = refl
      by false = refl
  joins-more id (k ∷ joins) = by (touches id k) (joins-more id joins)
    where
      by : (h : Bool) → joins_at id (joins ++ j ∷ []) ≡ joins_at id joins + one_at id → length (cond h (k ∷ filter (touches id) (joins ++ j ∷ [])) (filter (touches id) (joins ++ j ∷ []))) ≡ length (cond h (k ∷ filter (touches id) joins) (filter (touches id) joins)) + one_at id
      by true rest = omega (arith, rest)
      by false rest = rest

  each-more : (joins : List Join) (bs : List Component) → AllByRecursion (λ c. sides_by c.unit ≤ joins_at c.id joins) bs → AllByRecursion (λ c. sides_by c.unit ≤ joins_at c.id (joins ++ j ∷ [])) (map (joined_at j) bs)
  each-more joins [] all = tt
  each-more joins (b ∷ bs) all =
      let here : sides_by (joined_at j b).unit ≤ joins_at b.id (joins ++ j ∷ []) = omega (arith, joined-most b, joins-more b.id joins, all.0) in
      (subst (λ n. sides_by (joined_at j b).unit ≤ joins_at n (joins ++ j ∷ [])) (sym (joined-id b)) here, each-more joins bs all.1)

  sides-least : (bs : List Component) → sides bs ≤ sides (map (joined_at j) bs)
  sides-least [] = omega arith
  sides-least (b ∷ bs) = omega (arith, joined-least b, sides-least bs)

  -- where one gains a side
  sides-gain : (P : Component → Type 0) (p : Component → Bool) → ((c : Component) → P c → p c ≡ true → sides_by c.unit + 1 ≤ sides_by (joined_at j c).unit) → (bs : List Component) → AllByRecursion P bs → list_any p bs ≡ true → sides bs + 1 ≤ sides (map (joined_at j) bs)
  sides-gain P p gain [] all any = absurd (false≢true any)
  sides-gain P p gain (b ∷ bs) all any = by (p b) refl any (sides-gain P p gain bs all.1)
    where
      by : (h : Bool) → p b ≡ h → (h || list_any p bs) ≡ true → (list_any p bs ≡ true → sides bs + 1 ≤ sides (map (joined_at j) bs)) → sides_by b.unit + sides bs + 1 ≤ sides_by (joined_at j b).unit + sides (map (joined_at j) bs)
      by true is any rest = let here : sides_by b.unit + 1 ≤ sides_by (joined_at j b).unit = gain b all.0 is in omega (arith, here, sides-least bs)
      by false is any rest = omega (arith, joined-least b, rest any)

  -- what is so of a buffer apart from components
  abbrev IsApart : List Component → Component → Type 0
  IsApart cs c = (has_id cs c.id ≡ false) × (is_buffer c.unit ≡ true)

  sink-gain : (cs : List Component) (c : Component) → IsApart cs c → (c.id == j.source && is_none (sink_by c.unit)) ≡ true → sides_by c.unit + 1 ≤ sides_by (joined_at j c).unit
  sink-gain cs c apart is =
      let parts = and_parts (c.id == j.source) (is_none (sink_by c.unit)) is in
      subst (λ h. sides_by c.unit + 1 ≤ sides_by (joined_by h (c.id == j.sink) j c).unit) (sym parts.0) (sunk-gain j.sink c.unit apart.1 parts.1)

  source-gain : (cs : List Component) → has_id cs j.source ≡ true → (c : Component) → IsApart cs c → (c.id == j.sink && is_none (source_by c.unit)) ≡ true → sides_by c.unit + 1 ≤ sides_by (joined_at j c).unit
  source-gain cs there c apart is =
      let parts = and_parts (c.id == j.sink) (is_none (source_by c.unit)) is in
      let other : (c.id == j.source) ≡ false = false_from_ne_true (c.id == j.source) (λ e. true≢false (sym there ∙ ap (has_id cs) (sym (eqb-true c.id j.source e)) ∙ apart.0)) in
      subst (λ (p : Bool × Bool). sides_by c.unit + 1 ≤ sides_by (joined_by p.0 p.1 j c).unit) (λ i. (sym other i, sym parts.0 i)) (sourced-gain j.source c.unit apart.1 parts.1)

  has-free : (q : Component → Bool) (id : ℕ) (bs : List Component) → list_any (λ c. c.id == id && q c) bs ≡ true → has_id bs id ≡ true
  has-free q id [] e = e
  has-free q id (b ∷ bs) e = by (or_cases (b.id == id && q b) (list_any (λ c. c.id == id && q c) bs) e) (has-free q id bs)
    where
      by : ((b.id == id && q b) ≡ true) ⊎ (list_any (λ c. c.id == id && q c) bs ≡ true) → (list_any (λ c. c.id == id && q c) bs ≡ true → has_id bs id ≡ true) → (b.id == id || has_id bs id) ≡ true
      by (inl e) rest = or_left (b.id == id) (has_id bs id) (and_parts (b.id == id) (q b) e).0
      by (inr e) rest = or_right (b.id == id) (has_id bs id) (rest e)

  all-end : (P : Join → Type 0) (joins : List Join) → AllByRecursion P joins → P j → AllByRecursion P (joins ++ j ∷ [])
  all-end P [] all one = (one, tt)
  all-end P (k ∷ joins) all one = (all.0, all-end P joins all.1 one)

  module _ (cs bs : List Component) (joins : List Join) (buffering : AllByRecursion (λ c. IsBuffering c.unit) bs) (apart : AreIdsApart cs bs) where
    all-apart : AllByRecursion (IsApart cs) bs
    all-apart = all-with (λ (c : Component). has_id cs c.id ≡ false) (λ c. IsBuffering c.unit) (IsApart cs) (λ c a b. (a, b.0)) bs apart buffering

    abbrev can : Type 0
    can = ((has_id cs j.source && has_free_source bs j.sink) || (has_free_sink bs j.source && has_id cs j.sink)) ≡ true

    pub one-more : can → sides bs + 1 ≤ sides (map (joined_at j) bs)
    one-more is = by (or_cases (has_id cs j.source && has_free_source bs j.sink) (has_free_sink bs j.source && has_id cs j.sink) is)
      where
        by : ((has_id cs j.source && has_free_source bs j.sink) ≡ true) ⊎ ((has_free_sink bs j.source && has_id cs j.sink) ≡ true) → sides bs + 1 ≤ sides (map (joined_at j) bs)
        by (inl e) = let p = and_parts (has_id cs j.source) (has_free_source bs j.sink) e in sides-gain (IsApart cs) (λ c. c.id == j.sink && is_none (source_by c.unit)) (source-gain cs p.0) bs all-apart p.1
        by (inr e) = let p = and_parts (has_free_sink bs j.source) (has_id cs j.sink) e in sides-gain (IsApart cs) (λ c. c.id == j.source && is_none (sink_by c.unit)) (sink-gain cs) bs all-apart p.0

    between-now : can → is_between cs (map (joined_at j) bs) j ≡ true
    between-now is = by (or_cases (has_id cs j.source && has_free_source bs j.sink) (has_free_sink bs j.source && has_id cs j.sink) is)
      where
        now : (id : ℕ) → has_id bs id ≡ true → has_id (map (joined_at j) bs) id ≡ true
        now id e = has-map (joined_at j) joined-id id bs ∙ e

        by : ((has_id cs j.source && has_free_source bs j.sink) ≡ true) ⊎ ((has_free_sink bs j.source && has_id cs j.sink) ≡ true) → is_between cs (map (joined_at j) bs) j ≡ true
        by (inl e) =
            let p = and_parts (has_id cs j.source) (has_free_source bs j.sink) e in
            or_left (has_id cs j.source && has_id (map (joined_at j) bs) j.sink) (has_id (map (joined_at j) bs) j.source && has_id cs j.sink) (and_from (has_id cs j.source) (has_id (map (joined_at j) bs) j.sink) p.0 (now j.sink (has-free (λ c. is_none (source_by c.unit)) j.sink bs p.1)))
        by (inr e) =
            let p = and_parts (has_free_sink bs j.source) (has_id cs j.sink) e in
            or_right (has_id cs j.source && has_id (map (joined_at j) bs) j.sink) (has_id (map (joined_at j) bs) j.source && has_id cs j.sink) (and_from (has_id (map (joined_at j) bs) j.source) (has_id cs j.sink) (now j.source (has-free (λ c. is_none (sink_by c.unit)) j.source bs p.0)) p.1)

    pub joined-linked : (pipes : List Component) → can → IsLinked (record { comps = cs; buffers = bs; pipes = pipes; joins = joins }) → IsLinked (record { comps = cs; buffers = map (joined_at j) bs; pipes = pipes; joins = joins ++ j ∷ [] })
    joined-linked pipes is linked = record {
      between = all-end (λ k. is_between cs (map (joined_at j) bs) k ≡ true) joins (between-all cs bs cs (map (joined_at j) bs) (λ id e. e) (λ id e. has-map (joined_at j) joined-id id bs ∙ e) joins linked.between) (between-now is);
      each = each-more joins bs linked.each;
      all = omega (arith, linked.all, one-more is, length-append joins (j ∷ []));
    }
