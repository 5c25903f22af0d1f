-- The joins of a registry, and the sides of its buffers, after each change.
use Rattle.std.proofs.Common.{◌≡◌, refl, sym, ap, ◌∙◌, subst, ℕ, suc, ◌+◌, ◌*◌, ◌≤◌, List, [], ◌∷◌, map, filter, length, Bool, true, false, cond, not, inl, inr, ◌⊎◌, ◌==◌, ◌&&◌, ◌||◌, Option, Some, None, arith}
use Rattle.std.proofs.lemmas.Bool.{true≢false, false_from_ne_true, not-true, eqb-true, eq-eqb, or_parts, or_cases, or_left, or_right, and_parts, and_from}
use Rattle.std.proofs.lemmas.List.Filters.{length-filter_both}
use Rattle.std.specs.Prelude.{nat_lt}
use Rattle.std.specs.List.{list_any, AllByRecursion}
use Rattle.stream_law.specs.declared.graph.Join.{Join}
use Rattle.stream_law.specs.Placed.{placed, AreAbove, Ascends}
use Rattle.fw_units.specs.declared.component.Component.{Component}
use Rattle.fw_units.specs.Units.{source_by, sink_by}
use Rattle.mbox_link.specs.Step.{touches}
use Rattle.fw_units.specs.Changes.{has_id}
use Rattle.fw_components.specs.Kept.{AreIdsApart, side, sides_by, sides, joins_at, is_between, IsLinked}
use Rattle.fw_units.proofs.Ids.{all-by, all-with, all-left, all-passed, all-fail, has-map, has-left, has-more}
use Rattle.fw_components.proofs.Apart.{not-first}
use Rattle.fw_units.proofs.Taking.{none-above}

-- ---- ends

-- ends that are still there are still a component's and a buffer's
still : (a b c d a' b' c' d' : Bool) → (a ≡ true → a' ≡ true) → (b ≡ true → b' ≡ true) → (c ≡ true → c' ≡ true) → (d ≡ true → d' ≡ true) → ((a && b) || (c && d)) ≡ true → ((a' && b') || (c' && d')) ≡ true
still a b c d a' b' c' d' f g h k e = by (or_cases (a && b) (c && d) e)
  where
    by : ((a && b) ≡ true) ⊎ ((c && d) ≡ true) → ((a' && b') || (c' && d')) ≡ true
    by (inl e) = let p = and_parts a b e in or_left (a' && b') (c' && d') (and_from a' b' (f p.0) (g p.1))
    by (inr e) = let p = and_parts c d e in or_right (a' && b') (c' && d') (and_from c' d' (h p.0) (k p.1))

module _ (cs bs cs' bs' : List Component) (j : Join) where
  pub between-still : (has_id cs j.source ≡ true → has_id cs' j.source ≡ true) → (has_id bs j.sink ≡ true → has_id bs' j.sink ≡ true) → (has_id bs j.source ≡ true → has_id bs' j.source ≡ true) → (has_id cs j.sink ≡ true → has_id cs' j.sink ≡ true) → is_between cs bs j ≡ true → is_between cs' bs' j ≡ true
  between-still = still (has_id cs j.source) (has_id bs j.sink) (has_id bs j.source) (has_id cs j.sink) (has_id cs' j.source) (has_id bs' j.sink) (has_id bs' j.source) (has_id cs' j.sink)

pub between-all : (cs bs cs' bs' : List Component) → ((id : ℕ) → has_id cs id ≡ true → has_id cs' id ≡ true) → ((id : ℕ) → has_id bs id ≡ true → has_id bs' id ≡ true) → (joins : List Join) → AllByRecursion (λ j. is_between cs bs j ≡ true) joins → AllByRecursion (λ j. is_between cs' bs' j ≡ true) joins
between-all cs bs cs' bs' f g joins all = all-by (λ j. is_between cs bs j ≡ true) (λ j. is_between cs' bs' j ≡ true) (λ j. between-still cs bs cs' bs' j (f j.source) (g j.sink) (g j.source) (f j.sink)) joins all

-- joins that are not at an id are still between what is left
pub between-left : (id : ℕ) (cs bs cs' bs' : List Component) → ((other : ℕ) → (other == id) ≡ false → has_id cs' other ≡ has_id cs other) → ((other : ℕ) → (other == id) ≡ false → has_id bs' other ≡ has_id bs other) → (joins : List Join) → AllByRecursion (λ j. touches id j ≡ false) joins → AllByRecursion (λ j. is_between cs bs j ≡ true) joins → AllByRecursion (λ j. is_between cs' bs' j ≡ true) joins
between-left id cs bs cs' bs' f g joins away all = all-with (λ j. touches id j ≡ false) (λ j. is_between cs bs j ≡ true) (λ j. is_between cs' bs' j ≡ true) one joins away all
  where
    one : (j : Join) → touches id j ≡ false → is_between cs bs j ≡ true → is_between cs' bs' j ≡ true
    one j away is =
        let apart = or_parts (j.source == id) (j.sink == id) away in
        between-still cs bs cs' bs' j (λ e. f j.source apart.0 ∙ e) (λ e. g j.sink apart.1 ∙ e) (λ e. g j.source apart.0 ∙ e) (λ e. f j.sink apart.1 ∙ e) is

-- ---- sides

side-most : (o : Option ℕ) → side o ≤ 1
side-most None = omega arith
side-most (Some end) = omega arith

pub sides-most : (bs : List Component) → sides bs ≤ 2 * length bs
sides-most [] = omega arith
sides-most (b ∷ bs) = omega (arith, side-most (source_by b.unit), side-most (sink_by b.unit), sides-most bs)

pub sides-placed : (c : Component) (bs : List Component) → sides (placed (λ x. x.id) c bs) ≡ sides_by c.unit + sides bs
sides-placed c [] = refl
sides-placed c (b ∷ bs) = by (nat_lt c.id b.id) (sides-placed c bs)
  where
    by : (h : Bool) → sides (placed (λ x. x.id) c bs) ≡ sides_by c.unit + sides bs → sides (cond h (c ∷ b ∷ bs) (b ∷ placed (λ x. x.id) c bs)) ≡ sides_by c.unit + (sides_by b.unit + sides bs)
    by true rest = refl
    by false rest = omega (arith, rest)

pub sides-map : (f : Component → Component) → ((c : Component) → sides_by (f c).unit ≡ sides_by c.unit) → (bs : List Component) → sides (map f bs) ≡ sides bs
sides-map f same [] = refl
sides-map f same (b ∷ bs) = let here : sides_by (f b).unit ≡ sides_by b.unit = same b in omega (arith, here, sides-map f same bs)

-- ---- a buffer goes, and with it its joins

module _ (id : ℕ) (cs : List Component) (gone : has_id cs id ≡ false) where
  -- a join at a buffer is at no other buffer
  pub not-both : (other : ℕ) (bs : List Component) (j : Join) → has_id cs other ≡ false → (other == id) ≡ false → is_between cs bs j ≡ true → touches id j ≡ true → touches other j ≡ false
  not-both other bs j far apart between at = false_from_ne_true (touches other j) (λ also. by (or_cases (j.source == id) (j.sink == id) at) (or_cases (j.source == other) (j.sink == other) also))
    where
      same : (n : ℕ) → (n == id) ≡ true → (n == other) ≡ true → ⊥
      same n e f = true≢false (sym (eq-eqb other id (sym (eqb-true n other f) ∙ eqb-true n id e)) ∙ apart)

      none : (m n : ℕ) → has_id cs m ≡ false → has_id cs n ≡ false → ((has_id cs m && has_id bs n) || (has_id bs m && has_id cs n)) ≡ true → ⊥
      none m n e f is = pick (or_cases (has_id cs m && has_id bs n) (has_id bs m && has_id cs n) is)
        where
          pick : ((has_id cs m && has_id bs n) ≡ true) ⊎ ((has_id bs m && has_id cs n) ≡ true) → ⊥
          pick (inl is) = true≢false (sym (and_parts (has_id cs m) (has_id bs n) is).0 ∙ e)
          pick (inr is) = true≢false (sym (and_parts (has_id bs m) (has_id cs n) is).1 ∙ f)

      by : ((j.source == id) ≡ true) ⊎ ((j.sink == id) ≡ true) → ((j.source == other) ≡ true) ⊎ ((j.sink == other) ≡ true) → ⊥
      by (inl e) (inl f) = same j.source e f
      by (inr e) (inr f) = same j.sink e f
      by (inl e) (inr f) = none j.source j.sink (ap (has_id cs) (eqb-true j.source id e) ∙ gone) (ap (has_id cs) (eqb-true j.sink other f) ∙ far) between
      by (inr e) (inl f) = none j.source j.sink (ap (has_id cs) (eqb-true j.source other f) ∙ far) (ap (has_id cs) (eqb-true j.sink id e) ∙ gone) between

  -- so another buffer keeps its joins
  pub joins-left : (other : ℕ) (bs : List Component) → has_id cs other ≡ false → (other == id) ≡ false → (joins : List Join) → AllByRecursion (λ j. is_between cs bs j ≡ true) joins → joins_at other (filter (λ j. not (touches id j)) joins) ≡ joins_at other joins
  joins-left other bs far apart [] all = refl
  joins-left other bs far apart (j ∷ joins) all = by (touches id j) refl (joins-left other bs far apart joins all.1)
    where
      left : List Join
      left = filter (λ k. not (touches id k)) joins

      by : (h : Bool) → touches id j ≡ h → joins_at other (filter (λ k. not (touches id k)) joins) ≡ joins_at other joins → joins_at other (cond (not h) (j ∷ filter (λ k. not (touches id k)) joins) (filter (λ k. not (touches id k)) joins)) ≡ length (cond (touches other j) (j ∷ filter (touches other) joins) (filter (touches other) joins))
      by true is rest = rest ∙ ap (λ h. length (cond h (j ∷ filter (touches other) joins) (filter (touches other) joins))) (sym (not-both other bs j far apart all.0 is))
      by false is rest = both (touches other j) rest
        where
          both : (h : Bool) → joins_at other (filter (λ k. not (touches id k)) joins) ≡ joins_at other joins → length (cond h (j ∷ filter (touches other) (filter (λ k. not (touches id k)) joins)) (filter (touches other) (filter (λ k. not (touches id k)) joins))) ≡ length (cond h (j ∷ filter (touches other) joins) (filter (touches other) joins))
          both true rest = ap suc rest
          both false rest = rest

-- no more sides go than joins
pub sides-gone : (id : ℕ) (joins : List Join) (bs : List Component) → Ascends (λ c. c.id) bs → AllByRecursion (λ c. sides_by c.unit ≤ joins_at c.id joins) bs → sides bs ≤ sides (filter (λ c. not (c.id == id)) bs) + joins_at id joins
unfolding Ascends
sides-gone id joins [] ascends all = omega arith
sides-gone id joins (b ∷ bs) ascends all = by (b.id == id) refl (sides-gone id joins bs ascends.1 all.1)
  where
    by : (h : Bool) → (b.id == id) ≡ h → sides bs ≤ sides (filter (λ c. not (c.id == id)) bs) + joins_at id joins → sides_by b.unit + sides bs ≤ sides (cond (not h) (b ∷ filter (λ c. not (c.id == id)) bs) (filter (λ c. not (c.id == id)) bs)) + joins_at id joins
    by true is rest =
        let same : b.id ≡ id = eqb-true b.id id is in
        let left : sides (filter (λ c. not (c.id == id)) bs) ≡ sides bs = ap sides (none-above id bs (subst (λ n. AreAbove (λ c. c.id) n bs) same ascends.0)) in
        let few : sides_by b.unit ≤ joins_at id joins = subst (λ n. sides_by b.unit ≤ joins_at n joins) same all.0 in
        omega (arith, left, few)
    by false is rest = omega (arith, rest)

module _ (id : ℕ) (cs bs : List Component) (joins : List Join) where
  abbrev left : List Component
  left = filter (λ c. not (c.id == id)) bs

  abbrev fewer : List Join
  fewer = filter (λ j. not (touches id j)) joins

  -- a buffer of another id keeps its joins
  each-left : AreIdsApart cs bs → has_id cs id ≡ false → AllByRecursion (λ j. is_between cs bs j ≡ true) joins → AllByRecursion (λ c. sides_by c.unit ≤ joins_at c.id joins) bs → AllByRecursion (λ c. sides_by c.unit ≤ joins_at c.id fewer) left
  each-left apart gone between each =
      all-with (λ (c : Component). not (c.id == id) ≡ true) (λ c. (has_id cs c.id ≡ false) × (sides_by c.unit ≤ joins_at c.id joins)) (λ c. sides_by c.unit ≤ joins_at c.id fewer)
      (λ c other both. subst (λ n. sides_by c.unit ≤ n) (sym (joins-left id cs gone c.id bs both.0 (not-true (c.id == id) other) joins between)) both.1)
      left (all-passed (λ (c : Component). not (c.id == id)) bs)
      (all-left (λ (c : Component). (has_id cs c.id ≡ false) × (sides_by c.unit ≤ joins_at c.id joins)) (λ c. not (c.id == id)) bs (all-with (λ (c : Component). has_id cs c.id ≡ false) (λ c. sides_by c.unit ≤ joins_at c.id joins) (λ c. (has_id cs c.id ≡ false) × (sides_by c.unit ≤ joins_at c.id joins)) (λ c a b. (a, b)) bs apart each))

  pub buffer-unlinked : (pipes : List Component) → Ascends (λ c. c.id) bs → AreIdsApart cs bs → has_id bs id ≡ true → IsLinked (record { comps = cs; buffers = bs; pipes = pipes; joins = joins }) → IsLinked (record { comps = cs; buffers = left; pipes = pipes; joins = fewer })
  buffer-unlinked pipes ascends apart there linked =
      let gone : has_id cs id ≡ false = not-first id cs bs apart there in
      record {
        between =
            between-left id cs bs cs left (λ other e. refl) (λ other e. has-left id other bs e) fewer
            (all-by (λ (j : Join). not (touches id j) ≡ true) (λ j. touches id j ≡ false) (λ j. not-true (touches id j)) fewer (all-passed (λ j. not (touches id j)) joins))
            (all-left (λ j. is_between cs bs j ≡ true) (λ j. not (touches id j)) joins linked.between);
        each = each-left apart gone linked.between linked.each;
        all = omega (arith, linked.all, sides-gone id joins bs ascends linked.each, length-filter_both (touches id) (λ j. not (touches id j)) (λ j. refl) joins);
      }

  pub comp-unlinked : (pipes : List Component) → list_any (touches id) joins ≡ false → IsLinked (record { comps = cs; buffers = bs; pipes = pipes; joins = joins }) → IsLinked (record { comps = filter (λ c. not (c.id == id)) cs; buffers = bs; pipes = pipes; joins = joins })
  comp-unlinked pipes alone linked = record {
    between = between-left id cs bs (filter (λ c. not (c.id == id)) cs) bs (λ other e. has-left id other cs e) (λ other e. refl) joins (all-fail (touches id) joins alone) linked.between;
    each = linked.each;
    all = linked.all;
  }

-- ---- more of each

pub comp-linked : (c : Component) (cs bs pipes : List Component) (joins : List Join) → IsLinked (record { comps = cs; buffers = bs; pipes = pipes; joins = joins }) → IsLinked (record { comps = placed (λ x. x.id) c cs; buffers = bs; pipes = pipes; joins = joins })
comp-linked c cs bs pipes joins linked = record {
  between = between-all cs bs (placed (λ x. x.id) c cs) bs (λ id. has-more id c cs) (λ id e. e) joins linked.between;
  each = linked.each;
  all = linked.all;
}

pub each-placed : (P : Component → Type 0) (c : Component) (cs : List Component) → P c → AllByRecursion P cs → AllByRecursion P (placed (λ x. x.id) c cs)
each-placed P c [] one all = (one, tt)
each-placed P c (x ∷ xs) one all = by (nat_lt c.id x.id) (each-placed P c xs one all.1)
  where
    by : (h : Bool) → AllByRecursion P (placed (λ y. y.id) c xs) → AllByRecursion P (cond h (c ∷ x ∷ xs) (x ∷ placed (λ y. y.id) c xs))
    by true rest = (one, all)
    by false rest = (all.0, rest)

pub buffer-linked : (c : Component) (cs bs pipes : List Component) (joins : List Join) → sides_by c.unit ≡ 0 → IsLinked (record { comps = cs; buffers = bs; pipes = pipes; joins = joins }) → IsLinked (record { comps = cs; buffers = placed (λ x. x.id) c bs; pipes = pipes; joins = joins })
buffer-linked c cs bs pipes joins none linked = record {
  between = between-all cs bs cs (placed (λ x. x.id) c bs) (λ id e. e) (λ id. has-more id c bs) joins linked.between;
  each = each-placed (λ x. sides_by x.unit ≤ joins_at x.id joins) c bs (omega (arith, none)) linked.each;
  all = omega (arith, linked.all, sides-placed c bs);
}

-- ---- changes that leave ids and sides

pub comps-linked : (f : Component → Component) → ((c : Component) → (f c).id ≡ c.id) → (cs bs pipes : List Component) (joins : List Join) → IsLinked (record { comps = cs; buffers = bs; pipes = pipes; joins = joins }) → IsLinked (record { comps = map f cs; buffers = bs; pipes = pipes; joins = joins })
comps-linked f same cs bs pipes joins linked = record {
  between = between-all cs bs (map f cs) bs (λ id e. has-map f same id cs ∙ e) (λ id e. e) joins linked.between;
  each = linked.each;
  all = linked.all;
}

each-map : (f : Component → Component) → ((c : Component) → (f c).id ≡ c.id) → ((c : Component) → sides_by (f c).unit ≡ sides_by c.unit) → (joins : List Join) (bs : List Component) → AllByRecursion (λ c. sides_by c.unit ≤ joins_at c.id joins) bs → AllByRecursion (λ c. sides_by c.unit ≤ joins_at c.id joins) (map f bs)
each-map f same ends joins [] all = tt
each-map f same ends joins (b ∷ bs) all = (subst (λ (p : ℕ × ℕ). p.0 ≤ joins_at p.1 joins) (λ i. (sym (ends b) i, sym (same b) i)) all.0, each-map f same ends joins bs all.1)

pub buffers-linked : (f : Component → Component) → ((c : Component) → (f c).id ≡ c.id) → ((c : Component) → sides_by (f c).unit ≡ sides_by c.unit) → (cs bs pipes : List Component) (joins : List Join) → IsLinked (record { comps = cs; buffers = bs; pipes = pipes; joins = joins }) → IsLinked (record { comps = cs; buffers = map f bs; pipes = pipes; joins = joins })
buffers-linked f same ends cs bs pipes joins linked = record {
  between = between-all cs bs cs (map f bs) (λ id e. e) (λ id e. has-map f same id bs ∙ e) joins linked.between;
  each = each-map f same ends joins bs linked.each;
  all = subst (λ n. length joins ≤ n) (sym (sides-map f ends bs)) linked.all;
}
