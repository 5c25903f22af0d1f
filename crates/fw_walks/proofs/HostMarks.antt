-- Marks of hosts, of what is on the ways of their streams, and of what is Live.
use Rattle.std.proofs.Common.{◌≡◌, refl, sym, ap, ◌∙◌, ℕ, ◌+◌, ◌<◌, ◌≤◌, take, set, Bool, List, [], ◌∷◌, true, false, length, get_or, ltb, not, ◌==◌, ◌&&◌, ◌||◌, arith, get_or-set_other, get_or-set_same}
use Rattle.std.proofs.lemmas.Bool.{true≢false, or_left, or_right, and_parts, and_from, eqb-true, eq-eqb, ltb-true, ltb-false, lt-ltb, false_from_ne_true}
use Rattle.std.proofs.lemmas.List.{take_more}
use Rattle.std.proofs.lemmas.List.Folds.{list_any-append}
use Rattle.std.specs.List.{list_any, AllByRecursion}
use Rattle.stream_law.specs.declared.graph.Graph.{Graph}
use Rattle.stream_law.specs.Ways.{live, is_capture}
use Rattle.stream_law.proofs.Members.{IsIn, in-each, in-all, in-any, any-in}
use Rattle.stream_law.specs.Order.{is_among}
use Rattle.fw_units.specs.declared.component.Component.{Component}
use Rattle.fw_components.specs.Tables.{Tables, ids_of, view_by}
use Rattle.fw_units.specs.Units.{kind_by}
use Rattle.fw_units.specs.Changes.{has_id}
use Rattle.fw_components.specs.Kept.{IsKept}
use Rattle.fw_components.specs.Tally.{IsSeenIn}
use Rattle.fw_walks.specs.declared.streams.Sort.{Sort}
use Rattle.fw_walks.specs.Streams.{is_sort, any_stream, is_host_of}
use Rattle.fw_places.specs.Walks.{place_in, is_marked}
use Rattle.fw_places.specs.Charts.{AreHostsOf, is_capture_at}
use Rattle.fw_places.proofs.Reaching.{at-place, both-true}
use Rattle.fw_places.proofs.Charts.{listed-member, member-listed, place-past}
use Rattle.fw_places.proofs.WayWalks.{any-each}
use Rattle.fw_components.proofs.Listed.{listed-is}
use Rattle.fw_walks.proofs.Counted.{live-nowhere}
use Rattle.fw_walks.proofs.OnWays.{any-or}

-- ---- hosts, one after another

-- what is listed is marked where it is the one that was marked last, or was marked before
set-marked : (ids : List ℕ) (marks : List Bool) (a : ℕ) → is_among ids a ≡ true → length ids < length marks → (x : ℕ) → is_among ids x ≡ true → is_marked ids (set marks (place_in ids a) true) x ≡ (a == x || is_marked ids marks x)
set-marked ids marks a at low x there = by (a == x) refl
  where
    here : place_in ids a < length marks
    here = omega (arith, low, (at-place ids a at).0)

    by : (h : Bool) → (a == x) ≡ h → is_marked ids (set marks (place_in ids a) true) x ≡ (h || is_marked ids marks x)
    by true same = ap (λ (y : ℕ). is_marked ids (set marks (place_in ids a) true) y) (sym (eqb-true a x same)) ∙ get_or-set_same marks (place_in ids a) true false here
    by false other = get_or-set_other marks (place_in ids a) (place_in ids x) true false (λ e. true≢false (sym (eq-eqb a x (sym (at-place ids a at).1 ∙ ap (λ (k : ℕ). get_or ids k 0) (sym e) ∙ (at-place ids x there).1)) ∙ other))

pub any-more : (q : Component → Bool) (cs : List Component) (i : ℕ) (d : Component) → i < length cs → list_any q (take (i + 1) cs) ≡ (list_any q (take i cs) || q (get_or cs i d))
any-more q cs i d low = ap (list_any q) (take_more cs i d low) ∙ list_any-append q (take i cs) (get_or cs i d ∷ []) ∙ ap (λ h. list_any q (take i cs) || h) (last (q (get_or cs i d)))
  where
    last : (h : Bool) → (h || false) ≡ h
    last true = refl
    last false = refl

module _ (sort : Sort) (capture : Bool) (ids : List ℕ) (cs : List Component) (i : ℕ) (d : Component) (low : i < length cs) where
  abbrev pub AreHosts : List Bool → ℕ → Type 0
  AreHosts marks n = (x : ℕ) → is_among ids x ≡ true → is_marked ids marks x ≡ list_any (λ c. c.id == x && is_host_of sort capture c) (take n cs)

  pub host-marked : (marks : List Bool) → AreHosts marks i → is_among ids (get_or cs i d).id ≡ true → length ids < length marks → is_host_of sort capture (get_or cs i d) ≡ true → AreHosts (set marks (place_in ids (get_or cs i d).id) true) (i + 1)
  host-marked marks so_far at room is = λ x there.
      set-marked ids marks (get_or cs i d).id at room x there
      ∙ ap (λ h. (get_or cs i d).id == x || h) (so_far x there)
      ∙ turned ((get_or cs i d).id == x) (list_any (λ c. c.id == x && is_host_of sort capture c) (take i cs)) (is_host_of sort capture (get_or cs i d)) is
      ∙ sym (any-more (λ c. c.id == x && is_host_of sort capture c) cs i d low)
    where
      turned : (a b c : Bool) → c ≡ true → (a || b) ≡ (b || (a && c))
      turned true true c is = refl
      turned true false c is = sym is
      turned false true c is = refl
      turned false false c is = refl

  pub host-passed : (marks : List Bool) → AreHosts marks i → is_host_of sort capture (get_or cs i d) ≡ false → AreHosts marks (i + 1)
  host-passed marks so_far is = λ x there.
      so_far x there
      ∙ turned ((get_or cs i d).id == x) (list_any (λ c. c.id == x && is_host_of sort capture c) (take i cs)) (is_host_of sort capture (get_or cs i d)) is
      ∙ sym (any-more (λ c. c.id == x && is_host_of sort capture c) cs i d low)
    where
      turned : (a b c : Bool) → c ≡ false → b ≡ (b || (a && c))
      turned a true c is = refl
      turned true false c is = sym is
      turned false false c is = refl

-- ---- what is so of one that is marked

module _ (p : Component → Bool) (ids : List ℕ) (cs : List Component) (listed : AllByRecursion (λ c. is_among ids c.id ≡ true) cs)
    (marks : List Bool) (hosts : (x : ℕ) → is_among ids x ≡ true → is_marked ids marks x ≡ list_any (λ c. c.id == x && p c) cs) where
  -- what is marked is one of them
  pub host-of : (x : ℕ) → is_among ids x ≡ true → is_marked ids marks x ≡ true → (c : Component) × (IsIn c cs × ((c.id ≡ x) × (p c ≡ true)))
  host-of x there is =
      let c = any-in (λ c. c.id == x && p c) cs (sym (hosts x there) ∙ is) in
      let own = and_parts (c.0.id == x) _ c.2 in
      (c.0, (c.1, (eqb-true c.0.id x own.0, own.1)))

  pub hosts-pass : (on : ℕ → Bool) → list_any (λ s. is_marked ids marks s && on s) ids ≡ list_any (λ c. p c && on c.id) cs
  hosts-pass on = both-true _ _ (λ e.
      let s = any-in (λ s. is_marked ids marks s && on s) ids e in
      let both = and_parts (is_marked ids marks s.0) _ s.2 in
      let c = host-of s.0 (member-listed ids s.0 s.1) both.0 in
      in-any (λ c. p c && on c.id) cs c.0 c.1.0 (and_from (p c.0) _ c.1.1.1 (ap on c.1.1.0 ∙ both.1))) (λ e.
      let c = any-in (λ c. p c && on c.id) cs e in
      let both = and_parts (p c.0) _ c.2 in
      let here = in-all (λ (c : Component). is_among ids c.id ≡ true) cs c.0 listed c.1 in
      in-any (λ s. is_marked ids marks s && on s) ids c.0.id (listed-member ids c.0.id here) (and_from (is_marked ids marks c.0.id) _ (hosts c.0.id here ∙ in-any (λ d. d.id == c.0.id && p d) cs c.0 c.1 (and_from (c.0.id == c.0.id) _ (eq-eqb c.0.id c.0.id refl) both.0)) both.1))

module _ (t : Tables) (ids : List ℕ) (is : ids ≡ ids_of t) where
  pub buffer-listed : (c : Component) → IsIn c t.buffers → is_among ids c.id ≡ true
  buffer-listed c there = ap (λ (xs : List ℕ). is_among xs c.id) is ∙ listed-is t c.id ∙ or_right (has_id t.comps c.id) _ (in-any (λ d. d.id == c.id) t.buffers c there (eq-eqb c.id c.id refl))

  pub host-listed : (c : Component) → IsIn c t.comps → is_among ids c.id ≡ true
  host-listed c there = ap (λ (xs : List ℕ). is_among xs c.id) is ∙ listed-is t c.id ∙ or_left (has_id t.comps c.id) _ (in-any (λ d. d.id == c.id) t.comps c there (eq-eqb c.id c.id refl))

  pub hosts-listed : AllByRecursion (λ c. is_among ids c.id ≡ true) t.comps
  hosts-listed = in-each (λ (c : Component). is_among ids c.id ≡ true) t.comps host-listed

-- ---- what is on the ways of streams

module _ (sort : Sort) (g : Graph) (ids : List ℕ) (cs : List Component) (listed : AllByRecursion (λ c. is_among ids c.id ≡ true) cs) (seen : AllByRecursion (IsSeenIn g) cs) where
  abbrev Are : Bool → List Bool → Type 0
  Are capture marks = (x : ℕ) → is_among ids x ≡ true → is_marked ids marks x ≡ list_any (λ c. c.id == x && is_host_of sort capture c) cs

  pub hosts-of : (capture : Bool) (marks : List Bool) → Are capture marks → AreHostsOf g capture ids marks
  hosts-of capture marks are = λ h there is.
      let c = host-of (is_host_of sort capture) ids cs listed marks are h there is in
      by capture c.0 c.1.1.1 ∙ in-all (IsSeenIn g) cs c.0 seen c.1.0 ∙ ap (is_capture_at g) c.1.1.0
    where
      by : (h : Bool) (c : Component) → is_host_of sort h c ≡ true → h ≡ is_capture (kind_by c.unit)
      by true c is = sym (and_parts (any_stream (is_sort sort) 0 c.unit) (is_capture (kind_by c.unit)) is).1
      by false c is = opposite (is_capture (kind_by c.unit)) (and_parts (any_stream (is_sort sort) 0 c.unit) (not (is_capture (kind_by c.unit))) is).1
        where
          opposite : (h : Bool) → not h ≡ true → false ≡ h
          opposite true e = e
          opposite false e = refl

  -- both directions together
  pub ways-both : (front back : List Bool) → Are false front → Are true back → (on : ℕ → Bool)
      → (list_any (λ h. is_marked ids front h && on h) ids || list_any (λ h. is_marked ids back h && on h) ids) ≡ list_any (λ c. any_stream (is_sort sort) 0 c.unit && on c.id) cs
  ways-both front back ahead behind on =
      (λ i. hosts-pass (is_host_of sort false) ids cs listed front ahead on i || hosts-pass (is_host_of sort true) ids cs listed back behind on i)
      ∙ any-or (λ c. is_host_of sort false c && on c.id) (λ c. is_host_of sort true c && on c.id) cs
      ∙ any-each (λ c. (is_host_of sort false c && on c.id) || (is_host_of sort true c && on c.id)) (λ c. any_stream (is_sort sort) 0 c.unit && on c.id) cs (λ c here. by (any_stream (is_sort sort) 0 c.unit) (is_capture (kind_by c.unit)) (on c.id))
    where
      by : (l k a : Bool) → (((l && not k) && a) || ((l && k) && a)) ≡ (l && a)
      by true true a = refl
      by true false true = refl
      by true false false = refl
      by false k a = refl

-- ---- what is Live

-- no mark yet, and one more
pub none-yet : (is : ℕ → Bool) (k : ℕ) → false ≡ (ltb k 0 && is k)
none-yet is k = ap (λ h. h && is k) (sym (false_from_ne_true (ltb k 0) (λ e. absurd (omega (arith, ltb-true k 0 e)))))

pub marked-more : (is : ℕ → Bool) (marks : List Bool) (n : ℕ) (mark : Bool) → ((k : ℕ) → get_or marks k false ≡ (ltb k n && is k)) → n < length marks → mark ≡ is n → (k : ℕ) → get_or (set marks n mark) k false ≡ (ltb k (n + 1) && is k)
marked-more is marks n mark each low same k = by (ltb k n) refl (n == k) refl
  where
    by : (h : Bool) → ltb k n ≡ h → (e : Bool) → (n == k) ≡ e → get_or (set marks n mark) k false ≡ (ltb k (n + 1) && is k)
    by h before true here =
        let at : n ≡ k = eqb-true n k here in
        ap (λ j. get_or (set marks n mark) j false) (sym at)
        ∙ get_or-set_same marks n mark false low
        ∙ same
        ∙ ap is at
        ∙ ap (λ h. h && is k) (sym (lt-ltb k (n + 1) (omega (arith, at))))
    by true before false other =
        get_or-set_other marks n k mark false (λ e. true≢false (sym (eq-eqb n k (sym e)) ∙ other))
        ∙ each k
        ∙ ap (λ h. h && is k) (before ∙ sym (lt-ltb k (n + 1) (let low : k < n = ltb-true k n before in omega (arith, low))))
    by false after false other =
        get_or-set_other marks n k mark false (λ e. true≢false (sym (eq-eqb n k (sym e)) ∙ other))
        ∙ each k
        ∙ ap (λ h. h && is k) (after ∙ sym (false_from_ne_true (ltb k (n + 1)) (λ e. true≢false (sym (eq-eqb n k (let high : n ≤ k = ltb-false k n after in let low : k < n + 1 = ltb-true k (n + 1) e in omega (arith, high, low))) ∙ other))))

-- each id is marked where it is Live, and nothing else is
pub live-at : (t : Tables) → IsKept t → (ids : List ℕ) → ids ≡ ids_of t → (marks : List Bool) → ((k : ℕ) → get_or marks k false ≡ (ltb k (length ids) && live (view_by t) (get_or ids k 0))) → (x : ℕ) → is_marked ids marks x ≡ live (view_by t) x
live-at t kept ids is marks each x = by (is_among ids x) refl
  where
    never : (n : ℕ) → ltb n n ≡ false
    never n = false_from_ne_true (ltb n n) (λ e. absurd (omega (arith, ltb-true n n e)))

    by : (h : Bool) → is_among ids x ≡ h → is_marked ids marks x ≡ live (view_by t) x
    by true there =
        each (place_in ids x)
        ∙ ap (λ h. h && live (view_by t) (get_or ids (place_in ids x) 0)) (lt-ltb (place_in ids x) (length ids) (at-place ids x there).0)
        ∙ ap (live (view_by t)) (at-place ids x there).1
    by false none =
        each (place_in ids x)
        ∙ ap (λ n. ltb n (length ids) && live (view_by t) (get_or ids (place_in ids x) 0)) (place-past ids x none)
        ∙ ap (λ h. h && live (view_by t) (get_or ids (place_in ids x) 0)) (never (length ids))
        ∙ live-nowhere t x kept (ap (λ (xs : List ℕ). is_among xs x) (sym is) ∙ none)
