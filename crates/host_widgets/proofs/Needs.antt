-- What a stream needs by walks is the least set that is enough for it.
use Rattle.std.proofs.Common.{◌≡◌, refl, sym, ap, subst, ◌∙◌, ℕ, zero, suc, List, [], ◌∷◌, ◌++◌, map, length, Bool, true, false, cond, inl, inr, ◌⊎◌, ◌==◌, ◌||◌, Some, None}
use Rattle.std.specs.Prelude.{◌↔◌, Option, find, unwrap_or}
use Rattle.std.specs.List.{flat_map}
use Rattle.std.proofs.lemmas.Bool.{false≢true, eqb-true, eq-eqb, and_parts, and_from}
use Rattle.stream_law.specs.declared.graph.Comp.{Comp}
use Rattle.stream_law.specs.declared.graph.Edge.{Edge}
use Rattle.stream_law.specs.declared.graph.Pipe.{Pipe}
use Rattle.stream_law.specs.declared.graph.Join.{Join}
use Rattle.stream_law.specs.declared.graph.Graph.{Graph}
use Rattle.stream_law.specs.Ways.{comp_of, edge_of, components, buffers, splits, is_of, is_capture, way_joins, ways_to, echoes_to, on_way}
use Rattle.stream_law.specs.Order.{is_among}
use Rattle.stream_law.proofs.Members.{IsIn, in-all, in-each, any-in, in-any, find-in}
use Rattle.stream_law.proofs.Walking.{Path, Walks, path-of, leads-same, walk-on, walks-lead}
use Rattle.stream_law.proofs.Among.{is_among-filter}
use Rattle.host_widgets.specs.Need.{HasAt, end_index, IsEnough, IsNeeded, is_joined_to, bring, way_brings, scheduler_brings, buffer_brings, joined_brings, split_brings, brings, host_index, is_needed, need_in, IsPiped}
use Rattle.host_widgets.specs.Indices.{named_index, index_at, pipe_indices}

-- ---- members of lists

pub in-left : {X : Type 0} (xs ys : List X) (x : X) → IsIn x xs → IsIn x (xs ++ ys)
in-left [] ys x here = absurd here
in-left (y ∷ xs) ys x (inl same) = inl same
in-left (y ∷ xs) ys x (inr more) = inr (in-left xs ys x more)

pub in-right : {X : Type 0} (xs ys : List X) (x : X) → IsIn x ys → IsIn x (xs ++ ys)
in-right [] ys x here = here
in-right (y ∷ xs) ys x here = inr (in-right xs ys x here)

pub in-either : {X : Type 0} (xs ys : List X) (x : X) → IsIn x (xs ++ ys) → IsIn x xs ⊎ IsIn x ys
in-either [] ys x here = inr here
in-either (y ∷ xs) ys x (inl same) = inl (inl same)
in-either {X} (y ∷ xs) ys x (inr more) = by (in-either xs ys x more)
  where
    by : IsIn x xs ⊎ IsIn x ys → IsIn x (y ∷ xs) ⊎ IsIn x ys
    by (inl a) = inl (inr a)
    by (inr b) = inr b

pub in-map : {X Y : Type 0} (f : X → Y) (xs : List X) (x : X) → IsIn x xs → IsIn (f x) (map f xs)
in-map f [] x here = absurd here
in-map f (y ∷ xs) x (inl same) = inl (ap f same)
in-map f (y ∷ xs) x (inr more) = inr (in-map f xs x more)

pub in-flat : {X Y : Type 0} (f : X → List Y) (xs : List X) (x : X) (y : Y) → IsIn x xs → IsIn y (f x) → IsIn y (flat_map f xs)
in-flat f [] x y here there = absurd here
in-flat f (k ∷ xs) x y (inl same) there = in-left (f k) (flat_map f xs) y (subst (λ z. IsIn y (f z)) same there)
in-flat f (k ∷ xs) x y (inr more) there = in-right (f k) (flat_map f xs) y (in-flat f xs x y more there)

pub flat-in : {X Y : Type 0} (f : X → List Y) (xs : List X) (y : Y) → IsIn y (flat_map f xs) → (x : X) × IsIn x xs × IsIn y (f x)
flat-in f [] y here = absurd here
flat-in {X} {Y} f (k ∷ xs) y here = by (in-either (f k) (flat_map f xs) y here) (flat-in f xs y)
  where
    by : IsIn y (f k) ⊎ IsIn y (flat_map f xs) → (IsIn y (flat_map f xs) → (x : X) × IsIn x xs × IsIn y (f x)) → (x : X) × IsIn x (k ∷ xs) × IsIn y (f x)
    by (inl a) rest = (k, inl refl, a)
    by (inr b) rest = let r = rest b in (r.0, inr r.1, r.2)

pub among-in : (ids : List ℕ) (x : ℕ) → is_among ids x ≡ true → IsIn x ids
among-in ids x is = let r = any-in (λ id. id == x) ids is in subst (λ y. IsIn y ids) (eqb-true r.0 x r.2) r.1

pub in-among : (ids : List ℕ) (x : ℕ) → IsIn x ids → is_among ids x ≡ true
in-among ids x here = in-any (λ id. id == x) ids x here (eq-eqb x x refl)

-- ---- an index that brings another

bring-in : (i : ℕ) (o : Option ℕ) (l : Join) → IsIn l (bring i o) → (l.source ≡ i) × (o ≡ Some l.sink)
bring-in i None l here = absurd here
bring-in i (Some j) l here = by (i == j) here
  where
    by : (h : Bool) → IsIn l (cond h [] (record { source = i; sink = j } ∷ [])) → (l.source ≡ i) × (Some j ≡ Some l.sink)
    by true none = absurd none
    by false (inl same) = (ap (λ (k : Join). k.source) same, ap (λ (k : Join). Some k.sink) (sym same))
    by false (inr none) = absurd none

walk-bring : (links : List Join) (i j : ℕ) (o : Option ℕ) → o ≡ Some j → ((l : Join) → IsIn l (bring i o) → IsIn l links) → Walks links i j
walk-bring links i j o is sub = by (i == j) refl (λ l here. sub l (subst (λ (p : Option ℕ). IsIn l (bring i p)) (sym is) here))
  where
    one : Join
    one = record { source = i; sink = j }

    by : (h : Bool) → (i == j) ≡ h → ((l : Join) → IsIn l (cond h [] (one ∷ [])) → IsIn l links) → Walks links i j
    by true e f = (0, eqb-true i j e)
    by false e f = (suc zero, (one, f one (inl refl), refl, refl))

-- ---- what is found

found-there : (cs : List Comp) (x : ℕ) → is_among (map (λ (c : Comp). c.id) cs) x ≡ true → (c : Comp) × (find (λ (k : Comp). k.id == x) cs ≡ Some c)
found-there [] x is = absurd (false≢true is)
found-there (k ∷ cs) x is = by (k.id == x) is (found-there cs x)
  where
    by : (h : Bool) → (h || is_among (map (λ (c : Comp). c.id) cs) x) ≡ true → (is_among (map (λ (c : Comp). c.id) cs) x ≡ true → (c : Comp) × (find (λ (k : Comp). k.id == x) cs ≡ Some c)) → (c : Comp) × (cond h (Some k) (find (λ (k : Comp). k.id == x) cs) ≡ Some c)
    by true is rest = (k, refl)
    by false is rest = rest is

pub has-at : (has : ℕ → Bool) (o : Option ℕ) (j : ℕ) → o ≡ Some j → HasAt has o → has j ≡ true
has-at has o j is h = subst (λ (p : Option ℕ). HasAt has p) is h

pub at-has : (has : ℕ → Bool) (o : Option ℕ) → ((j : ℕ) → o ≡ Some j → has j ≡ true) → HasAt has o
at-has has None f = tt
at-has has (Some j) f = f j refl

way-self : (g : Graph) (x : ℕ) → ways_to g x x ≡ true
unfolding ways_to
way-self g x = leads-same (way_joins g) (length (way_joins g)) x x refl

pub host-on : (g : Graph) (host : ℕ) → on_way g host host ≡ true
unfolding on_way
host-on g host = by (is_of g is_capture host)
  where
    by : (h : Bool) → cond h (ways_to g host host || echoes_to g host host) (ways_to g host host) ≡ true
    by true = ap (λ (b : Bool). b || echoes_to g host host) (way-self g host)
    by false = way-self g host

module _ (g : Graph) (host : ℕ) (piped : IsPiped g host) where
  abbrev pub ids : List ℕ
  ids = components g ++ buffers g

  pub indexed : (x j : ℕ) → index_at g x ≡ Some j → (is_among (pipe_indices g) j ≡ true) × IsIn x ids
  indexed x j is = by (comp_of g x) refl (edge_of g x) refl is
    where
      by : (c : Option Comp) → comp_of g x ≡ c → (e : Option Edge) → edge_of g x ≡ e → named_index c e ≡ Some j → (is_among (pipe_indices g) j ≡ true) × IsIn x ids
      by (Some c) at e at' is =
          let r = find-in (λ (k : Comp). k.id == x) g.comps c at in
          let same : c.pipe ≡ j = cc is in (
            subst (λ i. is_among (pipe_indices g) i ≡ true) same (in-all (λ (k : Comp). is_among (pipe_indices g) k.pipe ≡ true) g.comps c piped.comps r.0),
            in-left (components g) (buffers g) x (subst (λ y. IsIn y (components g)) (eqb-true c.id x r.1) (in-map (λ (k : Comp). k.id) g.comps c r.0)),
          )
      by None at (Some e) at' is =
          let r = find-in (λ (k : Edge). k.buffer == x) g.edges e at' in
          let same : e.pipe ≡ j = cc is in (
            subst (λ i. is_among (pipe_indices g) i ≡ true) same (in-all (λ (k : Edge). is_among (pipe_indices g) k.pipe ≡ true) g.edges e piped.edges r.0),
            in-right (components g) (buffers g) x (subst (λ y. IsIn y (buffers g)) (eqb-true e.buffer x r.1) (in-map (λ (k : Edge). k.buffer) g.edges e r.0)),
          )
      by None at None at' is = absurd (cc is)

  abbrev from : ℕ
  from = host_index g host

  abbrev links : List Join
  links = brings g host from

  -- all that is brought but by the way
  abbrev others : List Join
  others = scheduler_brings g ++ (buffer_brings g ++ split_brings g)

  at-host : index_at g host ≡ Some from
  at-host = by (index_at g host) refl
    where
      found : (c : Comp) × (comp_of g host ≡ Some c)
      found = found-there g.comps host piped.there

      by : (o : Option ℕ) → index_at g host ≡ o → index_at g host ≡ Some from
      by None is = absurd (cc (is, ap (λ (c : Option Comp). named_index c (edge_of g host)) found.1))
      by (Some i) is = is ∙ ap (λ (o : Option ℕ). Some (unwrap_or o 0)) (sym is)

  -- ---- what walks lead to is in each set that is enough

  step : (has : ℕ → Bool) → IsEnough g host has → (l : Join) → IsIn l links → has l.source ≡ true → has l.sink ≡ true
  step has enough l here so = by (in-either (way_brings g host from) others l here)
    where
      along : (x : ℕ) (h : Bool) → on_way g host x ≡ h → IsIn l (cond h (bring from (index_at g x)) []) → has l.sink ≡ true
      along x true on there = has-at has (index_at g x) l.sink (bring-in from (index_at g x) l there).1 (enough.way x on)
      along x false on there = absurd there

      to-joined : (c : Comp) → (splits c.kind ≡ true → has c.pipe ≡ true → (x : ℕ) → is_joined_to g c.id x ≡ true → HasAt has (index_at g x)) → splits c.kind ≡ true → (x : ℕ) (h : Bool) → is_joined_to g c.id x ≡ h →
          IsIn l (cond h (bring c.pipe (index_at g x)) []) → has l.sink ≡ true
      to-joined c all is x true to there = let b = bring-in c.pipe (index_at g x) l there in has-at has (index_at g x) l.sink b.1 (all is (ap has (sym b.0) ∙ so) x to)
      to-joined c all is x false to there = absurd there

      by-split : (c : Comp) → (splits c.kind ≡ true → has c.pipe ≡ true → (x : ℕ) → is_joined_to g c.id x ≡ true → HasAt has (index_at g x)) → (h : Bool) → splits c.kind ≡ h →
          IsIn l (cond h (joined_brings g c) []) → has l.sink ≡ true
      by-split c all true is there =
          let r = flat-in (λ (x : ℕ). cond (is_joined_to g c.id x) (bring c.pipe (index_at g x)) []) ids l there in to-joined c all is r.0 (is_joined_to g c.id r.0) refl r.2
      by-split c all false is there = absurd there

      more : IsIn l (buffer_brings g) ⊎ IsIn l (split_brings g) → has l.sink ≡ true
      more (inl there) =
          let r = flat-in (λ (e : Edge). bring e.pipe (end_index g e.source) ++ bring e.pipe (end_index g e.sink)) g.edges l there in
          ends r.0 (in-all (λ (e : Edge). has e.pipe ≡ true → HasAt has (end_index g e.source) × HasAt has (end_index g e.sink)) g.edges r.0 enough.closed.ends r.1) (in-either (bring r.0.pipe (end_index g r.0.source)) (bring r.0.pipe (end_index g r.0.sink)) l r.2)
        where
          ends : (e : Edge) → (has e.pipe ≡ true → HasAt has (end_index g e.source) × HasAt has (end_index g e.sink)) → IsIn l (bring e.pipe (end_index g e.source)) ⊎ IsIn l (bring e.pipe (end_index g e.sink)) → has l.sink ≡ true
          ends e both (inl a) = let b = bring-in e.pipe (end_index g e.source) l a in has-at has (end_index g e.source) l.sink b.1 (both (ap has (sym b.0) ∙ so)).0
          ends e both (inr a) = let b = bring-in e.pipe (end_index g e.sink) l a in has-at has (end_index g e.sink) l.sink b.1 (both (ap has (sym b.0) ∙ so)).1
      more (inr there) =
          let r = flat-in (λ (c : Comp). cond (splits c.kind) (joined_brings g c) []) g.comps l there in
          by-split r.0
          (in-all (λ (c : Comp). splits c.kind ≡ true → has c.pipe ≡ true → (x : ℕ) → is_joined_to g c.id x ≡ true → HasAt has (index_at g x)) g.comps r.0 enough.closed.split r.1)
          (splits r.0.kind) refl r.2

      rest : IsIn l (scheduler_brings g) ⊎ IsIn l (buffer_brings g ++ split_brings g) → has l.sink ≡ true
      rest (inl there) =
          let r = flat-in (λ (p : Pipe). bring p.index (index_at g p.sched)) g.pipes l there in
          let p : Pipe = r.0 in
          let b = bring-in p.index (index_at g p.sched) l r.2 in
          has-at has (index_at g p.sched) l.sink b.1 (in-all (λ (p : Pipe). has p.index ≡ true → HasAt has (index_at g p.sched)) g.pipes p enough.closed.schedulers r.1 (ap has (sym b.0) ∙ so))
      rest (inr there) = more (in-either (buffer_brings g) (split_brings g) l there)

      by : IsIn l (way_brings g host from) ⊎ IsIn l others → has l.sink ≡ true
      by (inl there) = let r = flat-in (λ x. cond (on_way g host x) (bring from (index_at g x)) []) ids l there in along r.0 (on_way g host r.0) refl r.2
      by (inr there) = rest (in-either (scheduler_brings g) (buffer_brings g ++ split_brings g) l there)

  onward : (has : ℕ → Bool) → IsEnough g host has → (n a b : ℕ) → Path links n a b → has a ≡ true → has b ≡ true
  onward has enough zero a b p here = ap has (sym p) ∙ here
  onward has enough (suc n) a b (l, there, source, p) here = onward has enough n l.sink b p (step has enough l there (ap has source ∙ here))

  -- ---- and they are enough

  abbrev need : ℕ → Bool
  need = is_among (need_in g host)

  led : (j : ℕ) → need j ≡ true → Walks links from j
  led j is = path-of links (length links) from j (and_parts (is_needed g host j) (is_among (pipe_indices g) j) (sym (is_among-filter (is_needed g host) (pipe_indices g) j) ∙ is)).0

  have : (j : ℕ) → Walks links from j → is_among (pipe_indices g) j ≡ true → need j ≡ true
  have j w there = is_among-filter (is_needed g host) (pipe_indices g) j ∙ and_from (is_needed g host j) (is_among (pipe_indices g) j) (walks-lead links from j w) there

  end-indexed : (end : Option ℕ) (j : ℕ) → end_index g end ≡ Some j → is_among (pipe_indices g) j ≡ true
  end-indexed None j is = absurd (cc is)
  end-indexed (Some c) j is = (indexed c j is).0

  -- an index that is there brings one that is
  brought : (i j : ℕ) (o : Option ℕ) → need i ≡ true → o ≡ Some j → is_among (pipe_indices g) j ≡ true → ((l : Join) → IsIn l (bring i o) → IsIn l links) → need j ≡ true
  brought i j o so is there sub = let w = led i so in have j (walk-on links w.0 from i j w.1 (walk-bring links i j o is sub)) there

  pub enough : IsEnough g host need
  enough = record {
    way = λ x on. at-has need (index_at g x) (λ j is. have j
        (walk-bring links from j (index_at g x) is
        (λ l here. in-left (way_brings g host from) others l
        (in-flat (λ y. cond (on_way g host y) (bring from (index_at g y)) []) ids x l (indexed x j is).1
        (subst (λ h. IsIn l (cond h (bring from (index_at g x)) [])) (sym on) here))))
        (indexed x j is).0);
    closed = record {
      schedulers = in-each (λ (p : Pipe). need p.index ≡ true → HasAt need (index_at g p.sched)) g.pipes (λ p there so. at-has need (index_at g p.sched) (λ j is.
          brought p.index j (index_at g p.sched) so is (indexed p.sched j is).0
          (λ l here. in-right (way_brings g host from) others l (in-left (scheduler_brings g) (buffer_brings g ++ split_brings g) l
          (in-flat (λ (p : Pipe). bring p.index (index_at g p.sched)) g.pipes p l there here)))));
      ends = in-each (λ (e : Edge). need e.pipe ≡ true → HasAt need (end_index g e.source) × HasAt need (end_index g e.sink)) g.edges (λ e there so. (
        at-has need (end_index g e.source) (λ j is. brought e.pipe j (end_index g e.source) so is (end-indexed e.source j is) (λ l here. at-buffer e there l (in-left (bring e.pipe (end_index g e.source)) (bring e.pipe (end_index g e.sink)) l here))),
        at-has need (end_index g e.sink) (λ j is. brought e.pipe j (end_index g e.sink) so is (end-indexed e.sink j is) (λ l here. at-buffer e there l (in-right (bring e.pipe (end_index g e.source)) (bring e.pipe (end_index g e.sink)) l here))),
      ));
      split = in-each (λ (c : Comp). splits c.kind ≡ true → need c.pipe ≡ true → (x : ℕ) → is_joined_to g c.id x ≡ true → HasAt need (index_at g x)) g.comps (λ c there is so x to. at-has need (index_at g x) (λ j found.
          brought c.pipe j (index_at g x) so found (indexed x j found).0 (at-split c there is x to (indexed x j found).1)));
    };
  }
    where
      at-buffer : (e : Edge) → IsIn e g.edges → (l : Join) → IsIn l (bring e.pipe (end_index g e.source) ++ bring e.pipe (end_index g e.sink)) → IsIn l links
      at-buffer e there l here = in-right (way_brings g host from) others l (in-right (scheduler_brings g) (buffer_brings g ++ split_brings g) l
          (in-left (buffer_brings g) (split_brings g) l (in-flat (λ (e : Edge). bring e.pipe (end_index g e.source) ++ bring e.pipe (end_index g e.sink)) g.edges e l there here)))

      at-split : (c : Comp) → IsIn c g.comps → splits c.kind ≡ true → (x : ℕ) → is_joined_to g c.id x ≡ true → IsIn x ids → (l : Join) → IsIn l (bring c.pipe (index_at g x)) → IsIn l links
      at-split c there is x to within l here = in-right (way_brings g host from) others l (in-right (scheduler_brings g) (buffer_brings g ++ split_brings g) l (in-right (buffer_brings g) (split_brings g) l
          (in-flat (λ (k : Comp). cond (splits k.kind) (joined_brings g k) []) g.comps c l there
          (subst (λ h. IsIn l (cond h (joined_brings g c) [])) (sym is)
          (in-flat (λ y. cond (is_joined_to g c.id y) (bring c.pipe (index_at g y)) []) ids x l within
          (subst (λ h. IsIn l (cond h (bring c.pipe (index_at g x)) [])) (sym to) here))))))

  pub need-least : (i : ℕ) → (need i ≡ true) ↔ IsNeeded g host i
  need-least i = (
    λ is has sat. let w = led i is in onward has sat w.0 from i w.1 (has-at has (index_at g host) from at-host (sat.way host (host-on g host))),
    λ least. least need enough,
  )
