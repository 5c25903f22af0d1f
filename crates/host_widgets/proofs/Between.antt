-- Graphs between what is up and the whole: echo edges of what is up are those of the whole, since with a component that splits, all is up
-- that it reaches or is reached from.
use Rattle.std.proofs.Common.{◌≡◌, refl, sym, ap, subst, ◌∙◌, ℕ, zero, suc, List, [], ◌∷◌, map, length, Bool, true, false, cond, not, inl, inr, ◌⊎◌, ◌==◌, ◌&&◌, Some, None}
use Rattle.std.specs.Prelude.{Option, find}
use Rattle.std.specs.Option.{option_map_or, option_and_then}
use Rattle.std.proofs.lemmas.Bool.{false≢true, or_left, or_right, eqb-true, eq-eqb}
use Rattle.stream_law.specs.declared.graph.Kind.{Kind}
use Rattle.stream_law.specs.declared.graph.Comp.{Comp}
use Rattle.stream_law.specs.declared.graph.Edge.{Edge}
use Rattle.stream_law.specs.declared.graph.Join.{Join}
use Rattle.stream_law.specs.declared.graph.Graph.{Graph}
use Rattle.stream_law.specs.Ways.{comp_of, edge_of, components, reaches, is_of, is_play, is_capture, is_dai_play, splits, reached_by_some, reaches_some, leaves_split, enters_capture, is_echo}
use Rattle.stream_law.specs.Order.{is_among}
use Rattle.stream_law.proofs.Members.{IsIn, in-all, in-filter, filter-any, find-in}
use Rattle.stream_law.proofs.Walking.{Path, Walks, path-of, walk-on, walk-in, walks-lead}
use Rattle.tplg_plan.specs.declared.plans.Plan.{Plan}
use Rattle.tplg_plan.specs.Sound.{IsSound, IsSideOf, IsPassed, FillsBuffer, DrainsBuffer}
use Rattle.host_widgets.proofs.Joined.{side-source, side-sink}
use Rattle.host_widgets.proofs.LookedUp.{all-found, some-counted}
use Rattle.host_widgets.proofs.NamedIds.{component-found, buffer-found}
use Rattle.host_widgets.specs.Need.{HasAt, end_index, is_joined_to, HasBrought}
use Rattle.host_widgets.proofs.Needs.{in-map, has-at}
use Rattle.host_widgets.specs.Indices.{index_at, named_index, is_up, buffer_index, join_index}

pub same-bools : (a b : Bool) → (a ≡ true → b ≡ true) → (b ≡ true → a ≡ true) → a ≡ b
same-bools true b f g = sym (f refl)
same-bools false true f g = g refl
same-bools false false f g = refl

pub reach-walk : (k : Graph) (a b : ℕ) → reaches k a b ≡ true → Walks k.joins a b
unfolding reaches
reach-walk k a b is = path-of k.joins (length k.joins) a b is

pub walk-reach : (k : Graph) (a b : ℕ) → Walks k.joins a b → reaches k a b ≡ true
unfolding reaches
walk-reach k a b w = walks-lead k.joins a b w

-- whether an edge that is found is an echo edge
abbrev pub echo_by : Graph → Option Edge → Bool
echo_by k o = option_map_or (leaves_split k) (option_and_then (λ (e : Edge). e.source) o) false && option_map_or (enters_capture k) (option_and_then (λ (e : Edge). e.sink) o) false

pub echo-by : (k : Graph) (b : ℕ) → is_echo k b ≡ echo_by k (edge_of k b)
unfolding is_echo
echo-by k b = refl

-- a member is found by its key
pub member-found : {X : Type 0} (key : X → ℕ) (xs : List X) (x : ℕ) → IsIn x (map key xs) → (y : X) × (find (λ z. key z == x) xs ≡ Some y)
member-found key [] x none = absurd none
member-found {X} key (z ∷ zs) x there = by (key z == x) refl there (member-found key zs x)
  where
    by : (h : Bool) → (key z == x) ≡ h → IsIn x (key z ∷ map key zs) → (IsIn x (map key zs) → (y : X) × (find (λ z. key z == x) zs ≡ Some y)) → (y : X) × (cond h (Some z) (find (λ z. key z == x) zs) ≡ Some y)
    by true e there rest = (z, refl)
    by false e (inl same) rest = absurd (false≢true (sym e ∙ eq-eqb (key z) x (sym same)))
    by false e (inr more) rest = rest more

-- what is found is a member by its key
pub found-member : {X : Type 0} (key : X → ℕ) (xs : List X) (x : ℕ) (y : X) → find (λ z. key z == x) xs ≡ Some y → IsIn x (map key xs)
found-member key xs x y found =
    let f = find-in (λ z. key z == x) xs y found in subst (λ k. IsIn k (map key xs)) (eqb-true (key y) x f.1) (in-map key xs y f.0)

-- a component of such a kind is there
pub kind-at : (k : Graph) (sort : Kind → Bool) (x : ℕ) → is_of k sort x ≡ true → (c : Comp) × (comp_of k x ≡ Some c) × (sort c.kind ≡ true)
kind-at k sort x is = by (comp_of k x) refl is
  where
    by : (o : Option Comp) → comp_of k x ≡ o → option_map_or (λ (c : Comp). sort c.kind) o false ≡ true → (c : Comp) × (comp_of k x ≡ Some c) × (sort c.kind ≡ true)
    by None at none = absurd (false≢true none)
    by (Some c) at is = (c, at, is)

pub kind-of : (k : Graph) (sort : Kind → Bool) (x : ℕ) (c : Comp) → comp_of k x ≡ Some c → is_of k sort x ≡ sort c.kind
kind-of k sort x c at = ap (λ (o : Option Comp). option_map_or (λ (d : Comp). sort d.kind) o false) at

-- an end of an edge of the one is that of the other, where it is there
abbrev pub EndsIn : Option ℕ → Option ℕ → Type 0
EndsIn o p = (c : ℕ) → o ≡ Some c → p ≡ Some c

-- a graph has all components, edges and joins that are up, and of the whole no others; an edge that is not up may have an open end
pub record IsBetween (g : Graph) (up : List ℕ) (k : Graph) : Type 0 where
  pub comp_whole : (a : ℕ) (c : Comp) → comp_of k a ≡ Some c → (d : Comp) × (comp_of g a ≡ Some d) × (c.kind ≡ d.kind)
  pub comp_up : (a : ℕ) (d : Comp) → comp_of g a ≡ Some d → is_among up d.pipe ≡ true → (c : Comp) × (comp_of k a ≡ Some c) × (c.kind ≡ d.kind)
  pub edge_whole : (b : ℕ) (e : Edge) → edge_of k b ≡ Some e → (f : Edge) × (edge_of g b ≡ Some f) × EndsIn e.source f.source × EndsIn e.sink f.sink
  pub edge_up : (b : ℕ) (f : Edge) → edge_of g b ≡ Some f → is_among up f.pipe ≡ true → edge_of k b ≡ Some f
  pub join_whole : (j : Join) → IsIn j k.joins → IsIn j g.joins
  pub join_up : (j : Join) (i : ℕ) → IsIn j g.joins → join_index g j ≡ Some i → is_among up i ≡ true → IsIn j k.joins

module _ (plan : Plan) (sound : IsSound plan) (up : List ℕ) where
  abbrev g : Graph
  g = plan.graph

  abbrev has : ℕ → Bool
  has i = is_among up i

  -- ---- what is named

  abbrev pub IsNamed : ℕ → Type 0
  IsNamed x = (i : ℕ) × (index_at g x ≡ Some i)

  pub comp-named : (a : ℕ) (c : Comp) → comp_of g a ≡ Some c → index_at g a ≡ Some c.pipe
  comp-named a c found = ap (λ (o : Option Comp). named_index o (edge_of g a)) found

  pub edge-named : (b : ℕ) (e : Edge) → edge_of g b ≡ Some e → index_at g b ≡ Some e.pipe
  edge-named b e found = ap (λ (o : Option Comp). named_index o (edge_of g b)) (buffer-found plan sound b e found).no_comp ∙ ap (named_index None) found

  pub named-up : (x i : ℕ) → index_at g x ≡ Some i → has i ≡ true → is_up g up x ≡ true
  named-up x i is there = ap (λ (o : Option ℕ). option_map_or has o false) is ∙ there

  pub up-named : (x i : ℕ) → index_at g x ≡ Some i → is_up g up x ≡ true → has i ≡ true
  up-named x i is there = ap (λ (o : Option ℕ). option_map_or has o false) (sym is) ∙ there

  pub at-up : (x : ℕ) → IsNamed x → HasAt has (index_at g x) → is_up g up x ≡ true
  at-up x n at = named-up x n.0 n.1 (has-at has (index_at g x) n.0 n.1 at)

  -- ---- joins of the whole

  abbrev pub Side : Join → Type 0
  Side j = FillsBuffer g j ⊎ DrainsBuffer g j

  pub side-of : (j : Join) → IsIn j g.joins → Side j
  side-of j there = (in-all (IsSideOf g) g.joins j sound.joins there).between

  pub source-named : (j : Join) → Side j → IsNamed j.source
  source-named j (inl (c, e, at, to, is)) = (c.pipe, comp-named j.source c at)
  source-named j (inr (e, c, at, to, is)) = (e.pipe, edge-named j.source e at)

  pub sink-named : (j : Join) → Side j → IsNamed j.sink
  sink-named j (inl (c, e, at, to, is)) = (e.pipe, edge-named j.sink e to)
  sink-named j (inr (e, c, at, to, is)) = (c.pipe, comp-named j.sink c to)

  -- the index of a join's buffer
  pub fills-index : (j : Join) (c : Comp) (e : Edge) → comp_of g j.source ≡ Some c → edge_of g j.sink ≡ Some e → join_index g j ≡ Some e.pipe
  fills-index j c e at to = λ i. buffer_index ((component-found plan sound j.source c at).no_edge i) (to i)

  pub drains-index : (j : Join) (e : Edge) → edge_of g j.source ≡ Some e → join_index g j ≡ Some e.pipe
  drains-index j e at = ap (λ (o : Option Edge). buffer_index o (edge_of g j.sink)) at

  joined-at : (j : Join) → Side j → is_up g up j.source ≡ true → is_up g up j.sink ≡ true → (i : ℕ) × (join_index g j ≡ Some i) × (has i ≡ true)
  joined-at j (inl (c, e, at, to, is)) source sink = (e.pipe, fills-index j c e at to, up-named j.sink e.pipe (edge-named j.sink e to) sink)
  joined-at j (inr (e, c, at, to, is)) source sink = (e.pipe, drains-index j e at, up-named j.source e.pipe (edge-named j.source e at) source)

  -- ---- walks of the whole

  abbrev pub WalksOn : ℕ → ℕ → Type 0
  WalksOn a b = Walks g.joins a b

  -- what a walk leads to is named where its start is
  walk-named : (n a b : ℕ) → Path g.joins n a b → IsNamed a → IsNamed b
  walk-named zero a b p named = subst IsNamed p named
  walk-named (suc n) a b (j, there, from, p) named = walk-named n j.sink b p (sink-named j (side-of j there))

  start-named : (n a b : ℕ) → Path g.joins n a b → IsNamed b → IsNamed a
  start-named zero a b p named = subst IsNamed (sym p) named
  start-named (suc n) a b (j, there, from, p) named = subst IsNamed from (source-named j (side-of j there))

  -- the joins at both sides of an edge
  pub join-into : (b : ℕ) (e : Edge) (s : ℕ) → edge_of g b ≡ Some e → e.source ≡ Some s → (j : Join) × IsIn j g.joins × (j.source ≡ s) × (j.sink ≡ b)
  join-into b e s found from =
      let same = (buffer-found plan sound b e found).same in
      let there : edge_of g e.buffer ≡ Some e = ap (edge_of g) same ∙ found in
      let passed = all-found (IsPassed g) (λ (x : Edge). x.buffer == b) g.edges e sound.passed found in
      let j = some-counted (λ (x : Join). x.sink == e.buffer) g.joins passed.ins in
      let j_in = find-in (λ (x : Join). x.sink == e.buffer) g.joins j.0 j.1 in
      (j.0, j_in.0, cc (sym (side-source plan sound g.joins sound.joins e.buffer e j.0 there j.1) ∙ from), eqb-true j.0.sink e.buffer j_in.1 ∙ same)

  pub join-outof : (b : ℕ) (e : Edge) (d : ℕ) → edge_of g b ≡ Some e → e.sink ≡ Some d → (j : Join) × IsIn j g.joins × (j.source ≡ b) × (j.sink ≡ d)
  join-outof b e d found to =
      let same = (buffer-found plan sound b e found).same in
      let there : edge_of g e.buffer ≡ Some e = ap (edge_of g) same ∙ found in
      let passed = all-found (IsPassed g) (λ (x : Edge). x.buffer == b) g.edges e sound.passed found in
      let j = some-counted (λ (x : Join). x.source == e.buffer) g.joins passed.outs in
      let j_in = find-in (λ (x : Join). x.source == e.buffer) g.joins j.0 j.1 in
      (j.0, j_in.0, eqb-true j.0.source e.buffer j_in.1 ∙ same, cc (sym (side-sink plan sound g.joins sound.joins e.buffer e j.0 there j.1) ∙ to))

  -- an edge leads from its source to its sink
  pub source-walk : (b s : ℕ) (e : Edge) → edge_of g b ≡ Some e → e.source ≡ Some s → WalksOn s b
  source-walk b s e found from = let j = join-into b e s found from in (1, (j.0, j.1, j.2, j.3))

  edge-walk : (b a d : ℕ) (e : Edge) → edge_of g b ≡ Some e → e.source ≡ Some a → e.sink ≡ Some d → WalksOn a d
  edge-walk b a d e found from to =
      let j = join-into b e a found from in let k = join-outof b e d found to in (2, (j.0, j.1, j.2, (k.0, k.1, k.2 ∙ sym j.3, k.3)))

  -- ---- with a component that splits, all is up that it reaches or is reached from

  module _ (brought : HasBrought g has) (a : ℕ) (c : Comp) (found : comp_of g a ≡ Some c) (there : has c.pipe ≡ true) (is : splits c.kind ≡ true) where
    joined-up : (x : ℕ) → is_joined_to g a x ≡ true → HasAt has (index_at g x)
    joined-up x to =
        let f = find-in (λ (k : Comp). k.id == a) g.comps c found in
        in-all (λ (k : Comp). splits k.kind ≡ true → has k.pipe ≡ true → (y : ℕ) → is_joined_to g k.id y ≡ true → HasAt has (index_at g y)) g.comps c brought.split f.0 is there x
        (ap (λ (id : ℕ). is_joined_to g id x) (eqb-true c.id a f.1) ∙ to)

    pub behind-up : (x : ℕ) → WalksOn a x → is_up g up x ≡ true
    behind-up x w = at-up x (walk-named w.0 a x w.1 (c.pipe, comp-named a c found)) (joined-up x (or_left (reaches g a x) (reaches g x a) (walk-reach g a x w)))

    pub before-up : (x : ℕ) → WalksOn x a → is_up g up x ≡ true
    before-up x w = at-up x (start-named w.0 x a w.1 (c.pipe, comp-named a c found)) (joined-up x (or_right (reaches g a x) (reaches g x a) (walk-reach g x a w)))

  -- the source of an edge that is up is up
  pub source-up : (brought : HasBrought g has) (b : ℕ) (e : Edge) (s : Comp) → edge_of g b ≡ Some e → has e.pipe ≡ true → e.source ≡ Some s.id → comp_of g s.id ≡ Some s → has s.pipe ≡ true
  source-up brought b e s at keeps from found =
      let both = in-all (λ (x : Edge). has x.pipe ≡ true → HasAt has (end_index g x.source) × HasAt has (end_index g x.sink)) g.edges e brought.ends (find-in (λ (x : Edge). x.buffer == b) g.edges e at).0 keeps in
      has-at has (end_index g e.source) s.pipe (ap (end_index g) from ∙ comp-named s.id s found) both.0

  -- ---- a graph between

  module _ (k : Graph) (between : IsBetween g up k) where
    -- a join between what is up is there
    pub join-there : (j : Join) → IsIn j g.joins → is_up g up j.source ≡ true → is_up g up j.sink ≡ true → IsIn j k.joins
    join-there j there source sink = let r = joined-at j (side-of j there) source sink in between.join_up j r.0 there r.1 r.2

    whole-walk : (a b : ℕ) → Walks k.joins a b → WalksOn a b
    whole-walk a b w = (w.0, walk-in k.joins g.joins between.join_whole w.0 a b w.1)

    -- a walk on which all is up
    path-up : (n a b : ℕ) → Path g.joins n a b → ((x : ℕ) → WalksOn a x → WalksOn x b → is_up g up x ≡ true) → Path k.joins n a b
    path-up zero a b p all = p
    path-up (suc n) a b (j, there, from, p) all =
        let source : is_up g up j.source ≡ true = ap (is_up g up) from ∙ all a (0, refl) (suc n, (j, there, from, p)) in
        let sink : is_up g up j.sink ≡ true = all j.sink (1, (j, there, from, refl)) (n, p) in
        (j, join-there j there source sink, from, path-up n j.sink b p (λ x w v. all x (suc w.0, (j, there, from, w.1)) v))

    -- ---- kinds

    pub whole-kind : (sort : Kind → Bool) (x : ℕ) → is_of k sort x ≡ true → is_of g sort x ≡ true
    whole-kind sort x is =
        let r = kind-at k sort x is in
        let w = between.comp_whole x r.0 r.1 in
        kind-of g sort x w.0 w.1 ∙ ap sort (sym w.2) ∙ r.2

    up-kind : (sort : Kind → Bool) (x : ℕ) → is_of g sort x ≡ true → is_up g up x ≡ true → is_of k sort x ≡ true
    up-kind sort x is there =
        let r = kind-at g sort x is in
        let u = between.comp_up x r.0 r.1 (up-named x r.0.pipe (comp-named x r.0 r.1) there) in
        kind-of k sort x u.0 u.1 ∙ ap sort u.2 ∙ r.2

    pub kind-stays : (sort : Kind → Bool) (x : ℕ) → is_up g up x ≡ true → is_of k sort x ≡ is_of g sort x
    kind-stays sort x there = same-bools (is_of k sort x) (is_of g sort x) (whole-kind sort x) (λ is. up-kind sort x is there)

    pub kind-in : (m : Graph) (sort : Kind → Bool) (x : ℕ) → is_of m sort x ≡ true → IsIn x (components m)
    kind-in m sort x is = let r = kind-at m sort x is in found-member (λ (c : Comp). c.id) m.comps x r.0 r.1

    -- ---- what reaches, and what is reached

    by-some-stays : (sort : Kind → Bool) (a : ℕ) → ((x : ℕ) → WalksOn x a → is_up g up x ≡ true) → reached_by_some k sort a ≡ reached_by_some g sort a
    by-some-stays sort a all = same-bools (reached_by_some k sort a) (reached_by_some g sort a) one other
      where
        one : reached_by_some k sort a ≡ true → reached_by_some g sort a ≡ true
        one is =
            let r = in-filter (λ (c : ℕ). reaches k c a) (is_of k sort) (components k) is in
            let kind = whole-kind sort r.0 r.2 in
            filter-any (λ (c : ℕ). reaches g c a) (is_of g sort) (components g) r.0 (kind-in g sort r.0 kind) kind (walk-reach g r.0 a (whole-walk r.0 a (reach-walk k r.0 a r.3)))

        other : reached_by_some g sort a ≡ true → reached_by_some k sort a ≡ true
        other is =
            let r = in-filter (λ (c : ℕ). reaches g c a) (is_of g sort) (components g) is in
            let w = reach-walk g r.0 a r.3 in
            let kind = up-kind sort r.0 r.2 (all r.0 w) in
            filter-any (λ (c : ℕ). reaches k c a) (is_of k sort) (components k) r.0 (kind-in k sort r.0 kind) kind (walk-reach k r.0 a (w.0, path-up w.0 r.0 a w.1 (λ x v u. all x u)))

    some-stays : (sort : Kind → Bool) (a : ℕ) → ((x : ℕ) → WalksOn a x → is_up g up x ≡ true) → reaches_some k sort a ≡ reaches_some g sort a
    some-stays sort a all = same-bools (reaches_some k sort a) (reaches_some g sort a) one other
      where
        one : reaches_some k sort a ≡ true → reaches_some g sort a ≡ true
        one is =
            let r = in-filter (λ (c : ℕ). reaches k a c) (is_of k sort) (components k) is in
            let kind = whole-kind sort r.0 r.2 in
            filter-any (λ (c : ℕ). reaches g a c) (is_of g sort) (components g) r.0 (kind-in g sort r.0 kind) kind (walk-reach g a r.0 (whole-walk a r.0 (reach-walk k a r.0 r.3)))

        other : reaches_some g sort a ≡ true → reaches_some k sort a ≡ true
        other is =
            let r = in-filter (λ (c : ℕ). reaches g a c) (is_of g sort) (components g) is in
            let w = reach-walk g a r.0 r.3 in
            let kind = up-kind sort r.0 r.2 (all r.0 w) in
            filter-any (λ (c : ℕ). reaches k a c) (is_of k sort) (components k) r.0 (kind-in k sort r.0 kind) kind (walk-reach k a r.0 (w.0, path-up w.0 a r.0 w.1 (λ x v u. all x v)))

    -- ---- echo edges

    module _ (brought : HasBrought g has) where
      module _ (a : ℕ) (c : Comp) (found : comp_of g a ≡ Some c) (there : has c.pipe ≡ true) where
        here-up : is_up g up a ≡ true
        here-up = named-up a c.pipe (comp-named a c found) there

        no-split : splits c.kind ≡ false → is_of g splits a ≡ false
        no-split is = kind-of g splits a c found ∙ is

        leaves-stays : splits c.kind ≡ true → leaves_split k a ≡ leaves_split g a
        leaves-stays is = λ i. kind-stays splits a here-up i && by-some-stays is_play a (before-up brought a c found there is) i && some-stays is_dai_play a (behind-up brought a c found there is) i

        -- after one that does not split no edge is an echo edge
        leaves-none : splits c.kind ≡ false → (leaves_split k a ≡ false) × (leaves_split g a ≡ false)
        leaves-none is = (
          ap (λ (b : Bool). b && reached_by_some k is_play a && reaches_some k is_dai_play a) (kind-stays splits a here-up ∙ no-split is),
          ap (λ (b : Bool). b && reached_by_some g is_play a && reaches_some g is_dai_play a) (no-split is),
        )

        enters-stays : splits c.kind ≡ true → (d : ℕ) → WalksOn a d → enters_capture k d ≡ enters_capture g d
        enters-stays is d v =
            let all : (x : ℕ) → WalksOn d x → is_up g up x ≡ true = λ x w. behind-up brought a c found there is x (walk-on g.joins v.0 a d x v.1 w) in
            λ i. some-stays is_capture d all i && not (some-stays is_dai_play d all i)

        edge-stays : (b d : ℕ) (e : Edge) → edge_of g b ≡ Some e → e.source ≡ Some a → e.sink ≡ Some d → echo_by k (Some e) ≡ echo_by g (Some e)
        edge-stays b d e edge from to = by (splits c.kind) refl
          where
            at : (m : Graph) → echo_by m (Some e) ≡ (leaves_split m a && enters_capture m d)
            at m = λ i. option_map_or (leaves_split m) (from i) false && option_map_or (enters_capture m) (to i) false

            by : (s : Bool) → splits c.kind ≡ s → echo_by k (Some e) ≡ echo_by g (Some e)
            by true is = at k ∙ (λ i. leaves-stays is i && enters-stays is d (edge-walk b a d e edge from to) i) ∙ sym (at g)
            by false is = at k ∙ ap (λ (l : Bool). l && enters_capture k d) (leaves-none is).0 ∙ sym (at g ∙ ap (λ (l : Bool). l && enters_capture g d) (leaves-none is).1)

      -- of an edge that is up
      pub echo-stays : (b : ℕ) (e : Edge) → edge_of g b ≡ Some e → has e.pipe ≡ true → is_echo k b ≡ is_echo g b
      echo-stays b e at keeps =
          let is = (buffer-found plan sound b e at).is in
          echo-by k b ∙ ap (echo_by k) (between.edge_up b e at keeps)
          ∙ edge-stays is.source.id is.source is.from.1 (source-up brought b e is.source at keeps is.from.0 is.from.1) b is.sink.id e at is.from.0 is.to.0
          ∙ sym (echo-by g b ∙ ap (echo_by g) at)

    -- what is no buffer of the whole is no echo edge
    pub none-echo : (x : ℕ) → edge_of g x ≡ None → is_echo k x ≡ false
    none-echo x none = echo-by k x ∙ by (edge_of k x) refl
      where
        by : (o : Option Edge) → edge_of k x ≡ o → echo_by k o ≡ false
        by None at = refl
        by (Some e) at = let w = between.edge_whole x e at in absurd (cc (sym none ∙ w.1))

-- the whole has no echo edge either where there is no buffer
pub never-echo : (g : Graph) (x : ℕ) → edge_of g x ≡ None → is_echo g x ≡ false
never-echo g x none = echo-by g x ∙ ap (echo_by g) none
