-- A graph in which what is set at components is changed, and nothing else of them.
use Rattle.std.proofs.Common.{◌≡◌, refl, sym, ap, ◌∙◌, subst, ℕ, suc, ◌+◌, ◌<◌, ◌≤◌, List, [], ◌∷◌, ◌++◌, map, length, Option, Some, None, Bool, true, false, cond, not, ◌==◌, ◌&&◌, ◌||◌, arith}
use Rattle.std.proofs.lemmas.Bool.{eqb-true, ltb-true, ltb-false, true≢false, false≢true, and_parts, and_from}
use Rattle.std.specs.Prelude.{find, is_some, option_map, nat_lt, position, slice_set, slice_index_or}
use Rattle.std.specs.List.{list_any, list_all, AllByRecursion, IsDistinct, position_or_len}
use Rattle.sof_base.specs.declared.format.Params.{Params}
use Rattle.stream_law.specs.declared.graph.Kind.{Kind}
use Rattle.stream_law.specs.declared.graph.Setting.{Setting}
use Rattle.stream_law.specs.declared.graph.Comp.{Comp}
use Rattle.stream_law.specs.declared.graph.Edge.{Edge}
use Rattle.stream_law.specs.declared.graph.Graph.{Graph}
use Rattle.stream_law.specs.declared.stream.StreamView.{StreamView}
use Rattle.stream_law.specs.Placed.{HasDistinct}
use Rattle.stream_law.specs.State.{HeapView}
use Rattle.stream_law.specs.Ways.{comp_of, components, buffers, source_of, sink_of, ins, outs, is_echo, on_way}
use Rattle.stream_law.specs.Joins.{fits_kind}
use Rattle.stream_law.specs.Order.{is_among}
use Rattle.stream_law.specs.Stays.{SameWays}
use Rattle.stream_law.proofs.Shapes.{echo_same, on_way_same}
use Rattle.mbox_link.specs.Step.{has_comp, has_edge, has_kind, is_host, kind_at, is_complete, is_ready_comp, is_ready_edge, is_way_ready, is_used, with_setting}
use Rattle.row_laws.specs.Kept.{ArePieces, IsRampOf, has_piece}
use Rattle.row_laws.specs.Wired.{IsWired, HasJoinedSides, IsSide, IsBetween, IsJoinedFrom, IsJoinedTo, is_node}
use Rattle.row_laws.specs.Played.{IsStreamSet, IsSetBy, is_idle}
use Rattle.row_laws.proofs.Growing.{all-by}
use Rattle.row_laws.proofs.Unreached.{eqb-turned}
use Rattle.row_laws.proofs.Fewer.{all-any, all-test, test-all}

module _ (id : ℕ) (setting : Setting) where
  abbrev set : Comp → Comp
  set c = with_setting id setting c

  set-id : (c : Comp) → (set c).id ≡ c.id
  set-id c = by (c.id == id)
    where
      by : (h : Bool) → (cond h (record c { setting = setting }) c).id ≡ c.id
      by true = refl
      by false = refl

  set-kind : (c : Comp) → (set c).kind ≡ c.kind
  set-kind c = by (c.id == id)
    where
      by : (h : Bool) → (cond h (record c { setting = setting }) c).kind ≡ c.kind
      by true = refl
      by false = refl

  set-ramp : (c : Comp) → (set c).ramp ≡ c.ramp
  set-ramp c = by (c.id == id)
    where
      by : (h : Bool) → (cond h (record c { setting = setting }) c).ramp ≡ c.ramp
      by true = refl
      by false = refl

  set-pipe : (c : Comp) → (set c).pipe ≡ c.pipe
  set-pipe c = by (c.id == id)
    where
      by : (h : Bool) → (cond h (record c { setting = setting }) c).pipe ≡ c.pipe
      by true = refl
      by false = refl

  -- ---- lists

  all-set : (P : Comp → Type 0) (cs : List Comp) → AllByRecursion (λ c. P (set c)) cs → AllByRecursion P (map set cs)
  all-set P [] all = tt
  all-set P (c ∷ cs) all = (all.0, all-set P cs all.1)

  pub ids-set : (cs : List Comp) → map (λ (c : Comp). c.id) (map set cs) ≡ map (λ (c : Comp). c.id) cs
  ids-set [] = refl
  ids-set (c ∷ cs) = ap (λ (p : ℕ × List ℕ). p.0 ∷ p.1) (λ i. (set-id c i, ids-set cs i))

  any-set : (n : ℕ) (cs : List Comp) → list_any (λ c. c.id == n) (map set cs) ≡ list_any (λ c. c.id == n) cs
  any-set n [] = refl
  any-set n (c ∷ cs) = ap (λ (p : ℕ × Bool). (p.0 == n) || p.1) (λ i. (set-id c i, any-set n cs i))

  find-set : (n : ℕ) (cs : List Comp) → find (λ c. c.id == n) (map set cs) ≡ option_map set (find (λ c. c.id == n) cs)
  find-set n [] = refl
  find-set n (c ∷ cs) =
      ap (λ (p : ℕ × Option Comp). cond (p.0 == n) (Some (set c)) p.1) (λ i. (set-id c i, find-set n cs i))
      ∙ by (c.id == n)
    where
      by : (h : Bool) → cond h (Some (set c)) (option_map set (find (λ c. c.id == n) cs)) ≡ option_map set (cond h (Some c) (find (λ c. c.id == n) cs))
      by true = refl
      by false = refl

  -- what is found at another id
  pub find-apart : (n : ℕ) → (n == id) ≡ false → (cs : List Comp) → find (λ c. c.id == n) (map set cs) ≡ find (λ c. c.id == n) cs
  find-apart n other [] = refl
  find-apart n other (c ∷ cs) =
      ap (λ (p : ℕ × Option Comp). cond (p.0 == n) (Some (set c)) p.1) (λ i. (set-id c i, find-apart n other cs i))
      ∙ by (c.id == n) refl
    where
      by : (h : Bool) → (c.id == n) ≡ h → cond h (Some (set c)) (find (λ c. c.id == n) cs) ≡ cond h (Some c) (find (λ c. c.id == n) cs)
      by true same = ap (λ h. Some (cond h (record c { setting = setting }) c)) (ap (λ m. m == id) (eqb-true c.id n same) ∙ other)
      by false same = refl

  -- ---- the component of this id, by its place

  -- where no key comes twice, no other has it
  set-rest : (c : Comp) → (c.id == id) ≡ true → (cs : List Comp) → AllByRecursion (λ n. (c.id == n) ≡ false) (map (λ (c : Comp). c.id) cs) → map set cs ≡ cs
  set-rest c same [] apart = refl
  set-rest c same (x ∷ cs) apart =
      let other : (x.id == id) ≡ false = eqb-turned id x.id (ap (λ n. n == x.id) (sym (eqb-true c.id id same)) ∙ apart.0) in
      ap (λ (p : Bool × List Comp). cond p.0 (record x { setting = setting }) x ∷ p.1) (λ i. (other i, set-rest c same cs apart.1 i))

  set-first : (d : Comp) (cs : List Comp) → HasDistinct (λ c. c.id) cs → position_or_len (λ c. c.id == id) cs < length cs → slice_set cs (position_or_len (λ c. c.id == id) cs) (record (slice_index_or cs (position_or_len (λ c. c.id == id) cs) d) { setting = setting }) ≡ map set cs
  unfolding IsDistinct
  set-first d [] distinct within = absurd (omega (arith, within))
  set-first d (c ∷ cs) distinct within = by (c.id == id) refl within (set-first d cs distinct.1)
    where
      by : (h : Bool) → (c.id == id) ≡ h → cond (not h) (1 + position_or_len (λ c. c.id == id) cs) 0 < suc (length cs) → (position_or_len (λ c. c.id == id) cs < length cs → slice_set cs (position_or_len (λ c. c.id == id) cs) (record (slice_index_or cs (position_or_len (λ c. c.id == id) cs) d) { setting = setting }) ≡ map set cs) → slice_set (c ∷ cs) (cond (not h) (1 + position_or_len (λ c. c.id == id) cs) 0) (record (slice_index_or (c ∷ cs) (cond (not h) (1 + position_or_len (λ c. c.id == id) cs) 0) d) { setting = setting }) ≡ cond h (record c { setting = setting }) c ∷ map set cs
      by true same inside more = ap (λ (xs : List Comp). record c { setting = setting } ∷ xs) (sym (set-rest c same cs distinct.0))
      by false same inside more =
          let next : 1 + position_or_len (λ c. c.id == id) cs ≡ suc (position_or_len (λ c. c.id == id) cs) = omega arith in
          ap (λ k. slice_set (c ∷ cs) k (record (slice_index_or (c ∷ cs) k d) { setting = setting })) next ∙ ap (λ (xs : List Comp). c ∷ xs) (more (omega (arith, inside)))

  pub set-at : (d : Comp) (place : ℕ) (cs : List Comp) → HasDistinct (λ c. c.id) cs → position (λ c. c.id == id) cs ≡ Some place → slice_set cs place (record (slice_index_or cs place d) { setting = setting }) ≡ map set cs
  set-at d place cs distinct is = by (nat_lt (position_or_len (λ c. c.id == id) cs) (length cs)) refl is
    where
      by : (h : Bool) → nat_lt (position_or_len (λ c. c.id == id) cs) (length cs) ≡ h → cond h (Some (position_or_len (λ c. c.id == id) cs)) None ≡ Some place → slice_set cs place (record (slice_index_or cs place d) { setting = setting }) ≡ map set cs
      by true within e = let same : position_or_len (λ c. c.id == id) cs ≡ place = cc e in ap (λ k. slice_set cs k (record (slice_index_or cs k d) { setting = setting })) (sym same) ∙ set-first d cs distinct (ltb-true (position_or_len (λ c. c.id == id) cs) (length cs) within)
      by false within e = absurd (cc e)

  set-none : (cs : List Comp) → length cs ≤ position_or_len (λ c. c.id == id) cs → cs ≡ map set cs
  set-none [] past = refl
  set-none (c ∷ cs) past = by (c.id == id) refl past (set-none cs)
    where
      by : (h : Bool) → (c.id == id) ≡ h → suc (length cs) ≤ cond (not h) (1 + position_or_len (λ c. c.id == id) cs) 0 → (length cs ≤ position_or_len (λ c. c.id == id) cs → cs ≡ map set cs) → c ∷ cs ≡ cond h (record c { setting = setting }) c ∷ map set cs
      by true same past rest = absurd (omega (arith, past))
      by false same past rest = ap (λ (xs : List Comp). c ∷ xs) (rest (omega (arith, past)))

  pub set-nowhere : (cs : List Comp) → position (λ c. c.id == id) cs ≡ None → cs ≡ map set cs
  set-nowhere cs is = by (nat_lt (position_or_len (λ c. c.id == id) cs) (length cs)) refl is
    where
      by : (h : Bool) → nat_lt (position_or_len (λ c. c.id == id) cs) (length cs) ≡ h → cond h (Some (position_or_len (λ c. c.id == id) cs)) None ≡ None → cs ≡ map set cs
      by true within e = absurd (cc e)
      by false within e = set-none cs (ltb-false (position_or_len (λ c. c.id == id) cs) (length cs) within)

  -- ---- graphs

  module _ (g : Graph) where
    abbrev after : Graph
    after = record { comps = map set g.comps; edges = g.edges; pipes = g.pipes; joins = g.joins }

    pub comp-set : (n : ℕ) → comp_of after n ≡ option_map set (comp_of g n)
    comp-set n = find-set n g.comps

    pub has-set : (n : ℕ) → has_comp after n ≡ has_comp g n
    has-set n = any-set n g.comps

    pub kind-set : (n : ℕ) → kind_at after n ≡ kind_at g n
    kind-set n = ap (λ (o : Option Comp). option_map (λ c. c.kind) o) (comp-set n) ∙ by (comp_of g n)
      where
        by : (o : Option Comp) → option_map (λ c. c.kind) (option_map set o) ≡ option_map (λ c. c.kind) o
        by None = refl
        by (Some c) = ap (λ k. Some k) (set-kind c)

    same-ways : SameWays g after
    same-ways = record { joins = refl; edges = refl; ids = sym (ids-set g.comps); kinds = λ c. sym (kind-set c) }

    way-set : (n x : ℕ) → on_way after n x ≡ on_way g n x
    way-set n x = sym (on_way_same g after same-ways n x)

    pub echo-set : (b : ℕ) → is_echo after b ≡ true → (is_echo g b ≡ true) × (source_of after b ≡ source_of g b) × (sink_of after b ≡ sink_of g b)
    echo-set b is = (echo_same g after same-ways b ∙ is, refl, refl)

    pub ways-set : (ss : List StreamView) → AllByRecursion (λ s. true ≡ true → is_some s.params ≡ true → (x : ℕ) → on_way after s.host x ≡ on_way g s.host x) ss
    ways-set ss = all-any (λ (s : StreamView). true ≡ true → is_some s.params ≡ true → (x : ℕ) → on_way after s.host x ≡ on_way g s.host x) (λ s kept has x. way-set s.host x) ss

    pub bare-set : (ss : List StreamView) → AllByRecursion (λ s. true ≡ false → is_some s.params ≡ false) ss
    bare-set ss = all-any (λ (s : StreamView). true ≡ false → is_some s.params ≡ false) (λ s e. absurd (true≢false e)) ss

    ready-set : (h : ℕ) → is_way_ready g h ≡ true → is_way_ready after h ≡ true
    unfolding is_way_ready
    ready-set h ready =
        let parts = and_parts (list_all (λ x. not (on_way g h x.id) || is_ready_comp g x) g.comps) (list_all (λ e. not (on_way g h e.buffer) || is_ready_edge g e) g.edges) ready in
        and_from _ _
        (test-all (λ (x : Comp). not (on_way after h x.id) || is_ready_comp after x) (map set g.comps) (all-set (λ x. (not (on_way after h x.id) || is_ready_comp after x) ≡ true) g.comps (all-by (λ x. (not (on_way g h x.id) || is_ready_comp g x) ≡ true) (λ x. (not (on_way after h (set x).id) || is_ready_comp after (set x)) ≡ true) comp-ready g.comps (all-test (λ (x : Comp). not (on_way g h x.id) || is_ready_comp g x) g.comps parts.0))))
        (test-all (λ (e : Edge). not (on_way after h e.buffer) || is_ready_edge after e) g.edges (all-by (λ e. (not (on_way g h e.buffer) || is_ready_edge g e) ≡ true) (λ e. (not (on_way after h e.buffer) || is_ready_edge after e) ≡ true) (λ e was. ap (λ t. not t || is_ready_edge g e) (way-set h e.buffer) ∙ was) g.edges (all-test (λ (e : Edge). not (on_way g h e.buffer) || is_ready_edge g e) g.edges parts.1)))
      where
        comp-ready : (x : Comp) → (not (on_way g h x.id) || is_ready_comp g x) ≡ true → (not (on_way after h (set x).id) || is_ready_comp after (set x)) ≡ true
        comp-ready x was =
            ap (λ (p : ℕ × ℕ × Kind). not (on_way after h p.0) || (is_complete g p.1 && fits_kind p.2 (length (ins g p.0)) (length (outs g p.0)))) (λ i. (set-id x i, set-pipe x i, set-kind x i))
            ∙ ap (λ t. not t || is_ready_comp g x) (way-set h x.id) ∙ was

    pub readies-set : (ss : List StreamView) → AllByRecursion (IsStreamSet g) ss → AllByRecursion (λ s. true ≡ true → is_some s.params ≡ true → is_way_ready after s.host ≡ true) ss
    readies-set ss sets = all-by (IsStreamSet g) (λ s. true ≡ true → is_some s.params ≡ true → is_way_ready after s.host ≡ true) (λ s is_set kept has. ready-set s.host (was s.host (is_idle s.phase) s.params has is_set)) ss sets
      where
        was : (h : ℕ) (idle : Bool) (o : Option Params) → is_some o ≡ true → IsSetBy g h idle o → is_way_ready g h ≡ true
        was h idle None has is_set = absurd (false≢true has)
        was h idle (Some q) has is_set = is_set.3

    pub owned-set : (ss : List StreamView) → AllByRecursion (λ s. has_kind is_host (kind_at g s.host) ≡ true) ss → AllByRecursion (λ s. true ≡ true → has_kind is_host (kind_at after s.host) ≡ true) ss
    owned-set ss owned = all-by (λ s. has_kind is_host (kind_at g s.host) ≡ true) (λ s. true ≡ true → has_kind is_host (kind_at after s.host) ≡ true) (λ s is kept. ap (has_kind is_host) (kind-set s.host) ∙ is) ss owned

    pub nodes-set : (x : ℕ) → is_among (components after ++ buffers after) x ≡ true → is_among (components g ++ buffers g) x ≡ true
    nodes-set x there = ap (λ (ids : List ℕ). is_among (ids ++ buffers g) x) (sym (ids-set g.comps)) ∙ there

    node-set : (n : ℕ) → is_node after n ≡ is_node g n
    node-set n = ap (λ h. h || has_edge g n) (has-set n)

    side-set : (o : Option ℕ) → IsSide g o → IsSide after o
    side-set None is = tt
    side-set (Some c) is = has-set c ∙ is

    from-set : (o : Option ℕ) (b : ℕ) → IsJoinedFrom g o b → IsJoinedFrom after o b
    from-set None b joined = tt
    from-set (Some c) b joined = joined

    to-set : (b : ℕ) (o : Option ℕ) → IsJoinedTo g b o → IsJoinedTo after b o
    to-set b None joined = tt
    to-set b (Some c) joined = joined

    pub linked-set : HasJoinedSides g → HasJoinedSides after
    linked-set linked = record {
      at = linked.at;
      from = all-by (λ e. IsJoinedFrom g e.source e.buffer) (λ e. IsJoinedFrom after e.source e.buffer) (λ e joined. from-set e.source e.buffer joined) g.edges linked.from;
      to = all-by (λ e. IsJoinedTo g e.buffer e.sink) (λ e. IsJoinedTo after e.buffer e.sink) (λ e joined. to-set e.buffer e.sink joined) g.edges linked.to;
      open_ends = linked.open_ends;
    }

    pub wired-set : IsWired g → IsWired after
    wired-set wired = record {
      ids = subst (λ (ns : List ℕ). IsDistinct (λ m n. m == n) ns) (sym (ids-set g.comps)) wired.ids;
      buffers = wired.buffers;
      names = wired.names;
      apart = all-by (λ e. has_comp g e.buffer ≡ false) (λ e. has_comp after e.buffer ≡ false) (λ e is. has-set e.buffer ∙ is) g.edges wired.apart;
      alone = all-by (λ p. is_node g p.id ≡ false) (λ p. is_node after p.id ≡ false) (λ p is. node-set p.id ∙ is) g.pipes wired.alone;
      ends = all-by (IsBetween g) (IsBetween after) (λ j is. (node-set j.source ∙ is.0, node-set j.sink ∙ is.1)) g.joins wired.ends;
      sides = all-by (λ e. IsSide g e.source × IsSide g e.sink) (λ e. IsSide after e.source × IsSide after e.sink) (λ e is. (side-set e.source is.0, side-set e.sink is.1)) g.edges wired.sides;
      periods = wired.periods;
    }

    pub ramps-set : AllByRecursion (λ c. IsRampOf c.kind c.ramp) g.comps → AllByRecursion (λ c. IsRampOf c.kind c.ramp) (map set g.comps)
    ramps-set ramps = all-set (λ c. IsRampOf c.kind c.ramp) g.comps (all-by (λ c. IsRampOf c.kind c.ramp) (λ c. IsRampOf (set c).kind (set c).ramp) (λ c is. subst (λ (p : Kind × ℕ). IsRampOf p.0 p.1) (λ i. (sym (set-kind c) i, sym (set-ramp c) i)) is) g.comps ramps)

    pub pieces-set : (heap : HeapView) → length (map set g.comps) ≡ length g.comps → ArePieces g heap → ArePieces after heap
    pieces-set heap long are = record {
      few = subst (λ n. length heap.pieces ≤ n + length g.edges + length g.pipes) (sym long) are.few;
      named = all-by (λ p. is_used g p.id ≡ true) (λ p. is_used after p.id ≡ true) (λ p is. ap (λ h. (h || has_edge g p.id) || list_any (λ q. q.id == p.id) g.pipes) (has-set p.id) ∙ is) heap.pieces are.named;
      comps = all-set (λ c. has_piece heap c.id ≡ true) g.comps (all-by (λ c. has_piece heap c.id ≡ true) (λ c. has_piece heap (set c).id ≡ true) (λ c is. ap (has_piece heap) (set-id c) ∙ is) g.comps are.comps);
      edges = are.edges;
      pipes = are.pipes;
    }
