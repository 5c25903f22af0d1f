-- In the graph of a sound plan, whatever is set at its components, a tick may come: edges have ends and no cycle, and each component
-- has the edges of its kind.
use Rattle.std.proofs.Common.{◌≡◌, refl, sym, ap, subst, ◌∙◌, ℕ, zero, suc, Bool, true, false, cond, ◌||◌, ◌==◌, List, [], ◌∷◌, length, Option, Some, None}
use Rattle.std.specs.Prelude.{find}
use Rattle.std.specs.List.{list_any}
use Rattle.std.specs.Option.{option_map, option_map_or, option_and_then}
use Rattle.std.proofs.lemmas.Bool.{true≢false, false≢true, eqb-true}
use Rattle.stream_law.specs.declared.graph.Comp.{Comp}
use Rattle.stream_law.specs.declared.graph.Edge.{Edge}
use Rattle.stream_law.specs.declared.graph.Graph.{Graph}
use Rattle.stream_law.specs.declared.graph.Join.{Join}
use Rattle.stream_law.specs.declared.graph.Setting.{Setting}
use Rattle.stream_law.specs.declared.stream.StreamView.{StreamView}
use Rattle.stream_law.specs.Ways.{comp_of, edge_of, components, source_of, sink_of, ins, outs}
use Rattle.stream_law.specs.Joins.{fits_kind}
use Rattle.stream_law.specs.Order.{is_among}
use Rattle.stream_law.specs.Viewing.{IsPlayable}
use Rattle.stream_law.specs.Walks.{LeadsTo, Walk, HasCycle, HasEnds}
use Rattle.stream_law.proofs.Keyed.{list_any-keys}
use Rattle.stream_law.proofs.Members.{IsIn, in-all, find-in}
use Rattle.stream_law.proofs.Walking.{Path, Walks, walks-lead}
use Rattle.stream_law.proofs.Whole.{order-whole}
use Rattle.tplg_plan.specs.declared.plans.Plan.{Plan}
use Rattle.tplg_plan.specs.Sound.{IsSound, IsSideOf, IsPassed}
use Rattle.host_widgets.specs.declared.kept.Record.{Record}
use Rattle.host_widgets.specs.Kept.{control_at}
use Rattle.host_widgets.specs.ViewOf.{record_setting, graph_by}
use Rattle.host_widgets.proofs.Joined.{side-source, side-sink}
use Rattle.host_widgets.proofs.JoinRows.{list_all-found}
use Rattle.host_widgets.proofs.LookedUp.{all-found, any-found, some-counted}
use Rattle.host_widgets.proofs.NamedIds.{buffer-found}
use Rattle.host_widgets.proofs.ReadyWays.{set_by, set_as, comp-set, comps-set}

-- ---- what is found

-- what passes a test somewhere is found
some-found : {X : Type 0} (q : X → Bool) (xs : List X) → list_any q xs ≡ true → find q xs ≡ None → ⊥
some-found q [] any none = false≢true any
some-found {X} q (x ∷ xs) any none = by (q x) any none (some-found q xs)
  where
    by : (b : Bool) → (b || list_any q xs) ≡ true → cond b (Some x) (find q xs) ≡ None → (list_any q xs ≡ true → find q xs ≡ None → ⊥) → ⊥
    by true any none rest = cc none
    by false any none rest = rest any none

module _ (plan : Plan) (sound : IsSound plan) (setting : Comp → Setting) where
  abbrev g : Graph
  g = set_as setting plan.graph

  abbrev joins : List Join
  joins = plan.graph.joins

  same-components : components g ≡ components plan.graph
  same-components = comps-set plan.graph setting plan.graph.comps

  -- ---- ends

  -- the edge whose end this is
  edge-with : (end : Edge → Option ℕ) (b a : ℕ) (o : Option Edge) → edge_of plan.graph b ≡ o → option_and_then end o ≡ Some a → (e : Edge) × (edge_of plan.graph b ≡ Some e) × (end e ≡ Some a)
  edge-with end b a None is some = absurd (cc some)
  edge-with end b a (Some e) is some = (e, is, some)

  comp-there : (c : ℕ) (x : Comp) → comp_of plan.graph c ≡ Some x → is_among (components g) c ≡ true
  comp-there c x there = ap (λ (ids : List ℕ). is_among ids c) same-components ∙ sym (list_any-keys (λ (y : Comp). y.id) plan.graph.comps c) ∙ any-found (λ (y : Comp). y.id == c) plan.graph.comps x there

  source-there : (b a : ℕ) → source_of g b ≡ Some a → is_among (components g) a ≡ true
  source-there b a is =
      let e = edge-with (λ (e : Edge). e.source) b a (edge_of plan.graph b) refl is in
      let named = (buffer-found plan sound b e.0 e.1).is in
      let same : named.source.id ≡ a = cc (sym named.from.0 ∙ e.2) in
      comp-there a named.source (ap (comp_of plan.graph) (sym same) ∙ named.from.1)

  sink-there : (b a : ℕ) → sink_of g b ≡ Some a → is_among (components g) a ≡ true
  sink-there b a is =
      let e = edge-with (λ (e : Edge). e.sink) b a (edge_of plan.graph b) refl is in
      let named = (buffer-found plan sound b e.0 e.1).is in
      let same : named.sink.id ≡ a = cc (sym named.to.0 ∙ e.2) in
      comp-there a named.sink (ap (comp_of plan.graph) (sym same) ∙ named.to.1)

  ends : HasEnds g
  ends = record { sources = source-there; sinks = sink-there }

  -- ---- no cycle

  -- an edge is a join into its buffer and one out of it
  record TwoJoins (a c : ℕ) : Type 0 where
    first : Join
    second : Join
    first_in : IsIn first joins
    second_in : IsIn second joins
    starts : first.source ≡ a
    meets : second.source ≡ first.sink
    ends_at : second.sink ≡ c

  two-joins : (a c : ℕ) → LeadsTo g a c → TwoJoins a c
  two-joins a c l =
      let from = edge-with (λ (e : Edge). e.source) l.buffer a (edge_of plan.graph l.buffer) refl l.source in
      let to = edge-with (λ (e : Edge). e.sink) l.buffer c (edge_of plan.graph l.buffer) refl l.sink in
      let e = from.0 in
      let one : to.0 ≡ e = cc (sym to.1 ∙ from.1) in
      let same = (buffer-found plan sound l.buffer e from.1).same in
      let there : edge_of plan.graph e.buffer ≡ Some e = ap (edge_of plan.graph) same ∙ from.1 in
      let passed = all-found (IsPassed plan.graph) (λ (x : Edge). x.buffer == l.buffer) plan.graph.edges e sound.passed from.1 in
      let j = some-counted (λ (x : Join). x.sink == e.buffer) joins passed.ins in
      let k = some-counted (λ (x : Join). x.source == e.buffer) joins passed.outs in
      let j_in = find-in (λ (x : Join). x.sink == e.buffer) joins j.0 j.1 in
      let k_in = find-in (λ (x : Join). x.source == e.buffer) joins k.0 k.1 in
      record {
        first = j.0;
        second = k.0;
        first_in = j_in.0;
        second_in = k_in.0;
        starts = let is : j.0.source ≡ a = cc (sym (side-source plan sound joins sound.joins e.buffer e j.0 there j.1) ∙ from.2) in is;
        meets = eqb-true k.0.source e.buffer k_in.1 ∙ sym (eqb-true j.0.sink e.buffer j_in.1);
        ends_at = let is : k.0.sink ≡ c = cc (sym (side-sink plan sound joins sound.joins e.buffer e k.0 there k.1) ∙ ap (λ (x : Edge). x.sink) (sym one) ∙ to.2) in is;
      }

  -- on from its buffer
  behind : (a m c : ℕ) (t : TwoJoins a m) → Walks joins m c → Walks joins t.first.sink c
  behind a m c t w = (suc w.0, (t.second, t.second_in, t.meets, subst (λ (x : ℕ). Path joins w.0 x c) (sym t.ends_at) w.1))

  walks-of : (n a c : ℕ) → Walk g n a c → Walks joins a c
  walks-of zero a c w = (0, w)
  walks-of (suc n) a c (m, l, rest) =
      let t = two-joins a m l in
      let w = behind a m c t (walks-of n m c rest) in
      (suc w.0, (t.first, t.first_in, t.starts, w.1))

  no-cycle : HasCycle g → ⊥
  no-cycle (c, n, (m, l, rest)) =
      let t = two-joins c m l in
      let w = subst (Walks joins t.first.sink) (sym t.starts) (behind c m c t (walks-of n m c rest)) in
      true≢false (sym (walks-lead joins t.first.sink t.first.source w) ∙ (in-all (IsSideOf plan.graph) joins t.first sound.joins t.first_in).open_ends)

  -- ---- the edges of a component

  abbrev fits_at : ℕ → Option Comp → Bool
  fits_at c o = option_map_or (λ x. fits_kind x.kind (length (ins plan.graph c)) (length (outs plan.graph c))) o false

  fits : (c : ℕ) → is_among (components g) c ≡ true → fits_at c (comp_of g c) ≡ true
  fits c among = ap (fits_at c) (comp-set plan.graph setting c) ∙ by (comp_of plan.graph c) refl
    where
      by : (o : Option Comp) → comp_of plan.graph c ≡ o → fits_at c (option_map (set_by setting) o) ≡ true
      by None gone = absurd (some-found (λ (x : Comp). x.id == c) plan.graph.comps (list_any-keys (λ (x : Comp). x.id) plan.graph.comps c ∙ ap (λ (ids : List ℕ). is_among ids c) (sym same-components) ∙ among) gone)
      by (Some x) there =
          let same : x.id ≡ c = eqb-true x.id c (find-in (λ (y : Comp). y.id == c) plan.graph.comps x there).1 in
          let here = list_all-found (λ (y : Comp). fits_kind y.kind (length (ins plan.graph y.id)) (length (outs plan.graph y.id))) (λ (y : Comp). y.id == c) plan.graph.comps x sound.fits there in
          subst (λ (id : ℕ). fits_kind x.kind (length (ins plan.graph id)) (length (outs plan.graph id)) ≡ true) same here

  pub set-plays : (streams : List StreamView) → IsPlayable (record { graph = g; streams = streams })
  set-plays streams = record { ends = ends; ordered = order-whole g ends no-cycle; fits = λ c among active. fits c among }

-- by the record
pub sound-plays : (plan : Plan) → IsSound plan → (kept : Record) (streams : List StreamView) → IsPlayable (record { graph = graph_by plan kept; streams = streams })
sound-plays plan sound kept streams = set-plays plan sound (λ c. record_setting c.kind (control_at plan kept c.id)) streams
