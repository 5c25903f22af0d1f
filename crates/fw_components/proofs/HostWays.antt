-- The ways of a registry's hosts.
use Rattle.std.proofs.Common.{◌≡◌, refl, sym, ap, ◌∙◌, ℕ, ◌<◌, List, [], ◌∷◌, Bool, true, false, cond, map, ◌==◌, inl, inr, Option, Some, arith}
use Rattle.std.specs.Prelude.{find, option_map}
use Rattle.std.specs.List.{AllByRecursion}
use Rattle.std.specs.Option.{option_map_or}
use Rattle.std.proofs.lemmas.Bool.{eqb-true, eq-eqb, false_from_ne_true}
use Rattle.stream_law.specs.declared.graph.Comp.{Comp}
use Rattle.stream_law.specs.Placed.{Ascends, AreAbove}
use Rattle.stream_law.specs.declared.graph.Kind.{Kind}
use Rattle.stream_law.specs.Ways.{components, comp_of, on_way, is_capture}
use Rattle.stream_law.proofs.Shapes.{on_way_same}
use Rattle.stream_law.proofs.Members.{IsIn, in-each}
use Rattle.fw_units.specs.declared.component.Component.{Component}
use Rattle.fw_components.specs.Tables.{Tables, graph_of}
use Rattle.fw_units.specs.Units.{comp_by, edge_by, kind_by}
use Rattle.fw_components.specs.Tally.{IsSeenIn}

-- ---- what an id names

above-other : (cs : List Component) (n : ℕ) (c : Component) → AreAbove (λ c. c.id) n cs → IsIn c cs → n < c.id
unfolding AreAbove
above-other [] n c up there = absurd there
above-other (d ∷ cs) n c up (inl same) = let e : c.id ≡ d.id = ap (λ (x : Component). x.id) same in omega (arith, e, up.0)
above-other (d ∷ cs) n c up (inr more) = above-other cs n c up.1 more

-- a component is found by its id
pub find-own : (cs : List Component) (c : Component) → Ascends (λ c. c.id) cs → IsIn c cs → find (λ x. x.id == c.id) (map comp_by cs) ≡ Some (comp_by c)
unfolding Ascends
find-own [] c up there = absurd there
find-own (d ∷ cs) c up (inl same) = ap (λ h. cond h (Some (comp_by d)) (find (λ x. x.id == c.id) (map comp_by cs))) (eq-eqb d.id c.id (ap (λ (x : Component). x.id) (sym same))) ∙ ap (λ (x : Component). Some (comp_by x)) (sym same)
find-own (d ∷ cs) c up (inr more) =
    let low = above-other cs d.id c up.0 more in
    let other : (d.id == c.id) ≡ false = false_from_ne_true _ (λ e. let same = eqb-true d.id c.id e in absurd (omega (arith, low, same))) in
    ap (λ h. cond h (Some (comp_by d)) (find (λ x. x.id == c.id) (map comp_by cs))) other ∙ find-own cs c up.1 more

-- ---- ways

-- a host is seen as it is
pub seen-own : (t : Tables) → Ascends (λ c. c.id) t.comps → (c : Component) → IsIn c t.comps → IsSeenIn (graph_of t) c
seen-own t up c there = ap (λ (o : Option Comp). option_map_or (λ c. is_capture c.kind) o false) (sym (find-own t.comps c up there))

pub all-seen : (t : Tables) → Ascends (λ c. c.id) t.comps → AllByRecursion (IsSeenIn (graph_of t)) t.comps
all-seen t up = in-each (IsSeenIn (graph_of t)) t.comps (seen-own t up)

-- where components keep their ids and kinds, an id is of the kind that it was of
kinds-same : (change : Component → Component) → ((c : Component) → (change c).id ≡ c.id) → ((c : Component) → kind_by (change c).unit ≡ kind_by c.unit) → (id : ℕ) (cs : List Component)
    → option_map (λ c. c.kind) (find (λ x. x.id == id) (map comp_by (map change cs))) ≡ option_map (λ c. c.kind) (find (λ x. x.id == id) (map comp_by cs))
kinds-same change ids kinds id [] = refl
kinds-same change ids kinds id (c ∷ cs) =
    (λ i. option_map (λ c. c.kind) (cond (ids c i == id) (Some (comp_by (change c))) (find (λ x. x.id == id) (map comp_by (map change cs)))))
    ∙ by (c.id == id) (kinds-same change ids kinds id cs)
  where
    by : (h : Bool) → option_map (λ c. c.kind) (find (λ x. x.id == id) (map comp_by (map change cs))) ≡ option_map (λ c. c.kind) (find (λ x. x.id == id) (map comp_by cs))
        → option_map (λ c. c.kind) (cond h (Some (comp_by (change c))) (find (λ x. x.id == id) (map comp_by (map change cs)))) ≡ option_map (λ c. c.kind) (cond h (Some (comp_by c)) (find (λ x. x.id == id) (map comp_by cs)))
    by true rest = ap (λ (k : Kind). Some k) (kinds c)
    by false rest = rest

ids-same : (change : Component → Component) → ((c : Component) → (change c).id ≡ c.id) → (cs : List Component) → map (λ x. x.id) (map comp_by (map change cs)) ≡ map (λ x. x.id) (map comp_by cs)
ids-same change ids [] = refl
ids-same change ids (c ∷ cs) = (λ i. ids c i ∷ ids-same change ids cs i)

-- and ways are as before, where edges are
pub ways-same : (t u : Tables) → u.joins ≡ t.joins → map edge_by u.buffers ≡ map edge_by t.buffers → components (graph_of u) ≡ components (graph_of t) → ((c : ℕ) → option_map (λ x. x.kind) (comp_of (graph_of u) c) ≡ option_map (λ x. x.kind) (comp_of (graph_of t) c)) → (host x : ℕ) → on_way (graph_of u) host x ≡ on_way (graph_of t) host x
ways-same t u joins edges ids kinds host x = on_way_same (graph_of u) (graph_of t) (record { joins = joins; edges = edges; ids = ids; kinds = kinds }) host x

pub changed-ways : (t : Tables) (change : Component → Component) (new : List Component) → new ≡ map change t.comps → ((c : Component) → (change c).id ≡ c.id) → ((c : Component) → kind_by (change c).unit ≡ kind_by c.unit)
    → (host x : ℕ) → on_way (graph_of (record { comps = new; buffers = t.buffers; pipes = t.pipes; joins = t.joins })) host x ≡ on_way (graph_of t) host x
changed-ways t change new is ids kinds = ways-same t (record { comps = new; buffers = t.buffers; pipes = t.pipes; joins = t.joins }) refl refl
    (ap (λ (cs : List Component). map (λ x. x.id) (map comp_by cs)) is ∙ ids-same change ids t.comps)
    (λ id. ap (λ (cs : List Component). option_map (λ c. c.kind) (find (λ x. x.id == id) (map comp_by cs))) is ∙ kinds-same change ids kinds id t.comps)

-- where buffers keep their edges
pub held-ways : (t : Tables) (new : List Component) → map edge_by new ≡ map edge_by t.buffers → (host x : ℕ) → on_way (graph_of (record { comps = t.comps; buffers = new; pipes = t.pipes; joins = t.joins })) host x ≡ on_way (graph_of t) host x
held-ways t new edges = ways-same t (record { comps = t.comps; buffers = new; pipes = t.pipes; joins = t.joins }) refl edges refl (λ id. refl)
