-- Ways that stay, by the components of a registry.
use Rattle.std.proofs.Common.{◌≡◌, refl, sym, ap, ◌∙◌, ℕ, List, [], ◌∷◌, ◌++◌, map, Bool, true, false, not, ◌==◌, ◌&&◌, ◌||◌, inl, inr, length, get_or, Option, None}
use Rattle.std.specs.List.{list_all, list_any}
use Rattle.std.specs.Prelude.{is_some}
use Rattle.std.proofs.lemmas.Bool.{true≢false, or_left, or_parts, eq-eqb, false_from_ne_true}
use Rattle.std.proofs.lemmas.List.Folds.{list_any-append}
use Rattle.sof_base.specs.declared.format.Params.{Params}
use Rattle.stream_law.specs.declared.graph.Comp.{Comp}
use Rattle.stream_law.specs.declared.graph.Graph.{Graph}
use Rattle.std.specs.Prelude.{find}
use Rattle.std.specs.Option.{option_map_or}
use Rattle.stream_law.specs.Ways.{components, buffers, on_way, is_capture}
use Rattle.stream_law.specs.Joins.{same_test, has_stayed, stays}
use Rattle.stream_law.specs.Order.{is_among}
use Rattle.stream_law.specs.Placed.{Ascends}
use Rattle.stream_law.proofs.Members.{IsIn, in-each, in-all}
use Rattle.fw_units.specs.declared.component.Component.{Component}
use Rattle.fw_units.specs.declared.component.Unit as units
use Rattle.fw_units.specs.declared.component.Unit.TheVariants.{Host}
use Rattle.fw_units.specs.Units.{comp_by}
use Rattle.fw_components.specs.Tables.{Tables, graph_of, view_by}
use Rattle.fw_components.specs.Tally.{IsSeenIn}
use Rattle.fw_components.proofs.HostWays.{seen-own}
use Rattle.fw_places.specs.Walks.{is_marked}
use Rattle.fw_places.specs.WayCharts.{WayChart, AreWaysOf}
use Rattle.fw_places.proofs.Charts.{place-past}
use Rattle.fw_places.proofs.WayWalks.{way-listed}
use Rattle.fw_walks.specs.declared.streams.Sort.TheVariants as sorts
use Rattle.fw_walks.specs.Streams.{is_sort, any_stream}
use Rattle.fw_pipeline.specs.Preparing.{shape_by, suits, AreHostsIn}
use Rattle.fw_pipeline.proofs.ReadyWays.{all-each}
use Rattle.fw_pipeline.proofs.AgreeLaws.{passes, streams-pass, suits-now, none-suits}

-- the components of a registry are those of its graph
pub hosts-in : (t : Tables) → Ascends (λ c. c.id) t.comps → AreHostsIn (graph_of t) t.comps
hosts-in t up = in-each _ t.comps (λ c here. (own t.comps c here, seen-own t up c here))
  where
    own : (cs : List Component) (c : Component) → IsIn c cs → is_among (map (λ (x : Comp). x.id) (map comp_by cs)) c.id ≡ true
    own [] c here = absurd here
    own (d ∷ cs) c (inl same) = or_left (d.id == c.id) _ (eq-eqb d.id c.id (ap (λ (x : Component). x.id) (sym same)))
    own (d ∷ cs) c (inr more) = onto (d.id == c.id) (own cs c more)
      where
        onto : (h : Bool) → is_among (map (λ (x : Comp). x.id) (map comp_by cs)) c.id ≡ true → (h || is_among (map (λ (x : Comp). x.id) (map comp_by cs)) c.id) ≡ true
        onto true rest = refl
        onto false rest = rest

-- ---- by the components

-- whether a host's stream has parameters
set-passes : (q : ℕ → Bool) (id : ℕ) (unit : units.Unit) → (not (any_stream (is_sort sorts.Set) 0 unit) || q id) ≡ passes (λ host params. not (is_some params) || q host) None id unit
set-passes q id (Host capture phase params piece) = refl
set-passes q id u = refl

pub stays-are : (t : Tables) (h : Graph) → (list_all (λ c. not (any_stream (is_sort sorts.Set) 0 c.unit) || has_stayed (graph_of t) h c.id) t.comps && list_all (λ c. list_all (λ d. suits h None c d) t.comps) t.comps) ≡ stays (view_by t) h
unfolding stays
stays-are t h =
    let q : ℕ → Option Params → Bool = λ host params. not (is_some params) || has_stayed (graph_of t) h host in
    let all = all-each (λ c. not (any_stream (is_sort sorts.Set) 0 c.unit) || has_stayed (graph_of t) h c.id) (λ c. passes q None c.id c.unit) t.comps (λ c there. set-passes (has_stayed (graph_of t) h) c.id c.unit) ∙ sym (streams-pass q t.comps) in
    λ i. all i && suits-now h t.comps i

-- ---- where no stream has parameters

none-set : (c : Component) → any_stream (is_sort sorts.Set) 0 c.unit ≡ false → is_some (shape_by None c) ≡ false
none-set c none = by c.unit none
  where
    by : (u : units.Unit) → any_stream (is_sort sorts.Set) 0 u ≡ false → is_some (shape_by None (record { id = c.id; pipe = c.pipe; channels = c.channels; unit = u })) ≡ false
    by (Host capture phase params piece) none = none
    by u none = refl

pub nothing-stays : (t : Tables) (h : Graph) → list_any (λ c. any_stream (is_sort sorts.Set) 0 c.unit) t.comps ≡ false → true ≡ stays (view_by t) h
nothing-stays t h none =
    sym (λ i. hosts t.comps none i && pairs t.comps none i)
    ∙ stays-are t h
  where
    hosts : (cs : List Component) → list_any (λ c. any_stream (is_sort sorts.Set) 0 c.unit) cs ≡ false → list_all (λ c. not (any_stream (is_sort sorts.Set) 0 c.unit) || has_stayed (graph_of t) h c.id) cs ≡ true
    hosts [] none = refl
    hosts (c ∷ cs) none =
        let parts = or_parts (any_stream (is_sort sorts.Set) 0 c.unit) (list_any (λ c. any_stream (is_sort sorts.Set) 0 c.unit) cs) none in
        (λ i. (not (parts.0 i) || has_stayed (graph_of t) h c.id) && hosts cs parts.1 i)

    pairs : (cs : List Component) → list_any (λ c. any_stream (is_sort sorts.Set) 0 c.unit) cs ≡ false → list_all (λ c. list_all (λ d. suits h None c d) t.comps) cs ≡ true
    pairs [] none = refl
    pairs (c ∷ cs) none =
        let parts = or_parts (any_stream (is_sort sorts.Set) 0 c.unit) (list_any (λ c. any_stream (is_sort sorts.Set) 0 c.unit) cs) none in
        (λ i. sym (none-suits h None c (none-set c parts.0) t.comps) i && pairs cs parts.1 i)

-- ---- by marks

all-append : (p : ℕ → Bool) (xs ys : List ℕ) → list_all p (xs ++ ys) ≡ (list_all p xs && list_all p ys)
all-append p [] ys = refl
all-append p (x ∷ xs) ys = by (p x) (all-append p xs ys)
  where
    by : (h : Bool) → list_all p (xs ++ ys) ≡ (list_all p xs && list_all p ys) → (h && list_all p (xs ++ ys)) ≡ ((h && list_all p xs) && list_all p ys)
    by true rest = rest
    by false rest = refl

-- components are listed in a chart of ways
pub comp-listed : (g : Graph) (chart : WayChart) → AreWaysOf g chart → (x : ℕ) → is_among (components g) x ≡ true → is_among chart.ids x ≡ true
comp-listed g chart ways x there =
    ap (λ (ids : List ℕ). is_among ids x) ways.ids
    ∙ list_any-append (λ y. y == x) (components g) (buffers g)
    ∙ or_left (is_among (components g) x) (is_among (buffers g) x) there

-- an id is marked where it is on the way, listed or not
module _ (g : Graph) (chart : WayChart) (ways : AreWaysOf g chart) (host : ℕ) (there : is_among (components g) host ≡ true) (marks : List Bool)
    (way : (x : ℕ) → is_among chart.ids x ≡ true → is_marked chart.ids marks x ≡ on_way g host x) (past : get_or marks (length chart.ids) false ≡ false) where
  pub marked-anywhere : (listed : is_among chart.ids host ≡ true) → (x : ℕ) → is_marked chart.ids marks x ≡ on_way g host x
  marked-anywhere listed x = by (is_among chart.ids x) refl
    where
      by : (h : Bool) → is_among chart.ids x ≡ h → is_marked chart.ids marks x ≡ on_way g host x
      by true here = way x here
      by false none =
          ap (λ n. get_or marks n false) (place-past chart.ids x none) ∙ past
          ∙ sym (false_from_ne_true (on_way g host x) (λ on. true≢false (sym (way-listed g chart.ids ways.ids ways.listed host x listed on) ∙ none)))

-- the way holds in both graphs the same where each listed id is marked in both or in neither
pub stayed-marked : (g h : Graph) (old new : WayChart) → AreWaysOf g old → AreWaysOf h new → (host : ℕ) (before after : List Bool)
    → ((x : ℕ) → is_marked old.ids before x ≡ on_way g host x) → ((x : ℕ) → is_marked new.ids after x ≡ on_way h host x)
    → (list_all (λ x. same_test (is_marked old.ids before x) (is_marked new.ids after x)) old.ids && list_all (λ x. same_test (is_marked old.ids before x) (is_marked new.ids after x)) new.ids) ≡ has_stayed g h host
stayed-marked g h old new ours theirs host before after was is =
    sym (all-append (λ x. same_test (is_marked old.ids before x) (is_marked new.ids after x)) old.ids new.ids)
    ∙ each (old.ids ++ new.ids)
    ∙ (λ i. list_all (λ x. same_test (on_way g host x) (on_way h host x)) (ours.ids i ++ theirs.ids i))
  where
    each : (xs : List ℕ) → list_all (λ x. same_test (is_marked old.ids before x) (is_marked new.ids after x)) xs ≡ list_all (λ x. same_test (on_way g host x) (on_way h host x)) xs
    each [] = refl
    each (x ∷ xs) = (λ i. same_test (was x i) (is x i) && each xs i)

-- components with the same in another graph
pub hosts-same : (g h : Graph) → h.comps ≡ g.comps → (cs : List Component) → AreHostsIn g cs → AreHostsIn h cs
hosts-same g h same cs are = in-each _ cs (λ c here.
    let it = in-all (λ (c : Component). (is_among (components g) c.id ≡ true) × IsSeenIn g c) cs c are here in (
      ap (λ (xs : List Comp). is_among (map (λ (x : Comp). x.id) xs) c.id) same ∙ it.0,
      it.1 ∙ ap (λ (xs : List Comp). option_map_or (λ x. is_capture x.kind) (find (λ x. x.id == c.id) xs) false) (sym same),
    ))
