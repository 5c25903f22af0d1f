-- In the graph of a sound plan, whatever is set at its components, every way is ready, and the hosts of streams are there.
use Rattle.std.proofs.Common.{◌≡◌, inl, inr, if◌then◌else◌, refl, sym, ap, ◌∙◌, ℕ, List, [], ◌∷◌, map, length, Bool, true, false, not, ◌&&◌, ◌||◌, ◌==◌, is_some, Option, Some, None}
use Rattle.std.specs.Option.{option_map}
use Rattle.std.specs.List.{list_any, list_all, filter_map, cons_option, AllByRecursion}
use Rattle.std.proofs.lemmas.Bool.{false≢true, and_from, and_parts, or_right, or_cases, eqb-true}
use Rattle.stream_law.specs.declared.graph.Kind.{Kind}
use Rattle.stream_law.specs.declared.graph.Kind.TheVariants.{HostPlay, HostCapture}
use Rattle.stream_law.specs.declared.graph.Setting.{Setting}
use Rattle.stream_law.specs.declared.graph.Comp.{Comp}
use Rattle.stream_law.specs.declared.graph.Edge.{Edge}
use Rattle.stream_law.specs.declared.graph.Graph.{Graph}
use Rattle.stream_law.specs.Ways.{comp_of, edge_of, ins, outs, on_way, is_capture, touch, is_complete}
use Rattle.stream_law.specs.Joins.{fits_kind}
use Rattle.stream_law.specs.Stays.{SameWays}
use Rattle.mbox_link.specs.Step.{with_comps, kind_at, has_kind, is_host, goes, is_used, has_edge, has_pipe, is_ready_comp, is_ready_edge, is_way_ready}
use Rattle.tplg_plan.specs.declared.plans.Plan.{Plan}
use Rattle.tplg_plan.specs.declared.plans.StreamPlan.{StreamPlan}
use Rattle.tplg_plan.specs.Sound.{IsSound, host_by, host_of}
use Rattle.host_widgets.specs.Acts.{direction_by, direction_of}
use Rattle.host_widgets.proofs.LookedUp.{find-map, any-found}
use Rattle.host_widgets.proofs.NamedIds.{buffer-found, each-comp, each-edge}
use Rattle.host_widgets.proofs.SameTouch.{touch_same}

-- ---- a graph with other settings

abbrev pub set_by : (Comp → Setting) → Comp → Comp
set_by setting c = record { id = c.id; kind = c.kind; pipe = c.pipe; setting = setting c; ramp = c.ramp }

abbrev pub set_as : (Comp → Setting) → Graph → Graph
set_as setting g = with_comps (map (set_by setting) g.comps) g

module _ (g : Graph) (setting : Comp → Setting) where
  abbrev set : Graph
  set = set_as setting g

  pub comp-set : (id : ℕ) → comp_of set id ≡ option_map (set_by setting) (comp_of g id)
  comp-set id = find-map (λ (c : Comp). c.id) (λ (c : Comp). c.id) (set_by setting) (λ c. refl) g.comps id

  kind-set : (o : Option Comp) → option_map (λ c. c.kind) (option_map (set_by setting) o) ≡ option_map (λ c. c.kind) o
  kind-set None = refl
  kind-set (Some c) = refl

  pub comps-set : (cs : List Comp) → map (λ (c : Comp). c.id) (map (set_by setting) cs) ≡ map (λ (c : Comp). c.id) cs
  comps-set [] = refl
  comps-set (c ∷ cs) = ap (λ (ids : List ℕ). c.id ∷ ids) (comps-set cs)

  -- ways are the same
  pub ways-set : SameWays set g
  ways-set = record { joins = refl; edges = refl; ids = comps-set g.comps; kinds = λ c. ap (option_map (λ (x : Comp). x.kind)) (comp-set c) ∙ kind-set (comp_of g c) }

  -- and so streams touch where they did
  pub touch-set : (a b : ℕ) → touch set a b ≡ touch g a b
  touch-set = touch_same set g ways-set

-- ---- hosts

-- some stream has this host
abbrev pub has_host : List StreamPlan → ℕ → Bool
has_host streams host = list_any (λ (s : StreamPlan). s.host == host) streams

-- ---- ways

module _ (plan : Plan) (sound : IsSound plan) where
  module _ (setting : Comp → Setting) where
    abbrev after : Graph
    after = set_as setting plan.graph

    comps-ready : (host : ℕ) (cs : List Comp) → AllByRecursion (λ (c : Comp). is_complete plan.graph c.pipe ≡ true) cs →
        list_all (λ (c : Comp). fits_kind c.kind (length (ins plan.graph c.id)) (length (outs plan.graph c.id))) cs ≡ true →
        list_all (λ (c : Comp). not (on_way after host c.id) || is_ready_comp after c) (map (set_by setting) cs) ≡ true
    comps-ready host [] piped fits = refl
    comps-ready host (c ∷ cs) piped fits =
        let parts = and_parts (fits_kind c.kind (length (ins plan.graph c.id)) (length (outs plan.graph c.id))) (list_all (λ (x : Comp). fits_kind x.kind (length (ins plan.graph x.id)) (length (outs plan.graph x.id))) cs) fits in
        and_from (not (on_way after host c.id) || is_ready_comp after (set_by setting c)) (list_all (λ (x : Comp). not (on_way after host x.id) || is_ready_comp after x) (map (set_by setting) cs))
        (or_right (not (on_way after host c.id)) (is_ready_comp after (set_by setting c))
        (and_from (is_complete plan.graph c.pipe) (fits_kind c.kind (length (ins plan.graph c.id)) (length (outs plan.graph c.id))) piped.0 parts.0))
        (comps-ready host cs piped.1 parts.1)

    edges-ready : (host : ℕ) (es : List Edge) → AllByRecursion (λ (e : Edge). is_complete plan.graph e.pipe ≡ true) es → AllByRecursion (λ (e : Edge). edge_of plan.graph e.buffer ≡ Some e) es →
        list_all (λ (e : Edge). not (on_way after host e.buffer) || is_ready_edge after e) es ≡ true
    edges-ready host [] piped there = refl
    edges-ready host (e ∷ es) piped there =
        let is = (buffer-found plan sound e.buffer e there.0).is in
        let ready : is_ready_edge after e ≡ true = λ i. piped.0 i && is_some (is.from.0 i) && is_some (is.to.0 i) in
        and_from (not (on_way after host e.buffer) || is_ready_edge after e) (list_all (λ (x : Edge). not (on_way after host x.buffer) || is_ready_edge after x) es)
        (or_right (not (on_way after host e.buffer)) (is_ready_edge after e) ready)
        (edges-ready host es piped.1 there.1)

    -- every way is ready
    pub way-ready : (host : ℕ) → is_way_ready after host ≡ true
    unfolding is_way_ready
    way-ready host =
        and_from (list_all (λ (c : Comp). not (on_way after host c.id) || is_ready_comp after c) after.comps) (list_all (λ (e : Edge). not (on_way after host e.buffer) || is_ready_edge after e) after.edges)
        (comps-ready host plan.graph.comps sound.comps_piped sound.fits)
        (edges-ready host plan.graph.edges sound.edges_piped (each-edge plan sound))

  -- ---- hosts

  -- the component of a host
  pub record HostAt (host : ℕ) : Type 0 where
    pub comp : Comp
    pub there : comp_of plan.graph host ≡ Some comp
    pub kind : is_host comp.kind ≡ true

  abbrev is_first : ℕ → ℕ × Bool → Bool
  is_first host p = p.0 == host

  as-pairs : (host : ℕ) (ss : List StreamPlan) → has_host ss host ≡ list_any (is_first host) (map (λ s. (s.host, s.capture)) ss)
  as-pairs host [] = refl
  as-pairs host (s ∷ ss) = ap (λ (b : Bool). (s.host == host) || b) (as-pairs host ss)

  host-in : (host : ℕ) (cs : List Comp) → AllByRecursion (λ (c : Comp). comp_of plan.graph c.id ≡ Some c) cs → list_any (is_first host) (filter_map host_of cs) ≡ true → HostAt host
  host-in host [] there some = absurd (false≢true some)
  host-in host (c ∷ cs) there some = by c.kind refl some (host-in host cs there.1)
    where
      here : (kind : Kind) → c.kind ≡ kind → is_host kind ≡ true → ((c.id == host) || list_any (is_first host) (filter_map host_of cs)) ≡ true → (list_any (is_first host) (filter_map host_of cs) ≡ true → HostAt host) → HostAt host
      here kind is host_is any rest = elim (or_cases (c.id == host) (list_any (is_first host) (filter_map host_of cs)) any) [
        | inl same ↦ record { comp = c; there = ap (comp_of plan.graph) (sym (eqb-true c.id host same)) ∙ there.0; kind = ap is_host is ∙ host_is }
        | inr later ↦ rest later
      ]

      by : (kind : Kind) → c.kind ≡ kind → list_any (is_first host) (cons_option (host_by kind c.id) (filter_map host_of cs)) ≡ true → (list_any (is_first host) (filter_map host_of cs) ≡ true → HostAt host) → HostAt host
      by HostPlay is any rest = here HostPlay is refl any rest
      by HostCapture is any rest = here HostCapture is refl any rest
      by kind is any rest = rest any

  pub host-there : (host : ℕ) → has_host plan.streams host ≡ true → HostAt host
  host-there host some =
      host-in host plan.graph.comps (each-comp plan sound) (ap (list_any (is_first host)) (sym sound.hosts) ∙ sym (as-pairs host plan.streams) ∙ some)

  goes-way : (kind : Kind) → is_host kind ≡ true → goes kind (if is_capture kind then 1 else 0) ≡ true
  goes-way HostPlay is = refl
  goes-way HostCapture is = refl
  goes-way kind is = absurd (false≢true is)

  module _ (setting : Comp → Setting) (host : ℕ) (some : has_host plan.streams host ≡ true) where
    at : HostAt host
    at = host-there host some

    found : comp_of (set_as setting plan.graph) host ≡ Some (set_by setting at.comp)
    found = comp-set plan.graph setting host ∙ ap (option_map (set_by setting)) at.there

    -- an id is used, and is that of a host, which goes as the host's side says
    pub host-used : is_used (set_as setting plan.graph) host ≡ true
    host-used =
        ap (λ (b : Bool). b || has_edge plan.graph host || has_pipe plan.graph host) (any-found (λ (c : Comp). c.id == host) (set_as setting plan.graph).comps (set_by setting at.comp) found)

    pub host-kind : has_kind is_host (kind_at (set_as setting plan.graph) host) ≡ true
    host-kind = ap (λ (o : Option Comp). has_kind is_host (option_map (λ c. c.kind) o)) found ∙ at.kind

    pub host-goes : has_kind (λ kind. goes kind (direction_of plan host)) (kind_at (set_as setting plan.graph) host) ≡ true
    host-goes =
        ap (λ (o : Option Comp). has_kind (λ kind. goes kind (direction_of plan host)) (option_map (λ c. c.kind) o)) found
        ∙ ap (λ (o : Option Comp). goes at.comp.kind (direction_by o)) at.there
        ∙ goes-way at.comp.kind at.kind
