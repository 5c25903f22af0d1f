-- Echo edges by the components, edges and joins of a registry, or of what one would be.
use Rattle.std.specs.Prelude.{◌≡◌, ℕ, ◌≤◌, ◌++◌, List, Bool, true, false, ◌==◌, ◌&&◌, not, map, length, Option, Some}
use Rattle.std.specs.List.{list_any, AllByRecursion}
use Rattle.stream_law.specs.declared.graph.Kind.{Kind}
use Rattle.stream_law.specs.declared.graph.Edge.{Edge}
use Rattle.stream_law.specs.declared.graph.Join.{Join}
use Rattle.stream_law.specs.Ways.{is_play, is_capture, is_dai_play, splits}
use Rattle.stream_law.specs.Placed.{Ascends, HasDistinct}
use Rattle.fw_places.specs.Charts.{Chart}
use Rattle.fw_places.specs.Walks.{IsListed, leads_by, is_marked}
use Rattle.fw_units.specs.declared.component.Component.{Component}
use Rattle.fw_units.specs.Units.{kind_by}
use Rattle.fw_components.specs.declared.echo_edges.KindSort.{KindSort}
use Rattle.fw_components.specs.declared.echo_edges.KindSort.TheVariants.{Play, Capture, DaiPlay, Split}
use Rattle.fw_components.specs.declared.echo_edges.Reach.{Reach}

-- the ids of components and edges
abbrev pub linked_ids : List Component → List Edge → List ℕ
linked_ids comps edges = map (λ c. c.id) comps ++ map (λ e. e.buffer) edges

-- at most 128 components by ascending id, at most 128 edges, each with an id of its own, and at most 256 joins of these
pub record AreLinkable (comps : List Component) (edges : List Edge) (joins : List Join) : Type 0 where
  pub few_comps : length comps ≤ 128
  pub few_edges : length edges ≤ 128
  pub few_joins : length joins ≤ 256
  pub named : Ascends (λ c. c.id) comps
  pub distinct : HasDistinct (λ e. e.buffer) edges
  pub listed : AllByRecursion (IsListed (linked_ids comps edges)) joins

-- whether a kind is of a sort
abbrev pub kind_test : KindSort → Kind → Bool
kind_test Play = is_play
kind_test Capture = is_capture
kind_test DaiPlay = is_dai_play
kind_test Split = splits

-- a component of an id is of a sort
abbrev pub is_kind_at : List Component → KindSort → ℕ → Bool
is_kind_at comps sort id = list_any (λ c. c.id == id && kind_test sort (kind_by c.unit)) comps

-- x is reached from one of a sort, or reaches one where walks go back
abbrev pub is_reached_by_kind : List Component → Chart → KindSort → Bool → ℕ → Bool
is_reached_by_kind comps places sort back x = list_any (λ s. is_kind_at comps sort s && leads_by back places.joins s x) places.ids

-- an edge from one component to another is an echo edge
abbrev pub is_echo_between : List Component → Chart → Option ℕ → Option ℕ → Bool
is_echo_between comps places (Some a) (Some c) =
    is_kind_at comps Split a && is_reached_by_kind comps places Play false a && is_reached_by_kind comps places DaiPlay true a
    && is_reached_by_kind comps places Capture true c && not (is_reached_by_kind comps places DaiPlay true c)
is_echo_between comps places source sink = false

abbrev pub is_echo_by : List Component → Chart → Edge → Bool
is_echo_by comps places e = is_echo_between comps places e.source e.sink

-- marks say what is reached
abbrev pub AreReached : List Component → Chart → KindSort → Bool → List Bool → Type 0
AreReached comps places sort back marks = (x : ℕ) → is_marked places.ids marks x ≡ is_reached_by_kind comps places sort back x

pub record IsReachOf (comps : List Component) (places : Chart) (r : Reach) : Type 0 where
  pub from_play : AreReached comps places Play false r.from_play
  pub to_dai : AreReached comps places DaiPlay true r.to_dai
  pub to_capture : AreReached comps places Capture true r.to_capture

-- an id is that of one of these edges
abbrev pub is_edge_in : List Edge → ℕ → Bool
is_edge_in edges id = list_any (λ e. e.buffer == id) edges
