-- Between graphs with the same ways the same streams touch, and the same walks cross.
use Rattle.std.proofs.Common.{◌≡◌, ap, ℕ, ◌++◌, map, length, filter, Bool, false, not, ◌==◌, ◌&&◌, ◌||◌}
use Rattle.std.specs.Option.{option_map_or, option_and_then}
use Rattle.std.specs.List.{find, list_any}
use Rattle.stream_law.specs.declared.graph.Kind.{Kind}
use Rattle.stream_law.specs.declared.graph.Edge.{Edge}
use Rattle.stream_law.specs.declared.graph.Graph.{Graph}
use Rattle.stream_law.specs.Ways.{buffers, source_of, sink_of, is_of, leads, is_play, is_capture, way_joins, ways_to, share, echoes, touch}
use Rattle.stream_law.specs.Joins.{crosses}
use Rattle.stream_law.specs.Stays.{SameWays}
use Rattle.stream_law.proofs.Remembering.{is_of-kinds}
use Rattle.stream_law.proofs.Shapes.{echo_same, on_way_same}

module _ (g h : Graph) (same : SameWays g h) where
  of_same : (sort : Kind → Bool) (c : ℕ) → is_of g sort c ≡ is_of h sort c
  of_same sort c = is_of-kinds sort g h c (same.kinds c)

  source_same : (b : ℕ) → source_of g b ≡ source_of h b
  source_same b = ap (λ edges. option_and_then (λ (e : Edge). e.source) (find (λ e. e.buffer == b) edges)) same.edges

  sink_same : (b : ℕ) → sink_of g b ≡ sink_of h b
  sink_same b = ap (λ edges. option_and_then (λ (e : Edge). e.sink) (find (λ e. e.buffer == b) edges)) same.edges

  buffers_same : buffers g ≡ buffers h
  buffers_same = λ i. map (λ (e : Edge). e.buffer) (same.edges i)

  share_same : (a b : ℕ) → share g a b ≡ share h a b
  share_same a b = λ i. list_any (λ x. on_way_same g h same a x i && on_way_same g h same b x i) (same.ids i ++ buffers_same i)

  echoes_same : (a b : ℕ) → echoes g a b ≡ echoes h a b
  echoes_same a b = λ i. list_any (λ e. echo_same g h same e i && option_map_or (λ c. on_way_same g h same a c i) (source_same e i) false && option_map_or (λ c. on_way_same g h same b c i) (sink_same e i) false) (buffers_same i)

  pub touch_same : (a b : ℕ) → touch g a b ≡ touch h a b
  touch_same a b = λ i. share_same a b i || echoes_same a b i || echoes_same b a i

  joins_same : way_joins g ≡ way_joins h
  unfolding way_joins
  joins_same = λ i. filter (λ j. not (echo_same g h same j.source i) && not (echo_same g h same j.sink i)) (same.joins i)

  ways_same : (a b : ℕ) → ways_to g a b ≡ ways_to h a b
  unfolding ways_to
  ways_same a b = ap (λ joins. leads joins (length joins) a b) joins_same

  pub crosses_same : crosses g ≡ crosses h
  unfolding crosses
  crosses_same = λ i. list_any (λ a. list_any (λ b. ways_same a b i) (filter (λ c. of_same is_capture c i) (same.ids i))) (filter (λ c. of_same is_play c i) (same.ids i))
