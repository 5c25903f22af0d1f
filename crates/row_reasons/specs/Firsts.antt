-- The first of several tests that holds, and what it found.
use Rattle.std.specs.Prelude.{ℕ, Bool, true, false, not, ◌&&◌, List, [], ◌∷◌, ◌++◌, Option, Some, None, find, is_some, option_map}
use Rattle.std.specs.List.{list_any}
use Rattle.std.specs.Option.{option_or}
use Rattle.sof_base.specs.declared.format.Params.{Params}
use Rattle.stream_law.specs.declared.graph.Graph.{Graph}
use Rattle.stream_law.specs.declared.graph.Comp.{Comp}
use Rattle.stream_law.specs.declared.graph.Edge.{Edge}
use Rattle.stream_law.specs.declared.stream.StreamView.{StreamView}
use Rattle.stream_law.specs.State.{View}
use Rattle.stream_law.specs.Ways.{components, buffers, on_way, touch, same_shape, ways_to, is_of, is_play, is_capture, ins, outs, is_complete}
use Rattle.stream_law.specs.Joins.{same_test, has_stayed, kind_ins, kind_outs, is_right_number}
use Rattle.mbox_link.specs.Step.{has_index, is_ready_comp, is_ready_edge}
use Rattle.std.specs.Prelude.{length, filter}
use Rattle.row_reasons.specs.declared.reasons.Reason.{Reason}
use Rattle.row_reasons.specs.declared.reasons.Reason.TheVariants as why
pub use Rattle.sof_base.specs.Holes.{largest}

-- a reason if a test holds
abbrev pub when : Bool → Reason → Option Reason
when true r = Some r
when false r = None

-- the first that is there
abbrev pub first_of : List (Option Reason) → Option Reason
first_of [] = None
first_of (r ∷ rs) = option_or r (first_of rs)

-- ---- streams

-- the first prepared stream on whose way x is
abbrev pub holder : Graph → List StreamView → ℕ → Option StreamView
holder g streams x = find (λ s. is_some s.params && on_way g s.host x) streams

-- its host, 0 if there is none
abbrev pub host_of : Option StreamView → ℕ
host_of None = 0
host_of (Some s) = s.host

-- the first id by which the way of a host's stream would be another in the new graph
abbrev pub changed_in : Graph → Graph → ℕ → Option ℕ
changed_in old new host = find (λ x. not (same_test (on_way old host x) (on_way new host x))) ((components old ++ buffers old) ++ (components new ++ buffers new))

-- an id that is there, or 0
abbrev pub id_or_none : Option ℕ → ℕ
id_or_none None = 0
id_or_none (Some id) = id

-- the first prepared stream whose way would be another in the new graph, with the first id by which it would
abbrev pub way_reason : View → Graph → Option Reason
way_reason v new =
    option_map (λ s. why.WayChanges s.host (id_or_none (changed_in v.graph new s.host))) (find (λ s. is_some s.params && not (has_stayed v.graph new s.host)) v.streams)

-- two streams touch, and their parameters have another rate or another number of channels
abbrev pub clash : Graph → StreamView → StreamView → Bool
clash g s t = touch g s.host t.host && not (same_shape s.params t.params)

-- the reason of two streams that have parameters
abbrev pub clash_of : Option Params → Option Params → ℕ → ℕ → Option Reason
clash_of (Some p) (Some q) host other = Some (why.Clash host p other q)
clash_of p q host other = None

abbrev pub clash_between : StreamView → Option StreamView → Option Reason
clash_between s None = None
clash_between s (Some t) = clash_of s.params t.params s.host t.host

abbrev pub clash_with : Graph → List StreamView → Option StreamView → Option Reason
clash_with g streams None = None
clash_with g streams (Some s) = clash_between s (find (clash g s) streams)

-- the first stream that clashes with one, and the first that it clashes with
abbrev pub clash_reason : View → Option Reason
clash_reason v = clash_with v.graph v.streams (find (λ s. list_any (clash v.graph s) v.streams) v.streams)

-- ---- what is not ready on a way

-- the pipeline of an index is not there, or not complete
abbrev pub pipe_reason : Graph → ℕ → ℕ → Option Reason
pipe_reason g id index =
    first_of (when (not (has_index g index)) (why.NoPipe id index) ∷ when (not (is_complete g index)) (why.Incomplete id index) ∷ [])

-- a component is not ready: its pipeline, the buffers into it, or those out of it
abbrev pub comp_reason : Graph → Comp → Option Reason
comp_reason g c = first_of (
    pipe_reason g c.id c.pipe
    ∷ when (not (is_right_number (kind_ins c.kind) (length (ins g c.id)))) (why.Ins c.id (length (ins g c.id)) (kind_ins c.kind))
    ∷ when (not (is_right_number (kind_outs c.kind) (length (outs g c.id)))) (why.Outs c.id (length (outs g c.id)) (kind_outs c.kind)) ∷ [])

-- a buffer is not ready: its pipeline, its source or its sink
abbrev pub edge_reason : Graph → Edge → Option Reason
edge_reason g e = first_of (
    pipe_reason g e.buffer e.pipe
    ∷ when (not (is_some e.source)) (why.NoSource e.buffer)
    ∷ when (not (is_some e.sink)) (why.NoSink e.buffer) ∷ [])

abbrev pub comp_reason_of : Graph → Option Comp → Option Reason
comp_reason_of g None = None
comp_reason_of g (Some c) = comp_reason g c

abbrev pub edge_reason_of : Graph → Option Edge → Option Reason
edge_reason_of g None = None
edge_reason_of g (Some e) = edge_reason g e

-- the first component on the way of a host's stream that is not ready, or the first such buffer
abbrev pub way_comp_reason : Graph → ℕ → Option Reason
way_comp_reason g host = comp_reason_of g (find (λ c. on_way g host c.id && not (is_ready_comp g c)) g.comps)

abbrev pub way_edge_reason : Graph → ℕ → Option Reason
way_edge_reason g host = edge_reason_of g (find (λ e. on_way g host e.buffer && not (is_ready_edge g e)) g.edges)

-- ---- walks from a playback to a capture

abbrev pub captures_of : Graph → List ℕ
captures_of g = filter (is_of g is_capture) (components g)

abbrev pub plays_of : Graph → List ℕ
plays_of g = filter (is_of g is_play) (components g)

-- the first playback's host from which a walk without an echo edge leads to a capture's, and the first such capture's
abbrev pub crossing_from : Graph → Option ℕ → Option Reason
crossing_from g None = None
crossing_from g (Some a) = option_map (λ b. why.Crosses a b) (find (λ b. ways_to g a b) (captures_of g))

abbrev pub cross_reason : Graph → Option Reason
cross_reason g = crossing_from g (find (λ a. list_any (λ b. ways_to g a b) (captures_of g)) (plays_of g))
