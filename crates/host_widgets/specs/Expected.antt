-- What the firmware is expected to show of a stream, and its heap.
use Rattle.std.specs.Prelude.{ℕ, List, [], ◌∷◌, map, sum, Option, Some, None}
use Rattle.std.specs.List.{range_with_len}
use Rattle.sof_base.specs.Holes.{rounded}
use Rattle.stream_law.specs.declared.graph.Comp.{Comp}
use Rattle.stream_law.specs.declared.graph.Edge.{Edge}
use Rattle.stream_law.specs.declared.stream.Phase.{Phase}
use Rattle.stream_law.specs.declared.stream.Phase.TheVariants as phases
use Rattle.stream_law.specs.declared.stream.StreamView.{StreamView}
use Rattle.stream_law.specs.State.{HeapView}
use Rattle.stream_law.specs.Ways.{comp_of, edge_of}
use Rattle.mbox_link.specs.Step.{comp_bytes, buffer_bytes, pipe_bytes, heap_with_piece, fresh}
use Rattle.tplg_plan.specs.declared.plans.Plan.{Plan}
use Rattle.tplg_plan.specs.declared.plans.StreamPlan.{StreamPlan}
use Rattle.host_widgets.specs.declared.kept.Found.{Found}
use Rattle.host_widgets.specs.declared.kept.Found.TheVariants.{Prepared, Running, Paused}
use Rattle.host_widgets.specs.declared.kept.StreamRec.{StreamRec}
use Rattle.host_widgets.specs.Acts.{widget_ids}

-- ---- a stream

-- a stream that is closed or open is idle
abbrev pub phase_of : Found → Phase
phase_of Prepared = phases.Prepared
phase_of Running = phases.Running
phase_of Paused = phases.Paused
phase_of found = phases.Idle

abbrev pub stream_view : StreamPlan × StreamRec → StreamView
stream_view (s, r) = record { host = s.host; phase = phase_of r.found; params = r.params }

-- ---- the heap

-- the stated size in bytes of what an id names: a component, or else a buffer, or else a pipeline
abbrev pub stated_by : Option Comp → Option Edge → ℕ
stated_by (Some c) e = comp_bytes c.kind
stated_by None (Some e) = buffer_bytes e.size
stated_by None None = pipe_bytes

-- the same by the plan
abbrev pub stated_bytes : Plan → ℕ → ℕ
stated_bytes plan id = stated_by (comp_of plan.graph id) (edge_of plan.graph id)

-- the bytes of heap that the first n ids take, each rounded up to 16
abbrev pub needed_by : Plan → ℕ → ℕ
needed_by plan n = sum (map (λ id. rounded (stated_bytes plan id)) (range_with_len 0 n))

-- the heap once a piece is carved for each of these ids, one after the other
abbrev pub with_pieces : Plan → List ℕ → HeapView → HeapView
with_pieces plan [] heap = heap
with_pieces plan (id ∷ ids) heap = with_pieces plan ids (heap_with_piece id (stated_bytes plan id) heap)

-- what carving all stated sizes in the order of ids leaves of a fresh heap of so many bytes
abbrev pub loaded_heap : Plan → ℕ → HeapView
loaded_heap plan heap = with_pieces plan (widget_ids plan) (fresh heap).heap
