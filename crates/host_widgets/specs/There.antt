-- What is there in the firmware, as messages that pass add it and take it away.
use Rattle.std.specs.Prelude.{ℕ, List, map, filter, Bool, false, Result, Ok, Err, ℤ}
use Rattle.stream_law.specs.declared.graph.Graph.{Graph}
use Rattle.stream_law.specs.declared.graph.Setting.TheVariants.{Blob}
use Rattle.stream_law.specs.declared.stream.StreamView.{StreamView}
use Rattle.stream_law.specs.State.{FwState, HeapView, View}
use Rattle.stream_law.specs.Order.{is_among}
use Rattle.mbox_link.specs.BlobParts.{is_last}
use Rattle.mbox_link.specs.Step.{row, fresh, with_comps, with_setting}
use Rattle.tplg_plan.specs.declared.plans.Plan.{Plan}
use Rattle.host_widgets.specs.Acts.{widget_ids, widget_words}
use Rattle.host_widgets.specs.HostActs.{Part, Act}
use Rattle.host_widgets.specs.ActMessages.{act_message}

-- the heap's holes and pieces, the graph and the streams
pub record There : Type 0 where
  pub heap : HeapView
  pub graph : Graph
  pub streams : List StreamView

-- what of a firmware's state this is
abbrev pub there_in : FwState → There
there_in f = record { heap = f.heap; graph = f.graph; streams = f.streams }

-- after a boot with a heap of so many bytes: one hole, and nothing else
abbrev pub booted : ℕ → There
booted heap = there_in (fresh heap)

-- while the power is off
abbrev pub nowhere : There
nowhere = booted 0

-- a firmware in which this is there, that played nothing
abbrev pub silent_state : There → FwState
silent_state t = record (fresh 0) { heap = t.heap; graph = t.graph; streams = t.streams }

abbrev pub there_view : There → View
there_view t = record { graph = t.graph; streams = t.streams }

-- ---- a message that passes

-- what its row leaves
abbrev pub row_left : There → Result FwState ℤ → There
row_left t (Ok f) = there_in f
row_left t (Err e) = t

abbrev pub by_row : Plan → Act → There → There
by_row plan act t = row_left t (row (silent_state t) (act_message plan act))

-- the last part of a blob puts it in force, and the parts before it change nothing
abbrev pub by_part : ℕ → List ℕ → Bool → There → There
by_part comp blob false t = t
by_part comp blob last t = record { heap = t.heap; graph = with_comps (map (with_setting comp (Blob blob)) t.graph.comps) t.graph; streams = t.streams }

-- what is there after it
abbrev pub there_after : Plan → Act → There → There
there_after plan (Part comp blob k) t = by_part comp blob (is_last blob k) t
there_after plan act t = by_row plan act t

-- the ids that are there: each has its piece
abbrev pub ids_there : There → List ℕ
ids_there t = map (λ p. p.id) t.heap.pieces

-- those of these indices
abbrev pub ids_there_of : Plan → List ℕ → There → List ℕ
ids_there_of plan n t = filter (λ id. is_among n (widget_words plan id).pipe) (ids_there t)

-- the widgets of these indices, by id
abbrev pub shown_ids : Plan → List ℕ → List ℕ
shown_ids plan up = filter (λ id. is_among up (widget_words plan id).pipe) (widget_ids plan)
