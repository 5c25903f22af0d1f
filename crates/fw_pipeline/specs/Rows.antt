-- The rows of messages as they are read through the view of a registry.
use Rattle.std.specs.Prelude.{ℕ, ℤ, Bool, Result, Ok, Err, Option, Some, None, find, option_map, ◌==◌}
use Rattle.sof_base.specs.declared.errno.Errno.{Errno}
use Rattle.stream_law.specs.declared.graph.Pipe.{Pipe}
use Rattle.stream_law.specs.declared.graph.Graph.{Graph}
use Rattle.stream_law.specs.State.{FwState, View, view_of}
use Rattle.fw_components.specs.Tables.{Tables}
use Rattle.fw_components.specs.States.{with_tables}
use Rattle.mbox_link.specs.Step.{comp_free, buffer_free, pipe_free}
use Rattle.fw_pipeline.specs.declared.freeing.Item.{Item}
use Rattle.fw_pipeline.specs.declared.freeing.Item.TheVariants as items

-- a state with this view
abbrev pub with_view : View → FwState → FwState
with_view v f = record f { graph = v.graph; streams = v.streams }

-- the view that a row leads to, or its negative error
abbrev pub view_after : Result FwState ℤ → Result View ℤ
view_after (Ok f) = Ok (view_of f)
view_after (Err e) = Err e

-- the view that a call left where it was done, or its negative error
abbrev pub view_answer : {X : Type 0} → View → Result X Errno → Result View ℤ
view_answer v (Ok done) = Ok v
view_answer v (Err error) = Err error.0

-- the state that a call left in tables where it was done, or its negative error
abbrev pub told_state : {X : Type 0} → Tables → FwState → Result X Errno → Result FwState ℤ
told_state t f (Ok done) = Ok (with_tables t f)
told_state t f (Err error) = Err error.0

-- ---- pipelines

-- the component that schedules a pipeline, and whether it is complete
abbrev pub terms_by : Pipe → ℕ × Bool
terms_by p = (p.sched, p.complete)

-- those of the pipeline of an id
abbrev pub terms_at : Graph → ℕ → Option (ℕ × Bool)
terms_at g id = option_map terms_by (find (λ p. p.id == id) g.pipes)

-- ---- what is freed

-- the row that frees what is asked for
abbrev pub row_of_free : Item → FwState → ℕ → Result FwState ℤ
row_of_free items.Component f id = comp_free f id
row_of_free items.Buffer f id = buffer_free f id
row_of_free items.Pipeline f id = pipe_free f id

-- the first of two, if it is there, or the second
abbrev pub first_there : Option ℕ → Option ℕ → Option ℕ
first_there (Some n) o = Some n
first_there None o = o
