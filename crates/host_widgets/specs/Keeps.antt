-- What a powered device keeps of its plan and its record.
use Rattle.std.specs.Prelude.{◌≡◌, ℕ, map}
use Rattle.stream_law.specs.State.{FwState, view_of}
use Rattle.stream_law.specs.Ways.{buffers}
use Rattle.tplg_plan.specs.declared.plans.Plan.{Plan}
use Rattle.host_widgets.specs.declared.kept.Record.{Record}
use Rattle.host_widgets.specs.Expected.{loaded_heap}
use Rattle.host_widgets.specs.ViewOf.{record_view}

-- the state of a powered device: it shows what the record says, its heap is as a load leaves it, and it has a ring for each buffer
pub record KeepsRecord (plan : Plan) (heap : ℕ) (kept : Record) (f : FwState) : Type 0 where
  pub view : view_of f ≡ record_view plan kept
  pub pieces : f.heap ≡ loaded_heap plan heap
  pub rings : map (λ r. r.buffer) f.rings ≡ buffers plan.graph
