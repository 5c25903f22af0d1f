use Rattle.std.proofs.Common.{◌≡◌, ◌++◌, take, drop, sym, ap, subst, ◌∙◌, length, arith}
use Rattle.std.proofs.lemmas.List.{take_at}
use Rattle.std.specs.List.Sorted.{IsStrictlyIncreasing}
use Rattle.sof_base.specs.Ports.{HasRoom}
use Rattle.sof_base.specs.DrainedOutputs.{drained}
use Rattle.sof_io.specs.Bound.{output_slots}
use Rattle.sof_io.proofs.OutputLaws.{slots-drained, length-drained}
use Rattle.sof_io.proofs.RoomLaws.{HasRoom-drained}
use Rattle.sof_io.proofs.outputs.Outputs.drain.Goals as goal

pub invariant_of-self : goal.invariant_of-self
invariant_of-self c =
    let all : c.drain_all.new.outputs ≡ drained c.self.inside.outputs.items = c.drain_all.ensures ∙ ap drained c.as_mut_slice.ensures.value in
    let len : length c.drain_all.new.outputs ≡ c.self.inside.outputs.len = ap length c.drain_all.ensures ∙ length-drained c.as_mut_slice.result.now ∙ c.as_mut_slice.ensures.len in
    let e : take c.self.inside.outputs.len (c.drain_all.new.outputs ++ drop (length c.drain_all.new.outputs) c.self.inside.outputs.items) ≡ drained c.self.inside.outputs.items = take_at c.drain_all.new.outputs (drop (length c.drain_all.new.outputs) c.self.inside.outputs.items) c.self.inside.outputs.len len ∙ all in (
      subst IsStrictlyIncreasing (sym (ap output_slots e ∙ slots-drained c.self.inside.outputs.items)) c.self.invariant.0,
      subst (HasRoom 0) (sym e) (HasRoom-drained 0 c.self.inside.outputs.items (omega arith)),
    )
