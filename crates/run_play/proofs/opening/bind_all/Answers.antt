use Rattle.std.proofs.Common.{true, false, sym, ap, ◌∙◌}
use Rattle.sof_base.specs.DrainedOutputs.{drained}
use Rattle.sof_io.specs.Bound.{output_slots, with_slot}
use Rattle.sof_io.specs.Takes.{input_slots}
use Rattle.sof_io.specs.Fills.{with_input}
use Rattle.sof_io.proofs.OutputLaws.{drained-with_slot}
use Rattle.run_play.proofs.Openings.{inputs_by, outputs_by}
use Rattle.run_play.proofs.BindingSteps.{new_slot, right_on, input_there, output_there, others_there}
use Rattle.run_play.proofs.opening.bind_all.Goals as goal
use Rattle.run_play.proofs.opening.bind_all.Goals.{then-binding+in_ok-add, else-binding+in_ok-add-2}

pub add-requires : goal.add-requires
add-requires c =
    let before = c.loop-binding.invariant in
    let slots = input_slots c.loop-binding.inputs in
    rw c.slot_of-slot.ensures
    (new_slot c.args.plan.now c.args.bindings.now c.loop-binding.binding-index c.binding-item.result c.loop-binding-test.true c.binding-item.is before.right true c.if-binding.true slots before.new_inputs)

pub add-requires-else-binding : goal.add-requires-else-binding
add-requires-else-binding c =
    let before = c.loop-binding.invariant in
    let slots = output_slots c.loop-binding.outputs in
    rw c.slot_of-slot.ensures
    (new_slot c.args.plan.now c.args.bindings.now c.loop-binding.binding-index c.binding-item.result c.loop-binding-test.true c.binding-item.is before.right false c.if-binding.false slots before.new_outputs)

pub loop-binding-preserved : goal.loop-binding-preserved
loop-binding-preserved c =
    let plan = c.args.plan.now in
    let bs = c.args.bindings.now in
    let i = c.loop-binding.binding-index in
    let b = c.binding-item.result in
    let within = c.loop-binding-test.true in
    let at = c.binding-item.is in
    let before = c.loop-binding.invariant in
    let inputs = c.loop-binding.inputs in
    let outputs = c.loop-binding.outputs in
    let slot = c.slot_of-slot.ensures in
    elim c.if-binding.branch [
      | then-binding+in_ok-add w ↦
          let is = w.if-binding.true in
          let added = w.in_ok-add.ensures.ok ∙ ap (λ s. with_input s inputs) slot in
          rw (w.inputs-is, w.outputs-is) record {
            right = right_on plan bs i b within at before.right;
            inputs = added ∙ ap (with_input _) before.inputs ∙ sym (inputs_by plan bs i b within at true is);
            outputs = before.outputs ∙ sym (outputs_by plan bs i b within at true is);
            new_inputs = input_there plan bs i b within at before.right is inputs _ added before.new_inputs;
            new_outputs = others_there plan bs i b within at before.right false (output_slots outputs) before.new_outputs;
            empty = before.empty;
          }
      | else-binding+in_ok-add-2 w ↦
          let is = w.if-binding.false in
          let added = w.in_ok-add-2.ensures.ok ∙ ap (λ s. with_slot s outputs) slot in
          rw (w.inputs-is, w.outputs-is) record {
            right = right_on plan bs i b within at before.right;
            inputs = before.inputs ∙ sym (inputs_by plan bs i b within at false is);
            outputs = added ∙ ap (with_slot _) before.outputs ∙ sym (outputs_by plan bs i b within at false is);
            new_inputs = others_there plan bs i b within at before.right true (input_slots inputs) before.new_inputs;
            new_outputs = output_there plan bs i b within at before.right is outputs _ added before.new_outputs;
            empty = ap drained w.in_ok-add-2.ensures.ok ∙ drained-with_slot _ outputs ∙ ap (with_slot _) before.empty ∙ sym w.in_ok-add-2.ensures.ok;
          }
    ]
