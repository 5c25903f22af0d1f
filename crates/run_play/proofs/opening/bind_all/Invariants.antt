use Rattle.std.proofs.Common.{◌≡◌, take, drop, [], None, true, false}
use Rattle.sof_base.specs.DrainedOutputs.{drained}
use Rattle.sof_io.specs.Bound.{output_slots}
use Rattle.sof_io.specs.Takes.{input_slots}
use Rattle.sof_script.specs.ScriptRead.{bounds_of}
use Rattle.run_desk.specs.Bindings.{wrong_behind, bound_inputs, bound_outputs}
use Rattle.run_play.proofs.Slots.{IsFresh}
use Rattle.run_play.proofs.opening.bind_all.Given as goal

-- the bindings before have their places; those after are right, and have none of these slots
abbrev pub invariant-loop-binding : goal.invariant-loop-binding
invariant-loop-binding l =
    let before = bounds_of (take l.binding-index l.bindings) in
    record {
      right : wrong_behind l.plan before (bounds_of (drop l.binding-index l.bindings)) ≡ None;
      inputs : l.inputs ≡ bound_inputs l.plan [] before;
      outputs : l.outputs ≡ bound_outputs l.plan [] before;
      new_inputs : IsFresh l.plan true before (input_slots l.inputs);
      new_outputs : IsFresh l.plan false before (output_slots l.outputs);
      empty : drained l.outputs ≡ l.outputs;
    }
