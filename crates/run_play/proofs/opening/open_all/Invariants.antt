use Rattle.std.proofs.Common.{take, drop, []}
use Rattle.sof_script.specs.ScriptRead.{bounds_of}
use Rattle.run_desk.specs.Bindings.{bound_inputs, bound_outputs}
use Rattle.run_play.specs.Opening.{HaveFiles}
use Rattle.run_play.proofs.Openings.{Left}
use Rattle.run_play.proofs.opening.open_all.Given as goal

-- the bindings that are left, opened, make all opened; the files of those before are there
abbrev pub invariant-loop-binding : goal.invariant-loop-binding
invariant-loop-binding g l =
    let means = g.D.Desk.means in
    let before = bounds_of (take l.binding-index l.bindings) in
    record {
      so_far : Left means l.plan (bounds_of l.bindings) (bounds_of (drop l.binding-index l.bindings)) l.fn.desk l.desk;
      files : HaveFiles means (bound_inputs l.plan [] before) (bound_outputs l.plan [] before) l.desk;
    }
