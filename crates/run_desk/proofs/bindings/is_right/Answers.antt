use Rattle.std.proofs.Common.{Bool, not, ◌&&◌, sym, ap, ◌∙◌}
use Rattle.sof_script.specs.ScriptRead.{bounds_of}
use Rattle.run_desk.specs.BindingParts.{is_endpoint_bound}
use Rattle.run_desk.proofs.BindingLaws.{bound_same}
use Rattle.run_desk.proofs.bindings.is_right.Goals as goal

pub returns-then-has_endpoint : goal.returns-then-has_endpoint
returns-then-has_endpoint c =
    let bound = c.is_bound.ensures ∙ bound_same c.args.earlier.now c.args.binding.now.endpoint in
    let there = sym c.has_endpoint.ensures ∙ c.if-has_endpoint.true in
    sym (ap (λ (t : Bool). t && not (is_endpoint_bound (bounds_of c.args.earlier.now) c.args.binding.now.endpoint)) there ∙ ap not (sym bound))
