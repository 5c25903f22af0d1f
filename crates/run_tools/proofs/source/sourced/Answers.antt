use Rattle.std.proofs.Common.{◌≡◌, Some, Ok, ap, ◌∙◌}
use Rattle.tplg_model.specs.Reading.{topology_of}
use Rattle.tplg_source.proofs.KeptPlans.{source_found}
use Rattle.run_desk.specs.Prepared.{checked_rules, checked_file}
use Rattle.run_tools.proofs.source.sourced.Goals as goal

pub returns-in-Ok : goal.returns-in-Ok
returns-in-Ok c =
    let t = c.in_ok-topology.topology in
    let plan = c.in_ok-plan.plan in
    let file : topology_of c.args.bytes.now ≡ Ok t = c.in_ok-topology.ensures.topology in
    let right = c.in_ok-plan.ensures.plan in
    (t, ap checked_file file ∙ ap (checked_rules t) right.0, source_found t plan (Some c.in-Ok.text.items) right.1 c.in-Ok.ensures.gives)
