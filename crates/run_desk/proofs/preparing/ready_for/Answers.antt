use Rattle.std.proofs.Common.{◌≡◌, refl, sym, ap, ◌∙◌, None}
use Rattle.sof_script.specs.ScriptRead.{script_read, bounds_of}
use Rattle.run_desk.specs.Bindings.{wrong_binding as wrong_of}
use Rattle.run_desk.specs.Prepared.{prepared_bindings}
use Rattle.run_desk.proofs.preparing.ready_for.Goals as goal

pub returns : goal.returns
returns c =
    let plan = c.args.plan in
    let read = script_read c.args.script in
    let right : wrong_of plan read.bindings ≡ None = ap (λ bs. wrong_of plan (bounds_of bs)) (sym c.items.ensures) ∙ sym c.wrong_binding.ensures ∙ c.in_default.is in
    (refl, record { sound = c.requires; right = right }, ap (prepared_bindings plan read) right)
