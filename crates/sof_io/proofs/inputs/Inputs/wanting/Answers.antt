use Rattle.std.proofs.Common.{ℕ, Some, sym, ap, ◌∙◌}
use Rattle.sof_io.specs.Fills.{wanting}
use Rattle.sof_io.proofs.Places.{answer_at}
use Rattle.sof_io.proofs.InputPlaces.{wanting-found, wanting-missing}
use Rattle.sof_io.proofs.inputs.Inputs.wanting.Goals as goal

pub returns-in-Some : goal.returns-in-Some
returns-in-Some c =
    let found = answer_at _ _ _ _ _ c.as_slice.ensures.value c.place_wanting.ensures c.in-Some.is in
    ap (λ (slot : ℕ). Some slot) c.slot.ensures
    ∙ sym (wanting-found c.args.level c.in-Some.k c.self.inside.inputs.items c.index.result.now found c.index.ensures)
    ∙ ap (wanting c.args.level) c.self.view_is

pub returns-in-None : goal.returns-in-None
returns-in-None c =
    let none = answer_at _ _ _ _ _ c.as_slice.ensures.value c.place_wanting.ensures c.in-None.is in
    sym (wanting-missing c.args.level c.self.inside.inputs.items none) ∙ ap (wanting c.args.level) c.self.view_is
