use Rattle.std.proofs.Common.{length, sym, ap, ◌∙◌}
use Rattle.sof_io.specs.Takes.{held_at}
use Rattle.sof_io.proofs.Places.{answer_at}
use Rattle.sof_io.proofs.InputPlaces.{left_at-found, left_at-missing}
use Rattle.sof_io.proofs.inputs.Inputs.held.Goals as goal

pub returns-in-Some : goal.returns-in-Some
returns-in-Some c =
    let found = answer_at _ _ _ _ _ c.as_slice.ensures.value c.place_of.ensures c.in-Some.is in
    c.held.ensures ∙ ap length (sym (left_at-found c.args.slot c.in-Some.k c.self.inside.inputs.items c.index.result.now found c.index.ensures)) ∙ ap (held_at c.args.slot) c.self.view_is

pub returns-in-None : goal.returns-in-None
returns-in-None c =
    let none = answer_at _ _ _ _ _ c.as_slice.ensures.value c.place_of.ensures c.in-None.is in
    ap length (sym (left_at-missing c.args.slot c.self.inside.inputs.items none)) ∙ ap (held_at c.args.slot) c.self.view_is
