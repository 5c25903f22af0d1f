use Rattle.std.proofs.Common.{sym, ap, ◌∙◌}
use Rattle.sof_io.specs.Takes.{has_ended}
use Rattle.sof_io.proofs.Places.{answer_at}
use Rattle.sof_io.proofs.InputPlaces.{has_ended-found, has_ended-missing}
use Rattle.sof_io.proofs.inputs.Inputs.ended.Goals as goal

pub returns-in-Some : goal.returns-in-Some
returns-in-Some c =
    let found = answer_at _ _ _ _ _ c.as_slice.ensures.value c.place_of.ensures c.in-Some.is in
    c.ended.ensures ∙ sym (has_ended-found c.args.slot c.in-Some.k c.self.inside.inputs.items c.index.result.now found c.index.ensures) ∙ ap (has_ended c.args.slot) c.self.view_is

pub returns-in-None : goal.returns-in-None
returns-in-None c =
    let none = answer_at _ _ _ _ _ c.as_slice.ensures.value c.place_of.ensures c.in-None.is in
    sym (has_ended-missing c.args.slot c.self.inside.inputs.items none) ∙ ap (has_ended c.args.slot) c.self.view_is
