use Rattle.std.proofs.Common.{sym, ap, subst, ◌∙◌}
use Rattle.std.specs.Prelude.{All}
use Rattle.std.specs.List.Sorted.{IsStrictlyIncreasing}
use Rattle.sof_io.specs.Takes.{input_slots, HasPosition}
use Rattle.sof_io.specs.Fills.{ended_at}
use Rattle.sof_io.proofs.Places.{answer_at}
use Rattle.sof_io.proofs.InputPlaces.{ended_at-found, ended_at-missing}
use Rattle.sof_io.proofs.InputLaws.{slots-ended_at}
use Rattle.sof_io.proofs.Positions.{positions-ended_at}
use Rattle.sof_io.proofs.inputs.Inputs.end.Goals as goal

pub returns-in-Some : goal.returns-in-Some
returns-in-Some c =
    let found = answer_at _ _ _ _ _ c.as_slice.ensures.value c.place_of.ensures c.in-Some.is in
    ended_at-found c.args.slot c.in-Some.k c.self.inside.inputs.items c.index_mut.result.now c.end.new.self found c.index_mut.ensures.value c.end.ensures ∙ ap (ended_at c.args.slot) c.self.view_is

pub returns-in_default : goal.returns-in_default
returns-in_default c =
    let none = answer_at _ _ _ _ _ c.as_slice.ensures.value c.place_of.ensures c.in_default.is in
    sym (ap (ended_at c.args.slot) (sym c.self.view_is) ∙ ended_at-missing c.args.slot c.self.inside.inputs.items none ∙ c.self.view_is)

pub invariant_of-self : goal.invariant_of-self
invariant_of-self c =
    let found = answer_at _ _ _ _ _ c.as_slice.ensures.value c.place_of.ensures c.in-Some.is in
    let e = ended_at-found c.args.slot c.in-Some.k c.self.inside.inputs.items c.index_mut.result.now c.end.new.self found c.index_mut.ensures.value c.end.ensures in (
      subst IsStrictlyIncreasing (sym (ap input_slots e ∙ slots-ended_at c.args.slot c.self.inside.inputs.items)) c.self.invariant.0,
      subst (All HasPosition) (sym e) (positions-ended_at c.args.slot c.self.inside.inputs.items c.self.invariant.1),
    )
