use Rattle.std.proofs.Common.{sym, ap, subst, ◌∙◌}
use Rattle.std.specs.Prelude.{All}
use Rattle.std.specs.List.Sorted.{IsStrictlyIncreasing}
use Rattle.sof_io.specs.Takes.{input_slots, HasPosition}
use Rattle.sof_io.specs.Takes.{taken}
use Rattle.sof_io.proofs.Places.{answer_at}
use Rattle.sof_io.proofs.InputPlaces.{taken-found, taken-missing}
use Rattle.sof_io.proofs.InputLaws.{slots-taken}
use Rattle.sof_io.proofs.Positions.{positions-taken}
use Rattle.sof_io.proofs.inputs.Inputs.skip.Goals as goal

pub place_by-requires : goal.place_by-requires
place_by-requires c = subst (λ inputs. IsStrictlyIncreasing (input_slots inputs)) (sym c.as_slice.ensures.value) c.self.invariant.0

pub returns-in-Some : goal.returns-in-Some
returns-in-Some c =
    let found = answer_at _ _ _ _ _ c.as_slice.ensures.value c.place_by.ensures c.in-Some.is in
    taken-found c.args.slot c.args.n c.in-Some.k c.self.inside.inputs.items c.index_mut.result.now c.skip.new.self found c.index_mut.ensures.value c.skip.ensures ∙ ap (taken c.args.slot c.args.n) c.self.view_is

pub returns-in_default : goal.returns-in_default
returns-in_default c =
    let none = answer_at _ _ _ _ _ c.as_slice.ensures.value c.place_by.ensures c.in_default.is in
    sym (ap (taken c.args.slot c.args.n) (sym c.self.view_is) ∙ taken-missing c.args.slot c.args.n c.self.inside.inputs.items none ∙ c.self.view_is)

pub invariant_of-self : goal.invariant_of-self
invariant_of-self c =
    let found = answer_at _ _ _ _ _ c.as_slice.ensures.value c.place_by.ensures c.in-Some.is in
    let e = taken-found c.args.slot c.args.n c.in-Some.k c.self.inside.inputs.items c.index_mut.result.now c.skip.new.self found c.index_mut.ensures.value c.skip.ensures in (
      subst IsStrictlyIncreasing (sym (ap input_slots e ∙ slots-taken c.args.slot c.args.n c.self.inside.inputs.items)) c.self.invariant.0,
      subst (All HasPosition) (sym e) (positions-taken c.args.slot c.args.n c.self.inside.inputs.items c.self.invariant.1),
    )
