use Rattle.std.proofs.Common.{sym, ap, subst, ◌∙◌, length}
use Rattle.std.specs.Prelude.{All}
use Rattle.std.specs.List.Sorted.{IsStrictlyIncreasing}
use Rattle.sof_io.specs.Takes.{input_slots, HasPosition}
use Rattle.sof_io.specs.Takes.{bytes_given, taken}
use Rattle.sof_io.proofs.Places.{answer_at}
use Rattle.sof_io.proofs.InputPlaces.{taken-found, given-found, taken-missing, given-missing}
use Rattle.sof_io.proofs.InputLaws.{slots-taken}
use Rattle.sof_io.proofs.Positions.{positions-taken}
use Rattle.sof_io.proofs.inputs.Inputs.take.Goals as goal

pub returns-in-Some-clause-inputs : goal.returns-in-Some-clause-inputs
returns-in-Some-clause-inputs c =
    let found = answer_at _ _ _ _ _ c.as_slice.ensures.value c.place_of.ensures c.in-Some.is in
    taken-found c.args.slot (length c.args.out.now) c.in-Some.k c.self.inside.inputs.items c.index_mut.result.now c.take.new.self found c.index_mut.ensures.value c.take.ensures.moved ∙ ap (taken c.args.slot (length c.args.out.now)) c.self.view_is

pub returns-in-Some-clause-bytes : goal.returns-in-Some-clause-bytes
returns-in-Some-clause-bytes c =
    let found = answer_at _ _ _ _ _ c.as_slice.ensures.value c.place_of.ensures c.in-Some.is in
    given-found c.args.slot (length c.args.out.now) c.in-Some.k c.self.inside.inputs.items c.index_mut.result.now c.take.new.out found c.index_mut.ensures.value c.take.ensures.bytes ∙ ap (bytes_given c.args.slot (length c.args.out.now)) c.self.view_is

pub returns-in-None-clause-inputs : goal.returns-in-None-clause-inputs
returns-in-None-clause-inputs c =
    let none = answer_at _ _ _ _ _ c.as_slice.ensures.value c.place_of.ensures c.in-None.is in
    sym (ap (taken c.args.slot (length c.args.out.now)) (sym c.self.view_is) ∙ taken-missing c.args.slot (length c.args.out.now) c.self.inside.inputs.items none ∙ c.self.view_is)

pub returns-in-None-clause-bytes : goal.returns-in-None-clause-bytes
returns-in-None-clause-bytes c =
    let none = answer_at _ _ _ _ _ c.as_slice.ensures.value c.place_of.ensures c.in-None.is in
    c.fill.ensures.after (λ y e. e) ∙ sym (given-missing c.args.slot (length c.args.out.now) c.self.inside.inputs.items none) ∙ ap (bytes_given c.args.slot (length c.args.out.now)) c.self.view_is

pub invariant_of-self : goal.invariant_of-self
invariant_of-self c =
    let found = answer_at _ _ _ _ _ c.as_slice.ensures.value c.place_of.ensures c.in-Some.is in
    let e = taken-found c.args.slot (length c.args.out.now) c.in-Some.k c.self.inside.inputs.items c.index_mut.result.now c.take.new.self found c.index_mut.ensures.value c.take.ensures.moved in (
      subst IsStrictlyIncreasing (sym (ap input_slots e ∙ slots-taken c.args.slot (length c.args.out.now) c.self.inside.inputs.items)) c.self.invariant.0,
      subst (All HasPosition) (sym e) (positions-taken c.args.slot (length c.args.out.now) c.self.inside.inputs.items c.self.invariant.1),
    )
