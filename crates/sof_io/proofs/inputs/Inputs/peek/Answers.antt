use Rattle.std.proofs.Common.{sym, ap, subst, ◌∙◌, length}
use Rattle.std.specs.List.Sorted.{IsStrictlyIncreasing}
use Rattle.sof_io.specs.Takes.{input_slots, bytes_given}
use Rattle.sof_io.proofs.Places.{answer_at}
use Rattle.sof_io.proofs.InputPlaces.{given-found, given-missing}
use Rattle.sof_io.proofs.inputs.Inputs.peek.Goals as goal

pub place_by-requires : goal.place_by-requires
place_by-requires c = subst (λ inputs. IsStrictlyIncreasing (input_slots inputs)) (sym c.as_slice.ensures.value) c.self.invariant.0

pub returns-in-Some : goal.returns-in-Some
returns-in-Some c =
    let found = answer_at _ _ _ _ _ c.as_slice.ensures.value c.place_by.ensures c.in-Some.is in
    given-found c.args.slot (length c.args.room.now) c.in-Some.k c.self.inside.inputs.items c.index.result.now c.peek.result.now found c.index.ensures c.peek.ensures ∙ ap (bytes_given c.args.slot (length c.args.room.now)) c.self.view_is

pub returns-in-None : goal.returns-in-None
returns-in-None c =
    let none = answer_at _ _ _ _ _ c.as_slice.ensures.value c.place_by.ensures c.in-None.is in
    c.fill.ensures.after (λ y e. e) ∙ sym (given-missing c.args.slot (length c.args.room.now) c.self.inside.inputs.items none) ∙ ap (bytes_given c.args.slot (length c.args.room.now)) c.self.view_is
