use Rattle.std.proofs.Common.{ℕ, ◌≤◌, ◌+◌, List, length, sym, ap, subst, ◌∙◌}
use Rattle.std.specs.Prelude.{All}
use Rattle.std.specs.List.Sorted.{IsStrictlyIncreasing}
use Rattle.sof_io.specs.Takes.{input_slots, HasPosition}
use Rattle.sof_io.specs.Takes.{left_at}
use Rattle.sof_io.specs.Fills.{filled_at}
use Rattle.sof_io.proofs.Places.{answer_at}
use Rattle.sof_io.proofs.InputPlaces.{left_at-found, filled_at-found, filled_at-missing}
use Rattle.sof_io.proofs.InputLaws.{slots-filled_at}
use Rattle.sof_io.proofs.Positions.{positions-filled_at}
use Rattle.sof_io.proofs.inputs.Inputs.fill.Goals as goal

pub fill-requires : goal.fill-requires
fill-requires c =
    let found = answer_at _ _ _ _ _ c.as_slice.ensures.value c.place_of.ensures c.in-Some.is in
    let left = left_at-found c.args.slot c.in-Some.k c.self.inside.inputs.items c.index_mut.result.now found c.index_mut.ensures.value in
    subst (λ (bytes : List ℕ). length bytes + length c.args.piece.now ≤ 1048576) (ap (left_at c.args.slot) (sym c.self.view_is) ∙ left) c.requires.fits

pub returns-in-Some : goal.returns-in-Some
returns-in-Some c =
    let found = answer_at _ _ _ _ _ c.as_slice.ensures.value c.place_of.ensures c.in-Some.is in
    filled_at-found c.args.slot c.in-Some.k c.args.piece.now c.self.inside.inputs.items c.index_mut.result.now c.fill.new.self found c.index_mut.ensures.value c.fill.ensures ∙ ap (filled_at c.args.slot c.args.piece.now) c.self.view_is

pub returns-in_default : goal.returns-in_default
returns-in_default c =
    let none = answer_at _ _ _ _ _ c.as_slice.ensures.value c.place_of.ensures c.in_default.is in
    sym (ap (filled_at c.args.slot c.args.piece.now) (sym c.self.view_is) ∙ filled_at-missing c.args.slot c.args.piece.now c.self.inside.inputs.items none ∙ c.self.view_is)

pub invariant_of-self : goal.invariant_of-self
invariant_of-self c =
    let found = answer_at _ _ _ _ _ c.as_slice.ensures.value c.place_of.ensures c.in-Some.is in
    let e = filled_at-found c.args.slot c.in-Some.k c.args.piece.now c.self.inside.inputs.items c.index_mut.result.now c.fill.new.self found c.index_mut.ensures.value c.fill.ensures in (
      subst IsStrictlyIncreasing (sym (ap input_slots e ∙ slots-filled_at c.args.slot c.args.piece.now c.self.inside.inputs.items)) c.self.invariant.0,
      subst (All HasPosition) (sym e) (positions-filled_at c.args.slot c.args.piece.now c.self.inside.inputs.items c.self.invariant.1),
    )
