use Rattle.std.proofs.Common.{List, is_some, subst, ◌∙◌, ap}
use Rattle.std.specs.List.Sorted.{IsStrictlyIncreasing}
use Rattle.sof_base.specs.Ports.{InputView}
use Rattle.sof_io.specs.Bound.{has_slot}
use Rattle.sof_io.specs.Takes.{input_slots}
use Rattle.sof_io.proofs.Ascending.{ascending_distinct}
use Rattle.sof_io.proofs.Places.{seen_at, some_place}
use Rattle.sof_io.proofs.InputPlaces.{is_input, has_input}
use Rattle.sof_io.proofs.inputs.Inputs.has.Goals as goal

pub returns-clause-has : goal.returns-clause-has
returns-clause-has c =
    c.is_some.ensures
    ∙ ap is_some (seen_at _ _ _ _ c.as_slice.ensures.value c.place_of.ensures)
    ∙ some_place (is_input c.args.slot) c.self.inside.inputs.items
    ∙ has_input c.args.slot c.self.inside.inputs.items
    ∙ ap (λ (inputs : List InputView). has_slot c.args.slot (input_slots inputs)) c.self.view_is

pub returns-clause-distinct : goal.returns-clause-distinct
returns-clause-distinct c = ascending_distinct (input_slots c.args.self.now) (subst (λ (inputs : List InputView). IsStrictlyIncreasing (input_slots inputs)) c.self.view_is c.self.invariant.0)
