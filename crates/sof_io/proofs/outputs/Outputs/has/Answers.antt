use Rattle.std.proofs.Common.{List, is_some, ◌∙◌, ap}
use Rattle.sof_base.specs.Ports.{OutputView}
use Rattle.sof_io.specs.Bound.{output_slots, has_slot}
use Rattle.sof_io.proofs.Places.{seen_at, some_place}
use Rattle.sof_io.proofs.OutputPlaces.{is_output, has_output}
use Rattle.sof_io.proofs.outputs.Outputs.has.Goals as goal

pub returns : goal.returns
returns c =
    c.is_some.ensures
    ∙ ap is_some (seen_at _ _ _ _ c.as_slice.ensures.value c.place_of.ensures)
    ∙ some_place (is_output c.args.slot) c.self.inside.outputs.items
    ∙ has_output c.args.slot c.self.inside.outputs.items
    ∙ ap (λ (outputs : List OutputView). has_slot c.args.slot (output_slots outputs)) c.self.view_is
