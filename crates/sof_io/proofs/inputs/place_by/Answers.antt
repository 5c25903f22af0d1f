use Rattle.std.proofs.Common.{◌<◌, sym, ap, ◌∙◌, length, arith}
use Rattle.sof_base.specs.Ports.{InputView}
use Rattle.sof_io.proofs.InputPlaces.{stands-at}
use Rattle.sof_io.proofs.inputs.place_by.Goals as goal

pub returns-then-slot : goal.returns-then-slot
returns-then-slot c =
    let low : c.from-at.result < length c.args.inputs.now = omega arith in
    stands-at c.args.slot c.from-at.result c.args.inputs.now c.index-inputs-at.result c.requires low (ap (λ (input : InputView). input.slot) (sym c.index-inputs-at.is) ∙ sym c.slot.ensures ∙ c.if-slot.true)
