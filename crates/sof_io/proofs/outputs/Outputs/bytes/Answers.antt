use Rattle.std.proofs.Common.{sym, ap, ◌∙◌}
use Rattle.sof_io.specs.Puts.{bytes_at}
use Rattle.sof_io.proofs.Places.{answer_at}
use Rattle.sof_io.proofs.OutputPlaces.{bytes_at-found, bytes_at-missing}
use Rattle.sof_io.proofs.outputs.Outputs.bytes.Goals as goal

pub returns-in-Some : goal.returns-in-Some
returns-in-Some c =
    let found = answer_at _ _ _ _ _ c.as_slice.ensures.value c.place_of.ensures c.in-Some.is in
    c.bytes.ensures.bytes ∙ sym (bytes_at-found c.args.slot c.in-Some.k c.self.inside.outputs.items c.index.result.now found c.index.ensures) ∙ ap (bytes_at c.args.slot) c.self.view_is

pub returns-in-None : goal.returns-in-None
returns-in-None c =
    let none = answer_at _ _ _ _ _ c.as_slice.ensures.value c.place_of.ensures c.in-None.is in
    sym (bytes_at-missing c.args.slot c.self.inside.outputs.items none) ∙ ap (bytes_at c.args.slot) c.self.view_is
