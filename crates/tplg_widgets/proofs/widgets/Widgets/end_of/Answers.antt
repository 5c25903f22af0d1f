use Rattle.std.proofs.lemmas.Bool.Decides.{nat_tests}
use Rattle.std.proofs.lemmas.Option.{slice_get_read}
use Rattle.std.proofs.Common.{◌<◌, length, refl, arith, ◌≡◌, sym, ap, ◌∙◌, position, slice_get, Some}
use Rattle.std.specs.Option.{option_copied}
use Rattle.tplg_widgets.specs.Names.{has_name}
use Rattle.tplg_widgets.specs.Ends.{end_named}
use Rattle.tplg_widgets.proofs.FoundEnds.{end-found}
use Rattle.tplg_widgets.proofs.widgets.Widgets.end_of.Goals as goal

pub returns-in-Some-get : goal.returns-in-Some-get
returns-in-Some-get c =
    let found : position (has_name c.args.name.now) c.self.inside.interpreted.items ≡ Some c.in-Some.id.now = sym (c.self.invariant.ids c.args.name.now) ∙ sym c.get.ensures.value ∙ ap option_copied c.in-Some.is in
    let look = c.in-Some-get.ensures.lookup in
    let within : c.in-Some.id.now < length c.deref.result.now = grind (arith, nat_tests, look.0) in
    let lent : slice_get c.deref.result.now c.in-Some.id.now ≡ Some c.in-Some-get.entry.now = slice_get_read c.deref.result.now (length c.deref.result.now) c.in-Some.id.now c.in-Some-get.entry.now refl within look.1 in
    let there : slice_get c.self.inside.interpreted.items c.in-Some.id.now ≡ Some c.in-Some-get.entry.now = ap (λ xs. slice_get xs c.in-Some.id.now) (sym c.deref.ensures.value) ∙ lent in
    c.end_at.ensures ∙ end-found c.self.inside.all.items c.self.inside.interpreted.items c.args.name.now c.in-Some.id.now c.in-Some-get.entry.now c.self.invariant.parts found there ∙ ap (λ es. end_named es c.args.name.now) c.self.view_is
