use Rattle.std.proofs.Common.{◌≡◌, ◌<◌, sym, ap, subst, ◌==◌, Some, None, find, length, ◌∙◌, Err, rules}
use Rattle.fw_components.specs.Tables.{Tables}
use Rattle.fw_components.specs.Values.{answer_told}
use Rattle.fw_components.proofs.Told.{standing, values-unplaced, values-found}
use Rattle.fw_components.proofs.registry.Registry.values.Goals as goal

pub returns-in_err-at : goal.returns-in_err-at
returns-in_err-at c =
    let gone : c.from_residual.result ≡ Err c.in_err-at.field-0.0 = search rules in
    ap answer_told gone ∙ values-unplaced c.args.self.now c.args.id c.args.command _ c.in_err-at.ensures.none c.in_err-at.ensures.err

pub index-requires : goal.index-requires
index-requires c =
    let low : c.in_ok-at.at < length c.self.inside.comps.items = subst (λ (t : Tables). c.in_ok-at.at < length t.comps) (sym c.self.view_is) c.in_ok-at.ensures.below in
    search rules

pub returns-in-Some : goal.returns-in-Some
returns-in-Some c =
    let x = c.index.result.now in
    let it : Some x ≡ find (λ y. y.id == c.args.id) c.args.self.now.comps = standing c.args.id c.self.inside.comps.items c.args.self.now.comps c.in_ok-at.at x (ap (λ (t : Tables). t.comps) c.self.view_is) c.in_ok-at.ensures.place c.index.ensures in
    values-found c.args.self.now c.args.id c.args.command x (Some c.in-Some.values) c.in_ok-at.ensures.there it c.in-Some.ensures

pub returns-in-None : goal.returns-in-None
returns-in-None c =
    let x = c.index.result.now in
    let it : Some x ≡ find (λ y. y.id == c.args.id) c.args.self.now.comps = standing c.args.id c.self.inside.comps.items c.args.self.now.comps c.in_ok-at.at x (ap (λ (t : Tables). t.comps) c.self.view_is) c.in_ok-at.ensures.place c.index.ensures in
    values-found c.args.self.now c.args.id c.args.command x None c.in_ok-at.ensures.there it c.in-None.ensures
