use Rattle.std.proofs.Common.{◌≡◌, ◌<◌, sym, ap, subst, ◌==◌, Some, None, find, length, ◌∙◌, Err, rules}
use Rattle.fw_components.specs.Tables.{Tables}
use Rattle.fw_components.specs.Parts.{part_told}
use Rattle.fw_components.proofs.Told.{standing}
use Rattle.fw_components.proofs.PartKept.{got-unplaced, got-found}
use Rattle.fw_components.proofs.registry.Registry.part.Goals as goal

pub returns-in_err-at : goal.returns-in_err-at
returns-in_err-at c =
    let gone : c.from_residual.result ≡ Err c.in_err-at.field-0.0 = search rules in
    ap part_told gone ∙ got-unplaced c.args.self.now c.args.id c.args.index _ c.in_err-at.ensures.none c.in_err-at.ensures.err

pub index-requires : goal.index-requires
index-requires c =
    let low : c.in_ok-at.at < length c.self.inside.comps.items = subst (λ (t : Tables). c.in_ok-at.at < length t.comps) (sym c.self.view_is) c.in_ok-at.ensures.below in
    search rules

pub returns-in-Some : goal.returns-in-Some
returns-in-Some c =
    let x = c.index.result.now in
    let it : Some x ≡ find (λ y. y.id == c.args.id) c.args.self.now.comps = standing c.args.id c.self.inside.comps.items c.args.self.now.comps c.in_ok-at.at x (ap (λ (t : Tables). t.comps) c.self.view_is) c.in_ok-at.ensures.place c.index.ensures in
    got-found c.args.self.now c.args.id c.args.index x (Some c.in-Some.part) c.in_ok-at.ensures.there it c.in-Some.ensures

pub returns-in-None : goal.returns-in-None
returns-in-None c =
    let x = c.index.result.now in
    let it : Some x ≡ find (λ y. y.id == c.args.id) c.args.self.now.comps = standing c.args.id c.self.inside.comps.items c.args.self.now.comps c.in_ok-at.at x (ap (λ (t : Tables). t.comps) c.self.view_is) c.in_ok-at.ensures.place c.index.ensures in
    got-found c.args.self.now c.args.id c.args.index x None c.in_ok-at.ensures.there it c.in-None.ensures
