use Rattle.std.proofs.Common.{◌≡◌, sym, ap, ◌∙◌, ◌∷◌, [], not, true, false, rules}
use Rattle.std.specs.Prelude.{is_some}
use Rattle.std.proofs.lemmas.Iterator.{cases_from_all, YieldsList-from_slice}
use Rattle.stream_law.specs.declared.graph.Graph.{Graph}
use Rattle.stream_law.specs.Ways.{components}
use Rattle.fw_places.specs.WayCharts.{AreWaysOf}
use Rattle.stream_law.specs.Order.{is_among}
use Rattle.fw_components.specs.Tally.{IsSeenIn}
use Rattle.fw_units.specs.declared.component.Component.{Component}
use Rattle.fw_pipeline.specs.Preparing.{suits, AreHostsIn}
use Rattle.fw_pipeline.proofs.AllWhere.{all-where}
use Rattle.fw_pipeline.proofs.AgreeLaws.{none-suits}
use Rattle.fw_pipeline.proofs.agreeing.suits_all.Goals as goal

pub returns-then-is_none : goal.returns-then-is_none
returns-then-is_none c = λ g is are one. none-suits g c.args.given c.args.one.now (ap is_some (sym c.shape.ensures) ∙ c.is_none.ensures ∙ ap not c.if-is_none.true) c.args.comps.now

pub returns : goal.returns
returns c = λ g is are one.
    let In : Component → Type 0 = λ d. (is_among (components g) d.id ≡ true) × IsSeenIn g d in
    let test = λ (d : Component). suits g c.args.given c.args.one.now d in
    all-where test In _ c.args.comps.now are
    (cases_from_all _ _ _ (λ d. In d → test d ≡ true) (λ d. In d → test d ≡ false) c.all.ensures.ran (YieldsList-from_slice c.args.comps.now cc)
    (λ x q k. (search rules, λ w. let raw : (h : Graph) → AreWaysOf h c.args.ways.now → AreHostsIn h (c.args.one.now ∷ x.now ∷ []) → true ≡ suits h c.args.given c.args.one.now x.now = search rules in sym (raw g is (one.0, (w, tt)))))
    (λ x q k. λ w. let raw : (h : Graph) → AreWaysOf h c.args.ways.now → AreHostsIn h (c.args.one.now ∷ x.now ∷ []) → false ≡ suits h c.args.given c.args.one.now x.now = search rules in sym (raw g is (one.0, (w, tt)))))
