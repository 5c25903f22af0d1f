use Rattle.std.proofs.Common.{◌≡◌, sym, ◌∷◌, [], true, false, rules}
use Rattle.std.specs.List.{list_all}
use Rattle.std.proofs.lemmas.Iterator.{cases_from_all, YieldsList-from_slice}
use Rattle.stream_law.specs.declared.graph.Graph.{Graph}
use Rattle.stream_law.specs.Ways.{components}
use Rattle.fw_places.specs.WayCharts.{AreWaysOf}
use Rattle.stream_law.specs.Order.{is_among}
use Rattle.fw_components.specs.Tally.{IsSeenIn}
use Rattle.fw_units.specs.declared.component.Component.{Component}
use Rattle.fw_pipeline.specs.Preparing.{suits, AreHostsIn}
use Rattle.fw_pipeline.proofs.AllWhere.{all-where}
use Rattle.fw_pipeline.proofs.agreeing.all_suit.Goals as goal

pub returns : goal.returns
returns c = λ g is are.
    let In : Component → Type 0 = λ d. (is_among (components g) d.id ≡ true) × IsSeenIn g d in
    let test = λ (x : Component). list_all (λ (d : Component). suits g c.args.given x d) c.args.comps.now in
    all-where test In _ c.args.comps.now are
    (cases_from_all _ _ _ (λ d. In d → test d ≡ true) (λ d. In d → test d ≡ false) c.all.ensures.ran (YieldsList-from_slice c.args.comps.now cc)
    (λ x q k. (search rules, λ w. let raw : (h : Graph) → AreWaysOf h c.args.ways.now → AreHostsIn h c.args.comps.now → AreHostsIn h (x.now ∷ []) → true ≡ list_all (λ d. suits h c.args.given x.now d) c.args.comps.now = search rules in sym (raw g is are (w, tt))))
    (λ x q k. λ w. let raw : (h : Graph) → AreWaysOf h c.args.ways.now → AreHostsIn h c.args.comps.now → AreHostsIn h (x.now ∷ []) → false ≡ list_all (λ d. suits h c.args.given x.now d) c.args.comps.now = search rules in sym (raw g is are (w, tt))))
