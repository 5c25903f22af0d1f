use Rattle.std.proofs.Common.{◌≡◌, sym, ◌∷◌, [], not, true, false, ◌||◌, rules}
use Rattle.std.proofs.lemmas.Iterator.{cases_from_all, YieldsList-from_slice}
use Rattle.stream_law.specs.Ways.{components}
use Rattle.stream_law.specs.Joins.{has_stayed}
use Rattle.stream_law.specs.Order.{is_among}
use Rattle.stream_law.specs.declared.graph.Graph.{Graph}
use Rattle.fw_places.specs.WayCharts.{AreWaysOf}
use Rattle.fw_pipeline.specs.Preparing.{AreHostsIn}
use Rattle.fw_components.specs.Tally.{IsSeenIn}
use Rattle.fw_units.specs.declared.component.Component.{Component}
use Rattle.fw_walks.specs.declared.streams.Sort.TheVariants as sorts
use Rattle.fw_walks.specs.Streams.{is_sort, any_stream}
use Rattle.fw_pipeline.proofs.AllWhere.{all-where, both-all}
use Rattle.fw_pipeline.proofs.staying.have_stayed.Goals as goal

pub returns : goal.returns
returns c = λ g h ours theirs are those.
    let In : Graph → Component → Type 0 = λ k d. (is_among (components k) d.id ≡ true) × IsSeenIn k d in
    let test = λ (d : Component). not (any_stream (is_sort sorts.Set) 0 d.unit) || has_stayed g h d.id in
    all-where test (λ d. In g d × In h d) _ c.args.comps.now (both-all (In g) (In h) c.args.comps.now are those)
    (cases_from_all _ _ _ (λ d. In g d × In h d → test d ≡ true) (λ d. In g d × In h d → test d ≡ false) c.all.ensures.ran (YieldsList-from_slice c.args.comps.now cc)
    (λ x q k. (search rules, λ w. let raw : (a b : Graph) → AreWaysOf a c.args.old.now → AreWaysOf b c.args.new.now → AreHostsIn a (x.now ∷ []) → AreHostsIn b (x.now ∷ []) → true ≡ (not (any_stream (is_sort sorts.Set) 0 x.now.unit) || has_stayed a b x.now.id) = search rules in sym (raw g h ours theirs (w.0, tt) (w.1, tt))))
    (λ x q k. λ w. let raw : (a b : Graph) → AreWaysOf a c.args.old.now → AreWaysOf b c.args.new.now → AreHostsIn a (x.now ∷ []) → AreHostsIn b (x.now ∷ []) → false ≡ (not (any_stream (is_sort sorts.Set) 0 x.now.unit) || has_stayed a b x.now.id) = search rules in sym (raw g h ours theirs (w.0, tt) (w.1, tt))))
