use Rattle.std.proofs.Common.{◌≡◌, sym, ap, ◌∙◌, ℕ, List, Bool, true, ◌&&◌}
use Rattle.std.specs.List.{list_all}
use Rattle.stream_law.specs.Ways.{on_way}
use Rattle.stream_law.specs.Joins.{same_test}
use Rattle.fw_places.specs.Walks.{is_marked}
use Rattle.fw_places.specs.WayCharts.{WayChart}
use Rattle.fw_pipeline.proofs.StayLaws.{marked-anywhere, comp-listed, stayed-marked}
use Rattle.fw_pipeline.proofs.staying.has_stayed.Goals as goal

pub returns : goal.returns
returns c = λ g h ours theirs are those.
    let old : WayChart = c.args.old.now in let new : WayChart = c.args.new.now in let host = c.args.comp.now.id in
    let before : List Bool = c.way-before.result in let after : List Bool = c.way-after.result in
    let here = comp-listed g old ours host are.0.0 in
    let there = comp-listed h new theirs host those.0.0 in
    let was : (x : ℕ) → is_marked old.ids before x ≡ on_way g host x = marked-anywhere g old ours host are.0.0 before (c.way-before.ensures.way g ours (c.captures-capture.ensures ∙ are.0.1)) (c.way-before.ensures.past g ours here) here in
    let is : (x : ℕ) → is_marked new.ids after x ≡ on_way h host x = marked-anywhere h new theirs host those.0.0 after (c.way-after.ensures.way h theirs (c.captures-capture.ensures ∙ those.0.1)) (c.way-after.ensures.past h theirs there) there in
    c.all_same.ensures
    ∙ (λ i. list_all (λ x. same_test (is_marked (c.places.ensures.ids i) before x) (is_marked (c.places-2.ensures.ids i) after x)) (c.places.ensures.ids i) && list_all (λ x. same_test (is_marked (c.places.ensures.ids i) before x) (is_marked (c.places-2.ensures.ids i) after x)) (c.places-2.ensures.ids i))
    ∙ stayed-marked g h old new ours theirs host before after was is
