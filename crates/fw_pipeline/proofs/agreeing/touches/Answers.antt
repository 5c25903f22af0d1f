use Rattle.std.proofs.Common.{◌≡◌, ◌∙◌, ℕ, List, Bool, true, ◌||◌}
use Rattle.stream_law.specs.Ways.{on_way}
use Rattle.stream_law.specs.Order.{is_among}
use Rattle.fw_places.specs.Walks.{is_marked}
use Rattle.fw_places.specs.WayCharts.{WayChart}
use Rattle.fw_places.proofs.WayMarks.{shared-marked, echoes-lead}
use Rattle.fw_pipeline.proofs.agreeing.touches.Goals as goal

pub returns : goal.returns
returns c = λ g is are.
    let v : WayChart = c.args.ways.now in let a = c.args.one.now.id in let b = c.args.other.now.id in
    let first : List Bool = c.way-first.result in let second : List Bool = c.way-second.result in
    let ahead : (x : ℕ) → is_among v.ids x ≡ true → is_marked v.ids first x ≡ on_way g a x = c.way-first.ensures.way g is (c.captures-2.ensures ∙ are.0.1) in
    let behind : (x : ℕ) → is_among v.ids x ≡ true → is_marked v.ids second x ≡ on_way g b x = c.way-second.ensures.way g is (c.captures-2-2.ensures ∙ are.1.0.1) in
    c.meets.ensures
    ∙ (λ i. shared-marked g v is first second a b ahead behind i || echoes-lead g v is first second a b ahead behind i || echoes-lead g v is second first b a behind ahead i)
