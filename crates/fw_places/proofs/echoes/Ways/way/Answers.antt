use Rattle.std.proofs.Common.{◌≡◌, sym, ap, subst, ◌∙◌, ℕ, List, Bool, ◌||◌, ◌&&◌, ◌==◌, true, false, inl, length, get_or}
use Rattle.std.specs.List.{list_any}
use Rattle.stream_law.specs.declared.graph.Edge.{Edge}
use Rattle.stream_law.specs.Order.{is_among}
use Rattle.fw_places.specs.Walks.{is_marked, is_end_marked, leads_by}
use Rattle.fw_places.specs.WayCharts.{WayChart}
use Rattle.fw_places.proofs.WayMarks.{way-marked, walks-alone, echoes-listed}
use Rattle.fw_places.proofs.echoes.Ways.way.Goals as goal

-- what is after the ids is not marked
abbrev Past : List Bool → ℕ → WayChart → Type 0
Past marks host w = is_among w.ids host ≡ true → get_or marks (length w.ids) false ≡ false

pub returns-then-not-capture-clause-way : goal.returns-then-not-capture-clause-way
returns-then-not-capture-clause-way c = λ g ways is x there.
    let v : WayChart = c.args.self.now in let marks : List Bool = c.reached-marks.result in let host = c.args.host in
    let walked = subst (λ (w : WayChart). (y : ℕ) → is_among w.ids y ≡ true → is_marked w.ids marks y ≡ leads_by c.args.capture w.joins host y) c.self.view_is c.reached-marks.ensures.reached in
    walks-alone c.args.capture v.echoes (λ e. e.buffer == x && is_end_marked v.ids marks e.sink) (is_marked v.ids marks x) (inl c.if-not-capture.true)
    ∙ way-marked g v ways c.args.capture host marks is walked x there

pub returns-then-not-capture-clause-past : goal.returns-then-not-capture-clause-past
returns-then-not-capture-clause-past c = λ g ways there. subst (Past c.reached-marks.result c.args.host) c.self.view_is c.reached-marks.ensures.past there

pub returns-clause-past : goal.returns-clause-past
returns-clause-past c = λ g ways there. c.with_echoes.ensures.past (echoes-listed g c.args.self.now ways) (subst (Past c.reached-marks.result c.args.host) c.self.view_is c.reached-marks.ensures.past there)

pub returns-clause-way : goal.returns-clause-way
returns-clause-way c = λ g ways is x there.
    let v : WayChart = c.args.self.now in let marks : List Bool = c.reached-marks.result in let host = c.args.host in
    let walked = subst (λ (w : WayChart). (y : ℕ) → is_among w.ids y ≡ true → is_marked w.ids marks y ≡ leads_by c.args.capture w.joins host y) c.self.view_is c.reached-marks.ensures.reached in
    c.with_echoes.ensures.marked x there
    ∙ ap (λ h. is_marked v.ids marks x || (h && list_any (λ (e : Edge). e.buffer == x && is_end_marked v.ids marks e.sink) v.echoes)) (sym c.if-not-capture.false)
    ∙ way-marked g v ways c.args.capture host marks is walked x there
