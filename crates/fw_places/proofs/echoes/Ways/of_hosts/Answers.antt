use Rattle.std.proofs.Common.{◌≡◌, sym, ap, subst, ◌∙◌, ℕ, List, Bool, ◌||◌, ◌&&◌, ◌==◌, true, inl}
use Rattle.std.specs.List.{list_any}
use Rattle.stream_law.specs.declared.graph.Edge.{Edge}
use Rattle.stream_law.specs.Order.{is_among}
use Rattle.fw_places.specs.Walks.{is_marked, is_end_marked, is_reached}
use Rattle.fw_places.specs.WayCharts.{WayChart}
use Rattle.fw_places.proofs.WayMarks.{ways-marked, walks-alone}
use Rattle.fw_places.proofs.echoes.Ways.of_hosts.Goals as goal

pub returns-then-not-capture : goal.returns-then-not-capture
returns-then-not-capture c = λ g ways are x there.
    let v : WayChart = c.args.self.now in let marks : List Bool = c.spread.new.marks in
    let walked = subst (λ (w : WayChart). (y : ℕ) → is_among w.ids y ≡ true → is_marked w.ids marks y ≡ is_reached c.args.capture w.ids w.joins c.args.hosts.now y) c.self.view_is c.spread.ensures.reached in
    walks-alone c.args.capture v.echoes (λ e. e.buffer == x && is_end_marked v.ids marks e.sink) (is_marked v.ids marks x) (inl c.if-not-capture.true)
    ∙ ways-marked g v ways c.args.capture c.args.hosts.now marks are walked x there

pub returns : goal.returns
returns c = λ g ways are x there.
    let v : WayChart = c.args.self.now in let marks : List Bool = c.spread.new.marks in
    let walked = subst (λ (w : WayChart). (y : ℕ) → is_among w.ids y ≡ true → is_marked w.ids marks y ≡ is_reached c.args.capture w.ids w.joins c.args.hosts.now y) c.self.view_is c.spread.ensures.reached in
    c.with_echoes.ensures.marked x there
    ∙ ap (λ h. is_marked v.ids marks x || (h && list_any (λ (e : Edge). e.buffer == x && is_end_marked v.ids marks e.sink) v.echoes)) (sym c.if-not-capture.false)
    ∙ ways-marked g v ways c.args.capture c.args.hosts.now marks are walked x there
