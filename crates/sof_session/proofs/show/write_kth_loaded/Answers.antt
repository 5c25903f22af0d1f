use Rattle.std.proofs.Common.{◌≡◌, ◌<◌, length, map, arith, ap, sym, ◌∙◌}
use Rattle.std.specs.List.{range_with_len}
use Rattle.std.proofs.lemmas.List.FromFn.{length-map-range_with_len}
use Rattle.sof_session.specs.Show as show
use Rattle.sof_session.specs.StateLines as state_lines
use Rattle.sof_session.proofs.LinesAt.{get-range, IsLineAt-front, IsLineAt-behind}
use Rattle.sof_session.proofs.show.write_kth_loaded.Goals as goal

pub returns-then-k-widgets-clause-line : goal.returns-then-k-widgets-clause-line
returns-then-k-widgets-clause-line c =
    let plan = c.args.plan.now in
    let n = length plan.widgets in
    let lines = map (show.widget_line plan) (range_with_len 0 n) in
    let some : length lines ≡ length c.items-widgets.result.now = length-map-range_with_len (show.widget_line plan) 0 n ∙ ap length (sym c.items-widgets.ensures) in
    IsLineAt-behind lines (state_lines.edge_lines plan c.args.kept.now) c.args.k c.write_kth_edge.result c.write_kth_edge.new.line
    (omega (arith, some, c.if-k-widgets.true)) (rw some c.write_kth_edge.ensures.line)

pub returns-clause-line : goal.returns-clause-line
returns-clause-line c =
    let plan = c.args.plan.now in
    let n = length plan.widgets in
    let lines = map (show.widget_line plan) (range_with_len 0 n) in
    let within : c.args.k < n = omega (arith, c.if-k-widgets.false, ap length c.items-widgets.ensures) in
    IsLineAt-front lines (state_lines.edge_lines plan c.args.kept.now) c.args.k c.write_widget.new.line (show.widget_line plan c.args.k)
    (omega (arith, length-map-range_with_len (show.widget_line plan) 0 n, within)) (get-range (show.widget_line plan) n c.args.k within) c.write_widget.ensures.said
