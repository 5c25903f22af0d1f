use Rattle.std.proofs.Common.{◌≡◌, min, length, sym, ◌∙◌, arith}
use Rattle.std.specs.List.{zip}
use Rattle.std.proofs.lemmas.List.{length-map}
use Rattle.std.proofs.lemmas.Slice.Zip.{length-zip}
use Rattle.tplg_plan.specs.declared.plans.Plan.{Plan}
use Rattle.host_widgets.specs.declared.kept.Record.{Record}
use Rattle.sof_session.specs.Show as show
use Rattle.sof_session.specs.StateLines as state_lines
use Rattle.sof_session.proofs.LinesAt.{IsLineAt-first, IsLineAt-behind}
use Rattle.sof_session.proofs.show.write_kth_state.Goals as goal

-- a stream has a line where the plan and the record have it
some-streams : (plan : Plan) (kept : Record) → length (state_lines.stream_lines plan kept) ≡ min (length plan.streams) (length kept.streams)
some-streams plan kept = length-map (zip plan.streams kept.streams) (show.stream_line plan) ∙ length-zip plan.streams kept.streams

pub returns-then-k-streams-clause-line : goal.returns-then-k-streams-clause-line
returns-then-k-streams-clause-line c =
    let plan = c.args.plan.now in
    let kept = c.args.kept.now in
    let here : c.min-streams.result ≡ min (length plan.streams) (length kept.streams) = c.min-streams.ensures ∙ (λ i. min (length (c.items.ensures i)) (length (c.items-2.ensures i))) in
    let some : length (state_lines.stream_lines plan kept) ≡ c.min-streams.result = some-streams plan kept ∙ sym here in
    IsLineAt-behind (state_lines.stream_lines plan kept) (state_lines.control_lines plan kept) c.args.k c.write_kth_control.result c.write_kth_control.new.line
    (omega (arith, some, c.if-k-streams.true)) (rw some c.write_kth_control.ensures.line)

pub returns-clause-line : goal.returns-clause-line
returns-clause-line c =
    let plan = c.args.plan.now in
    let kept = c.args.kept.now in
    let here : c.min-streams.result ≡ min (length plan.streams) (length kept.streams) = c.min-streams.ensures ∙ (λ i. min (length (c.items.ensures i)) (length (c.items-2.ensures i))) in
    let some : length (state_lines.stream_lines plan kept) ≡ c.min-streams.result = some-streams plan kept ∙ sym here in
    IsLineAt-first (state_lines.stream_lines plan kept) (state_lines.control_lines plan kept) c.args.k c.write_kth_stream.result c.write_kth_stream.new.line
    (omega (arith, some, c.if-k-streams.false)) c.write_kth_stream.ensures.line
