use Rattle.std.proofs.Common.{sym, ap, ◌∙◌, Ok, Result, ℤ}
use Rattle.stream_law.specs.declared.graph.Join.{Join}
use Rattle.stream_law.specs.State.{View}
use Rattle.fw_components.specs.Tables.{Tables, view_by}
use Rattle.fw_pipeline.specs.Rows.{view_after, with_view}
use Rattle.fw_pipeline.proofs.JoinRow.{connect-row, may-join, join-seen}
use Rattle.fw_pipeline.proofs.connecting.connect.Goals as goal

pub is_refused-requires : goal.is_refused-requires
is_refused-requires c = record { takes = sym c.takes_join.ensures ∙ c.if-not-takes_join.false; free = sym c.is_joined.ensures ∙ c.if-is_joined.false }

pub join-requires : goal.join-requires
join-requires c = may-join c.args.registry.now (record { source = c.args.source; sink = c.args.sink }) (sym c.takes_join.ensures ∙ c.if-not-takes_join.false) (sym c.is_joined.ensures ∙ c.if-is_joined.false)

pub returns-clause-answer : goal.returns-clause-answer
returns-clause-answer c = λ f.
    let t : Tables = c.args.registry.now in
    let j : Join = record { source = c.args.source; sink = c.args.sink } in
    ap (λ (t : Tables). let r : Result View ℤ = Ok (view_by t) in r) c.join.ensures
    ∙ ap (λ (v : View). let r : Result View ℤ = Ok v in r) (join-seen t j c.is_refused.ensures.kept)
    ∙ sym (ap view_after (connect-row (with_view (view_by t) f) j (sym c.is_used.ensures ∙ c.if-not-is_used.false) (sym c.is_used-else-not-is_used.ensures ∙ c.if-not-is_used-2.false) (sym c.is_joined.ensures ∙ c.if-is_joined.false) (sym c.takes_join.ensures ∙ c.if-not-takes_join.false) (sym c.is_refused.ensures.refused ∙ c.if-is_refused.false)))
