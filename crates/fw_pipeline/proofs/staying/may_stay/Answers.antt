use Rattle.std.proofs.Common.{sym, ap, ◌∙◌, not, ◌||◌}
use Rattle.stream_law.specs.Joins.{has_stayed}
use Rattle.fw_pipeline.proofs.staying.may_stay.Goals as goal

pub returns-then-not-has_stream : goal.returns-then-not-has_stream
returns-then-not-has_stream c = λ g h ours theirs are those.
    sym (ap (λ b. not b || has_stayed g h c.args.comp.now.id) (sym c.has_stream.ensures ∙ c.if-not-has_stream.true))

pub returns : goal.returns
returns c = λ g h ours theirs are those.
    c.has_stayed.ensures g h ours theirs are those
    ∙ sym (ap (λ b. not b || has_stayed g h c.args.comp.now.id) (sym c.has_stream.ensures ∙ c.if-not-has_stream.false))
