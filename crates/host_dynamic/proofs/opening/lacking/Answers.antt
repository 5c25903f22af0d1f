use Rattle.std.proofs.Common.{ap, ◌∙◌, filter, not}
use Rattle.stream_law.specs.Order.{is_among}
use Rattle.host_dynamic.proofs.opening.lacking.Goals as goal

pub returns : goal.returns
returns c = c.lose.ensures ∙ ap (filter (λ i. not (is_among c.args.up.now i))) c.need_of-indices.ensures.need
