use Rattle.std.proofs.Common.{not, rules}
use Rattle.std.proofs.lemmas.Fn.{filter_same}
use Rattle.mbox_link.specs.Step.{touches}
use Rattle.fw_components.proofs.registry.remove_joins.Goals as goal

pub returns-clause-items : goal.returns-clause-items
returns-clause-items c = filter_same _ (λ j. not (touches c.args.id j)) _ (λ x b f k. search rules) _ _ c.retain.ensures.filtered
