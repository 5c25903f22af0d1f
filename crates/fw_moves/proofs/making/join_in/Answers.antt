use Rattle.std.proofs.Common.{◌==◌, rules, tests}
use Rattle.std.proofs.lemmas.Iterator.Consumers.{nth_from_yields_List, YieldsList-from_filter}
use Rattle.std.proofs.lemmas.Iterator.{YieldsList-from_slice}
use Rattle.fw_moves.proofs.making.join_in.Goals as goal

pub returns : goal.returns
returns c = nth_from_yields_List c.nth.result c.nth.new.self c.args.number c.nth.ensures.ran (YieldsList-from_filter _ (λ j. j.sink == c.args.id) (YieldsList-from_slice c.args.joins.now (cc)) c.filter.ensures.closure (λ x r q k. search (rules, tests)))
