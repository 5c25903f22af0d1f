use Rattle.host_widgets.proofs.NeedLaws.{need-sum, need-fits}
use Rattle.host_widgets.proofs.need_laws.need_law.Goals as goal

pub returns-clause-sum : goal.returns-clause-sum
returns-clause-sum c = need-sum

pub returns-clause-fits : goal.returns-clause-fits
returns-clause-fits c = need-fits
