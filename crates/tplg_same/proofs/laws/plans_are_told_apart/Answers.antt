use Rattle.tplg_same.proofs.SameLaws.{plan-is, plan-pass}
use Rattle.tplg_same.proofs.laws.plans_are_told_apart.Goals as goal

pub returns-clause-told : goal.returns-clause-told
returns-clause-told c = plan-is

pub returns-clause-all : goal.returns-clause-all
returns-clause-all c = plan-pass
