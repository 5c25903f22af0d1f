use Rattle.std.proofs.Common.{sym, ◌∙◌, true}
use Rattle.fw_schedule.proofs.Running.{quota-even}
use Rattle.fw_schedule.proofs.steps.Step.quota.Goals as goal

pub returns-then-self-eq0 : goal.returns-then-self-eq0
returns-then-self-eq0 c = λ v period rate.
    let s = c.args.self.now in
    c.requires.whole ∙ quota-even v c.args.clock s.id s.period s.rate c.requires.short period rate (sym c.requires.over ∙ c.if-self-eq0.true)
