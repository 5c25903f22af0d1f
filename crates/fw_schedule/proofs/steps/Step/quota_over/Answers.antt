use Rattle.std.proofs.Common.{◌≡◌, sym, ap, ◌∙◌, ◌+◌, ◌*◌, ◌/◌, ◌%◌, true, false, arith}
use Rattle.std.specs.Prelude.{nat_lt}
use Rattle.std.proofs.lemmas.Bool.{lt-ltb, le-ltb}
use Rattle.fw_schedule.proofs.Running.{quota-over}
use Rattle.fw_schedule.proofs.steps.Step.quota_over.Goals as goal

pub returns-then-part-self : goal.returns-then-part-self
returns-then-part-self c = λ v period rate.
    let s = c.args.self.now in
    let t = c.args.clock in
    let part = t % 1000 * (s.rate % 1000) % 1000 in
    ap (λ n. n + 1) c.requires.whole
    ∙ quota-over v t s.id s.period s.rate c.requires.short period rate true (ap (nat_lt part) (sym c.requires.over) ∙ lt-ltb part s.over c.if-part-self.true)

pub returns-else-part-self : goal.returns-else-part-self
returns-else-part-self c = λ v period rate.
    let s = c.args.self.now in
    let t = c.args.clock in
    let part = t % 1000 * (s.rate % 1000) % 1000 in
    let none : s.whole ≡ s.period * s.rate / 1000 + 0 = omega (arith, c.requires.whole) in
    none ∙ quota-over v t s.id s.period s.rate c.requires.short period rate false (ap (nat_lt part) (sym c.requires.over) ∙ le-ltb part s.over c.if-part-self.false)
