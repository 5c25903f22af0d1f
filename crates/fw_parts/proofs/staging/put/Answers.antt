use Rattle.std.proofs.Common.{◌∙◌, sym, ap, ◌+◌, ◌*◌, ◌==◌, cond, arith}
use Rattle.std.proofs.lemmas.Bool.{true≢false, eqb-true}
use Rattle.eq_biquad.specs.EqState.{staged_of, numbers_of}
use Rattle.stream_law.specs.Seen.{fresh_numbers}
use Rattle.fw_parts.proofs.PartLaws.{eq-put, staged-front}
use Rattle.fw_parts.proofs.staging.put.Goals as goal

pub install-requires : goal.install-requires
install-requires c = c.requires.blob (eqb-true c.args.part.now.remaining 0 (sym c.is_last.ensures ∙ c.if-is_last.true))

pub returns-then-is_last-clause-equaliser : goal.returns-then-is_last-clause-equaliser
returns-then-is_last-clause-equaliser c =
    eq-put c.args.eq.now c.install.new.self (cond (c.args.part.now.remaining == 0) c.args.bytes.now c.args.eq.now.blob) (c.install.ensures.blob ∙ sym (ap (λ h. cond h c.args.bytes.now c.args.eq.now.blob) (sym c.is_last.ensures ∙ c.if-is_last.true))) c.install.ensures.same.1 c.install.ensures.same.2 c.install.ensures.same.3

pub returns-then-is_last-clause-next : goal.returns-then-is_last-clause-next
returns-then-is_last-clause-next c = sym (ap (λ h. cond h 0 (c.args.part.now.index + 1)) (sym c.is_last.ensures ∙ c.if-is_last.true))

pub returns-then-is_last-clause-remaining : goal.returns-then-is_last-clause-remaining
returns-then-is_last-clause-remaining c = sym (eqb-true c.args.part.now.remaining 0 (sym c.is_last.ensures ∙ c.if-is_last.true))

pub returns-then-is_last-clause-staged : goal.returns-then-is_last-clause-staged
returns-then-is_last-clause-staged c = λ more. absurd (true≢false (sym (sym c.is_last.ensures ∙ c.if-is_last.true) ∙ more))

pub returns-then-is_last-clause-numbers : goal.returns-then-is_last-clause-numbers
returns-then-is_last-clause-numbers c = λ channels. c.install.ensures.numbers channels ∙ sym (ap (λ h. cond h (fresh_numbers c.args.bytes.now channels) (numbers_of c.args.eq.now channels)) (sym c.is_last.ensures ∙ c.if-is_last.true))

pub overflow_add-next : goal.overflow_add-next
overflow_add-next c = let long = c.requires.count (sym c.is_last.ensures ∙ c.if-is_last.false) in omega (arith, long, c.requires.few)

pub returns-clause-equaliser : goal.returns-clause-equaliser
returns-clause-equaliser c =
    eq-put c.args.eq.now c.stage.new.self (cond (c.args.part.now.remaining == 0) c.args.bytes.now c.args.eq.now.blob) (c.stage.ensures.blob ∙ sym (ap (λ h. cond h c.args.bytes.now c.args.eq.now.blob) (sym c.is_last.ensures ∙ c.if-is_last.false))) c.stage.ensures.same.0 c.stage.ensures.same.1 c.stage.ensures.same.2

pub returns-clause-next : goal.returns-clause-next
returns-clause-next c = sym (ap (λ h. cond h 0 (c.args.part.now.index + 1)) (sym c.is_last.ensures ∙ c.if-is_last.false))

pub returns-clause-staged : goal.returns-clause-staged
returns-clause-staged c = λ more. staged-front (staged_of c.args.eq.now) (staged_of c.stage.new.self) c.args.bytes.now (292 + 260 * c.args.part.now.index) c.stage.ensures.staged (c.requires.count more)

pub returns-clause-numbers : goal.returns-clause-numbers
returns-clause-numbers c = λ channels. c.stage.ensures.numbers channels ∙ sym (ap (λ h. cond h (fresh_numbers c.args.bytes.now channels) (numbers_of c.args.eq.now channels)) (sym c.is_last.ensures ∙ c.if-is_last.false))
