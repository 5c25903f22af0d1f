use Rattle.std.proofs.Common.{◌≡◌, false, get_or, nat_eq, sym, arith, rules, ◌∙◌, refl}
use Rattle.std.proofs.lemmas.Grind.{common_steps}
use Rattle.sof_script.proofs.LineLaws.{no_token, starts_token, first_byte}
use Rattle.sof_script.proofs.scanning.from_first_token.Goals as goal

pub returns-then-is_empty : goal.returns-then-is_empty
returns-then-is_empty c = sym c.skip_blanks-rest.ensures.skipped ∙ no_token c.skip_blanks-rest.result.now (search rules)

pub returns-then-rest-eq35 : goal.returns-then-rest-eq35
returns-then-rest-eq35 c =
    let rest = c.skip_blanks-rest.result.now in
    sym c.skip_blanks-rest.ensures.skipped ∙ first_byte rest (starts_token rest c.skip_blanks-rest.ensures.first (search rules)) ∙ rw c.if-rest-eq35.true refl

pub returns : goal.returns
returns c =
    let rest = c.skip_blanks-rest.result.now in
    let other : nat_eq (get_or rest 0 0) 35 ≡ false = grind (arith, common_steps) in
    (sym c.skip_blanks-rest.ensures.skipped ∙ first_byte rest (starts_token rest c.skip_blanks-rest.ensures.first (search rules)) ∙ other, c.skip_blanks-rest.ensures.tokens)
