use Rattle.std.proofs.Common.{◌≡◌, sym, subst, ◌∙◌, rules, w64, FitsSigned}
use Rattle.eq_biquad.proofs.NearLaws.{joined_parts, joined-is, joined-fits}
use Rattle.eq_biquad.proofs.pair_numbers.joined.Goals as goal

pub overflow_sub-result : goal.overflow_sub-result
overflow_sub-result c =
    let ahead : c.from.result ≡ c.args.ahead = search rules in
    let fed : c.from-2.result ≡ c.args.fed = search rules in
    joined-fits c.from.result c.from-2.result (subst (FitsSigned w64) (sym ahead) c.ranges.ahead) (subst (FitsSigned w64) (sym fed) c.ranges.fed)

pub returns-clause-first : goal.returns-clause-first
returns-clause-first c =
    let ahead : c.from.result ≡ c.args.ahead = search rules in
    let fed : c.from-2.result ≡ c.args.fed = search rules in
    (λ i. joined_parts (ahead i) (fed i)) ∙ joined-is c.args.ahead c.args.fed c.ranges.ahead c.ranges.fed
