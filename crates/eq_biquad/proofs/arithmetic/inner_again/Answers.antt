use Rattle.std.proofs.Common.{◌≡◌, ap, sym, ◌∙◌, subst, rules, ◌^◌, ◌≤◌, pos, ◌+ℤ◌, ◌-ℤ◌, nat_abs, w32, w64, FitsSigned, to_z, of_z}
use Rattle.std.proofs.lemmas.Int.{to_z-of_z}
use Rattle.stream_law.specs.Equaliser.{next_inner}
use Rattle.eq_blob.specs.Sections.{law_section}
use Rattle.eq_biquad.proofs.NearLaws.{joined_parts, joined-is, less-half, less-within, wider}
use Rattle.eq_biquad.proofs.arithmetic.inner_again.Goals as goal

pub inner-requires : goal.inner-requires
inner-requires c =
    let ahead = c.args.ahead in let fed = c.args.fed in
    let fit_ahead : FitsSigned w64 ahead = search rules in
    let fit_fed : FitsSigned w64 fed = search rules in
    let one : c.from.result ≡ ahead = search rules in
    let two : c.from-2.result ≡ fed = search rules in
    let is : joined_parts c.from.result c.from-2.result ≡ (ahead +ℤ fed) -ℤ pos 536870912 = (λ i. joined_parts (one i) (two i)) ∙ joined-is ahead fed fit_ahead fit_fed in
    subst (λ z. nat_abs z ≤ 2 ^ 64) (sym is) (less-within ahead fed c.requires)

pub returns-clause-inner : goal.returns-clause-inner
returns-clause-inner c = λ first parts.
    let ahead = c.args.ahead in let fed = c.args.fed in
    let fit_ahead : FitsSigned w64 ahead = search rules in
    let fit_fed : FitsSigned w64 fed = search rules in
    let one : c.from.result ≡ ahead = search rules in
    let two : c.from-2.result ≡ fed = search rules in
    let is : joined_parts c.from.result c.from-2.result ≡ (ahead +ℤ fed) -ℤ pos 536870912 = (λ i. joined_parts (one i) (two i)) ∙ joined-is ahead fed fit_ahead fit_fed in
    let fit : FitsSigned w32 c.inner.result = search rules in
    let three : c.from-3.result ≡ c.inner.result = search rules in
    ap (λ z. to_z w64 (of_z w64 z)) three ∙ wider c.inner.result fit ∙ c.inner.ensures
    ∙ (λ i. next_inner (law_section c.args.section.now) ((is ∙ less-half ahead fed first parts) i) (to_z-of_z w32 c.args.x c.ranges.x i))
