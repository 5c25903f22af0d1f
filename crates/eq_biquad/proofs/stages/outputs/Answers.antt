use Rattle.std.proofs.Common.{◌≡◌, ap, sym, subst, ◌∙◌, [], ◌∷◌, ℤ, List, rules, w32, FitsSigned, to_z, of_z}
use Rattle.std.proofs.lemmas.Int.{to_z-of_z}
use Rattle.sof_base.specs.Equations.{section_output}
use Rattle.eq_biquad.specs.Pairs.{left_number, right_number, BothAre}
use Rattle.eq_blob.specs.Sections.{law_section}
use Rattle.eq_biquad.proofs.PairLaws.{pair-again, pair-is}
use Rattle.eq_biquad.proofs.PairNumbers.{plain-output, coefficients-again}
use Rattle.eq_biquad.proofs.stages.outputs.Goals as goal

pub returns-then-plain : goal.returns-then-plain
returns-then-plain c =
    let w : List ℤ = c.args.w in let plain = c.requires.plain c.if-plain.true in
    pair-again w32 w c.requires.inner ∙ pair-is w c.requires.inner.0
    ∙ (λ i. sym (plain-output (law_section c.args.left) (left_number w) plain.0 c.requires.inner.1.0) i ∷ sym (plain-output (law_section c.args.right) (right_number w) plain.1 c.requires.inner.1.1) i ∷ [])

pub returns : goal.returns
returns c =
    let w : List ℤ = c.args.w in let s = law_section c.args.left in let t = law_section c.args.right in
    let fit : FitsSigned w32 c.output-one.result = search rules in let fit_other : FitsSigned w32 c.output-other.result = search rules in
    let inner = c.parts-inner.ensures ∙ pair-again w32 w c.requires.inner in
    let one : c.output-one.result ≡ section_output s (left_number w) = c.output-one.ensures
    ∙ ap (section_output s) (ap (λ v. to_z w32 (of_z w32 (left_number v))) inner ∙ to_z-of_z w32 (left_number w) c.requires.inner.1.0) in
    let other : c.output-other.result ≡ section_output t (right_number w) = c.output-other.ensures
    ∙ ap (section_output t) (ap (λ v. to_z w32 (of_z w32 (right_number v))) inner ∙ to_z-of_z w32 (right_number w) c.requires.inner.1.1) in
    coefficients-again c.both.result c.output-one.result c.output-other.result c.both.ensures fit fit_other ∙ (λ i. one i ∷ other i ∷ [])

pub output-one-requires : goal.output-one-requires
output-one-requires c = c.requires.beside.0.shift

pub output-other-requires : goal.output-other-requires
output-other-requires c = c.requires.beside.1.shift

pub parts-inner-requires : goal.parts-inner-requires
parts-inner-requires c = subst (BothAre (FitsSigned w32)) (sym (pair-again w32 c.args.w c.requires.inner)) c.requires.inner
