use Rattle.std.proofs.Common.{ap, sym, subst, ◌∙◌, ◌+◌, ℕ, ℤ, List, pos, set, arith, w32, FitsSigned, to_z, of_z}
use Rattle.std.proofs.lemmas.Int.{to_z-of_z}
use Rattle.std.proofs.lemmas.List.{get_or-set_same, get_or-set_other, length-set}
use Rattle.eq_biquad.specs.Pairs.{left_number, right_number, BothAre}
use Rattle.eq_biquad.proofs.PairLaws.{pair-again}
use Rattle.eq_biquad.proofs.side_by_side.put_samples.Goals as goal

pub returns-clause-left : goal.returns-clause-left
returns-clause-left c =
    let xs : List ℤ = c.args.samples.now in let p : ℕ = c.args.place in let y : List ℤ = c.args.y in let outputs : List ℤ = c.parts-outputs.result in
    let one : ℤ = to_z w32 (of_z w32 (left_number outputs)) in let other : ℤ = to_z w32 (of_z w32 (right_number outputs)) in
    get_or-set_other (set xs p one) (p + 1) p other (pos 0) (λ e. absurd (omega (arith, e)))
    ∙ get_or-set_same xs p one (pos 0) (omega (arith, c.requires.there))
    ∙ ap (λ v. to_z w32 (of_z w32 (left_number v))) (c.parts-outputs.ensures ∙ pair-again w32 y c.requires.fit) ∙ to_z-of_z w32 (left_number y) c.requires.fit.1.0

pub returns-clause-right : goal.returns-clause-right
returns-clause-right c =
    let xs : List ℤ = c.args.samples.now in let p : ℕ = c.args.place in let y : List ℤ = c.args.y in let outputs : List ℤ = c.parts-outputs.result in
    let one : ℤ = to_z w32 (of_z w32 (left_number outputs)) in let other : ℤ = to_z w32 (of_z w32 (right_number outputs)) in
    get_or-set_same (set xs p one) (p + 1) other (pos 0) (omega (arith, length-set xs p one, c.requires.there))
    ∙ ap (λ v. to_z w32 (of_z w32 (right_number v))) (c.parts-outputs.ensures ∙ pair-again w32 y c.requires.fit) ∙ to_z-of_z w32 (right_number y) c.requires.fit.1.1

pub returns-clause-others : goal.returns-clause-others
returns-clause-others c =
    let xs : List ℤ = c.args.samples.now in let p : ℕ = c.args.place in let y : List ℤ = c.args.y in let outputs : List ℤ = c.parts-outputs.result in
    let one : ℤ = to_z w32 (of_z w32 (left_number outputs)) in let other : ℤ = to_z w32 (of_z w32 (right_number outputs)) in
    λ i ne ne'. get_or-set_other (set xs p one) (p + 1) i other (pos 0) ne' ∙ get_or-set_other xs p i one (pos 0) ne

pub parts-outputs-requires : goal.parts-outputs-requires
parts-outputs-requires c = subst (BothAre (FitsSigned w32)) (sym (pair-again w32 c.args.y c.requires.fit)) c.requires.fit
