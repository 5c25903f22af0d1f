use Rattle.std.proofs.Common.{◌≡◌, ap, ◌∙◌, ◌-◌, ◌++◌, List, ℕ, ℤ, pos, length, take, drop, replicate, arith, rules, length-take, length-drop}
use Rattle.std.proofs.lemmas.List.{append-nil, drop_all}
use Rattle.eq_biquad.proofs.PartLaws.{take-put, at-put}
use Rattle.eq_biquad.proofs.equaliser.clear_numbers.Goals as goal

pub returns-clause-before : goal.returns-clause-before
returns-clause-before c = take-put 528 528 (length c.args.words.now - 528) c.args.words.now c.fill.new.self (omega arith) (omega (arith, c.requires))

pub returns-clause-numbers : goal.returns-clause-numbers
returns-clause-numbers c =
    let ws = c.args.words.now in let m : ℕ = length ws - 528 in let new = c.fill.new.self in
    let part : length (take m (drop 528 ws)) ≡ 512 = omega (arith, length-take m (drop 528 ws), length-drop 528 ws, c.requires) in
    let filled : new ≡ replicate (length (take m (drop 528 ws))) (pos 0) = search rules in
    at-put 528 m ws new (omega (arith, c.requires))
    ∙ ap (λ (t : List ℤ). new ++ t) (drop_all m (drop 528 ws) (omega (arith, length-drop 528 ws)))
    ∙ append-nil new
    ∙ filled
    ∙ ap (λ n. replicate n (pos 0)) part
