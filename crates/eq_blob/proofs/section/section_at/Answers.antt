use Rattle.std.proofs.Common.{◌≡◌, sym, ap, subst, ◌∙◌, ◌+◌, ◌*◌, ◌<◌, ℕ, pos, get_or, arith, rules, w32, FitsSigned}
use Rattle.std.proofs.lemmas.Int.{to_z-of_z}
use Rattle.eq_blob.proofs.ByteLaws.{word-cast}
use Rattle.eq_blob.proofs.section.section_at.Goals as goal

pub returns-clause-section : goal.returns-clause-section
returns-clause-section c =
    let ws = c.args.blob.now in let p = c.args.place in let len = c.args._len in
    let fit0 : FitsSigned w32 (get_or ws p (pos 0)) = search rules in
    let fit1 : FitsSigned w32 (get_or ws (p + 1) (pos 0)) = search rules in
    let fit2 : FitsSigned w32 (get_or ws (p + 2) (pos 0)) = search rules in
    let fit3 : FitsSigned w32 (get_or ws (p + 3) (pos 0)) = search rules in
    let fit4 : FitsSigned w32 (get_or ws (p + 4) (pos 0)) = search rules in
    let fit5 : FitsSigned w32 (get_or ws (p + 5) (pos 0)) = search rules in
    let fit6 : FitsSigned w32 (get_or ws (p + 6) (pos 0)) = search rules in
    let at = λ (m : ℕ) (low : m < 7) (fit : FitsSigned w32 (get_or ws (p + m) (pos 0))).
    to_z-of_z w32 (get_or ws (p + m) (pos 0)) fit ∙ sym (word-cast ws p m (4 * p + 4 * m) len (omega arith) (omega (arith, c.requires)) (omega (arith, c.requires)) fit) in
    λ k. record {
      a2 = (to_z-of_z w32 (get_or ws p (pos 0)) fit0 ∙ sym (word-cast ws p 0 (4 * p) len (omega arith) (omega (arith, c.requires)) (omega (arith, c.requires)) (subst (λ q. FitsSigned w32 (get_or ws q (pos 0))) (let e : p ≡ p + 0 = omega arith in e) fit0) ∙ ap (λ q. get_or ws q (pos 0)) (let e : p + 0 ≡ p = omega arith in e))) k;
      a1 = at 1 (omega arith) fit1 k;
      b2 = at 2 (omega arith) fit2 k;
      b1 = at 3 (omega arith) fit3 k;
      b0 = at 4 (omega arith) fit4 k;
      shift = at 5 (omega arith) fit5 k;
      gain = at 6 (omega arith) fit6 k;
    }

pub returns-clause-shift : goal.returns-clause-shift
returns-clause-shift c =
    let ws = c.args.blob.now in let p = c.args.place in
    let fit : FitsSigned w32 (get_or ws (p + 5) (pos 0)) = search rules in
    to_z-of_z w32 (get_or ws (p + 5) (pos 0)) fit ∙ sym (word-cast ws p 5 (4 * p + 20) c.args._len (omega arith) (omega (arith, c.requires)) (omega (arith, c.requires)) fit)
