use Rattle.std.proofs.Common.{refl, sym, subst, ◌∙◌, ◌+◌, ◌^◌, ◌<◌, [], ◌∷◌, ℤ, pos, ◌+ℤ◌, ◌*ℤ◌, nat_abs, List, rules, arith, w32, w64, FitsSigned}
use Rattle.eq_biquad.specs.Pairs.{left_number, right_number, BothAre, BothMeet, HasRoomToRound}
use Rattle.eq_blob.specs.Sections.{law_section}
use Rattle.eq_biquad.proofs.PairLaws.{pair-again, known-again}
use Rattle.eq_biquad.proofs.PairNumbers.{coefficients-again, has-room, ahead_next, fed_next, second_next, ahead-fits, fed-fits, second-fits}
use Rattle.eq_biquad.proofs.stages.next_parts.Goals as goal

pub ahead_both-requires-clause-factors : goal.ahead_both-requires-clause-factors
ahead_both-requires-clause-factors c =
    let fit_b1 : FitsSigned w32 c.args.left.b1 = search rules in let fit_b1_right : FitsSigned w32 c.args.right.b1 = search rules in
    let b1 = coefficients-again c.both.result c.args.left.b1 c.args.right.b1 c.both.ensures fit_b1 fit_b1_right in
    subst (BothAre (FitsSigned w32)) (sym b1) (refl, (fit_b1, fit_b1_right))

pub ahead_both-requires-clause-inputs : goal.ahead_both-requires-clause-inputs
ahead_both-requires-clause-inputs c =
    let x = pair-again w32 c.args.x c.requires.inputs in
    subst (BothAre (FitsSigned w32)) (sym x) c.requires.inputs

pub ahead_both-requires-clause-second : goal.ahead_both-requires-clause-second
ahead_both-requires-clause-second c =
    let second = pair-again w64 c.args.second c.requires.second in
    subst (BothAre (FitsSigned w64)) (sym second) c.requires.second

pub ahead_both-requires-clause-room : goal.ahead_both-requires-clause-room
ahead_both-requires-clause-room c =
    let fit_b1 : FitsSigned w32 c.args.left.b1 = search rules in let fit_b1_right : FitsSigned w32 c.args.right.b1 = search rules in
    let b1 = coefficients-again c.both.result c.args.left.b1 c.args.right.b1 c.both.ensures fit_b1 fit_b1_right in
    let second = pair-again w64 c.args.second c.requires.second in
    subst (λ (v : List ℤ × List ℤ). BothMeet HasRoomToRound v.0 v.1) (λ i. (sym b1 i, sym second i))
    (has-room (law_section c.args.left) (left_number c.args.second) c.requires.beside.0 c.requires.within.0, has-room (law_section c.args.right) (right_number c.args.second) c.requires.beside.1 c.requires.within.1)

pub times_both-requires-clause-first : goal.times_both-requires-clause-first
times_both-requires-clause-first c =
    let fit_a1 : FitsSigned w32 c.args.left.a1 = search rules in let fit_a1_right : FitsSigned w32 c.args.right.a1 = search rules in
    let a1 = coefficients-again c.both-2.result c.args.left.a1 c.args.right.a1 c.both-2.ensures fit_a1 fit_a1_right in
    subst (BothAre (FitsSigned w32)) (sym a1) (refl, (fit_a1, fit_a1_right))

pub times_both-requires-clause-second : goal.times_both-requires-clause-second
times_both-requires-clause-second c =
    let w = pair-again w32 c.args.w c.requires.inner in
    subst (BothAre (FitsSigned w32)) (sym w) c.requires.inner

pub second_both-requires-clause-factors : goal.second_both-requires-clause-factors
second_both-requires-clause-factors c =
    let fit_b2 : FitsSigned w32 c.args.left.b2 = search rules in let fit_b2_right : FitsSigned w32 c.args.right.b2 = search rules in
    let b2 = coefficients-again c.both-3.result c.args.left.b2 c.args.right.b2 c.both-3.ensures fit_b2 fit_b2_right in
    let fit_a2 : FitsSigned w32 c.args.left.a2 = search rules in let fit_a2_right : FitsSigned w32 c.args.right.a2 = search rules in
    let a2 = coefficients-again c.both-4.result c.args.left.a2 c.args.right.a2 c.both-4.ensures fit_a2 fit_a2_right in
    (subst (BothAre (FitsSigned w32)) (sym b2) (refl, (fit_b2, fit_b2_right)), subst (BothAre (FitsSigned w32)) (sym a2) (refl, (fit_a2, fit_a2_right)))

pub second_both-requires-clause-inputs : goal.second_both-requires-clause-inputs
second_both-requires-clause-inputs c =
    let x = pair-again w32 c.args.x c.requires.inputs in
    let w = pair-again w32 c.args.w c.requires.inner in
    (subst (BothAre (FitsSigned w32)) (sym x) c.requires.inputs, subst (BothAre (FitsSigned w32)) (sym w) c.requires.inner)

pub second_both-requires-clause-room : goal.second_both-requires-clause-room
second_both-requires-clause-room c =
    let fit_b2 : FitsSigned w32 c.args.left.b2 = search rules in let fit_b2_right : FitsSigned w32 c.args.right.b2 = search rules in
    let b2 = coefficients-again c.both-3.result c.args.left.b2 c.args.right.b2 c.both-3.ensures fit_b2 fit_b2_right in
    let fit_a2 : FitsSigned w32 c.args.left.a2 = search rules in let fit_a2_right : FitsSigned w32 c.args.right.a2 = search rules in
    let a2 = coefficients-again c.both-4.result c.args.left.a2 c.args.right.a2 c.both-4.ensures fit_a2 fit_a2_right in
    subst (λ (v : List ℤ × List ℤ). BothMeet (λ b a. nat_abs b + nat_abs a < 2 ^ 32) v.0 v.1) (λ i. (sym b2 i, sym a2 i))
    (omega (arith, c.requires.beside.0.ahead), omega (arith, c.requires.beside.1.ahead))

pub returns-clause-ahead : goal.returns-clause-ahead
returns-clause-ahead c =
    let fit_b1 : FitsSigned w32 c.args.left.b1 = search rules in let fit_b1_right : FitsSigned w32 c.args.right.b1 = search rules in
    let b1 = coefficients-again c.both.result c.args.left.b1 c.args.right.b1 c.both.ensures fit_b1 fit_b1_right in
    let in_x = pair-again w32 c.args.x c.requires.inputs in
    let in_second = pair-again w64 c.args.second c.requires.second in
    let s = law_section c.args.left in let t = law_section c.args.right in let x : List ℤ = c.args.x in let w : List ℤ = c.args.w in let second : List ℤ = c.args.second in
    let fit_x = c.requires.inputs in let fit_w = c.requires.inner in
    known-again w64 c.ahead_both.result (ahead_next s (left_number x) (left_number second)) (ahead_next t (right_number x) (right_number second))
    (c.ahead_both.ensures
    ∙ (λ i. (((left_number (b1 i) *ℤ left_number (in_x i)) +ℤ left_number (in_second i)) +ℤ pos 536870912) ∷ (((right_number (b1 i) *ℤ right_number (in_x i)) +ℤ right_number (in_second i)) +ℤ pos 536870912) ∷ []))
    (ahead-fits s (left_number x) (left_number w) (left_number second) c.requires.beside.0 fit_x.1.0 fit_w.1.0 c.requires.within.0)
    (ahead-fits t (right_number x) (right_number w) (right_number second) c.requires.beside.1 fit_x.1.1 fit_w.1.1 c.requires.within.1)

pub returns-clause-fed : goal.returns-clause-fed
returns-clause-fed c =
    let fit_a1 : FitsSigned w32 c.args.left.a1 = search rules in let fit_a1_right : FitsSigned w32 c.args.right.a1 = search rules in
    let a1 = coefficients-again c.both-2.result c.args.left.a1 c.args.right.a1 c.both-2.ensures fit_a1 fit_a1_right in
    let in_w = pair-again w32 c.args.w c.requires.inner in
    let s = law_section c.args.left in let t = law_section c.args.right in let x : List ℤ = c.args.x in let w : List ℤ = c.args.w in let second : List ℤ = c.args.second in
    let fit_x = c.requires.inputs in let fit_w = c.requires.inner in
    known-again w64 c.times_both.result (fed_next s (left_number w)) (fed_next t (right_number w))
    (c.times_both.ensures
    ∙ (λ i. (left_number (a1 i) *ℤ left_number (in_w i)) ∷ (right_number (a1 i) *ℤ right_number (in_w i)) ∷ []))
    (fed-fits s (left_number x) (left_number w) (left_number second) c.requires.beside.0 fit_x.1.0 fit_w.1.0 c.requires.within.0)
    (fed-fits t (right_number x) (right_number w) (right_number second) c.requires.beside.1 fit_x.1.1 fit_w.1.1 c.requires.within.1)

pub returns-clause-second : goal.returns-clause-second
returns-clause-second c =
    let fit_b2 : FitsSigned w32 c.args.left.b2 = search rules in let fit_b2_right : FitsSigned w32 c.args.right.b2 = search rules in
    let b2 = coefficients-again c.both-3.result c.args.left.b2 c.args.right.b2 c.both-3.ensures fit_b2 fit_b2_right in
    let fit_a2 : FitsSigned w32 c.args.left.a2 = search rules in let fit_a2_right : FitsSigned w32 c.args.right.a2 = search rules in
    let a2 = coefficients-again c.both-4.result c.args.left.a2 c.args.right.a2 c.both-4.ensures fit_a2 fit_a2_right in
    let in_x = pair-again w32 c.args.x c.requires.inputs in
    let in_w = pair-again w32 c.args.w c.requires.inner in
    let s = law_section c.args.left in let t = law_section c.args.right in let x : List ℤ = c.args.x in let w : List ℤ = c.args.w in let second : List ℤ = c.args.second in
    let fit_x = c.requires.inputs in let fit_w = c.requires.inner in
    known-again w64 c.second_both.result (second_next s (left_number x) (left_number w)) (second_next t (right_number x) (right_number w))
    (c.second_both.ensures
    ∙ (λ i. ((left_number (b2 i) *ℤ left_number (in_x i)) +ℤ (left_number (a2 i) *ℤ left_number (in_w i))) ∷ ((right_number (b2 i) *ℤ right_number (in_x i)) +ℤ (right_number (a2 i) *ℤ right_number (in_w i))) ∷ []))
    (second-fits s (left_number x) (left_number w) (left_number second) c.requires.beside.0 fit_x.1.0 fit_w.1.0 c.requires.within.0)
    (second-fits t (right_number x) (right_number w) (right_number second) c.requires.beside.1 fit_x.1.1 fit_w.1.1 c.requires.within.1)
