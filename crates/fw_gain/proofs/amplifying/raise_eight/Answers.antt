use Rattle.std.proofs.Common.{◌≡◌, refl, ap, sym, subst, ◌∙◌, ◌+◌, ◌++◌, ℕ, ℤ, List, map, take, length, arith, rules, w32, w64, FitsSigned, to_z, of_z}
use Rattle.std.specs.Simd.Lanes.{zip2, Each1}
use Rattle.std.proofs.lemmas.Simd.{take_more_put_chunk}
use Rattle.fw_gain.specs.Kernels.{scaled}
use Rattle.fw_gain.proofs.FactorLaws.{lanes_exact, lanes_shift, lanes_least, lanes_most, lane_narrow, lanes-scaled, wide-fits, scaled-fits, scaled-narrow, length-scaled, eight_of, eight-is, factors-fit}
use Rattle.fw_gain.proofs.amplifying.raise_eight.Goals as goal

pub overflow_cast-exact : goal.overflow_cast-exact
overflow_cast-exact c =
    let fit_x : Each1 (FitsSigned w32) (eight_of c.args.x.now c.args.at) = (search rules, (search rules, (search rules, (search rules, (search rules, (search rules, (search rules, (search rules, tt)))))))) in
    wide-fits (eight_of c.args.x.now c.args.at) fit_x

pub overflow_cast-exact-2 : goal.overflow_cast-exact-2
overflow_cast-exact-2 c =
    let factors : List ℤ = c.args.factors.now in
    wide-fits factors (factors-fit 2147483647 factors (omega arith) c.requires.low)

pub overflow_cast-y : goal.overflow_cast-y
overflow_cast-y c =
    let x : List ℤ = c.args.x.now in let at : ℕ = c.args.at in let factors : List ℤ = c.args.factors.now in let eight : List ℤ = eight_of x at in
    let fit_x : Each1 (FitsSigned w32) eight = (search rules, (search rules, (search rules, (search rules, (search rules, (search rules, (search rules, (search rules, tt)))))))) in
    let fit_f : Each1 (FitsSigned w32) factors = factors-fit 2147483647 factors (omega arith) c.requires.low in
    let is : lanes_shift 8 (lanes_most 8 (lanes_least 8 (lanes_exact 8 eight factors))) ≡ map (of_z w64) (zip2 scaled factors eight) = lanes-scaled 8 eight factors refl c.told-factors fit_x fit_f in
    subst (Each1 (λ a. FitsSigned w32 (to_z w64 a))) (sym is) (scaled-fits factors eight)

pub returns : goal.returns
returns c =
    let x : List ℤ = c.args.x.now in let at : ℕ = c.args.at in let factors : List ℤ = c.args.factors.now in let eight : List ℤ = eight_of x at in
    let fit_x : Each1 (FitsSigned w32) eight = (search rules, (search rules, (search rules, (search rules, (search rules, (search rules, (search rules, (search rules, tt)))))))) in
    let fit_f : Each1 (FitsSigned w32) factors = factors-fit 2147483647 factors (omega arith) c.requires.low in
    let is : lanes_shift 8 (lanes_most 8 (lanes_least 8 (lanes_exact 8 eight factors))) ≡ map (of_z w64) (zip2 scaled factors eight) = lanes-scaled 8 eight factors refl c.told-factors fit_x fit_f in
    let made : map (to_z w32) (map lane_narrow (lanes_shift 8 (lanes_most 8 (lanes_least 8 (lanes_exact 8 eight factors))))) ≡ zip2 scaled factors eight = ap (λ l. map (to_z w32) (map lane_narrow l)) is ∙ scaled-narrow factors eight in
    let count : length (map (to_z w32) (map lane_narrow (lanes_shift 8 (lanes_most 8 (lanes_least 8 (lanes_exact 8 eight factors)))))) ≡ 8 = ap (λ l. length l) made ∙ length-scaled factors eight c.told-factors in
    take_more_put_chunk at c.args.y.now (map (to_z w32) (map lane_narrow (lanes_shift 8 (lanes_most 8 (lanes_least 8 (lanes_exact 8 eight factors)))))) (at + 8) (omega (arith, count)) c.requires.there.1
    ∙ ap (λ (t : List ℤ). take at c.args.y.now ++ t) (made ∙ ap (λ l. zip2 scaled factors l) (sym (eight-is x at c.requires.there.0)))
