use Rattle.std.proofs.Common.{◌≡◌, ap, sym, subst, ◌∙◌, ◌+◌, ◌*◌, ◌%◌, ◌≤◌, ◌++◌, ℕ, ℤ, List, take, drop, length, arith, length-take, length-drop}
use Rattle.std.specs.List.{AllByRecursion}
use Rattle.std.specs.Simd.Lanes.{zip2}
use Rattle.std.proofs.lemmas.List.{take_all}
use Rattle.std.proofs.Math.Seq.{take-add}
use Rattle.fw_gain.specs.Kernels.{all_amplified, scaled, IsFactor, eight_gains}
use Rattle.fw_gain.proofs.KernelLaws.{amplified-append}
use Rattle.fw_gain.proofs.LaneLaws.{eight-amplified, eights-whole}
use Rattle.fw_gain.proofs.FactorLaws.{scaled-amplified, factors-low, low-more}
use Rattle.fw_gain.proofs.amplifying.lower_lanes.Goals as goal

pub factors_of-factors-requires-clause-low : goal.factors_of-factors-requires-clause-low
factors_of-factors-requires-clause-low c = low-more 65536 2147483647 c.args.gains.now (omega arith) c.requires.low

pub lower_eight-requires-clause-low : goal.lower_eight-requires-clause-low
lower_eight-requires-clause-low c =
    subst (AllByRecursion (IsFactor 65536)) (sym c.factors_of-factors.ensures) (factors-low 65536 c.args.channels c.args.gains.now c.requires.low)

pub loop-k-preserved : goal.loop-k-preserved
loop-k-preserved c =
    let x : List ℤ = c.args.x.now in let channels : ℕ = c.args.channels in let gains : List ℕ = c.args.gains.now in let k = c.loop-k.k in let at : ℕ = 8 * k in let new = c.lower_eight.new.y in
    let some : 1 ≤ channels = c.requires.channels.0 in
    let factors : List ℤ = c.factors_of-factors.result in
    let fits : at + 8 ≤ length x = omega (arith, c.loop-k-test.true, c.loop-k.auto.k-end) in
    let next : at + 8 ≡ 8 * (k + 1) = omega arith in
    let front : List ℤ = take at x in let eight : List ℤ = take 8 (drop at x) in
    let long_front : length front ≡ at = omega (arith, length-take at x, fits) in
    let long_eight : length eight ≡ 8 = omega (arith, length-take 8 (drop at x), length-drop at x, fits) in
    let frames : length front % channels ≡ 0 = ap (λ n. n % channels) long_front ∙ eights-whole channels k some c.requires.frames in
    let made : zip2 scaled factors eight ≡ all_amplified channels gains eight =
    ap (λ (l : List ℤ). zip2 scaled l eight) c.factors_of-factors.ensures ∙ scaled-amplified (eight_gains channels gains) eight ∙ eight-amplified channels gains eight some long_eight in
    let is : take (at + 8) new ≡ all_amplified channels gains (take (at + 8) x) =
    c.lower_eight.ensures
    ∙ (λ i. c.loop-k.invariant.so_far i ++ made i)
    ∙ sym (amplified-append channels gains front eight some frames)
    ∙ ap (all_amplified channels gains) (sym (take-add at 8 x)) in
    record {
      long = omega (arith, c.lower_eight.auto.y, c.loop-k.invariant.long);
      so_far = subst (λ n. take n new ≡ all_amplified channels gains (take n x)) next is;
    }

pub returns : goal.returns
returns c =
    let x : List ℤ = c.args.x.now in let y = c.loop-k.y in let n : ℕ = 8 * c.loop-k.k in let so = c.loop-k.invariant in
    let all : length x ≤ n = omega (arith, c.loop-k-test.false, c.loop-k.auto.k-end, c.requires.eights) in
    sym (take_all n y (omega (arith, so.long, all))) ∙ so.so_far ∙ ap (all_amplified c.args.channels c.args.gains.now) (take_all n x all)
