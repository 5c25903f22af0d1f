use Rattle.std.proofs.Common.{◌≡◌, sym, ap, ◌∙◌, subst, ℕ, ◌+◌, ◌-◌, ◌<◌, ◌≤◌, List, ℤ, map, take, drop, length, get_or, pos, arith, Bor, length-take, length-drop}
use Rattle.std.specs.List.{AllByRecursion}
use Rattle.std.proofs.lemmas.List.FromFn.{get_or-map-range_with_len, length-map-range_with_len}
use Rattle.sof_base.specs.Samples.{sat}
use Rattle.sof_base.specs.Equations.{exact_sum, mixed}
use Rattle.fw_mixer.proofs.SumLaws.{all-by}
use Rattle.fw_moves.specs.Moving.{samples_in}
use Rattle.fw_moves.proofs.MixLaws.{put-before, put-within}
use Rattle.fw_moves.proofs.mixing.mix_piece.Goals as goal

-- the piece has as many samples as the shortest part
piece-long : (xs : List ℤ) (at m : ℕ) → at + m ≤ length xs → length (take (at + m - at) (drop at xs)) ≡ m
piece-long xs at m fits = omega (arith, length-take (at + m - at) (drop at xs), length-drop at xs, fits)

pub mix_parts-requires-clause-few : goal.mix_parts-requires-clause-few
mix_parts-requires-clause-few g c = omega (arith, ap (λ (xs : List (Bor (List ℤ))). length xs) c.as_slice.ensures.value, c.gather-more.ensures.many, c.requires.few.0, c.requires.few.1)

pub mix_parts-requires-clause-long : goal.mix_parts-requires-clause-long
mix_parts-requires-clause-long g c =
    let m : ℕ = c.gather-more.result in let samples : List ℤ = c.args.samples.now in let at : ℕ = c.args.done in
    let long = piece-long samples at m (omega (arith, c.gather-more.ensures.count, c.requires.within)) in
    all-by (λ (x : Bor (List ℤ)). m ≤ length x.now) (λ (x : Bor (List ℤ)). length (take (at + m - at) (drop at samples)) ≤ length x.now) (λ x l. let e : length (take (at + m - at) (drop at samples)) ≤ length x.now = omega (arith, long, l) in e) c.as_slice.result.now
    (subst (AllByRecursion (λ (x : Bor (List ℤ)). m ≤ length x.now)) (sym c.as_slice.ensures.value) c.gather-more.ensures.long)

pub returns-clause-before : goal.returns-clause-before
returns-clause-before g c = λ k low. put-before c.args.done (c.args.done + c.gather-more.result - c.args.done) k c.args.samples.now c.mix_parts.new.y c.requires.within low

pub returns-clause-made : goal.returns-clause-made
returns-clause-made g c = λ k least low.
    let m : ℕ = c.gather-more.result in let samples : List ℤ = c.args.samples.now in let at : ℕ = c.args.done in let y : List ℤ = c.mix_parts.new.y in
    let parts : List (Bor (List ℤ)) = c.as_slice.result.now in
    let long = piece-long samples at m (omega (arith, c.gather-more.ensures.count, c.requires.within)) in
    let is : y ≡ mixed m (map (λ (x : Bor (List ℤ)). x.now) parts) = c.mix_parts.ensures ∙ ap (λ (i : ℕ). mixed i (map (λ (x : Bor (List ℤ)). x.now) parts)) long in
    let many : length y ≡ m = ap (λ (l : List ℤ). length l) is ∙ length-map-range_with_len (λ i. sat 32 (exact_sum i (map (λ (x : Bor (List ℤ)). x.now) parts))) 0 m in
    let j : ℕ = k - at in
    let under : j < m = omega (arith, least, low) in
    let place : at + j ≡ k = omega (arith, least) in
    put-within at (at + m - at) k samples y c.requires.within least (omega (arith, many, low))
    ∙ ap (λ (l : List ℤ). get_or l j (pos 0)) is
    ∙ get_or-map-range_with_len (λ i. sat 32 (exact_sum i (map (λ (x : Bor (List ℤ)). x.now) parts))) 0 m j j (pos 0) under (omega arith)
    ∙ ap (sat 32) (ap (λ (xs : List (Bor (List ℤ))). exact_sum j (map (λ (x : Bor (List ℤ)). x.now) xs)) c.as_slice.ensures.value ∙ c.gather-more.ensures.sums j under)
    ∙ ap (λ (i : ℕ). sat 32 (exact_sum i (map (samples_in c.args.buffers.now c.args.n) c.args.looked.now))) place
