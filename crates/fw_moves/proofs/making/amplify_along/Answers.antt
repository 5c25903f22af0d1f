use Rattle.std.proofs.Common.{◌≡◌, sym, ap, ◌∙◌, ◌+◌, ◌/◌, ◌%◌, ◌*◌, ◌≤◌, ◌++◌, ℕ, List, [], ◌∷◌, ℤ, refl, length, arith}
use Rattle.std.proofs.lemmas.List.{append-nil}
use Rattle.std.proofs.lemmas.Bool.Decides.{Decides-eqb}
use Rattle.fw_gain.specs.RampKernels.{all_ramped}
use Rattle.fw_gain.proofs.RampKernelLaws.{ramped-append}
use Rattle.fw_moves.proofs.MadeLaws.{parts, ramped-held}
use Rattle.fw_moves.proofs.making.amplify_along.Goals as goal

pub split_at_mut-near-requires : goal.split_at_mut-near-requires
split_at_mut-near-requires c =
    omega (arith, parts c.spans.result.0.now c.spans.result.1.now c.args.buffers.now c.args.n c.args.inlet (length c.args.samples.now) c.spans.ensures.samples c.spans.ensures.frames c.requires.held (c.requires.size ∙ ap (λ k. c.args.n * k) (sym c.requires.shape)))

pub later_of-later-requires-clause-few : goal.later_of-later-requires-clause-few
later_of-later-requires-clause-few c =
    omega (arith, c.requires.size, parts c.spans.result.0.now c.spans.result.1.now c.args.buffers.now c.args.n c.args.inlet (length c.args.samples.now) c.spans.ensures.samples c.spans.ensures.frames c.requires.held (c.requires.size ∙ ap (λ k. c.args.n * k) (sym c.requires.shape)))

pub volume_ramp-requires-then-not-is_empty-clause-lengths : goal.volume_ramp-requires-then-not-is_empty-clause-lengths
volume_ramp-requires-then-not-is_empty-clause-lengths c =
    omega (arith, c.split_at_mut-near.ensures.back_len, parts c.spans.result.0.now c.spans.result.1.now c.args.buffers.now c.args.n c.args.inlet (length c.args.samples.now) c.spans.ensures.samples c.spans.ensures.frames c.requires.held (c.requires.size ∙ ap (λ k. c.args.n * k) (sym c.requires.shape)))

pub returns-then-not-is_empty-clause-samples : goal.returns-then-not-is_empty-clause-samples
returns-then-not-is_empty-clause-samples c =
    let front : List ℤ = c.spans.result.0.now in let back : List ℤ = c.spans.result.1.now in
    let channels : ℕ = c.args.channels in let from : List ℕ = c.args.from.now in let to : List ℕ = c.args.to.now in let count : ℕ = c.args.count in let done : ℕ = c.args.done in
    let whole : length front % channels ≡ 0 = ap (λ n. length front % n) (sym c.requires.shape) ∙ c.spans.ensures.whole in
    let most : count ≤ 4294967295 = omega arith in
    (λ i. c.volume_ramp.ensures i ++ c.volume_ramp-then-not-is_empty.ensures i)
    ∙ ap (λ d. all_ramped channels from to count done front ++ all_ramped channels from to count d back) c.later_of-later.ensures
    ∙ ap (λ (l : List ℤ). all_ramped channels from to count done front ++ l) (ramped-held channels from to count (done + length front / channels) back most)
    ∙ sym (ramped-append channels from to count done front back c.requires.channels.0 whole)
    ∙ ap (all_ramped channels from to count done) c.spans.ensures.samples

pub returns-else-not-is_empty-clause-samples : goal.returns-else-not-is_empty-clause-samples
returns-else-not-is_empty-clause-samples c =
    let front : List ℤ = c.spans.result.0.now in let back : List ℤ = c.spans.result.1.now in
    let channels : ℕ = c.args.channels in let from : List ℕ = c.args.from.now in let to : List ℕ = c.args.to.now in let count : ℕ = c.args.count in let done : ℕ = c.args.done in
    let far : List ℤ = c.split_at_mut-near.result.1.now in
    let none : length back ≡ 0 = (Decides-eqb (length back) 0).0 (sym c.is_empty.ensures ∙ c.if-not-is_empty.false) in
    let no_back : back ≡ [] = empty back none in
    let no_far : far ≡ [] = empty far (omega (arith, none, c.split_at_mut-near.ensures.back_len, parts front back c.args.buffers.now c.args.n c.args.inlet (length c.args.samples.now) c.spans.ensures.samples c.spans.ensures.frames c.requires.held (c.requires.size ∙ ap (λ k. c.args.n * k) (sym c.requires.shape)))) in
    (λ i. c.volume_ramp.ensures i ++ no_far i)
    ∙ append-nil (all_ramped channels from to count done front)
    ∙ ap (all_ramped channels from to count done) (sym (append-nil front) ∙ (λ i. front ++ sym no_back i) ∙ c.spans.ensures.samples)
  where
    empty : (xs : List ℤ) → length xs ≡ 0 → xs ≡ []
    empty [] none = refl
    empty (x ∷ xs) none = absurd (omega arith)
