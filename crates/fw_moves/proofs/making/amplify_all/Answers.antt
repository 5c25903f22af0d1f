use Rattle.std.proofs.Common.{◌≡◌, sym, ap, ◌∙◌, ◌%◌, ◌*◌, ◌++◌, List, [], ◌∷◌, ℤ, refl, length, arith}
use Rattle.std.proofs.lemmas.List.{append-nil}
use Rattle.std.proofs.lemmas.Bool.Decides.{Decides-eqb}
use Rattle.fw_gain.specs.Kernels.{all_amplified}
use Rattle.fw_gain.proofs.KernelLaws.{amplified-append}
use Rattle.fw_moves.proofs.MadeLaws.{parts}
use Rattle.fw_moves.proofs.making.amplify_all.Goals as goal

pub split_at_mut-near-requires : goal.split_at_mut-near-requires
split_at_mut-near-requires c =
    omega (arith, parts c.spans.result.0.now c.spans.result.1.now c.args.buffers.now c.args.n c.args.inlet (length c.args.samples.now) c.spans.ensures.samples c.spans.ensures.frames c.requires.held (c.requires.size ∙ ap (λ k. c.args.n * k) (sym c.requires.shape)))

pub volume-requires-then-not-is_empty-clause-lengths : goal.volume-requires-then-not-is_empty-clause-lengths
volume-requires-then-not-is_empty-clause-lengths c =
    omega (arith, c.split_at_mut-near.ensures.back_len, parts c.spans.result.0.now c.spans.result.1.now c.args.buffers.now c.args.n c.args.inlet (length c.args.samples.now) c.spans.ensures.samples c.spans.ensures.frames c.requires.held (c.requires.size ∙ ap (λ k. c.args.n * k) (sym c.requires.shape)))

pub returns-then-not-is_empty-clause-samples : goal.returns-then-not-is_empty-clause-samples
returns-then-not-is_empty-clause-samples c =
    let front = c.spans.result.0.now in let back = c.spans.result.1.now in
    let whole : length front % c.args.channels ≡ 0 = ap (λ n. length front % n) (sym c.requires.shape) ∙ c.spans.ensures.whole in
    (λ i. c.volume.ensures i ++ c.volume-then-not-is_empty.ensures i)
    ∙ sym (amplified-append c.args.channels c.args.gains.now front back c.requires.channels.0 whole)
    ∙ ap (all_amplified c.args.channels c.args.gains.now) c.spans.ensures.samples

pub returns-else-not-is_empty-clause-samples : goal.returns-else-not-is_empty-clause-samples
returns-else-not-is_empty-clause-samples c =
    let front : List ℤ = c.spans.result.0.now in let back : List ℤ = c.spans.result.1.now in
    let far : List ℤ = c.split_at_mut-near.result.1.now in
    let none : length back ≡ 0 = (Decides-eqb (length back) 0).0 (sym c.is_empty.ensures ∙ c.if-not-is_empty.false) in
    let no_back : back ≡ [] = empty back none in
    let no_far : far ≡ [] = empty far (omega (arith, none, c.split_at_mut-near.ensures.back_len, parts front back c.args.buffers.now c.args.n c.args.inlet (length c.args.samples.now) c.spans.ensures.samples c.spans.ensures.frames c.requires.held (c.requires.size ∙ ap (λ k. c.args.n * k) (sym c.requires.shape)))) in
    (λ i. c.volume.ensures i ++ no_far i)
    ∙ append-nil (all_amplified c.args.channels c.args.gains.now front)
    ∙ ap (all_amplified c.args.channels c.args.gains.now) (sym (append-nil front) ∙ (λ i. front ++ sym no_back i) ∙ c.spans.ensures.samples)
  where
    empty : (xs : List ℤ) → length xs ≡ 0 → xs ≡ []
    empty [] none = refl
    empty (x ∷ xs) none = absurd (omega arith)
