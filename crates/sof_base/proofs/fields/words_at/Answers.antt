use Rattle.std.proofs.Common.{◌≡◌, sym, ◌∙◌, ap, arith, ℕ, take, length-set}
use Rattle.std.proofs.lemmas.List.{take_all, length-replicate}
use Rattle.sof_base.specs.Layouts.{words_at}
use Rattle.sof_base.proofs.WordLaws.{words_none, words_step}
use Rattle.sof_base.proofs.fields.words_at.Goals as goal

pub loop-i-init : goal.loop-i-init
loop-i-init g c = record { so_far = words_none c.args.bytes.now c.args.at; len = length-replicate _ _ }

pub loop-i-preserved : goal.loop-i-preserved
loop-i-preserved g c = record {
  so_far = words_step c.loop-i.words c.loop-i.i c.args.bytes.now c.args.at c.word.result (omega (arith, c.loop-i.invariant.len, c.loop-i-test.true)) c.loop-i.invariant.so_far c.word.ensures;
  len = omega (arith, length-set c.loop-i.words c.loop-i.i c.word.result, c.loop-i.invariant.len);
}

pub returns : goal.returns
returns g c =
    let end : c.loop-i.i ≡ g.row.N = omega (arith, c.loop-i-test.false, c.loop-i.auto.i-end) in
    let all : take c.loop-i.i c.loop-i.words ≡ c.loop-i.words = take_all c.loop-i.i c.loop-i.words (omega (arith, end, c.loop-i.invariant.len)) in
    sym all ∙ sym c.loop-i.invariant.so_far ∙ ap (λ (n : ℕ). words_at n c.args.bytes.now c.args.at) end
