use Rattle.std.proofs.Common.{List, ℕ, sym, ap, arith}
use Rattle.sof_base.proofs.WriteLaws.{words_none, words_more}
use Rattle.tplg_write.proofs.SinkLaws.{are_words}
use Rattle.tplg_write.proofs.sink.Sink.words.Goals as goal

pub loop-word-init : goal.loop-word-init
loop-word-init c = ap (λ (a : List ℕ). record { front = c.args.self.now.front; added = a }) (sym (words_none c.args.self.now.added))

pub loop-word-preserved : goal.loop-word-preserved
loop-word-preserved c = rw (c.in_ok-put.ensures.ok, c.word_bytes.ensures, c.loop-word.invariant) (ap (λ (a : List ℕ). record { front = c.args.self.now.front; added = a }) (words_more c.args.self.now.added c.args.words.now c.loop-word.word-index c.loop-word-test.true))

pub returns-in_err-put-clause-fit : goal.returns-in_err-put-clause-fit
returns-in_err-put-clause-fit c = are_words c.args.words.now (λ i. omega (arith, c.type_inv.words i))

pub returns-clause-fit : goal.returns-clause-fit
returns-clause-fit c = are_words c.args.words.now (λ i. omega (arith, c.type_inv.words i))
