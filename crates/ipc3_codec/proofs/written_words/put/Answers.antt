use Rattle.std.proofs.Common.{take, get_or, sym, arith, append-nil}
use Rattle.std.specs.Int.{w32, to_le_bytes}
use Rattle.sof_base.specs.Slots.{words_bytes}
use Rattle.ipc3_codec.proofs.WordList.{written_over, words_bytes-more}
use Rattle.ipc3_codec.proofs.written_words.put.Goals as goal

pub loop-word-init : goal.loop-word-init
unfolding words_bytes
loop-word-init c = record { place = omega arith; so_far = sym (append-nil (take c.args.at c.args.out.now)) }

pub loop-word-preserved : goal.loop-word-preserved
loop-word-preserved c = record {
  place = omega arith;
  so_far = words_bytes-more (take c.args.at c.args.out.now) c.args.words.now c.loop-word.out c.write_u32.new.buf c.loop-word.end c.loop-word.word-index _ (omega arith) c.loop-word-test.true (written_over (to_le_bytes w32 (get_or c.args.words.now c.loop-word.word-index 0)) _ _ c.write_u32.ensures (omega (arith, c.write_u32.auto.buf))) c.loop-word.invariant.so_far;
}
