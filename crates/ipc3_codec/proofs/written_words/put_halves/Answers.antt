use Rattle.std.proofs.Common.{take, get_or, sym, arith, append-nil}
use Rattle.std.specs.Int.{w16, to_le_bytes}
use Rattle.ipc3_codec.specs.Writing.{halves_bytes}
use Rattle.ipc3_codec.proofs.WordList.{written_over, halves_bytes-more}
use Rattle.ipc3_codec.proofs.written_words.put_halves.Goals as goal

pub loop-half-init : goal.loop-half-init
unfolding halves_bytes
loop-half-init c = record { place = omega arith; so_far = sym (append-nil (take c.args.at c.args.out.now)) }

pub loop-half-preserved : goal.loop-half-preserved
loop-half-preserved c = record {
  place = omega arith;
  so_far = halves_bytes-more (take c.args.at c.args.out.now) c.args.halves.now c.loop-half.out c.write_u16.new.buf c.loop-half.end c.loop-half.half-index _ (omega arith) c.loop-half-test.true (written_over (to_le_bytes w16 (get_or c.args.halves.now c.loop-half.half-index 0)) _ _ c.write_u16.ensures (omega (arith, c.write_u16.auto.buf))) c.loop-half.invariant.so_far;
}
