use Rattle.std.proofs.Common.{◌≡◌, ◌*◌, take}
use Rattle.sof_base.specs.declared.format.Format.TheVariants.{S32}
use Rattle.sof_base.specs.Samples.{frame_in}
use Rattle.fw_ring.proofs.samples.read_32.Given as goal

abbrev pub invariant-loop-word : goal.invariant-loop-word
invariant-loop-word l = record {
  place : l.at ≡ l.word-index * 4;
  so_far : take l.word-index l.words ≡ frame_in S32 l.word-index l.bytes 0;
}
