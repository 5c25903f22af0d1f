use Rattle.std.proofs.Common.{◌≡◌, ◌*◌, take}
use Rattle.sof_base.specs.declared.format.Format.TheVariants.{S32}
use Rattle.sof_base.specs.Samples.{frame_out}
use Rattle.sof_io.proofs.samples.write_32.Given as goal

abbrev pub invariant-loop-word : goal.invariant-loop-word
invariant-loop-word l = record {
  place : l.at ≡ l.word-index * 4;
  so_far : take l.at l.bytes ≡ frame_out S32 (take l.word-index l.words);
}
