use Rattle.std.proofs.Common.{◌≡◌, ◌*◌, take}
use Rattle.sof_base.specs.declared.format.Format.TheVariants.{S16}
use Rattle.sof_base.specs.Samples.{frame_out}
use Rattle.sof_io.proofs.samples.write_16.Given as goal

abbrev pub invariant-loop-word : goal.invariant-loop-word
invariant-loop-word l = record {
  place : l.at ≡ l.word-index * 2;
  so_far : take l.at l.bytes ≡ frame_out S16 (take l.word-index l.words);
}
