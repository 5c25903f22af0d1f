use Rattle.std.proofs.Common.{◌∙◌, sym, ◌++◌}
use Rattle.sof_io.proofs.SampleRuns.{frame_out-append}
use Rattle.sof_io.proofs.samples.write_both.Goals as goal

pub returns-then-not-is_empty : goal.returns-then-not-is_empty
returns-then-not-is_empty c = (λ i. c.write_samples.ensures i ++ c.write_samples-then-not-is_empty.ensures i) ∙ sym (frame_out-append c.args.format c.args.front.now c.args.back.now)
