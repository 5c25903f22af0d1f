use Rattle.std.proofs.Common.{◌≡◌, ◌∙◌, ap, ◌-◌, ◌*◌, min, length, arith}
use Rattle.sof_base.specs.Samples.{width, frames_in}
use Rattle.sof_io.specs.Takes.{bytes_given, taken as input_taken}
use Rattle.fw_components.specs.Tables.{held_frames, capacity_at}
use Rattle.fw_components.specs.Frames.{words_at, pushed}
use Rattle.fw_schedule.proofs.ticking.feed_into.Goals as goal

pub feed_frames-requires-clause-fit : goal.feed_frames-requires-clause-fit
feed_frames-requires-clause-fit c = omega (arith, c.min-n.ensures, c.free_at.ensures)

pub returns-clause-tables : goal.returns-clause-tables
returns-clause-tables c =
    let t = c.args.registry.now in let s = c.args.step.now in let b = c.args.buffer in
    let count : c.min-n.result ≡ min c.args.most (capacity_at t b - length (held_frames t b)) = omega (arith, c.min-n.ensures, c.free_at.ensures) in
    c.feed_frames.ensures.tables ∙ ap (λ n. pushed b (frames_in s.format s.channels (bytes_given s.id (n * (s.channels * width s.format)) c.args.io.now) 0 n) (words_at c.feed_frames.new.registry b) t) count

pub returns-clause-inputs : goal.returns-clause-inputs
returns-clause-inputs c =
    let t = c.args.registry.now in let s = c.args.step.now in let b = c.args.buffer in
    let count : c.min-n.result ≡ min c.args.most (capacity_at t b - length (held_frames t b)) = omega (arith, c.min-n.ensures, c.free_at.ensures) in
    c.feed_frames.ensures.inputs ∙ ap (λ n. input_taken s.id (n * (s.channels * width s.format)) c.args.io.now) count
