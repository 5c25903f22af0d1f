use Rattle.std.proofs.Common.{◌≡◌, ◌∙◌, ap, sym, subst, ℕ, ◌+◌, ◌*◌, ◌≤◌, ◌++◌, List, length, take, arith, length-append}
use Rattle.sof_base.specs.Samples.{width, frame_out}
use Rattle.sof_base.proofs.SampleLaws.{length-frame_out}
use Rattle.sof_io.specs.Puts.{with_piece, room_at}
use Rattle.fw_components.specs.Tables.{held_frames}
use Rattle.fw_schedule.proofs.FrameBytes.{bytes-of-frames}
use Rattle.fw_schedule.proofs.endpoints.drain_frames.Goals as goal

times : (n c w s : ℕ) → s ≡ n * c → s * w ≡ n * (c * w)
times n c w s is = ap (λ (k : ℕ). k * w) is ∙ omega arith

pub put_samples-requires : goal.put_samples-requires
put_samples-requires c =
    let n = c.args.n in let s = c.args.step.now in
    let count : length c.spans.result.0.now + length c.spans.result.1.now ≡ n * s.channels = c.spans.ensures.size ∙ ap (λ (k : ℕ). n * k) c.requires.shape in
    subst (λ (k : ℕ). k ≤ room_at s.id c.args.out.now) (sym (times n s.channels (width s.format) (length c.spans.result.0.now + length c.spans.result.1.now) count)) c.requires.room

pub returns-clause-size : goal.returns-clause-size
returns-clause-size c =
    let n = c.args.n in let s = c.args.step.now in
    let fs = held_frames c.args.registry.now c.args.buffer in
    let front = c.spans.result.0.now in let back = c.spans.result.1.now in
    let count : length front + length back ≡ n * s.channels = c.spans.ensures.size ∙ ap (λ (k : ℕ). n * k) c.requires.shape in
    ap length (sym (ap (frame_out s.format) c.spans.ensures.samples ∙ bytes-of-frames s.format (take n fs)))
    ∙ length-frame_out s.format (front ++ back)
    ∙ ap (λ (k : ℕ). k * width s.format) (length-append front back)
    ∙ times n s.channels (width s.format) (length front + length back) count

pub returns-clause-outputs : goal.returns-clause-outputs
returns-clause-outputs c =
    let n = c.args.n in let s = c.args.step.now in
    let fs = held_frames c.args.registry.now c.args.buffer in
    c.put_samples.ensures ∙ ap (λ (bytes : List ℕ). with_piece s.id bytes c.args.out.now) (ap (frame_out s.format) c.spans.ensures.samples ∙ bytes-of-frames s.format (take n fs))
