use Rattle.std.proofs.Common.{◌≡◌, ◌∙◌, ap, sym, subst, ℕ, ◌+◌, ◌-◌, ◌*◌, ◌≤◌, min, List, ◌++◌, length, take, replicate, arith}
use Rattle.std.proofs.Math.Nat.{mul-le-mul_right}
use Rattle.sof_base.specs.Ports.{OutputView}
use Rattle.sof_base.specs.Samples.{width, frames_out}
use Rattle.sof_io.specs.Puts.{room_at, with_piece}
use Rattle.sof_io.proofs.OutputLaws.{with_piece-with_piece}
use Rattle.fw_components.specs.Tables.{held_frames}
use Rattle.fw_schedule.specs.Outputs.{least_by}
use Rattle.fw_schedule.proofs.Parts.{room-left}
use Rattle.fw_schedule.proofs.Drained.{least-few}
use Rattle.fw_schedule.proofs.ticking.drain_from.Goals as goal

pub drain_frames-requires-clause-held : goal.drain_frames-requires-clause-held
drain_frames-requires-clause-held c = omega (arith, c.min-n.ensures, c.held_at.ensures)

pub drain_frames-requires-clause-room : goal.drain_frames-requires-clause-room
drain_frames-requires-clause-room c =
    let s = c.args.step.now in let m : ℕ = s.channels * width s.format in
    let most : c.min-n.result * m ≤ c.args.most * m = mul-le-mul_right m (omega (arith, c.min-n.ensures)) in
    omega (arith, most, c.requires.room)

times-sum : (a b m : ℕ) → (a + b) * m ≡ a * m + b * m
times-sum a b m = omega arith

pub fill-requires : goal.fill-requires
fill-requires c =
    let s = c.args.step.now in let id = s.id in let n = c.min-n.result in let out = c.args.out.now in let format = s.format in
    let m : ℕ = s.channels * width format in
    let z : ℕ = c.least-least.result - n in
    let fs = held_frames c.args.registry.now c.args.buffer in
    let more : c.saturating_sub.result * (c.from.result * c.width.result) ≡ z * m = (λ i. c.saturating_sub.ensures i * (c.from.ensures i * c.width.ensures i)) in
    let few : n + z ≤ c.args.most = omega (arith, c.least-least.ensures, least-few s.kind c.args.most, c.min-n.ensures) in
    let room : n * m + z * m ≤ room_at id out = omega (arith, times-sum n z m, mul-le-mul_right m few, c.requires.room) in
    subst (λ k. k ≤ room_at id c.drain_frames.new.out) (sym more)
    (subst (λ (o : List OutputView). z * m ≤ room_at id o) (sym c.drain_frames.ensures.outputs) (room-left id (n * m) (z * m) (frames_out format (take n fs)) out c.drain_frames.ensures.size room))

pub returns-clause-outputs : goal.returns-clause-outputs
returns-clause-outputs c =
    let s = c.args.step.now in let id = s.id in let n = c.min-n.result in let out = c.args.out.now in let format = s.format in
    let m : ℕ = s.channels * width format in
    let fs = held_frames c.args.registry.now c.args.buffer in
    let more : c.saturating_sub.result * (c.from.result * c.width.result) ≡ (least_by s.kind c.args.most - n) * m = (λ i. c.saturating_sub.ensures i * (c.from.ensures i * c.width.ensures i)) ∙ ap (λ k. (k - n) * m) c.least-least.ensures in
    let count : n ≡ min c.args.most (length (held_frames c.args.registry.now c.args.buffer)) = omega (arith, c.min-n.ensures, c.held_at.ensures) in
    c.fill.ensures
    ∙ (λ i. with_piece id (replicate (more i) 0) (c.drain_frames.ensures.outputs i))
    ∙ with_piece-with_piece id (frames_out format (take n fs)) (replicate ((least_by s.kind c.args.most - n) * m) 0) out
    ∙ ap (λ k. with_piece id (frames_out format (take k fs) ++ replicate ((least_by s.kind c.args.most - k) * m) 0) out) count

pub returns-clause-size : goal.returns-clause-size
returns-clause-size c =
    let t = c.args.registry.now in let s = c.args.step.now in let format = s.format in
    let fs = held_frames t c.args.buffer in
    let count : c.min-n.result ≡ min c.args.most (length (held_frames t c.args.buffer)) = omega (arith, c.min-n.ensures, c.held_at.ensures) in
    ap (λ k. length (frames_out format (take k fs))) (sym count) ∙ c.drain_frames.ensures.size ∙ ap (λ k. k * (s.channels * width format)) count
