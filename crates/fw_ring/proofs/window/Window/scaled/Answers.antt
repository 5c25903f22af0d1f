use Rattle.std.proofs.Common.{◌≡◌, ap, sym, ◌∙◌, ℕ, ◌+◌, ◌-◌, ◌*◌, ◌≤◌, List, length, arith, rules, ℤ}
use borrow.Rule.Slice.PartMut.{put_mid}
use Rattle.fw_gain.specs.Kernels.{all_amplified}
use Rattle.fw_gain.proofs.KernelLaws.{length-amplified}
use Rattle.fw_ring.specs.RingWords.{window_frames}
use Rattle.fw_ring.proofs.WindowLaws.{fuller, part-room, window-put}
use Rattle.fw_ring.proofs.window.Window.scaled.Goals as goal

pub slice_bounds-volume-end : goal.slice_bounds-volume-end
slice_bounds-volume-end c =
    let w = c.args.self in let at = c.wrap.result in
    let room : at * w.channels + c.args.count * w.channels ≤ length c.args.words.now =
    omega (arith, part-room w at c.args.count c.requires.window (omega (arith, c.wrap.ensures, c.requires.near)), c.requires.words) in
    search rules

pub volume-requires-clause-channels : goal.volume-requires-clause-channels
volume-requires-clause-channels c = (omega (arith, c.requires.window.channels.0, c.requires.channels), omega (arith, c.requires.window.channels.1, c.requires.channels))

pub returns-clause-frames : goal.returns-clause-frames
returns-clause-frames c =
    let w = c.args.self in let at : ℕ = c.wrap.result * w.channels in let n : ℕ = c.args.count * w.channels in let words = c.args.words.now in
    let xs : List ℤ = all_amplified w.channels c.args.gains.now c.args.samples.now in
    let span : at + n - at ≡ n = omega arith in
    let is : c.volume.new.y ≡ xs = c.volume.ensures ∙ ap (λ k. all_amplified k c.args.gains.now c.args.samples.now) (sym c.requires.channels) in
    (λ i. window_frames (fuller w c.args.count) (put_mid at (span i) words (is i)))
    ∙ window-put w words c.args.count c.wrap.result xs c.requires.window c.requires.words c.requires.fit c.wrap.ensures (omega (arith, c.wrap.ensures, c.requires.near)) (length-amplified w.channels c.args.gains.now c.args.samples.now ∙ c.requires.whole)
