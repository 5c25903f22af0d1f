use Rattle.std.proofs.Common.{◌≡◌, ap, ◌∙◌, ℕ, ◌+◌, ◌-◌, ◌++◌, length, drop, arith, length-take, length-drop}
use borrow.Rule.Slice.PartMut.{put_mid}
use Rattle.fw_ring.specs.declared.window.Window.{Window}
use Rattle.sof_base.specs.FrameLists.{frames_of}
use Rattle.fw_gain.specs.Kernels.{all_amplified}
use Rattle.fw_ring.specs.RingWords.{window_frames}
use Rattle.fw_ring.specs.RingLaid.{own_words}
use Rattle.fw_ring.proofs.RingLaws.{own-put, own-slice}
use Rattle.fw_ring.proofs.ring.extend_amplified.Goals as goal

pub returns-clause-frames : goal.returns-clause-frames
returns-clause-frames c =
    let w = c.args.window in let ws = c.args.words.now in let new = c.amplified.new.words in let n : ℕ = w.words in
    let e : 8 + n - 8 ≡ n = omega arith in
    let long : length new ≡ n = omega (arith, c.amplified.auto.words, length-take (8 + n - 8) (drop 8 ws), length-drop 8 ws, c.requires.words) in
    let same : c.amplified.result.words ≡ n = ap (λ (x : Window). x.words) c.amplified.ensures.window in
    let count = c.frames_in-count.ensures in
    (λ i. window_frames c.amplified.result (own_words (same i) (put_mid 8 (e i) ws new)))
    ∙ ap (window_frames c.amplified.result) (own-put n ws new c.requires.words long)
    ∙ c.amplified.ensures.frames
    ∙ (λ i. window_frames w (own-slice n ws i) ++ frames_of w.channels (count i) (all_amplified w.channels c.args.gains.now c.args.samples.now))
