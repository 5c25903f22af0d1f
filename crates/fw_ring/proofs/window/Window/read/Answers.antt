use Rattle.std.proofs.Common.{◌≡◌, ◌∙◌, sym, ap, ℕ, ◌+◌, ◌-◌, ◌*◌, ◌≤◌, ◌++◌, List, length, take, drop, arith, rules, length-take, length-drop}
use Rattle.std.proofs.lemmas.List.FromFn.{length-map-range_with_len}
use borrow.Rule.Slice.PartMut.{put_mid}
use Rattle.sof_base.specs.Samples.{Frame, width, sample_in_of, frame_in}
use Rattle.sof_base.specs.FrameLists.{frames_of}
use Rattle.fw_ring.specs.RingWords.{window_frames}
use Rattle.fw_ring.proofs.ReadFrames.{frames-read}
use Rattle.fw_ring.proofs.WindowLaws.{fuller, part-room, window-put}
use Rattle.fw_ring.proofs.window.Window.read.Goals as goal

pub slice_bounds-read_samples-end : goal.slice_bounds-read_samples-end
slice_bounds-read_samples-end c =
    let w = c.args.self in let at = c.wrap.result in
    let room : at * w.channels + c.args.count * w.channels ≤ length c.args.words.now =
    omega (arith, part-room w at c.args.count c.requires.window (omega (arith, c.wrap.ensures, c.requires.near)), c.requires.words) in
    search rules

pub read_samples-requires : goal.read_samples-requires
read_samples-requires c =
    let w = c.args.self in let at : ℕ = c.wrap.result * w.channels in let n : ℕ = c.args.count * w.channels in let words = c.args.words.now in
    let room : at + n ≤ length words = omega (arith, part-room w c.wrap.result c.args.count c.requires.window (omega (arith, c.wrap.ensures, c.requires.near)), c.requires.words) in
    let long : length (take (at + n - at) (drop at words)) ≡ n = omega (arith, length-take (at + n - at) (drop at words), length-drop at words, room) in
    c.requires.whole ∙ (let e : c.args.count * (w.channels * width c.args.format) ≡ n * width c.args.format = omega arith in e) ∙ ap (λ k. k * width c.args.format) (sym long)

pub returns-clause-frames : goal.returns-clause-frames
returns-clause-frames c =
    let w = c.args.self in let at : ℕ = c.wrap.result * w.channels in let n : ℕ = c.args.count * w.channels in let words = c.args.words.now in
    let format = c.args.format in let bytes = c.args.bytes.now in let xs = c.read_samples.new.words in
    let room : at + n ≤ length words = omega (arith, part-room w c.wrap.result c.args.count c.requires.window (omega (arith, c.wrap.ensures, c.requires.near)), c.requires.words) in
    let span : at + n - at ≡ n = omega arith in
    let long : length (take (at + n - at) (drop at words)) ≡ n = omega (arith, length-take (at + n - at) (drop at words), length-drop at words, room) in
    let is : xs ≡ frame_in format n bytes 0 = c.read_samples.ensures ∙ ap (λ k. frame_in format k bytes 0) long in
    let size : length xs ≡ n = ap length is ∙ length-map-range_with_len (λ k. sample_in_of format bytes (0 + k * width format)) 0 n in
    (λ i. window_frames (fuller w c.args.count) (put_mid at (span i) words xs))
    ∙ window-put w words c.args.count c.wrap.result xs c.requires.window c.requires.words c.requires.fit c.wrap.ensures (omega (arith, c.wrap.ensures, c.requires.near)) size
    ∙ ap (λ (fs : List Frame). window_frames w words ++ fs) (ap (frames_of w.channels c.args.count) is ∙ frames-read format w.channels c.args.count bytes)
