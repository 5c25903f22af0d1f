use Rattle.std.proofs.Common.{◌≡◌, ◌∙◌, sym, ap, ℕ, ◌+◌, ◌-◌, ◌*◌, ◌≤◌, ◌++◌, List, length, drop, take, arith, append_assoc, length-drop, length-take}
use Rattle.std.proofs.Math.Nat.{mul-le-mul_right}
use Rattle.sof_base.specs.Samples.{Frame, width, frames_in}
use Rattle.fw_ring.specs.RingWords.{window_frames}
use Rattle.fw_ring.proofs.FrameLaws.{rest-whole}
use Rattle.fw_ring.proofs.ReadFrames.{frames_in-more}
use Rattle.fw_ring.proofs.window.Window.extended_by.Goals as goal

pub read-first-requires-clause-whole : goal.read-first-requires-clause-whole
read-first-requires-clause-whole c =
    let w = c.args.self in let near : ℕ = w.capacity - c.wrap.result in let m : ℕ = w.channels * width c.args.format in
    let size : near * (w.channels * c.width.result) ≡ near * m = ap (λ k. near * (w.channels * k)) c.width.ensures in
    let less : near * m ≤ c.args.count * m = mul-le-mul_right m (omega (arith, c.if-count-near.false)) in
    ap length c.split_at.ensures.front ∙ omega (arith, length-take (near * (w.channels * c.width.result)) c.args.bytes.now, size, less, c.requires.whole)

pub read-requires-2-clause-whole : goal.read-requires-2-clause-whole
read-requires-2-clause-whole c =
    let w = c.args.self in let near : ℕ = w.capacity - c.wrap.result in let m : ℕ = w.channels * width c.args.format in
    let same = ap (λ x. x.channels) c.read-first.ensures.window in
    let size : near * (w.channels * c.width.result) ≡ near * m = ap (λ k. near * (w.channels * k)) c.width.ensures in
    ap length c.split_at.ensures.back ∙ length-drop (near * (w.channels * c.width.result)) c.args.bytes.now
    ∙ (λ i. c.requires.whole i - size i) ∙ rest-whole near c.args.count m (omega (arith, c.if-count-near.false))
    ∙ ap (λ n. (c.args.count - near) * (n * width c.args.format)) (sym same)

pub returns-clause-frames : goal.returns-clause-frames
returns-clause-frames c =
    let w = c.args.self in let bytes = c.args.bytes.now in let format = c.args.format in
    let near : ℕ = w.capacity - c.wrap.result in let rest : ℕ = c.args.count - near in let m : ℕ = w.channels * width format in
    let held = window_frames w c.args.words.now in
    let same = ap (λ x. x.channels) c.read-first.ensures.window in
    let size : near * (w.channels * c.width.result) ≡ near * m = ap (λ k. near * (w.channels * k)) c.width.ensures in
    let front : c.split_at.result.0.now ≡ take (near * m) bytes = c.split_at.ensures.front ∙ ap (λ k. take k bytes) size in
    let back : c.split_at.result.1.now ≡ drop (near * m) bytes = c.split_at.ensures.back ∙ ap (λ k. drop k bytes) size in
    let all : near + rest ≡ c.args.count = omega (arith, c.if-count-near.false) in
    let whole : length bytes ≡ (near + rest) * m = c.requires.whole ∙ ap (λ n. n * m) (sym all) in
    c.read-2.ensures.frames
    ∙ (λ i. c.read-first.ensures.frames i ++ frames_in format (same i) (back i) 0 rest)
    ∙ ap (λ (t : List ℕ). held ++ frames_in format w.channels t 0 near ++ frames_in format w.channels (drop (near * m) bytes) 0 rest) front
    ∙ append_assoc held (frames_in format w.channels (take (near * m) bytes) 0 near) (frames_in format w.channels (drop (near * m) bytes) 0 rest)
    ∙ ap (λ (t : List Frame). held ++ t) (frames_in-more format w.channels near rest bytes whole ∙ ap (λ n. frames_in format w.channels bytes 0 n) all)
