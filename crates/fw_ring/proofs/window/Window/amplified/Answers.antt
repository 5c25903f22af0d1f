use Rattle.std.proofs.Common.{◌≡◌, ◌∙◌, sym, ap, ℕ, ◌+◌, ◌-◌, ◌*◌, ◌%◌, ◌≤◌, ◌++◌, List, length, drop, take, arith, append_assoc, length-take, length-drop, take-append-drop, ℤ}
use Rattle.std.proofs.Math.Nat.{mul-le-mul_right, mul-mod_left}
use Rattle.sof_base.specs.Samples.{Frame}
use Rattle.sof_base.specs.FrameLists.{frames_of}
use Rattle.fw_gain.specs.Kernels.{all_amplified}
use Rattle.fw_gain.proofs.KernelLaws.{amplified-append, length-amplified}
use Rattle.fw_ring.specs.RingWords.{window_frames}
use Rattle.fw_ring.proofs.FrameLaws.{frames-append, rest-whole}
use Rattle.fw_ring.proofs.window.Window.amplified.Goals as goal

pub scaled-requires-2-clause-whole : goal.scaled-requires-2-clause-whole
scaled-requires-2-clause-whole c =
    let w = c.args.self in let near : ℕ = w.capacity - c.wrap.result in
    let same = ap (λ x. x.channels) c.scaled-first.ensures.window in
    ap length c.split_at.ensures.back ∙ length-drop (near * w.channels) c.args.samples.now
    ∙ ap (λ n. n - near * w.channels) c.requires.whole ∙ rest-whole near c.args.count w.channels (omega (arith, c.if-count-near.false))
    ∙ ap (λ n. (c.args.count - near) * n) (sym same)

pub scaled-requires-2-clause-channels : goal.scaled-requires-2-clause-channels
scaled-requires-2-clause-channels c = ap (λ x. x.channels) c.scaled-first.ensures.window ∙ c.requires.channels

pub returns-clause-frames : goal.returns-clause-frames
returns-clause-frames c =
    let w = c.args.self in let samples = c.args.samples.now in let gains = c.args.gains.now in let wide = w.channels in
    let near : ℕ = w.capacity - c.wrap.result in let rest : ℕ = c.args.count - near in
    let held = window_frames w c.args.words.now in let front = take (near * wide) samples in let back = drop (near * wide) samples in
    let same = ap (λ x. x.channels) c.scaled-first.ensures.window in
    let all : near + rest ≡ c.args.count = omega (arith, c.if-count-near.false) in
    let within : near * wide ≤ c.args.count * wide = mul-le-mul_right wide (let le : near ≤ c.args.count = omega (arith, c.if-count-near.false) in le) in
    let long : length front ≡ near * wide = omega (arith, length-take (near * wide) samples, c.requires.whole, within) in
    let whole : length front % wide ≡ 0 = ap (λ k. k % wide) long ∙ mul-mod_left near wide in
    let joined : all_amplified wide gains front ++ all_amplified wide gains back ≡ all_amplified wide gains samples =
    sym (amplified-append wide gains front back c.requires.window.channels.0 whole) ∙ ap (all_amplified wide gains) (take-append-drop (near * wide) samples) in
    c.scaled-2.ensures.frames
    ∙ (λ i. c.scaled-first.ensures.frames i ++ frames_of (same i) rest (all_amplified (same i) gains (c.split_at.ensures.back i)))
    ∙ ap (λ (t : List ℤ). held ++ frames_of wide near (all_amplified wide gains t) ++ frames_of wide rest (all_amplified wide gains back)) c.split_at.ensures.front
    ∙ append_assoc held (frames_of wide near (all_amplified wide gains front)) (frames_of wide rest (all_amplified wide gains back))
    ∙ ap (λ (t : List Frame). held ++ t)
    (sym (frames-append wide near rest (all_amplified wide gains front) (all_amplified wide gains back) (length-amplified wide gains front ∙ long))
    ∙ (λ i. frames_of wide (all i) (joined i)))
