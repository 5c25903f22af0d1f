use Rattle.std.proofs.Common.{◌≡◌, ◌∙◌, ap, sym, ℕ, ◌*◌, ◌≤◌, length, take, arith, rules, length-take}
use Rattle.std.proofs.Math.Nat.{mul-le-mul_right}
use Rattle.sof_base.specs.Samples.{width, frames_in}
use Rattle.sof_io.specs.Takes.{bytes_given, taken as input_taken}
use Rattle.sof_io.proofs.InputLaws.{length-given}
use Rattle.fw_components.specs.Frames.{words_at, pushed}
use Rattle.fw_schedule.proofs.Parts.{width-most}
use Rattle.fw_schedule.proofs.endpoints.feed_some.Goals as goal

-- so many frames of so many channels take so many bytes
bytes-of : (n channels width count bytes : ℕ) → count ≡ channels → bytes ≡ width → n * count * bytes ≡ n * (channels * width)
bytes-of n channels width count bytes one two = (λ i. n * one i * two i) ∙ omega arith

pub push_bytes-requires-clause-whole : goal.push_bytes-requires-clause-whole
push_bytes-requires-clause-whole c =
    let n = c.args.n in let channels = c.args.step.now.channels in let format = c.args.step.now.format in let id = c.args.step.now.id in
    let long : length c.args.scratch.now.bytes ≡ 6144 = search rules in
    let most : n * channels * width format ≤ 1536 * width format = mul-le-mul_right (width format) c.requires.few in
    let wide = bytes-of n channels (width format) c.from.result c.width.result c.from.ensures c.width.ensures in
    let size : length (take (n * c.from.result * c.width.result) c.args.scratch.now.bytes) ≡ n * (channels * width format) = omega (arith, length-take (n * c.from.result * c.width.result) c.args.scratch.now.bytes, long, wide, most, width-most format) in
    ap length (c.peek-given.ensures ∙ ap (λ k. bytes_given id k c.args.io.now) size) ∙ length-given id (n * (channels * width format)) c.args.io.now ∙ ap (λ k. n * (k * width format)) (sym c.requires.shape)

pub returns-clause-tables : goal.returns-clause-tables
returns-clause-tables c =
    let n = c.args.n in let channels = c.args.step.now.channels in let format = c.args.step.now.format in let t = c.args.registry.now in let id = c.args.step.now.id in
    let b = c.args.buffer in
    let long : length c.args.scratch.now.bytes ≡ 6144 = search rules in
    let most : n * channels * width format ≤ 1536 * width format = mul-le-mul_right (width format) c.requires.few in
    let wide = bytes-of n channels (width format) c.from.result c.width.result c.from.ensures c.width.ensures in
    let size : length (take (n * c.from.result * c.width.result) c.args.scratch.now.bytes) ≡ n * (channels * width format) = omega (arith, length-take (n * c.from.result * c.width.result) c.args.scratch.now.bytes, long, wide, most, width-most format) in
    let came : c.peek-given.result.now ≡ bytes_given id (n * (channels * width format)) c.args.io.now = c.peek-given.ensures ∙ ap (λ k. bytes_given id k c.args.io.now) size in
    c.push_bytes.ensures ∙ (λ i. pushed b (frames_in format (c.requires.shape i) (came i) 0 n) (words_at c.push_bytes.new.self b) t)

pub returns-clause-inputs : goal.returns-clause-inputs
returns-clause-inputs c =
    let n = c.args.n in let channels = c.args.step.now.channels in let format = c.args.step.now.format in let id = c.args.step.now.id in
    c.skip.ensures ∙ ap (λ k. input_taken id k c.args.io.now) (bytes-of n channels (width format) c.from.result c.width.result c.from.ensures c.width.ensures)
