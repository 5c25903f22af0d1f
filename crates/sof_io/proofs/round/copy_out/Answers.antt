use Rattle.std.proofs.Common.{◌≡◌, ◌∙◌, sym, ap, ℕ, ◌+◌, ◌-◌, ◌++◌, length, take, drop, arith, length-drop}
use Rattle.std.proofs.lemmas.List.{take_all}
use Rattle.sof_io.proofs.RoundBytes.{round-near, round-far, joined}
use Rattle.sof_io.proofs.round.copy_out.Goals as goal

pub returns-then-out-ahead : goal.returns-then-out-ahead
returns-then-out-ahead c =
    let start = c.args.start in let n = length c.args.out.now in
    let span : start + n - start ≡ n = omega arith in
    c.copy_from_slice.ensures.after ∙ ap (λ (m : ℕ). take m (drop start c.args.bytes.now)) span
    ∙ sym (round-near start n c.args.bytes.now (omega (arith, c.if-out-ahead.true, c.requires.0)))

pub returns : goal.returns
returns c =
    let start = c.args.start in let bytes = c.args.bytes.now in let out = c.args.out.now in
    let ahead : ℕ = length bytes - start in
    let front : c.copy_from_slice-2.new.self ≡ drop start bytes =
    c.copy_from_slice-2.ensures.after ∙ take_all ahead (drop start bytes) (omega (arith, length-drop start bytes)) in
    let long = c.if-out-ahead.false in
    joined out c.copy_from_slice-2.new.self c.copy_from_slice-3.new.self ahead (omega (arith, ap length front, length-drop start bytes)) (omega (arith, long))
    ∙ (λ i. front i ++ c.copy_from_slice-3.ensures.after i)
    ∙ sym (round-far start (length out) bytes c.requires.0 (omega (arith, long, c.requires.0)))
