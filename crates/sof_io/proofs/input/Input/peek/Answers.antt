use Rattle.std.proofs.Common.{◌≡◌, sym, ◌∙◌, ap, ℕ, ◌+◌, ◌-◌, ◌≤◌, ◌++◌, length, take, drop, replicate, append-nil, arith}
use Rattle.sof_base.specs.Ports.{InputView}
use Rattle.sof_io.proofs.InputBytes.{held-is}
use Rattle.sof_io.proofs.NextBytes.{next_bytes-parts}
use Rattle.sof_io.proofs.RoundBytes.{round-near, round-fewer}
use Rattle.sof_io.proofs.input.Input.peek.Goals as goal

pub returns-then-n-len : goal.returns-then-n-len
returns-then-n-len c =
    let start = c.self.inside.start in let held = c.self.inside.held in let bytes = c.self.inside.bytes.items in
    let n : ℕ = length c.args.room.now in let left = c.args.self.now.left in
    let len = sym (ap length c.as_slice.ensures.value) ∙ c.as_slice.ensures.len in
    let whole = ap (λ (view : InputView). view.left) c.self.view_is in
    let long = held-is c.self.inside c.args.self.now c.self.invariant.0 len whole in
    let near : start + n ≤ length bytes = omega (arith, c.if-n-len.true, c.len.ensures, len, c.self.invariant.0.begins) in
    let span : start + n - start ≡ n = omega arith in
    let none : n - length left ≡ 0 = omega (arith, long, c.if-n-self.true) in
    (λ i. take (span i) (drop start (c.as_slice.ensures.value i)))
    ∙ sym (round-near start n bytes near)
    ∙ sym (round-fewer start n held bytes c.if-n-self.true)
    ∙ ap (take n) whole
    ∙ sym (next_bytes-parts n left ∙ ap (λ (m : ℕ). take n left ++ replicate m 0) none ∙ append-nil (take n left))
