use Rattle.std.proofs.Common.{◌≡◌, sym, ◌∙◌, ap, ℕ, min, length, take, arith, length-take}
use Rattle.sof_base.specs.Ports.{InputView}
use Rattle.sof_io.specs.Round.{round_bytes}
use Rattle.sof_io.proofs.InputBytes.{held-is}
use Rattle.sof_io.proofs.NextBytes.{filled}
use Rattle.sof_io.proofs.RoundBytes.{round-fewer}
use Rattle.sof_io.proofs.input.Input.copy.Goals as goal

pub returns : goal.returns
returns c =
    let start = c.self.inside.start in let held = c.self.inside.held in let bytes = c.self.inside.bytes.items in
    let out = c.args.out.now in let left = c.args.self.now.left in let count = c.min-count.result in
    let whole = ap (λ (view : InputView). view.left) c.self.view_is in
    let long = held-is c.self.inside c.args.self.now c.self.invariant.0 (sym (ap length c.as_slice.ensures.value) ∙ c.as_slice.ensures.len) whole in
    let is : count ≡ min (length left) (length out) = c.min-count.ensures ∙ ap (λ (m : ℕ). min m (length out)) (sym long) in
    let few : length (take count out) ≡ count = omega (arith, length-take count out, is) in
    let front : c.copy_out.new.out ≡ take count left =
    c.copy_out.ensures
    ∙ (λ i. round_bytes start (few i) (c.as_slice.ensures.value i))
    ∙ sym (round-fewer start count held bytes (omega (arith, c.min-count.ensures)))
    ∙ ap (take count) whole in
    filled out left c.copy_out.new.out c.fill.new.self count is front (c.fill.ensures.after (λ y e. e))
