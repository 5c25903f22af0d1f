use Rattle.std.proofs.Common.{◌+◌, ◌-◌, ◌*◌, ◌≤◌, ℕ, get_or, drop, arith, sym, ap, ◌∙◌}
use Rattle.sof_script.specs.ValueForms.{digits_behind}
use Rattle.sof_script.proofs.ValueLaws.{digits_more, digits_stop, digits_large, digits_end}
use Rattle.sof_script.proofs.values.digits.Goals as goal

pub returns-then-not-is_decimal : goal.returns-then-not-is_decimal
returns-then-not-is_decimal c = λ n is.
    let none = digits_stop c.args.bytes.now c.loop-byte.byte-index c.loop-byte.number c.loop-byte.invariant.so_far c.loop-byte-test.true (sym c.is_decimal.ensures ∙ c.if-not-is_decimal.true) in
    absurd (cc (sym none ∙ is))

pub returns-then-number-gt4294967295 : goal.returns-then-number-gt4294967295
returns-then-number-gt4294967295 c = λ n is.
    let i = c.loop-byte.byte-index in
    let bytes = c.args.bytes.now in
    let more = digits_more bytes i c.loop-byte.number c.loop-byte.invariant.so_far c.loop-byte-test.true (sym c.is_decimal.ensures ∙ c.if-not-is_decimal.false) in
    let large : c.loop-byte.number * 10 + (get_or bytes i 0 - 48) ≤ n = digits_large bytes (drop (i + 1) bytes) (c.loop-byte.number * 10 + (get_or bytes i 0 - 48)) n more is in
    omega (arith, c.from.ensures, c.if-number-gt4294967295.true, large)

pub loop-byte-preserved : goal.loop-byte-preserved
loop-byte-preserved c =
    let i = c.loop-byte.byte-index in
    let bytes = c.args.bytes.now in
    let more = digits_more bytes i c.loop-byte.number c.loop-byte.invariant.so_far c.loop-byte-test.true (sym c.is_decimal.ensures ∙ c.if-not-is_decimal.false) in
    record {
      so_far = more ∙ ap (λ (d : ℕ). digits_behind (c.loop-byte.number * 10 + d) (drop (i + 1) bytes)) (sym c.from.ensures);
      small = omega arith;
    }

pub returns : goal.returns
returns c = digits_end c.args.bytes.now c.loop-byte.byte-index c.loop-byte.number c.loop-byte.invariant.so_far c.loop-byte-test.false
