use Rattle.std.proofs.Common.{◌≡◌, ◌+◌, arith, rules, leb-true, nat_abs}
use Rattle.eq_biquad.proofs.arithmetic.is_narrow.Goals as goal

pub returns-then-unsigned_abs-le9223372035781033984 : goal.returns-then-unsigned_abs-le9223372035781033984
returns-then-unsigned_abs-le9223372035781033984 c = λ le.
    let s = c.args.section.now in
    let b2 : c.size.result ≡ nat_abs s.b2 = search rules in
    let a2 : c.size-2.result ≡ nat_abs s.a2 = search rules in
    let b1 : c.size-3.result ≡ nat_abs s.b1 = search rules in
    let b0 : c.size-4.result ≡ nat_abs s.b0 = search rules in
    let a1 : c.size-5.result ≡ nat_abs s.a1 = search rules in
    let input = c.size-4.ensures.within in
    let ahead = c.if-ahead-lt4294967296.true in
    let all = c.if-all-lt7516192768.true in
    let low = c.if-unsigned_abs-le9223372035781033984.true in
    let one : c.unsigned_abs.result ≡ nat_abs c.args.numbers.first = search rules in
    let two : c.unsigned_abs-then-unsigned_abs-le9223372035781033984.result ≡ nat_abs c.args.numbers.second = search rules in
    let far : c.from.result ≡ c.size.result + c.size-2.result = search rules in
    let below = leb-true _ _ le in
    record {
      ahead = omega (arith, b2, a2, b1, ahead);
      all = omega (arith, b2, a2, b1, b0, a1, all);
      input = omega (arith, b0, input);
      first_within = omega (arith, one, low);
      second_within = omega (arith, two, far, b2, a2, below);
    }
