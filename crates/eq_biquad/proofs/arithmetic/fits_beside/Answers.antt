use Rattle.std.proofs.Common.{◌≡◌, arith, rules, nat_abs}
use Rattle.eq_biquad.proofs.arithmetic.fits_beside.Goals as goal

pub returns-then-even-lt4294967296-clause-beside : goal.returns-then-even-lt4294967296-clause-beside
returns-then-even-lt4294967296-clause-beside c = λ so.
    let s = c.args.section.now in
    let b0 : c.size.result ≡ nat_abs s.b0 = search rules in
    let a1 : c.size-2.result ≡ nat_abs s.a1 = search rules in
    let narrow = c.is_narrow.ensures so in
    record {
      ahead = narrow.ahead;
      all = narrow.all;
      even = omega (arith, b0, a1, c.if-even-lt4294967296.true);
      shift = c.requires;
    }
