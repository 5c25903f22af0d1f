use Rattle.std.proofs.Common.{◌≡◌, sym, ap, subst, ◌∙◌, ◌+◌, ◌*◌, ℕ, take, arith}
use Rattle.eq_biquad.specs.PairForms.{series_of, left_series, right_series}
use Rattle.eq_blob.specs.WordBytes.{bytes_of_words}
use Rattle.eq_biquad.specs.PieceWords.{numbers_at}
use Rattle.eq_biquad.specs.Stretches.{IsElsewhere}
use Rattle.eq_blob.proofs.ByteLaws.{length-blob}
use Rattle.eq_biquad.proofs.StretchLaws.{goes-known, shift-within}
use Rattle.eq_biquad.proofs.passing.pass_two.Goals as goal

pub series_at-one-requires : goal.series_at-one-requires
series_at-one-requires c =
    let counts = c.are_pairs.ensures c.if-are_pairs.true in let long = length-blob c.args.blob.now c.args.len (omega (arith, c.requires.words)) in
    (omega (arith, c.requires.left.bytes, long, counts.0), omega (arith, c.requires.words))

pub series_at-other-requires : goal.series_at-other-requires
series_at-other-requires c =
    let counts = c.are_pairs.ensures c.if-are_pairs.true in let long = length-blob c.args.blob.now c.args.len (omega (arith, c.requires.words)) in
    (omega (arith, c.requires.right.bytes, long, counts.1.0), omega (arith, c.requires.words))

pub near_series-requires-clause-there : goal.near_series-requires-clause-there
near_series-requires-clause-there c =
    let counts = c.are_pairs.ensures c.if-are_pairs.true in
    (omega (arith, c.requires.slots, counts.1.0, counts.1.1), omega (arith, c.requires.words))

pub put_series-requires-clause-there : goal.put_series-requires-clause-there
put_series-requires-clause-there c =
    let counts = c.are_pairs.ensures c.if-are_pairs.true in
    (omega (arith, c.requires.slots, counts.1.0, counts.1.1), omega (arith, c.requires.words))

pub put_series-requires-clause-first : goal.put_series-requires-clause-first
put_series-requires-clause-first c = c.pass_both-after.ensures.near.0.parts

pub put_series-requires-clause-second : goal.put_series-requires-clause-second
put_series-requires-clause-second c = c.pass_both-after.ensures.near.1.parts

pub near_series-requires-clause-shifts : goal.near_series-requires-clause-shifts
near_series-requires-clause-shifts c =
    let b = take c.args.len (bytes_of_words c.args.blob.now) in let at = c.args.at in let left = c.args.left in let right = c.args.right in
    let counts = c.are_pairs.ensures c.if-are_pairs.true in
    let one = c.series_at-one.ensures.shifts in let other = c.series_at-other.ensures.shifts in let p : ℕ = 4 * left.found.place in let q : ℕ = 4 * right.found.place in (
      (shift-within b left.found 0 (p + 20) c.series_at-one.result.first.shift c.requires.left (omega (arith, counts.0)) one.0 (omega arith), shift-within b left.found 1 (p + 48) c.series_at-one.result.second.shift c.requires.left (omega (arith, counts.0)) one.1 (omega arith)),
      (shift-within b right.found 0 (q + 20) c.series_at-other.result.first.shift c.requires.right (omega (arith, counts.1.0)) other.0 (omega arith), shift-within b right.found 1 (q + 48) c.series_at-other.result.second.shift c.requires.right (omega (arith, counts.1.0)) other.1 (omega arith)),
    )

pub pass_both-after-requires-clause-beside : goal.pass_both-after-requires-clause-beside
pass_both-after-requires-clause-beside c = c.in-Some.ensures.beside

pub pass_both-after-requires-clause-near : goal.pass_both-after-requires-clause-near
pass_both-after-requires-clause-near c = c.in-Some.ensures.near

pub returns-in-Some-clause-left : goal.returns-in-Some-clause-left
returns-in-Some-clause-left c =
    let b = take c.args.len (bytes_of_words c.args.blob.now) in let at = c.args.at in let left = c.args.left in let right = c.args.right in
    let counts = c.are_pairs.ensures c.if-are_pairs.true in
    let near = c.in-Some.near in let words = c.args.numbers.now in let samples = c.args.samples.now in let words' = c.put_series.new.words in let samples' = c.pass_both-after.new.samples in
    let behind : 8 * left.slot + 64 ≡ 8 * right.slot = omega (arith, counts.1.1) in
    let known : left_series near ≡ numbers_at words (8 * left.slot) 2 = c.in-Some.ensures.left in
    goes-known b (series_of c.series_at-one.result) (left_series near) (left_series c.pass_both-after.result) (4 * left.found.place) (8 * left.slot) left.found.count 2 at.channels at.channel at.frames words samples words' samples'
    c.series_at-one.ensures.sections known counts.0 c.pass_both-after.ensures.left c.put_series.ensures.left c.pass_both-after.ensures.after_left

pub returns-in-Some-clause-right : goal.returns-in-Some-clause-right
returns-in-Some-clause-right c =
    let b = take c.args.len (bytes_of_words c.args.blob.now) in let at = c.args.at in let left = c.args.left in let right = c.args.right in
    let counts = c.are_pairs.ensures c.if-are_pairs.true in
    let near = c.in-Some.near in let words = c.args.numbers.now in let samples = c.args.samples.now in let words' = c.put_series.new.words in let samples' = c.pass_both-after.new.samples in
    let behind : 8 * left.slot + 64 ≡ 8 * right.slot = omega (arith, counts.1.1) in
    let known : right_series near ≡ numbers_at words (8 * left.slot + 64) 2 = c.in-Some.ensures.right in
    goes-known b (series_of c.series_at-other.result) (right_series near) (right_series c.pass_both-after.result) (4 * right.found.place) (8 * right.slot) right.found.count 2 at.channels (at.channel + 1) at.frames words samples words' samples'
    c.series_at-other.ensures.sections (known ∙ ap (λ q. numbers_at words q 2) behind) counts.1.0 c.pass_both-after.ensures.right (ap (λ q. numbers_at words' q 2) (sym behind) ∙ c.put_series.ensures.right) c.pass_both-after.ensures.after_right

pub returns-in-Some-clause-elsewhere : goal.returns-in-Some-clause-elsewhere
returns-in-Some-clause-elsewhere c =
    let left = c.args.left in
    let counts = c.are_pairs.ensures c.if-are_pairs.true in
    λ i out out'. c.put_series.ensures.others i (subst (λ n. IsElsewhere left.slot n i) counts.0 out) (subst (λ (v : ℕ × ℕ). IsElsewhere v.0 v.1 i) (λ i. (counts.1.1 i, counts.1.0 i)) out')
