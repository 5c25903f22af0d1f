use Rattle.std.proofs.Common.{◌≡◌, subst, ◌+◌, ◌-◌, ◌*◌, ℕ, min, take, arith}
use Rattle.stream_law.specs.Equaliser.{sections_of}
use Rattle.eq_blob.specs.WordBytes.{bytes_of_words}
use Rattle.eq_blob.proofs.ByteLaws.{length-blob}
use Rattle.eq_biquad.proofs.StretchLaws.{PairPasses, goes-moved, goes-of, part-within, outside-part, outside-pair, pair-none, pair-more}
use Rattle.eq_biquad.proofs.passing.pass_pair.Goals as goal

pub loop-s-init : goal.loop-s-init
loop-s-init c =
    let b = take c.args.len (bytes_of_words c.args.blob.now) in let at = c.args.at in let left = c.sections_found-left.result in let right = c.sections_found-right.result in
    let none : 0 ≡ min left.count (2 * 0) = omega arith in let none_right : 0 ≡ min right.count (2 * 0) = omega arith in
    subst (λ (v : ℕ × ℕ). PairPasses b (4 * left.place) (4 * right.place) (64 * at.channel) at.channels at.channel at.frames c.args.numbers.now c.args.samples.now c.args.numbers.now c.args.samples.now v.0 v.1) (λ i. (none i, none_right i))
    (pair-none b (4 * left.place) (4 * right.place) (64 * at.channel) at.channels at.channel at.frames c.args.numbers.now c.args.samples.now c.requires.numbers)

pub two_of-one-requires : goal.two_of-one-requires
two_of-one-requires c =
    let all = c.sections_found-left.ensures.within in let long = length-blob c.args.blob.now c.args.len (omega (arith, c.requires.words)) in
    (all.few, (omega (arith, all.bytes, long, c.requires.words), (omega (arith, c.requires.lane), omega (arith, c.loop-s-test.true, c.loop-s.auto.s-end))))

pub two_of-other-requires : goal.two_of-other-requires
two_of-other-requires c =
    let all = c.sections_found-right.ensures.within in let long = length-blob c.args.blob.now c.args.len (omega (arith, c.requires.words)) in
    (all.few, (omega (arith, all.bytes, long, c.requires.words), (omega (arith, c.requires.lane), omega (arith, c.loop-s-test.true, c.loop-s.auto.s-end))))

pub pass_two-requires-clause-left : goal.pass_two-requires-clause-left
pass_two-requires-clause-left c =
    let b = take c.args.len (bytes_of_words c.args.blob.now) in let found = c.sections_found-left.result in
    part-within b found c.two_of-one.result.found (min found.count (2 * c.loop-s.s)) c.sections_found-left.ensures.within (omega (arith, c.two_of-one.ensures.count)) c.two_of-one.ensures.place

pub pass_two-requires-clause-right : goal.pass_two-requires-clause-right
pass_two-requires-clause-right c =
    let b = take c.args.len (bytes_of_words c.args.blob.now) in let found = c.sections_found-right.result in
    part-within b found c.two_of-other.result.found (min found.count (2 * c.loop-s.s)) c.sections_found-right.ensures.within (omega (arith, c.two_of-other.ensures.count)) c.two_of-other.ensures.place

pub pass_two-requires-clause-slots : goal.pass_two-requires-clause-slots
pass_two-requires-clause-slots c =
    let left = c.sections_found-left.ensures.within.few in let right = c.sections_found-right.ensures.within.few in
    (omega (arith, left, c.two_of-one.ensures.count, c.two_of-one.ensures.slot, c.two_of-other.ensures.slot), omega (arith, right, c.requires.lane, c.two_of-other.ensures.count, c.two_of-other.ensures.slot))

pub loop-s-preserved : goal.loop-s-preserved
loop-s-preserved c =
    let b = take c.args.len (bytes_of_words c.args.blob.now) in let at = c.args.at in let s = c.loop-s.s in
    let left = c.sections_found-left.result in let right = c.sections_found-right.result in let one = c.two_of-one.result in let other = c.two_of-other.result in
    let few = c.sections_found-left.ensures.within.few in let few_right = c.sections_found-right.ensures.within.few in
    let p : ℕ = 4 * left.place in let q : ℕ = 4 * right.place in let base : ℕ = 64 * at.channel in
    let before : ℕ = min left.count (2 * s) in let before_right : ℕ = min right.count (2 * s) in
    let more : ℕ = min (left.count - before) 2 in let more_right : ℕ = min (right.count - before_right) 2 in
    let after = c.pass_two.ensures in
    let words = c.loop-s.numbers in let samples = c.loop-s.samples in let words' = c.pass_two.new.numbers in let samples' = c.pass_two.new.samples in
    let slot : 8 * one.slot ≡ base + 8 * before = omega (arith, c.two_of-one.ensures.slot) in
    let slot_right : 8 * other.slot ≡ base + 64 + 8 * before_right = omega (arith, c.two_of-other.ensures.slot) in
    let goes = goes-moved b (4 * one.found.place) (8 * one.slot) one.found.count (p + 28 * before) (base + 8 * before) more at.channels at.channel at.frames words samples words' samples'
    (omega (arith, c.two_of-one.ensures.place)) slot c.two_of-one.ensures.count after.left in
    let goes_right = goes-moved b (4 * other.found.place) (8 * other.slot) other.found.count (q + 28 * before_right) (base + 64 + 8 * before_right) more_right at.channels (at.channel + 1) at.frames words samples words' samples'
    (omega (arith, c.two_of-other.ensures.place)) slot_right c.two_of-other.ensures.count after.right in
    let next : before + more ≡ min left.count (2 * (s + 1)) = omega arith in let next_right : before_right + more_right ≡ min right.count (2 * (s + 1)) = omega arith in
    subst (λ (v : ℕ × ℕ). PairPasses b p q base at.channels at.channel at.frames c.args.numbers.now c.args.samples.now words' samples' v.0 v.1) (λ i. (next i, next_right i))
    (pair-more b p q base at.channels at.channel at.frames c.args.numbers.now c.args.samples.now words samples words' samples' before before_right more more_right (omega (arith, few)) (omega (arith, few_right)) c.loop-s.invariant goes goes_right
    after.others
    (λ i out out'. after.elsewhere i (outside-part one.slot one.found.count (base + 8 * before) more i slot c.two_of-one.ensures.count out) (outside-part other.slot other.found.count (base + 64 + 8 * before_right) more_right i slot_right c.two_of-other.ensures.count out'))
    after.within
    c.pass_two.auto.samples)

pub returns-clause-left : goal.returns-clause-left
returns-clause-left c =
    let b = take c.args.len (bytes_of_words c.args.blob.now) in let at = c.args.at in let s = c.loop-s.s in let found = c.sections_found-left.result in
    let few = c.sections_found-left.ensures.within.few in
    let all : min found.count (2 * s) ≡ found.count = omega (arith, few, c.loop-s-test.false, c.loop-s.auto.s-end) in
    let p : ℕ = 4 * found.place in let base : ℕ = 64 * at.channel in
    goes-of b (sections_of b at.channel) p base found.count base at.channels at.channel at.frames c.args.numbers.now c.args.samples.now c.loop-s.numbers c.loop-s.samples c.sections_found-left.ensures.sections (λ i. base)
    (goes-moved b p base (min found.count (2 * s)) p base found.count at.channels at.channel at.frames c.args.numbers.now c.args.samples.now c.loop-s.numbers c.loop-s.samples (λ i. p) (λ i. base) all c.loop-s.invariant.left)

pub returns-clause-right : goal.returns-clause-right
returns-clause-right c =
    let b = take c.args.len (bytes_of_words c.args.blob.now) in let at = c.args.at in let s = c.loop-s.s in let found = c.sections_found-right.result in
    let few = c.sections_found-right.ensures.within.few in
    let all : min found.count (2 * s) ≡ found.count = omega (arith, few, c.loop-s-test.false, c.loop-s.auto.s-end) in
    let p : ℕ = 4 * found.place in let base : ℕ = 64 * at.channel + 64 in
    goes-of b (sections_of b (at.channel + 1)) p base found.count (64 * (at.channel + 1)) at.channels (at.channel + 1) at.frames c.args.numbers.now c.args.samples.now c.loop-s.numbers c.loop-s.samples c.sections_found-right.ensures.sections (let e : base ≡ 64 * (at.channel + 1) = omega arith in e)
    (goes-moved b p base (min found.count (2 * s)) p base found.count at.channels (at.channel + 1) at.frames c.args.numbers.now c.args.samples.now c.loop-s.numbers c.loop-s.samples (λ i. p) (λ i. base) all c.loop-s.invariant.right)

pub returns-clause-elsewhere : goal.returns-clause-elsewhere
returns-clause-elsewhere c = λ i out.
    let s = c.loop-s.s in let left = c.sections_found-left.result in let right = c.sections_found-right.result in
    let few = c.sections_found-left.ensures.within.few in let few_right = c.sections_found-right.ensures.within.few in
    let apart = outside-pair (64 * c.args.at.channel) (min left.count (2 * s)) (min right.count (2 * s)) i (omega (arith, few)) (omega (arith, few_right)) out in
    c.loop-s.invariant.elsewhere i apart.0 apart.1
