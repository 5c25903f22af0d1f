use Rattle.std.proofs.Common.{◌≡◌, subst, ◌+◌, ◌-◌, ◌*◌, ◌/◌, ◌≤◌, ℕ, length, take, arith}
use Rattle.std.proofs.Math.Nat.{mod-add-div}
use Rattle.eq_blob.specs.WordBytes.{bytes_of_words}
use Rattle.eq_biquad.proofs.Lookups.{few-all}
use Rattle.eq_biquad.proofs.StepLaws.{Passed_lanes, lanes-none, lanes-more, lanes-both, lanes-samples, lanes-numbers}
use Rattle.eq_biquad.proofs.passing.pass_channels.Goals as goal

pub loop-pair-init : goal.loop-pair-init
loop-pair-init c =
    let b = take c.args.len (bytes_of_words c.args.blob.now) in let n : ℕ = length c.args.samples.now / c.args.channels in
    lanes-none b c.args.channels n c.args.numbers.now c.args.samples.now c.requires.numbers

pub loop-pair-preserved : goal.loop-pair-preserved
loop-pair-preserved c =
    let b = take c.args.len (bytes_of_words c.args.blob.now) in let n : ℕ = length c.args.samples.now / c.args.channels in let k : ℕ = 2 * c.loop-pair.pair in
    let after = c.pass_pair.ensures in let next : k + 2 ≡ 2 * (c.loop-pair.pair + 1) = omega arith in
    subst (Passed_lanes b c.args.channels n c.args.numbers.now c.args.samples.now c.pass_pair.new.numbers c.pass_pair.new.samples) next
    (lanes-both b c.args.channels n c.args.numbers.now c.args.samples.now c.loop-pair.numbers c.loop-pair.samples c.pass_pair.new.numbers c.pass_pair.new.samples k c.loop-pair.invariant
    (omega (arith, c.loop-pair-test.true, c.loop-pair.auto.pair-end)) (few-all c.args.blob.now c.args.len c.requires.blob) after.left after.right after.others after.elsewhere after.within c.pass_pair.auto.samples)

pub returns-then-channels-eq1-clause-samples : goal.returns-then-channels-eq1-clause-samples
returns-then-channels-eq1-clause-samples c =
    let b = take c.args.len (bytes_of_words c.args.blob.now) in let channels = c.args.channels in let n : ℕ = length c.args.samples.now / channels in
    let whole : length c.args.samples.now ≡ n * channels = omega (arith, mod-add-div (length c.args.samples.now) channels, c.requires.whole) in
    let k : ℕ = channels - 1 in let after = c.pass_alone.ensures in let few = few-all c.args.blob.now c.args.len c.requires.blob in
    let last : 2 * c.loop-pair.pair ≡ k = omega (arith, c.loop-pair-test.false, c.loop-pair.auto.pair-end, c.if-channels-eq1.true) in
    let so = lanes-more b channels n c.args.numbers.now c.args.samples.now c.loop-pair.numbers c.loop-pair.samples c.pass_alone.new.numbers c.pass_alone.new.samples k
    (subst (Passed_lanes b channels n c.args.numbers.now c.args.samples.now c.loop-pair.numbers c.loop-pair.samples) last c.loop-pair.invariant)
    (omega (arith, c.requires.channels)) (few k) few after.lane.samples after.lane.numbers after.others after.elsewhere after.within c.pass_alone.auto.samples in
    lanes-samples b channels n c.args.numbers.now c.args.samples.now c.pass_alone.new.numbers c.pass_alone.new.samples (k + 1) so (omega arith) c.requires.channels.0 whole

pub returns-then-channels-eq1-clause-numbers : goal.returns-then-channels-eq1-clause-numbers
returns-then-channels-eq1-clause-numbers c =
    let b = take c.args.len (bytes_of_words c.args.blob.now) in let channels = c.args.channels in let n : ℕ = length c.args.samples.now / channels in
    let whole : length c.args.samples.now ≡ n * channels = omega (arith, mod-add-div (length c.args.samples.now) channels, c.requires.whole) in
    let k : ℕ = channels - 1 in let after = c.pass_alone.ensures in let few = few-all c.args.blob.now c.args.len c.requires.blob in
    let last : 2 * c.loop-pair.pair ≡ k = omega (arith, c.loop-pair-test.false, c.loop-pair.auto.pair-end, c.if-channels-eq1.true) in
    let so = lanes-more b channels n c.args.numbers.now c.args.samples.now c.loop-pair.numbers c.loop-pair.samples c.pass_alone.new.numbers c.pass_alone.new.samples k
    (subst (Passed_lanes b channels n c.args.numbers.now c.args.samples.now c.loop-pair.numbers c.loop-pair.samples) last c.loop-pair.invariant)
    (omega (arith, c.requires.channels)) (few k) few after.lane.samples after.lane.numbers after.others after.elsewhere after.within c.pass_alone.auto.samples in
    lanes-numbers b channels n c.args.numbers.now c.args.samples.now c.pass_alone.new.numbers c.pass_alone.new.samples (k + 1) so (omega arith)

pub returns-else-channels-eq1-clause-samples : goal.returns-else-channels-eq1-clause-samples
returns-else-channels-eq1-clause-samples c =
    let b = take c.args.len (bytes_of_words c.args.blob.now) in let channels = c.args.channels in let n : ℕ = length c.args.samples.now / channels in
    let whole : length c.args.samples.now ≡ n * channels = omega (arith, mod-add-div (length c.args.samples.now) channels, c.requires.whole) in
    let last : channels ≤ 2 * c.loop-pair.pair = omega (arith, c.loop-pair-test.false, c.loop-pair.auto.pair-end, c.if-channels-eq1.false) in
    lanes-samples b channels n c.args.numbers.now c.args.samples.now c.loop-pair.numbers c.loop-pair.samples (2 * c.loop-pair.pair) c.loop-pair.invariant last c.requires.channels.0 whole

pub returns-else-channels-eq1-clause-numbers : goal.returns-else-channels-eq1-clause-numbers
returns-else-channels-eq1-clause-numbers c =
    let b = take c.args.len (bytes_of_words c.args.blob.now) in let channels = c.args.channels in let n : ℕ = length c.args.samples.now / channels in
    let whole : length c.args.samples.now ≡ n * channels = omega (arith, mod-add-div (length c.args.samples.now) channels, c.requires.whole) in
    let last : channels ≤ 2 * c.loop-pair.pair = omega (arith, c.loop-pair-test.false, c.loop-pair.auto.pair-end, c.if-channels-eq1.false) in
    lanes-numbers b channels n c.args.numbers.now c.args.samples.now c.loop-pair.numbers c.loop-pair.samples (2 * c.loop-pair.pair) c.loop-pair.invariant last
