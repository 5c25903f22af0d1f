use Rattle.std.proofs.Common.{ap, take, arith}
use Rattle.sof_base.specs.Slots.{word_at}
use Rattle.eq_blob.specs.WordBytes.{bytes_of_words}
use Rattle.eq_blob.proofs.ByteLaws.{length-blob}
use Rattle.sof_base.proofs.BlobLaws.{sound}
use Rattle.eq_biquad.proofs.Lookups.{place-more}
use Rattle.eq_biquad.proofs.lookup.response_at.Goals as goal

pub count_at-place-requires : goal.count_at-place-requires
count_at-place-requires c =
    let b = take c.args.len (bytes_of_words c.args.blob.now) in let is = sound b c.requires.blob in
    (omega (arith, is.long, length-blob c.args.blob.now c.args.len (omega (arith, c.requires.words))), omega (arith, c.requires.words))

pub overflow_add-place : goal.overflow_add-place
overflow_add-place c =
    let b = take c.args.len (bytes_of_words c.args.blob.now) in let is = sound b c.requires.blob in
    record { fits = omega (arith, c.count_at-place.ensures, is.few_channels) }

pub overflow_add-place-in-loop : goal.overflow_add-place-in-loop
overflow_add-place-in-loop c =
    let b = take c.args.len (bytes_of_words c.args.blob.now) in let is = sound b c.requires.blob in
    let here = is.counts c.loop.counter (omega (arith, c.loop-test.true, c.loop.auto.counter-end, c.requires.there)) in
    record { fits = omega (arith, c.loop.invariant, here.0, is.long) }

pub count_at-requires : goal.count_at-requires
count_at-requires c =
    let b = take c.args.len (bytes_of_words c.args.blob.now) in let is = sound b c.requires.blob in
    let here = is.counts c.loop.counter (omega (arith, c.loop-test.true, c.loop.auto.counter-end, c.requires.there)) in
    (omega (arith, c.loop.invariant, here.0, length-blob c.args.blob.now c.args.len (omega (arith, c.requires.words))), omega (arith, c.requires.words))

pub overflow_mul-place : goal.overflow_mul-place
overflow_mul-place c =
    let b = take c.args.len (bytes_of_words c.args.blob.now) in let is = sound b c.requires.blob in
    let here = is.counts c.loop.counter (omega (arith, c.loop-test.true, c.loop.auto.counter-end, c.requires.there)) in
    record { fits = omega (arith, here.2, c.count_at.ensures, ap (word_at b) c.loop.invariant) }

pub overflow_add-place-in-loop-2 : goal.overflow_add-place-in-loop-2
overflow_add-place-in-loop-2 c =
    let b = take c.args.len (bytes_of_words c.args.blob.now) in let is = sound b c.requires.blob in
    let here = is.counts c.loop.counter (omega (arith, c.loop-test.true, c.loop.auto.counter-end, c.requires.there)) in
    record { fits = omega (arith, c.loop.invariant, here.0, is.long, here.2, c.count_at.ensures, ap (word_at b) c.loop.invariant) }

pub loop-preserved : goal.loop-preserved
loop-preserved c =
    let b = take c.args.len (bytes_of_words c.args.blob.now) in let is = sound b c.requires.blob in
    place-more b c.loop.place c.loop.counter c.count_at.result c.loop.invariant c.count_at.ensures
