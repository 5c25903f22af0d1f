use Rattle.std.proofs.Common.{◌≡◌, ap, sym, ◌∙◌, ◌+◌, ◌*◌, ◌<◌, ℤ, pos, take, get_or, arith, rules, w32, FitsSigned, nat_abs, ◌<ℤ◌, ◌≤ℤ◌}
use Rattle.std.proofs.lemmas.Int.{ints, to_z-of_z}
use Rattle.sof_base.specs.Slots.{word_at}
use Rattle.stream_law.specs.Equaliser.{sections_of}
use Rattle.sof_base.specs.Blob as form
use Rattle.eq_blob.specs.WordBytes.{bytes_of_words}
use Rattle.eq_blob.proofs.ByteLaws.{length-blob}
use Rattle.sof_base.proofs.BlobLaws.{sound}
use Rattle.eq_biquad.proofs.Lookups.{empty-blob, no-channel, a-channel, word-assigned, is-assigned, negative-none, response-found, found-within}
use Rattle.eq_biquad.proofs.lookup.find_sections.Goals as goal

pub returns-then-len-eq0-clause-sections : goal.returns-then-len-eq0-clause-sections
returns-then-len-eq0-clause-sections c = sym (ap (λ n. sections_of (take n (bytes_of_words c.args.blob.now)) c.args.channel) c.if-len-eq0.true ∙ empty-blob c.args.channel)

pub count_at-requires : goal.count_at-requires
count_at-requires c =
    let b = take c.args.len (bytes_of_words c.args.blob.now) in let is = sound b (c.requires.blob (omega (arith, c.if-len-eq0.false))) in
    (omega (arith, is.long, length-blob c.args.blob.now c.args.len (omega (arith, c.requires.words))), omega (arith, c.requires.words))

pub returns-then-channel-count_at-clause-sections : goal.returns-then-channel-count_at-clause-sections
returns-then-channel-count_at-clause-sections c =
    sym (no-channel (take c.args.len (bytes_of_words c.args.blob.now)) c.args.channel (omega (arith, c.if-channel-count_at.true, c.count_at.ensures)))

pub overflow_add-assignment : goal.overflow_add-assignment
overflow_add-assignment c =
    let b = take c.args.len (bytes_of_words c.args.blob.now) in let is = sound b (c.requires.blob (omega (arith, c.if-len-eq0.false))) in
    record { fits = omega (arith, c.if-channel-count_at.false, c.count_at.ensures, is.few_channels) }

pub offset_bounds-blob-channel : goal.offset_bounds-blob-channel
offset_bounds-blob-channel c =
    let b = take c.args.len (bytes_of_words c.args.blob.now) in let is = sound b (c.requires.blob (omega (arith, c.if-len-eq0.false))) in
    record { fits = omega (arith, c.if-channel-count_at.false, c.count_at.ensures, is.few_channels) }

pub bounds-blob-channel : goal.bounds-blob-channel
bounds-blob-channel c =
    let b = take c.args.len (bytes_of_words c.args.blob.now) in let is = sound b (c.requires.blob (omega (arith, c.if-len-eq0.false))) in
    omega (arith, c.if-channel-count_at.false, c.count_at.ensures, is.few_channels, c.requires.words)

pub returns-then-assignment-lt0-clause-sections : goal.returns-then-assignment-lt0-clause-sections
returns-then-assignment-lt0-clause-sections c =
    let ws = c.args.blob.now in let k = c.args.channel in let len = c.args.len in
    let b = take len (bytes_of_words ws) in let is = sound b (c.requires.blob (omega (arith, c.if-len-eq0.false))) in
    let v : ℤ = get_or ws (15 + k) (pos 0) in
    let fit : FitsSigned w32 v = search rules in
    let low : k < word_at b 36 = omega (arith, c.if-channel-count_at.false, c.count_at.ensures) in
    let negative : v <ℤ pos 0 = omega (arith, ints, c.if-assignment-lt0.true) in
    sym (a-channel b k v low (word-assigned ws len k c.requires.words.0 c.requires.words.1 is low fit) ∙ negative-none b v negative)

pub response_at-place-requires-clause-there : goal.response_at-place-requires-clause-there
response_at-place-requires-clause-there c =
    let ws = c.args.blob.now in let k = c.args.channel in let len = c.args.len in
    let b = take len (bytes_of_words ws) in let is = sound b (c.requires.blob (omega (arith, c.if-len-eq0.false))) in
    let v : ℤ = get_or ws (15 + k) (pos 0) in
    let fit : FitsSigned w32 v = search rules in
    let low : k < word_at b 36 = omega (arith, c.if-channel-count_at.false, c.count_at.ensures) in
    let positive : pos 0 ≤ℤ v = omega (arith, ints, c.if-assignment-lt0.false) in
    let a = is-assigned ws len k c.requires.words.0 c.requires.words.1 is low fit positive in
    omega (arith, a.1, ap nat_abs (to_z-of_z w32 v fit))

pub overflow_add-result : goal.overflow_add-result
overflow_add-result c =
    let ws = c.args.blob.now in let k = c.args.channel in let len = c.args.len in
    let b = take len (bytes_of_words ws) in let is = sound b (c.requires.blob (omega (arith, c.if-len-eq0.false))) in
    let v : ℤ = get_or ws (15 + k) (pos 0) in
    let fit : FitsSigned w32 v = search rules in
    let low : k < word_at b 36 = omega (arith, c.if-channel-count_at.false, c.count_at.ensures) in
    let positive : pos 0 ≤ℤ v = omega (arith, ints, c.if-assignment-lt0.false) in
    let a = is-assigned ws len k c.requires.words.0 c.requires.words.1 is low fit positive in
    let at : 4 * c.response_at-place.result ≡ form.response_at b (nat_abs v) = c.response_at-place.ensures ∙ ap (λ z. form.response_at b (nat_abs z)) (to_z-of_z w32 v fit) in
    let counts = is.counts (nat_abs v) a.1 in
    record { fits = omega (arith, at, counts.0, is.long) }

pub count_at-requires-2 : goal.count_at-requires-2
count_at-requires-2 c =
    let ws = c.args.blob.now in let k = c.args.channel in let len = c.args.len in
    let b = take len (bytes_of_words ws) in let is = sound b (c.requires.blob (omega (arith, c.if-len-eq0.false))) in
    let v : ℤ = get_or ws (15 + k) (pos 0) in
    let fit : FitsSigned w32 v = search rules in
    let low : k < word_at b 36 = omega (arith, c.if-channel-count_at.false, c.count_at.ensures) in
    let positive : pos 0 ≤ℤ v = omega (arith, ints, c.if-assignment-lt0.false) in
    let a = is-assigned ws len k c.requires.words.0 c.requires.words.1 is low fit positive in
    let at : 4 * c.response_at-place.result ≡ form.response_at b (nat_abs v) = c.response_at-place.ensures ∙ ap (λ z. form.response_at b (nat_abs z)) (to_z-of_z w32 v fit) in
    let counts = is.counts (nat_abs v) a.1 in
    (omega (arith, at, counts.0, length-blob ws len (omega (arith, c.requires.words))), omega (arith, c.requires.words))

pub returns-clause-sections : goal.returns-clause-sections
returns-clause-sections c =
    let ws = c.args.blob.now in let k = c.args.channel in let len = c.args.len in
    let b = take len (bytes_of_words ws) in let is = sound b (c.requires.blob (omega (arith, c.if-len-eq0.false))) in
    let v : ℤ = get_or ws (15 + k) (pos 0) in
    let fit : FitsSigned w32 v = search rules in
    let low : k < word_at b 36 = omega (arith, c.if-channel-count_at.false, c.count_at.ensures) in
    let positive : pos 0 ≤ℤ v = omega (arith, ints, c.if-assignment-lt0.false) in
    let a = is-assigned ws len k c.requires.words.0 c.requires.words.1 is low fit positive in
    let at : 4 * c.response_at-place.result ≡ form.response_at b (nat_abs v) = c.response_at-place.ensures ∙ ap (λ z. form.response_at b (nat_abs z)) (to_z-of_z w32 v fit) in
    let counts = is.counts (nat_abs v) a.1 in
    response-found b k (nat_abs v) c.response_at-place.result c.count_at-2.result low a.0 at c.count_at-2.ensures

pub returns-clause-within : goal.returns-clause-within
returns-clause-within c =
    let ws = c.args.blob.now in let k = c.args.channel in let len = c.args.len in
    let b = take len (bytes_of_words ws) in let is = sound b (c.requires.blob (omega (arith, c.if-len-eq0.false))) in
    let v : ℤ = get_or ws (15 + k) (pos 0) in
    let fit : FitsSigned w32 v = search rules in
    let low : k < word_at b 36 = omega (arith, c.if-channel-count_at.false, c.count_at.ensures) in
    let positive : pos 0 ≤ℤ v = omega (arith, ints, c.if-assignment-lt0.false) in
    let a = is-assigned ws len k c.requires.words.0 c.requires.words.1 is low fit positive in
    let at : 4 * c.response_at-place.result ≡ form.response_at b (nat_abs v) = c.response_at-place.ensures ∙ ap (λ z. form.response_at b (nat_abs z)) (to_z-of_z w32 v fit) in
    let counts = is.counts (nat_abs v) a.1 in
    found-within b is (nat_abs v) c.response_at-place.result c.count_at-2.result a.1 at c.count_at-2.ensures
