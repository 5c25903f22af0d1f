use Rattle.std.proofs.Common.{◌≡◌, ap, sym, subst, ◌∙◌, ◌/◌, ℤ, List, length, take, arith, take_at, drop_at, length-take}
use Rattle.std.proofs.lemmas.List.{take-take}
use Rattle.sof_base.specs.BlobParts.{IsBlob}
use Rattle.stream_law.specs.Equaliser.{passed_frames, numbers_after}
use Rattle.eq_blob.specs.WordBytes.{bytes_of_words}
use Rattle.eq_biquad.specs.PieceWords.{words_from, AreNumbers}
use Rattle.sof_base.specs.FrameLists.{frames_of, samples_of}
use Rattle.eq_biquad.specs.Passing.{in_turn, channel_numbers}
use Rattle.eq_biquad.proofs.PartLaws.{from-same}
use Rattle.eq_biquad.proofs.equaliser.run_words.Goals as goal

pub pass_channels-requires-clause-blob : goal.pass_channels-requires-clause-blob
pass_channels-requires-clause-blob c = λ some.
    let ws = c.args.words.now in let front = c.split_at_mut-front.result.0.now in
    let same : take 528 front ≡ take 528 ws = ap (take 528) c.split_at_mut-front.ensures.front ∙ take-take 528 528 ws (omega arith) in
    subst (λ (l : List ℤ). IsBlob (take c.args.len (bytes_of_words l))) (sym (from-same 528 16 256 front ws (omega arith) same)) (c.requires.blob some)

pub returns-clause-samples : goal.returns-clause-samples
returns-clause-samples c =
    let ws = c.args.words.now in let front = c.split_at_mut-front.result.0.now in let n = c.args.channels in
    let same : take 528 front ≡ take 528 ws = ap (take 528) c.split_at_mut-front.ensures.front ∙ take-take 528 528 ws (omega arith) in
    let blob : take c.args.len (bytes_of_words (words_from 16 256 front)) ≡ take c.args.len (bytes_of_words (words_from 16 256 ws)) = ap (λ (l : List ℤ). take c.args.len (bytes_of_words l)) (from-same 528 16 256 front ws (omega arith) same) in
    c.pass_channels.ensures.samples
    ∙ (λ i. samples_of (passed_frames (blob i) n (in_turn 0 (channel_numbers (blob i) (c.split_at_mut-front.ensures.back i)) n) (frames_of n (length c.args.samples.now / n) c.args.samples.now)))

pub returns-clause-numbers : goal.returns-clause-numbers
returns-clause-numbers c =
    let ws = c.args.words.now in let front = c.split_at_mut-front.result.0.now in let n = c.args.channels in let new = c.pass_channels.new.numbers in
    let same : take 528 front ≡ take 528 ws = ap (take 528) c.split_at_mut-front.ensures.front ∙ take-take 528 528 ws (omega arith) in
    let blob : take c.args.len (bytes_of_words (words_from 16 256 front)) ≡ take c.args.len (bytes_of_words (words_from 16 256 ws)) = ap (λ (l : List ℤ). take c.args.len (bytes_of_words l)) (from-same 528 16 256 front ws (omega arith) same) in
    let long : length front ≡ 528 = omega (arith, ap length c.split_at_mut-front.ensures.front, length-take 528 ws, c.requires.words) in
    (λ i. in_turn 0 (channel_numbers (sym blob i) (drop_at front new 528 long i)) n)
    ∙ c.pass_channels.ensures.numbers
    ∙ (λ i. numbers_after (blob i) n (in_turn 0 (channel_numbers (blob i) (c.split_at_mut-front.ensures.back i)) n) (frames_of n (length c.args.samples.now / n) c.args.samples.now))

pub returns-clause-before : goal.returns-clause-before
returns-clause-before c =
    let ws = c.args.words.now in let front = c.split_at_mut-front.result.0.now in
    let long : length front ≡ 528 = omega (arith, ap length c.split_at_mut-front.ensures.front, length-take 528 ws, c.requires.words) in
    take_at front c.pass_channels.new.numbers 528 long ∙ c.split_at_mut-front.ensures.front

pub returns-clause-within : goal.returns-clause-within
returns-clause-within c =
    let ws = c.args.words.now in let front = c.split_at_mut-front.result.0.now in
    let long : length front ≡ 528 = omega (arith, ap length c.split_at_mut-front.ensures.front, length-take 528 ws, c.requires.words) in
    subst AreNumbers (sym (drop_at front c.pass_channels.new.numbers 528 long)) c.pass_channels.ensures.within
