use Rattle.std.proofs.Common.{◌≡◌, ◌*◌, take, arith}
use Rattle.stream_law.specs.Equaliser.{sections_of}
use Rattle.eq_blob.specs.WordBytes.{bytes_of_words}
use Rattle.eq_biquad.proofs.StretchLaws.{goes-of, outside-all}
use Rattle.eq_biquad.proofs.passing.pass_alone.Goals as goal

pub returns-clause-lane : goal.returns-clause-lane
returns-clause-lane c =
    let b = take c.args.len (bytes_of_words c.args.blob.now) in let at = c.args.at in let found = c.sections_found-found.result in
    goes-of b (sections_of b at.channel) (4 * found.place) (8 * (8 * at.channel)) found.count (64 * at.channel) at.channels at.channel at.frames c.args.numbers.now c.args.samples.now c.pass_stretch.new.numbers c.pass_stretch.new.samples
    c.sections_found-found.ensures.sections (let e : 8 * (8 * at.channel) ≡ 64 * at.channel = omega arith in e) c.pass_stretch.ensures.lane

pub returns-clause-elsewhere : goal.returns-clause-elsewhere
returns-clause-elsewhere c = λ i out. c.pass_stretch.ensures.elsewhere i (outside-all c.args.at.channel c.sections_found-found.result.count i c.sections_found-found.ensures.within.few out)
