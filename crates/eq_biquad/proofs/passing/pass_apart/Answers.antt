use Rattle.std.proofs.Common.{◌*◌, inl, inr, ◌∙◌, take, arith}
use Rattle.eq_blob.specs.WordBytes.{bytes_of_words}
use Rattle.eq_biquad.specs.Stretches.{sections_at}
use Rattle.eq_biquad.proofs.StretchLaws.{stays-left, was-right, only-two}
use Rattle.eq_biquad.proofs.passing.pass_apart.Goals as goal

pub returns-clause-left : goal.returns-clause-left
returns-clause-left c =
    let b = take c.args.len (bytes_of_words c.args.blob.now) in let at = c.args.at in let left = c.args.left in
    stays-left at.channels at.channel at.frames c.requires.lane.0 c.args.numbers.now c.args.samples.now c.pass_stretch.new.numbers c.pass_stretch.new.samples c.pass_stretch-2.new.numbers c.pass_stretch-2.new.samples
    (sections_at b left) (8 * left.slot) left.found.count c.pass_stretch.ensures.lane c.pass_stretch-2.ensures.others
    (λ i le under. c.pass_stretch-2.ensures.elsewhere i (inl (omega (arith, under, c.requires.slots))))

pub returns-clause-right : goal.returns-clause-right
returns-clause-right c =
    let b = take c.args.len (bytes_of_words c.args.blob.now) in let at = c.args.at in let right = c.args.right in
    was-right at.channels at.channel at.frames c.requires.lane.0 c.args.numbers.now c.args.samples.now c.pass_stretch.new.numbers c.pass_stretch.new.samples c.pass_stretch-2.new.numbers c.pass_stretch-2.new.samples
    (sections_at b right) (8 * right.slot) right.found.count c.pass_stretch-2.ensures.lane c.pass_stretch.ensures.others
    (λ i le under. c.pass_stretch.ensures.elsewhere i (inr (omega (arith, le, c.requires.slots))))

pub returns-clause-others : goal.returns-clause-others
returns-clause-others c =
    let at = c.args.at in
    only-two at.channels at.channel at.frames c.requires.lane.0 c.args.numbers.now c.args.samples.now c.pass_stretch.new.numbers c.pass_stretch.new.samples c.pass_stretch-2.new.numbers c.pass_stretch-2.new.samples
    c.pass_stretch.ensures.others c.pass_stretch-2.ensures.others

pub returns-clause-elsewhere : goal.returns-clause-elsewhere
returns-clause-elsewhere c = λ i out out'. c.pass_stretch-2.ensures.elsewhere i out' ∙ c.pass_stretch.ensures.elsewhere i out
