use Rattle.std.proofs.Common.{◌∙◌, [], ◌∷◌, arith}
use Rattle.eq_blob.specs.Sections.{law_section}
use Rattle.eq_biquad.proofs.NumberLaws.{slot-bound, slot-bound-at}
use Rattle.eq_biquad.proofs.PairNumbers.{begun-left, begun-right, begun-both}
use Rattle.eq_biquad.proofs.pair_numbers.near_pair.Goals as goal

pub numbers_in-one-requires-clause-within : goal.numbers_in-one-requires-clause-within
numbers_in-one-requires-clause-within c =
    let low = slot-bound-at c.args.words.now c.requires.numbers c.args.slot (omega (arith, c.requires.there)) in
    (low.0, omega (arith, low.1))

pub numbers_in-other-requires-clause-within : goal.numbers_in-other-requires-clause-within
numbers_in-other-requires-clause-within c =
    let low = slot-bound c.args.words.now c.requires.numbers c.args.slot 8 (omega (arith, c.requires.there)) in
    (low.0, omega (arith, low.1))

pub returns-then-right_fits-clause-left : goal.returns-then-right_fits-clause-left
returns-then-right_fits-clause-left c =
    let one = c.numbers_in-one.result in let other = c.numbers_in-other.result in let near = c.parts_of.result in let parts = c.parts_of.ensures in
    let s = law_section c.args.left.now in let t = law_section c.args.right.now in
    begun-left s t near one.first other.first one.second other.second parts.ahead parts.fed parts.second ∙ (λ i. c.numbers_in-one.ensures.0 i ∷ c.numbers_in-one.ensures.1 i ∷ [])

pub returns-then-right_fits-clause-right : goal.returns-then-right_fits-clause-right
returns-then-right_fits-clause-right c =
    let one = c.numbers_in-one.result in let other = c.numbers_in-other.result in let near = c.parts_of.result in let parts = c.parts_of.ensures in
    let s = law_section c.args.left.now in let t = law_section c.args.right.now in
    begun-right s t near one.first other.first one.second other.second parts.ahead parts.fed parts.second ∙ (λ i. c.numbers_in-other.ensures.0 i ∷ c.numbers_in-other.ensures.1 i ∷ [])

pub returns-then-right_fits-clause-near : goal.returns-then-right_fits-clause-near
returns-then-right_fits-clause-near c =
    let one = c.numbers_in-one.result in let other = c.numbers_in-other.result in let near = c.parts_of.result in let parts = c.parts_of.ensures in
    let s = law_section c.args.left.now in let t = law_section c.args.right.now in
    begun-both s t near one.first other.first one.second other.second parts.ahead parts.fed parts.second (c.fits_beside-left_fits.ensures.narrow c.if-left_fits.true) (c.fits_beside-right_fits.ensures.narrow c.if-right_fits.true)

pub parts_of-requires-clause-firsts : goal.parts_of-requires-clause-firsts
parts_of-requires-clause-firsts c =
    let one = c.fits_beside-left_fits.ensures.narrow c.if-left_fits.true in let other = c.fits_beside-right_fits.ensures.narrow c.if-right_fits.true in
    (one.first_within, other.first_within)

pub parts_of-requires-clause-seconds : goal.parts_of-requires-clause-seconds
parts_of-requires-clause-seconds c =
    let one = c.fits_beside-left_fits.ensures.narrow c.if-left_fits.true in let other = c.fits_beside-right_fits.ensures.narrow c.if-right_fits.true in
    (omega (arith, one.second_within, one.ahead), omega (arith, other.second_within, other.ahead))

pub returns-then-right_fits-clause-beside : goal.returns-then-right_fits-clause-beside
returns-then-right_fits-clause-beside c = (c.fits_beside-left_fits.ensures.beside c.if-left_fits.true, c.fits_beside-right_fits.ensures.beside c.if-right_fits.true)

pub fits_beside-left_fits-requires : goal.fits_beside-left_fits-requires
fits_beside-left_fits-requires c = c.requires.shifts.0

pub fits_beside-right_fits-requires : goal.fits_beside-right_fits-requires
fits_beside-right_fits-requires c = c.requires.shifts.1
