use Rattle.std.proofs.Common.{◌≡◌, ap, ◌∙◌, ◌+◌, ◌*◌, [], ◌∷◌, take, arith, ℕ}
use Rattle.sof_base.specs.Blob.{signed_at, section_at}
use Rattle.eq_blob.specs.WordBytes.{bytes_of_words}
use Rattle.eq_biquad.proofs.side_by_side.series_at.Goals as goal

pub returns-clause-sections : goal.returns-clause-sections
returns-clause-sections c =
    let b = take c.args.len (bytes_of_words c.args.blob.now) in let p : ℕ = 4 * c.args.place in
    let behind : 4 * (c.args.place + 7) ≡ p + 28 = omega arith in
    λ i. c.section_at.ensures.section i ∷ (c.section_at-2.ensures.section ∙ ap (section_at b) behind) i ∷ []

pub returns-clause-shifts : goal.returns-clause-shifts
returns-clause-shifts c =
    let b = take c.args.len (bytes_of_words c.args.blob.now) in
    let behind : 4 * (c.args.place + 7) + 20 ≡ 4 * c.args.place + 48 = omega arith in
    (c.section_at.ensures.shift, c.section_at-2.ensures.shift ∙ ap (signed_at b) behind)
