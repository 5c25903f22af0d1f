use Rattle.std.proofs.Common.{◌≡◌, ap, sym, subst, ◌∙◌, ◌+◌, ◌*◌, ◌^◌, ◌≤◌, [], ◌∷◌, ℕ, true, nat_abs, take, arith}
use Rattle.sof_base.specs.Blob as form
use Rattle.sof_base.specs.Blob.{section_at}
use Rattle.eq_biquad.specs.Lanes.{lane}
use Rattle.eq_blob.specs.WordBytes.{bytes_of_words}
use Rattle.eq_biquad.specs.Passing.{passed_samples, numbers_passed}
use Rattle.eq_blob.specs.Sections.{law_section}
use Rattle.eq_biquad.proofs.NumberLaws.{slot-bound, slot-put}
use Rattle.eq_biquad.proofs.StretchLaws.{goes-moved, outside-fewer, stretch-none, stretch-more}
use Rattle.eq_biquad.proofs.passing.pass_stretch.Goals as goal

pub loop-s-init : goal.loop-s-init
loop-s-init c =
    let at = c.args.at in
    stretch-none (take c.args.len (bytes_of_words c.args.blob.now)) (4 * c.args.stretch.found.place) (8 * c.args.stretch.slot) at.channels at.channel at.frames c.args.numbers.now c.args.samples.now c.requires.numbers

pub numbers_in-requires-clause-within : goal.numbers_in-requires-clause-within
numbers_in-requires-clause-within c =
    let low = slot-bound c.loop-s.numbers c.loop-s.invariant.within c.args.stretch.slot c.loop-s.s (omega (arith, c.loop-s-test.true, c.loop-s.auto.s-end, c.requires.slots)) in
    (low.0, omega (arith, low.1))

pub pass_section-after-requires-clause-shift : goal.pass_section-after-requires-clause-shift
pass_section-after-requires-clause-shift c =
    let s = c.loop-s.s in let b = take c.args.len (bytes_of_words c.args.blob.now) in let found = c.args.stretch.found in
    subst (λ z. form.is_shift z ≡ true) (sym (c.section_at-section.ensures.shift ∙ ap (form.signed_at b) (let e : 4 * (found.place + 7 * s) + 20 ≡ 4 * found.place + 28 * s + 20 = omega arith in e)))
    (c.requires.found.shifts s (omega (arith, c.loop-s-test.true, c.loop-s.auto.s-end)))

pub pass_section-after-requires-clause-within : goal.pass_section-after-requires-clause-within
pass_section-after-requires-clause-within c =
    let low = slot-bound c.loop-s.numbers c.loop-s.invariant.within c.args.stretch.slot c.loop-s.s (omega (arith, c.loop-s-test.true, c.loop-s.auto.s-end, c.requires.slots)) in
    (subst (λ z. nat_abs z ≤ 2 ^ 64) (sym c.numbers_in.ensures.0) low.0, subst (λ z. nat_abs z ≤ 2 ^ 63) (sym c.numbers_in.ensures.1) low.1)

pub loop-s-preserved : goal.loop-s-preserved
loop-s-preserved c =
    let s = c.loop-s.s in let b = take c.args.len (bytes_of_words c.args.blob.now) in let at = c.args.at in let found = c.args.stretch.found in let p : ℕ = 4 * found.place in
    let old = lane at.channels at.channel at.frames c.loop-s.samples in
    let sec : law_section c.section_at-section.result ≡ section_at b (p + 28 * s) = c.section_at-section.ensures.section ∙ ap (section_at b) (let e : 4 * (found.place + 7 * s) ≡ p + 28 * s = omega arith in e) in
    let after = c.pass_section-after.ensures in let put = c.put_numbers.ensures in let result = c.pass_section-after.result in
    stretch-more b p (8 * c.args.stretch.slot) at.channels at.channel at.frames c.args.numbers.now c.args.samples.now c.loop-s.numbers c.loop-s.samples c.put_numbers.new.words c.pass_section-after.new.samples s
    c.loop-s.invariant
    (record {
      samples = after.lane ∙ (λ i. passed_samples (sec i ∷ []) (c.numbers_in.ensures.0 i ∷ c.numbers_in.ensures.1 i ∷ []) old);
      numbers =
          (λ i. put.numbers.0 i ∷ put.numbers.1 i ∷ [])
          ∙ after.numbers
          ∙ (λ i. numbers_passed (sec i ∷ []) (c.numbers_in.ensures.0 i ∷ c.numbers_in.ensures.1 i ∷ []) old);
    })
    after.others
    put.others
    (slot-put c.loop-s.numbers c.put_numbers.new.words c.args.stretch.slot s result.first result.second c.loop-s.invariant.within put.numbers.0 put.numbers.1 after.within.0 after.within.1 put.others)
    c.pass_section-after.auto.samples

pub returns-clause-lane : goal.returns-clause-lane
returns-clause-lane c =
    let b = take c.args.len (bytes_of_words c.args.blob.now) in let at = c.args.at in let found = c.args.stretch.found in let base : ℕ = 8 * c.args.stretch.slot in let p : ℕ = 4 * found.place in
    let all : c.loop-s.s ≡ found.count = omega (arith, c.loop-s-test.false, c.loop-s.auto.s-end) in
    let same_p : p ≡ p = (λ i. p) in let same_base : base ≡ base = (λ i. base) in
    goes-moved b p base c.loop-s.s p base found.count at.channels at.channel at.frames c.args.numbers.now c.args.samples.now c.loop-s.numbers c.loop-s.samples same_p same_base all c.loop-s.invariant.goes

pub returns-clause-elsewhere : goal.returns-clause-elsewhere
returns-clause-elsewhere c = λ i out. c.loop-s.invariant.elsewhere i (outside-fewer (8 * c.args.stretch.slot) c.loop-s.s c.args.stretch.found.count i c.loop-s.auto.s-end out)
