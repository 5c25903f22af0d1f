use Rattle.std.proofs.Common.{rules, ◌≡◌, ◌≤◌, ◌<◌, ◌+◌, ◌*◌, ◌∙◌, length, None, Err, sym, ap, subst, arith}
use Rattle.sof_base.specs.Blob as form
use Rattle.sof_base.specs.BlobFaults.{first_fault, section_tests}
use Rattle.sof_base.specs.Slots.{word_at}
use Rattle.sof_base.proofs.FirstFaults.{tests_of, first-more, first-at}
use Rattle.eq_blob.specs.Faults.{said, told}
use Rattle.eq_blob.proofs.blob_walk.check_sections.Goals as goal

pub returns-in_err-check_section-clause-told : goal.returns-in_err-check_section-clause-told
returns-in_err-check_section-clause-told c =
    let b = c.args.blob.now in let r = c.args.response in
    let out : c.from_residual.result ≡ Err c.in_err-check_section.field-0.0 = search rules in
    let count : c.word-section-end.result ≡ form.section_count b r = c.word-section-end.ensures ∙ ap (word_at b) c.requires.at in
    let low : c.loop-section.section < form.section_count b r = subst (λ n. c.loop-section.section < n) count c.loop-section-test.true in
    ap told out
    ∙ sym (first-at (section_tests b r) c.loop-section.section (form.section_count b r) (said c.in_err-check_section.field-0.0) low c.loop-section.invariant.none (sym c.in_err-check_section.ensures.told))

pub loop-section-preserved : goal.loop-section-preserved
loop-section-preserved c = record {
  none = first-more (section_tests c.args.blob.now c.args.response) c.loop-section.section c.loop-section.invariant.none (sym c.in_ok-check_section.ensures.told);
  end = let end : c.args.place + 24 + 28 * c.loop-section.section + 28 ≤ length c.args.blob.now = c.in_ok-check_section.ensures.end in omega (arith, end);
}

pub returns-clause-told : goal.returns-clause-told
returns-clause-told c =
    let b = c.args.blob.now in let r = c.args.response in
    let count : c.word-section-end.result ≡ form.section_count b r = c.word-section-end.ensures ∙ ap (word_at b) c.requires.at in
    let all : c.loop-section.section ≡ c.word-section-end.result = omega (arith, c.loop-section-test.false, c.loop-section.auto.section-end) in
    sym (subst (λ n. first_fault (tests_of (section_tests b r) 0 n) ≡ None) (all ∙ count) c.loop-section.invariant.none)

pub returns-clause-end : goal.returns-clause-end
returns-clause-end c =
    let b = c.args.blob.now in let r = c.args.response in
    let count : c.word-section-end.result ≡ form.section_count b r = c.word-section-end.ensures ∙ ap (word_at b) c.requires.at in
    omega (arith, c.loop-section-test.false, c.loop-section.auto.section-end, count, c.requires.at, c.loop-section.invariant.end)
