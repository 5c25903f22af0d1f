use Rattle.std.proofs.Common.{List, ℕ, inl, inr, subst, sym, ◌∙◌}
use Rattle.std.proofs.lemmas.List.{drop_all}
use Rattle.sof_script.specs.TokenStarts.{StartsToken}
use Rattle.sof_script.proofs.LineLaws.{Skipped-more, starts}
use Rattle.sof_script.proofs.scanning.skip_blanks.Goals as goal
use Rattle.sof_script.proofs.scanning.skip_blanks.Goals.{then-loop-at-test+else-is_separator, else-loop-at-test}

pub loop-at-preserved : goal.loop-at-preserved
loop-at-preserved c = Skipped-more c.args.bytes.now c.loop-at.at c.loop-at.invariant c.loop-at-test.true (sym c.is_separator.ensures ∙ c.if-is_separator.true)

pub returns-clause-first : goal.returns-clause-first
returns-clause-first c =
    let bytes = c.args.bytes.now in
    let at = c.loop-at.at in
    elim c.loop-at-test.branch [
      | then-loop-at-test+else-is_separator w ↦
          inr (subst (λ (r : List ℕ). StartsToken r) (sym c.split_at.ensures.back) (starts bytes at w.loop-at-test.true (sym w.is_separator.ensures ∙ w.if-is_separator.false)))
      | else-loop-at-test w ↦ inl (c.split_at.ensures.back ∙ drop_all at bytes w.loop-at-test.false)
    ]
