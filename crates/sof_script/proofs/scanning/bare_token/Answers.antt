use Rattle.std.proofs.Common.{◌≡◌, ◌⊎◌, ◌<◌, [], length, drop, get_or, true, inl, inr, sym, ap, arith, ◌∙◌}
use Rattle.std.proofs.lemmas.List.{drop_all, length-drop}
use Rattle.sof_script.proofs.TokenLaws.{bare_one, Within-more, inside_keeps, bare_whole, first_of_rest}
use Rattle.sof_script.specs.Splitting.{Inside, is_blank}
use Rattle.sof_script.proofs.scanning.bare_token.Goals as goal
use Rattle.sof_script.proofs.scanning.bare_token.Goals.{then-loop-end-test+else-not-is_separator, else-loop-end-test}

pub loop-end-init : goal.loop-end-init
loop-end-init c = record { begun = bare_one c.args.bytes.now c.requires; some = omega arith }

pub loop-end-preserved : goal.loop-end-preserved
loop-end-preserved c = record {
  begun = Within-more Inside c.args.bytes.now c.loop-end.end c.loop-end.invariant.begun c.loop-end-test.true (inside_keeps _ (sym c.is_separator.ensures ∙ c.if-not-is_separator.true));
  some = omega arith;
}

pub returns-clause-tokens : goal.returns-clause-tokens
returns-clause-tokens c =
    let bytes = c.args.bytes.now in
    let end = c.loop-end.end in
    let ends : (drop end bytes ≡ []) ⊎ ((0 < length (drop end bytes)) × (is_blank (get_or (drop end bytes) 0 0) ≡ true)) = elim c.loop-end-test.branch [
      | then-loop-end-test+else-not-is_separator w ↦ inr (first_of_rest bytes end w.loop-end-test.true (sym w.is_separator.ensures ∙ w.if-not-is_separator.false))
      | else-loop-end-test w ↦ inl (drop_all end bytes w.loop-end-test.false)
    ] in
    rw (c.split_at.ensures.front, c.split_at.ensures.back) (bare_whole bytes end c.requires c.loop-end.invariant.begun ends)

pub returns-clause-fewer : goal.returns-clause-fewer
returns-clause-fewer c =
    let bytes = c.args.bytes.now in
    omega (arith, ap length c.split_at.ensures.back, length-drop c.loop-end.end bytes, c.loop-end.invariant.some, c.loop-end.invariant.begun.within)
