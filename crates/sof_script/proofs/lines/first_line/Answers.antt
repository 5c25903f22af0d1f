use Rattle.std.proofs.Common.{◌≡◌, ◌∷◌, ◌+◌, ◌-◌, length, take, drop, List, ℕ, arith, rules, sym, ap, ◌∙◌}
use Rattle.std.proofs.lemmas.List.{take_all, length-drop}
use Rattle.sof_script.specs.Splitting.{lines_of}
use Rattle.sof_script.proofs.LineLaws.{OnLine-more, OnLine-newline, OnLine-last}
use Rattle.sof_script.proofs.lines.first_line.Goals as goal

pub returns-then-bytes-end-eq10-clause-lines : goal.returns-then-bytes-end-eq10-clause-lines
returns-then-bytes-end-eq10-clause-lines c =
    let bytes = c.args.bytes.now in
    let end = c.loop-end.end in
    let whole : take (length bytes - (end + 1)) (drop (end + 1) bytes) ≡ drop (end + 1) bytes = take_all (length bytes - (end + 1)) (drop (end + 1) bytes) (omega (arith, length-drop (end + 1) bytes)) in
    OnLine-newline bytes end c.loop-end.invariant c.loop-end-test.true c.if-bytes-end-eq10.true ∙ ap (λ (r : List ℕ). take end bytes ∷ lines_of r) (sym whole)

pub loop-end-preserved : goal.loop-end-preserved
loop-end-preserved c = OnLine-more c.args.bytes.now c.loop-end.end c.loop-end.invariant c.loop-end-test.true (search rules)

pub returns-clause-lines : goal.returns-clause-lines
returns-clause-lines c = OnLine-last c.args.bytes.now c.loop-end.end c.loop-end.invariant (omega arith) c.loop-end-test.false
