use Rattle.std.proofs.Common.{sym, ap, ◌∙◌, subst, ℕ, ◌+◌, List}
use Rattle.fw_places.proofs.Leaves.{AreFirst, first-none, first-found, first-passed}
use Rattle.fw_places.proofs.walk.find_marked.Goals as goal
use Rattle.fw_places.proofs.walk.find_marked.Goals.{then-marks-k, else-marks-k}

pub loop-k-init : goal.loop-k-init
loop-k-init c = subst (λ (xs : List ℕ). AreFirst c.args.marks.now xs 0) (sym c.requires.none) (first-none c.args.marks.now)

pub loop-k-preserved : goal.loop-k-preserved
loop-k-preserved c = elim c.if-marks-k.branch [
  | then-marks-k w ↦ subst (λ (xs : List ℕ). AreFirst c.args.marks.now xs (c.loop-k.k + 1)) (sym (ap (λ f. f.items) w.found-is ∙ w.push.ensures.items)) (first-found c.args.marks.now c.loop-k.found.items c.loop-k.k c.loop-k.invariant c.loop-k-test.true w.if-marks-k.true)
  | else-marks-k w ↦ subst (λ (xs : List ℕ). AreFirst c.args.marks.now xs (c.loop-k.k + 1)) (sym (ap (λ f. f.items) w.found-is)) (first-passed c.args.marks.now c.loop-k.found.items c.loop-k.k c.loop-k.invariant c.loop-k-test.true w.if-marks-k.false)
]
