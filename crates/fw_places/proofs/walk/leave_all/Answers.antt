use Rattle.std.proofs.Common.{◌≡◌, ◌<◌, sym, ap, ◌∙◌, ℕ, List, true, false, length, get_or, arith, below_more}
use Rattle.stream_law.specs.declared.graph.Join.{Join}
use Rattle.fw_places.specs.Walks.{near_of, far_of}
use Rattle.fw_places.specs.Leaving.{no_join}
use Rattle.fw_places.proofs.Leaves.{zeros, all-left}
use Rattle.fw_places.proofs.walk.leave_all.Goals as goal

pub link-requires-clause-none : goal.link-requires-clause-none
link-requires-clause-none c = λ x. zeros 257 x

pub loop-i-preserved : goal.loop-i-preserved
loop-i-preserved c =
    let joins : List Join = c.args.joins.now in let back = c.args.back in let i = c.loop-i.i in
    let low : i < length c.loop-i.found.items = omega (arith, c.loop-i-test.true, c.len.ensures.value) in
    record {
      found = c.leave.ensures.found;
      size = c.leave.ensures.on.size ∙ c.loop-i.invariant.size;
      within = omega (arith, low, c.leave.ensures.on.longer);
      left = below_more (λ j. (n : ℕ) → n < length joins → near_of back (get_or joins n no_join) ≡ get_or c.leave.new.found.items j 0 → get_or c.leave.new.marks (far_of back (get_or joins n no_join)) false ≡ true) i
          (λ j below n within same. c.leave.ensures.on.kept (far_of back (get_or joins n no_join)) (c.loop-i.invariant.left j below n within (same ∙ c.leave.ensures.on.same j (omega (arith, below, low)))))
          (λ n within same. c.leave.ensures.left n within (same ∙ c.leave.ensures.on.same i low ∙ ap (λ (xs : List ℕ). get_or xs i 0) (sym c.as_slice.ensures.value)));
      kept = λ k e. c.leave.ensures.on.kept k (c.loop-i.invariant.kept k e);
      least = λ p closed start. c.leave.ensures.least p closed (c.loop-i.invariant.least p closed start);
    }

pub returns-clause-closed : goal.returns-clause-closed
returns-clause-closed c = all-left c.args.back c.args.joins.now c.loop-i.marks c.loop-i.found.items c.loop-i.i c.loop-i.invariant.found (omega (arith, c.loop-i-test.false, c.len.ensures.value)) c.loop-i.invariant.left
