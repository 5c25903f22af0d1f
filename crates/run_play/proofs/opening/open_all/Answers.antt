use Rattle.std.proofs.Common.{◌≤◌, length}
use Rattle.std.proofs.lemmas.List.{take_all, drop_all}
use Rattle.run_play.proofs.Openings.{left_on, left_off, files_on}
use Rattle.run_play.proofs.opening.open_all.Goals as goal

pub returns-then-not-open_one-clause-done : goal.returns-then-not-open_one-clause-done
returns-then-not-open_one-clause-done g c =
    left_off g.D.Desk.means c.args.plan.now c.args.bindings.now c.loop-binding.binding-index c.binding-item.result c.loop-binding-test.true c.binding-item.is _ _ _ c.loop-binding.invariant.so_far
    (rw c.if-not-open_one.true at c.open_one.ensures)

pub loop-binding-preserved : goal.loop-binding-preserved
loop-binding-preserved g c =
    let means = g.D.Desk.means in
    let plan = c.args.plan.now in
    let bs = c.args.bindings.now in
    let i = c.loop-binding.binding-index in
    let b = c.binding-item.result in
    let before = c.loop-binding.invariant in
    let acted = rw c.if-not-open_one.false at c.open_one.ensures in
    record {
      so_far = left_on means plan bs i b c.loop-binding-test.true c.binding-item.is _ _ _ before.so_far acted;
      files = files_on means plan bs i b c.loop-binding-test.true c.binding-item.is _ _ acted before.files;
    }

pub returns-clause-done : goal.returns-clause-done
returns-clause-done g c =
    let past : length c.args.bindings.now ≤ c.loop-binding.binding-index = c.loop-binding-test.false in
    rw drop_all at c.loop-binding.invariant.so_far

pub returns-clause-files : goal.returns-clause-files
returns-clause-files g c =
    let past : length c.args.bindings.now ≤ c.loop-binding.binding-index = c.loop-binding-test.false in
    λ done. rw take_all at c.loop-binding.invariant.files
