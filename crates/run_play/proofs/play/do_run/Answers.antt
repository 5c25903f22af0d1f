use Rattle.run_play.proofs.Kept.{none_named, at_load_by}
use Rattle.run_play.proofs.play.do_run.Goals as goal

pub do_traced-requires-clause-at_load : goal.do_traced-requires-clause-at_load
do_traced-requires-clause-at_load g c = at_load_by c.args.form.on_use c.args.form.trace (rw c.is_some.ensures at c.if-is_some.true) c.requires.untraced

pub do_untraced-requires-clause-none : goal.do_untraced-requires-clause-none
do_untraced-requires-clause-none g c = none_named c.args.form.trace (rw c.is_some.ensures at c.if-is_some.false)

pub returns-else-is_some : goal.returns-else-is_some
returns-else-is_some g c = rw (none_named c.args.form.trace (rw c.is_some.ensures at c.if-is_some.false)) c.do_untraced.ensures
