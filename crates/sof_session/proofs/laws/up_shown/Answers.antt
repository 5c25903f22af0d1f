use Rattle.sof_session.proofs.UpShown.{up-is-shown, first-is-shown, run-shows}
use Rattle.sof_session.proofs.laws.up_shown.Goals as goal

pub returns-clause-first : goal.returns-clause-first
returns-clause-first c = first-is-shown

pub returns-clause-kept : goal.returns-clause-kept
returns-clause-kept c = up-is-shown

pub returns-clause-runs : goal.returns-clause-runs
returns-clause-runs c = run-shows
