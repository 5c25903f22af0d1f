use Rattle.sof_session.specs.Written.{first_at, basis_of}
use Rattle.sof_session.proofs.OneRun.{one-run, run-ranks}
use Rattle.sof_session.proofs.RankedRuns.{empty-ranks}
use Rattle.sof_session.proofs.UpOneRun.{up-one-run, up-goes-on, up-keeps-ranks, up-first-ranked}
use Rattle.sof_session.proofs.laws.one_run.Goals as goal

pub returns : goal.returns
returns c = record {
  from_first = λ g sound doing commands xs ys x y. one-run g sound doing commands (first_at (basis_of g)) xs ys empty-ranks x y;
  made_on_use = up-one-run;
  goes_on = λ g sound doing commands old xs ys ranks x y. one-run g sound doing commands old xs ys ranks x y;
  ranks = λ g sound doing commands old legs ranks run. run-ranks g sound doing commands old legs ranks run;
  goes_on_on_use = up-goes-on;
  ranks_on_use = up-keeps-ranks;
  first_on_use = up-first-ranked;
}
