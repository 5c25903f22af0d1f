use Rattle.sof_files.proofs.KnownTransfers.{appends_none, appends_kept}
use Rattle.sof_files.proofs.transfer.keep.Goals as goal

pub returns-then-piece-saturating_sub-clause-given : goal.returns-then-piece-saturating_sub-clause-given
returns-then-piece-saturating_sub-clause-given g c = appends_none _

pub returns-in-Err-clause-given : goal.returns-in-Err-clause-given
returns-in-Err-clause-given g c = appends_kept _ _ _ _ (appends_none _) c.in-Err.ensures.bytes
