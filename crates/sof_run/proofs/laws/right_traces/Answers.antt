use Rattle.sof_run.proofs.RightRuns.{traces_replay}
use Rattle.sof_run.proofs.laws.right_traces.Goals as goal

pub returns : goal.returns
returns c = traces_replay
