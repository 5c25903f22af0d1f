-- The written run of a sound plan whose pipelines are made on use is one.
use Rattle.mbox_link.specs.Meetings.{Doing}
use Rattle.tplg_plan.specs.Sound.{IsSound}
use Rattle.host_widgets.specs.UpState.{UpState}
use Rattle.sof_session.specs.RunLaws.{UpFirstIsRanked, UpRunGoesOnAsOne, UpRunIsOne, UpRunKeepsRanks, up_basis}
use Rattle.sof_session.specs.Written.{Ground, first_at, end_of}
use Rattle.sof_session.proofs.OneRun.{RanksStay, run-from, run-ranked}
use Rattle.sof_session.proofs.PlannedEdges.{from-planned, to-planned}
use Rattle.sof_session.proofs.RankedRuns.{empty-ranks}
use Rattle.sof_session.proofs.UpEdges.{AreEdges}
use Rattle.sof_session.proofs.UpRanks.{came-ranked}

-- what is there is joined as the plan joins it
abbrev HasEdges : Ground → UpState → Type 0
HasEdges g s = AreEdges g.plan s.there

stay : (g : Ground) → IsSound g.plan → (doing : Doing) → RanksStay (up_basis g) doing (HasEdges g)
stay g sound doing command old are = came-ranked g.plan sound doing g.heap old.known are command

pub up-one-run : UpRunIsOne
up-one-run g sound doing commands xs ys x y = run-from (up_basis g) doing (HasEdges g) (stay g sound doing) commands (first_at (up_basis g)) xs ys (empty-ranks, tt) x y

-- ---- from any place

pub up-goes-on : UpRunGoesOnAsOne
up-goes-on g sound doing commands old xs ys ranks x y =
    run-from (up_basis g) doing (HasEdges g) (stay g sound doing) commands old xs ys (ranks.0, from-planned g.plan old.known.kept.there.graph.edges ranks.1) x y

pub up-keeps-ranks : UpRunKeepsRanks
up-keeps-ranks g sound doing commands old legs ranks run =
    let ended = run-ranked (up_basis g) doing (HasEdges g) (stay g sound doing) commands old legs (ranks.0, from-planned g.plan old.known.kept.there.graph.edges ranks.1) run in
    (ended.0, to-planned g.plan (end_of old legs).known.kept.there.graph.edges ended.1)

pub up-first-ranked : UpFirstIsRanked
up-first-ranked g = (empty-ranks, tt)
