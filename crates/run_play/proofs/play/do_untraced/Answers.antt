use Rattle.std.proofs.Common.{refl}
use Rattle.run_play.proofs.Kept.{untraced_gave}
use Rattle.run_play.proofs.play.do_untraced.Goals as goal

pub do_session-ended-requires-clause-keeps : goal.do_session-ended-requires-clause-keeps
do_session-ended-requires-clause-keeps g c = λ none k. refl

pub returns : goal.returns
returns g c = rw c.into_dsp.ensures (untraced_gave g.P.Dsp.means g.D.Desk.means _ _ _ _ _ _ (rw (c.new.ensures, c.requires.none) at c.do_session-ended.ensures))
