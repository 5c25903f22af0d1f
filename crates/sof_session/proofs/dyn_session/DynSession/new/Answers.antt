use Rattle.std.proofs.Common.{◌≡◌, refl, subst, true}
use Rattle.std.specs.Prelude.{MatchResult}
use Rattle.sof_session.specs.SessionView.{seat_in}
use Rattle.sof_session.proofs.Agreement.{same-some}
use Rattle.sof_session.proofs.dyn_session.DynSession.new.Goals as goal

pub invariant_of-result : goal.invariant_of-result
invariant_of-result g c =
    let is = subst (λ r. MatchResult r (λ x. x ≡ seat_in true c.args.plan c.args.heap c.args.dsp) (λ x. x.dsp ≡ c.args.dsp)) c.in_ok-session.was c.on_use.ensures in
    same-some is refl
