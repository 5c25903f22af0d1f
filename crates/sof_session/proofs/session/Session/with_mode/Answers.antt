use Rattle.std.proofs.Common.{◌≡◌, IfOk, subst}
use Rattle.host_widgets.specs.Kept.{first_record}
use Rattle.sof_session.proofs.Agreement.{AreAgreed-new}
use Rattle.sof_session.proofs.session.Session.with_mode.Goals as goal

pub invariant_of-result : goal.invariant_of-result
invariant_of-result g c =
    let plan = c.args.plan in
    let kept : c.in-Ok.kept ≡ first_record plan = subst (λ r. IfOk r (λ x. x ≡ first_record plan)) c.in-Ok.is c.new.ensures in
    let link = c.new-in-Ok.ensures in
    let up = c.first_up.ensures in
    let agreed = AreAgreed-new g.P.Dsp.means plan c.args.heap c.args.dsp c.requires.off c.requires.plan c.args.on_use c.requires.pending c.requires.room in
    rw (kept, link, up) agreed
