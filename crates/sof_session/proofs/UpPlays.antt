-- Where what is up is there, a tick may come.
use Rattle.std.proofs.Common.{◌≡◌, sym, ap, ◌∙◌, subst, []}
use Rattle.stream_law.specs.Viewing.{IsPlayable}
use Rattle.tplg_plan.specs.declared.plans.Plan.{Plan}
use Rattle.tplg_plan.specs.Sound.{IsSound}
use Rattle.host_widgets.specs.declared.kept.Power.{Power}
use Rattle.host_widgets.specs.declared.kept.Power.TheVariants.{On}
use Rattle.host_widgets.specs.UpState.{UpState}
use Rattle.host_widgets.specs.There.{there_view}
use Rattle.host_widgets.specs.Up.{up_view}
use Rattle.host_dynamic.specs.UpStates.{IsThere, IsThereBy, IsUpState}
use Rattle.host_widgets.proofs.StagePrepares.{up-amid}
use Rattle.host_widgets.proofs.UpContext.{IsServing}
use Rattle.host_dynamic.proofs.UpNeeds.{serving}
use Rattle.host_widgets.proofs.UpStages.{up_stage}
use Rattle.host_dynamic.proofs.UpStanding.{there-stage}
use Rattle.sof_session.proofs.StagePlays.{stage-plays}

pub up-plays : (plan : Plan) → IsSound plan → (s : UpState) → IsUpState plan s → s.kept.power ≡ On → IsPlayable (up_view plan s.kept s.up)
up-plays plan sound s is on =
    let there : IsThere plan s = subst (λ (p : Power). IsThereBy p plan s) on is.there in
    let serves : IsServing plan s.kept s.up = serving plan sound s.kept s.up is.record_is is.up in
    subst IsPlayable (sym (ap there_view (there-stage plan sound s there).is) ∙ there.view)
    (stage-plays plan sound s.kept s.up [] (up_stage plan s.up) (up-amid plan sound s.up serves.brought) serves.held is.record_is.each)
