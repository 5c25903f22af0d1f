-- A suspend leaves nothing there, whatever its messages meet.
use Rattle.std.proofs.Common.{sym, subst, ℕ, List}
use Rattle.mbox_link.specs.Meetings.{Meeting}
use Rattle.tplg_plan.specs.declared.plans.Plan.{Plan}
use Rattle.tplg_plan.specs.Sound.{IsSound}
use Rattle.host_widgets.specs.declared.kept.Record.{Record}
use Rattle.host_widgets.specs.ActLists.{go_down}
use Rattle.host_widgets.specs.Orders.{suspending}
use Rattle.host_pm.proofs.GoingDown.{going-down}
use Rattle.host_widgets.specs.There.{nowhere}
use Rattle.host_dynamic.specs.Dynamic.{plain_job}
use Rattle.host_widgets.specs.UpState.{UpState, cut_off}
use Rattle.host_dynamic.specs.UpStates.{IsUpState}
use Rattle.host_dynamic.proofs.UpGoingDown.{walk-goes-down}
use Rattle.host_dynamic.proofs.UpOpening.{down-state}
use Rattle.host_widgets.proofs.UpWalks.{Keeps}

module _ (plan : Plan) (sound : IsSound plan) (heap : ℕ) {Q : Type 0} (next : Q → Meeting × Q) where
  pub suspend-keeps : (s : UpState) (q : Q) → IsUpState plan s → Keeps plan next (IsUpState plan) s q (plain_job plan s (suspending plan s.kept)).routine
  suspend-keeps s q is =
      let d = walk-goes-down plan sound next heap (go_down plan s.kept) s q (going-down plan heap sound s.kept is.record_is) in
      let down : IsUpState plan (cut_off s) = down-state plan sound s (record { record_is = is.record_is; up_is = is.up; once = is.once }) in
      subst (λ (x : Record × List ℕ). IsUpState plan (record { kept = x.0; up = x.1; there = nowhere })) (λ i. (sym d.0 i, sym d.1 i)) down
