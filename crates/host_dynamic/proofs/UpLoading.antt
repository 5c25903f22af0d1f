-- A load, and letting go what was loaded, leave a state in which what is up is there: nothing.
use Rattle.std.proofs.Common.{◌≡◌, refl, sym, ap, subst, ◌∙◌, ℕ, [], true, false, ◌==◌}
use Rattle.std.specs.Prelude.{◌↔◌}
use Rattle.std.specs.List.{IsDistinct}
use Rattle.std.proofs.lemmas.Bool.{true≢false, false≢true}
use Rattle.stream_law.specs.Order.{is_among}
use Rattle.tplg_plan.specs.declared.plans.Plan.{Plan}
use Rattle.tplg_plan.specs.Sound.{IsSound}
use Rattle.host_widgets.specs.declared.kept.Power.{Power}
use Rattle.host_widgets.specs.declared.kept.Power.TheVariants as powers
use Rattle.host_widgets.specs.declared.kept.StreamRec.{StreamRec}
use Rattle.host_widgets.specs.declared.kept.Record.{Record}
use Rattle.host_widgets.specs.HostRecord.{closed}
use Rattle.host_widgets.specs.Kept.{first_record, with_power}
use Rattle.host_widgets.proofs.Records.{closed-record}
use Rattle.host_widgets.proofs.RestedRecords.{empty-stage}
use Rattle.host_pcm.specs.Asks.{is_closed}
use Rattle.host_widgets.specs.There.{booted}
use Rattle.host_dynamic.specs.Dynamic.{needed}
use Rattle.host_widgets.specs.UpState.{UpState, first_state}
use Rattle.host_dynamic.specs.UpStates.{IsThereBy, IsUpState}
use Rattle.host_widgets.proofs.HostStreams.{in-zip}
use Rattle.host_dynamic.proofs.UpNeeds.{IsAsked, needed-asked}
use Rattle.host_dynamic.proofs.UpStanding.{stage-there}
use Rattle.host_widgets.proofs.StageStays.{from-map}

module _ (plan : Plan) (sound : IsSound plan) where
  -- no stream needs anything before the first command
  first-needs : (i : ℕ) → (is_among [] i ≡ true) ↔ (is_among (needed plan (first_record plan)) i ≡ true)
  first-needs i = (λ is. absurd (false≢true is), λ is. absurd (none (needed-asked plan sound (first_record plan) i is)))
    where
      none : IsAsked plan sound (first_record plan) i → ⊥
      none (p, there, open_yet, is) =
          let r = from-map (λ s. closed) plan.streams p.1 (in-zip plan.streams (first_record plan).streams p there).1 in
          true≢false (sym (ap (λ (x : StreamRec). is_closed x.found) r.2) ∙ open_yet)

  none-once : IsDistinct (λ m n. m == n) []
  unfolding IsDistinct
  none-once = tt

  -- ---- loaded, and let go

  pub loaded-state : (s : UpState) → IsUpState plan s → s.kept.power ≡ powers.Unloaded → (heap : ℕ) → IsUpState plan (record { kept = with_power powers.On s.kept; up = []; there = booted heap })
  loaded-state s is off heap = record {
    record_is = record { streams = is.record_is.streams; controls = is.record_is.controls; each = is.record_is.each; shapes = is.record_is.shapes };
    up = λ i. subst (λ (kept : Record). (is_among [] i ≡ true) ↔ (is_among (needed plan (with_power powers.On kept)) i ≡ true)) (sym first) (first-needs i);
    once = none-once;
    there = stage-there plan sound now (empty-stage plan now.kept heap);
  }
    where
      now : UpState
      now = record { kept = with_power powers.On s.kept; up = []; there = booted heap }

      first : s.kept ≡ first_record plan
      first = (subst (λ (power : Power). IsThereBy power plan s) off is.there).1

  pub first-is : IsUpState plan (first_state plan)
  first-is = record { record_is = closed-record powers.Unloaded plan; up = first-needs; once = none-once; there = (refl, refl) }
