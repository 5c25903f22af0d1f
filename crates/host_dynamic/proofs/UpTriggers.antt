-- A stream that is triggered leaves what is up there.
use Rattle.std.proofs.Common.{◌≡◌, refl, sym, ap, subst, ◌∙◌, ℕ, List, [], ◌∷◌, Bool, true, false, cond, inl, inr, ◌==◌, Some}
use Rattle.std.specs.Prelude.{find}
use Rattle.std.specs.List.{zip}
use Rattle.std.proofs.lemmas.Bool.{false≢true, eqb-true}
use Rattle.stream_law.proofs.Members.{IsIn, in-all, find-in}
use Rattle.mbox_link.specs.Meetings.{Meeting}
use Rattle.tplg_plan.specs.declared.plans.Plan.{Plan}
use Rattle.tplg_plan.specs.declared.plans.StreamPlan.{StreamPlan}
use Rattle.tplg_plan.specs.Sound.{IsSound}
use Rattle.host_widgets.specs.declared.answers.Answer.TheVariants as answers
use Rattle.host_widgets.specs.declared.kept.Found.{Found}
use Rattle.host_widgets.specs.declared.kept.Found.TheVariants as founds
use Rattle.host_widgets.specs.declared.kept.Power.{Power}
use Rattle.host_widgets.specs.declared.kept.Power.TheVariants as powers
use Rattle.host_widgets.specs.declared.kept.StreamRec.{StreamRec}
use Rattle.host_widgets.specs.declared.trigger.Trigger.{Trigger}
use Rattle.host_widgets.specs.declared.trigger.Trigger.TheVariants.{Start, Stop, Pause, Release}
use Rattle.host_widgets.specs.HostRecord.{may_have}
use Rattle.host_widgets.specs.HostActs.{Trig, triggered_found, triggered_stream}
use Rattle.host_widgets.specs.Host.{IsRecordOf}
use Rattle.host_widgets.specs.Orders.{sends}
use Rattle.host_widgets.specs.StreamStands.{takes_trigger}
use Rattle.host_widgets.proofs.LookedUp.{each-found}
use Rattle.host_widgets.proofs.RecordsStay.{AllAt, may, Less, record-less}
use Rattle.host_widgets.proofs.StreamPlaces.{streams-ascend}
use Rattle.host_widgets.proofs.TakenActs.{trigger-may}
use Rattle.host_pcm.specs.Asks.{is_closed}
use Rattle.host_widgets.specs.There.{there_after}
use Rattle.host_dynamic.specs.Dynamic.{plain_job}
use Rattle.host_widgets.specs.UpState.{UpState, up_act_rules}
use Rattle.host_dynamic.specs.UpStates.{IsThereBy, IsUpState}
use Rattle.host_widgets.proofs.HostStreams.{in-zip}
use Rattle.host_widgets.proofs.StageMakes.{zip-ascends}
use Rattle.host_widgets.proofs.StageStays.{pass-each}
use Rattle.host_widgets.proofs.StageStreams.{changed_one, zip-changed, trigger-is}
use Rattle.host_dynamic.proofs.UpPlain.{settled-state, sends-keeps}
use Rattle.host_widgets.proofs.UpStages.{StreamPair, at_stage, IsStage, up_stage}
use Rattle.host_dynamic.proofs.UpStanding.{stage-there}
use Rattle.host_dynamic.proofs.UpStreams.{changed-state, changed-found, begun, has, whole}
use Rattle.host_widgets.proofs.UpWalks.{Keeps}

-- what is so of the record of each stream of a host is so at the host
pub pairs-at : (So : StreamRec → Type 0) (host : ℕ) (ss : List StreamPlan) (rs : List StreamRec) → ((q : StreamPair) → IsIn q (zip ss rs) → (q.0.host == host) ≡ true → So q.1) → AllAt So host ss rs
pairs-at So host [] rs each = tt
pairs-at So host (s ∷ ss) [] each = tt
pairs-at So host (s ∷ ss) (r ∷ rs) each = (λ here. each (s, r) (inl refl) here, pairs-at So host ss rs (λ q there. each q (inr there)))

-- ---- how a stream stands that is triggered

-- it is not closed, neither before nor then
pub takes-open : (what : Trigger) (found : Found) → takes_trigger what found ≡ true → is_closed found ≡ false
takes-open Start founds.Prepared takes = refl
takes-open Stop founds.Running takes = refl
takes-open Stop founds.Paused takes = refl
takes-open Pause founds.Running takes = refl
takes-open Release founds.Paused takes = refl
takes-open what found takes = absurd (false≢true takes)

then-open : (what : Trigger) → is_closed (triggered_found what) ≡ false
then-open Start = refl
then-open what = refl

-- ---- the stream of a host

module _ (plan : Plan) (sound : IsSound plan) (s : UpState) (is : IsUpState plan s) (host : ℕ) (p : StreamPair) (found : find (λ (q : StreamPair). q.0.host == host) (zip plan.streams s.kept.streams) ≡ Some p) where
  abbrev pairs : List StreamPair
  pairs = zip plan.streams s.kept.streams

  -- it is the only one of its host
  pub one-pair : (q : StreamPair) → IsIn q pairs → (q.0.host == host) ≡ true → q ≡ p
  one-pair q there e =
      let own = in-all (λ (x : StreamPair). find (λ (y : StreamPair). y.0.host == x.0.host) pairs ≡ Some x) pairs q (each-found (λ (x : StreamPair). x.0.host) pairs (zip-ascends plan.streams s.kept.streams (streams-ascend plan sound))) there in
      cc (sym own ∙ ap (λ (h : ℕ). find (λ (y : StreamPair). y.0.host == h) pairs) (eqb-true q.0.host host e) ∙ found)

  pub in-pairs : IsIn p pairs
  in-pairs = (find-in (λ (q : StreamPair). q.0.host == host) pairs p found).0

  pub may-be : may_have p.1.found p.1.params ≡ true
  may-be = pass-each (λ (r : StreamRec). may_have r.found r.params) s.kept.streams p.1 is.record_is.each (in-zip plan.streams s.kept.streams p in-pairs).1

  -- ---- it is triggered

  module _ (on : s.kept.power ≡ powers.On) (what : Trigger) (moves : takes_trigger what p.1.found ≡ true) where
    abbrev pub triggered : UpState
    triggered = (up_act_rules plan).after (Trig host what) s

    open_yet : is_closed p.1.found ≡ false
    open_yet = takes-open what p.1.found moves

    triggered-there : triggered.there ≡ at_stage plan triggered.kept (up_stage plan s.up) s.there.heap
    triggered-there =
        ap (there_after plan (Trig host what)) (begun plan sound s.up host s is refl on).is
        ∙ trigger-is plan sound s.kept (up_stage plan s.up) (whole plan sound s.up host s) s.there.heap host p found (has plan sound s.up host s is refl on p found open_yet) what moves

    triggered-record : IsRecordOf plan triggered.kept
    triggered-record = record-less plan s.kept host (triggered_stream what) is.record_is
        (pairs-at (λ r. may (triggered_stream what r) ≡ true) host plan.streams s.kept.streams (λ q there e. subst (λ (x : StreamPair). may (triggered_stream what x.1) ≡ true) (sym (one-pair q there e)) (trigger-may what p.1.found p.1.params moves may-be)))
        (pairs-at (λ r. Less (triggered_stream what r).params r.params) host plan.streams s.kept.streams (λ q there e. inl refl))

    pub triggered-state : IsUpState plan triggered
    triggered-state = changed-state plan sound s is host (triggered_stream what) (λ q there e. then-open what ∙ sym (ap (λ (x : StreamPair). is_closed x.1.found) (one-pair q there e) ∙ open_yet)) triggered-record triggered.there
        (subst (λ (power : Power). IsThereBy power plan triggered) (sym on) (stage-there plan sound triggered (subst (IsStage plan triggered.kept (up_stage plan s.up)) (sym triggered-there) (record { is = refl; heap = (begun plan sound s.up host s is refl on).heap }))))

    here : (p.0.host == host) ≡ true
    here = (find-in (λ (q : StreamPair). q.0.host == host) pairs p found).1

    -- and found then
    pub triggered-pair : find (λ (q : StreamPair). q.0.host == host) (zip plan.streams triggered.kept.streams) ≡ Some (changed_one host (triggered_stream what) p)
    triggered-pair = ap (find (λ (q : StreamPair). q.0.host == host)) (zip-changed host (triggered_stream what) plan.streams s.kept.streams) ∙ changed-found host (triggered_stream what) pairs p found

    pub stands-then : (changed_one host (triggered_stream what) p).1.found ≡ triggered_found what
    stands-then = ap (λ (b : Bool). (cond b (triggered_stream what p.1) p.1).found) here

    pub trigger-keeps : {Q : Type 0} (next : Q → Meeting × Q) (q : Q) → Keeps plan next (IsUpState plan) s q (plain_job plan s (sends s.kept.power (Trig host what ∷ []) (λ now. now) answers.Done)).routine
    trigger-keeps next q = sends-keeps plan sound next (λ now. now) s q (Trig host what ∷ []) answers.Done (λ e. (is, λ free. settled-state plan sound triggered triggered-state)) (λ off. absurd (off on))
