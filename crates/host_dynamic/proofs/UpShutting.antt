-- Whatever messages meet, closing a stream leaves a state in which what is up is there.
use Rattle.std.proofs.Common.{◌≡◌, refl, sym, ap, subst, ◌∙◌, ℕ, [], ◌∷◌, Bool, true, false, cond, ◌==◌, Some, None, is_some, Ok, Err}
use Rattle.std.specs.Prelude.{Option, find}
use Rattle.std.specs.List.{zip}
use Rattle.std.proofs.lemmas.Bool.{true≢false, false≢true}
use Rattle.sof_base.specs.declared.format.Params.{Params}
use Rattle.stream_law.specs.Order.{is_among}
use Rattle.stream_law.proofs.Members.{IsIn}
use Rattle.mbox_link.specs.Meetings.{Meeting}
use Rattle.tplg_plan.specs.declared.plans.Plan.{Plan}
use Rattle.tplg_plan.specs.Sound.{IsSound}
use Rattle.host_widgets.specs.declared.answers.HostFault.{HostFault}
use Rattle.host_widgets.specs.declared.answers.HostFault.TheVariants as faults
use Rattle.host_widgets.specs.declared.kept.Found.{Found}
use Rattle.host_widgets.specs.declared.kept.Found.TheVariants as founds
use Rattle.host_widgets.specs.declared.kept.Power.{Power}
use Rattle.host_widgets.specs.declared.kept.Power.TheVariants as powers
use Rattle.host_widgets.specs.declared.trigger.Trigger.TheVariants.{Stop}
use Rattle.host_widgets.specs.HostRecord.{may_have}
use Rattle.host_widgets.specs.HostActs.{Trig, Free, triggered_stream}
use Rattle.host_widgets.specs.ActLists.{close_by}
use Rattle.host_widgets.specs.Expected.{stream_view, phase_of}
use Rattle.host_widgets.specs.Host.{Outcome}
use Rattle.host_widgets.specs.Kept.{with_stream}
use Rattle.host_widgets.specs.StreamStands.{takes_trigger}
use Rattle.host_widgets.specs.Walk.{walk}
use Rattle.host_pcm.specs.Asks.{is_closed}
use Rattle.host_pcm.specs.StreamCalls.{shut}
use Rattle.host_dynamic.specs.Dynamic.{after_closing, closing_by}
use Rattle.host_widgets.specs.UpState.{UpState, up_act_rules, cut_off}
use Rattle.host_widgets.specs.Need.{need_in}
use Rattle.host_dynamic.specs.UpStates.{IsThereBy, IsUpState}
use Rattle.host_widgets.proofs.StageStreams.{changed_one, zip-changed}
use Rattle.host_dynamic.proofs.UpClosing.{shut-off}
use Rattle.host_dynamic.proofs.UpNeeds.{IsAsked, asked-needed, up-brought}
use Rattle.host_dynamic.proofs.UpOpening.{down-state}
use Rattle.host_widgets.proofs.UpStages.{StreamPair}
use Rattle.host_dynamic.proofs.UpStreams.{HasFreed, freed-keeps, begun, freed-so}
use Rattle.host_dynamic.proofs.UpTriggers.{one-pair, may-be, triggered, triggered-state, triggered-pair, stands-then}
use Rattle.host_widgets.proofs.UpWalks.{Keeps, Steps, Came, walk-steps}
use Rattle.host_widgets.proofs.StageStays.{from-map}

module _ (plan : Plan) (sound : IsSound plan) (s : UpState) (is : IsUpState plan s) (host : ℕ) where
  -- what the other streams need is up
  shut-asked : (i : ℕ) → IsAsked plan sound (with_stream plan host shut s.kept) i → is_among s.up i ≡ true
  shut-asked i (q, there, open_q, need) =
      let r = from-map (changed_one host shut) (zip plan.streams s.kept.streams) q (subst (IsIn q) (zip-changed host shut plan.streams s.kept.streams) there) in
      by r (r.0.0.host == host) refl
    where
      by : (r : (x : StreamPair) × IsIn x (zip plan.streams s.kept.streams) × (q ≡ changed_one host shut x)) (b : Bool) → (r.0.0.host == host) ≡ b → is_among s.up i ≡ true
      by r true e = absurd (true≢false (sym (ap (λ (b : Bool). is_closed (cond b (shut r.0.1) r.0.1).found) e) ∙ ap (λ (x : StreamPair). is_closed x.1.found) (sym r.2) ∙ open_q))
      by r false e =
          let one : r.0 ≡ q = ap (λ (b : Bool). (r.0.0, cond b (shut r.0.1) r.0.1)) (sym e) ∙ sym r.2 in
          (is.up i).1 (asked-needed plan sound s.kept i (r.0, r.1, ap (λ (x : StreamPair). is_closed x.1.found) one ∙ open_q, ap (λ (x : StreamPair). is_among (need_in plan.graph x.0.host) i) one ∙ need))

  -- while the power is off nothing is sent
  pub closing-off : {Q : Type 0} (next : Q → Meeting × Q) (q : Q) (found : Found) → s.kept.power ≡ powers.Off → Keeps plan next (IsUpState plan) s q (closing_by powers.Off plan host found s)
  closing-off next q found off = shut-off plan sound s host is.record_is is.once shut-asked off (subst (λ (power : Power). IsThereBy power plan s) off is.there)

module _ (plan : Plan) (sound : IsSound plan) (s : UpState) (is : IsUpState plan s) (on : s.kept.power ≡ powers.On) (host : ℕ) (p : StreamPair) (found : find (λ (q : StreamPair). q.0.host == host) (zip plan.streams s.kept.streams) ≡ Some p) (open_yet : is_closed p.1.found ≡ false) where
  abbrev pub Ended : UpState → Type 0
  Ended u = HasFreed plan sound s.up host u

  -- ---- one that was open alone

  open-none : (params : Option Params) → may_have founds.Open params ≡ true → params ≡ None
  open-none None may = refl
  open-none (Some x) may = absurd (false≢true may)

  freed-open : p.1.found ≡ founds.Open → Ended s
  freed-open opened = record {
    up_is = refl;
    on = on;
    record_is = is.record_is;
    rests = λ q there e. subst (λ (x : StreamPair). stream_view (x.0, shut x.1) ≡ stream_view x) (sym (one-pair plan sound s is host p found q there e)) rest;
    bare = λ q there e. ap (λ (x : StreamPair). is_some x.1.params) (one-pair plan sound s is host p found q there e) ∙ ap is_some none;
    asked = shut-asked plan sound s is host;
    stage = begun plan sound s.up host s is refl on;
  }
    where
      none : p.1.params ≡ None
      none = open-none p.1.params (ap (λ (f : Found). may_have f p.1.params) (sym opened) ∙ may-be plan sound s is host p found)

      rest : stream_view (p.0, shut p.1) ≡ stream_view p
      rest = λ i. record { host = p.0.host; phase = phase_of (sym opened i); params = sym none i }

  -- ---- one that runs or is paused is stopped first

  module _ (moves : takes_trigger Stop p.1.found ≡ true) where
    abbrev stopped : UpState
    stopped = triggered plan sound s is host p found on Stop moves

    prepared-then : (changed_one host (triggered_stream Stop) p).1.found ≡ founds.Prepared
    prepared-then = stands-then plan sound s is host p found on Stop moves

    stop-steps : Steps plan (IsUpState plan) s ((Trig host Stop) ∷ (Free host) ∷ []) Ended
    stop-steps = (is, λ free. (triggered-state plan sound s is host p found on Stop moves, λ free'. freed-so plan sound s.up host stopped (triggered-state plan sound s is host p found on Stop moves) refl on (changed_one host (triggered_stream Stop) p) (triggered-pair plan sound s is host p found on Stop moves) (ap is_closed prepared-then) prepared-then))

  -- ---- all of it

  pub steps : (f : Found) → p.1.found ≡ f → Steps plan (IsUpState plan) s (close_by host f) Ended
  steps founds.Running e = stop-steps (ap (takes_trigger Stop) e)
  steps founds.Paused e = stop-steps (ap (takes_trigger Stop) e)
  steps founds.Prepared e = (is, λ free. freed-so plan sound s.up host s is refl on p found open_yet e)
  steps founds.Open e = freed-open e
  steps founds.Closed e = absurd (true≢false (sym (ap is_closed e) ∙ open_yet))
  steps founds.On e = absurd (false≢true (sym (ap (λ (f : Found). may_have f p.1.params) e) ∙ may-be plan sound s is host p found))

  module _ {Q : Type 0} (next : Q → Meeting × Q) where
    module _ (v : UpState) (r : Q) where
      abbrev Goal : Outcome → Type 0
      Goal o = Keeps plan next (IsUpState plan) v r (after_closing plan host v o)

      down : IsUpState plan v → IsUpState plan (cut_off v)
      down k = down-state plan sound v (record { record_is = k.record_is; up_is = k.up; once = k.once })

      faulted : (fault : HostFault) → IsUpState plan v → Goal (Err fault)
      faulted (faults.Refused e) k = k
      faulted fault k = down k

      come : (o : Outcome) → Came plan (IsUpState plan) Ended o v → Goal o
      come (Ok passed) ended = freed-keeps plan sound s.up host next is.once (up-brought plan sound s.kept s.up is.record_is is.up) v r ended
      come (Err fault) k = faulted fault k

    pub closing-keeps : (q : Q) → Keeps plan next (IsUpState plan) s q (closing_by powers.On plan host p.1.found s)
    closing-keeps q =
        let w = walk (up_act_rules plan) false next s q (close_by host p.1.found) in
        come w.kept w.queue w.outcome (walk-steps plan next (IsUpState plan) Ended (close_by host p.1.found) s q (steps p.1.found refl))
