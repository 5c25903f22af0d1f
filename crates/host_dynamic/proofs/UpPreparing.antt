-- A stream that has parameters, where all that it needs is up, leaves a state in which what is up is there.
use Rattle.std.proofs.Common.{◌≡◌, refl, sym, ap, subst, ◌∙◌, ℕ, List, [], ◌∷◌, map, Bool, true, false, cond, not, ◌==◌, Some, None, Ok, Err}
use Rattle.std.specs.Prelude.{Option, Result, ℤ, find, nat_le, ◌&&◌}
use Rattle.std.specs.List.{zip, list_any}
use Rattle.std.proofs.lemmas.Bool.{false≢true, eqb-true, and_parts}
use Rattle.sof_base.specs.declared.errno.Errno.{Errno}
use Rattle.sof_base.specs.declared.format.Params.{Params}
use Rattle.stream_law.specs.declared.graph.Comp.{Comp}
use Rattle.stream_law.specs.declared.stream.Phase.TheVariants as phases
use Rattle.stream_law.specs.declared.stream.StreamView.{StreamView}
use Rattle.stream_law.specs.State.{FwState}
use Rattle.stream_law.specs.Order.{is_among}
use Rattle.stream_law.specs.Ways.{comp_of, agree, is_live_phase}
use Rattle.stream_law.proofs.Members.{IsIn, in-any, find-in}
use Rattle.ipc3_model.specs.declared.message.Message.TheVariants.{PcmParams}
use Rattle.mbox_link.specs.Step.{is_rate, row, set_stream, invalid}
use Rattle.tplg_plan.specs.declared.plans.Plan.{Plan}
use Rattle.tplg_plan.specs.declared.plans.StreamPlan.{StreamPlan}
use Rattle.tplg_plan.specs.Sound.{IsSound}
use Rattle.host_widgets.specs.Acts.{direction_of}
use Rattle.host_widgets.specs.declared.kept.Found.{Found}
use Rattle.host_widgets.specs.declared.kept.Found.TheVariants as founds
use Rattle.host_widgets.specs.declared.kept.Power.{Power}
use Rattle.host_widgets.specs.declared.kept.Power.TheVariants as powers
use Rattle.host_widgets.specs.declared.kept.Record.{Record}
use Rattle.host_widgets.specs.Expected.{stream_view, phase_of}
use Rattle.host_widgets.specs.Host.{errno, conflicts, IsRecordOf}
use Rattle.host_widgets.specs.HostActs.{Prepare, prepared_stream}
use Rattle.host_widgets.specs.HostRecord.{are_in_range}
use Rattle.host_widgets.specs.Kept.{control_at, with_stream}
use Rattle.host_widgets.specs.StreamStands.{takes_params}
use Rattle.host_widgets.specs.ViewOf.{graph_by, record_setting, record_view}
use Rattle.host_widgets.proofs.ReadyWays.{has_host}
use Rattle.host_widgets.proofs.RecordsStay.{AllAt, record-with}
use Rattle.host_widgets.proofs.StreamAnswers.{rests}
use Rattle.host_widgets.proofs.StreamRows.{agrees}
use Rattle.host_pcm.specs.Asks.{is_closed}
use Rattle.host_widgets.specs.There.{There, there_in, there_after, silent_state}
use Rattle.host_widgets.specs.UpState.{UpState, up_own, up_act_rules}
use Rattle.host_widgets.specs.Need.{IsEnough}
use Rattle.host_dynamic.specs.UpStates.{IsThereBy, IsUpState}
use Rattle.host_widgets.proofs.HostStreams.{IsHostKind, stream-comp, in-zip}
use Rattle.host_widgets.proofs.RowsThere.{row-told}
use Rattle.host_widgets.proofs.RowsTold.{told}
use Rattle.host_widgets.proofs.StagePrepares.{up-placed, up-has, one-of-host, prepare-told, prepare-is}
use Rattle.host_widgets.proofs.StageStreams.{changed_one, zip-changed, other-stays}
use Rattle.host_widgets.proofs.UpContext.{IsServing}
use Rattle.host_widgets.proofs.UpExchanges.{SaysSo, IsOwn}
use Rattle.host_dynamic.proofs.UpNeeds.{serving, stream-enough}
use Rattle.host_dynamic.proofs.UpOpening.{all-at}
use Rattle.host_dynamic.proofs.UpTriggers.{pairs-at}
use Rattle.host_widgets.proofs.UpStages.{StreamPair, at_stage, IsStage, up_stage}
use Rattle.host_dynamic.proofs.UpStanding.{there-stage, stage-there}
use Rattle.host_dynamic.proofs.UpStreams.{changed-state}

-- what takes parameters is not closed
takes-open : (found : Found) → takes_params found ≡ true → is_closed found ≡ false
takes-open founds.Closed takes = absurd (false≢true takes)
takes-open found takes = refl

-- the firmware itself refuses no parameters that conflict with none
none-refused : (b : Bool) (e : Errno) → ◌≡◌ {A = Option Errno} (cond b (Some e) None) None → b ≡ false
none-refused true e is = absurd (cc is)
none-refused false e is = refl

module _ (plan : Plan) (sound : IsSound plan) (s : UpState) (is : IsUpState plan s) (on : s.kept.power ≡ powers.On) (host : ℕ) (p : StreamPair)
    (found : find (λ (q : StreamPair). q.0.host == host) (zip plan.streams s.kept.streams) ≡ Some p) (takes : takes_params p.1.found ≡ true) (params : Params) (range : are_in_range params ≡ true) where
  abbrev pairs : List StreamPair
  pairs = zip plan.streams s.kept.streams

  abbrev now : Record
  now = with_stream plan host (prepared_stream params) s.kept

  abbrev given : StreamView → StreamView
  given = set_stream host phases.Prepared (Some params)

  in-pairs : IsIn p pairs × ((p.0.host == host) ≡ true)
  in-pairs = find-in (λ (q : StreamPair). q.0.host == host) pairs p found

  same-host : p.0.host ≡ host
  same-host = eqb-true p.0.host host in-pairs.1

  one-pair : (q : StreamPair) → IsIn q pairs → (q.0.host == host) ≡ true → q ≡ p
  one-pair = one-of-host plan sound s.kept host p found

  rate : is_rate params.rate ≡ true
  rate = (and_parts (is_rate params.rate) (nat_le 1 params.channels && nat_le params.channels 8) range).0

  -- ---- what is there

  serves : IsServing plan s.kept s.up
  serves = serving plan sound s.kept s.up is.record_is is.up

  comp : (c : Comp) × (comp_of plan.graph host ≡ Some c) × IsHostKind c.kind
  comp = let c = stream-comp plan sound s.kept p in-pairs.0 in (c.0, ap (comp_of plan.graph) (sym same-host) ∙ c.1, c.2)

  has-all : IsEnough plan.graph host (is_among s.up)
  has-all = subst (λ (x : ℕ). IsEnough plan.graph x (is_among s.up)) same-host (stream-enough plan sound s.kept s.up is.record_is is.up p in-pairs.0 (takes-open p.1.found takes))

  begun : IsStage plan s.kept (up_stage plan s.up) s.there
  begun = there-stage plan sound s (subst (λ (power : Power). IsThereBy power plan s) on is.there)

  -- ---- the record

  one-shown : (q : StreamPair) → stream_view (changed_one host (prepared_stream params) q) ≡ given (stream_view q)
  one-shown q = other-stays host (prepared_stream params) given q
      (λ e. ap (λ (b : Bool). cond b (record { host = q.0.host; phase = phases.Prepared; params = Some params }) (stream_view q)) (sym e))
      (λ e. ap (λ (b : Bool). cond b (record { host = q.0.host; phase = phases.Prepared; params = Some params }) (stream_view q)) e)

  all-shown : (ps : List StreamPair) → map stream_view (map (changed_one host (prepared_stream params)) ps) ≡ map given (map stream_view ps)
  all-shown [] = refl
  all-shown (q ∷ ps) = λ i. one-shown q i ∷ all-shown ps i

  shown : map stream_view (zip plan.streams now.streams) ≡ map given (map stream_view pairs)
  shown = ap (map stream_view) (zip-changed host (prepared_stream params) plan.streams s.kept.streams) ∙ all-shown pairs

  some-host : has_host plan.streams host ≡ true
  some-host = in-any (λ (x : StreamPlan). x.host == host) plan.streams p.0 (in-zip plan.streams s.kept.streams p in-pairs.0).0 in-pairs.1

  rests-at : AllAt (λ r. is_live_phase (phase_of r.found) ≡ false) host plan.streams s.kept.streams
  rests-at = pairs-at (λ r. is_live_phase (phase_of r.found) ≡ false) host plan.streams s.kept.streams (λ q there e. ap (λ (x : StreamPair). is_live_phase (phase_of x.1.found)) (one-pair q there e) ∙ rests p.1.found takes)

  -- a firmware that shows it
  abbrev showing : FwState
  showing = silent_state (record { heap = s.there.heap; graph = graph_by plan s.kept; streams = map stream_view pairs })

  shapes-then : list_any (conflicts plan host params) pairs ≡ false → agree (record_view plan now) ≡ true
  shapes-then free =
      ap (λ (ss : List StreamView). agree (record { graph = graph_by plan s.kept; streams = ss })) shown
      ∙ agrees plan sound (λ (c : Comp). record_setting c.kind (control_at plan s.kept c.id)) s.kept.streams is.record_is.streams host some-host showing refl is.record_is.shapes params rate rests-at
      ∙ ap not free

  record-then : list_any (conflicts plan host params) pairs ≡ false → IsRecordOf plan now
  record-then free = record-with plan s.kept host (prepared_stream params) is.record_is (all-at host plan.streams s.kept.streams (λ r. range)) (shapes-then free)

  -- ---- the state once the message has passed

  there-then : list_any (conflicts plan host params) pairs ≡ false → there_after plan (Prepare host params) s.there ≡ at_stage plan now (up_stage plan s.up) s.there.heap
  there-then free =
      ap (there_after plan (Prepare host params)) begun.is
      ∙ prepare-is plan sound s.kept s.up (up_stage plan s.up) (up-has plan sound s.up serves.brought) (up-placed plan sound s.up) s.there.heap host has-all comp.0 comp.1 comp.2 params serves p found takes rate free

  pub prepared-state : up_own plan s (Prepare host params) ≡ None → IsUpState plan ((up_act_rules plan).after (Prepare host params) s)
  prepared-state own_is = changed-state plan sound s is host (prepared_stream params) (λ q there e. sym (ap (λ (x : StreamPair). is_closed x.1.found) (one-pair q there e) ∙ takes-open p.1.found takes)) (record-then free) then.there
      (subst (λ (power : Power). IsThereBy power plan then) (sym on) (stage-there plan sound then (subst (IsStage plan now (up_stage plan s.up)) (sym (there-then free)) (record { is = refl; heap = begun.heap }))))
    where
      then : UpState
      then = (up_act_rules plan).after (Prepare host params) s

      free : list_any (conflicts plan host params) pairs ≡ false
      free = none-refused (list_any (conflicts plan host params) pairs) (errno invalid) own_is

  -- ---- what the firmware itself says

  abbrev said_by : Bool → Result There ℤ
  said_by b = cond b (Err invalid) (Ok (at_stage plan now (up_stage plan s.up) s.there.heap))

  told-then : told (row (silent_state (at_stage plan s.kept (up_stage plan s.up) s.there.heap)) (PcmParams host (direction_of plan host) params)) ≡ said_by (list_any (conflicts plan host params) pairs)
  told-then = prepare-told plan sound s.kept s.up (up_stage plan s.up) (up-has plan sound s.up serves.brought) (up-placed plan sound s.up) s.there.heap host has-all comp.0 comp.1 comp.2 params serves p found takes rate

  -- it refuses them where they conflict with those of another stream, and else takes them
  pub own-prepare : (f : FwState) → there_in f ≡ s.there → IsOwn plan s (Prepare host params) f
  own-prepare f same = by (list_any (conflicts plan host params) pairs) refl
    where
      said : told (row f (PcmParams host (direction_of plan host) params)) ≡ said_by (list_any (conflicts plan host params) pairs)
      said = row-told f (PcmParams host (direction_of plan host) params) tt ∙ ap (λ (t : There). told (row (silent_state t) (PcmParams host (direction_of plan host) params))) (same ∙ begun.is) ∙ told-then

      by : (c : Bool) → list_any (conflicts plan host params) pairs ≡ c → SaysSo plan s (Prepare host params) (cond c (Some (errno invalid)) None) (told (row f (PcmParams host (direction_of plan host) params)))
      by true e = (invalid, said ∙ ap said_by e, refl)
      by false e = said ∙ ap said_by e ∙ (λ i. Ok (sym (there-then e) i))
