-- A device that agrees with what is up, and a state of it.
use Rattle.std.proofs.Common.{◌≡◌, refl, sym, ap, subst, ◌∙◌, ℕ, List, [], ◌∷◌, map, true, false, Option, Some, None, Err}
use Rattle.std.specs.Prelude.{is_some}
use Rattle.std.specs.Option.{option_map}
use Rattle.std.proofs.lemmas.Bool.{false≢true}
use Rattle.stream_law.specs.Past.{Cut}
use Rattle.stream_law.specs.State.{FwState, View, view_of}
use Rattle.mbox_link.specs.Calls.{World, Meaning, Led}
use Rattle.tplg_plan.specs.declared.plans.Plan.{Plan}
use Rattle.host_widgets.specs.declared.answers.HostFault.{HostFault}
use Rattle.host_widgets.specs.declared.kept.Power.{Power}
use Rattle.host_widgets.specs.declared.kept.Power.TheVariants as powers
use Rattle.host_widgets.specs.declared.kept.Record.{Record}
use Rattle.host_widgets.specs.ActCalls.{next_of, calls_of}
use Rattle.host_widgets.specs.ActRules.{ActRules}
use Rattle.host_widgets.specs.Host.{Outcome, SidesBy}
use Rattle.host_widgets.specs.Routines.{Job, JobDone, JobTested}
use Rattle.host_widgets.specs.Walk.{walk}
use Rattle.host_widgets.specs.UpState.{UpState, up_act_rules}
use Rattle.host_widgets.specs.There.{there_in, there_view}
use Rattle.host_widgets.specs.Up.{up_view}
use Rattle.host_dynamic.specs.UpDevices.{there_on, up_state_in, UpAgrees}
use Rattle.host_dynamic.specs.UpStates.{IsThereBy, IsUpState}
use Rattle.host_dynamic.proofs.JobLegs.{HasGone}
use Rattle.host_widgets.proofs.UpSending.{StagedFirst, HasSent}
use Rattle.host_widgets.proofs.UpWalks.{Keeps, routine-keeps}
use Rattle.host_widgets.specs.HostActs.{Act, Unmake}

-- a device is on where the power is, and else off
abbrev pub IsSwitched : Power → Option FwState → Type 0
IsSwitched powers.On on = is_some on ≡ true
IsSwitched power on = on ≡ None

-- no part of a blob is unmade
pub unmakes-loose : (ids : List ℕ) (f : FwState) → StagedFirst (map Unmake ids) f
unmakes-loose [] f = tt
unmakes-loose (id ∷ ids) f = tt

module _ {D : Type 0} (means : Meaning D) (plan : Plan) where
  pub agrees-of : (kept : Record) (up : List ℕ) (d : D) → IsUpState plan (up_state_in means kept up d) → IsSwitched kept.power (means.on d) → UpAgrees means plan kept up d
  agrees-of kept up d is switched = record { record_is = is.record_is; sides = by kept.power is.there switched }
    where
      shown : (o : Option FwState) → is_some o ≡ true → (view : View) → there_view (there_on o) ≡ view → option_map view_of o ≡ Some view
      shown None none view same = absurd (false≢true none)
      shown (Some f) some view same = ap Some same

      by : (p : Power) → IsThereBy p plan (up_state_in means kept up d) → IsSwitched p (means.on d) → SidesBy means plan (up_view plan kept up) kept d p
      by powers.On there on = shown (means.on d) on (up_view plan kept up) there.view
      by powers.Off there off = (there.1, off)
      by powers.Unloaded there off = (there.1, off)

  pub switched-of : (kept : Record) (up : List ℕ) (d : D) → UpAgrees means plan kept up d → IsSwitched kept.power (means.on d)
  switched-of kept up d agree = by kept.power agree.sides
    where
      some : (o : Option FwState) (view : View) → option_map view_of o ≡ Some view → is_some o ≡ true
      some None view is = absurd (cc is)
      some (Some f) view is = refl

      by : (p : Power) → SidesBy means plan (up_view plan kept up) kept d p → IsSwitched p (means.on d)
      by powers.On sides = some (means.on d) (up_view plan kept up) sides
      by powers.Off sides = sides.1
      by powers.Unloaded sides = sides.1

  -- while the power is off, so is it
  pub switched-off : (kept : Record) (up : List ℕ) (d : D) → UpAgrees means plan kept up d → (kept.power ≡ powers.On → ⊥) → means.on d ≡ None
  switched-off kept up d agree off = by kept.power off (switched-of kept up d agree)
    where
      by : (p : Power) → (p ≡ powers.On → ⊥) → IsSwitched p (means.on d) → means.on d ≡ None
      by powers.On off switched = absurd (off refl)
      by powers.Off off switched = switched
      by powers.Unloaded off switched = switched

  -- a state that a job leaves is one in which what is up is there
  pub done-state : (heap : ℕ) (job : Job UpState Act) (now : UpState) (w v : World D) (result : Outcome) → (d : JobDone means (up_act_rules plan) heap job now w v result) → Keeps plan next_of (IsUpState plan) job.from d.meetings job.routine → IsUpState plan now
  done-state heap job now w v result d keeps = subst (IsUpState plan) (sym d.left) (routine-keeps plan next_of (IsUpState plan) job.from d.meetings job.routine keeps)

  -- what was sent, as one leg of a job
  pub gone-of : (u : UpState) (acts passed : List Act) (w v : World D) (result : Outcome) → (h : HasSent plan means u acts passed w v result) → HasGone means (up_act_rules plan) u acts false w v (walk (up_act_rules plan) false next_of u h.meetings acts).kept result
  gone-of u acts passed w v result h = record { meetings = h.meetings; did = h.did; came = h.came; left_is = refl }

  -- a device that was cut is off, and nothing is there
  pub cut-none : (heap : ℕ) (w v : World D) → Led means w (calls_of heap (Cut ∷ [])) v → means.on v.device ≡ None
  cut-none heap w v (m, cut, same) = ap (λ (x : World D). means.on x.device) same ∙ cut.0.on

  -- what ended so is there
  pub there-then : (u : UpState) (v : World D) → (g : FwState) × (means.on v.device ≡ Some g) × (there_in g ≡ u.there) → there_on (means.on v.device) ≡ u.there
  there-then u v (g, on, same) = ap there_on on ∙ same

-- ---- a call, by its test

module _ {D S A : Type 0} (means : Meaning D) (rules : ActRules S A) (heap : ℕ) where
  -- a fault was reported, with nothing changed and no call made
  pub early-tested : (test : Option HostFault) (job : Job S A) (kept : S) (w : World D) (result : Outcome) (fault : HostFault) → test ≡ Some fault → result ≡ Err fault → JobTested means rules heap test job kept kept w w result
  early-tested test job kept w result fault at is = record {
    early = λ other same. (let one : fault ≡ other = cc (sym at ∙ same) in (is ∙ ap (λ (f : HostFault). Err f) one, refl, refl));
    late = λ none. absurd (cc (sym at ∙ none));
  }

  -- no test reported a fault
  pub late-tested : (test : Option HostFault) (job : Job S A) (kept kept' : S) (w v : World D) (result : Outcome) → test ≡ None → JobDone means rules heap job kept' w v result → JobTested means rules heap test job kept kept' w v result
  late-tested test job kept kept' w v result none done = record { early = λ fault at. absurd (cc (sym none ∙ at)); late = λ same. done }

-- it did as its test and its job say, and what is up agrees with the device then
pub record IsCalled {D : Type 0} (means : Meaning D) (plan : Plan) (heap : ℕ) (test : Option HostFault) (job : Job UpState Act) (s : UpState) (kept' : Record) (up' : List ℕ) (w v : World D) (result : Outcome) : Type 0 where
  pub tested : JobTested means (up_act_rules plan) heap test job s (up_state_in means kept' up' v.device) w v result
  pub state : IsUpState plan (up_state_in means kept' up' v.device)
  pub agree : UpAgrees means plan kept' up' v.device

module _ {D : Type 0} (means : Meaning D) (plan : Plan) (heap : ℕ) (kept : Record) (up : List ℕ) (w : World D) where
  -- a fault was reported before any message
  pub called-early : IsUpState plan (up_state_in means kept up w.device) → UpAgrees means plan kept up w.device → (test : Option HostFault) (job : Job UpState Act) (fault : HostFault) (result : Outcome) → test ≡ Some fault → result ≡ Err fault →
      IsCalled means plan heap test job (up_state_in means kept up w.device) kept up w w result
  called-early is agree test job fault result at told =
      record { tested = early-tested means (up_act_rules plan) heap test job (up_state_in means kept up w.device) w result fault at told; state = is; agree = agree }

  -- its job was done
  pub called-late : (test : Option HostFault) (job : Job UpState Act) (kept' : Record) (up' : List ℕ) (v : World D) (result : Outcome) → test ≡ None → JobDone means (up_act_rules plan) heap job (up_state_in means kept' up' v.device) w v result →
      IsUpState plan (up_state_in means kept' up' v.device) → IsSwitched kept'.power (means.on v.device) → IsCalled means plan heap test job (up_state_in means kept up w.device) kept' up' w v result
  called-late test job kept' up' v result none done state switched = record {
    tested = late-tested means (up_act_rules plan) heap test job (up_state_in means kept up w.device) (up_state_in means kept' up' v.device) w v result none done;
    state = state;
    agree = agrees-of means plan kept' up' v.device state switched;
  }
