-- What a command does once its tests have passed, and how it ends.
use Rattle.std.specs.Prelude.{◌≡◌, ℕ, List, [], ◌∷◌, Bool, true, false, Option, Some, None, Ok, Err}
use Rattle.stream_law.specs.Past.{Moment, Boot, Cut, Tick}
use Rattle.mbox_link.specs.Calls.{World, Meaning, Led}
use Rattle.tplg_plan.specs.declared.plans.Plan.{Plan}
use Rattle.host_widgets.specs.declared.answers.Answer.{Answer}
use Rattle.host_widgets.specs.declared.answers.Answer.TheVariants as answers
use Rattle.host_widgets.specs.declared.answers.HostFault.{HostFault}
use Rattle.host_widgets.specs.declared.answers.HostFault.TheVariants.{NotLoaded, Loaded, LinkDown}
use Rattle.host_widgets.specs.declared.kept.Power.{Power}
use Rattle.host_widgets.specs.declared.kept.Power.TheVariants.{Unloaded, On}
use Rattle.host_widgets.specs.Host.{Outcome}
use Rattle.mbox_link.specs.Meetings.{Meeting}
use Rattle.host_widgets.specs.declared.kept.Record.{Record}
use Rattle.host_widgets.specs.Kept.{first_record, with_power, went_down}
use Rattle.host_widgets.specs.HostActs.{Act}
use Rattle.host_widgets.specs.OneAct.{act_rules}
use Rattle.host_widgets.specs.Walk.{Walked, walk}
use Rattle.host_widgets.specs.ActCalls.{ActsDid, next_of, calls_of}
use Rattle.host_widgets.specs.ActLists.{bring_up, bring_back, go_down}

-- how a command ends: alone, or bringing the device up or back, or down
pub data Ending : Type 0 where
  Plain : Ending
  Loading : Ending
  Resuming : Ending
  Suspending : Ending

-- What a command does: moments of the device before any message, acts, how it ends, the record once all passed, and the answer
-- then.
pub record Procedure : Type 0 where
  pub first : List Moment
  pub acts : List Act
  pub ending : Ending
  pub done : Record → Record
  pub answer : Answer

-- after a refusal, acts go on only where the device goes down
abbrev pub goes_on_after_refusal : Ending → Bool
goes_on_after_refusal Suspending = true
goes_on_after_refusal ending = false

-- ---- how it ends: the record, and the last moments

-- alone: a refusal leaves the record so far, and a failed link takes it down
abbrev pub plain_end : (Record → Record) → Record → Outcome → Record × List Moment
plain_end done now (Ok passed) = (done now, [])
plain_end done now (Err LinkDown) = (went_down now, Cut ∷ [])
plain_end done now (Err fault) = (now, [])

-- bringing up or back: any failure leaves this record, with the device cut
abbrev pub brought_end : (Record → Record) → Record → Record → Outcome → Record × List Moment
brought_end done failed now (Ok passed) = (done now, [])
brought_end done failed now (Err fault) = (failed, Cut ∷ [])

-- by the record at the command's start, the record so far, and the result of its acts
abbrev pub end_by : Ending → Plan → (Record → Record) → Record → Record → Outcome → Record × List Moment
end_by Plain plan done start now outcome = plain_end done now outcome
end_by Loading plan done start now outcome = brought_end done (first_record plan) now outcome
end_by Resuming plan done start now outcome = brought_end done start now outcome
end_by Suspending plan done start now outcome = (went_down now, Cut ∷ [])

-- ---- rows

-- one that changes nothing, with this answer
abbrev pub quiet : Answer → Procedure
quiet answer = record { first = []; acts = []; ending = Plain; done = λ kept. kept; answer = answer }

-- one that sends acts where the power is on, and leaves this
abbrev pub sends : Power → List Act → (Record → Record) → Answer → Procedure
sends On acts done answer = record { first = []; acts = acts; ending = Plain; done = done; answer = answer }
sends power acts done answer = record { first = []; acts = []; ending = Plain; done = done; answer = answer }

-- moments of a device that is on
abbrev pub where_on : Power → List Moment → List Moment
where_on On moments = moments
where_on power moments = []

abbrev pub loading : Plan → Record → Procedure
loading plan kept = record { first = Boot ∷ []; acts = bring_up plan kept; ending = Loading; done = with_power On; answer = answers.Done }

abbrev pub unloading : Plan → Record → Procedure
unloading plan kept =
    record { first = where_on kept.power (Cut ∷ []); acts = []; ending = Plain; done = λ now. first_record plan; answer = answers.Done }

abbrev pub suspending : Plan → Record → Procedure
suspending plan kept = record { first = []; acts = go_down plan kept; ending = Suspending; done = went_down; answer = answers.Done }

abbrev pub resuming : Plan → Record → Procedure
resuming plan kept = record { first = Boot ∷ []; acts = bring_back plan kept; ending = Resuming; done = with_power On; answer = answers.Done }

abbrev pub ticking : Record → Procedure
ticking kept = record { first = where_on kept.power (Tick ∷ []); acts = []; ending = Plain; done = λ now. now; answer = answers.Done }

-- ---- over any device

-- what a walk left is ended: the record, and the calls of the last moments
abbrev pub Ends : {D : Type 0} → Meaning D → Plan → ℕ → Procedure → Record → Record → World D → World D → Walked Record Act (List Meeting) → Type 0
Ends means plan heap o kept kept' w v walked =
    let end = end_by o.ending plan o.done kept walked.kept walked.outcome in (kept' ≡ end.0) × Led means w (calls_of heap end.1) v

-- Its calls were made and no others: those of its first moments, one exchange for each act up to the end of the walk, and those of
-- its last moments. By what the messages met there, its result is this, and it left this record.
pub record Carried {D : Type 0} (means : Meaning D) (plan : Plan) (heap : ℕ) (o : Procedure) (kept kept' : Record) (w v : World D) (result : Outcome) : Type 0 where
  pub meetings : List Meeting
  pub begun : World D
  pub sent : World D
  pub first : Led means w (calls_of heap o.first) begun
  pub walked : ActsDid means (act_rules plan heap) (goes_on_after_refusal o.ending) kept o.acts meetings begun sent
  pub came : result ≡ (walk (act_rules plan heap) (goes_on_after_refusal o.ending) next_of kept meetings o.acts).outcome
  pub ends : Ends means plan heap o kept kept' sent v (walk (act_rules plan heap) (goes_on_after_refusal o.ending) next_of kept meetings o.acts)

-- ---- a call, by its test

-- what is loaded is not loaded again, and only what is loaded is let go
abbrev pub fault_of_load : Power → Option HostFault
fault_of_load Unloaded = None
fault_of_load power = Some Loaded

abbrev pub unload_fault : Power → Option HostFault
unload_fault Unloaded = Some NotLoaded
unload_fault power = None
