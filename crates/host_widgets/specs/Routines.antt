-- What a command does step by step: acts are sent, and by their results it goes on.
use Rattle.std.specs.Prelude.{◌≡◌, ℕ, List, [], ◌++◌, Bool, Option, Some, None, Ok, Err}
use Rattle.stream_law.specs.Past.{Moment}
use Rattle.mbox_link.specs.Calls.{World, Meaning, Led}
use Rattle.mbox_link.specs.Meetings.{Meeting}
use Rattle.tplg_plan.specs.declared.plans.Plan.{Plan}
use Rattle.host_widgets.specs.declared.answers.Answer.{Answer}
use Rattle.host_widgets.specs.declared.answers.HostFault.{HostFault}
use Rattle.host_widgets.specs.declared.kept.Record.{Record}
use Rattle.host_widgets.specs.Host.{Outcome}
use Rattle.host_widgets.specs.HostActs.{Act}
use Rattle.host_widgets.specs.ActRules.{ActRules}
use Rattle.host_widgets.specs.Walk.{Walked, walk, first_of}
use Rattle.host_widgets.specs.ActCalls.{ActsDid, next_of, calls_of}
use Rattle.host_widgets.specs.Orders.{Procedure, goes_on_after_refusal, end_by}

-- A routine is finished, with this kept and these last moments; or acts are sent, up to the first after which they do not go on, and
-- by what is kept then and their result there is another routine.
pub data Routine (S A : Type 0) : Type 0 where
  Finished : (kept : S) (moments : List Moment) → Routine S A
  Sending : (acts : List A) (goes_on : Bool) (then : S → Outcome → Routine S A) → Routine S A

-- nothing was sent yet
abbrev pub not_begun : {S A Q : Type 0} → S → Q → Walked S A Q
not_begun kept q = record { outcome = Ok tt; kept = kept; moments = []; sent = []; queue = q }

-- of all that was sent a failed link is reported first, and else the first refusal
abbrev pub followed : {S A Q : Type 0} → Walked S A Q → Walked S A Q → Walked S A Q
followed before later = record {
  outcome = first_of before.outcome later.outcome;
  kept = later.kept;
  moments = before.moments ++ later.moments;
  sent = before.sent ++ later.sent;
  queue = later.queue;
}

-- a routine, after what was sent before it
abbrev pub walk_on : {S A Q : Type 0} → ActRules S A → (Q → Meeting × Q) → Walked S A Q → Routine S A → Walked S A Q
walk_on rules next before (Finished kept moments) =
    record { outcome = before.outcome; kept = kept; moments = before.moments ++ moments; sent = before.sent; queue = before.queue }
walk_on rules next before (Sending acts goes_on then) =
    let now = walk rules goes_on next before.kept before.queue acts in walk_on rules next (followed before now) (then now.kept now.outcome)

abbrev pub walk_routine : {S A Q : Type 0} → ActRules S A → (Q → Meeting × Q) → S → Q → Routine S A → Walked S A Q
walk_routine rules next kept q routine = walk_on rules next (not_begun kept q) routine

-- What a command does once its tests have passed: moments of the device before any message, what is kept after these, its routine, and
-- its answer where all passed.
pub record Job (S A : Type 0) : Type 0 where
  pub first : List Moment
  pub from : S
  pub routine : Routine S A
  pub answer : Answer

-- an order is one walk, and its end
abbrev pub order_job : Plan → Record → Procedure → Job Record Act
order_job plan kept o = record {
  first = o.first;
  from = kept;
  routine = Sending o.acts (goes_on_after_refusal o.ending) (λ now outcome. let end = end_by o.ending plan o.done kept now outcome in Finished end.0 end.1);
  answer = o.answer;
}

-- ---- over any device

-- the exchanges of a routine were made and its last calls, and no other; each message met this
abbrev pub RoutineDid : {D S A : Type 0} → Meaning D → ActRules S A → ℕ → S → Routine S A → List Meeting → World D → World D → Type 0
RoutineDid means rules heap kept (Finished end moments) ms w v = (ms ≡ []) × Led means w (calls_of heap moments) v
RoutineDid {D} means rules heap kept (Sending acts goes_on then) ms w v =
    (early : List Meeting) × (late : List Meeting) × (mid : World D) × (ms ≡ early ++ late) × ActsDid means rules goes_on kept acts early w mid ×
    (let now = walk rules goes_on next_of kept early acts in RoutineDid means rules heap now.kept (then now.kept now.outcome) late mid v)

-- A job's calls were made and no others: those of its first moments, one exchange for each act up to the end of each walk, and those
-- of its last moments. By what the messages met there, its result is this, and this is kept.
pub record JobDone {D S A : Type 0} (means : Meaning D) (rules : ActRules S A) (heap : ℕ) (job : Job S A) (kept' : S) (w v : World D) (result : Outcome) : Type 0 where
  pub meetings : List Meeting
  pub begun : World D
  pub first : Led means w (calls_of heap job.first) begun
  pub did : RoutineDid means rules heap job.from job.routine meetings begun v
  pub came : result ≡ (walk_routine rules next_of job.from meetings job.routine).outcome
  pub left : kept' ≡ (walk_routine rules next_of job.from meetings job.routine).kept

-- where the test tells a fault, that is answered, with nothing changed and no call made; else the job is done
pub record JobTested {D S A : Type 0} (means : Meaning D) (rules : ActRules S A) (heap : ℕ) (test : Option HostFault) (job : Job S A) (kept kept' : S) (w v : World D) (result : Outcome) : Type 0 where
  pub early : (fault : HostFault) → test ≡ Some fault → (result ≡ Err fault) × (v ≡ w) × (kept' ≡ kept)
  pub late : test ≡ None → JobDone means rules heap job kept' w v result
