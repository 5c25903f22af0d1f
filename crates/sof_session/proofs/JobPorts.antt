-- What a job's calls leave of the endpoints, by any rules: where no tick is pending their bytes, and else their slots, and which inputs
-- have ended; the inputs move by the ticks that were pending.
use Rattle.std.proofs.Common.{◌≡◌, refl, sym, ap, ◌∙◌, subst, ℕ, ◌+◌, ◌*◌, ◌-◌, ◌≤◌, List, [], ◌∷◌, ◌++◌, Option, Some, None, inl, inr, arith}
use Rattle.stream_law.specs.Past as past
use Rattle.stream_law.specs.Past.{Moment}
use Rattle.stream_law.specs.State.{FwState}
use Rattle.sof_base.specs.Ports.{Io}
use Rattle.stream_law.specs.Stands.{position_of}
use Rattle.mbox_link.specs.Calls.{World, Meaning, Call, Led, MovesBy}
use Rattle.mbox_link.specs.Exchange.{ticks}
use Rattle.mbox_link.specs.Meetings.{Meeting}
use Rattle.mbox_link.specs.Link.{link}
use Rattle.mbox_link.specs.Wire.{Wire}
use Rattle.mbox_link.proofs.Led.{Led-append}
use Rattle.host_widgets.specs.ActRules.{ActRules}
use Rattle.host_widgets.specs.ActCalls.{next_of, calls_of}
use Rattle.host_widgets.specs.Host.{Outcome}
use Rattle.host_widgets.specs.Routines.{Routine, Finished, Sending, Job, JobDone, JobTested, RoutineDid}
use Rattle.host_widgets.specs.declared.answers.HostFault.{HostFault}
use Rattle.host_widgets.specs.Walk.{Walked, walk}
use Rattle.host_widgets.proofs.Exchanges.{came, state_of}
use Rattle.host_widgets.proofs.StandingOn.{AllStill}
use Rattle.sof_session.proofs.ActsLed.{IsKept, acts-keep}
use Rattle.sof_session.proofs.JobCalm.{routine-led}
use Rattle.sof_session.proofs.RoutinePasses.{EndsSo, EndsWell}
use Rattle.sof_session.proofs.Writings.{bound_ends, ticks-ends}

module _ {D : Type 0} (means : Meaning D) where
  -- boots and cuts leave the endpoints, and what is pending
  record IsStill (w v : World D) : Type 0 where
    io : v.io ≡ w.io
    pending : means.pending v.device ≡ means.pending w.device

  still-by : (w m v : World D) → IsStill w m → IsStill m v → IsStill w v
  still-by w m v first rest = record { io = rest.io ∙ first.io; pending = rest.pending ∙ first.pending }

  led-still : (heap : ℕ) (moments : List Moment) → AllStill moments → (w v : World D) → Led means w (calls_of heap moments) v → IsStill w v
  led-still heap [] still w v led = record { io = ap (λ (x : World D). x.io) led; pending = ap (λ (x : World D). means.pending x.device) led }
  led-still heap (past.Boot ∷ moments) still w v led = still-by w led.0 v (record { io = led.1.1; pending = led.1.0.quiet.pending }) (led-still heap moments still led.0 v led.2)
  led-still heap (past.Cut ∷ moments) still w v led = still-by w led.0 v (record { io = led.1.1; pending = led.1.0.quiet.pending }) (led-still heap moments still led.0 v led.2)
  led-still heap (past.Now view fresh ∷ moments) still w v led = led-still heap moments still w v led
  led-still heap (past.Tick ∷ moments) still w v led = absurd still

  -- ---- what an exchange leaves

  -- where no tick is pending, the endpoints, and no tick is pending after it
  abbrev StaysBy : World D → World D → Type 0
  StaysBy w v = means.pending w.device ≡ 0 → (v.io ≡ w.io) × (means.pending v.device ≡ 0)

  stays-kept : IsKept means StaysBy
  stays-kept = record {
    same = λ w none. (refl, none);
    after = λ w m v first rest none. (let a = first none in let b = rest a.1 in (b.0 ∙ a.0, b.1));
    exchange = λ request answer w v on x none.
        (let s = state_of (means.on w.device) on in
        let c = came means request answer w v s.0 s.1 x in
        let no_ticks : means.pending w.device - means.pending v.device ≡ 0 = omega (arith, none) in
        let before : ticks (means.pending w.device - means.pending v.device) (s.0, w.io) ≡ (s.0, w.io) = ap (λ (n : ℕ). ticks n (s.0, w.io)) no_ticks in
        let still : means.pending v.device ≡ 0 = omega (arith, none, x.steady.pending) in
        (c.endpoints ∙ ap (λ (p : FwState × Io). p.1) before, still));
  }

  -- the slots, and which inputs have ended, whatever ticks come
  abbrev EndsBy : World D → World D → Type 0
  EndsBy w v = bound_ends v.io ≡ bound_ends w.io

  ends-kept : IsKept means EndsBy
  ends-kept = record {
    same = λ w. refl;
    after = λ w m v first rest. rest ∙ first;
    exchange = λ request answer w v on x.
        (let s = state_of (means.on w.device) on in
        let c = came means request answer w v s.0 s.1 x in
        ap bound_ends c.endpoints ∙ ticks-ends (means.pending w.device - means.pending v.device) s.0 w.io);
  }

  -- no tick was made but those that are not pending any more
  record HasSent (w v : World D) : Type 0 where
    pending : means.pending v.device ≤ means.pending w.device
    moves : MovesBy (61440 * (means.pending w.device - means.pending v.device)) w.io.inputs v.io.inputs

  sent-kept : IsKept means HasSent
  sent-kept = record {
    same = λ w. record { pending = omega arith; moves = λ slot. omega arith };
    after = λ w m v first rest. record {
      pending = omega (arith, first.pending, rest.pending);
      moves = λ slot.
          (let now : position_of m.io.inputs slot ≤ position_of w.io.inputs slot + 61440 * (means.pending w.device - means.pending m.device) = first.moves slot in
          omega (arith, first.pending, rest.pending, now, rest.moves slot));
    };
    exchange = λ request answer w v on x. record { pending = x.steady.pending; moves = x.moves };
  }

  still-sent : (w v : World D) → IsStill w v → HasSent w v
  still-sent w v same = record {
    pending = omega (arith, same.pending);
    moves = λ slot. let at = ap (λ (x : Io). position_of x.inputs slot) same.io in omega (arith, at);
  }

  -- ---- a job, none of whose first and last moments is a tick

  module _ {S A : Type 0} (rules : ActRules S A) (heap : ℕ) where
    pub record IsStillJob (job : Job S A) : Type 0 where
      pub first : AllStill job.first
      pub ends : EndsWell job.routine

    still-last : (moments : List Moment) → EndsSo moments → AllStill moments
    still-last moments (inl is) = subst AllStill (sym is) tt
    still-last moments (inr is) = subst AllStill (sym is) tt

    module _ (Holds : World D → World D → Type 0) (keeps : IsKept means Holds) where
      -- what is so of an exchange and of last moments
      pub routine-keeps : ((moments : List Moment) → EndsSo moments → (w v : World D) → Led means w (calls_of heap moments) v → Holds w v) → (routine : Routine S A) (kept : S) (ms : List Meeting) (w v : World D) → EndsWell routine → RoutineDid means rules heap kept routine ms w v → Holds w v
      routine-keeps ended (Finished end moments) kept ms w v ends did = ended moments ends.0 w v did.1
      routine-keeps ended (Sending acts goes_on then) kept ms w v ends (early, late, mid, split, acts_did, rest_did) =
          let now : Walked S A (List Meeting) = walk rules goes_on next_of kept early acts in
          keeps.after w mid v (acts-keep means rules goes_on Holds keeps acts early kept w mid acts_did) (routine-keeps ended (then now.kept now.outcome) now.kept late mid v (ends.1 now.kept now.outcome tt) rest_did)

      -- and of a boot and a cut
      job-keeps : ((w v : World D) → IsStill w v → Holds w v) → (job : Job S A) (kept' : S) (w v : World D) (result : Outcome) → IsStillJob job → JobDone means rules heap job kept' w v result → Holds w v
      job-keeps quiet job kept' w v result still j =
          keeps.after w j.begun v (quiet w j.begun (led-still heap job.first still.first w j.begun j.first))
          (routine-keeps (λ moments is w v led. quiet w v (led-still heap moments (still-last moments is) w v led)) job.routine job.from j.meetings j.begun v still.ends j.did)

    pub job-io : (job : Job S A) (kept' : S) (w v : World D) (result : Outcome) → IsStillJob job → JobDone means rules heap job kept' w v result → means.pending w.device ≡ 0 → v.io ≡ w.io
    job-io job kept' w v result still j none = (job-keeps StaysBy stays-kept (λ w v same none. (same.io, same.pending ∙ none)) job kept' w v result still j none).0

    pub job-ends : (job : Job S A) (kept' : S) (w v : World D) (result : Outcome) → IsStillJob job → JobDone means rules heap job kept' w v result → bound_ends v.io ≡ bound_ends w.io
    job-ends job kept' w v result still j = job-keeps EndsBy ends-kept (λ w v same. ap bound_ends same.io) job kept' w v result still j

    -- the inputs move by the ticks that were pending
    pub job-moves : (job : Job S A) (kept' : S) (w v : World D) (result : Outcome) → IsStillJob job → JobDone means rules heap job kept' w v result → means.pending w.device ≤ 16 → MovesBy 983040 w.io.inputs v.io.inputs
    job-moves job kept' w v result still j few slot =
        let all = job-keeps HasSent sent-kept still-sent job kept' w v result still j in
        let moved : position_of v.io.inputs slot ≤ position_of w.io.inputs slot + 61440 * (means.pending w.device - means.pending v.device) = all.moves slot in
        omega (arith, few, all.pending, moved)

-- all its calls over a link
pub job-led : {P S A : Type 0} (means : Meaning P) (rules : ActRules S A) (heap : ℕ) (job : Job S A) (kept' : S) (w v : World (Wire P)) (result : Outcome) → JobDone (link means) rules heap job kept' w v result → (calls : List Call) × Led (link means) w calls v
job-led means rules heap job kept' w v result j =
    let rest = routine-led means rules heap job.routine job.from j.meetings j.begun v j.did in
    (calls_of heap job.first ++ rest.0, Led-append (link means) (calls_of heap job.first) rest.0 w j.begun v j.first rest.1)

-- what is so where nothing was done, and where the job was done, is so by a test and a job
pub tested-by : {D S A : Type 0} (means : Meaning D) (rules : ActRules S A) (heap : ℕ) (test : Option HostFault) (job : Job S A) (s s' : S) (w v : World D) (result : Outcome) → JobTested means rules heap test job s s' w v result →
    (X : World D → Type 0) → X w → (JobDone means rules heap job s' w v result → X v) → X v
tested-by means rules heap test job s s' w v result tested X still did = by test refl
  where
    by : (t : Option HostFault) → test ≡ t → X v
    by (Some fault) is = subst X (sym (tested.early fault is).1) still
    by None is = did (tested.late is)
