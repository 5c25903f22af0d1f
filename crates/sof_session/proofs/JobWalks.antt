-- A job that is done over a link is the written one, by the planned fates and by what the device itself did.
use Rattle.std.proofs.Common.{◌≡◌, refl, sym, ap, ◌∙◌, subst, ℕ, ◌+◌, ◌<◌, ◌-◌, ◌^◌, Bool, true, false, List, [], ◌∷◌, ◌++◌, length, Ok, arith}
use Rattle.stream_law.specs.Past.{Moment}
use Rattle.mbox_link.specs.declared.fates.Entry.{Entry}
use Rattle.mbox_link.specs.declared.fates.Fate.TheVariants.{Pass}
use Rattle.mbox_link.specs.Exchange.{more}
use Rattle.mbox_link.specs.Calls.{World, Meaning}
use Rattle.mbox_link.specs.Wire.{Wire}
use Rattle.mbox_link.specs.Fates.{AreHeld}
use Rattle.mbox_link.specs.Link.{link}
use Rattle.mbox_link.specs.Meetings.{Meeting, Queue, Doing, queue_of, next_meeting, without_entry}
use Rattle.host_widgets.specs.Host.{Outcome}
use Rattle.host_widgets.specs.ActRules.{ActRules}
use Rattle.host_widgets.specs.OneAct.{Performed, one_act}
use Rattle.host_widgets.specs.Walk.{Walked, walk, followed_by, goes_past, first_of}
use Rattle.host_widgets.specs.ActCalls.{ActsDid, Onwards, next_of, calls_of}
use Rattle.host_widgets.specs.Routines.{Routine, Finished, Sending, Job, JobDone, RoutineDid, followed, walk_on, walk_routine}
use Rattle.sof_session.specs.Agreement.{IsFated}
use Rattle.sof_session.specs.CommandRules.{CommandRules}
use Rattle.sof_session.specs.Commands.{carried, answer_by}
use Rattle.sof_session.specs.SessionStep.{DidAsMet, known_of}
use Rattle.sof_session.proofs.Doings.{DidSo, doing_by, doing-so, did-as-met}
use Rattle.sof_session.proofs.LinkFates.{Led-fated, Led-inside, Steady-none}
use Rattle.sof_session.proofs.LinkWalks.{Same, Agreed, walks-agree, after_is, still-quiet, still-held}
use Rattle.sof_session.proofs.Carrying.{Quietly, quietly}
use Rattle.sof_session.proofs.JobCalm.{routine-calm}
use Rattle.sof_session.proofs.StayedCounts.{Stayed, Stayed-between}

-- the result of a walk, with other meetings for later messages
abbrev with_queue : {S A Q R : Type 0} → Walked S A Q → R → Walked S A R
with_queue w q = record { outcome = w.outcome; kept = w.kept; moments = w.moments; sent = w.sent; queue = q }

-- what came so far, by its parts
abbrev so_far : {S A Q : Type 0} → Outcome → S → List Moment → List A → Q → Walked S A Q
so_far outcome kept moments sent q = record { outcome = outcome; kept = kept; moments = moments; sent = sent; queue = q }

-- ---- acts that have met theirs leave the meetings after

module _ {D S A : Type 0} (means : Meaning D) (rules : ActRules S A) (goes_on : Bool) (late : List Meeting) where
  pub walk-front : (acts : List A) (early : List Meeting) (kept : S) (w v : World D) → ActsDid means rules goes_on kept acts early w v →
      walk rules goes_on next_of kept (early ++ late) acts ≡ with_queue (walk rules goes_on next_of kept early acts) late
  walk-front [] early kept w v did = ap (λ (ms : List Meeting). so_far (Ok tt) kept [] [] (ms ++ late)) did.0
  walk-front (act ∷ acts) [] kept w v did = absurd did
  walk-front (act ∷ acts) (m ∷ ms) kept w v did = by (goes_past goes_on a.outcome) did.2 (λ on. walk-front acts ms a.kept did.0 v on)
    where
      a : Performed S
      a = one_act rules kept act m

      by : (b : Bool) → Onwards b ms did.0 v (ActsDid means rules goes_on a.kept acts ms did.0 v) →
          (ActsDid means rules goes_on a.kept acts ms did.0 v → walk rules goes_on next_of a.kept (ms ++ late) acts ≡ with_queue (walk rules goes_on next_of a.kept ms acts) late) →
          followed_by act a (ms ++ late) b (walk rules goes_on next_of a.kept (ms ++ late) acts) ≡ with_queue (followed_by act a ms b (walk rules goes_on next_of a.kept ms acts)) late
      by true on rest = ap (followed_by act a (ms ++ late) true) (rest on)
      by false on rest = ap (λ (xs : List Meeting). so_far a.outcome a.kept a.moments (act ∷ []) (xs ++ late)) on.0

-- ---- over a link

-- what was met in front
so-front : (doing : Doing) (sent : ℕ) (entries : List Entry) (early late : List Meeting) → DidSo doing sent entries (early ++ late) → DidSo doing sent entries early
so-front doing sent entries [] late so = tt
so-front doing sent entries (m ∷ ms) late so = (so.0, so-front doing (more sent) (without_entry (more sent) entries) ms late so.1)

module _ {P S A : Type 0} (means : Meaning P) (rules : ActRules S A) (goes_on : Bool) (doing : Doing) (late : List Meeting) where
  -- no tick is pending, what is planned has a meaning, and these meetings are those of the doings
  record IsBefore (w : World (Wire P)) (ms : List Meeting) : Type 0 where
    quiet : means.pending w.device.device ≡ 0
    held : AreHeld w.device.entries
    so : DidSo doing w.device.sent w.device.entries ms

  before-none : (ms : List Meeting) (w v : World (Wire P)) → ms ≡ [] → v ≡ w → IsBefore w (ms ++ late) → IsBefore v late
  before-none ms w v none same b = subst (λ (x : List Meeting × World (Wire P)). IsBefore x.1 (x.0 ++ late)) (λ i. (none i, sym same i)) b

  before-acts : (acts : List A) (early : List Meeting) (kept : S) (w v : World (Wire P)) → ActsDid (link means) rules goes_on kept acts early w v → IsBefore w (early ++ late) → IsBefore v late
  before-acts [] early kept w v did b = before-none early w v did.0 did.1 b
  before-acts (act ∷ acts) [] kept w v did b = absurd did
  before-acts (act ∷ acts) (m ∷ ms) kept w v did b = by (goes_past goes_on (one_act rules kept act m).outcome) did.2 (λ on. before-acts acts ms (one_act rules kept act m).kept did.0 v on now)
    where
      now : IsBefore did.0 (ms ++ late)
      now = record {
        quiet = still-quiet means rules kept act m w did.0 did.1 b.quiet b.held;
        held = still-held means rules kept act m w did.0 did.1 b.quiet b.held;
        so = subst (λ (l : Wire P). DidSo doing l.sent l.entries (ms ++ late)) (sym (after_is means rules kept act m w did.0 did.1 b.quiet b.held)) b.so.1;
      }

      by : (h : Bool) → Onwards h ms did.0 v (ActsDid (link means) rules goes_on (one_act rules kept act m).kept acts ms did.0 v) →
          (ActsDid (link means) rules goes_on (one_act rules kept act m).kept acts ms did.0 v → IsBefore v late) → IsBefore v late
      by true on rest = rest on
      by false on rest = before-none ms did.0 v on.0 on.1 now

module _ {P S A : Type 0} (means : Meaning P) (rules : ActRules S A) (heap : ℕ) (doing : Doing) where
  -- two walks had the same result, and the queue of the later one is the link's
  abbrev IsAs : Walked S A (List Meeting) → Walked S A Queue → World (Wire P) → Type 0
  IsAs met written v = Same met written × (written.queue ≡ queue_of v.device)

  abbrev StartsSo : World (Wire P) → List Meeting → Type 0
  StartsSo w ms = (means.pending w.device.device ≡ 0) × AreHeld w.device.entries × DidSo doing w.device.sent w.device.entries ms

  pub routine-agrees : (routine : Routine S A) (o : Outcome) (kept : S) (before : List Moment) (sent : List A) (ms : List Meeting) (w v : World (Wire P)) →
      RoutineDid (link means) rules heap kept routine ms w v → StartsSo w ms →
      IsAs (walk_on rules next_of (so_far o kept before sent ms) routine) (walk_on rules (next_meeting doing) (so_far o kept before sent (queue_of w.device)) routine) v
  routine-agrees (Finished end moments) o kept before sent ms w v did starts =
      (record { outcome = refl; left = refl; moments = refl; sent = refl }, sym (quietly means heap moments w v did.1).queue)
  routine-agrees (Sending acts goes_on then) o kept before sent ms w v (early, late, mid, split, acts_did, rest_did) starts =
      subst (λ (x : Walked S A (List Meeting)). IsAs x (second (walk rules goes_on (next_meeting doing) kept (queue_of w.device) acts)) v) (sym (ap first met-is))
      (subst (λ (x : Walked S A Queue). IsAs (first (with_queue met late)) x v)
      (λ i. onward (agreed.same.outcome i) (agreed.same.left i) (agreed.same.moments i) (agreed.same.sent i) (sym agreed.queue i))
      (routine-agrees (then met.kept met.outcome) (first_of o met.outcome) met.kept (before ++ met.moments) (sent ++ met.sent) late mid v rest_did (behind.quiet, behind.held, behind.so)))
    where
      met : Walked S A (List Meeting)
      met = walk rules goes_on next_of kept early acts

      first : Walked S A (List Meeting) → Walked S A (List Meeting)
      first now = walk_on rules next_of (followed (so_far o kept before sent ms) now) (then now.kept now.outcome)

      second : Walked S A Queue → Walked S A Queue
      second now = walk_on rules (next_meeting doing) (followed (so_far o kept before sent (queue_of w.device)) now) (then now.kept now.outcome)

      onward : Outcome → S → List Moment → List A → Queue → Walked S A Queue
      onward outcome now moments more q = walk_on rules (next_meeting doing) (so_far (first_of o outcome) now (before ++ moments) (sent ++ more) q) (then now outcome)

      met-is : walk rules goes_on next_of kept ms acts ≡ with_queue met late
      met-is = ap (λ (xs : List Meeting). walk rules goes_on next_of kept xs acts) split ∙ walk-front (link means) rules goes_on late acts early kept w mid acts_did

      starts-so : IsBefore means rules goes_on doing late w (early ++ late)
      starts-so = record { quiet = starts.0; held = starts.1; so = subst (DidSo doing w.device.sent w.device.entries) split starts.2 }

      behind : IsBefore means rules goes_on doing late mid late
      behind = before-acts means rules goes_on doing late acts early kept w mid acts_did starts-so

      agreed : Agreed means rules goes_on doing kept early acts w mid
      agreed = walks-agree means rules goes_on doing acts early kept w mid acts_did starts.0 starts.1 (so-front doing w.device.sent w.device.entries early late starts-so.so)

-- ---- a job

module _ {P S A : Type 0} (means : Meaning P) (rules : CommandRules S A) (heap : ℕ) (job : Job S A) (kept kept' : S) (w v : World (Wire P)) (result : Outcome) (j : JobDone (link means) rules.acts heap job kept' w v result)
    (none : means.pending w.device.device ≡ 0) (fated : IsFated w.device) (few : w.device.sent + length j.meetings < 2 ^ 64 - 1) where
  abbrev pub job_doing : Doing
  job_doing = doing_by j.begun.device.sent j.begun.device.entries j.meetings

  first : Quietly means heap w j.begun
  first = quietly means heap job.first w j.begun j.first

  begun-fated : IsFated j.begun.device
  begun-fated = Led-fated means (calls_of heap job.first) w j.begun fated j.first

  few-begun : j.begun.device.sent + length j.meetings < 2 ^ 64 - 1
  few-begun = omega (arith, few, first.sent)

  did : DidSo job_doing j.begun.device.sent j.begun.device.entries j.meetings
  did = doing-so j.begun.device.sent j.begun.device.entries j.meetings few-begun

  pub job-met : DidAsMet job_doing (queue_of w.device) j.meetings
  job-met = subst (λ (q : Queue). DidAsMet job_doing q j.meetings) first.queue (did-as-met job_doing j.begun.device.sent j.begun.device.entries j.meetings did)

  abbrev met : Walked S A (List Meeting)
  met = walk_routine rules.acts next_of job.from j.meetings job.routine

  abbrev written : Queue → Walked S A Queue
  written q = walk_routine rules.acts (next_meeting job_doing) job.from q job.routine

  -- the routine from the link's numbers at the start
  from-start : IsAs means rules.acts heap job_doing met (written (queue_of w.device)) v
  from-start = subst (λ (q : Queue). IsAs means rules.acts heap job_doing met (written q) v) first.queue
      (routine-agrees means rules.acts heap job_doing job.routine (Ok tt) job.from [] [] j.meetings j.begun v j.did (first.pending ∙ none, begun-fated.held, did))

  pub job-known : known_of v.device kept' ≡ (carried rules job_doing (known_of w.device kept) job).known
  job-known = λ i. record { kept = (j.left ∙ from-start.0.left) i; queue = sym from-start.1 i }

  -- the written moments are those of what its messages met
  pub job-moments : job.first ++ (walk_routine rules.acts next_of job.from j.meetings job.routine).moments ≡ (carried rules job_doing (known_of w.device kept) job).moments
  job-moments = ap (λ (ms : List Moment). job.first ++ ms) from-start.0.moments

  pub job-answer : answer_by job.answer result ≡ (carried rules job_doing (known_of w.device kept) job).answer
  job-answer = ap (answer_by job.answer) (j.came ∙ from-start.0.outcome)

  -- and where the device's counts did not rise, it did nothing of its own accord
  pub job-calm : Stayed means w.device.device v.device.device → (number : ℕ) → job_doing number ≡ Pass
  job-calm stayed number =
      routine-calm means rules.acts heap number job.routine job.from j.meetings j.begun v j.did begun-fated few-begun
      (Stayed-between means w.device.device j.begun.device.device v.device.device v.device.device (Led-inside means (calls_of heap job.first) w j.begun j.first) (Steady-none means v.device.device v.device.device refl) stayed)
