-- Numbers and doings of a routine that sends no more than so many messages, and of a command whose job has such a routine.
use Rattle.std.proofs.Common.{◌≡◌, refl, sym, ap, ◌∙◌, subst, ℕ, ◌+◌, ◌<◌, ◌≤◌, ◌^◌, ◌-◌, length, Bool, true, false, List, Option, Some, None, inl, inr, arith}
use Rattle.std.proofs.lemmas.Bool.{cases_Bool}
use Rattle.std.proofs.lemmas.List.{length-append}
use Rattle.mbox_link.specs.declared.fates.Entry.{Entry}
use Rattle.mbox_link.specs.Calls.{World, Meaning}
use Rattle.mbox_link.specs.Meetings.{Meeting, Queue, Doing, next_meeting}
use Rattle.host_widgets.specs.declared.answers.Answer.{Answer}
use Rattle.host_widgets.specs.declared.answers.Answer.TheVariants as answers
use Rattle.host_widgets.specs.declared.answers.HostFault.{HostFault}
use Rattle.host_widgets.specs.ActRules.{ActRules}
use Rattle.host_widgets.specs.Walk.{Walked, walk}
use Rattle.host_widgets.specs.ActCalls.{next_of}
use Rattle.host_widgets.specs.Host.{Outcome}
use Rattle.host_widgets.specs.Routines.{Routine, Finished, Sending, Job, RoutineDid, followed, walk_on, not_begun}
use Rattle.sof_script.specs.declared.script.Command.{Command}
use Rattle.sof_script.specs.declared.script.Command.TheVariants as commands
use Rattle.sof_session.specs.CommandRules.{CommandRules}
use Rattle.sof_session.specs.Commands.{Known, CommandResult, came, is_plan, ended, tested, planned_where_room, next}
use Rattle.sof_session.proofs.FewMeetings.{few-meetings}
use Rattle.sof_session.proofs.SameDoings.{walk-up, walk-few, same-walk}

-- ---- a routine

-- no more than so many messages are sent, whatever they meet
abbrev pub SendsWithin : {S A : Type 0} → ℕ → Routine S A → Type 0
SendsWithin n (Finished end moments) = Unit {0}
SendsWithin {S} n (Sending acts goes_on then) = (length acts ≤ n) × ((now : S) (o : Outcome) → SendsWithin (n - length acts) (then now o))

module _ {S A : Type 0} (rules : ActRules S A) where
  -- so numbers go up by no more
  pub routine-within : (doing : Doing) (n : ℕ) (before : Walked S A Queue) (routine : Routine S A) → SendsWithin n routine → before.queue.sent + n < 2 ^ 64 - 1 →
      let w = walk_on rules (next_meeting doing) before routine in (before.queue.sent ≤ w.queue.sent) × (w.queue.sent ≤ before.queue.sent + n)
  routine-within doing n before (Finished end moments) sends few = (omega arith, omega arith)
  routine-within doing n before (Sending acts goes_on then) sends few =
      let now = walk rules goes_on (next_meeting doing) before.kept before.queue acts in
      let up : before.queue.sent ≤ now.queue.sent = walk-up rules goes_on doing acts before.kept before.queue (omega (arith, few, sends.0)) in
      let most : now.queue.sent ≤ before.queue.sent + length acts = walk-few rules goes_on doing acts before.kept before.queue in
      let rest = routine-within doing (n - length acts) (followed before now) (then now.kept now.outcome) (sends.1 now.kept now.outcome) (omega (arith, few, sends.0, most)) in
      let low : now.queue.sent ≤ (walk_on rules (next_meeting doing) (followed before now) (then now.kept now.outcome)).queue.sent = rest.0 in
      let high : (walk_on rules (next_meeting doing) (followed before now) (then now.kept now.outcome)).queue.sent ≤ now.queue.sent + (n - length acts) = rest.1 in
      (omega (arith, up, low), omega (arith, most, high, sends.0))

  -- doings are one from one number up to another
  abbrev pub SameFrom : Doing → Doing → ℕ → ℕ → Type 0
  SameFrom d e from to = (number : ℕ) → from < number → number ≤ to → d number ≡ e number

  -- and by doings that are one at its numbers a routine comes to the same
  pub routine-same : (d e : Doing) (n : ℕ) (before : Walked S A Queue) (routine : Routine S A) → SendsWithin n routine → before.queue.sent + n < 2 ^ 64 - 1 →
      SameFrom d e before.queue.sent (walk_on rules (next_meeting d) before routine).queue.sent → walk_on rules (next_meeting d) before routine ≡ walk_on rules (next_meeting e) before routine
  routine-same d e n before (Finished end moments) sends few same = refl
  routine-same d e n before (Sending acts goes_on then) sends few same =
      let now = walk rules goes_on (next_meeting d) before.kept before.queue acts in
      let up : before.queue.sent ≤ now.queue.sent = walk-up rules goes_on d acts before.kept before.queue (omega (arith, few, sends.0)) in
      let most : now.queue.sent ≤ before.queue.sent + length acts = walk-few rules goes_on d acts before.kept before.queue in
      let fewer : now.queue.sent + (n - length acts) < 2 ^ 64 - 1 = omega (arith, few, sends.0, most) in
      let last = routine-within d (n - length acts) (followed before now) (then now.kept now.outcome) (sends.1 now.kept now.outcome) fewer in
      let low : now.queue.sent ≤ (walk_on rules (next_meeting d) (followed before now) (then now.kept now.outcome)).queue.sent = last.0 in
      routine-same d e (n - length acts) (followed before now) (then now.kept now.outcome) (sends.1 now.kept now.outcome) fewer (λ number after to. same number (omega (arith, after, up)) to)
      ∙ ap (λ (w : Walked S A Queue). walk_on rules (next_meeting e) (followed before w) (then w.kept w.outcome))
      (same-walk rules goes_on d e acts before.kept before.queue (omega (arith, few, sends.0)) (λ number after to. same number after (omega (arith, to, low))))

-- ---- over any device

module _ {D S A : Type 0} (means : Meaning D) (rules : ActRules S A) (heap : ℕ) where
  -- a routine's messages met no more
  pub few-met : (n : ℕ) (routine : Routine S A) (kept : S) (ms : List Meeting) (w v : World D) → SendsWithin n routine → RoutineDid means rules heap kept routine ms w v → length ms ≤ n
  few-met n (Finished end moments) kept ms w v sends did = let none = ap length did.0 in omega (arith, none)
  few-met n (Sending acts goes_on then) kept ms w v sends (early, late, mid, split, acts_did, rest_did) =
      let now : Walked S A (List Meeting) = walk rules goes_on next_of kept early acts in
      omega (
        arith,
        sends.0,
        ap length split,
        length-append early late,
        few-meetings means rules goes_on acts early kept w mid acts_did,
        few-met (n - length acts) (then now.kept now.outcome) now.kept late mid v (sends.1 now.kept now.outcome) rest_did,
      )

-- ---- a command

module _ {S A : Type 0} (rules : CommandRules S A) (known : Known S) where
  -- what is planned has no moments, and sends nothing
  pub record IsPlanned (command : Command) : Type 0 where
    pub later : Known S
    pub answer : Answer
    pub is : (doing : Doing) → next rules doing known command ≡ came later answer
    pub sent : later.queue.sent ≡ known.queue.sent
    pub kept : later.kept ≡ known.kept

  plans : (command : Command) (room : Bool) (entries : List Entry) → ((doing : Doing) → next rules doing known command ≡ planned_where_room known room entries) → IsPlanned command
  plans command true entries is = record { later = record known { queue = record { sent = known.queue.sent; entries = entries } }; answer = answers.Done; is = is; sent = refl; kept = refl }
  plans command false entries is = record { later = known; answer = answers.PlanFull; is = is; sent = refl; kept = refl }

  pub planned-by : (command : Command) → is_plan command ≡ true → IsPlanned command
  planned-by (commands.Refuse k e) is = plans (commands.Refuse k e) _ _ (λ doing. refl)
  planned-by (commands.Drop k) is = plans (commands.Drop k) _ _ (λ doing. refl)
  planned-by (commands.Lose k) is = plans (commands.Lose k) _ _ (λ doing. refl)
  planned-by (commands.Lag k ticks) is = plans (commands.Lag k ticks) _ _ (λ doing. refl)
  planned-by command is = absurd (cc is)

  abbrev pub tested_by : Doing → Command → CommandResult S A
  tested_by doing command = tested rules doing known (rules.job known.kept command) (rules.fault known.kept command)

  pub tested-is : (doing : Doing) (command : Command) → is_plan command ≡ false → next rules doing known command ≡ tested_by doing command
  tested-is doing (commands.Refuse k e) is = absurd (cc is)
  tested-is doing (commands.Drop k) is = absurd (cc is)
  tested-is doing (commands.Lose k) is = absurd (cc is)
  tested-is doing (commands.Lag k ticks) is = absurd (cc is)
  tested-is doing command is = refl

  -- its job sends no more than so many, where no test fails
  abbrev pub JobWithin : ℕ → Job S A → Option HostFault → Type 0
  JobWithin n job fault = fault ≡ None → SendsWithin n job.routine

  abbrev Within : ℕ → CommandResult S A → Type 0
  Within most c = (known.queue.sent ≤ c.known.queue.sent) × (c.known.queue.sent ≤ known.queue.sent + most)

  job-within : (doing : Doing) (n : ℕ) (job : Job S A) (fault : Option HostFault) → JobWithin n job fault → known.queue.sent + n < 2 ^ 64 - 1 → Within n (tested rules doing known job fault)
  job-within doing n job (Some fault) sends few = (omega arith, omega arith)
  job-within doing n job None sends few = routine-within rules.acts doing n (not_begun job.from known.queue) job.routine (sends refl) few

  pub within-by : (doing : Doing) (n : ℕ) (command : Command) → (is_plan command ≡ false → JobWithin n (rules.job known.kept command) (rules.fault known.kept command)) → known.queue.sent + n < 2 ^ 64 - 1 → Within n (next rules doing known command)
  within-by doing n command sends few =
      elim (cases_Bool (is_plan command)) [
        | inl is ↦ let p = planned-by command is in subst (Within n) (sym (p.is doing)) (omega (arith, p.sent), omega (arith, p.sent))
        | inr is ↦ subst (Within n) (sym (tested-is doing command is)) (job-within doing n (rules.job known.kept command) (rules.fault known.kept command) (sends is) few)
      ]

  module _ (d e : Doing) where
    abbrev SameTo : ℕ → Type 0
    SameTo last = (number : ℕ) → known.queue.sent < number → number ≤ last → d number ≡ e number

    job-same : (n : ℕ) (job : Job S A) (fault : Option HostFault) → JobWithin n job fault → known.queue.sent + n < 2 ^ 64 - 1 → SameTo (tested rules d known job fault).known.queue.sent → tested rules d known job fault ≡ tested rules e known job fault
    job-same n job (Some fault) sends few same = refl
    job-same n job None sends few same = ap (ended job) (routine-same rules.acts d e n (not_begun job.from known.queue) job.routine (sends refl) few same)

    pub same-by : (n : ℕ) (command : Command) → (is_plan command ≡ false → JobWithin n (rules.job known.kept command) (rules.fault known.kept command)) → known.queue.sent + n < 2 ^ 64 - 1 →
        SameTo (next rules d known command).known.queue.sent → next rules d known command ≡ next rules e known command
    same-by n command sends few same =
        elim (cases_Bool (is_plan command)) [
          | inl is ↦ let p = planned-by command is in p.is d ∙ sym (p.is e)
          | inr is ↦
              tested-is d command is
              ∙ job-same n (rules.job known.kept command) (rules.fault known.kept command) (sends is) few (subst (λ (c : CommandResult S A). SameTo c.known.queue.sent) (tested-is d command is) same)
              ∙ sym (tested-is e command is)
        ]
