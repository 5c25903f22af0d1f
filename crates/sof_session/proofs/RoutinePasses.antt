-- One pass over a routine: what is so of each list of acts that it may send, of what is kept and of its ends; and what follows of its walk
-- and of its command, whatever messages meet.
use Rattle.std.proofs.Common.{◌≡◌, refl, sym, ap, subst, ℕ, ◌+◌, ◌≤◌, Bool, true, false, List, [], ◌∷◌, ◌==◌, Option, Some, None, Ok, Err, inl, inr, ◌⊎◌, arith}
use Rattle.std.specs.List.{AllByRecursion}
use Rattle.std.proofs.lemmas.Bool.{cases_Bool}
use Rattle.stream_law.specs.Past.{Moment, Cut, Now}
use Rattle.stream_law.specs.State.{View}
use Rattle.mbox_link.specs.declared.fates.Entry.{Entry}
use Rattle.mbox_link.specs.Exchange.{more}
use Rattle.mbox_link.specs.Meetings.{Meeting, Queue, Doing, next_meeting, planned, without_entry, lags}
use Rattle.mbox_link.proofs.FateLaws.{lags-cons, lags-without}
use Rattle.host_widgets.specs.declared.answers.HostFault.{HostFault}
use Rattle.host_widgets.specs.ActRules.{ActRules}
use Rattle.host_widgets.specs.Host.{Outcome}
use Rattle.host_widgets.specs.OneAct.{Performed, one_act, performed, outcome_by, lag_of}
use Rattle.host_widgets.specs.Routines.{Routine, Finished, Sending, Job, followed, walk_on, walk_routine, not_begun}
use Rattle.host_widgets.specs.Walk.{Walked, walk, followed_by, goes_past}
use Rattle.sof_script.specs.declared.script.Command.{Command}
use Rattle.sof_session.specs.CommandRules.{CommandRules}
use Rattle.sof_session.specs.Commands.{Known, CommandResult, carried, tested, next, is_plan}
use Rattle.sof_session.proofs.RoutineNumbers.{planned-by, tested-is}
use Rattle.sof_session.proofs.SeenMoments.{AllSeen, ticks_in, seen-append, ticks-append, lag-seen, lag-ticks}

-- it ends with nothing more, or with a cut
abbrev pub EndsSo : List Moment → Type 0
EndsSo moments = (moments ≡ []) ⊎ (moments ≡ Cut ∷ [])

-- what is so of each list of acts that a routine may send, and of each end that it may come to with what is left, where what is kept
-- after each list stays so
abbrev pub AllOf : {S A : Type 0} → (List A → Type 0) → (S → Type 0) → (S → Type 0) → Routine S A → Type 0
AllOf Sent Keeps Left (Finished kept moments) = EndsSo moments × Left kept
AllOf {S} Sent Keeps Left (Sending acts goes_on then) = Sent acts × ((now : S) (o : Outcome) → Keeps now → AllOf Sent Keeps Left (then now o))

-- its ends alone
abbrev pub EndsWell : {S A : Type 0} → Routine S A → Type 0
EndsWell {S} {A} routine = AllOf (λ (acts : List A). Unit {0}) (λ (now : S). Unit {0}) (λ (kept : S). Unit {0}) routine

-- an end brings no view and no tick
pub ends-seen : (Seen : View → Type 0) (moments : List Moment) → EndsSo moments → AllSeen Seen moments × (ticks_in moments ≡ 0)
ends-seen Seen moments (inl is) = (subst (AllSeen Seen) (sym is) tt, ap ticks_in is)
ends-seen Seen moments (inr is) = (subst (AllSeen Seen) (sym is) tt, ap ticks_in is)

-- a message's lag and the lags of others are at most all
lags-both : (number : ℕ) (entries : List Entry) → (planned entries number).lag + lags (without_entry number entries) ≤ lags entries
lags-both number [] = omega arith
lags-both number (entry ∷ entries) = elim (cases_Bool (entry.number == number)) [
  | inl same ↦ rw same (let less = lags-without number entries in let is = lags-cons entry entries in omega (arith, less, is))
  | inr other ↦ rw other (let rest = lags-both number entries in let is = lags-cons entry entries in let left = lags-cons entry (without_entry number entries) in omega (arith, rest, is, left))
]

-- ---- acts that are so: each that passes keeps what is kept so, and of what is kept so the view is so

module _ {S A : Type 0} (rules : ActRules S A) (Sent : A → Type 0) (Keeps : S → Type 0) (Seen : View → Type 0) where
  pub record Keeping : Type 0 where
    pub after : (act : A) (s : S) → Sent act → Keeps s → Keeps (rules.after act s)
    pub seen : (s : S) → Keeps s → Seen (rules.view s)

  abbrev Passes : (S → Type 0) → Routine S A → Type 0
  Passes Left routine = AllOf (λ (acts : List A). AllByRecursion Sent acts) Keeps Left routine

  module _ (doing : Doing) (keeping : Keeping) where
    -- what is kept stays so, so do the views that come, and there are no more ticks than lags that were used up
    record IsPassed (q : Queue) (w : Walked S A Queue) : Type 0 where
      kept : Keeps w.kept
      seen : AllSeen Seen w.moments
      ticks : ticks_in w.moments + lags w.queue.entries ≤ lags q.entries

    record IsPassedOne (lag : ℕ) (a : Performed S) : Type 0 where
      kept : Keeps a.kept
      seen : AllSeen Seen a.moments
      ticks : ticks_in a.moments ≤ lag

    one-passed : (s : S) (act : A) (m : Meeting) → Sent act → Keeps s → IsPassedOne m.lag (one_act rules s act m)
    one-passed s act m sent is = by (outcome_by m.fate (rules.own s act))
      where
        ticks : ticks_in (lag_of m) ≡ m.lag
        ticks = lag-ticks m.lag

        by : (o : Outcome) → IsPassedOne m.lag (performed rules act s (lag_of m) o)
        by (Ok done) =
            let now = keeping.after act s sent is in
            let last : List Moment = Now (rules.view (rules.after act s)) (rules.fresh act) ∷ [] in
            let one = ticks-append (lag_of m) last in
            record {
              kept = now;
              seen = seen-append Seen (lag_of m) last (lag-seen Seen m.lag) (keeping.seen (rules.after act s) now, tt);
              ticks = omega (arith, one, ticks);
            }
        by (Err fault) = record { kept = is; seen = lag-seen Seen m.lag; ticks = omega (arith, ticks) }

    module _ (s : S) (q : Queue) (act : A) where
      abbrev m : Meeting × Queue
      m = next_meeting doing q

      abbrev a : Performed S
      a = one_act rules s act m.0

      onward-passed : (b : Bool) (rest : Walked S A Queue) → IsPassedOne m.0.lag a → IsPassed m.1 rest → IsPassed q (followed_by act a m.1 b rest)
      onward-passed true rest here there =
          let less : m.0.lag + lags m.1.entries ≤ lags q.entries = lags-both (more q.sent) q.entries in
          let both = ticks-append a.moments rest.moments in
          record { kept = there.kept; seen = seen-append Seen a.moments rest.moments here.seen there.seen; ticks = omega (arith, both, here.ticks, there.ticks, less) }
      onward-passed false rest here there =
          let less : m.0.lag + lags m.1.entries ≤ lags q.entries = lags-both (more q.sent) q.entries in
          record { kept = here.kept; seen = here.seen; ticks = omega (arith, here.ticks, less) }

    walk-passed : (goes_on : Bool) (acts : List A) (s : S) (q : Queue) → AllByRecursion Sent acts → Keeps s → IsPassed q (walk rules goes_on (next_meeting doing) s q acts)
    walk-passed goes_on [] s q all is = record { kept = is; seen = tt; ticks = omega arith }
    walk-passed goes_on (act ∷ acts) s q all is =
        let here = one-passed s act (m s q act).0 all.0 is in
        onward-passed s q act (goes_past goes_on (a s q act).outcome) (walk rules goes_on (next_meeting doing) (a s q act).kept (m s q act).1 acts) here (walk-passed goes_on acts (a s q act).kept (m s q act).1 all.1 here.kept)

    -- ---- a routine

    on-passed : (Left : S → Type 0) (most : ℕ) (before : Walked S A Queue) (routine : Routine S A) → Passes Left routine → Keeps before.kept → AllSeen Seen before.moments → ticks_in before.moments + lags before.queue.entries ≤ most →
        let w = walk_on rules (next_meeting doing) before routine in Left w.kept × AllSeen Seen w.moments × (ticks_in w.moments ≤ most)
    on-passed Left most before (Finished kept moments) passes is seen ticks =
        let both = ticks-append before.moments moments in
        let last = ends-seen Seen moments passes.0 in
        (passes.1, seen-append Seen before.moments moments seen last.0, omega (arith, both, last.1, ticks))
    on-passed Left most before (Sending acts goes_on then) passes is seen ticks =
        let now = walk rules goes_on (next_meeting doing) before.kept before.queue acts in
        let w = walk-passed goes_on acts before.kept before.queue passes.0 is in
        let both = ticks-append before.moments now.moments in
        on-passed Left most (followed before now) (then now.kept now.outcome) (passes.1 now.kept now.outcome w.kept) w.kept (seen-append Seen before.moments now.moments seen w.seen) (omega (arith, both, w.ticks, ticks))

-- ---- a command

module _ {S A : Type 0} (rules : CommandRules S A) (Sent : A → Type 0) (Keeps Left : S → Type 0) (Seen : View → Type 0) where
  -- a job that is so from its first moments on
  pub record IsPassedJob (job : Job S A) : Type 0 where
    pub first : AllSeen Seen job.first
    pub from : Keeps job.from
    pub routine : AllOf (λ (acts : List A). AllByRecursion Sent acts) Keeps Left job.routine

  module _ (doing : Doing) (keeping : Keeping rules.acts Sent Keeps Seen) (known : Known S) where
    -- what is left is so and each view that came, and there are no more ticks than those of the first moments and the lags that were planned
    pub record IsCame (first : List Moment) (c : CommandResult S A) : Type 0 where
      pub left : Left c.known.kept
      pub seen : AllSeen Seen c.moments
      pub ticks : ticks_in c.moments ≤ ticks_in first + lags known.queue.entries

    carried-passed : (job : Job S A) → IsPassedJob job → IsCame job.first (carried rules doing known job)
    carried-passed job is =
        let before : Walked S A Queue = not_begun job.from known.queue in
        let r = on-passed rules.acts Sent Keeps Seen doing keeping Left (lags known.queue.entries) before job.routine is.routine is.from tt (omega arith) in
        let w = walk_routine rules.acts (next_meeting doing) job.from known.queue job.routine in
        let both = ticks-append job.first w.moments in
        record { left = r.0; seen = seen-append Seen job.first w.moments is.first r.1; ticks = omega (arith, both, r.2) }

    tested-passed : (job : Job S A) (fault : Option HostFault) → Left known.kept → (fault ≡ None → IsPassedJob job) → IsCame job.first (tested rules doing known job fault)
    tested-passed job (Some fault) left passes = record { left = left; seen = tt; ticks = omega arith }
    tested-passed job None left passes = carried-passed job (passes refl)

    pub next-passed : (command : Command) → Left known.kept → (is_plan command ≡ false → rules.fault known.kept command ≡ None → IsPassedJob (rules.job known.kept command)) →
        IsCame (rules.job known.kept command).first (next rules doing known command)
    next-passed command left passes =
        let first = (rules.job known.kept command).first in
        elim (cases_Bool (is_plan command)) [
          | inl is ↦ let p = planned-by rules known command is in subst (IsCame first) (sym (p.is doing)) (record { left = subst Left (sym p.kept) left; seen = tt; ticks = omega arith })
          | inr is ↦ subst (IsCame first) (sym (tested-is rules known doing command is)) (tested-passed (rules.job known.kept command) (rules.fault known.kept command) left (passes is))
        ]
