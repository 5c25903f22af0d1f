-- How often the calls of a job boot a device, and that no other count falls.
use Rattle.std.proofs.Common.{◌≡◌, refl, sym, ap, ◌∙◌, subst, ℕ, Bool, true, false, List, [], ◌∷◌, Option, Some, None, Ok, Err, inl, inr}
use Rattle.std.proofs.lemmas.Bool.{cases_Bool}
use Rattle.stream_law.specs.Past as past
use Rattle.stream_law.specs.Past.{Moment}
use Rattle.mbox_link.specs.Calls.{World, Meaning, Steady}
use Rattle.mbox_link.specs.Link.{link}
use Rattle.mbox_link.specs.Meetings.{Meeting, Doing, next_meeting}
use Rattle.mbox_link.specs.Wire.{Wire}
use Rattle.mbox_link.proofs.Led.{Steady-by}
use Rattle.host_widgets.specs.declared.answers.Answer.{Answer}
use Rattle.host_widgets.specs.declared.answers.HostFault.{HostFault}
use Rattle.host_widgets.specs.ActRules.{ActRules}
use Rattle.host_widgets.specs.ActCalls.{calls_of}
use Rattle.host_widgets.specs.Host.{Outcome}
use Rattle.host_widgets.specs.OneAct.{Performed, one_act, outcome_by, performed, lag_of}
use Rattle.host_widgets.specs.Routines.{Routine, Finished, Sending, Job, JobDone, RoutineDid, followed, walk_on, walk_routine, not_begun}
use Rattle.host_widgets.specs.Walk.{Walked, walk, followed_by, goes_past}
use Rattle.sof_script.specs.declared.script.Command.{Command}
use Rattle.sof_session.specs.CommandRules.{CommandRules}
use Rattle.sof_session.specs.Commands.{Known, CommandResult, carried, tested, next, is_plan}
use Rattle.sof_session.specs.SessionStep.{CallsBy, known_of}
use Rattle.sof_session.specs.Written.{boots_in, raised}
use Rattle.sof_session.proofs.JobCalm.{routine-led}
use Rattle.sof_session.proofs.LinkFates.{Steady-none, Led-inside}
use Rattle.sof_session.proofs.RoutineNumbers.{planned-by, tested-is}
use Rattle.sof_session.proofs.RoutinePasses.{EndsSo, EndsWell}
use Rattle.sof_session.proofs.JobPorts.{routine-keeps}
use Rattle.sof_session.proofs.RunBoots.{NoBoot, none-more, none-late, boots-append, led-boots}

-- ---- moments

module _ {S A : Type 0} (rules : ActRules S A) where
  none-came : (act : A) (kept : S) (ticks : List Moment) (outcome : Outcome) → NoBoot ticks → NoBoot (performed rules act kept ticks outcome).moments
  none-came act kept ticks (Ok done) none = none-more ticks (past.Now (rules.view (rules.after act kept)) (rules.fresh act) ∷ []) none refl
  none-came act kept ticks (Err fault) none = none

  none-joined : {Q : Type 0} (act : A) (a : Performed S) (q : Q) (b : Bool) (rest : Walked S A Q) → NoBoot a.moments → NoBoot rest.moments → NoBoot (followed_by act a q b rest).moments
  none-joined act a q true rest first later = none-more a.moments rest.moments first later
  none-joined act a q false rest first later = first

  none-walked : {Q : Type 0} (goes_on : Bool) (next : Q → Meeting × Q) (acts : List A) (kept : S) (q : Q) → NoBoot (walk rules goes_on next kept q acts).moments
  none-walked goes_on next [] kept q = refl
  none-walked goes_on next (act ∷ acts) kept q =
      let m = (next q).0 in
      let a = one_act rules kept act m in
      none-joined act a (next q).1 (goes_past goes_on a.outcome) (walk rules goes_on next a.kept (next q).1 acts) (none-came act kept (lag_of m) (outcome_by m.fate (rules.own kept act)) (none-late m.lag))
      (none-walked goes_on next acts a.kept (next q).1)

  -- no last moment of a routine is a boot
  none-last : (moments : List Moment) → EndsSo moments → NoBoot moments
  none-last moments (inl is) = ap boots_in is
  none-last moments (inr is) = ap boots_in is

  pub none-routine : {Q : Type 0} (next : Q → Meeting × Q) (before : Walked S A Q) (routine : Routine S A) → NoBoot before.moments → EndsWell routine → NoBoot (walk_on rules next before routine).moments
  none-routine next before (Finished kept moments) first ends = none-more before.moments moments first (none-last moments ends.0)
  none-routine next before (Sending acts goes_on then) first ends =
      let now = walk rules goes_on next before.kept before.queue acts in
      none-routine next (followed before now) (then now.kept now.outcome) (none-more before.moments now.moments first (none-walked goes_on next acts before.kept before.queue)) (ends.1 now.kept now.outcome tt)

  -- ---- calls

  module _ {D : Type 0} (means : Meaning D) where
    abbrev SameBoots : World D → World D → Type 0
    SameBoots w v = means.boots v.device ≡ means.boots w.device

    routine-boots : (heap : ℕ) (routine : Routine S A) (kept : S) (ms : List Meeting) (w v : World D) → EndsWell routine → RoutineDid means rules heap kept routine ms w v → SameBoots w v
    routine-boots heap routine kept ms w v ends did = routine-keeps means rules heap SameBoots (record { same = λ w. refl; after = λ w m v first rest. rest ∙ first; exchange = λ request answer w v on x. x.boots })
        (λ moments is w v led. led-boots means heap moments w v led ∙ ap (λ (n : ℕ). raised n (means.boots w.device)) (none-last moments is)) routine kept ms w v ends did

    pub job-boots : (heap : ℕ) (job : Job S A) (kept' : S) (w v : World D) (result : Outcome) → EndsWell job.routine → JobDone means rules heap job kept' w v result → means.boots v.device ≡ raised (boots_in job.first) (means.boots w.device)
    job-boots heap job kept' w v result none j = routine-boots heap job.routine job.from j.meetings j.begun v none j.did ∙ led-boots means heap job.first w j.begun j.first

-- ---- a command

module _ {P S A : Type 0} (means : Meaning P) (rules : CommandRules S A) (heap : ℕ) (kept kept' : S) (w v : World (Wire P)) (answer : Answer) where
  abbrev Inside : Type 0
  Inside = Steady means w.device.device v.device.device

  calls-inside : (doing : Doing) (job : Job S A) (b : Bool) (fault : Option HostFault) → CallsBy means rules.acts heap doing job kept' w v answer b fault → Inside
  calls-inside doing job true fault calls = Steady-none means w.device.device v.device.device calls.0
  calls-inside doing job false (Some fault) calls = Steady-none means w.device.device v.device.device (ap (λ (x : World (Wire P)). x.device.device) calls)
  calls-inside doing job false None calls =
      let j = calls.1 in
      let rest = routine-led means rules.acts heap job.routine job.from j.meetings j.begun v j.did in
      Steady-by means w.device.device j.begun.device.device v.device.device (Led-inside means (calls_of heap job.first) w j.begun j.first) (Led-inside means rest.0 j.begun v rest.1)

  abbrev known : Known S
  known = known_of w.device kept

  abbrev BootsBy : CommandResult S A → Type 0
  BootsBy c = means.boots v.device.device ≡ raised (boots_in c.moments) (means.boots w.device.device)

  -- the written job boots as often as its first moments say
  written-boots : (doing : Doing) (job : Job S A) → EndsWell job.routine → raised (boots_in (carried rules doing known job).moments) (means.boots w.device.device) ≡ raised (boots_in job.first) (means.boots w.device.device)
  written-boots doing job none =
      let walked = walk_routine rules.acts (next_meeting doing) job.from known.queue job.routine in
      boots-append job.first walked.moments (means.boots w.device.device)
      ∙ ap (λ (n : ℕ). raised n (raised (boots_in job.first) (means.boots w.device.device))) (none-routine rules.acts (next_meeting doing) (not_begun job.from known.queue) job.routine refl none)

  tested-boots : (doing : Doing) (job : Job S A) (fault : Option HostFault) → EndsWell job.routine → CallsBy means rules.acts heap doing job kept' w v answer false fault → BootsBy (tested rules doing known job fault)
  tested-boots doing job (Some fault) none calls = ap (λ (x : World (Wire P)). means.boots x.device.device) calls
  tested-boots doing job None none calls = job-boots rules.acts (link means) heap job kept' w v calls.0 none calls.1 ∙ sym (written-boots doing job none)

  module _ (command : Command) (doing : Doing) (calls : CallsBy means rules.acts heap doing (rules.job kept command) kept' w v answer (is_plan command) (rules.fault kept command)) where
    pub inside-by : Inside
    inside-by = calls-inside doing (rules.job kept command) (is_plan command) (rules.fault kept command) calls

    abbrev Calls : Bool → Type 0
    Calls b = CallsBy means rules.acts heap doing (rules.job kept command) kept' w v answer b (rules.fault kept command)

    pub boots-by : EndsWell (rules.job kept command).routine → BootsBy (next rules doing known command)
    boots-by none =
        elim (cases_Bool (is_plan command)) [
          | inl is ↦
              let p = planned-by rules known command is in
              let made : Calls true = subst Calls is calls in
              subst BootsBy (sym (p.is doing)) (ap means.boots made.0)
          | inr is ↦ subst BootsBy (sym (tested-is rules known doing command is)) (tested-boots doing (rules.job kept command) (rules.fault kept command) none (subst Calls is calls))
        ]
