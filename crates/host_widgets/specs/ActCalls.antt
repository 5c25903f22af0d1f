-- Acts over any device: the exchange of each, and what its message met there.
use Rattle.std.specs.Prelude.{◌≡◌, ℕ, ◌-◌, List, [], ◌∷◌, Bool, true, false, Option, is_some, Result, Ok, Err}
use Rattle.stream_law.specs.Past as past
use Rattle.stream_law.specs.Past.{Moment}
use Rattle.ipc3_model.specs.declared.reply.Reply.{Reply}
use Rattle.ipc3_model.specs.Meanings.{IsMessage}
use Rattle.ipc3_model.specs.Messages.{message_spelling}
use Rattle.mbox_link.specs.declared.fates.Fate.{Fate}
use Rattle.mbox_link.specs.declared.fates.Fate.TheVariants.{Pass, Refuse, Drop, Lose}
use Rattle.mbox_link.specs.Exchange.{Rose}
use Rattle.mbox_link.specs.Calls.{World, Meaning, Call, Boot, Cut, Tick, Exchanged}
use Rattle.host_widgets.specs.declared.answers.HostFault.{HostFault}
use Rattle.host_widgets.specs.Host.{Outcome, verdict}
use Rattle.mbox_link.specs.Meetings.{Meeting}
use Rattle.host_widgets.specs.ActRules.{ActRules}
use Rattle.host_widgets.specs.OneAct.{outcome_by, one_act}
use Rattle.host_widgets.specs.Walk.{goes_past}

-- ---- one act

-- the result of an exchange, without its reply
abbrev pub came_to : Result Reply HostFault → Outcome
came_to (Ok reply) = Ok tt
came_to (Err fault) = Err fault

-- a fate that is not to pass raised a count
abbrev pub Counted : {D : Type 0} → Meaning D → Fate → D → D → Type 0
Counted means Pass old new = Unit {0}
Counted means (Refuse e) old new = Rose (means.refusals old) (means.refusals new)
Counted means Drop old new = Rose (means.faults old) (means.faults new)
Counted means Lose old new = Rose (means.faults old) (means.faults new)

-- One exchange with a device that is on, of the act's message, which is one that is written. What that met is what the exchange did: the
-- ticks that `pending` fell by, and the fate that its answer shows.
pub record ActDid {D S A : Type 0} (means : Meaning D) (rules : ActRules S A) (kept : S) (act : A) (m : Meeting) (w v : World D) : Type 0 where
  pub on : is_some (means.on w.device) ≡ true
  pub message : IsMessage (rules.message act)
  pub answer : Option (List ℕ)
  pub exchanged : Exchanged means (message_spelling (rules.message act)) answer w v
  pub lag : m.lag ≡ means.pending w.device - means.pending v.device
  pub counted : Counted means m.fate w.device v.device
  pub came : came_to (verdict answer) ≡ outcome_by m.fate (rules.own kept act)

-- ---- acts, one after another

-- the acts go on, or end here with no more meetings
abbrev pub Onwards : {D : Type 0} → Bool → List Meeting → World D → World D → Type 0 → Type 0
Onwards true ms w v Rest = Rest
Onwards false ms w v Rest = (ms ≡ []) × (v ≡ w)

-- these messages were sent, and no other call was made; each met this
abbrev pub ActsDid : {D S A : Type 0} → Meaning D → ActRules S A → Bool → S → List A → List Meeting → World D → World D → Type 0
ActsDid means rules goes_on kept [] ms w v = (ms ≡ []) × (v ≡ w)
ActsDid means rules goes_on kept (act ∷ acts) [] w v = ⊥
ActsDid {D} means rules goes_on kept (act ∷ acts) (m ∷ ms) w v =
    (mid : World D) × ActDid means rules kept act m w mid ×
    Onwards (goes_past goes_on (one_act rules kept act m).outcome) ms mid v
    (ActsDid means rules goes_on (one_act rules kept act m).kept acts ms mid v)

-- the meetings of messages, one after another
abbrev pub next_of : List Meeting → Meeting × List Meeting
next_of [] = (record { lag = 0; fate = Pass }, [])
next_of (m ∷ ms) = (m, ms)

-- ---- the calls of moments before and after the acts

abbrev pub calls_of : ℕ → List Moment → List Call
calls_of heap [] = []
calls_of heap (past.Boot ∷ moments) = Boot heap ∷ calls_of heap moments
calls_of heap (past.Cut ∷ moments) = Cut ∷ calls_of heap moments
calls_of heap (past.Now view fresh ∷ moments) = calls_of heap moments
calls_of heap (past.Tick ∷ moments) = Tick ∷ calls_of heap moments
