-- What an exchange leaves of a device that is on, by its result; and what its message met, by what the firmware says to it.
use Rattle.std.proofs.Common.{◌≡◌, ⊎_elim, refl, sym, ap, subst, ◌∙◌, ℕ, ◌-◌, true, List, Option, Some, None, Result, Ok, Err, ℤ}
use Rattle.std.specs.Prelude.{is_some}
use Rattle.sof_base.specs.declared.errno.Errno.{Errno}
use Rattle.sof_base.specs.Ports.{Io}
use Rattle.stream_law.specs.State.{FwState}
use Rattle.ipc3_model.specs.declared.message.Message.{Message}
use Rattle.ipc3_model.specs.Meanings.{IsMessage}
use Rattle.ipc3_model.specs.Messages.{message_spelling, decoded}
use Rattle.mbox_link.specs.declared.fates.Fate.{Fate}
use Rattle.mbox_link.specs.declared.fates.Fate.TheVariants.{Pass, Refuse, Drop}
use Rattle.mbox_link.specs.Step.{row, row_of, body_of, error_reply}
use Rattle.mbox_link.specs.Exchange.{ticks}
use Rattle.mbox_link.specs.Calls.{World, Meaning, Exchanged}
use Rattle.mbox_link.specs.Meetings.{Meeting}
use Rattle.host_widgets.specs.declared.answers.HostFault.TheVariants.{Refused, LinkDown}
use Rattle.host_widgets.specs.Host.{Outcome, errno, verdict}
use Rattle.host_widgets.specs.ActRules.{ActRules}
use Rattle.host_widgets.specs.OneAct.{outcome_by}
use Rattle.host_widgets.specs.ActCalls.{ActDid, Counted, came_to}
use Rattle.host_widgets.proofs.ReplyErrors.{IsErrorNumber, done_reply}
use Rattle.host_widgets.proofs.Exchanges.{Came, came, verdict-number}
use Rattle.host_widgets.proofs.Effects.{row-decoded}
use Rattle.host_widgets.proofs.DonePasses.{done-passes}

-- the firmware says to a message that it is done, or refuses it so
abbrev pub Says : Option Errno → Result FwState ℤ → Type 0
Says None said = (g : FwState) × (said ≡ Ok g)
Says (Some e) said = (error : ℤ) × (said ≡ Err error) × (errno error ≡ e)

module _ {D : Type 0} (means : Meaning D) (message : Message) (fits : IsMessage message) (answer : Option (List ℕ)) (w v : World D) (f : FwState) (on : means.on w.device ≡ Some f)
    (x : Exchanged means (message_spelling message) answer w v) where
  -- the state and the endpoints right before the message
  abbrev pub before : FwState × Io
  before = ticks (means.pending w.device - means.pending v.device) (f, w.io)

  pub it-came : Came means (message_spelling message) answer w v before
  it-came = came means (message_spelling message) answer w v f on x

  row-is : row_of before.0 (decoded (message_spelling message)) ≡ row before.0 message
  row-is = row-decoded before.0 message fits

  -- the result, by the answer
  abbrev said_by : Option (List ℕ) → Outcome
  said_by a = came_to (verdict a)

  said-done : answer ≡ Some (done_reply (body_of before.0 (decoded (message_spelling message)))) → came_to (verdict answer) ≡ Ok tt
  said-done said = ap said_by said ∙ done-passes (body_of before.0 (decoded (message_spelling message)))

  said-number : (error : ℤ) → IsErrorNumber error → answer ≡ Some (error_reply error) → came_to (verdict answer) ≡ Err (Refused (errno error))
  said-number error number said = ap said_by said ∙ ap came_to (verdict-number error number)

  -- ---- the device

  -- it took the message, or is as it was right before it; and after a failed link no more is known than that it is on
  abbrev pub Left : Outcome → Type 0
  Left (Ok done) = (g : FwState) × (means.on v.device ≡ Some g) × (row before.0 message ≡ Ok g)
  Left (Err LinkDown) = is_some (means.on v.device) ≡ true
  Left (Err fault) = means.on v.device ≡ Some before.0

  pub it-left : Left (came_to (verdict answer))
  it-left = ⊎_elim
      (λ took. subst Left (sym (said-done took.said)) (took.next, took.on, sym row-is ∙ took.row))
      (λ rest. ⊎_elim
      (λ it. subst Left (sym (said-number it.error it.number it.said)) it.on)
      (λ rest. ⊎_elim
      (λ it. subst Left (sym (said-number it.error it.number it.said)) it.on)
      (λ it. subst Left (sym (ap said_by it.said)) it.on)
      rest) rest)
      it-came.way

  -- ---- what the message met

  says-done : (own : Option Errno) → Says own (row before.0 message) → (g : FwState) → row before.0 message ≡ Ok g → Ok tt ≡ outcome_by Pass own
  says-done None says g done = refl
  says-done (Some e) says g done = absurd (cc (sym done ∙ says.1))

  says-error : (own : Option Errno) → Says own (row before.0 message) → (error : ℤ) → row before.0 message ≡ Err error → Err (Refused (errno error)) ≡ outcome_by Pass own
  says-error None says error refused = absurd (cc (sym refused ∙ says.1))
  says-error (Some e) says error refused = let same : error ≡ says.0 = cc (sym refused ∙ says.1) in ap (λ (x : Errno). Err (Refused x)) (ap errno same ∙ says.2)

  -- a fate that is shown by the answer
  pub record Met (own : Option Errno) : Type 0 where
    pub fate : Fate
    pub counted : Counted means fate w.device v.device
    pub came_so : came_to (verdict answer) ≡ outcome_by fate own

  pub it-met : (own : Option Errno) → Says own (row before.0 message) → Met own
  it-met own says = ⊎_elim
      (λ took. record { fate = Pass; counted = tt; came_so = said-done took.said ∙ says-done own says took.next (sym row-is ∙ took.row) })
      (λ rest. ⊎_elim
      (λ it. record { fate = Pass; counted = tt; came_so = said-number it.error it.number it.said ∙ says-error own says it.error (sym row-is ∙ it.row) })
      (λ rest. ⊎_elim
      (λ it. record { fate = Refuse it.error; counted = it.rose; came_so = said-number it.error it.number it.said })
      (λ it. record { fate = Drop; counted = it.rose; came_so = ap said_by it.said })
      rest) rest)
      it-came.way

-- ---- an act

module _ {D S A : Type 0} (means : Meaning D) (rules : ActRules S A) (kept : S) (act : A) (answer : Option (List ℕ)) (w v : World D) where
  -- what its message met
  abbrev pub HasMet : Type 0
  HasMet = (m : Meeting) × (did : ActDid means rules kept act m w v) × (did.answer ≡ answer)

  -- so its result is what the rules say
  pub met-came : (m : HasMet) → came_to (verdict answer) ≡ outcome_by m.0.fate (rules.own kept act)
  met-came m = ap (λ (a : Option (List ℕ)). came_to (verdict a)) (sym m.2) ∙ m.1.came

  pub act-met : (fits : IsMessage (rules.message act)) (f : FwState) (on : means.on w.device ≡ Some f) (x : Exchanged means (message_spelling (rules.message act)) answer w v) →
      Says (rules.own kept act) (row (before means (rules.message act) fits answer w v f on x).0 (rules.message act)) → HasMet
  act-met fits f on x says =
      let m = it-met means (rules.message act) fits answer w v f on x (rules.own kept act) says in (
        record { lag = means.pending w.device - means.pending v.device; fate = m.fate },
        record { on = ap is_some on; message = fits; answer = answer; exchanged = x; lag = refl; counted = m.counted; came = m.came_so },
        refl,
      )
