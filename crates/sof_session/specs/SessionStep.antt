-- What a command does to a session over any device.
use Rattle.std.specs.Prelude.{◌≡◌, ℕ, map, List, [], ◌∷◌, ◌++◌, Bool, true, false, Option, Some, None}
use Rattle.stream_law.specs.Past.{Moment, Past, Leads}
use Rattle.stream_law.specs.Stands.{Stands}
use Rattle.mbox_link.specs.declared.fates.Fate.TheVariants.{Pass}
use Rattle.mbox_link.specs.Exchange.{Rose, more}
use Rattle.mbox_link.specs.Calls.{World, Meaning}
use Rattle.mbox_link.specs.Wire.{Wire}
use Rattle.mbox_link.specs.Link.{link}
use Rattle.mbox_link.specs.Meetings.{Meeting, Doing, Queue, queue_of, planned, without_entry}
use Rattle.host_widgets.specs.declared.answers.Answer.{Answer}
use Rattle.host_widgets.specs.declared.answers.HostFault.{HostFault}
use Rattle.host_widgets.specs.Host.{Outcome}
use Rattle.host_widgets.specs.ActRules.{ActRules}
use Rattle.host_widgets.specs.Routines.{Job, JobDone}
use Rattle.sof_script.specs.declared.script.Command.{Command}
use Rattle.sof_session.specs.CommandRules.{CommandRules}
use Rattle.sof_session.specs.Commands.{Known, answer_by, is_plan, next}
use Rattle.sof_session.specs.Written.{written_between, written_in}

-- no count of faults or refusals of a device rose
pub record Calm {D : Type 0} (means : Meaning D) (old new : D) : Type 0 where
  pub faults : Rose (means.faults old) (means.faults new) → ⊥
  pub refusals : Rose (means.refusals old) (means.refusals new) → ⊥

-- the device after a link and the inputs stand where these moments lead, at this past
abbrev pub StandsAt : {P : Type 0} → Meaning P → List (ℕ × List ℕ) → List Moment → Past → World (Wire P) → Type 0
StandsAt means whole moments past w = (stands : Stands (means.on w.device.device) whole w.io.inputs moments) × (stands.past ≡ past)

-- These doings of a device are what messages met, one after another from this queue on: where a message was planned to pass, the fate
-- that it met is the device's own.
abbrev pub DidAsMet : Doing → Queue → List Meeting → Type 0
DidAsMet doing queue [] = Unit {0}
DidAsMet doing queue (m ∷ ms) =
    let n = more queue.sent in
    ((planned queue.entries n).fate ≡ Pass → doing n ≡ m.fate) × DidAsMet doing (record { sent = n; entries = without_entry n queue.entries }) ms

-- The calls of a command: none where a test fails or something is planned, and else those of its job, by which it answers their
-- result. What the device did is what their messages met.
abbrev pub CallsBy : {P S A : Type 0} → Meaning P → ActRules S A → ℕ → Doing → Job S A → S → World (Wire P) → World (Wire P) → Answer → Bool → Option HostFault → Type 0
CallsBy means acts heap doing job kept' w v answer true fault = (v.device.device ≡ w.device.device) × (v.io ≡ w.io)
CallsBy means acts heap doing job kept' w v answer false (Some fault) = v ≡ w
CallsBy means acts heap doing job kept' w v answer false None =
    (result : Outcome) × (done : JobDone (link means) acts heap job kept' w v result) × (answer ≡ answer_by job.answer result)
    × DidAsMet doing (queue_of w.device) done.meetings

-- what the host and the link know
abbrev pub known_of : {P S : Type 0} → Wire P → S → Known S
known_of wire kept = record { kept = kept; queue = queue_of wire }

-- What a command does over any device. There are doings of the device, none where its counts did not rise, by which what is
-- known after it and its answer are the written ones; its calls are those of its job, and no others, and their messages met these
-- doings; and where the device and the inputs stood at a place of a run, they stand at its next, and the outputs hold what was
-- written.
pub record CommandDone {P S A : Type 0} (means : Meaning P) (rules : CommandRules S A) (heap : ℕ) (command : Command) (kept kept' : S) (w v : World (Wire P)) (answer : Answer) : Type 0 where
  pub doing : Doing
  pub none : Calm means w.device.device v.device.device → (number : ℕ) → doing number ≡ Pass
  pub known_is : known_of v.device kept' ≡ (next rules doing (known_of w.device kept) command).known
  pub answer_is : answer ≡ (next rules doing (known_of w.device kept) command).answer
  pub calls : CallsBy means rules.acts heap doing (rules.job kept command) kept' w v answer (is_plan command) (rules.fault kept command)
  pub stands : (whole : List (ℕ × List ℕ)) (before : List Moment) (past : Past) → StandsAt means whole before past w →
      let moments = (next rules doing (known_of w.device kept) command).moments in
      (past' : Past) × Leads whole past moments past' × StandsAt means whole (before ++ moments) past' v
      × (written_in v.io.outputs ≡ written_between (map (λ o. o.slot) w.io.outputs) past past')
