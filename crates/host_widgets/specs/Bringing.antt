-- What bringing a graph up sends and leaves.
use Rattle.std.specs.Prelude.{◌≡◌, ◌⊎◌, ◌↔◌, ℕ, ◌-◌, ◌%◌, ◌^◌, ◌≤◌, pos, true, List, [], ◌∷◌, length, Option, Some, None, Result, Ok, Err}
use Rattle.std.specs.Option.{option_map}
use Rattle.sof_base.specs.declared.errno.Errno.{Errno}
use Rattle.stream_law.specs.State.{FwState}
use Rattle.ipc3_model.specs.declared.reply.Reply.{Reply}
use Rattle.ipc3_model.specs.declared.reply.Body.TheVariants.{Nothing}
use Rattle.ipc3_model.specs.declared.fault.CodecFault.{CodecFault}
use Rattle.ipc3_model.specs.Messages.{decoded}
use Rattle.ipc3_model.specs.Replies.{decoded_reply}
use Rattle.mbox_link.specs.Step.{body_of}
use Rattle.mbox_link.specs.Exchange.{Rose}
use Rattle.mbox_link.specs.Calls.{World, Meaning, Exchange, Led}
use Rattle.tplg_plan.specs.declared.plans.Plan.{Plan}
use Rattle.host_widgets.specs.declared.answers.HostFault.{HostFault}
use Rattle.host_widgets.specs.declared.answers.HostFault.TheVariants.{Refused, LinkDown}
use Rattle.host_widgets.specs.declared.kept.Record.{Record}
use Rattle.host_widgets.specs.Expected.{needed_by}
use Rattle.host_widgets.specs.StateOf.{state_by}
use Rattle.host_widgets.specs.Host.{Outcome, is_negative, errno, plainly_done, verdict}

-- whatever the firmware's state, it has no body for its reply to these bytes
abbrev pub IsBare : List ℕ → Type 0
IsBare request = (f : FwState) → body_of f (decoded request) ≡ Nothing

-- this reply was answered, or one with a body that can't be read, in whose place it stands
abbrev pub IsRead : Option (List ℕ) → Reply → Type 0
IsRead answer reply = (option_map decoded_reply answer ≡ Some (Ok reply)) ⊎ ((fault : CodecFault) × (option_map decoded_reply answer ≡ Some (Err fault)) × (reply ≡ plainly_done))

-- The result of one exchange of these bytes, and no other call. It passes with a reply whose error is 0, it is refused
-- exactly with a reply whose error is negative, and the link is down exactly where it failed. A reply without a body is read.
pub record Sent {D : Type 0} (means : Meaning D) (request : List ℕ) (w v : World D) (result : Result Reply HostFault) : Type 0 where
  pub answer : Option (List ℕ)
  pub led : Led means w (Exchange request answer ∷ []) v
  pub said : result ≡ verdict answer
  pub passed : (reply : Reply) → result ≡ Ok reply → (reply.error ≡ pos 0) × IsRead answer reply
  pub refused : (e : Errno) → (result ≡ Err (Refused e)) ↔ ((reply : Reply) × (option_map decoded_reply answer ≡ Some (Ok reply)) × (is_negative reply.error ≡ true) × (errno reply.error ≡ e))
  pub down : (result ≡ Err LinkDown) ↔ (answer ≡ None)
  pub read : IsBare request → (bytes : List ℕ) → answer ≡ Some bytes → (reply : Reply) × (decoded_reply bytes ≡ Ok reply)

-- the stated sizes of all widgets fit
abbrev pub Fits : Plan → ℕ → Type 0
Fits plan heap = needed_by plan (length plan.widgets) ≤ heap

-- the ticks that a device has put before messages, as its clock counts them
abbrev pub ticks_put : {D : Type 0} → Meaning D → D → D → ℕ
ticks_put means old new = (means.pending old - means.pending new) % 2 ^ 32

-- once all acts that bring it up have passed, it keeps the plan with what this record sets
abbrev pub BroughtUp : {D : Type 0} → Meaning D → Plan → ℕ → Record → D → Outcome → D → Type 0
BroughtUp means plan heap kept old (Ok done) new = means.on new ≡ Some (state_by plan kept heap (ticks_put means old new))
BroughtUp means plan heap kept old (Err fault) new = Unit {0}

-- a load from nothing succeeds where the sizes fit and neither count rises, and not where they do not fit
pub record SucceedsExactly {D : Type 0} (means : Meaning D) (plan : Plan) (heap : ℕ) (old : D) (result : Outcome) (new : D) : Type 0 where
  pub fit : Fits plan heap → (Rose (means.faults old) (means.faults new) → ⊥) → (Rose (means.refusals old) (means.refusals new) → ⊥) → result ≡ Ok tt
  pub unfit : (result ≡ Ok tt) → Fits plan heap
