-- What the host's calls do on a device, and what they come to.
use Rattle.std.specs.Prelude.{◌≡◌, ◌⊎◌, ℕ, ◌<◌, ◌≤◌, ℤ, pos, negsuc, Bool, true, false, List, [], ◌∷◌, length, nat_le, Option, Some, None, is_some, Result, Ok, Err, if◌then◌else◌, ◌==◌, ◌&&◌, not}
use Rattle.std.specs.List.{list_any, list_all}
use Rattle.std.specs.Option.{option_map}
use Rattle.sof_base.specs.BlobFaults.{is_blob}
use Rattle.sof_base.specs.declared.errno.Errno.{Errno}
use Rattle.sof_base.specs.declared.format.Params.{Params}
use Rattle.stream_law.specs.State.{View, view_of}
use Rattle.stream_law.specs.Ways.{is_live_phase, touch, same_shape, agree}
use Rattle.ipc3_model.specs.declared.reply.Reply.{Reply}
use Rattle.ipc3_model.specs.declared.reply.Body.TheVariants.{Nothing}
use Rattle.ipc3_model.specs.declared.fault.CodecFault.{CodecFault}
use Rattle.ipc3_model.specs.Replies.{decoded_reply}
use Rattle.mbox_link.specs.Calls.{Meaning}
use Rattle.tplg_plan.specs.declared.plans.Plan.{Plan}
use Rattle.tplg_plan.specs.declared.plans.StreamPlan.{StreamPlan}
use Rattle.tplg_plan.specs.declared.plans.ControlPlan.{ControlPlan}
use Rattle.tplg_plan.specs.declared.plans.ControlKind.{ControlKind}
use Rattle.tplg_plan.specs.declared.plans.ControlKind.TheVariants.{Volume, Choice, Blob, Masks}
use Rattle.host_widgets.specs.declared.answers.HostFault.{HostFault}
use Rattle.host_widgets.specs.declared.answers.HostFault.TheVariants.{Refused, LinkDown}
use Rattle.host_widgets.specs.declared.kept.Power.{Power}
use Rattle.host_widgets.specs.declared.kept.Power.TheVariants.{Unloaded, On, Off}
use Rattle.host_widgets.specs.declared.kept.StreamRec.{StreamRec}
use Rattle.host_widgets.specs.declared.kept.Record.{Record}
use Rattle.host_widgets.specs.declared.kept.ControlRec.{ControlRec}
use Rattle.host_widgets.specs.Kept.{first_control, first_record}
use Rattle.host_widgets.specs.HostRecord.{may_have}
use Rattle.host_widgets.specs.Expected.{phase_of}
use Rattle.host_widgets.specs.ViewOf.{record_view}

-- whether a command that answers nothing else was done
abbrev pub Outcome : Type 0
Outcome = Result (Unit {0}) HostFault

-- ---- one exchange

-- below 0
abbrev pub is_negative : ℤ → Bool
is_negative (pos n) = false
is_negative (negsuc n) = true

-- an error number as the host answers it
abbrev pub errno : ℤ → Errno
errno e = record { 0 = e }

-- a reply whose error is 0, without a body
abbrev pub plainly_done : Reply
plainly_done = record { error = pos 0; body = Nothing }

-- a reply with a negative error refuses; a refusal is always read, so a reply that can't be read was of a message that was done
abbrev pub judged : Result Reply CodecFault → Result Reply HostFault
judged (Ok reply) = if is_negative reply.error then Err (Refused (errno reply.error)) else Ok reply
judged (Err fault) = Ok plainly_done

-- what the host makes of an exchange's answer
abbrev pub verdict : Option (List ℕ) → Result Reply HostFault
verdict None = Err LinkDown
verdict (Some bytes) = judged (decoded_reply bytes)

-- ---- what the firmware itself refuses

-- a stream that is not this host's, has parameters, touches this one, and has another rate or number of channels
abbrev pub conflicts : Plan → ℕ → Params → StreamPlan × StreamRec → Bool
conflicts plan host p (s, r) =
    not (s.host == host) && touch plan.graph s.host host && is_some r.params && not (same_shape r.params (Some p))

-- ---- both sides

-- the device by the record's power: on with the view that is expected, or off; a record that is unloaded is the
-- first, and while the power is off no stream runs or is paused
abbrev pub SidesBy : {D : Type 0} → Meaning D → Plan → View → Record → D → Power → Type 0
SidesBy means plan view kept device Unloaded = (kept ≡ first_record plan) × (means.on device ≡ None)
SidesBy means plan view kept device On = option_map view_of (means.on device) ≡ Some view
SidesBy means plan view kept device Off = (list_any (λ s. is_live_phase (phase_of s.found)) kept.streams ≡ false) × (means.on device ≡ None)

-- on with the view that the record says
abbrev pub Sides : {D : Type 0} → Meaning D → Plan → Record → D → Power → Type 0
Sides means plan kept device power = SidesBy means plan (record_view plan kept) kept device power

-- what a command may set: a value for each channel of a volume, in its range; the number of one of a mux's items; a blob that is not
-- longer than an equaliser takes; and a mask for each channel of a demux's control, in its range
abbrev pub IsControlSet : ControlKind → ControlRec → Type 0
IsControlSet (Volume min max channels lowest step mute) c =
    (length c.values ≡ channels) × (list_all (λ v. nat_le min v && nat_le v max) c.values ≡ true) × (c.blob ≡ [])
IsControlSet (Choice items) c = (v : ℕ) × (c.values ≡ v ∷ []) × (v < items) × (c.blob ≡ [])
IsControlSet (Blob most initial) c = (c.values ≡ []) × (length c.blob ≤ most) × (is_blob c.blob ≡ true)
IsControlSet (Masks min max channels) c =
    (length c.values ≡ channels) × (list_all (λ v. nat_le min v && nat_le v max) c.values ≡ true) × (c.blob ≡ [])

-- a record for each live control, which is as it begins or was set
abbrev pub AreControls : List ControlPlan → List ControlRec → Type 0
AreControls [] [] = Unit {0}
AreControls (k ∷ ks) (c ∷ cs) = ((c ≡ first_control k) ⊎ IsControlSet k.kind c) × AreControls ks cs
AreControls ks cs = ⊥

-- A record of this plan: it has the plan's streams, each with the parameters that it may have where it stands, and its live
-- controls; and any two streams whose ways share something have one rate and one number of channels.
pub record IsRecordOf (plan : Plan) (kept : Record) : Type 0 where
  pub streams : length kept.streams ≡ length plan.streams
  pub controls : AreControls plan.controls kept.controls
  pub each : list_all (λ r. may_have r.found r.params) kept.streams ≡ true
  pub shapes : agree (record_view plan kept) ≡ true

-- the record and the device agree, where this view is expected while the power is on
pub record AgreesBy {D : Type 0} (means : Meaning D) (plan : Plan) (view : View) (kept : Record) (device : D) : Type 0 where
  pub record_is : IsRecordOf plan kept
  pub sides : SidesBy means plan view kept device kept.power

-- the view that the record says
abbrev pub Agrees : {D : Type 0} → Meaning D → Plan → Record → D → Type 0
Agrees means plan kept device = AgreesBy means plan (record_view plan kept) kept device
