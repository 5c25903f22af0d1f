-- What the host answers to a change of a control.
use Rattle.std.specs.Prelude.{◌≡◌, ◌≤◌, ℕ, List, [], ◌∷◌, ◌++◌, length, true, Option, Some, None, Ok, Err, Result}
use Rattle.sof_base.specs.BlobFaults.{is_blob}
use Rattle.sof_base.specs.declared.part.Part.{Part}
use Rattle.std.specs.Option.{option_map, option_and_then}
use Rattle.stream_law.specs.declared.graph.Comp.{Comp}
use Rattle.stream_law.specs.declared.graph.Setting.{Setting}
use Rattle.stream_law.specs.declared.graph.Setting.TheVariants as settings
use Rattle.stream_law.specs.State.{FwState}
use Rattle.stream_law.specs.Ways.{comp_of}
use Rattle.ipc3_model.specs.declared.reply.Body.{Body}
use Rattle.ipc3_model.specs.declared.reply.Body.TheVariants as bodies
use Rattle.tplg_plan.specs.declared.plans.Plan.{Plan}
use Rattle.tplg_plan.specs.declared.plans.ControlPlan.{ControlPlan}
use Rattle.tplg_plan.specs.declared.plans.ControlKind.{ControlKind}
use Rattle.tplg_plan.specs.declared.plans.ControlKind.TheVariants.{Volume, Choice, Blob, Masks}
use Rattle.host_widgets.specs.declared.answers.Answer.{Answer}
use Rattle.host_widgets.specs.declared.answers.Answer.TheVariants as answers
use Rattle.host_widgets.specs.declared.answers.HostFault.{HostFault}
use Rattle.host_widgets.specs.declared.kept.Record.{Record}
use Rattle.host_widgets.specs.ActLists.{part_acts}
use Rattle.host_widgets.specs.ViewOf.{graph_by}
use Rattle.host_widgets.specs.Host.{Outcome, IsControlSet}
use Rattle.host_widgets.specs.ActCarried.{ActsSent}
use Rattle.host_widgets.specs.ActCarried.{PlainEnd}
use Rattle.mbox_link.specs.Calls.{World, Meaning}
use Rattle.host_ctl.specs.ControlAsks.{named_control}

-- the command by which they are asked for; an equaliser has none
abbrev pub value_command : ControlKind → Option ℕ
value_command (Volume min max channels lowest step mute) = Some 0
value_command (Choice items) = Some 1
value_command (Blob most initial) = None
value_command (Masks min max channels) = Some 2

-- the values that a reply carries
abbrev pub carried_by : Body → Answer
carried_by (bodies.Values values) = answers.Values values
carried_by body = answers.Done

-- the bytes of the parts so far with those of one more after them; the first brings the header
abbrev pub with_part : List ℕ → Part → List ℕ
with_part [] part = part.header ++ part.bytes
with_part (b ∷ bytes) part = (b ∷ bytes) ++ part.bytes

-- what is set at a component of the firmware
abbrev pub setting_answer : Setting → Answer
setting_answer settings.Nothing = answers.Done
setting_answer (settings.Gains gains) = answers.Values gains
setting_answer (settings.Choice k) = answers.Values (k ∷ [])
setting_answer (settings.Blob blob) = answers.Bytes blob
setting_answer (settings.Masks masks) = answers.Values masks

-- what the firmware has of the control of a name
abbrev pub firmware_has : Plan → List ℕ → FwState → Option Answer
firmware_has plan name f = option_and_then (λ (k : ControlPlan). option_map (λ (c : Comp). setting_answer c.setting) (comp_of f.graph k.comp)) (named_control plan name)

-- a firmware that is on has this there
abbrev pub Shows : Plan → List ℕ → Answer → Option FwState → Type 0
Shows plan name a on = option_and_then (firmware_has plan name) on ≡ Some a

abbrev pub outcome_of : Result Answer HostFault → Outcome
outcome_of (Ok answer) = Ok tt
outcome_of (Err fault) = Err fault

-- a record with them is one that is set; no blob goes with them
abbrev pub MaySet : ControlKind → List ℕ → Type 0
MaySet kind values = (blob : List ℕ) → blob ≡ [] → IsControlSet kind (record { values = values; blob = blob })

abbrev pub MayInstall : ControlKind → List ℕ → Type 0
MayInstall (Blob most initial) blob = (length blob ≤ most) × (is_blob blob ≡ true)
MayInstall kind blob = ⊥

-- the parts of a blob were sent, up to the first that did not pass; a failed link takes the record down and cuts the device
pub record PartsPass {D : Type 0} (means : Meaning D) (plan : Plan) (heap comp : ℕ) (blob : List ℕ) (kept kept' : Record) (w v : World D) (result : Outcome) : Type 0 where
  pub sent : World D
  pub parts : ActsSent means plan (part_acts comp blob) w sent result
  pub ends : PlainEnd means heap result kept kept' sent v

-- an equaliser's control
abbrev pub HasBlob : ControlKind → Type 0
HasBlob (Blob most initial) = Unit {0}
HasBlob kind = ⊥

-- a device that is on has this component as the record sets it
abbrev pub IsSetAt : {D : Type 0} → Meaning D → Plan → Record → ℕ → D → Type 0
IsSetAt means plan kept id device = (f : FwState) → means.on device ≡ Some f → comp_of f.graph id ≡ comp_of (graph_by plan kept) id

-- it is on, and has it so
abbrev pub HasSet : {D : Type 0} → Meaning D → Plan → Record → ℕ → D → Type 0
HasSet means plan kept id device = (f : FwState) × (means.on device ≡ Some f) × (comp_of f.graph id ≡ comp_of (graph_by plan kept) id)

-- that of the control of this name
abbrev pub IsSetFor : {D : Type 0} → Meaning D → Plan → Record → List ℕ → D → Type 0
IsSetFor means plan kept name device = (k : ControlPlan) → named_control plan name ≡ Some k → IsSetAt means plan kept k.comp device
