-- What is done with a control, and what is answered of it.
use Rattle.std.specs.Prelude.{◌≡◌, ℕ, List, [], ◌∷◌, map, unwrap_or, Option, Some, None, Ok, Err}
use Rattle.std.specs.Option.{option_and_then}
use Rattle.tplg_plan.specs.declared.plans.Plan.{Plan}
use Rattle.tplg_plan.specs.declared.plans.ControlPlan.{ControlPlan}
use Rattle.tplg_plan.specs.declared.plans.ControlKind.{ControlKind}
use Rattle.tplg_plan.specs.declared.plans.ControlKind.TheVariants.{Volume, Choice, Blob, Masks}
use Rattle.tplg_plan.specs.GainOf.{control_gain}
use Rattle.host_widgets.specs.declared.answers.Answer.{Answer}
use Rattle.host_widgets.specs.declared.answers.Answer.TheVariants as answers
use Rattle.host_widgets.specs.declared.answers.HostFault.{HostFault}
use Rattle.host_widgets.specs.declared.kept.Record.{Record}
use Rattle.host_widgets.specs.declared.kept.ControlRec.{ControlRec}
use Rattle.host_widgets.specs.Controls.{eight_masks}
use Rattle.host_widgets.specs.Host.{Outcome}
use Rattle.host_widgets.specs.Kept.{control_at, with_control}
use Rattle.mbox_link.specs.BlobParts.{part_numbers}
use Rattle.host_widgets.specs.HostActs.{Act, Put, Ask, with_values, with_blob}
use Rattle.host_widgets.specs.ActLists.{part_acts}
use Rattle.host_widgets.specs.Orders.{Procedure, quiet, sends}
use Rattle.host_ctl.specs.ControlAsks.{channels_of, spread, named_control}

-- ---- set: the values of a volume, a mux or a demux

abbrev pub put_order : Plan → Record → ℕ → List ℕ → Procedure
put_order plan kept comp values = sends kept.power (Put comp values ∷ []) (with_control plan comp (with_values values)) answers.Done

abbrev pub setting_order : Plan → Record → List ℕ → Option ControlPlan → Procedure
setting_order plan kept values None = quiet answers.Done
setting_order plan kept values (Some k) = put_order plan kept k.comp (spread (unwrap_or (channels_of k.kind) 0) values)

abbrev pub set_order : Plan → Record → List ℕ → List ℕ → Procedure
set_order plan kept name values = setting_order plan kept values (named_control plan name)

-- ---- bytes: an equaliser's blob, in its parts

abbrev pub bytes_order_at : Plan → Record → ℕ → List ℕ → Procedure
bytes_order_at plan kept comp blob = sends kept.power (part_acts comp blob) (with_control plan comp (with_blob blob)) answers.Done

abbrev pub installing_order : Plan → Record → List ℕ → Option ControlPlan → Procedure
installing_order plan kept blob None = quiet answers.Done
installing_order plan kept blob (Some k) = bytes_order_at plan kept k.comp blob

abbrev pub bytes_order : Plan → Record → List ℕ → List ℕ → Procedure
bytes_order plan kept name blob = installing_order plan kept blob (named_control plan name)

-- ---- get: what the record says

abbrev pub told_by : ControlKind → ControlRec → Answer
told_by (Blob most initial) c = answers.Bytes c.blob
told_by kind c = answers.Values c.values

abbrev pub control_told : Option (ControlPlan × ControlRec) → Answer
control_told None = answers.Done
control_told (Some (k, c)) = told_by k.kind c

-- the control of a name, with its record
abbrev pub named_at : Plan → Record → List ℕ → Option (ControlPlan × ControlRec)
named_at plan kept name = option_and_then (λ (k : ControlPlan). control_at plan kept k.comp) (named_control plan name)

abbrev pub get_order : Plan → Record → List ℕ → Procedure
get_order plan kept name = quiet (control_told (named_at plan kept name))

-- ---- read: what the firmware says, by the record: a volume's gains, a mux's choice, an equaliser's blob, a demux's eight masks

abbrev pub control_answer : ControlKind → ControlRec → Answer
control_answer (Volume min max channels lowest step mute) c = answers.Values (map (control_gain (Volume min max channels lowest step mute)) c.values)
control_answer (Choice items) c = answers.Values c.values
control_answer (Blob most initial) c = answers.Bytes c.blob
control_answer (Masks min max channels) c = answers.Values (eight_masks c.values)

-- an equaliser is asked for each part of its blob, and another control once
abbrev pub ask_acts : ℕ → ControlKind → ControlRec → List Act
ask_acts comp (Blob most initial) c = map (Ask comp) (part_numbers c.blob)
ask_acts comp kind c = Ask comp 0 ∷ []

abbrev pub reading_order : Record → Option (ControlPlan × ControlRec) → Procedure
reading_order kept None = quiet answers.Done
reading_order kept (Some (k, c)) = sends kept.power (ask_acts k.comp k.kind c) (λ now. now) (control_answer k.kind c)

abbrev pub read_order : Plan → Record → List ℕ → Procedure
read_order plan kept name = reading_order kept (named_at plan kept name)

-- ---- a call that answers something once it is done

-- ---- values that a call may set, whatever the record says so far

-- ---- bytes that a call may set: a blob that is not longer than an equaliser takes

-- ---- the record alone

-- where the test tells a fault, that is answered, and the record stays; else the record alone changes
pub record KeptAlone (test : Option HostFault) (done : Record → Record) (kept kept' : Record) (result : Outcome) : Type 0 where
  pub early : (fault : HostFault) → test ≡ Some fault → (result ≡ Err fault) × (kept' ≡ kept)
  pub late : test ≡ None → (result ≡ Ok tt) × (kept' ≡ done kept)
