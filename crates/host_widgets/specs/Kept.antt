-- The host's record: what should be there. It is the truth whenever the power was cut.
use Rattle.std.specs.Prelude.{ℕ, List, [], ◌∷◌, map, find, ◌==◌, Option, if◌then◌else◌}
use Rattle.std.specs.List.{zip}
use Rattle.tplg_plan.specs.declared.plans.Plan.{Plan}
use Rattle.tplg_plan.specs.declared.plans.StreamPlan.{StreamPlan}
use Rattle.tplg_plan.specs.declared.plans.ControlPlan.{ControlPlan}
use Rattle.host_widgets.specs.declared.kept.Power.{Power}
use Rattle.host_widgets.specs.declared.kept.Power.TheVariants.{Unloaded, Off}
use Rattle.host_widgets.specs.declared.kept.StreamRec.{StreamRec}
use Rattle.host_widgets.specs.declared.kept.ControlRec.{ControlRec}
use Rattle.host_widgets.specs.declared.kept.Record.{Record}
use Rattle.host_widgets.specs.HostRecord.{closed, halted}
use Rattle.host_widgets.specs.Controls.{first_values, first_blob}

-- ---- records of a plan

abbrev pub first_control : ControlPlan → ControlRec
first_control k = record { values = first_values k.kind; blob = first_blob k.kind }

-- nothing is loaded: every stream is closed, and every control is as it begins
abbrev pub first_record : Plan → Record
first_record plan = record { power = Unloaded; streams = map (λ s. closed) plan.streams; controls = map first_control plan.controls }

-- at another power
abbrev pub with_power : Power → Record → Record
with_power power kept = record { power = power; streams = kept.streams; controls = kept.controls }

-- the power is off, and no stream is Running or Paused
abbrev pub went_down : Record → Record
went_down kept = record { power = Off; streams = map halted kept.streams; controls = kept.controls }

-- ---- one stream, by its host, and one control, by its component

-- the record of a key in a list that goes with a plan's list, once it is changed
abbrev pub changed : {X Y : Type 0} → (X → ℕ) → ℕ → (Y → Y) → List X → List Y → List Y
changed key id f [] ys = ys
changed key id f (x ∷ xs) [] = []
changed key id f (x ∷ xs) (y ∷ ys) = (if key x == id then f y else y) ∷ changed key id f xs ys

-- the stream of a host is changed
abbrev pub with_stream : Plan → ℕ → (StreamRec → StreamRec) → Record → Record
with_stream plan host f kept =
    record { power = kept.power; streams = changed (λ (s : StreamPlan). s.host) host f plan.streams kept.streams; controls = kept.controls }

-- the control of a component is changed
abbrev pub with_control : Plan → ℕ → (ControlRec → ControlRec) → Record → Record
with_control plan comp f kept =
    record { power = kept.power; streams = kept.streams; controls = changed (λ (k : ControlPlan). k.comp) comp f plan.controls kept.controls }

-- the live controls of a plan, each with its record
abbrev pub controls_of : Plan → Record → List (ControlPlan × ControlRec)
controls_of plan kept = zip plan.controls kept.controls

-- the one of a component
abbrev pub control_at : Plan → Record → ℕ → Option (ControlPlan × ControlRec)
control_at plan kept comp = find (λ p. p.0.comp == comp) (controls_of plan kept)
