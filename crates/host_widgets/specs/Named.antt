-- What commands test first: that something is loaded, that a stream or a control has the name, and that the power is on.
use Rattle.std.specs.Prelude.{ℕ, List, Bool, false, Option, Some, None, slice_get}
use Rattle.std.specs.Option.{option_map_or}
use Rattle.std.specs.Str.{bytes_eq}
use Rattle.tplg_plan.specs.declared.plans.Plan.{Plan}
use Rattle.host_widgets.specs.declared.answers.HostFault.{HostFault}
use Rattle.host_widgets.specs.declared.answers.HostFault.TheVariants.{NotLoaded, Off}
use Rattle.host_widgets.specs.declared.kept.Power.{Power}
use Rattle.host_widgets.specs.declared.kept.Power.TheVariants as powers

-- the widget of this id has this name
abbrev pub is_named : Plan → List ℕ → ℕ → Bool
is_named plan name id = option_map_or (λ other. bytes_eq name other) (slice_get plan.names id) false

-- something is loaded; else the rest is not tested
abbrev pub loaded_fault : Power → Option HostFault → Option HostFault
loaded_fault powers.Unloaded rest = Some NotLoaded
loaded_fault power rest = rest

-- the power is not off
abbrev pub off_fault : Power → Option HostFault
off_fault powers.Off = Some Off
off_fault power = None
