-- The rows of SET_VALUE and GET_VALUE.
use Rattle.std.specs.Prelude.{ℕ, ◌&&◌, not, List, [], ◌∷◌, map, length, Option, Some, None, Result, Ok, Err, ℤ, nat_le, is_some, option_and_then, ◌==◌, if◌then◌else◌}
use Rattle.std.specs.List.{list_all}
use Rattle.stream_law.specs.declared.graph.Kind.{Kind}
use Rattle.stream_law.specs.declared.graph.Kind.TheVariants.{Volume, Mux, Demux}
use Rattle.stream_law.specs.declared.graph.Setting.{Setting}
use Rattle.stream_law.specs.declared.graph.Setting.TheVariants.{Gains, Choice, Masks}
use Rattle.stream_law.specs.declared.graph.Comp.{Comp}
use Rattle.stream_law.specs.declared.graph.Graph.{Graph}
use Rattle.stream_law.specs.State.{FwState, View}
use Rattle.stream_law.specs.Ways.{comp_of, is_of}
use Rattle.stream_law.specs.Seen.{seen, is_volume}
use Rattle.ipc3_model.specs.declared.control_kind.TheConstants.{CTRL_VOLUME, CTRL_ENUM, CTRL_SWITCH}
use Rattle.mbox_link.specs.ErrorNumbers.{no_device, invalid}
use Rattle.mbox_link.specs.NamedIds.{is_used}
use Rattle.mbox_link.specs.NewRows.{with_comps}

-- what values set at a component: a volume takes as many gains as it has, of at most 16777216, by CTRL_VOLUME; a mux a choice by
-- CTRL_ENUM; and a demux eight masks, of at most 255, by CTRL_SWITCH
abbrev pub new_setting : Kind → Setting → ℕ → List ℕ → Option Setting
new_setting Volume (Gains gains) command values =
    if command == CTRL_VOLUME && (length values == length gains && list_all (λ v. nat_le v 16777216) values) then Some (Gains values) else None
new_setting Mux setting command (v ∷ []) = if command == CTRL_ENUM then Some (Choice v) else None
new_setting Demux setting command values =
    if command == CTRL_SWITCH && (length values == 8 && list_all (λ v. nat_le v 255) values) then Some (Masks values) else None
new_setting kind setting command values = None

abbrev pub with_setting : ℕ → Setting → Comp → Comp
with_setting id setting c = if c.id == id then record c { setting = setting } else c

-- a state's view with a setting
abbrev pub with_setting_at : FwState → ℕ → Setting → View
with_setting_at f id setting = record { graph = with_comps (map (with_setting id setting) f.graph.comps) f.graph; streams = f.streams }

-- a choice or masks are in force from the next tick; at a volume that is Live a ramp to the new gains begins
abbrev pub value_set : FwState → ℕ → Option Setting → Result FwState ℤ
value_set f id None = Err invalid
value_set f id (Some setting) =
    Ok (if is_of f.graph is_volume id then seen (with_setting_at f id setting) (Some id) f else record f { graph = (with_setting_at f id setting).graph })

abbrev pub set_value : FwState → ℕ → ℕ → List ℕ → Result FwState ℤ
set_value f id command values =
    if not (is_used f.graph id) then Err no_device
    else value_set f id (option_and_then (λ c. new_setting c.kind c.setting command values) (comp_of f.graph id))

-- the values of a component: the gains of a volume by CTRL_VOLUME, the choice of a mux by CTRL_ENUM, and the masks of a demux by CTRL_SWITCH
abbrev pub control_values : Kind → Setting → ℕ → Option (List ℕ)
control_values Volume (Gains gains) command = if command == CTRL_VOLUME then Some gains else None
control_values Mux (Choice k) command = if command == CTRL_ENUM then Some (k ∷ []) else None
control_values Demux (Masks masks) command = if command == CTRL_SWITCH then Some masks else None
control_values kind setting command = None

abbrev pub control_values_at : Graph → ℕ → ℕ → Option (List ℕ)
control_values_at g id command = option_and_then (λ c. control_values c.kind c.setting command) (comp_of g id)

-- the state stays, and the reply carries the values
abbrev pub get_value : FwState → ℕ → ℕ → Result FwState ℤ
get_value f id command =
    if not (is_used f.graph id) then Err no_device
    else if not (is_some (control_values_at f.graph id command)) then Err invalid
    else Ok f
