-- What a live control may say.
use Rattle.std.specs.Prelude.{ℕ, Bool, true, not, ◌&&◌, ◌||◌, nat_le, ℤ, pos, int_le, Option, Some, None}
use Rattle.tplg_plan.specs.Ranges.{is_initial}
use Rattle.tplg_widgets.specs.declared.entry.Role.{Role}
use Rattle.tplg_widgets.specs.Entries.{is_demux_role}
use Rattle.tplg_model.specs.declared.control.Control.{Control}
use Rattle.tplg_model.specs.declared.control.Control.TheVariants.{Mixer, Enum, Bytes}

-- 0 <= min <= max <= 65535, and 1 to 8 channels
abbrev pub is_volume_range : ℤ → ℤ → ℕ → Bool
is_volume_range min max channels = int_le (pos 0) min && int_le min max && int_le max (pos 65535) && nat_le 1 channels && nat_le channels 8

-- 1 to 16 items
abbrev pub is_choice : ℕ → Bool
is_choice items = nat_le 1 items && nat_le items 16

-- a demux's mask is at most 255
abbrev pub is_mask : Option Role → ℤ → Bool
is_mask role max = not (is_demux_role role) || int_le max (pos 255)

-- a control that is live at a widget of this role
abbrev pub is_control : Option Role → Control → Bool
is_control role (Mixer head min max platform_max invert num_channels channels private) = is_volume_range min max num_channels && is_mask role max
is_control role (Enum head num_channels channels items mask count texts values private) = is_choice items
is_control role (Bytes head max mask base num_regs ext_ops private) = is_initial private

-- of the control that is there
abbrev pub is_live_in_range : Option Role → Option Control → Bool
is_live_in_range role None = true
is_live_in_range role (Some control) = is_control role control
