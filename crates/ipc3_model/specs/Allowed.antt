-- Which values the words of messages may have.
use Rattle.std.specs.Prelude.{ℕ, Bool, true, ◌&&◌, ◌%◌, nat_le, ◌==◌, is_some}
use Rattle.ipc3_model.specs.declared.component_type.CompType.{CompType}
use Rattle.ipc3_model.specs.declared.component_type.CompType.TheVariants.{Dai}
use Rattle.ipc3_model.specs.declared.component_type.TheConstants.{BUFFER}
use Rattle.ipc3_model.specs.ComponentTypes.{type_numbered}

-- 0 for playback, 1 for capture
abbrev pub is_direction : ℕ → Bool
is_direction n = nat_le n 1

-- S16_LE 0, S24_4LE 1, S32_LE 2
abbrev pub is_frame_format : ℕ → Bool
is_frame_format n = nat_le n 2

-- in bytes
abbrev pub is_buffer_size : ℕ → Bool
is_buffer_size n = nat_le 16 n && nat_le n 16777184

-- in µs
abbrev pub is_period_allowed : ℕ → Bool
is_period_allowed n = nat_le 1000 n && nat_le n 10000 && n % 1000 == 0

-- how many channels there are, of a volume or of a stream
abbrev pub is_channels : ℕ → Bool
is_channels n = nat_le 1 n && nat_le n 8

-- the type word of a component
abbrev pub is_comp_type : ℕ → Bool
is_comp_type n = is_some (type_numbered n)

-- the type word of each buffer
abbrev pub is_buffer_type : ℕ → Bool
is_buffer_type n = n == BUFFER

-- the frame format of a component of a type: only a DAI's is looked at
abbrev pub is_format_of : CompType → ℕ → Bool
is_format_of Dai n = is_frame_format n
is_format_of type n = true
