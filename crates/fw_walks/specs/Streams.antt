-- Streams of a sort, and their hosts.
use Rattle.std.specs.Prelude.{ℕ, Bool, true, false, not, ◌&&◌, if◌then◌else◌, is_some}
use Rattle.stream_law.specs.declared.stream.StreamView.{StreamView}
use Rattle.stream_law.specs.Ways.{is_live_phase, is_capture}
use Rattle.fw_units.specs.declared.component.Component as parts
use Rattle.fw_units.specs.declared.component.Unit as units
use Rattle.fw_units.specs.declared.component.Unit.TheVariants.{Host}
use Rattle.fw_units.specs.Units.{kind_by}
use Rattle.fw_walks.specs.declared.streams.Sort.{Sort}
use Rattle.fw_walks.specs.declared.streams.Sort.TheVariants.{All, Live, Set}

-- any stream, or one that is Running or Paused, or that has parameters
abbrev pub is_sort : Sort → StreamView → Bool
is_sort All s = true
is_sort Live s = is_live_phase s.phase
is_sort Set s = is_some s.params

-- the stream of a host passes; no other unit has one
abbrev pub any_stream : (StreamView → Bool) → ℕ → units.Unit → Bool
any_stream p id (Host capture phase params piece) = p (record { host = id; phase = phase; params = params })
any_stream p id unit = false

-- the stream of a host is of a sort, and it is that of a capture, or of a playback
abbrev pub is_host_of : Sort → Bool → parts.Component → Bool
is_host_of sort capture c = any_stream (is_sort sort) 0 c.unit && (if capture then is_capture (kind_by c.unit) else not (is_capture (kind_by c.unit)))
