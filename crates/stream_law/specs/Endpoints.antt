-- What the endpoints read and write.
use Rattle.std.specs.Prelude.{ℕ, ◌-◌, ◌*◌, List, [], ◌++◌, replicate, Bool, true, false, find, ◌==◌}
use Rattle.std.specs.Option.{option_map_or}
use Rattle.sof_base.specs.declared.format.Format.{Format}
use Rattle.sof_base.specs.declared.format.Format.TheVariants.{S32}
use Rattle.sof_base.specs.Samples.{Frame, width, frames_out}
use Rattle.stream_law.specs.declared.graph.Kind.{Kind}
use Rattle.stream_law.specs.declared.graph.Kind.TheVariants.{HostPlay, HostCapture, DaiPlay, DaiCapture}
use Rattle.stream_law.specs.State.{View}
use Rattle.stream_law.specs.Ways.{comp_of, channels_of}

-- ---- formats

-- the format of a host's stream
abbrev pub stream_format : View → ℕ → Format
stream_format v host = option_map_or (λ s. option_map_or (λ p. p.format) s.params S32) (find (λ s. s.host == host) v.streams) S32

-- a DAI has its own format, a host that of its stream
abbrev pub format_by : View → ℕ → Kind → Format
format_by v c (DaiPlay format) = format
format_by v c (DaiCapture format) = format
format_by v c _ = stream_format v c

-- the format of an endpoint's samples
abbrev pub format_of : View → ℕ → Format
format_of v c = option_map_or (λ x. format_by v c x.kind) (comp_of v.graph c) S32

-- ---- bytes

-- whether a kind takes its frames from an input
abbrev pub is_input : Kind → Bool
is_input HostPlay = true
is_input (DaiCapture format) = true
is_input _ = false

-- c takes its frames from an input
abbrev pub reads : View → ℕ → Bool
reads v c = option_map_or (λ x. is_input x.kind) (comp_of v.graph c) false

-- how many bytes n frames have at an endpoint
abbrev pub bytes_of_frames : View → ℕ → ℕ → ℕ
bytes_of_frames v c n = n * (channels_of v c * width (format_of v c))

-- what an output writes where it moves these n frames of at most a quota: their bytes, and at a dai-play zeros up to its quota
abbrev pub bytes_by : Kind → View → ℕ → ℕ → ℕ → List Frame → List ℕ
bytes_by HostCapture v c n most frames = frames_out (format_of v c) frames
bytes_by (DaiPlay format) v c n most frames = frames_out format frames ++ replicate (bytes_of_frames v c (most - n)) 0
bytes_by _ v c n most frames = []

-- the same by the kind of c in the view
unfoldable pub bytes_written : View → ℕ → ℕ → ℕ → List Frame → List ℕ
bytes_written v c n most frames = option_map_or (λ x. bytes_by x.kind v c n most frames) (comp_of v.graph c) []
