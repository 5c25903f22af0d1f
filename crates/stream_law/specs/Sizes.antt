-- The stated sizes of what is made, in bytes of the firmware's heap. A piece is rounded up to 16.
use Rattle.std.specs.Prelude.{ℕ, ◌+◌}
use Rattle.stream_law.specs.declared.graph.Kind.{Kind}
use Rattle.stream_law.specs.declared.graph.Kind.TheVariants.{Mixer, Mux, Eq, Demux}

-- of a component of a kind
abbrev pub comp_bytes : Kind → ℕ
comp_bytes Mixer = 32
comp_bytes Mux = 32
comp_bytes Eq = 4160
comp_bytes Demux = 32
comp_bytes _ = 64

-- of a buffer, with its own bytes in it
abbrev pub buffer_bytes : ℕ → ℕ
buffer_bytes size = 32 + size

-- of a pipeline
abbrev pub pipe_bytes : ℕ
pipe_bytes = 64
