-- What goes to outputs.
use Rattle.std.specs.Prelude.{ℕ, Bool, true, false}
use Rattle.stream_law.specs.declared.graph.Kind.{Kind}
use Rattle.stream_law.specs.declared.graph.Kind.TheVariants.{HostCapture, DaiPlay}

-- whether a kind gives its frames to an output
abbrev pub is_output_kind : Kind → Bool
is_output_kind HostCapture = true
is_output_kind (DaiPlay format) = true
is_output_kind _ = false

-- how many frames, of frames and then zeros, a kind writes at least where it runs with a quota
abbrev pub least_by : Kind → ℕ → ℕ
least_by (DaiPlay format) quota = quota
least_by _ quota = 0
