-- When a tick can be made.
use Rattle.std.specs.Prelude.{◌≡◌, ℕ, List, [], true, false}
use Rattle.std.specs.List.{AllByRecursion}
use Rattle.sof_base.specs.Ports.{InputView, OutputView, Io}
use Rattle.sof_base.specs.Ramps.{ramp_frames}
use Rattle.stream_law.specs.Ways.{live, rate_of, channels_of}
use Rattle.stream_law.specs.Seen.{flows}
use Rattle.row_laws.specs.Wired.{IsWired, HasJoinedSides}
use Rattle.row_laws.specs.Played.{AreStreamsPlayable}
use Rattle.fw_components.specs.Tables.{Tables, graph_of, view_by, held_frames}
use Rattle.fw_components.specs.Processed.{ramp_frames_by}
use Rattle.fw_units.specs.Frames.{channels_by}
use Rattle.fw_units.specs.Units.{ramp_by}

-- inputs and outputs
abbrev pub io_of : List InputView → List OutputView → Io
io_of inputs outputs = record { inputs = inputs; outputs = outputs }

-- what is Live has the shape of its stream: a component moves so many channels, a buffer's frames have so many, and a volume's ramp
-- goes over the frames that its milliseconds have at the rate
pub record HasShapes (t : Tables) : Type 0 where
  pub comps : AllByRecursion (λ c. live (view_by t) c.id ≡ true → c.channels ≡ channels_of (view_by t) c.id) t.comps
  pub buffers : AllByRecursion (λ c. live (view_by t) c.id ≡ true → channels_by c.unit ≡ channels_of (view_by t) c.id) t.buffers
  pub ramps : AllByRecursion (λ c. live (view_by t) c.id ≡ true → ramp_frames_by c.unit ≡ ramp_frames (ramp_by c.unit) (rate_of (view_by t) c.id)) t.comps

-- Graph and streams are as in every state of a device, what is Live has the shape of its stream, and a buffer in which no frame may
-- flow holds none.
pub record CanTick (t : Tables) : Type 0 where
  pub wired : IsWired (graph_of t)
  pub linked : HasJoinedSides (graph_of t)
  pub played : AreStreamsPlayable (view_by t)
  pub shapes : HasShapes t
  pub empty : (b : ℕ) → flows (view_by t) b ≡ false → held_frames t b ≡ []
