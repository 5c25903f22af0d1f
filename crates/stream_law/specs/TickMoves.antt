-- What a tick does.
use Rattle.std.specs.Prelude.{◌≡◌}
use Rattle.sof_base.specs.Ports.{Io}
use Rattle.stream_law.specs.State.{FwState}
use Rattle.stream_law.specs.Move.{audio_after, state_after, io_after}

-- a tick leads from one state to the next: the components move once each, in order
pub record Move (f : FwState) (io : Io) (f' : FwState) (io' : Io) : Type 0 where
  pub state : f' ≡ state_after f (audio_after f io)
  pub endpoints : io' ≡ io_after io (audio_after f io)
