-- When nothing moves.
use Rattle.std.specs.Prelude.{Bool, not}
use Rattle.std.specs.List.{list_any}
use Rattle.stream_law.specs.State.{View}
use Rattle.stream_law.specs.Ways.{is_live_phase}

-- no stream is Running or Paused
abbrev pub is_silent : View → Bool
is_silent v = not (list_any (λ s. is_live_phase s.phase) v.streams)
