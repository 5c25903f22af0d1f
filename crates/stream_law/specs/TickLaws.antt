-- The laws of ticks that public calls state.
use Rattle.std.specs.Prelude.{◌≡◌, ◌-◌, ◌≤◌, ◌^◌, All, IsTrue}
use Rattle.sof_base.specs.Ports.{Io}
use Rattle.stream_law.specs.State.{FwState, view_of}
use Rattle.stream_law.specs.Placed.{HasDistinct}
use Rattle.stream_law.specs.Silence.{is_silent}
use Rattle.stream_law.specs.Move.{next_clock}
use Rattle.stream_law.specs.TickMoves.{Move}

-- a state whose clock alone has gone on by a tick
abbrev pub clocked : FwState → FwState
clocked f = record f { clock = next_clock f.clock }

-- no ring, history or input comes twice, and no position is past its last value
pub record HasOneOfEach (f : FwState) (io : Io) : Type 0 where
  pub rings : HasDistinct (λ r. r.buffer) f.rings
  pub histories : HasDistinct (λ h. h.comp) f.histories
  pub inputs : HasDistinct (λ x. x.slot) io.inputs
  pub positions : All (λ x. x.position ≤ 2 ^ 64 - 1) io.inputs

-- while no stream is Running or Paused, a tick moves the clock alone: rings, histories and endpoints stay
abbrev pub SilentTicksMoveTheClockAlone : Type 0
SilentTicksMoveTheClockAlone = (f : FwState) (io : Io) → IsTrue (is_silent (view_of f)) → HasOneOfEach f io → Move f io (clocked f) io

-- and such a tick leads nowhere else
abbrev pub SilentTicksDoNothingElse : Type 0
SilentTicksDoNothingElse = (f f' : FwState) (io io' : Io) → IsTrue (is_silent (view_of f)) → HasOneOfEach f io → Move f io f' io' → (f' ≡ clocked f) × (io' ≡ io)
