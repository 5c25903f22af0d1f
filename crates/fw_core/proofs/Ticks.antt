-- A tick of a firmware that is on.
use Rattle.std.proofs.Common.{sym, ap, ◌∙◌, subst, ℕ}
use Rattle.sof_base.specs.Ports.{Io}
use Rattle.stream_law.specs.State.{FwState}
use Rattle.stream_law.specs.Move.{next_clock}
use Rattle.stream_law.specs.TickMoves.{Move}
use Rattle.row_laws.specs.Tiled.{heap_bytes}
use Rattle.row_laws.specs.Kept.{FirmwareInvariant}
use Rattle.row_laws.proofs.RingViews.{seen-each}
use Rattle.row_laws.proofs.TickKept.{empty-first, tick-kept}
use Rattle.fw_heap.specs.Regions.{RegionState}
use Rattle.fw_components.specs.Tables.{Tables, view_by, rings_of}
use Rattle.fw_components.specs.States.{AreOf}
use Rattle.fw_schedule.specs.Ticks.{CanTick}
use Rattle.fw_schedule.proofs.Still.{frames-listed}
use Rattle.fw_core.specs.Held.{state_in, IsPieceHeld}
use Rattle.fw_core.proofs.Laid.{kept-clock}

pub can-tick : (t : Tables) (r : RegionState) → IsPieceHeld t r → CanTick t
can-tick t r held = record {
  wired = (held.kept 0).wired;
  linked = (held.kept 0).linked;
  played = (held.kept 0).played;
  shapes = held.shapes;
  empty = λ b dead. sym (frames-listed t.buffers b) ∙ empty-first (view_by t) (rings_of t) (seen-each (view_by t) (rings_of t) (held.kept 0).seen) b dead;
}

-- what is so between messages is so after a tick
pub tick-held : (t u : Tables) (r : RegionState) (clock : ℕ) (io after : Io) → IsPieceHeld t r → Move (state_in t r clock) io (state_in u r (next_clock clock)) after → CanTick u → AreOf r.home u → IsPieceHeld u r
tick-held t u r clock io after held moved can homes = record {
  kept = λ n. kept-clock (state_in u r (next_clock clock)) n (subst FirmwareInvariant (sym moved.state) (tick-kept (state_in t r clock) io (held.kept clock)));
  homes = homes;
  whole = ap (λ (f : FwState). heap_bytes f.heap) moved.state ∙ held.whole;
  shapes = can.shapes;
}
