-- A boot makes a state that is kept.
use Rattle.std.proofs.Common.{refl, ℕ, arith}
use Rattle.std.specs.List.{IsDistinct}
use Rattle.sof_base.specs.Holes.{usable_of}
use Rattle.stream_law.specs.Placed.{Ascends}
use Rattle.stream_law.specs.Ways.{agree}
use Rattle.mbox_link.specs.Step.{fresh}
use Rattle.row_laws.specs.Tiled.{fresh_heap}
use Rattle.row_laws.specs.Kept.{FirmwareInvariant}
use Rattle.row_laws.proofs.Tiling.{fresh-tiled, retiled}

pub boot-kept : (heap : ℕ) → FirmwareInvariant (fresh heap)
unfolding IsDistinct Ascends agree
boot-kept heap = record {
  comps = omega arith;
  edges = omega arith;
  pipes = omega arith;
  joins = omega arith;
  streams = omega arith;
  ascending = record { comps = tt; edges = tt; pipes = tt; streams = tt; pieces = tt; staging = tt };
  indices = tt;
  sizes = tt;
  settings = tt;
  ramps = tt;
  pieces = record { few = omega arith; named = tt; comps = tt; edges = tt; pipes = tt };
  tiled = retiled (usable_of heap) (fresh_heap heap) (fresh-tiled heap);
  wired = record { ids = tt; buffers = tt; names = tt; apart = tt; alone = tt; ends = tt; sides = tt; periods = tt };
  linked = record { at = tt; from = tt; to = tt; open_ends = tt };
  played = record { hosts = tt; owned = tt; each = tt; agreed = refl };
  rings = refl;
  seen = refl;
  histories = record { comps = refl; numbers = tt; ramps = tt };
  staging = tt;
}
