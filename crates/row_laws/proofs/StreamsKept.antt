-- A state whose streams are changed.
use Rattle.std.proofs.Common.{refl, ◌∙◌, map, None, false, not, ◌==◌, ◌&&◌, arith}
use Rattle.std.proofs.lemmas.Bool.{and_parts}
use Rattle.std.proofs.lemmas.List.{length-map}
use Rattle.std.specs.Option.{option_map_or}
use Rattle.stream_law.specs.declared.stream.StreamView.{StreamView}
use Rattle.stream_law.specs.State.{FwState, View, view_of}
use Rattle.stream_law.specs.Ways.{components, buffers, live}
use Rattle.stream_law.specs.Seen.{seen}
use Rattle.row_laws.specs.Played.{AreStreamsPlayable, KeepsLive}
use Rattle.row_laws.specs.Kept.{FirmwareInvariant}
use Rattle.row_laws.proofs.Ascending.{ascends-keys, hosts-kept}
use Rattle.row_laws.proofs.Histories.{alike-comp}
use Rattle.row_laws.proofs.Joined.{among-left}
use Rattle.row_laws.proofs.RingViews.{buffers-seen, seen-twice}
use Rattle.row_laws.proofs.SeenKept.{IsNext, histories-seen}
use Rattle.row_laws.proofs.Stays.{shape-stays}

module _ (f : FwState) (kept : FirmwareInvariant f) (to : StreamView → StreamView) (keeps : KeepsLive to f.streams) (played : AreStreamsPlayable (record { graph = f.graph; streams = map to f.streams })) where
  abbrev old : View
  old = view_of f

  abbrev new : View
  new = record { graph = f.graph; streams = map to f.streams }

  -- what goes on has its rate and its channels
  next : IsNext f new None
  next = record {
    settings = kept.settings;
    there = λ c here. here;
    kinds = λ c. refl;
    sizes = λ c volume. refl;
    on = λ c here goes.
        let lives = and_parts (live old c) (live new c) (and_parts (live old c && live new c) (not (option_map_or (λ x. x == c) None false)) goes).0 in
        let same = shape-stays f.graph f.streams to keeps kept.played played c (among-left (components f.graph) (buffers f.graph) c here) lives.0 lives.1 in
        alike-comp old new c refl same.0 same.1;
  }

  pub kept-streams : FirmwareInvariant (seen new None f)
  kept-streams = record {
    comps = kept.comps;
    edges = kept.edges;
    pipes = kept.pipes;
    joins = kept.joins;
    streams = omega (arith, kept.streams, length-map f.streams to);
    ascending = record { comps = kept.ascending.comps; edges = kept.ascending.edges; pipes = kept.ascending.pipes; streams = ascends-keys (λ (s : StreamView). s.host) (λ (s : StreamView). s.host) f.streams (map to f.streams) (hosts-kept to f.streams keeps) kept.ascending.streams; pieces = kept.ascending.pieces; staging = kept.ascending.staging };
    indices = kept.indices;
    sizes = kept.sizes;
    settings = kept.settings;
    ramps = kept.ramps;
    pieces = kept.pieces;
    tiled = kept.tiled;
    wired = kept.wired;
    linked = kept.linked;
    played = played;
    rings = buffers-seen new f.rings ∙ kept.rings;
    seen = seen-twice new f.rings;
    histories = histories-seen f kept new None next;
    staging = kept.staging;
  }
