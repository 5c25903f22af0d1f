-- Ticks at 44100 frames a second, for worked rows.
use Rattle.std.specs.Prelude.{ℕ, List, [], ◌∷◌, map, length, true}
use Rattle.sof_base.specs.declared.format.Format.TheVariants.{S16, S32}
use Rattle.stream_law.specs.declared.graph.Kind.TheVariants.{HostPlay, DaiPlay}
use Rattle.stream_law.specs.declared.stream.Phase.TheVariants.{Running}
use Rattle.stream_law.specs.State.{View}
use Rattle.stream_law.specs.Table.{list_of}
use Rattle.stream_law.specs.WorkedGraphs.{Machine, machine_of, after_ticks, worked_ends, worked_stream, empty_ring, pair_graph, mix_graph, repeated, view_with}

-- a host to a DAI after so many ticks, of zeros
abbrev pub family_pair : ℕ → Machine
family_pair ticks = after_ticks ticks (machine_of (pair_graph HostPlay (DaiPlay S32) 768) (worked_stream 0 Running 44100 2 S16 ∷ []) (empty_ring 1 ∷ []) (worked_ends 0 [] 2))

-- the view of a host to a DAI
abbrev pub family_view : View
family_view = view_with (pair_graph HostPlay (DaiPlay S32) 768) (worked_stream 0 Running 44100 2 S16 ∷ [])

-- the mix graph with both streams, after so many ticks, of samples 1000 and of samples 1
abbrev pub family_mix : ℕ → Machine
family_mix ticks = after_ticks ticks (machine_of mix_graph (worked_stream 0 Running 44100 2 S16 ∷ worked_stream 3 Running 44100 2 S16 ∷ []) (empty_ring 1 ∷ empty_ring 4 ∷ empty_ring 7 ∷ []) (record {
  inputs = record { slot = 0; position = 0; left = repeated 970 (232 ∷ 3 ∷ []); ended = true } ∷ record { slot = 3; position = 0; left = repeated 970 (1 ∷ 0 ∷ []); ended = true } ∷ [];
  outputs = record { slot = 8; bytes = [] } ∷ [];
}))

-- the bytes at an output
abbrev pub written_at : Machine → ℕ → List ℕ
written_at m slot = list_of (map (λ x. (x.slot, x.bytes)) m.io.outputs) slot

-- the frames in a ring
abbrev pub frames_in_ring : Machine → ℕ → ℕ
frames_in_ring m b = length (list_of (map (λ r. (r.buffer, r.frames)) m.f.rings) b)
