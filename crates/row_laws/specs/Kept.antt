-- What is so of every state of a device that is on.
use Rattle.std.specs.Prelude.{◌≡◌, ◌⊎◌, ℕ, ◌+◌, ◌*◌, ◌<◌, ◌≤◌, List, [], map, length, filter, max, Bool, true, if◌then◌else◌, ◌==◌, slice_index}
use Rattle.std.specs.List.{list_any, AllByRecursion}
use Rattle.sof_base.specs.BlobParts.{IsBlob}
use Rattle.stream_law.specs.declared.graph.Kind.{Kind}
use Rattle.stream_law.specs.declared.graph.Kind.TheVariants.{Volume, Mux, Eq, Demux}
use Rattle.stream_law.specs.declared.graph.Setting.{Setting}
use Rattle.stream_law.specs.declared.graph.Setting.TheVariants.{Nothing, Gains, Choice, Blob, Masks}
use Rattle.stream_law.specs.declared.graph.Graph.{Graph}
use Rattle.stream_law.specs.Placed.{Ascends, HasDistinct}
use Rattle.stream_law.specs.State.{FwState, HeapView, View, History, Staging, view_of}
use Rattle.stream_law.specs.Ways.{components, is_of, channels_of}
use Rattle.stream_law.specs.Ramps.{numbers_from, numbers_place}
use Rattle.stream_law.specs.Seen.{ring_seen, is_equaliser, is_volume, remembers, blob_in, gains_in, ramp_length, fresh_numbers}
use Rattle.ipc3_model.specs.Allowed.{is_buffer_size}
use Rattle.mbox_link.specs.Step.{has_kind, kind_at, is_used}
use Rattle.row_laws.specs.Tiled.{IsTiled, heap_bytes}
use Rattle.row_laws.specs.Wired.{IsWired, HasJoinedSides, sides_joined}
use Rattle.row_laws.specs.Played.{AreStreamsPlayable}

-- ---- the heap

-- a piece of this id is there
abbrev pub has_piece : HeapView → ℕ → Bool
has_piece heap id = list_any (λ p. p.id == id) heap.pieces

-- What is so of a heap's pieces: each component, buffer and pipeline has one, and no other id has.
pub record ArePieces (g : Graph) (heap : HeapView) : Type 0 where
  pub few : length heap.pieces ≤ length g.comps + length g.edges + length g.pipes
  pub named : AllByRecursion (λ p. is_used g p.id ≡ true) heap.pieces
  pub comps : AllByRecursion (λ c. has_piece heap c.id ≡ true) g.comps
  pub edges : AllByRecursion (λ e. has_piece heap e.buffer ≡ true) g.edges
  pub pipes : AllByRecursion (λ p. has_piece heap p.id ≡ true) g.pipes

-- ---- settings

-- what may be set at a component of a kind: 1 to 8 gains of at most 16777216 at a volume, a choice at a mux, a blob or none at an
-- equaliser, eight masks of at most 255 at a demux, and nothing at any other
abbrev pub IsSettingOf : Kind → Setting → Type 0
IsSettingOf Volume (Gains gains) = ((1 ≤ length gains) × (length gains ≤ 8)) × AllByRecursion (λ n. n ≤ 16777216) gains
IsSettingOf Volume setting = ⊥
IsSettingOf Mux (Choice k) = Unit {0}
IsSettingOf Mux setting = ⊥
IsSettingOf Eq (Blob bytes) = (bytes ≡ []) ⊎ IsBlob bytes
IsSettingOf Eq setting = ⊥
IsSettingOf Demux (Masks masks) = (length masks ≡ 8) × AllByRecursion (λ n. n ≤ 255) masks
IsSettingOf Demux setting = ⊥
IsSettingOf kind Nothing = Unit {0}
IsSettingOf kind setting = ⊥

-- a volume's ramp has at most 10000 milliseconds, and no other kind has one
abbrev pub IsRampOf : Kind → ℕ → Type 0
IsRampOf Volume n = n ≤ 10000
IsRampOf kind n = n ≡ 0

-- ---- equalisers and volumes

-- how many numbers an equaliser has: two for each section in series of each channel, as at the beginning of an epoch; and how many a
-- volume has: one for each gain, and its place in the ramp
abbrev pub numbers_held : View → ℕ → ℕ
numbers_held v c = if is_of v.graph is_volume c then length (gains_in v c) + 1 else length (fresh_numbers (blob_in v c) (channels_of v c))

-- a volume's numbers: gains of at most 16777216, and a place that is not past the end of the ramp
abbrev pub AreRampNumbers : View → History → Type 0
AreRampNumbers v h = is_of v.graph is_volume h.comp ≡ true →
    AllByRecursion (λ n. n ≤ 16777216) (numbers_from h.numbers) × (numbers_place h.numbers ≤ max (ramp_length v h.comp) 1)

-- What is so of the histories of a view: each Live equaliser and volume has one, in the order of components, with as many numbers as
-- its sections or gains ask for.
pub record AreHistories (v : View) (histories : List History) : Type 0 where
  pub comps : map (λ h. h.comp) histories ≡ filter (remembers v) (components v.graph)
  pub numbers : AllByRecursion (λ h. length h.numbers ≡ numbers_held v h.comp) histories
  pub ramps : AllByRecursion (AreRampNumbers v) histories

-- What is so of the parts that are staged: they are an equaliser's. Those that came have 260 bytes each, after the 32 of their
-- common header. More are to come, up to 992 bytes in all.
pub record IsStaged (g : Graph) (s : Staging) : Type 0 where
  pub equaliser : has_kind is_equaliser (kind_at g s.eq) ≡ true
  pub came : 1 ≤ s.next
  pub bytes : length s.bytes ≡ 32 + 260 * s.next
  pub each : (i : ℕ) → slice_index s.bytes i < 256
  pub missing : 1 ≤ s.remaining
  pub within : 260 * s.next + s.remaining ≤ 992

-- ---- states

-- The lists of a state ascend by id. Rings have the ids of buffers, and histories those of components.
pub record AreAscending (f : FwState) : Type 0 where
  pub comps : Ascends (λ c. c.id) f.graph.comps
  pub edges : Ascends (λ e. e.buffer) f.graph.edges
  pub pipes : Ascends (λ p. p.id) f.graph.pipes
  pub streams : Ascends (λ s. s.host) f.streams
  pub pieces : Ascends (λ p. p.id) f.heap.pieces
  pub staging : Ascends (λ s. s.eq) f.staging

-- What is so of every state: its lists are within their limits and ascend, each join is at a side of its own, each stream has a
-- component. Pieces and holes share the heap. Graph, settings and streams are as they should be, and no two pipelines have one
-- index. Each edge has a ring, and a ring in which no frame may lie is empty. Each Live equaliser and volume has its numbers, and
-- what is staged is within the rules of parts.
pub record FirmwareInvariant (f : FwState) : Type 0 where
  pub comps : length f.graph.comps ≤ 128
  pub edges : length f.graph.edges ≤ 128
  pub pipes : length f.graph.pipes ≤ 32
  pub joins : length f.graph.joins ≤ sides_joined f.graph.edges
  pub streams : length f.streams ≤ length f.graph.comps
  pub ascending : AreAscending f
  pub indices : HasDistinct (λ p. p.index) f.graph.pipes
  pub sizes : AllByRecursion (λ e. is_buffer_size e.size ≡ true) f.graph.edges
  pub settings : AllByRecursion (λ c. IsSettingOf c.kind c.setting) f.graph.comps
  pub ramps : AllByRecursion (λ c. IsRampOf c.kind c.ramp) f.graph.comps
  pub pieces : ArePieces f.graph f.heap
  pub tiled : IsTiled (heap_bytes f.heap) f.heap
  pub wired : IsWired f.graph
  pub linked : HasJoinedSides f.graph
  pub played : AreStreamsPlayable (view_of f)
  pub rings : map (λ r. r.buffer) f.rings ≡ map (λ e. e.buffer) f.graph.edges
  pub seen : map (ring_seen (view_of f)) f.rings ≡ f.rings
  pub histories : AreHistories (view_of f) f.histories
  pub staging : AllByRecursion (IsStaged f.graph) f.staging
