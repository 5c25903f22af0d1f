-- What a boot and an act that passes do to a state, and what a view must be for a tick.
use Rattle.std.specs.Prelude.{◌≡◌, ℕ, ℤ, ◌+◌, List, [], ◌++◌, map, length, Option, true, false, ◌==◌, if◌then◌else◌, IsTrue}
use Rattle.std.specs.Option.{option_map, option_map_or}
use Rattle.sof_base.specs.Ports.{InputView}
use Rattle.stream_law.specs.State.{FwState, View, view_of}
use Rattle.stream_law.specs.Ways.{comp_of, components, buffers, ins, outs, live, active, channels_of}
use Rattle.stream_law.specs.Silence.{is_silent}
use Rattle.stream_law.specs.Joins.{fits_kind}
use Rattle.stream_law.specs.Moves.{capacity}
use Rattle.stream_law.specs.Order.{is_among, order}
use Rattle.stream_law.specs.Walks.{HasAll, HasEnds}
use Rattle.stream_law.specs.Seen.{flows, remembers, goes_on, blob_in, ramp_length, numbers_in, numbers_seen}
use Rattle.stream_law.specs.Past.{Moment, empty_view}
use Rattle.stream_law.specs.Stands.{ring_frames, is_bound, position_of, left_of, StandsBy}

-- nothing is Live in either view
abbrev pub BothSilent : View → View → Type 0
BothSilent v w = IsTrue (is_silent v) × IsTrue (is_silent w)

-- the same while a load or a resume builds the graph: nothing is Live in the firmware's view and in that of the past
abbrev pub StandsBuilding : Option FwState → List (ℕ × List ℕ) → List InputView → List Moment → Type 0
StandsBuilding device whole inputs moments = StandsBy BothSilent device whole inputs moments

-- a state to which nothing has come yet
pub record Booted (f : FwState) : Type 0 where
  pub clock : f.clock ≡ 0
  pub view : view_of f ≡ empty_view
  pub rings : f.rings ≡ []
  pub histories : f.histories ≡ []
  pub staging : f.staging ≡ []

-- an act that passes gives the state a view: rings in which no frame may lie are empty, and equalisers and volumes go on or have a mark
pub record Sees (f : FwState) (v : View) (fresh : Option ℕ) (f' : FwState) : Type 0 where
  pub clock : f'.clock ≡ f.clock
  pub view : view_of f' ≡ v
  pub buffers : map (λ r. r.buffer) f'.rings ≡ buffers f'.graph
  pub rings : (b : ℕ) → ring_frames f' b ≡ (if flows v b then ring_frames f b else [])
  pub remembered : (c : ℕ) → remembers v c ≡ true → is_among (map (λ h. h.comp) f'.histories) c ≡ true
  pub histories : (c : ℕ) → remembers v c ≡ true → numbers_in f' c ≡ numbers_seen f v fresh c

-- an act that passes while nothing is Live leaves nothing Live and no frames
pub record SeesSilent (f f' : FwState) : Type 0 where
  pub clock : f'.clock ≡ f.clock
  pub silent : IsTrue (is_silent (view_of f'))
  pub buffers : map (λ r. r.buffer) f'.rings ≡ buffers f'.graph
  pub rings : (b : ℕ) → ring_frames f' b ≡ []

-- an edge in which frames may go on lying keeps its room, an equaliser or volume that was Live its kind, and one that goes on its blob, its
-- channels and the length of its ramp
pub record StaysAsLive (old new : View) (fresh : Option ℕ) : Type 0 where
  pub room : (b : ℕ) → flows old b ≡ true → flows new b ≡ true → capacity new b ≡ capacity old b
  pub kinds : (c : ℕ) → remembers new c ≡ true → live old c ≡ true →
      option_map (λ x. x.kind) (comp_of old.graph c) ≡ option_map (λ x. x.kind) (comp_of new.graph c)
  pub on : (c : ℕ) → remembers new c ≡ true → goes_on old new fresh c ≡ true →
      (blob_in new c ≡ blob_in old c) × (channels_of new c ≡ channels_of old c) × (ramp_length new c ≡ ramp_length old c)

-- more bytes stand after those that are left of an input
pub record Fills (slot : ℕ) (more : List ℕ) (inputs inputs' : List InputView) : Type 0 where
  pub bound : (s : ℕ) → is_bound inputs s ≡ is_bound inputs' s
  pub positions : (s : ℕ) → position_of inputs' s ≡ position_of inputs s
  pub left : (s : ℕ) → left_of inputs' s ≡ (if slot == s then left_of inputs s ++ more else left_of inputs s)

-- the ends of edges are components, each component has its place in the order, and a component that is Active has the edges in
-- and out that its kind may have
pub record IsPlayable (v : View) : Type 0 where
  pub ends : HasEnds v.graph
  pub ordered : HasAll v.graph (order v.graph)
  pub fits : (c : ℕ) → is_among (components v.graph) c ≡ true → active v c ≡ true →
      option_map_or (λ x. fits_kind x.kind (length (ins v.graph c)) (length (outs v.graph c))) (comp_of v.graph c) false ≡ true
