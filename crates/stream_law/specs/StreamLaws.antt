-- The laws of streams that public calls state.
use Rattle.std.specs.Prelude.{◌≡◌, ℕ, ◌+◌, ◌<◌, ◌≤◌, List, [], ◌∷◌, ◌++◌, map, length, Option, Some, None, true, IsTrue}
use Rattle.sof_base.specs.Ports.{Io, InputView}
use Rattle.stream_law.specs.declared.graph.Graph.{Graph}
use Rattle.stream_law.specs.State.{FwState, View, view_of}
use Rattle.stream_law.specs.Table.{list_of, number_of, updated}
use Rattle.stream_law.specs.Ways.{components, buffers, source_of, sink_of, live, rate_of, channels_of, agree}
use Rattle.stream_law.specs.Silence.{is_silent}
use Rattle.stream_law.specs.Order.{is_among, order}
use Rattle.stream_law.specs.Walks.{HasAll, HasCycle, HasEnds}
use Rattle.stream_law.specs.Counts.{Counts, Counting}
use Rattle.stream_law.specs.Epochs.{history_of}
use Rattle.stream_law.specs.Seen.{seen, fresh_numbers}
use Rattle.stream_law.specs.Move.{audio_after}
use Rattle.stream_law.specs.TickMoves.{Move}
use Rattle.stream_law.specs.Past.{Moment, Boot, Cut, Now, Tick, Past, Leads, start, empty_view}
use Rattle.stream_law.specs.Stands.{HasRead, Stands}
use Rattle.stream_law.specs.InputsRead.{Reads}
use Rattle.stream_law.specs.Viewing.{StandsBuilding, Fills, Booted, Sees, SeesSilent, StaysAsLive, IsPlayable}
use Rattle.stream_law.specs.Stays.{KeepsWays, KeepsShape}

-- ---- orders, ranks, and the one solution of the equations

-- each edge leads from a lower to a higher rank: edges have no cycle
pub record IsRanked (g : Graph) (rank : ℕ → ℕ) : Type 0 where
  pub rises : (b a c : ℕ) → source_of g b ≡ Some a → sink_of g b ≡ Some c → rank a < rank c

-- where edges have no cycle, each component has its place in the order
abbrev pub OrderIsWhole : Type 0
OrderIsWhole = (g : Graph) → HasEnds g → (HasCycle g → ⊥) → HasAll g (order g)

-- where each component has its place, edges lead to higher ranks, of which there are no more than places and one
abbrev pub OrderRanks : Type 0
OrderRanks = (g : Graph) → HasEnds g → HasAll g (order g) → (rank : ℕ → ℕ) × IsRanked g rank × ((c : ℕ) → rank c < length (order g) + 1)

-- and where edges lead to higher ranks they have no cycle
abbrev pub RanksHaveNoCycle : Type 0
RanksHaveNoCycle = (g : Graph) (rank : ℕ → ℕ) → IsRanked g rank → HasCycle g → ⊥

-- the views at which ticks come, from a first view on, have edges without a cycle
abbrev pub AreRanked : View → List Moment → Type 0
AreRanked v [] = Unit {0}
AreRanked v (Boot ∷ ms) = AreRanked empty_view ms
AreRanked v (Cut ∷ ms) = AreRanked empty_view ms
AreRanked v (Now w fresh ∷ ms) = AreRanked w ms
AreRanked v (Tick ∷ ms) = ((rank : ℕ → ℕ) × IsRanked v.graph rank) × AreRanked v ms

-- the counts of a tick have a solution, and it is one
abbrev pub HaveOneSolution : Type 0
HaveOneSolution = (v : View) (t : ℕ) (old : Counts) (rank : ℕ → ℕ) (ranks : ℕ) → IsRanked v.graph rank → ((c : ℕ) → rank c < ranks) →
    ((n : List (ℕ × ℕ)) × (new : Counts) × Counting v t old n new) ×
    ((n m : List (ℕ × ℕ)) (new other : Counts) → Counting v t old n new → Counting v t old m other → (n ≡ m) × (new ≡ other))

-- moments lead to one past
abbrev pub LeadToOne : Type 0
LeadToOne = (whole : List (ℕ × List ℕ)) (moments : List Moment) (a b : Past) → AreRanked empty_view moments →
    Leads whole start moments a → Leads whole start moments b → a ≡ b

-- ---- what stands goes on standing

-- before any moment a device that is off stands, with inputs of which nothing was read
abbrev pub StartStands : Type 0
StartStands = (whole : List (ℕ × List ℕ)) (inputs : List InputView) → HasRead whole inputs start → Stands None whole inputs []

-- what stands has inputs that were read up to its past
abbrev pub StandsHasRead : Type 0
StandsHasRead = (device : Option FwState) (whole : List (ℕ × List ℕ)) (inputs : List InputView) (moments : List Moment)
    (before : Stands device whole inputs moments) →
    (r : Reads whole inputs moments) × (r.past ≡ before.past)

-- and so it is while a load or a resume builds the graph
abbrev pub BuildingHasRead : Type 0
BuildingHasRead = (device : Option FwState) (whole : List (ℕ × List ℕ)) (inputs : List InputView) (moments : List Moment)
    (before : StandsBuilding device whole inputs moments) →
    (r : Reads whole inputs moments) × (r.past ≡ before.past)

-- a boot, whatever the state was before it, gives one that stands
abbrev pub BootKeeps : Type 0
BootKeeps = (f : FwState) (whole : List (ℕ × List ℕ)) (inputs : List InputView) (moments : List Moment)
    (before : Reads whole inputs moments) → Booted f →
    (after : Stands (Some f) whole inputs (moments ++ Boot ∷ [])) × (after.past.bytes ≡ before.past.bytes)

-- after a cut, whatever the state was before it, a device that is off stands
abbrev pub CutKeeps : Type 0
CutKeeps = (whole : List (ℕ × List ℕ)) (inputs : List InputView) (moments : List Moment) (before : Reads whole inputs moments) →
    (after : Stands None whole inputs (moments ++ Cut ∷ [])) × (after.past.bytes ≡ before.past.bytes)

-- an act that passes keeps what stands
abbrev pub NowKeeps : Type 0
NowKeeps = (f f' : FwState) (v : View) (fresh : Option ℕ) (whole : List (ℕ × List ℕ)) (inputs : List InputView) (moments : List Moment)
    (before : Stands (Some f) whole inputs moments) → Sees f v fresh f' → agree v ≡ true → StaysAsLive (view_of f) v fresh →
    (after : Stands (Some f') whole inputs (moments ++ Now v fresh ∷ [])) × (after.past.bytes ≡ before.past.bytes)

-- a tick by the schedule keeps what stands, and the bytes that it writes are those of the equations
abbrev pub TickKeeps : Type 0
TickKeeps = (f f' : FwState) (whole : List (ℕ × List ℕ)) (io io' : Io) (moments : List Moment)
    (before : Stands (Some f) whole io.inputs moments) → Move f io f' io' → IsPlayable (view_of f) →
    (after : Stands (Some f') whole io'.inputs (moments ++ Tick ∷ [])) ×
    ((slot : ℕ) → list_of after.past.bytes slot ≡ list_of before.past.bytes slot ++ list_of (audio_after f io).written slot)

-- more bytes after those that are left of an input keep what stands
abbrev pub FillKeeps : Type 0
FillKeeps = (device : Option FwState) (whole : List (ℕ × List ℕ)) (inputs inputs' : List InputView) (moments : List Moment) (slot : ℕ)
    (more : List ℕ) (before : Stands device whole inputs moments) → number_of before.past.positions slot ≤ length (list_of whole slot) →
    Fills slot more inputs inputs' →
    (after : Stands device (updated (slot ∷ []) (λ s. list_of whole s ++ more) whole) inputs' moments) × (after.past ≡ before.past)

-- ---- while a load or a resume builds the graph

-- a state that stands with nothing Live stands so too
abbrev pub BuildingBegins : Type 0
BuildingBegins = (f : FwState) (whole : List (ℕ × List ℕ)) (inputs : List InputView) (moments : List Moment)
    (before : Stands (Some f) whole inputs moments) → IsTrue (is_silent (view_of f)) →
    (after : StandsBuilding (Some f) whole inputs moments) × (after.past ≡ before.past)

-- an act that passes keeps this, and writes nothing
abbrev pub NowKeepsBuilding : Type 0
NowKeepsBuilding = (f f' : FwState) (v : View) (fresh : Option ℕ) (whole : List (ℕ × List ℕ)) (inputs : List InputView)
    (moments : List Moment) (before : StandsBuilding (Some f) whole inputs moments) → SeesSilent f f' → IsTrue (is_silent v) →
    agree v ≡ true →
    (after : StandsBuilding (Some f') whole inputs (moments ++ Now v fresh ∷ [])) × (after.past.bytes ≡ before.past.bytes)

-- a tick keeps this, and writes nothing
abbrev pub TickKeepsBuilding : Type 0
TickKeepsBuilding = (f f' : FwState) (whole : List (ℕ × List ℕ)) (io io' : Io) (moments : List Moment)
    (before : StandsBuilding (Some f) whole io.inputs moments) → Move f io f' io' →
    (after : StandsBuilding (Some f') whole io'.inputs (moments ++ Tick ∷ [])) ×
    ((slot : ℕ) → list_of after.past.bytes slot ≡ list_of before.past.bytes slot)

-- where the last act made the view that of its moment, the state stands whole again
abbrev pub BuildingEnds : Type 0
BuildingEnds = (f : FwState) (v : View) (fresh : Option ℕ) (whole : List (ℕ × List ℕ)) (inputs : List InputView) (moments : List Moment)
    (before : StandsBuilding (Some f) whole inputs (moments ++ Now v fresh ∷ [])) → view_of f ≡ v →
    (after : Stands (Some f) whole inputs (moments ++ Now v fresh ∷ [])) × (after.past ≡ before.past)

-- ---- a change of the graph or of the streams

-- a state in a new view, where it has a ring for each buffer, sees that view
abbrev pub SeenSees : Type 0
SeenSees = (f : FwState) (v : View) (fresh : Option ℕ) → map (λ r. r.buffer) f.rings ≡ buffers v.graph → Sees f v fresh (seen v fresh f)

-- and where nothing is Live in the new view, it keeps no frames
abbrev pub SeenSeesSilent : Type 0
SeenSeesSilent = (f : FwState) (v : View) (fresh : Option ℕ) → map (λ r. r.buffer) f.rings ≡ buffers v.graph → IsTrue (is_silent v) →
    SeesSilent f (seen v fresh f)

-- the numbers of an epoch without frames are two of 0 for each section
abbrev pub EpochsBeginFresh : Type 0
EpochsBeginFresh = (blob : List ℕ) (channels : ℕ) → history_of blob channels [] ≡ fresh_numbers blob channels

-- where ways stay, what stays Live keeps its channels and its rate
abbrev pub ShapesStay : Type 0
ShapesStay = (old new : View) → KeepsWays old new → (x : ℕ) → is_among (components new.graph ++ buffers new.graph) x ≡ true →
    live old x ≡ true → live new x ≡ true →
    (channels_of new x ≡ channels_of old x) × (rate_of new x ≡ rate_of old x)

-- where buffers and blobs stay too, it stays as it is while Live
abbrev pub LiveStays : Type 0
LiveStays = (old new : View) (fresh : Option ℕ) → KeepsShape old new fresh → StaysAsLive old new fresh
