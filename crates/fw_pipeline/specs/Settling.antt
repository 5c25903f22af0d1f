-- What begins and what ends, by the marks of what is Live.
use Rattle.std.specs.Prelude.{◌≡◌, ℕ, List, Bool, ◌&&◌, not, map, if◌then◌else◌}
use Rattle.fw_units.specs.declared.component.Component.{Component}
use Rattle.fw_units.specs.Units.{source_by, sink_by}
use Rattle.fw_components.specs.Tables.{Tables}
use Rattle.fw_units.specs.Changes.{with_ended}
use Rattle.fw_places.specs.Walks.{is_marked, is_end_marked}
use Rattle.fw_pipeline.specs.Triggers.{IsBegun, BecomeEach}

-- an id is marked after, and was not before
abbrev pub begins_by : List ℕ → List Bool → List Bool → ℕ → Bool
begins_by ids before after x = is_marked ids after x && not (is_marked ids before x)

-- in each table those that pass begin with so many channels, at so many frames a second
abbrev pub HaveBegun : (channels rate : ℕ) → (ℕ → Bool) → Tables → Tables → Type 0
HaveBegun channels rate test t u =
    BecomeEach (λ c d. IsBegun channels rate (test c.id) c d) t.comps u.comps
    × (BecomeEach (λ c d. IsBegun channels rate (test c.id) c d) t.buffers u.buffers
    × (BecomeEach (λ c d. IsBegun channels rate (test c.id) c d) t.pipes u.pipes
    × (u.joins ≡ t.joins)))

-- a buffer is marked, and so are both its ends
abbrev pub flows_by : List ℕ → List Bool → Component → Bool
flows_by ids marks c = is_marked ids marks c.id && is_end_marked ids marks (source_by c.unit) && is_end_marked ids marks (sink_by c.unit)

-- the tables once the ring of a buffer is empty, unless frames may lie in it
abbrev pub ended_unless : Bool → ℕ → Tables → Tables
ended_unless flow id t = if flow then t else record { comps = t.comps; buffers = map (with_ended id) t.buffers; pipes = t.pipes; joins = t.joins }
