-- What a powered device keeps after a load and after a tick.
use Rattle.std.proofs.Common.{◌≡◌, ℕ, List, [], ◌∷◌, map, refl, ◌∙◌}
use Rattle.stream_law.specs.declared.graph.Edge.{Edge}
use Rattle.stream_law.specs.State.{FwState, RingView}
use Rattle.stream_law.specs.Table.{list_of}
use Rattle.stream_law.specs.Move.{Audio, state_after}
use Rattle.tplg_plan.specs.declared.plans.Plan.{Plan}
use Rattle.host_widgets.specs.IdleStreams.{all_closed}
use Rattle.host_widgets.specs.StateOf.{loaded_state}
use Rattle.host_widgets.specs.declared.kept.Power.TheVariants.{On}
use Rattle.host_widgets.specs.declared.kept.Record.{Record}
use Rattle.host_widgets.specs.Keeps.{KeepsRecord}

-- ---- rings

abbrev buffer_in : RingView → ℕ
buffer_in r = r.buffer

-- rings with other frames are those of the same buffers
same-buffers : (change : RingView → RingView) → ((r : RingView) → (change r).buffer ≡ r.buffer) → (rings : List RingView) → map buffer_in (map change rings) ≡ map buffer_in rings
same-buffers change same [] = refl
same-buffers change same (r ∷ rings) = λ i. same r i ∷ same-buffers change same rings i

abbrev empty_ring : Edge → RingView
empty_ring e = record { buffer = e.buffer; frames = [] }

empty-rings : (edges : List Edge) → map buffer_in (map empty_ring edges) ≡ map (λ (e : Edge). e.buffer) edges
empty-rings [] = refl
empty-rings (e ∷ edges) = λ i. e.buffer ∷ empty-rings edges i

-- ---- after a load

pub Keeps-loaded : (plan : Plan) (heap clock : ℕ) → KeepsRecord plan heap (all_closed On plan) (loaded_state plan heap clock)
Keeps-loaded plan heap clock = record { view = refl; pieces = refl; rings = empty-rings plan.graph.edges }

-- ---- after a tick

module _ (plan : Plan) (heap : ℕ) (kept : Record) (f : FwState) (a : Audio) where
  abbrev ring_after : RingView → RingView
  ring_after r = record { buffer = r.buffer; frames = list_of a.rings r.buffer }

  pub Keeps-moved : KeepsRecord plan heap kept f → KeepsRecord plan heap kept (state_after f a)
  Keeps-moved keeps = record {
    view = keeps.view;
    pieces = keeps.pieces;
    rings = same-buffers ring_after (λ r. refl) f.rings ∙ keeps.rings;
  }
