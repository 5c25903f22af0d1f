-- What is kept where pipelines are made on use: that what is there is the part of the graph that is up.
use Rattle.std.specs.Prelude.{◌≡◌, ◌==◌, ◌↔◌, ℕ, map, true, false}
use Rattle.std.specs.List.{IsDistinct, list_any}
use Rattle.sof_base.specs.Holes.{rounded}
use Rattle.stream_law.specs.State.{PieceView}
use Rattle.stream_law.specs.Order.{is_among}
use Rattle.stream_law.specs.Ways.{is_live_phase}
use Rattle.tplg_plan.specs.declared.plans.Plan.{Plan}
use Rattle.host_widgets.specs.declared.kept.Power.{Power}
use Rattle.host_widgets.specs.declared.kept.Power.TheVariants.{Unloaded, On, Off}
use Rattle.host_widgets.specs.Expected.{stated_bytes, phase_of}
use Rattle.host_widgets.specs.Host.{IsRecordOf}
use Rattle.host_widgets.specs.Kept.{first_record}
use Rattle.host_widgets.specs.Up.{up_view}
use Rattle.host_widgets.specs.There.{there_view, ids_there, nowhere, shown_ids}
use Rattle.host_dynamic.specs.Dynamic.{needed}
use Rattle.host_widgets.specs.UpState.{UpState}

-- what is there is what is up, and each widget of it, and no other, has a piece of its rounded size
pub record IsThere (plan : Plan) (s : UpState) : Type 0 where
  pub view : there_view s.there ≡ up_view plan s.kept s.up
  pub pieces : ids_there s.there ≡ shown_ids plan s.up
  pub sizes : map (λ (p : PieceView). p.size) s.there.heap.pieces ≡ map (λ (p : PieceView). rounded (stated_bytes plan p.id)) s.there.heap.pieces

-- while the power is off nothing is there, and no stream runs or is paused
abbrev pub IsThereBy : Power → Plan → UpState → Type 0
IsThereBy On plan s = IsThere plan s
IsThereBy Off plan s = (s.there ≡ nowhere) × (list_any (λ r. is_live_phase (phase_of r.found)) s.kept.streams ≡ false)
IsThereBy Unloaded plan s = (s.there ≡ nowhere) × (s.kept ≡ first_record plan)

-- the record is one of the plan, what is up is what the streams need that are not closed, each index once, and it is there
pub record IsUpState (plan : Plan) (s : UpState) : Type 0 where
  pub record_is : IsRecordOf plan s.kept
  pub up : (i : ℕ) → (is_among s.up i ≡ true) ↔ (is_among (needed plan s.kept) i ≡ true)
  pub once : IsDistinct (λ m n. m == n) s.up
  pub there : IsThereBy s.kept.power plan s
