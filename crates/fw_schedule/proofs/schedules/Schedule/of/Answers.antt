use Rattle.std.proofs.Common.{◌≡◌, sym, ap, ◌∙◌, subst, ℕ, ◌<◌, ◌≤◌, List, [], ◌∷◌, ◌++◌, map, length, get_or, All, ◌==◌, Option, Some, lit<, arith}
use Rattle.std.proofs.lemmas.List.{take_more, take_all, length-map, get_or-map, length-take, map-append}
use Rattle.std.specs.Prelude.{position, slice_index}
use Rattle.std.specs.List.{AllByRecursion}
use Rattle.stream_law.specs.declared.graph.Edge.{Edge}
use Rattle.stream_law.specs.Ways.{components}
use Rattle.stream_law.specs.Order.{order}
use Rattle.fw_units.specs.Units.{edge_by}
use Rattle.fw_components.specs.Tables.{Tables, graph_of, view_by}
use Rattle.fw_components.specs.Kept.{IsKept}
use Rattle.fw_schedule.specs.declared.steps.Step.{Step}
use Rattle.fw_schedule.specs.Schedules.{IsStepOf, step_edges}
use Rattle.fw_schedule.proofs.InOrder.{order-distinct}
use Rattle.fw_schedule.proofs.InletRooms.{all-more, room-next}
use Rattle.fw_schedule.proofs.StepLaws.{steps-more, steps-end}
use Rattle.fw_schedule.proofs.schedules.Schedule.of.Goals as goal

-- the id at a place
id-next : (t : Tables) (places : List ℕ) (i k : ℕ) → map (slice_index (components (graph_of t))) places ≡ order (graph_of t) → i < length places → k ≡ get_or places i 0 → slice_index (components (graph_of t)) k ≡ get_or (order (graph_of t)) i 0
id-next t places i k all low is =
    ap (slice_index (components (graph_of t))) is
    ∙ sym (get_or-map (slice_index (components (graph_of t))) places i 0 0 low)
    ∙ ap (λ (ids : List ℕ). get_or ids i 0) all

-- as many places as ids
places-all : (t : Tables) (places : List ℕ) → map (slice_index (components (graph_of t))) places ≡ order (graph_of t) → length places ≡ length (order (graph_of t))
places-all t places all = sym (length-map places (slice_index (components (graph_of t)))) ∙ ap length all

edges-few : (t : Tables) → IsKept t → length (map (λ (e : Edge). e.buffer) (map edge_by t.buffers)) ≤ 128
edges-few t kept = omega (arith, length-map (map edge_by t.buffers) (λ (e : Edge). e.buffer), length-map t.buffers edge_by, kept.buffers)

-- where none are
none-placed : (at : ℕ → Option ℕ) (ids places : List ℕ) → ids ≡ [] → places ≡ [] → map (λ k. Some k) places ≡ map at ids
none-placed at ids places bare none = ap (map (λ (k : ℕ). Some k)) none ∙ sym (ap (map at) bare)

pub loop-i-init : goal.loop-i-init
loop-i-init c = record {
  ids = ap (map (λ (s : Step). s.id)) c.new-steps.ensures;
  ends = c.new-ends.ensures.0;
  steps = subst (AllByRecursion (IsStepOf (view_by c.args.registry.now) c.new-ends.result.ids.items)) (sym c.new-steps.ensures) tt;
  places = none-placed (λ b. position (λ e. e.buffer == b) (map edge_by c.args.registry.now.buffers)) c.new-ends.result.ids.items c.new-ends.result.places.items c.new-ends.ensures.0 c.new-ends.ensures.1;
}

pub step_at-step-requires-clause-there : goal.step_at-step-requires-clause-there
step_at-step-requires-clause-there c =
    let places = c.as_slice-places.result.now in let i = c.loop-i.i in let t = c.args.registry.now in
    let within : get_or places i 0 < length t.comps = subst (All (λ k. k < length t.comps)) (sym c.as_slice-places.ensures.value) c.order-order.ensures.within i 0 c.loop-i-test.true in
    omega (arith, within, c.from.ensures)

pub step_at-step-requires-clause-room : goal.step_at-step-requires-clause-room
step_at-step-requires-clause-room c =
    let t = c.args.registry.now in let v = view_by t in let places = c.as_slice-places.result.now in let i = c.loop-i.i in
    let all = ap (map (slice_index (components (graph_of t)))) c.as_slice-places.ensures.value ∙ c.order-order.ensures.order in
    let id = id-next t places i c.from.result all c.loop-i-test.true c.from.ensures in
    let low : i < length (order (graph_of t)) = omega (arith, places-all t places all, c.loop-i-test.true) in
    let room = room-next v (order (graph_of t)) i (order-distinct (graph_of t)) (edges-few t c.buffers-buffers.ensures.kept) low in
    omega (arith, room, ap length c.loop-i.invariant.ends, ap (λ n. length (step_edges v n)) id)

pub push-requires : goal.push-requires
push-requires c =
    let t = c.args.registry.now in let i = c.loop-i.i in let places = c.as_slice-places.result.now in
    let all = ap (map (slice_index (components (graph_of t)))) c.as_slice-places.ensures.value ∙ c.order-order.ensures.order in
    let count = ap length c.loop-i.invariant.ids in
    (lit< tt, omega (arith, count, length-map c.loop-i.steps.items (λ (s : Step). s.id), length-take i (order (graph_of t)), places-all t places all, c.loop-i-test.true, c.as_slice-places.ensures.fits))

pub loop-i-preserved : goal.loop-i-preserved
loop-i-preserved c =
    let t = c.args.registry.now in let v = view_by t in let places = c.as_slice-places.result.now in let i = c.loop-i.i in
    let all = ap (map (slice_index (components (graph_of t)))) c.as_slice-places.ensures.value ∙ c.order-order.ensures.order in
    let step : Step = c.step_at-step.result in
    let id : step.id ≡ get_or (order (graph_of t)) i 0 = c.step_at-step.ensures.id ∙ id-next t places i c.from.result all c.loop-i-test.true c.from.ensures in
    let low : i < length (order (graph_of t)) = omega (arith, places-all t places all, c.loop-i-test.true) in
    let grown : c.step_at-step.new.ends.ids.items ≡ c.loop-i.ends.ids.items ++ step_edges v step.id = c.step_at-step.ensures.ends in
    record {
      ids =
          ap (map (λ (s : Step). s.id)) c.push.ensures.items
          ∙ map-append (λ (s : Step). s.id) c.loop-i.steps.items (step ∷ [])
          ∙ (λ j. c.loop-i.invariant.ids j ++ id j ∷ [])
          ∙ sym (take_more (order (graph_of t)) i 0 low);
      ends =
          grown
          ∙ (λ j. c.loop-i.invariant.ends j ++ step_edges v (id j))
          ∙ sym (all-more v (order (graph_of t)) i low);
      steps =
          subst (AllByRecursion (IsStepOf v c.step_at-step.new.ends.ids.items)) (sym c.push.ensures.items)
          (steps-end v c.step_at-step.new.ends.ids.items c.loop-i.steps.items step
          (subst (λ (ids : List ℕ). AllByRecursion (IsStepOf v ids) c.loop-i.steps.items) (sym grown) (steps-more v c.loop-i.ends.ids.items (step_edges v step.id) c.loop-i.steps.items c.loop-i.invariant.steps))
          c.step_at-step.ensures.step);
      places = c.step_at-step.ensures.places;
    }

pub returns : goal.returns
returns c =
    let t = c.args.registry.now in let places = c.as_slice-places.result.now in
    let all = ap (map (slice_index (components (graph_of t)))) c.as_slice-places.ensures.value ∙ c.order-order.ensures.order in
    record {
      order = c.loop-i.invariant.ids ∙ take_all c.loop-i.i (order (graph_of t)) (omega (arith, places-all t places all, c.loop-i-test.false));
      steps = c.loop-i.invariant.steps;
      places = c.loop-i.invariant.places;
    }
