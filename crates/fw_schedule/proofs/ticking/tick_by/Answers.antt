use Rattle.std.proofs.Common.{◌≡◌, sym, ap, ◌∙◌, subst, ℕ, suc, ◌+◌, ◌-◌, ◌^◌, ◌<◌, ◌≤◌, List, [], ◌∷◌, ◌++◌, map, take, drop, length, get_or, All, false, arith}
use Rattle.std.proofs.lemmas.List.{take_more, drop_more, take_all, length-map, get_or-map}
use Rattle.std.specs.Prelude.{nat_eq}
use Rattle.std.specs.List.{AllByRecursion, IsDistinct}
use Rattle.sof_base.specs.declared.format.Format.TheVariants.{S16}
use Rattle.sof_base.specs.Ports.{InputView}
use Rattle.sof_io.specs.Bound.{output_slots}
use Rattle.sof_io.specs.Takes.{HasPosition}
use Rattle.sof_io.specs.Puts.{room_at}
use Rattle.stream_law.specs.declared.graph.Kind.TheVariants.{HostPlay}
use Rattle.stream_law.specs.Order.{order}
use Rattle.stream_law.specs.Move.{after_moves, next_clock, audio_after}
use Rattle.stream_law.specs.Seen.{blob_in}
use Rattle.fw_components.specs.Tables.{graph_of, view_by}
use Rattle.fw_components.specs.States.{with_tables}
use Rattle.fw_places.proofs.Marking.{all-at}
use Rattle.fw_schedule.specs.declared.steps.Step.{Step}
use Rattle.fw_schedule.specs.Schedules.{IsStepOf}
use Rattle.fw_schedule.specs.Ticks.{io_of}
use Rattle.fw_schedule.specs.Stages.{IsStage, Moves, Grew, audio_from}
use Rattle.fw_schedule.proofs.Growing.{grew-still, grew-room}
use Rattle.fw_schedule.proofs.InOrder.{order-distinct}
use Rattle.fw_schedule.proofs.Rising.{rising-distinct}
use Rattle.fw_schedule.proofs.Still.{view-still, graph-still, streams-still, pieces-still, homes-still}
use Rattle.fw_schedule.proofs.ScheduleLaws.{schedule-seen}
use Rattle.fw_schedule.proofs.InTurn.{IsOnWay, on-first, on-step, can-on}
use Rattle.fw_schedule.proofs.ticking.tick_by.Goals as goal

each-low : (xs : List InputView) → All HasPosition xs → AllByRecursion (λ x. x.position ≤ 2 ^ 64 - 1) xs
each-low [] low = tt
each-low (x ∷ xs) low = (low 0 x (omega arith), each-low xs (λ k d within. low (suc k) d (omega (arith, within))))

-- what is read past the last step
abbrev blank : Step
blank = record { id = 0; place = 0; kind = HostPlay; format = S16; active = false; channels = 0; period = 0; rate = 0; whole = 0; over = 0; first = 0; past = 0; end = 0 }

-- the id of a step
id-of : (ss : List Step) (i : ℕ) (d : Step) → i < length ss → (get_or ss i d).id ≡ get_or (map (λ (s : Step). s.id) ss) i 0
id-of ss i d low = sym (get_or-map (λ (s : Step). s.id) ss i d 0 low)

pub loop-i-init : goal.loop-i-init
loop-i-init c =
    let t = c.args.registry.now in
    let ids = map (λ (s : Step). s.id) c.as_slice-steps.result.now in
    let is : ids ≡ order (graph_of t) = ap (map (λ (s : Step). s.id)) c.as_slice-steps.ensures.value ∙ c.requires.schedule.order in
    on-first t c.comps-comps.ensures.kept (io_of c.args.io.now c.args.out.now) c.len-inputs.ensures.distinct (rising-distinct (output_slots c.args.out.now) c.len-outputs.ensures.ascending) (each-low c.args.io.now c.len-inputs.ensures.within) c.args.clock ids
    (subst (IsDistinct nat_eq) (sym is) (order-distinct (graph_of t))) c.requires.room

pub move_by-requires-clause-can : goal.move_by-requires-clause-can
move_by-requires-clause-can c =
    let steps = c.as_slice-steps.result.now in let i = c.loop-i.i in
    let cs = map (λ (s : Step). s.id) steps in
    can-on c.args.registry.now c.requires.can (io_of c.args.io.now c.args.out.now) c.args.clock (take i cs) (drop i cs) c.loop-i.registry c.loop-i.io c.loop-i.out c.loop-i.invariant

pub move_by-requires-clause-step : goal.move_by-requires-clause-step
move_by-requires-clause-step c =
    let t = c.loop-i.registry in let steps = c.as_slice-steps.result.now in let i = c.loop-i.i in
    let now = schedule-seen c.args.registry.now t c.args.schedule.now (sym (view-still t c.args.registry.now c.loop-i.invariant.stage.bare)) c.requires.schedule in
    let ids = c.args.schedule.now.ends.ids.items in
    all-at (IsStepOf (view_by t) ids) steps i blank c.loop-i-test.true (subst (AllByRecursion (IsStepOf (view_by t) ids)) (sym c.as_slice-steps.ensures.value) now.steps)

pub move_by-requires-clause-places : goal.move_by-requires-clause-places
move_by-requires-clause-places c =
    (schedule-seen c.args.registry.now c.loop-i.registry c.args.schedule.now (sym (view-still c.loop-i.registry c.args.registry.now c.loop-i.invariant.stage.bare)) c.requires.schedule).places

pub move_by-requires-clause-room : goal.move_by-requires-clause-room
move_by-requires-clause-room c =
    let steps = c.as_slice-steps.result.now in let i = c.loop-i.i in
    let cs = map (λ (s : Step). s.id) steps in
    let low : i < length cs = omega (arith, c.loop-i-test.true, length-map steps (λ (s : Step). s.id)) in
    let first = (subst (AllByRecursion (λ x. 61440 ≤ room_at x c.loop-i.out)) (drop_more cs i 0 low) c.loop-i.invariant.room).0 in
    subst (λ x. 61440 ≤ room_at x c.loop-i.out) (sym (id-of steps i blank c.loop-i-test.true)) first

pub loop-i-preserved : goal.loop-i-preserved
loop-i-preserved c =
    let t0 = c.args.registry.now in let t = c.loop-i.registry in let steps = c.as_slice-steps.result.now in let i = c.loop-i.i in
    let cs = map (λ (s : Step). s.id) steps in
    let low : i < length cs = omega (arith, c.loop-i-test.true, length-map steps (λ (s : Step). s.id)) in
    let id = id-of steps i blank c.loop-i-test.true in
    let start = io_of c.args.io.now c.args.out.now in let a = audio_from t0 start in let clock = c.args.clock in
    let next = c.move_by.new in
    let on = subst (λ (left : List ℕ). IsOnWay t0 start clock a (take i cs) left t c.loop-i.io c.loop-i.out) (drop_more cs i 0 low) c.loop-i.invariant in
    subst (λ (moved : List ℕ). IsOnWay t0 start clock a moved (drop (i + 1) cs) next.registry next.io next.out) (sym (take_more cs i 0 low))
    (on-step t0 start clock a (take i cs) (get_or cs i 0) (drop (i + 1) cs) t c.loop-i.io c.loop-i.out on next.registry next.io next.out
    (subst (λ x. Grew (x ∷ []) c.loop-i.out next.out) id c.move_by.ensures.grew)
    (subst (λ x. Moves clock x t c.loop-i.io c.loop-i.out next.registry next.io next.out) id c.move_by.ensures.moved))

pub returns-clause-moved : goal.returns-clause-moved
returns-clause-moved c = λ f tick.
    let t0 = c.args.registry.now in let t = c.loop-i.registry in let steps = c.as_slice-steps.result.now in let i = c.loop-i.i in
    let same = c.loop-i.invariant.stage.bare in
    let cs = map (λ (s : Step). s.id) steps in
    let start = io_of c.args.io.now c.args.out.now in let a = audio_from t0 start in
    let v = view_by t0 in
    let all : take i cs ≡ order (graph_of t0) =
    take_all i cs (omega (arith, c.loop-i-test.false, length-map steps (λ (s : Step). s.id)))
    ∙ ap (map (λ (s : Step). s.id)) c.as_slice-steps.ensures.value ∙ c.requires.schedule.order in
    let stage : IsStage t0 start t c.loop-i.io c.loop-i.out (audio_after (with_tables t0 f) start) =
    subst (IsStage t0 start t c.loop-i.io c.loop-i.out) (λ j. after_moves (view_by t0) (blob_in (view_by t0)) (sym tick j) (all j) (audio_from t0 start)) c.loop-i.invariant.stage in
    record {
      state = λ j. record {
        heap = record { holes = f.heap.holes; pieces = pieces-still t t0 same j };
        clock = next_clock f.clock;
        graph = graph-still t t0 same j;
        streams = streams-still t t0 same j;
        rings = stage.rings j;
        histories = stage.histories j;
        staging = stage.staging j;
      };
      endpoints = λ j. record { inputs = stage.inputs j; outputs = stage.outputs j };
    }

pub returns-clause-can : goal.returns-clause-can
returns-clause-can c =
    let steps = c.as_slice-steps.result.now in let i = c.loop-i.i in
    let cs = map (λ (s : Step). s.id) steps in
    can-on c.args.registry.now c.requires.can (io_of c.args.io.now c.args.out.now) c.args.clock (take i cs) (drop i cs) c.loop-i.registry c.loop-i.io c.loop-i.out c.loop-i.invariant

pub returns-clause-schedule : goal.returns-clause-schedule
returns-clause-schedule c = schedule-seen c.args.registry.now c.loop-i.registry c.args.schedule.now (sym (view-still c.loop-i.registry c.args.registry.now c.loop-i.invariant.stage.bare)) c.requires.schedule

pub returns-clause-region : goal.returns-clause-region
returns-clause-region c = λ home. homes-still home c.args.registry.now c.loop-i.registry (sym c.loop-i.invariant.stage.bare)

pub returns-clause-room : goal.returns-clause-room
returns-clause-room c = λ n room.
    let t0 = c.args.registry.now in let t = c.loop-i.registry in let steps = c.as_slice-steps.result.now in let i = c.loop-i.i in
    let same = c.loop-i.invariant.stage.bare in
    let cs = map (λ (s : Step). s.id) steps in
    grew-room (take i cs ++ drop i cs) n c.args.out.now c.loop-i.out (c.loop-i.invariant.grew c.loop-i.out (grew-still (drop i cs) c.loop-i.out)) room
