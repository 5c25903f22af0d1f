-- A schedule is that of all tables that show the same ways, pipelines and streams.
use Rattle.std.proofs.Common.{◌≡◌, refl, sym, ap, ◌∙◌, subst, ℕ, zero, suc, ◌/◌, List, [], ◌∷◌, map, length, true, false, not, ◌==◌, ◌&&◌, ◌||◌, Option, Some, None, option_map}
use Rattle.std.specs.Prelude.{find, filter, position, option_and_then}
use Rattle.std.specs.List.{AllByRecursion, list_any, list_all}
use Rattle.std.specs.Option.{option_map_or}
use Rattle.sof_base.specs.declared.format.Format.TheVariants.{S32}
use Rattle.sof_base.specs.declared.format.Params.{Params}
use Rattle.stream_law.specs.declared.graph.Kind.{Kind}
use Rattle.stream_law.specs.declared.graph.Kind.TheVariants.{DaiPlay, DaiCapture}
use Rattle.stream_law.specs.declared.graph.Comp.{Comp}
use Rattle.stream_law.specs.declared.graph.Edge.{Edge}
use Rattle.stream_law.specs.State.{View}
use Rattle.stream_law.specs.Ways.{comp_of, pipe_of, components, buffers, source_of, sink_of, is_end, on_way, is_live_phase, is_running_phase, live, active, live_params, rate_of, channels_of}
use Rattle.stream_law.specs.Moves.{period, fed, fed_by, chooses, skips_idle_inputs}
use Rattle.stream_law.specs.Endpoints.{format_by, format_of}
use Rattle.stream_law.specs.Order.{is_among, is_ready, least_of, without, placed_from, order}
use Rattle.stream_law.specs.Stays.{SameWays}
use Rattle.stream_law.proofs.Shapes.{on_way_same}
use Rattle.fw_units.proofs.Ids.{all-by}
use Rattle.fw_components.specs.Tables.{Tables, view_by}
use Rattle.fw_schedule.specs.declared.steps.Step.{Step}
use Rattle.fw_schedule.specs.declared.schedules.Schedule.{Schedule}
use Rattle.fw_schedule.specs.Schedules.{inlets_of, IsStepOf, ArePlaces, IsScheduleOf}
use Rattle.fw_schedule.proofs.EdgePlaces.{comp-place}

pub schedule-seen : (t u : Tables) (s : Schedule) → view_by t ≡ view_by u → IsScheduleOf t s → IsScheduleOf u s
schedule-seen t u s same was = record {
  order = subst (λ (v : View). map (λ (s : Step). s.id) s.steps.items ≡ order v.graph) same was.order;
  steps = subst (λ (v : View). AllByRecursion (IsStepOf v s.ends.ids.items) s.steps.items) same was.steps;
  places = subst (λ (v : View). ArePlaces v s.ends) same was.places;
}

-- ---- what steps are made of

-- two views have the same ways, pipelines and streams, with components of the same pipelines
pub record KeepsSteps (v w : View) : Type 0 where
  pub ways : SameWays v.graph w.graph
  pub pipes : v.graph.pipes ≡ w.graph.pipes
  pub homes : (c : ℕ) → option_map (λ x. x.pipe) (comp_of v.graph c) ≡ option_map (λ x. x.pipe) (comp_of w.graph c)
  pub streams : v.streams ≡ w.streams

-- what is read off the kinds of two components, and off their pipelines
by-kind : {X : Type 0} (f : Kind → X) (d : X) (o p : Option Comp) → option_map (λ x. x.kind) o ≡ option_map (λ x. x.kind) p → option_map_or (λ x. f x.kind) o d ≡ option_map_or (λ x. f x.kind) p d
by-kind f d None None e = refl
by-kind f d None (Some y) e = absurd (cc e)
by-kind f d (Some x) None e = absurd (cc e)
by-kind f d (Some x) (Some y) e = let same : x.kind ≡ y.kind = cc e in ap f same

by-pipe : (f : ℕ → ℕ) (o p : Option Comp) → option_map (λ x. x.pipe) o ≡ option_map (λ x. x.pipe) p → option_map_or (λ x. f x.pipe) o 0 ≡ option_map_or (λ x. f x.pipe) p 0
by-pipe f None None e = refl
by-pipe f None (Some y) e = absurd (cc e)
by-pipe f (Some x) None e = absurd (cc e)
by-pipe f (Some x) (Some y) e = let same : x.pipe ≡ y.pipe = cc e in ap f same

module _ (v w : View) (keeps : KeepsSteps v w) where
  way : (host x : ℕ) → on_way v.graph host x ≡ on_way w.graph host x
  way host x = on_way_same v.graph w.graph keeps.ways host x

  live-same : (x : ℕ) → live v x ≡ live w x
  unfolding live
  live-same x = λ i. list_any (λ s. is_live_phase s.phase && way s.host x i) (keeps.streams i)

  active-same : (x : ℕ) → active v x ≡ active w x
  unfolding active
  active-same x = λ i. list_any (λ s. is_running_phase s.phase && way s.host x i) (keeps.streams i)

  params-same : (x : ℕ) → live_params v x ≡ live_params w x
  params-same x = λ i. option_and_then (λ s. s.params) (find (λ s. is_live_phase s.phase && way s.host x i) (keeps.streams i))

  channels-same : (x : ℕ) → channels_of v x ≡ channels_of w x
  unfolding channels_of
  channels-same x = ap (λ (o : Option Params). option_map_or (λ p. p.channels) o 0) (params-same x)

  rate-same : (x : ℕ) → rate_of v x ≡ rate_of w x
  unfolding rate_of
  rate-same x = ap (λ (o : Option Params). option_map_or (λ p. p.rate) o 0) (params-same x)

  format-same : (c : ℕ) → format_of v c ≡ format_of w c
  format-same c = by-kind (format_by v c) S32 (comp_of v.graph c) (comp_of w.graph c) (keeps.ways.kinds c) ∙ by (comp_of w.graph c)
    where
      same-format : (k : Kind) → format_by v c k ≡ format_by w c k
      same-format (DaiPlay format) = refl
      same-format (DaiCapture format) = refl
      same-format k = λ i. option_map_or (λ s. option_map_or (λ p. p.format) s.params S32) (find (λ s. s.host == c) (keeps.streams i)) S32

      by : (o : Option Comp) → option_map_or (λ x. format_by v c x.kind) o S32 ≡ option_map_or (λ x. format_by w c x.kind) o S32
      by None = refl
      by (Some x) = same-format x.kind

  period-same : (c : ℕ) → period v c ≡ period w c
  period-same c =
      ap (λ n. n / 1000)
      (by-pipe (λ index. option_map_or (λ p. p.period) (pipe_of v.graph index) 0) (comp_of v.graph c) (comp_of w.graph c) (keeps.homes c)
      ∙ (λ i. option_map_or (λ x. option_map_or (λ p. p.period) (find (λ p. p.index == x.pipe) (keeps.pipes i)) 0) (comp_of w.graph c) 0))

  -- ---- edges

  source-same : (b : ℕ) → source_of v.graph b ≡ source_of w.graph b
  source-same b = λ i. option_and_then (λ e. e.source) (find (λ e. e.buffer == b) (keeps.ways.edges i))

  sink-same : (b : ℕ) → sink_of v.graph b ≡ sink_of w.graph b
  sink-same b = λ i. option_and_then (λ e. e.sink) (find (λ e. e.buffer == b) (keeps.ways.edges i))

  buffers-same : buffers v.graph ≡ buffers w.graph
  buffers-same = λ i. map (λ (e : Edge). e.buffer) (keeps.ways.edges i)

  fed-same : (b : ℕ) → fed v b ≡ fed w b
  unfolding fed
  fed-same b = λ i. live-same b i && option_map_or (λ c. active-same c i) (sink-same b i) false

  outlets-same : (c : ℕ) → fed_by v c ≡ fed_by w c
  outlets-same c = λ i. filter (λ b. fed-same b i) (filter (λ b. is_end (source-same b i) c) (buffers-same i))

  chooses-same : (c : ℕ) → chooses v c ≡ chooses w c
  unfolding chooses
  chooses-same c = by-kind (λ k. skips_idle_inputs k) false (comp_of v.graph c) (comp_of w.graph c) (keeps.ways.kinds c)

  inlets-same : (c : ℕ) → inlets_of v c ≡ inlets_of w c
  inlets-same c = λ i. filter (λ b. not (chooses-same c i) || option_map_or (λ x. active-same x i) (source-same b i) false) (filter (λ b. is_end (sink-same b i) c) (buffers-same i))

  ready-same : (placed : List ℕ) (c : ℕ) → is_ready v.graph placed c ≡ is_ready w.graph placed c
  ready-same placed c = λ i. list_all (λ b. option_map_or (is_among placed) (source-same b i) true) (filter (λ b. is_end (sink-same b i) c) (buffers-same i))

  placed-same : (n : ℕ) (placed left : List ℕ) → placed_from v.graph n placed left ≡ placed_from w.graph n placed left
  placed-same zero placed left = refl
  placed-same (suc n) placed left = λ i. option_map_or (λ c. c ∷ placed-same n (c ∷ placed) (without c left) i) (least_of (filter (λ c. ready-same placed c i) left)) []

  order-same : order v.graph ≡ order w.graph
  unfolding order
  order-same = placed-same (length (components v.graph)) [] (components v.graph) ∙ ap (λ (ids : List ℕ). placed_from w.graph (length ids) [] ids) keeps.ways.ids

  step-same : (ids : List ℕ) (s : Step) → IsStepOf v ids s → IsStepOf w ids s
  step-same ids s was = record {
    place = was.place ∙ comp-place v.graph.comps s.id ∙ ap (position (λ n. n == s.id)) keeps.ways.ids ∙ sym (comp-place w.graph.comps s.id);
    kind = sym (keeps.ways.kinds s.id) ∙ was.kind;
    format = λ ends. was.format ends ∙ format-same s.id;
    active = was.active ∙ active-same s.id;
    channels = was.channels ∙ channels-same s.id;
    period = was.period ∙ period-same s.id;
    rate = was.rate ∙ rate-same s.id;
    whole = was.whole;
    over = was.over;
    within = was.within;
    inlets = was.inlets ∙ inlets-same s.id;
    outlets = was.outlets ∙ outlets-same s.id;
  }

pub schedule-kept : (t u : Tables) (s : Schedule) → KeepsSteps (view_by t) (view_by u) → IsScheduleOf t s → IsScheduleOf u s
schedule-kept t u s keeps was = record {
  order = was.order ∙ order-same (view_by t) (view_by u) keeps;
  steps = all-by (IsStepOf (view_by t) s.ends.ids.items) (IsStepOf (view_by u) s.ends.ids.items) (step-same (view_by t) (view_by u) keeps s.ends.ids.items) s.steps.items was.steps;
  places = was.places ∙ ap (λ (es : List Edge). map (λ b. position (λ e. e.buffer == b) es) s.ends.ids.items) keeps.ways.edges;
}
