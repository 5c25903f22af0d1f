-- How changes of a table are seen in the firmware's state.
use Rattle.std.proofs.Common.{◌≡◌, refl, sym, ap, ◌∙◌, ℕ, List, [], ◌∷◌, map, filter, Bool, true, false, cond, not, ◌==◌, Option}
use Rattle.std.proofs.lemmas.Bool.{false≢true}
use Rattle.std.specs.List.{AllByRecursion}
use Rattle.sof_base.specs.declared.format.Params.{Params}
use Rattle.stream_law.specs.declared.stream.Phase.{Phase}
use Rattle.stream_law.specs.declared.stream.StreamView.{StreamView}
use Rattle.stream_law.specs.declared.graph.Comp.{Comp}
use Rattle.stream_law.specs.declared.graph.Pipe.{Pipe}
use Rattle.mbox_link.specs.Step.{completed, set_stream}
use Rattle.fw_units.specs.declared.component.Component.{Component}
use Rattle.fw_units.specs.declared.component.Unit as units
use Rattle.fw_units.specs.declared.component.Unit.TheVariants.{Host, Buffer, Pipeline}
use Rattle.fw_units.specs.Units.{comp_by, pipe_by, streams_by, with_stream_by, is_pipeline, kind_by, setting_by, ramp_by, sched_by, period_by, complete_by}
use Rattle.fw_units.specs.Changes.{completed_at, completed_unit, set_at, set_unit}

pub gone : {Y : Type 0} (f : Component → Y) (name : Y → ℕ) → ((c : Component) → name (f c) ≡ c.id) → (id : ℕ) (cs : List Component) → map f (filter (λ x. not (x.id == id)) cs) ≡ filter (λ y. not (name y == id)) (map f cs)
gone f name same id [] = refl
gone {Y} f name same id (c ∷ cs) = by (c.id == id) (gone f name same id cs) ∙ ap (λ n. cond (not (n == id)) (f c ∷ filter (λ y. not (name y == id)) (map f cs)) (filter (λ y. not (name y == id)) (map f cs))) (sym (same c))
  where
    by : (h : Bool) → map f (filter (λ x. not (x.id == id)) cs) ≡ filter (λ y. not (name y == id)) (map f cs) → map f (cond (not h) (c ∷ filter (λ x. not (x.id == id)) cs) (filter (λ x. not (x.id == id)) cs)) ≡ cond (not h) (f c ∷ filter (λ y. not (name y == id)) (map f cs)) (filter (λ y. not (name y == id)) (map f cs))
    by true rest = rest
    by false rest = ap (λ (ys : List Y). f c ∷ ys) rest

-- ---- pipelines

abbrev pipe-of : ℕ → ℕ → ℕ → ℕ → Bool → Pipe
pipe-of id index sched period complete = record { id = id; index = index; sched = sched; period = period; complete = complete }

completed-one : (id : ℕ) (c : Component) → is_pipeline c.unit ≡ true → pipe_by (completed_at id c) ≡ completed id (pipe_by c)
completed-one id c e = by (c.id == id) c.unit e
  where
    unit-by : (u : units.Unit) → is_pipeline u ≡ true → pipe-of c.id c.pipe (sched_by (completed_unit u)) (period_by (completed_unit u)) (complete_by (completed_unit u)) ≡ pipe-of c.id c.pipe (sched_by u) (period_by u) true
    unit-by (Pipeline sched period complete piece) e = refl
    unit-by u e = absurd (false≢true e)

    by : (h : Bool) (u : units.Unit) → is_pipeline u ≡ true → pipe_by (cond h (record { id = c.id; pipe = c.pipe; channels = c.channels; unit = completed_unit u }) (record { id = c.id; pipe = c.pipe; channels = c.channels; unit = u })) ≡ cond h (pipe-of c.id c.pipe (sched_by u) (period_by u) true) (pipe_by (record { id = c.id; pipe = c.pipe; channels = c.channels; unit = u }))
    by true u e = unit-by u e
    by false u e = refl

pub completions : (id : ℕ) (cs : List Component) → AllByRecursion (λ c. is_pipeline c.unit ≡ true) cs → map pipe_by (map (completed_at id) cs) ≡ map (completed id) (map pipe_by cs)
completions id [] all = refl
completions id (c ∷ cs) all = ap (λ (p : Pipe × List Pipe). p.0 ∷ p.1) (λ i. (completed-one id c all.0 i, completions id cs all.1 i))

-- ---- hosts

module _ (host : ℕ) (phase : Phase) (params : Option Params) where
  comp-one : (c : Component) → comp_by (set_at host phase params c) ≡ comp_by c
  comp-one c = by (c.id == host) c.unit
    where
      by : (h : Bool) (u : units.Unit) → comp_by (cond h (record { id = c.id; pipe = c.pipe; channels = c.channels; unit = set_unit phase params u }) (record { id = c.id; pipe = c.pipe; channels = c.channels; unit = u })) ≡ record { id = c.id; kind = kind_by u; pipe = c.pipe; setting = setting_by u; ramp = ramp_by u }
      by false u = refl
      by true (Buffer size ring source sink) = refl
      by true u = refl

  pub comps-same : (cs : List Component) → map comp_by (map (set_at host phase params) cs) ≡ map comp_by cs
  comps-same [] = refl
  comps-same (c ∷ cs) = ap (λ (p : Comp × List Comp). p.0 ∷ p.1) (λ i. (comp-one c i, comps-same cs i))

  abbrev at : Bool → Component → units.Unit → Component
  at h c u = cond h (record { id = c.id; pipe = c.pipe; channels = c.channels; unit = set_unit phase params u }) (record { id = c.id; pipe = c.pipe; channels = c.channels; unit = u })

  same-id : (h : Bool) (c : Component) (u : units.Unit) → (at h c u).id ≡ c.id
  same-id true c u = refl
  same-id false c u = refl

  -- a unit that is no host's brings no stream, and a host's the one that is set
  stream-by : (h : Bool) (c : Component) (u : units.Unit) (rest : List StreamView) → (c.id == host) ≡ h → with_stream_by c.id (at h c u).unit (map (set_stream host phase params) rest) ≡ map (set_stream host phase params) (with_stream_by c.id u rest)
  stream-by true c (Host capture was before piece) rest is = ap (λ h. cond {A = StreamView} h (record { host = c.id; phase = phase; params = params }) (record { host = c.id; phase = was; params = before }) ∷ map (set_stream host phase params) rest) (sym is)
  stream-by false c (Host capture was before piece) rest is = ap (λ h. cond {A = StreamView} h (record { host = c.id; phase = phase; params = params }) (record { host = c.id; phase = was; params = before }) ∷ map (set_stream host phase params) rest) (sym is)
  stream-by true c u rest is = refl
  stream-by false c u rest is = refl

  pub streams-set : (cs : List Component) → streams_by (map (set_at host phase params) cs) ≡ map (set_stream host phase params) (streams_by cs)
  streams-set [] = refl
  streams-set (c ∷ cs) =
      ap (λ n. with_stream_by n (at (c.id == host) c c.unit).unit (streams_by (map (set_at host phase params) cs))) (same-id (c.id == host) c c.unit)
      ∙ ap (with_stream_by c.id (at (c.id == host) c c.unit).unit) (streams-set cs)
      ∙ stream-by (c.id == host) c c.unit (streams_by cs) refl
