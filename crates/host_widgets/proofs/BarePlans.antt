-- A plan of which nothing is to be brought up is empty.
use Rattle.std.proofs.Common.{◌≡◌, refl, sym, ap, ◌∙◌, ℕ, suc, ◌<◌, List, [], ◌∷◌, ◌++◌, map, length, arith}
use Rattle.std.specs.List.{AllByRecursion, filter_map, flat_map, range_with_len, zip}
use Rattle.std.proofs.lemmas.List.{length-map, length-append}
use Rattle.std.proofs.lemmas.List.FromFn.{length-range_with_len}
use Rattle.stream_law.specs.declared.stream.StreamView.{StreamView}
use Rattle.stream_law.specs.declared.graph.Comp.{Comp}
use Rattle.stream_law.specs.declared.graph.Edge.{Edge}
use Rattle.stream_law.specs.declared.graph.Pipe.{Pipe}
use Rattle.stream_law.specs.Past.{empty_view}
use Rattle.mbox_link.specs.Step.{fresh}
use Rattle.tplg_plan.specs.declared.plans.Plan.{Plan}
use Rattle.tplg_plan.specs.declared.plans.StreamPlan.{StreamPlan}
use Rattle.tplg_plan.specs.Sound.{IsSound, host_of}
use Rattle.host_widgets.specs.HostRecord.{closed}
use Rattle.host_widgets.specs.Kept.{first_record, controls_of}
use Rattle.host_widgets.specs.ViewOf.{set_comp, graph_by, record_view}
use Rattle.host_widgets.specs.HostActs.{Act, Make, Join, Finish}
use Rattle.host_widgets.specs.Acts.{widget_ids}
use Rattle.host_widgets.specs.ActLists.{control_acts, bring_up}
use Rattle.host_widgets.specs.Expected.{stream_view, with_pieces}
use Rattle.host_widgets.specs.StateOf.{loaded_state}

-- a fresh firmware is one that was brought up, and there is nothing to see
pub record Bare (plan : Plan) : Type 0 where
  pub state : (heap : ℕ) → fresh heap ≡ loaded_state plan heap 0
  pub view : record_view plan (first_record plan) ≡ empty_view

none-below : {X : Type 0} (key : X → ℕ) (n : ℕ) (xs : List X) → n ≡ 0 → AllByRecursion (λ x. key x < n) xs → xs ≡ []
none-below key n [] is below = refl
none-below key n (x ∷ xs) is below = absurd (omega (arith, is, below.0))

no-items : {X : Type 0} (xs : List X) → length xs ≡ 0 → xs ≡ []
no-items [] is = refl
no-items (x ∷ xs) is = absurd (let no : suc (length xs) ≡ 0 = is in omega (arith, no))

none-mapped : {X Y : Type 0} (f : X → Y) (xs : List X) → map f xs ≡ [] → xs ≡ []
none-mapped f [] is = refl
none-mapped f (x ∷ xs) is = absurd (cc is)

module _ (plan : Plan) (sound : IsSound plan) (none : length (bring_up plan (first_record plan)) ≡ 0) where
  abbrev makes : List Act
  makes = map Make (widget_ids plan)

  abbrev joins : List Act
  joins = map (λ j. Join j.source j.sink) plan.graph.joins

  abbrev rest : List Act
  rest = flat_map control_acts (controls_of plan (first_record plan)) ++ map (λ p. Finish p.id) plan.graph.pipes

  no-makes : length plan.widgets ≡ 0
  no-makes = omega (arith, none, length-append makes (joins ++ rest), length-map (widget_ids plan) Make, length-range_with_len 0 (length plan.widgets))

  no-joins : length plan.graph.joins ≡ 0
  no-joins = omega (arith, none, length-append makes (joins ++ rest), length-append joins rest, length-map plan.graph.joins (λ j. Join j.source j.sink))

  widgets : plan.widgets ≡ []
  widgets = no-items plan.widgets no-makes

  comps : plan.graph.comps ≡ []
  comps = none-below (λ (c : Comp). c.id) (length plan.widgets) plan.graph.comps no-makes sound.comps_below

  edges : plan.graph.edges ≡ []
  edges = none-below (λ (e : Edge). e.buffer) (length plan.widgets) plan.graph.edges no-makes sound.edges_below

  pipes : plan.graph.pipes ≡ []
  pipes = none-below (λ (p : Pipe). p.id) (length plan.widgets) plan.graph.pipes no-makes sound.pipes_below

  joins-none : plan.graph.joins ≡ []
  joins-none = no-items plan.graph.joins no-joins

  streams : plan.streams ≡ []
  streams = none-mapped (λ (s : StreamPlan). (s.host, s.capture)) plan.streams (sound.hosts ∙ ap (filter_map host_of) comps)

  graph : graph_by plan (first_record plan) ≡ record { comps = []; edges = []; pipes = []; joins = [] }
  graph = λ i. record { comps = map (set_comp plan (first_record plan)) (comps i); edges = edges i; pipes = pipes i; joins = joins-none i }

  abbrev views : List StreamPlan → List StreamView
  views ps = map stream_view (zip ps (map (λ (s : StreamPlan). closed) ps))

  state : (heap : ℕ) → fresh heap ≡ loaded_state plan heap 0
  state heap = sym (λ i. record {
    heap = with_pieces plan (range_with_len 0 (length (widgets i))) (fresh heap).heap;
    clock = 0;
    graph = graph i;
    streams = views (streams i);
    rings = map (λ e. record { buffer = e.buffer; frames = [] }) (edges i);
    histories = [];
    staging = [];
  })

  pub bare : Bare plan
  bare = record { state = state; view = λ i. record { graph = graph i; streams = views (streams i) } }
