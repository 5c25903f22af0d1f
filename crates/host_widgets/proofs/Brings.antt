-- A fresh firmware takes the list that brings a device up by every sound plan, and the plan stands in it then.
use Rattle.std.proofs.Common.{◌≡◌, refl, sym, ap, subst, ◌∙◌, ℕ, ◌+◌, ◌<◌, List, [], ◌∷◌, ◌++◌, map, filter, length, true, ◌==◌, Some, None, arith}
use Rattle.std.specs.Prelude.{Option}
use Rattle.std.specs.List.{zip, flat_map, IsDistinct, AllByRecursion}
use Rattle.stream_law.specs.declared.graph.Comp.{Comp}
use Rattle.stream_law.specs.declared.graph.Edge.{Edge}
use Rattle.stream_law.specs.declared.graph.Pipe.{Pipe}
use Rattle.stream_law.specs.declared.graph.Join.{Join as Joined}
use Rattle.stream_law.specs.declared.graph.Graph.{Graph}
use Rattle.stream_law.specs.State.{FwState, HeapView}
use Rattle.stream_law.specs.Order.{is_among}
use Rattle.stream_law.specs.Ways.{comp_of, edge_of, splits}
use Rattle.stream_law.proofs.Members.{IsIn, find-in, in-each}
use Rattle.mbox_link.specs.Step.{fresh}
use Rattle.tplg_plan.specs.declared.plans.Plan.{Plan}
use Rattle.tplg_plan.specs.declared.plans.ControlKind.{ControlKind}
use Rattle.tplg_plan.specs.declared.plans.ControlKind.TheVariants.{Volume, Choice, Blob, Masks}
use Rattle.tplg_plan.specs.Sound.{IsSound, pipe_at}
use Rattle.host_widgets.specs.declared.kept.ControlRec.{ControlRec}
use Rattle.host_widgets.specs.declared.kept.Record.{Record}
use Rattle.host_widgets.specs.ActLists.{bring_up, control_acts, control_acts_by}
use Rattle.host_widgets.specs.Acts.{widget_ids}
use Rattle.host_widgets.specs.Expected.{stream_view}
use Rattle.host_widgets.specs.Groups.{finish_ids, is_control_of, making_lists}
use Rattle.host_widgets.specs.Host.{AreControls}
use Rattle.host_widgets.specs.HostActs.{Act, Make, Join, Part, Finish}
use Rattle.host_widgets.specs.Indices.{index_at, named_index, pipe_indices}
use Rattle.host_widgets.specs.Kept.{controls_of, first_record}
use Rattle.host_widgets.specs.Need.{HasAt, HasBrought, end_index, is_joined_to}
use Rattle.host_widgets.specs.StateOf.{empty_rings, state_by}
use Rattle.host_widgets.specs.There.{There, booted, there_in}
use Rattle.host_widgets.specs.UpState.{UpState}
use Rattle.host_widgets.specs.ViewOf.{graph_by, record_view, set_comp}
use Rattle.mbox_link.specs.BlobParts.{part_numbers}
use Rattle.host_widgets.proofs.ControlLists.{Pair, Takes, all-take}
use Rattle.host_widgets.proofs.Effects.{FollowAll, effects}
use Rattle.host_widgets.proofs.Makes.{free-fits, makes-own}
use Rattle.host_widgets.proofs.Joined.{all-joined, edge_with}
use Rattle.host_widgets.proofs.ManyEffects.{AllFree, Brings}
use Rattle.host_widgets.proofs.NamedIds.{each-pipe, pipeline-found}
use Rattle.host_widgets.proofs.QuietStates.{IsQuiet}
use Rattle.host_widgets.proofs.RestedRecords.{bare_of, bare-serves, empty-stage}
use Rattle.host_widgets.proofs.StagedParts.{ArePartsWhole, control-whole, none-loose}
use Rattle.host_widgets.proofs.StagesTaken.{Builds, Goes, HasEndedQuiet, goes, mapped-on, rest-on, rest-own}
use Rattle.host_widgets.proofs.StageSame.{at-same}
use Rattle.host_widgets.proofs.Sublists.{all-filter, low-range, range-low, range-once}
use Rattle.host_widgets.proofs.UpContext.{JoinEnds, join-ends, whole-once}
use Rattle.host_widgets.proofs.UpMaking.{AreTheirs, IsMidway, lists-lead, lists-loose, with_these}
use Rattle.host_widgets.proofs.UpStages.{IsStage, Stage, at_stage, pipe_as}
use Rattle.host_widgets.proofs.Wholes.{bring-up-lists, comp-in, edge-in, widget-in}

-- ---- all of a plan is of its pipelines

module _ (plan : Plan) (sound : IsSound plan) where
  abbrev g : Graph
  g = plan.graph

  abbrev every : List ℕ
  every = pipe_indices g

  pub at-any : (id : ℕ) → HasAt (is_among every) (index_at g id)
  at-any id = by (comp_of g id) refl (edge_of g id) refl
    where
      by : (c : Option Comp) → comp_of g id ≡ c → (e : Option Edge) → edge_of g id ≡ e → HasAt (is_among every) (named_index c e)
      by (Some c) is e at = comp-in plan sound c (find-in (λ (x : Comp). x.id == id) g.comps c is).0
      by None is (Some e) at = edge-in plan sound e (find-in (λ (x : Edge). x.buffer == id) g.edges e at).0
      by None is None at = tt

  at-end : (o : Option ℕ) → HasAt (is_among every) (end_index g o)
  at-end None = tt
  at-end (Some id) = at-any id

  pub all-brought : HasBrought g (is_among every)
  all-brought = record {
    schedulers = in-each (λ (p : Pipe). is_among every p.index ≡ true → HasAt (is_among every) (index_at g p.sched)) g.pipes (λ p here is. at-any p.sched);
    ends = in-each (λ (e : Edge). is_among every e.pipe ≡ true → HasAt (is_among every) (end_index g e.source) × HasAt (is_among every) (end_index g e.sink)) g.edges (λ e here is. (at-end e.source, at-end e.sink));
    split = in-each (λ (c : Comp). splits c.kind ≡ true → is_among every c.pipe ≡ true → (x : ℕ) → is_joined_to g c.id x ≡ true → HasAt (is_among every) (index_at g x)) g.comps (λ c here kind is x to. at-any x);
  }

  low-id : (id : ℕ) → IsIn id (widget_ids plan) → id < length plan.widgets
  low-id id here = let low : id < 0 + length plan.widgets = range-low 0 (length plan.widgets) id here in omega (arith, low)

  pub all-theirs : AreTheirs plan every (widget_ids plan) g.joins
  all-theirs = record {
    low = λ id here. (low-id id here, widget-in plan sound id (low-id id here));
    all = λ id low is. low-range 0 (length plan.widgets) id (omega arith) (omega (arith, low));
    once = range-once 0 (length plan.widgets);
    join = λ j here.
        (let e : JoinEnds plan sound j = join-ends plan sound j here in
        record { whole = here; index = e.edge.pipe; at = e.at; among = edge-in plan sound e.edge (find-in (λ (x : Edge). x.buffer == e.edge.buffer) g.edges e.edge e.found).0 });
    joins_once = whole-once plan sound;
  }

  -- ---- the stage at which all is there

  all-kept : {X : Type 0} (xs : List X) → filter (λ (x : X). true) xs ≡ xs
  all-kept [] = refl
  all-kept (x ∷ xs) = ap (λ (ys : List _). x ∷ ys) (all-kept xs)

  pipes-whole : (ps : List Pipe) → AllByRecursion (λ (p : Pipe). pipe_at g p.id ≡ Some p) ps → map (pipe_as (λ id. true)) ps ≡ ps
  pipes-whole [] found = refl
  pipes-whole (p ∷ ps) found = λ i. record { id = p.id; index = p.index; sched = p.sched; period = p.period; complete = sym (pipeline-found plan sound p.id p found.0).is.complete i } ∷ pipes-whole ps found.1 i

  abbrev pub whole_stage : Stage
  whole_stage = record { has = λ id. true; joins = g.joins; todo = []; done = λ id. true }

  pub whole-stands : (kept : Record) (h : HeapView) → at_stage plan kept whole_stage h ≡ record { heap = h; graph = graph_by plan kept; streams = (record_view plan kept).streams }
  whole-stands kept h = λ i. record {
    heap = h;
    graph = record { comps = map (set_comp plan kept) (all-kept g.comps i); edges = (ap (map (edge_with g.joins)) (all-kept g.edges) ∙ all-joined plan sound) i; pipes = (ap (map (pipe_as (λ id. true))) (all-kept g.pipes) ∙ pipes-whole g.pipes (each-pipe plan sound)) i; joins = g.joins };
    streams = map stream_view (all-kept (zip plan.streams kept.streams) i);
  }

-- ---- the list

module _ (plan : Plan) (heap : ℕ) (kept : Record) (sound : IsSound plan) (are : AreControls plan.controls kept.controls) where
  abbrev all : List ℕ
  all = pipe_indices plan.graph

  -- nothing is there, and each stream is closed
  abbrev start : UpState
  start = record { kept = bare_of plan kept; up = []; there = booted heap }

  abbrev list : List Act
  list = making_lists plan kept (widget_ids plan) plan.graph.joins all

  abbrev pairs : List Pair
  pairs = filter (is_control_of plan all) (controls_of plan kept)

  abbrev rest : List Act
  rest = map (λ (j : Joined). Join j.source j.sink) plan.graph.joins ++ (flat_map control_acts pairs ++ map Finish (finish_ids plan.graph all))

  all-taken : AllByRecursion (λ (p : Pair). Takes p.0.kind p.1) pairs
  all-taken = all-filter (λ (p : Pair). Takes p.0.kind p.1) (is_control_of plan all) (controls_of plan kept) (all-take plan.graph plan.controls kept.controls sound.live are)

  abbrev last : Stage
  last = with_these plan sound start [] all (bare-serves plan kept are) (λ i here. refl) (all-brought plan sound) (widget_ids plan) plan.graph.joins (all-theirs plan sound)

  abbrev Last : There → Type 0
  Last t = IsStage plan (bare_of plan kept) last t

  -- ---- what is so of its acts

  all-build : AllByRecursion (Builds plan) list
  all-build =
      mapped-on (λ (xs : List Act). AllByRecursion (Builds plan) xs) Make (widget_ids plan) (λ id here acts then. (low-id plan sound id here, then)) rest
      (rest-on (λ (xs : List Act). AllByRecursion (Builds plan) xs) tt (λ source sink acts then. (tt, then)) control (λ id acts then. (tt, then)) plan.graph.joins pairs (finish_ids plan.graph all) all-taken)
    where
      control : (id : ℕ) (kind : ControlKind) (r : ControlRec) → Takes kind r → (acts : List Act) → AllByRecursion (Builds plan) acts → AllByRecursion (Builds plan) (control_acts_by id kind r ++ acts)
      control id (Volume min max channels lowest step mute) r takes acts then = (tt, then)
      control id (Choice items) r takes acts then = (tt, then)
      control id (Masks min max channels) r takes acts then = (tt, then)
      control id (Blob most initial) r takes acts then = mapped-on (λ (xs : List Act). AllByRecursion (Builds plan) xs) (Part id r.blob) (part_numbers r.blob) (λ k here xs then. (tt, then)) acts then

  all-whole : ArePartsWhole list
  all-whole =
      mapped-on ArePartsWhole Make (widget_ids plan) (λ id here acts then. then) rest
      (rest-on ArePartsWhole tt (λ source sink acts then. then) control-whole (λ id acts then. then) plan.graph.joins pairs (finish_ids plan.graph all) all-taken)

  fresh-quiet : IsQuiet (fresh heap)
  unfolding IsDistinct
  fresh-quiet = record { silent = refl; rings = refl; distinct = tt; histories = refl; clock = refl }

  it-goes : Goes plan sound heap kept start (IsMidway plan (bare_of plan kept) [] all) Last (fresh heap) list
  it-goes =
      goes plan sound heap kept start (IsMidway plan (bare_of plan kept) [] all) Last list (booted heap) (fresh heap) refl
      (lists-loose plan sound start [] all (bare-serves plan kept are) (λ i here. refl) (all-brought plan sound) (widget_ids plan) plan.graph.joins (all-theirs plan sound) (fresh heap))
      fresh-quiet all-whole (none-loose list) all-build
      (makes-own plan heap sound kept (length plan.widgets) 0 (fresh heap) (omega arith) refl (omega arith) rest (rest-own plan sound heap kept plan.graph.joins pairs (finish_ids plan.graph all) all-taken))
      (lists-lead plan sound start [] all (bare-serves plan kept are) (λ i here. refl) (all-brought plan sound) (widget_ids plan) plan.graph.joins (all-theirs plan sound) (empty-stage plan (bare_of plan kept) heap))

  -- ---- the state then

  last-is : (f : FwState) → HasEndedQuiet plan sound heap kept start (IsMidway plan (bare_of plan kept) [] all) Last f → f ≡ state_by plan kept heap 0
  last-is f ended = λ i. record {
    heap = ended.pieces i;
    clock = ended.quiet.clock i;
    graph = (there i).graph;
    streams = (there i).streams;
    rings = (ended.quiet.rings ∙ ap (λ (t : There). empty_rings t.graph) there) i;
    histories = ended.quiet.histories i;
    staging = ended.staging i;
  }
    where
      there : there_in f ≡ record { heap = f.heap; graph = graph_by plan kept; streams = (record_view plan (first_record plan)).streams }
      there =
          ended.there.is
          ∙ at-same plan sound (bare_of plan kept) last (whole_stage plan sound) (λ id low. widget-in plan sound id low) (λ c here has. refl) refl (λ p here has. refl) f.heap
          ∙ whole-stands plan sound (bare_of plan kept) f.heap

  pub brings : Brings plan heap kept
  brings = record {
    follow = subst (FollowAll plan heap kept (fresh heap)) (sym same) it-goes.follow;
    fits = λ free. free-fits plan heap kept (length plan.widgets) 0 rest (omega arith) (omega arith) (subst (AllFree plan heap kept) same free);
    state = λ free. ap (λ (acts : List Act). effects plan acts (fresh heap)) same ∙ last-is (effects plan list (fresh heap)) (it-goes.ends (subst (AllFree plan heap kept) same free));
  }
    where
      same : bring_up plan kept ≡ list
      same = bring-up-lists plan sound kept
