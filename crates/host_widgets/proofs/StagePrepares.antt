-- A firmware at a stage at which all is up that a stream needs takes its parameters, as the record has them.
use Rattle.std.proofs.Common.{◌≡◌, refl, sym, ap, ◌∙◌, ℕ, List, [], map, filter, Bool, true, false, not, inl, inr, ◌==◌, ◌&&◌, ◌||◌, Some, None, Ok, Err, is_some}
use Rattle.std.specs.Prelude.{Option, Result, ℤ, find, if◌then◌else◌}
use Rattle.std.specs.Option.{option_map, option_map_or}
use Rattle.std.specs.List.{zip, flat_map, list_any}
use Rattle.std.proofs.lemmas.Bool.{true≢false, false≢true, eqb-true, or_left, false_from_ne_true}
use Rattle.sof_base.specs.declared.format.Params.{Params}
use Rattle.stream_law.specs.declared.graph.Kind.{Kind}
use Rattle.stream_law.specs.declared.graph.Comp.{Comp}
use Rattle.stream_law.specs.declared.graph.Join.{Join}
use Rattle.stream_law.specs.declared.graph.Graph.{Graph}
use Rattle.stream_law.specs.declared.stream.Phase.TheVariants as phases
use Rattle.stream_law.specs.declared.stream.StreamView.{StreamView}
use Rattle.stream_law.specs.State.{FwState, HeapView}
use Rattle.stream_law.specs.Joins.{crosses}
use Rattle.stream_law.specs.Order.{is_among}
use Rattle.stream_law.specs.Seen.{seen}
use Rattle.stream_law.specs.Ways.{comp_of, is_capture, touch, same_shape, agree, is_live_phase}
use Rattle.stream_law.proofs.Members.{IsIn, in-each, in-all, any-in, in-any, in-kept, kept-in}
use Rattle.mbox_link.specs.Step.{is_rate, is_used, kind_at, has_kind, goes, is_stream_phase, is_way_ready, pcm_params, set_stream, no_device, invalid}
use Rattle.tplg_plan.specs.declared.plans.Plan.{Plan}
use Rattle.tplg_plan.specs.Sound.{IsSound}
use Rattle.host_widgets.specs.Acts.{direction_by, direction_of}
use Rattle.host_widgets.specs.declared.kept.Record.{Record}
use Rattle.host_widgets.specs.Expected.{stream_view}
use Rattle.host_widgets.specs.Host.{conflicts}
use Rattle.host_widgets.specs.HostActs.{Prepare, prepared_stream}
use Rattle.host_widgets.specs.Kept.{with_stream}
use Rattle.host_widgets.specs.StreamStands.{takes_params}
use Rattle.host_widgets.proofs.LookedUp.{any-found, each-found}
use Rattle.host_widgets.proofs.OthersAgree.{is_other, agrees-exactly}
use Rattle.host_widgets.proofs.StreamAnswers.{rests}
use Rattle.host_widgets.proofs.StreamPlaces.{streams-ascend}
use Rattle.host_widgets.specs.There.{There, there_after, row_left, silent_state}
use Rattle.host_widgets.specs.Need.{HasBrought, IsEnough}
use Rattle.host_widgets.specs.Up.{is_join_at, buffer_joins}
use Rattle.host_widgets.proofs.Needs.{in-map, flat-in, in-among, has-at, host-on}
use Rattle.host_widgets.proofs.Between.{IsBetween, same-bools, comp-named}
use Rattle.host_widgets.proofs.BetweenTouches.{touch-stays}
use Rattle.host_widgets.proofs.HostStreams.{IsHostKind, stream-comp}
use Rattle.host_widgets.proofs.RowsTold.{told, left-told}
use Rattle.host_widgets.proofs.StageBetween.{comp-index, amid-has, comp-at, up-between}
use Rattle.host_widgets.proofs.StageJoins.{used-comp}
use Rattle.host_widgets.proofs.StageMakes.{zip-ascends}
use Rattle.host_widgets.proofs.StageReady.{way-ready, stage-apart}
use Rattle.host_widgets.proofs.StageStays.{streams-agree, from-map}
use Rattle.host_widgets.proofs.StageStreams.{changed_one, other-stays, streams-changed, stream-at}
use Rattle.host_widgets.proofs.Sublists.{filter-all}
use Rattle.host_widgets.proofs.UpContext.{IsServing, join-at, ends-up}
use Rattle.host_widgets.proofs.UpStages.{Stage, StreamPair, stage_graph, stage_streams, at_stage, index_of_id, is_join_of, up_stage, HasUp, IsAmid}
use Rattle.host_widgets.specs.Indices.{index_at, join_index}

-- ---- the stage at which all that is up is there

module _ (plan : Plan) (sound : IsSound plan) (up : List ℕ) where
  -- each join is of what is up
  pub up-placed : (j : Join) → IsIn j (up_stage plan up).joins → (i : ℕ) × (join_index plan.graph j ≡ Some i) × (is_among up i ≡ true)
  up-placed j there =
      let r = flat-in (buffer_joins plan.graph) up j there in
      (r.0, join-at plan sound r.0 j (kept-in (is_join_at plan.graph r.0) plan.graph.joins j r.2).1, in-among up r.0 r.1)

  pub up-amid : HasBrought plan.graph (is_among up) → IsAmid plan up [] (up_stage plan up)
  up-amid brought = record {
    there = λ id is. is;
    only = λ id is. or_left (is_among up (index_of_id plan id)) (is_among [] (index_of_id plan id)) is;
    joins = λ j there.
        (let r = flat-in (buffer_joins plan.graph) up j there in
        let k = kept-in (is_join_at plan.graph r.0) plan.graph.joins j r.2 in
        let p = up-placed j there in
        let e = ends-up plan sound up brought j k.0 p.0 p.1 p.2 in
        (k.0, e.0, e.1));
    rest = filter-all (is_join_of plan.graph up) (flat_map (buffer_joins plan.graph) up) (in-each (λ (j : Join). is_join_of plan.graph up j ≡ true) (flat_map (buffer_joins plan.graph) up) (λ j there.
        let p = up-placed j there in ap (λ (o : Option ℕ). option_map_or (is_among up) o false) p.1 ∙ p.2));
    todo = λ p none. absurd none;
    done = λ id is. refl;
  }

  pub up-has : HasBrought plan.graph (is_among up) → HasUp plan up (up_stage plan up)
  up-has brought = amid-has plan sound up [] (up_stage plan up) (up-amid brought)

-- ---- streams by their hosts

module _ (plan : Plan) (sound : IsSound plan) (kept : Record) where
  -- each stream is found by its host
  pub own-found : (q : StreamPair) → IsIn q (zip plan.streams kept.streams) → find (λ (x : StreamPair). x.0.host == q.0.host) (zip plan.streams kept.streams) ≡ Some q
  own-found q there =
      in-all (λ (x : StreamPair). find (λ (y : StreamPair). y.0.host == x.0.host) (zip plan.streams kept.streams) ≡ Some x) (zip plan.streams kept.streams) q
      (each-found (λ (x : StreamPair). x.0.host) (zip plan.streams kept.streams) (zip-ascends plan.streams kept.streams (streams-ascend plan sound))) there

  -- so it is the only one of its host
  pub one-of-host : (host : ℕ) (p : StreamPair) → find (λ (q : StreamPair). q.0.host == host) (zip plan.streams kept.streams) ≡ Some p → (q : StreamPair) → IsIn q (zip plan.streams kept.streams) → (q.0.host == host) ≡ true → q ≡ p
  one-of-host host p found q there e = cc (sym (own-found q there) ∙ ap (λ (h : ℕ). find (λ (y : StreamPair). y.0.host == h) (zip plan.streams kept.streams)) (eqb-true q.0.host host e) ∙ found)

-- a host goes as its kind says
goes-host : (kind : Kind) → IsHostKind kind → goes kind (if is_capture kind then 1 else 0) ≡ true
goes-host kind (inl e) = ap (λ (x : Kind). goes x (if is_capture x then 1 else 0)) e
goes-host kind (inr e) = ap (λ (x : Kind). goes x (if is_capture x then 1 else 0)) e

-- a stream that has no parameters conflicts with none
no-third : (a b c d : Bool) → c ≡ false → (a && b && c && d) ≡ false
no-third true true c d e = ap (λ (x : Bool). true && true && x && d) e
no-third true false c d e = refl
no-third false b c d e = refl

third-true : (a b c d : Bool) → (a && b && c && d) ≡ true → c ≡ true
third-true a b true d is = refl
third-true a b false d is = absurd (false≢true (sym (no-third a b false d refl) ∙ is))

-- where none passes, a member does not
pub none-one : {X : Type 0} (p : X → Bool) (xs : List X) (x : X) → list_any p xs ≡ false → IsIn x xs → p x ≡ false
none-one p xs x none there = false_from_ne_true (p x) (λ is. true≢false (sym (in-any p xs x there is) ∙ none))

-- ---- parameters at a stage

-- All that the stream of this host needs is up, and each join is of what is up.
module _ (plan : Plan) (sound : IsSound plan) (kept : Record) (up : List ℕ) (st : Stage) (over : HasUp plan up st) (placed : (j : Join) → IsIn j st.joins → (i : ℕ) × (join_index plan.graph j ≡ Some i) × (is_among up i ≡ true))
    (h : HeapView) (host : ℕ) (enough : IsEnough plan.graph host (is_among up)) (comp : Comp) (at_host : comp_of plan.graph host ≡ Some comp) (kind : IsHostKind comp.kind) (params : Params) where
  abbrev k : Graph
  k = stage_graph plan kept st

  abbrev given : StreamView → StreamView
  given = set_stream host phases.Prepared (Some params)

  between : IsBetween plan.graph up (stage_graph plan kept st)
  between = up-between plan sound kept up st over

  -- the host is there
  pub host-has : st.has host ≡ true
  host-has =
      over.there host (ap (is_among up) (comp-index plan sound host comp at_host)
      ∙ has-at (is_among up) (index_at plan.graph host) comp.pipe (comp-named plan sound up host comp at_host) (enough.way host (host-on plan.graph host)))

  -- the row, whatever streams are there: this one does not move, and its parameters are refused exactly where streams would not agree
  module _ (ss : List StreamView) (rate : is_rate params.rate ≡ true) (still : is_stream_phase is_live_phase (option_map (λ (s : StreamView). s.phase) (find (λ (s : StreamView). s.host == host) ss)) ≡ false) where
    abbrev t : There
    t = record { heap = h; graph = k; streams = ss }

    abbrev left : FwState
    left = seen (record { graph = k; streams = map given ss }) None (silent_state t)

    abbrev they_agree : Bool
    they_agree = agree (record { graph = k; streams = map given ss })

    used : is_used k host ≡ true
    used = used-comp plan sound kept st over.whole host comp at_host host-has

    side : has_kind (λ (x : Kind). goes x (direction_of plan host)) (kind_at k host) ≡ true
    side =
        ap (λ (o : Option Comp). has_kind (λ (x : Kind). goes x (direction_of plan host)) (option_map (λ (c : Comp). c.kind) o)) (comp-at plan sound kept st host comp at_host host-has)
        ∙ ap (λ (o : Option Comp). goes comp.kind (direction_by o)) at_host
        ∙ goes-host comp.kind kind

    ready : is_way_ready k host ≡ true
    ready = way-ready plan sound kept up st over host enough comp at_host kind

    apart : crosses k ≡ false
    apart = stage-apart plan sound kept up st over enough.closed placed

    pub params-row : pcm_params (silent_state (record { heap = h; graph = stage_graph plan kept st; streams = ss })) host (direction_of plan host) params ≡ (if not they_agree then Err invalid else Ok left)
    params-row = λ i. if not (used i) then Err no_device else if not (side i) || still i || not (rate i) || not (ready i) || apart i || not they_agree then Err invalid else Ok left

    pub prepare-row-told : agree (record { graph = stage_graph plan kept st; streams = map (set_stream host phases.Prepared (Some params)) ss }) ≡ true →
        told (pcm_params (silent_state (record { heap = h; graph = stage_graph plan kept st; streams = ss })) host (direction_of plan host) params) ≡ Ok (record { heap = h; graph = stage_graph plan kept st; streams = map (set_stream host phases.Prepared (Some params)) ss })
    prepare-row-told agrees = ap told (params-row ∙ ap (λ (b : Bool). if not b then Err invalid else Ok left) agrees)

    pub prepare-row : agree (record { graph = stage_graph plan kept st; streams = map (set_stream host phases.Prepared (Some params)) ss }) ≡ true →
        there_after plan (Prepare host params) (record { heap = h; graph = stage_graph plan kept st; streams = ss }) ≡ record { heap = h; graph = stage_graph plan kept st; streams = map (set_stream host phases.Prepared (Some params)) ss }
    prepare-row agrees = ap (row_left t) (params-row ∙ ap (λ (b : Bool). if not b then Err invalid else Ok left) agrees)

  -- ---- as the record has them

  module _ (serving : IsServing plan kept up) (p : StreamPair) (found : find (λ (q : StreamPair). q.0.host == host) (zip plan.streams kept.streams) ≡ Some p)
      (takes : takes_params p.1.found ≡ true) (rate : is_rate params.rate ≡ true) where
    abbrev pairs : List StreamPair
    pairs = zip plan.streams kept.streams

    abbrev streams : List StreamView
    streams = stage_streams plan kept st

    shown : find (λ (s : StreamView). s.host == host) (stage_streams plan kept st) ≡ Some (stream_view p)
    shown = stream-at plan sound kept st over.whole h host p found host-has

    -- it touches others as in the whole, so it conflicts with the same
    one-same : (q : StreamPair) → IsIn q pairs → is_other k host params (stream_view q) ≡ conflicts plan host params q
    one-same q there = by (is_some q.1.params) refl
      where
        by : (b : Bool) → is_some q.1.params ≡ b → is_other k host params (stream_view q) ≡ conflicts plan host params q
        by true some =
            let same : touch k q.0.host host ≡ touch plan.graph q.0.host host = touch-stays plan sound up k between q.0.host host (serving.held q there some) enough in
            ap (λ (b : Bool). not (q.0.host == host) && b && is_some q.1.params && not (same_shape q.1.params (Some params))) same
        by false none =
            no-third (not (q.0.host == host)) (touch k q.0.host host) (is_some q.1.params) (not (same_shape q.1.params (Some params))) none
            ∙ sym (no-third (not (q.0.host == host)) (touch plan.graph q.0.host host) (is_some q.1.params) (not (same_shape q.1.params (Some params))) none)

    -- a stream with parameters is there
    has-held : (q : StreamPair) → IsIn q pairs → is_some q.1.params ≡ true → st.has q.0.host ≡ true
    has-held q there some =
        let c = stream-comp plan sound kept q there in
        over.there q.0.host (ap (is_among up) (comp-index plan sound q.0.host c.0 c.1)
        ∙ has-at (is_among up) (index_at plan.graph q.0.host) c.0.pipe (comp-named plan sound up q.0.host c.0 c.1) ((serving.held q there some).way q.0.host (host-on plan.graph q.0.host)))

    others-are : list_any (is_other k host params) streams ≡ list_any (conflicts plan host params) pairs
    others-are = same-bools (list_any (is_other k host params) streams) (list_any (conflicts plan host params) pairs) one two
      where
        one : list_any (is_other k host params) streams ≡ true → list_any (conflicts plan host params) pairs ≡ true
        one some =
            let a = any-in (is_other k host params) streams some in
            let r = from-map stream_view (filter (λ (q : StreamPair). st.has q.0.host) pairs) a.0 a.1 in
            let there = (kept-in (λ (q : StreamPair). st.has q.0.host) pairs r.0 r.1).0 in
            in-any (conflicts plan host params) pairs r.0 there (sym (one-same r.0 there) ∙ ap (is_other k host params) (sym r.2) ∙ a.2)

        two : list_any (conflicts plan host params) pairs ≡ true → list_any (is_other k host params) streams ≡ true
        two some =
            let a = any-in (conflicts plan host params) pairs some in
            let has_some = third-true (not (a.0.0.host == host)) (touch plan.graph a.0.0.host host) (is_some a.0.1.params) (not (same_shape a.0.1.params (Some params))) a.2 in
            in-any (is_other k host params) streams (stream_view a.0)
            (in-map stream_view (filter (λ (q : StreamPair). st.has q.0.host) pairs) a.0 (in-kept (λ (q : StreamPair). st.has q.0.host) pairs a.0 a.1 (has-held a.0 a.1 has_some))) (one-same a.0 a.1 ∙ a.2)

    still-now : is_stream_phase is_live_phase (option_map (λ (s : StreamView). s.phase) (find (λ (s : StreamView). s.host == host) (stage_streams plan kept st))) ≡ false
    still-now = ap (λ (o : Option StreamView). is_stream_phase is_live_phase (option_map (λ (s : StreamView). s.phase) o)) shown ∙ rests p.1.found takes

    agrees-so : agree (record { graph = stage_graph plan kept st; streams = map (set_stream host phases.Prepared (Some params)) (stage_streams plan kept st) }) ≡ not (list_any (conflicts plan host params) (zip plan.streams kept.streams))
    agrees-so =
        agrees-exactly k host params (stage_streams plan kept st) (any-found (λ (s : StreamView). s.host == host) (stage_streams plan kept st) (stream_view p) shown)
        (streams-agree plan sound kept up serving.held serving.shapes (λ (q : StreamPair). st.has q.0.host) k between)
        ∙ ap not others-are

    -- what is shown of each stream then
    one-shown : (q : StreamPair) → IsIn q pairs → stream_view (changed_one host (prepared_stream params) q) ≡ given (stream_view q)
    one-shown q there = other-stays host (prepared_stream params) given q
        (λ e. ap (λ (b : Bool). if b then record { host = q.0.host; phase = phases.Prepared; params = Some params } else stream_view q) (sym e))
        (λ e. ap (λ (b : Bool). if b then record { host = q.0.host; phase = phases.Prepared; params = Some params } else stream_view q) e)

    -- refused where they conflict with those of another stream in the record, and else taken
    abbrev pub prepare_said : Bool → Result There ℤ
    prepare_said b = if b then Err invalid else Ok (at_stage plan (with_stream plan host (prepared_stream params) kept) st h)

    pub prepare-told : told (pcm_params (silent_state (at_stage plan kept st h)) host (direction_of plan host) params) ≡ prepare_said (list_any (conflicts plan host params) (zip plan.streams kept.streams))
    prepare-told = ap told (params-row streams rate still-now) ∙ ap (λ (b : Bool). told (if not b then Err invalid else Ok (left streams rate still-now))) agrees-so ∙ by (list_any (conflicts plan host params) pairs)
      where
        by : (b : Bool) → told (if not (not b) then Err invalid else Ok (left streams rate still-now)) ≡ prepare_said b
        by true = refl
        by false = λ i. Ok (record { heap = h; graph = k; streams = sym (streams-changed plan kept host (prepared_stream params) given one-shown st) i })

    pub prepare-is : list_any (conflicts plan host params) (zip plan.streams kept.streams) ≡ false → there_after plan (Prepare host params) (at_stage plan kept st h) ≡ at_stage plan (with_stream plan host (prepared_stream params) kept) st h
    prepare-is free =
        left-told (at_stage plan kept st h) (pcm_params (silent_state (at_stage plan kept st h)) host (direction_of plan host) params) (at_stage plan (with_stream plan host (prepared_stream params) kept) st h)
        (prepare-told ∙ ap prepare_said free)
