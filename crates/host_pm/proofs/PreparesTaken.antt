-- A firmware that was brought up takes the parameters of all streams that are prepared, and then shows the record; no audio was moved.
use Rattle.std.proofs.Common.{◌≡◌, refl, sym, ap, subst, ◌∙◌, ℕ, List, [], ◌∷◌, ◌++◌, map, zip, Bool, true, false, not, ◌==◌, Some, None, Ok}
use Rattle.std.specs.Prelude.{Option, if◌then◌else◌}
use Rattle.std.specs.List.{AllByRecursion, IsDistinct, list_any, flat_map}
use Rattle.std.proofs.lemmas.Bool.{true≢false}
use Rattle.sof_base.specs.declared.errno.Errno.{Errno}
use Rattle.sof_base.specs.declared.format.Params.{Params}
use Rattle.stream_law.specs.declared.graph.Edge.{Edge}
use Rattle.stream_law.specs.declared.stream.StreamView.{StreamView}
use Rattle.stream_law.specs.Order.{is_among}
use Rattle.stream_law.specs.State.{FwState, RingView}
use Rattle.stream_law.specs.Ways.{is_live_phase}
use Rattle.stream_law.proofs.Placing.{Ascends-distinct}
use Rattle.ipc3_model.specs.declared.message.Message.{Message}
use Rattle.mbox_link.specs.Step.{invalid, row}
use Rattle.tplg_plan.specs.declared.plans.Plan.{Plan}
use Rattle.tplg_plan.specs.declared.plans.StreamPlan.{StreamPlan}
use Rattle.tplg_plan.specs.Sound.{IsSound}
use Rattle.host_widgets.specs.declared.kept.Found.TheVariants as founds
use Rattle.host_widgets.specs.declared.kept.StreamRec.{StreamRec}
use Rattle.host_widgets.specs.declared.kept.Record.{Record}
use Rattle.host_widgets.specs.ActLists.{prepare_acts}
use Rattle.host_widgets.specs.ActMessages.{act_message}
use Rattle.host_widgets.specs.Expected.{loaded_heap, phase_of, stream_view}
use Rattle.host_widgets.specs.Host.{IsRecordOf, errno}
use Rattle.host_widgets.specs.HostActs.{Act, Prepare}
use Rattle.host_widgets.specs.HostRecord.{closed}
use Rattle.host_widgets.specs.Indices.{index_at, pipe_indices}
use Rattle.host_widgets.specs.Need.{IsEnough}
use Rattle.host_widgets.specs.OneAct.{own}
use Rattle.host_widgets.specs.StateOf.{empty_rings, state_by}
use Rattle.host_widgets.specs.There.{There, there_after, there_in}
use Rattle.host_widgets.specs.ViewOf.{graph_by, record_view}
use Rattle.host_widgets.proofs.Between.{comp-named, named-up}
use Rattle.host_widgets.proofs.Brings.{all-brought, all-theirs, at-any, whole-stands, whole_stage}
use Rattle.host_widgets.proofs.BuildingActs.{Leaves}
use Rattle.host_widgets.proofs.Effects.{FollowAll, effect, effects}
use Rattle.host_widgets.proofs.HostStreams.{stream-comp}
use Rattle.host_widgets.proofs.ManyEffects.{AllFree}
use Rattle.host_widgets.proofs.Needs.{has-at}
use Rattle.host_widgets.proofs.QuietStates.{IsQuiet, effect-quiet, quiet-still, row-effect}
use Rattle.host_widgets.proofs.RestedRecords.{bare_of}
use Rattle.host_widgets.proofs.RowsTold.{told}
use Rattle.host_widgets.proofs.SilentTicks.{at}
use Rattle.host_widgets.proofs.StagesTaken.{told-ok}
use Rattle.host_widgets.proofs.UpContext.{IsServing}
use Rattle.host_widgets.proofs.UpExchanges.{SaysSo}
use Rattle.host_widgets.proofs.UpStages.{StreamPair, at_stage}
use Rattle.host_pm.proofs.ParamsAgain.{IsResting, at_part, all-given, fits-so, kept-same, none-conflicts, own-prepared, part-by-part-from, prepared-there, rest-at}

-- no stream moves where each is closed
none-live : (ss : List StreamPlan) → list_any (λ (s : StreamView). is_live_phase s.phase) (map stream_view (zip ss (map (λ (x : StreamPlan). closed) ss))) ≡ false
none-live [] = refl
none-live (s ∷ ss) = none-live ss

-- the rings are those of the graph's buffers
pub empty-buffers : (es : List Edge) → map (λ (r : RingView). r.buffer) (map (λ (e : Edge). record { buffer = e.buffer; frames = [] }) es) ≡ map (λ (e : Edge). e.buffer) es
empty-buffers [] = refl
empty-buffers (e ∷ es) = λ i. e.buffer ∷ empty-buffers es i

module _ (plan : Plan) (sound : IsSound plan) (heap : ℕ) (kept : Record) (is : IsRecordOf plan kept) (still : list_any (λ (r : StreamRec). is_live_phase (phase_of r.found)) kept.streams ≡ false) where
  abbrev all : List ℕ
  all = pipe_indices plan.graph

  abbrev prepares : List Act
  prepares = flat_map prepare_acts (zip plan.streams kept.streams)

  -- ---- all is up

  all-enough : (host : ℕ) → IsEnough plan.graph host (is_among all)
  all-enough host = record { way = λ x on. at-any plan sound x; closed = all-brought plan sound }

  all-serves : IsServing plan kept all
  all-serves = record {
    long = is.streams;
    controls = is.controls;
    shapes = is.shapes;
    brought = all-brought plan sound;
    held = λ p there some. all-enough p.0.host;
    rests = λ p there down.
        (let c = stream-comp plan sound kept p there in
        let here = has-at (is_among all) (index_at plan.graph p.0.host) c.0.pipe (comp-named plan sound all p.0.host c.0 c.1) (at-any plan sound p.0.host) in
        absurd (true≢false (sym (named-up plan sound all p.0.host c.0.pipe (comp-named plan sound all p.0.host c.0 c.1) here) ∙ down)));
  }

  all-rest : IsResting plan kept all (whole_stage plan sound)
  all-rest = record {
    over = record { there = λ id in_up. refl; whole = λ j here. here; joined = λ j i here at in_up. here; done = λ id in_up. refl };
    placed = λ j here. (let t = (all-theirs plan sound).join j here in (t.index, t.at, t.among));
    serves = all-serves;
    record_is = is;
    still = still;
  }

  -- ---- one after another

  -- the firmware follows these acts, which leave the record, and then has all that the record says
  record Goes (f : FwState) (acts : List Act) : Type 0 where
    follow : FollowAll plan heap kept f acts
    free : AllFree plan heap kept acts
    leave : AllByRecursion (Leaves plan kept) acts
    there : there_in (effects plan acts f) ≡ at_stage plan kept (whole_stage plan sound) (loaded_heap plan heap)
    quiet : IsQuiet (effects plan acts f)
    staging : (effects plan acts f).staging ≡ f.staging

  module _ (done rest : List StreamPair) (q : StreamPair) (cut : zip plan.streams kept.streams ≡ done ++ q ∷ rest) (params : Params) (found_is : q.1.found ≡ founds.Prepared) (params_are : q.1.params ≡ Some params)
      (more : (f : FwState) → there_in f ≡ at_part plan sound kept all (whole_stage plan sound) all-rest (loaded_heap plan heap) (done ++ q ∷ []) rest → IsQuiet f → Goes f (flat_map prepare_acts rest))
      (f : FwState) (same : there_in f ≡ at_part plan sound kept all (whole_stage plan sound) all-rest (loaded_heap plan heap) done (q ∷ rest)) (quiet : IsQuiet f) where
    abbrev act : Act
    act = Prepare q.0.host params

    abbrev m : Message
    m = act_message plan act

    abbrev before : There
    before = at_part plan sound kept all (whole_stage plan sound) all-rest (loaded_heap plan heap) done (q ∷ rest)

    abbrev later : There
    later = at_part plan sound kept all (whole_stage plan sound) all-rest (loaded_heap plan heap) (done ++ q ∷ []) rest

    free-so : own plan heap kept act ≡ None
    free-so = ap (λ (b : Bool). if b then Some (errno invalid) else None) (none-conflicts plan sound kept all (whole_stage plan sound) all-rest done rest q cut params found_is params_are)

    taken : (g : FwState) → there_in g ≡ before → (row g m ≡ Ok (effect m g)) × (there_in (effect m g) ≡ later)
    taken g at_before =
        let said : told (row g m) ≡ Ok (there_after plan act before) = subst (λ (o : Option Errno). SaysSo plan (record { kept = kept; up = all; there = before }) act o (told (row g m))) free-so
        (own-prepared plan sound kept all (whole_stage plan sound) all-rest done rest q cut params found_is params_are (loaded_heap plan heap) g at_before) in
        let r = told-ok (row g m) (there_after plan act before) said in
        let e : effect m g ≡ r.0 = row-effect m g r.0 tt r.1 in
        (r.1 ∙ (λ i. Ok (sym e i)), ap there_in e ∙ r.2 ∙ prepared-there plan sound kept all (whole_stage plan sound) all-rest done rest q cut params found_is params_are (loaded_heap plan heap))

    one-goes : Goes f (act ∷ flat_map prepare_acts rest)
    one-goes =
        let now = taken f same in
        let r = more (effect m f) now.1 (effect-quiet f quiet m (effect m f) tt now.0) in
        record {
          follow = (
            record {
              still = quiet-still f quiet;
              message = fits-so plan sound kept all (whole_stage plan sound) all-rest done rest q cut params found_is params_are (loaded_heap plan heap);
              passes = λ free n. (taken (at f n) same).0;
              refuses = λ e refused n. absurd (let no : None ≡ Some e = sym free-so ∙ refused in cc no);
              number = λ e refused. absurd (let no : None ≡ Some e = sym free-so ∙ refused in cc no);
            },
            λ free. r.follow,
          );
          free = (free-so, r.free);
          leave = (kept-same plan sound kept all (whole_stage plan sound) all-rest done rest q cut params found_is params_are, r.leave);
          there = r.there;
          quiet = r.quiet;
          staging = r.staging;
        }

  -- ---- all of them

  begins : there_in (state_by plan kept heap 0) ≡ at_part plan sound kept all (whole_stage plan sound) all-rest (loaded_heap plan heap) [] (zip plan.streams kept.streams)
  begins = sym (whole-stands plan sound (bare_of plan kept) (loaded_heap plan heap)) ∙ rest-at plan sound kept all (whole_stage plan sound) all-rest (loaded_heap plan heap)

  brought-quiet : IsQuiet (state_by plan kept heap 0)
  unfolding IsDistinct
  brought-quiet = record {
    silent = ap not (none-live plan.streams);
    rings = refl;
    distinct = subst (IsDistinct (λ (m n : ℕ). m == n)) (sym (empty-buffers plan.graph.edges)) (Ascends-distinct (λ (e : Edge). e.buffer) plan.graph.edges sound.edges_ascend);
    histories = refl;
    clock = refl;
  }

  all-go : Goes (state_by plan kept heap 0) prepares
  all-go = part-by-part-from plan sound kept all (whole_stage plan sound) all-rest (loaded_heap plan heap)
      (λ (t : There) (acts : List Act). (f : FwState) → there_in f ≡ t → IsQuiet f → Goes f acts)
      (λ f same quiet. record { follow = tt; free = tt; leave = tt; there = same ∙ all-given plan sound kept all (whole_stage plan sound) all-rest (loaded_heap plan heap); quiet = quiet; staging = refl })
      one-goes (state_by plan kept heap 0) begins brought-quiet

  pub prepares-follow : FollowAll plan heap kept (state_by plan kept heap 0) (flat_map prepare_acts (zip plan.streams kept.streams))
  prepares-follow = all-go.follow

  pub prepares-free : AllFree plan heap kept (flat_map prepare_acts (zip plan.streams kept.streams))
  prepares-free = all-go.free

  -- after each that passes the record stays as it is
  pub prepares-leave : AllByRecursion (Leaves plan kept) (flat_map prepare_acts (zip plan.streams kept.streams))
  prepares-leave = all-go.leave

  -- it is as it was brought up, but for the streams
  abbrev pub prepared_state : FwState
  prepared_state = record (state_by plan kept heap 0) { streams = (record_view plan kept).streams }

  pub prepares-end : effects plan (flat_map prepare_acts (zip plan.streams kept.streams)) (state_by plan kept heap 0) ≡ record (state_by plan kept heap 0) { streams = (record_view plan kept).streams }
  prepares-end = λ i. record {
    heap = (there i).heap;
    clock = all-go.quiet.clock i;
    graph = (there i).graph;
    streams = (there i).streams;
    rings = (all-go.quiet.rings ∙ ap (λ (t : There). empty_rings t.graph) there) i;
    histories = all-go.quiet.histories i;
    staging = all-go.staging i;
  }
    where
      there : there_in (effects plan prepares (state_by plan kept heap 0)) ≡ record { heap = loaded_heap plan heap; graph = graph_by plan kept; streams = (record_view plan kept).streams }
      there = all-go.there ∙ whole-stands plan sound kept (loaded_heap plan heap)
