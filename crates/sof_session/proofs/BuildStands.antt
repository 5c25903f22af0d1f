-- What stood stands after a load or a resume: a boot, and moments in which nothing is Live, with the ticks that come between.
use Rattle.std.proofs.Common.{◌≡◌, ◌∙◌, refl, sym, ap, subst, ℕ, min, ◌^◌, ◌-◌, Bool, true, false, not, cond, ◌==◌, List, [], ◌∷◌, ◌++◌, drop, map, zip, Option, Some}
use Rattle.std.specs.Prelude.{IsTrue, find, ◌||◌}
use Rattle.std.specs.List.{list_any}
use Rattle.std.specs.Option.{option_map_or}
use Rattle.std.proofs.lemmas.Bool.{or_parts}
use Rattle.std.proofs.lemmas.List.{append-nil, append_assoc}
use Rattle.sof_base.specs.Ports.{Io, InputView}
use Rattle.stream_law.specs.declared.graph.Edge.{Edge}
use Rattle.stream_law.specs.declared.stream.StreamView.{StreamView}
use Rattle.stream_law.specs.State.{FwState, View, RingView, view_of}
use Rattle.stream_law.specs.Table.{list_of, table, updated}
use Rattle.stream_law.specs.Ways.{agree, buffers, components, is_live_phase}
use Rattle.stream_law.specs.Silence.{is_silent}
use Rattle.stream_law.specs.Move.{next_clock}
use Rattle.stream_law.specs.Past.{Moment, Boot, Cut, Now, Tick, Past, Leads, start, empty_view, new_life, after_now}
use Rattle.stream_law.specs.Stands.{Stands, SameView, ring_frames}
use Rattle.stream_law.specs.Viewing.{StandsBuilding}
use Rattle.stream_law.proofs.Standing.{Stands-boot, Stands-reads, Leads-push}
use Rattle.stream_law.proofs.Building.{Stands-building, Stands-now_building, Stands-built, silent-flows, lying-empty, dead-remembers, silent_ticks, silent_kept, position_kept, bytes_kept}
use Rattle.stream_law.proofs.Rounds.{counts_by, ticked_by}
use Rattle.mbox_link.specs.Calls.{Meaning}
use Rattle.mbox_link.specs.Step.{fresh}
use Rattle.tplg_plan.specs.declared.plans.Plan.{Plan}
use Rattle.tplg_plan.specs.declared.plans.StreamPlan.{StreamPlan}
use Rattle.host_widgets.specs.declared.kept.Power.TheVariants.{Unloaded}
use Rattle.host_widgets.specs.declared.kept.Record.{Record}
use Rattle.host_widgets.specs.declared.kept.StreamRec.{StreamRec}
use Rattle.host_widgets.specs.Expected.{phase_of, stream_view}
use Rattle.host_widgets.specs.Host.{IsRecordOf}
use Rattle.host_widgets.specs.Kept.{first_record}
use Rattle.host_widgets.specs.ViewOf.{record_view}
use Rattle.host_widgets.specs.StateOf.{loaded_state}
use Rattle.host_widgets.proofs.BuildingMoments.{AllOf, view_from, clock_from}
use Rattle.host_widgets.proofs.Records.{closed-agrees, closed-silent}
use Rattle.host_widgets.proofs.StandingOn.{StandsOn, ReadsOn, gained-none}
use Rattle.host_pm.specs.Resumed.{Resumed}
use Rattle.sof_session.proofs.Keeping.{Keeps-loaded}

-- ---- rings without frames

abbrev empty_ring : Edge → RingView
empty_ring e = record { buffer = e.buffer; frames = [] }

rings-empty : (edges : List Edge) (b : ℕ) → option_map_or (λ (r : RingView). r.frames) (find (λ (r : RingView). r.buffer == b) (map empty_ring edges)) [] ≡ []
rings-empty [] b = refl
rings-empty (e ∷ edges) b = by_first (e.buffer == b) (rings-empty edges b)
  where
    by_first : (t : Bool) → option_map_or (λ (r : RingView). r.frames) (find (λ (r : RingView). r.buffer == b) (map empty_ring edges)) [] ≡ [] → option_map_or (λ (r : RingView). r.frames) (cond t (Some (empty_ring e)) (find (λ (r : RingView). r.buffer == b) (map empty_ring edges))) [] ≡ []
    by_first true rest = refl
    by_first false rest = rest

-- ---- a tick while nothing is Live

abbrev no_moves : Past → List (ℕ × ℕ)
no_moves p = table (components p.view.graph) (λ _. 0)

abbrev ticked_past : List (ℕ × List ℕ) → Past → Past
ticked_past whole p = ticked_by whole p (no_moves p) (counts_by p.view p.counts (no_moves p)) (updated (buffers p.view.graph) (λ b. list_of p.made b ++ []) p.made)

-- ---- a device that is brought to a state

-- one that moved no audio, with this view, in which nothing is Live, and this clock
pub record AtRest (v : View) (clock_now : ℕ) (f : FwState) : Type 0 where
  pub view : view_of f ≡ v
  pub clock : f.clock ≡ clock_now
  pub buffers_are : map (λ (r : RingView). r.buffer) f.rings ≡ buffers v.graph
  pub rings : (b : ℕ) → ring_frames f b ≡ []
  pub silent : IsTrue (is_silent v)
  pub agrees : agree v ≡ true

-- Nothing is Live in a view that is silent, and streams agree in it.
pub record IsQuiet (v : View) : Type 0 where
  pub silent : IsTrue (is_silent v)
  pub agrees : agree v ≡ true

module _ (heap : ℕ) where
  -- a fresh firmware that has counted so many ticks stands for one whose graph is being built: nothing is Live in either
  abbrev empty_at : ℕ → FwState
  empty_at t = record (fresh heap) { clock = t }

  -- a tick moves its clock alone
  empty-ticks : (t : ℕ) (whole : List (ℕ × List ℕ)) (inputs : List InputView) (moments : List Moment) → StandsBuilding (Some (empty_at t)) whole inputs moments → StandsBuilding (Some (empty_at (next_clock t))) whole inputs (moments ++ Tick ∷ [])
  empty-ticks t whole inputs moments stood =
      let p = stood.past in
      let quiet = stood.holds.view.1 in
      let q = ticked_past whole p in
      record {
        past = q;
        led = Leads-push whole start p q moments Tick stood.led (no_moves p, silent_ticks whole p stood.kept quiet);
        read = record {
          positions = λ slot there. stood.read.positions slot there ∙ ap (λ (k : ℕ). min k (2 ^ 64 - 1)) (sym (position_kept whole p stood.kept quiet slot));
          left = λ slot. stood.read.left slot ∙ ap (λ (k : ℕ). drop k (list_of whole slot)) (sym (position_kept whole p stood.kept quiet slot));
        };
        kept = silent_kept whole p stood.kept quiet;
        holds = record {
          on = stood.holds.on;
          clock = ap next_clock stood.holds.clock;
          view = stood.holds.view;
          buffers = refl;
          rings = λ b. sym (lying-empty q b (silent_kept whole p stood.kept quiet) (silent-flows p.view b quiet));
          remembered = λ c there. absurd (dead-remembers p.view c quiet there);
          histories = λ c there. absurd (dead-remembers p.view c quiet there);
        };
        agrees = stood.agrees;
      }

  -- another device at rest stands in its place
  in-place : (t : ℕ) (v : View) (f : FwState) → AtRest v t f → (whole : List (ℕ × List ℕ)) (inputs : List InputView) (moments : List Moment) (stood : StandsBuilding (Some (empty_at t)) whole inputs moments) →
      (after : StandsBuilding (Some f) whole inputs moments) × (after.past ≡ stood.past)
  in-place t v f rests whole inputs moments stood =
      let p = stood.past in
      let quiet = stood.holds.view.1 in (
        record {
          past = p;
          led = stood.led;
          read = stood.read;
          kept = stood.kept;
          holds = record {
            on = stood.holds.on;
            clock = rests.clock ∙ stood.holds.clock;
            view = (subst (λ (x : View). IsTrue (is_silent x)) (sym rests.view) rests.silent, quiet);
            buffers = rests.buffers_are ∙ ap (λ (x : View). buffers x.graph) (sym rests.view);
            rings = λ b. rests.rings b ∙ sym (lying-empty p b stood.kept (silent-flows p.view b quiet));
            remembered = λ c there. absurd (dead-remembers p.view c quiet there);
            histories = λ c there. absurd (dead-remembers p.view c quiet there);
          };
          agrees = stood.agrees;
        },
        refl,
      )

  module _ (v : View) (quiet : IsQuiet v) (device : Option FwState) (whole : List (ℕ × List ℕ)) (inputs : List InputView) (before : List Moment) (stood : Stands device whole inputs before) where
    -- a graph that is being built these moments later, with this view, and to whose outputs nothing came
    pub record Builds (t : ℕ) (w : View) (since : List Moment) : Type 0 where
      pub after : StandsBuilding (Some (empty_at t)) whole inputs (before ++ since)
      pub led : Leads whole stood.past since after.past
      pub view_is : after.past.view ≡ w
      pub bytes : (slot : ℕ) → list_of after.past.bytes slot ≡ list_of stood.past.bytes slot

    boots : Builds 0 empty_view (Boot ∷ [])
    unfolding Stands-boot Stands-building
    boots =
        let r = Stands-reads SameView device whole inputs before stood in
        record {
          after = Stands-building (fresh heap) whole inputs (before ++ Boot ∷ [])
              (Stands-boot (fresh heap) whole inputs before r.0 record { clock = refl; view = refl; rings = refl; histories = refl; staging = refl }) refl;
          led = (new_life true r.0.past, ap (new_life true) r.1, refl);
          view_is = refl;
          bytes = λ slot. ap (λ (p : Past). list_of p.bytes slot) r.1;
        }

    -- an act passes
    passes : (t : ℕ) (w : View) (since : List Moment) (fresh_is : Option ℕ) → Builds t w since → Builds t v (since ++ Now v fresh_is ∷ [])
    unfolding Stands-now_building
    passes t w since fresh_is b =
        let m : Moment = Now v fresh_is in
        let p = after_now v fresh_is b.after.past in
        let g = empty_at t in
        let s = Stands-now_building g g v fresh_is whole inputs (before ++ since) b.after record { clock = refl; silent = refl; buffers = refl; rings = λ b. refl } quiet.silent quiet.agrees in
        let moved = subst (λ (ms : List Moment). (x : StandsBuilding (Some g) whole inputs ms) × (x.past ≡ p)) (append_assoc before since (m ∷ [])) (s, refl) in
        record {
          after = moved.0;
          led = subst (Leads whole stood.past (since ++ m ∷ [])) (sym moved.1) (Leads-push whole stood.past b.after.past p since m b.led refl);
          view_is = ap (λ (x : Past). x.view) moved.1;
          bytes = λ slot. ap (λ (x : Past). list_of x.bytes slot) moved.1 ∙ b.bytes slot;
        }

    -- a tick comes
    counts : (t : ℕ) (w : View) (since : List Moment) → Builds t w since → Builds (next_clock t) w (since ++ Tick ∷ [])
    unfolding empty-ticks
    counts t w since b =
        let p = b.after.past in
        let still = b.after.holds.view.1 in
        let q = ticked_past whole p in
        let s = empty-ticks t whole inputs (before ++ since) b.after in
        let moved = subst (λ (ms : List Moment). (x : StandsBuilding (Some (empty_at (next_clock t))) whole inputs ms) × (x.past ≡ q)) (append_assoc before since (Tick ∷ [])) (s, refl) in
        record {
          after = moved.0;
          led = subst (Leads whole stood.past (since ++ Tick ∷ [])) (sym moved.1) (Leads-push whole stood.past p q since Tick b.led (no_moves p, silent_ticks whole p b.after.kept still));
          view_is = ap (λ (x : Past). x.view) moved.1 ∙ b.view_is;
          bytes = λ slot. ap (λ (x : Past). list_of x.bytes slot) moved.1 ∙ bytes_kept whole p b.after.kept still slot ∙ b.bytes slot;
        }

    -- all of them
    build-more : (ms : List Moment) → AllOf v ms → (t : ℕ) (w : View) (since : List Moment) → Builds t w since → Builds (clock_from t ms) (view_from w ms) (since ++ ms)
    build-more [] all t w since b = subst (Builds t w) (sym (append-nil since)) b
    build-more (Now x fresh_is ∷ ms) all t w since b =
        let m : Moment = Now v fresh_is in
        subst (λ (y : View). Builds (clock_from t ms) (view_from y ms) (since ++ Now y fresh_is ∷ ms)) (sym all.0)
        (subst (Builds (clock_from t ms) (view_from v ms)) (append_assoc since (m ∷ []) ms) (build-more ms all.1 t v (since ++ m ∷ []) (passes t w since fresh_is b)))
    build-more (Tick ∷ ms) all t w since b =
        subst (Builds (clock_from (next_clock t) ms) (view_from w ms)) (append_assoc since (Tick ∷ []) ms) (build-more ms all (next_clock t) w (since ++ Tick ∷ []) (counts t w since b))
    build-more (Boot ∷ ms) all t w since b = absurd all
    build-more (Cut ∷ ms) all t w since b = absurd all

    pub build-all : (ms : List Moment) → AllOf v ms → Builds (clock_from 0 ms) (view_from empty_view ms) (Boot ∷ ms)
    build-all ms all = build-more ms all 0 empty_view (Boot ∷ []) boots

    -- the whole graph, at whose clock and view the moments end
    pub built : (ms : List Moment) → AllOf v ms → (u : View) (f : FwState) → AtRest u (clock_from 0 ms) f → view_from empty_view ms ≡ u →
        (after : Stands (Some f) whole inputs (before ++ Boot ∷ ms)) × Leads whole stood.past (Boot ∷ ms) after.past × ((slot : ℕ) → list_of after.past.bytes slot ≡ list_of stood.past.bytes slot)
    unfolding Stands-built
    built ms all u f rests ends =
        let b = build-all ms all in
        let i = in-place (clock_from 0 ms) u f rests whole inputs (before ++ Boot ∷ ms) b.after in
        let view : view_of f ≡ i.0.past.view = rests.view ∙ sym ends ∙ sym b.view_is ∙ ap (λ (p : Past). p.view) (sym i.1) in (
          Stands-built f whole inputs (before ++ Boot ∷ ms) i.0 view,
          subst (Leads whole stood.past (Boot ∷ ms)) (sym i.1) b.led,
          λ slot. ap (λ (p : Past). list_of p.bytes slot) i.1 ∙ b.bytes slot,
        )

  -- with endpoints that stay
  pub brought-stands : (v : View) → IsQuiet v → (device : Option FwState) (io : Io) (ms : List Moment) → AllOf v ms → (u : View) (f : FwState) → AtRest u (clock_from 0 ms) f → view_from empty_view ms ≡ u →
      StandsOn device io (Some f) io (Boot ∷ ms)
  brought-stands v quiet device io ms all u f rests ends whole before stood =
      let s = built v quiet device whole io.inputs before stood ms all u f rests ends in
      (s.0, s.1, gained-none io.outputs stood.past s.0.past s.2)

  -- wherever it ends
  pub brought-reads : (v : View) → IsQuiet v → (device : Option FwState) (io : Io) (ms : List Moment) → AllOf v ms → ReadsOn device io io (Boot ∷ ms)
  brought-reads v quiet device io ms all whole before stood =
      let b = build-all v quiet device whole io.inputs before stood ms all in
      (record { past = b.after.past; led = b.after.led; read = b.after.read }, b.led, gained-none io.outputs stood.past b.after.past b.bytes)

-- ---- a load

module _ (plan : Plan) (heap : ℕ) where
  -- the view of each act that passes: no stream runs or is paused
  abbrev pub rest_view : View
  rest_view = record_view plan (first_record plan)

  pub rest-quiet : IsQuiet rest_view
  rest-quiet = record { silent = closed-silent Unloaded plan; agrees = closed-agrees Unloaded plan }

  pub loaded-rests : (clock : ℕ) → AtRest rest_view clock (loaded_state plan heap clock)
  loaded-rests clock = record {
    view = refl;
    clock = refl;
    buffers_are = (Keeps-loaded plan heap clock).rings;
    rings = λ b. rings-empty plan.graph.edges b;
    silent = closed-silent Unloaded plan;
    agrees = closed-agrees Unloaded plan;
  }

-- ---- a resume

views-rest : (ss : List StreamPlan) (rs : List StreamRec) → list_any (λ r. is_live_phase (phase_of r.found)) rs ≡ false → list_any (λ s. is_live_phase s.phase) (map stream_view (zip ss rs)) ≡ false
views-rest [] rs rest = refl
views-rest (s ∷ ss) [] rest = refl
views-rest (s ∷ ss) (r ∷ rs) rest =
    let parts = or_parts (is_live_phase (phase_of r.found)) (list_any (λ (x : StreamRec). is_live_phase (phase_of x.found)) rs) rest in
    ap (λ (b : Bool). b || list_any (λ (x : StreamView). is_live_phase x.phase) (map stream_view (zip ss rs))) parts.0 ∙ views-rest ss rs parts.1

-- a record in which no stream runs or is paused
pub record-quiet : (plan : Plan) (kept : Record) → list_any (λ s. is_live_phase (phase_of s.found)) kept.streams ≡ false → IsRecordOf plan kept → IsQuiet (record_view plan kept)
record-quiet plan kept still is = record { silent = ap not (views-rest plan.streams kept.streams still); agrees = is.shapes }

-- what a resume that was done leaves of it
pub resumed-rests : {D : Type 0} (means : Meaning D) (plan : Plan) (heap : ℕ) (kept : Record) (clock : ℕ) (device : D) (r : Resumed means plan heap kept clock device) → list_any (λ s. is_live_phase (phase_of s.found)) kept.streams ≡ false → IsRecordOf plan kept → AtRest (record_view plan kept) clock r.state
resumed-rests means plan heap kept clock device r still is = record {
  view = r.keeps.view;
  clock = r.clock;
  buffers_are = r.keeps.rings;
  rings = λ b. subst (λ (rings : List RingView). option_map_or (λ (x : RingView). x.frames) (find (λ (x : RingView). x.buffer == b) rings) [] ≡ []) (sym r.rings) (rings-empty plan.graph.edges b);
  silent = ap not (views-rest plan.streams kept.streams still);
  agrees = is.shapes;
}
