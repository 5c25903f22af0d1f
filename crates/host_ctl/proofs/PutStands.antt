-- What stands goes on standing over values that are put at a control: ways, rings and epochs stay, and a volume's ramp begins.
use Rattle.std.proofs.Common.{◌≡◌, refl, sym, ap, ◌∙◌, subst, ℕ, ◌-◌, Bool, true, false, not, List, [], ◌∷◌, ◌++◌, map, find, Option, Some, None, option_map, ◌==◌, ◌&&◌, ◌||◌, arith}
use Rattle.std.specs.Prelude.{if◌then◌else◌}
use Rattle.std.specs.List.{list_any, list_all}
use Rattle.std.specs.Option.{option_map_or}
use Rattle.std.proofs.lemmas.Bool.{and_parts, eqb-true}
use Rattle.sof_base.specs.Ports.{InputView}
use Rattle.stream_law.specs.declared.graph.Kind.{Kind}
use Rattle.stream_law.specs.declared.graph.Kind.TheVariants as kinds
use Rattle.stream_law.specs.declared.graph.Comp.{Comp}
use Rattle.stream_law.specs.declared.stream.StreamView.{StreamView}
use Rattle.stream_law.specs.State.{FwState, View, view_of}
use Rattle.stream_law.specs.Table.{number_of, list_of}
use Rattle.stream_law.specs.Ways.{comp_of, buffers, source_of, sink_of, is_of, on_way, live, is_live_phase, same_shape, agree}
use Rattle.stream_law.specs.Made.{blob}
use Rattle.stream_law.specs.Seen.{flows, remembers, keeps_numbers, goes_on, numbers_in, marked, blob_in}
use Rattle.stream_law.specs.Past.{Moment, Now, Past, part_of, Leads, after_now}
use Rattle.stream_law.specs.Stands.{Stands, ring_frames}
use Rattle.stream_law.specs.Viewing.{Sees, StaysAsLive}
use Rattle.stream_law.specs.Stays.{SameWays, KeepsShape}
use Rattle.stream_law.proofs.Shapes.{on_way_same, live-stays}
use Rattle.stream_law.proofs.Standing.{Stands-now}
use Rattle.stream_law.proofs.Remembering.{is_of-kinds}
use Rattle.mbox_link.specs.Calls.{Meaning}
use Rattle.tplg_plan.specs.declared.plans.Plan.{Plan}
use Rattle.tplg_plan.specs.declared.plans.ControlPlan.{ControlPlan}
use Rattle.host_widgets.specs.declared.kept.Power.{Power}
use Rattle.host_widgets.specs.declared.kept.Power.TheVariants as powers
use Rattle.host_widgets.specs.declared.kept.Record.{Record}
use Rattle.host_widgets.specs.declared.kept.ControlRec.{ControlRec}
use Rattle.host_widgets.specs.Kept.{control_at, with_control}
use Rattle.host_widgets.specs.ViewOf.{record_view, graph_by, set_comp, record_setting}
use Rattle.host_widgets.specs.Host.{Agrees, AreControls, IsRecordOf, Sides}
use Rattle.host_ctl.proofs.PutShows.{found-set, there-at, elsewhere-at}
use Rattle.host_widgets.proofs.ActsStand.{all-have}
use Rattle.host_widgets.proofs.SameTouch.{touch_same}

-- ---- ways are those of the plan, whatever is set

module _ (plan : Plan) (kept : Record) where
  pub kinds-by : (c : ℕ) → option_map (λ (x : Comp). x.kind) (comp_of (graph_by plan kept) c) ≡ option_map (λ (x : Comp). x.kind) (comp_of plan.graph c)
  kinds-by c = ap (option_map (λ (x : Comp). x.kind)) (found-set plan kept c plan.graph.comps) ∙ by (comp_of plan.graph c)
    where
      by : (o : Option Comp) → option_map (λ (x : Comp). x.kind) (option_map (set_comp plan kept) o) ≡ option_map (λ (x : Comp). x.kind) o
      by None = refl
      by (Some x) = refl

  ramps-by : (c : ℕ) → option_map_or (λ (x : Comp). x.ramp) (comp_of (graph_by plan kept) c) 0 ≡ option_map_or (λ (x : Comp). x.ramp) (comp_of plan.graph c) 0
  ramps-by c = ap (λ (o : Option Comp). option_map_or (λ (x : Comp). x.ramp) o 0) (found-set plan kept c plan.graph.comps) ∙ by (comp_of plan.graph c)
    where
      by : (o : Option Comp) → option_map_or (λ (x : Comp). x.ramp) (option_map (set_comp plan kept) o) 0 ≡ option_map_or (λ (x : Comp). x.ramp) o 0
      by None = refl
      by (Some x) = refl

  ids-by : (comps : List Comp) → map (λ (c : Comp). c.id) (map (set_comp plan kept) comps) ≡ map (λ (c : Comp). c.id) comps
  ids-by [] = refl
  ids-by (c ∷ comps) = λ i. c.id ∷ ids-by comps i

-- ---- a control is changed

module _ (plan : Plan) (kept : Record) (comp : ℕ) (g : ControlRec → ControlRec) where
  abbrev pub now : Record
  now = with_control plan comp g kept

  abbrev old_view : View
  old_view = record_view plan kept

  abbrev new_view : View
  new_view = record_view plan now

  same-ways : SameWays new_view.graph old_view.graph
  same-ways = record {
    joins = refl;
    edges = refl;
    ids = ids-by plan now plan.graph.comps ∙ sym (ids-by plan kept plan.graph.comps);
    kinds = λ c. kinds-by plan now c ∙ sym (kinds-by plan kept c);
  }

  same-way : on_way new_view.graph ≡ on_way old_view.graph
  same-way = λ i host x. on_way_same new_view.graph old_view.graph same-ways host x i

  same-live : live new_view ≡ live old_view
  unfolding live
  same-live = λ i x. list_any (λ (s : StreamView). is_live_phase s.phase && same-way i s.host x) old_view.streams

  same-flows : (b : ℕ) → flows new_view b ≡ flows old_view b
  unfolding flows
  same-flows b = λ i. same-live i b && option_map_or (same-live i) (source_of plan.graph b) false && option_map_or (same-live i) (sink_of plan.graph b) false

  same-agree : agree new_view ≡ agree old_view
  unfolding agree
  same-agree = λ i. list_all (λ (s : StreamView). list_all (λ (t : StreamView). not (touch_same new_view.graph old_view.graph same-ways s.host t.host i) || same_shape s.params t.params) old_view.streams) old_view.streams

  -- the record stays one of the plan, where its controls do
  pub record-with : IsRecordOf plan kept → AreControls plan.controls now.controls → IsRecordOf plan now
  record-with is are = record { streams = is.streams; controls = are; each = is.each; shapes = same-agree ∙ is.shapes }

  -- what the views have in common, where the blobs of others than a fresh equaliser stay
  pub shape-with : (fresh : Option ℕ) → ((c : ℕ) → option_map_or (λ x. x == c) fresh false ≡ false → blob_in new_view c ≡ blob_in old_view c) → IsRecordOf plan kept → KeepsShape old_view new_view fresh
  shape-with fresh stay is = record {
    keeps = record {
      ways = record {
        joins = refl;
        edges = refl;
        ids = ids-by plan kept plan.graph.comps ∙ sym (ids-by plan now plan.graph.comps);
        kinds = λ c. kinds-by plan kept c ∙ sym (kinds-by plan now c);
      };
      params = λ s there live. (s, there, refl, refl);
      old_have = all-have plan.streams kept.streams is.each;
      new_have = all-have plan.streams kept.streams is.each;
      agrees = same-agree ∙ is.shapes;
    };
    blobs = stay;
    ramps = λ c. ramps-by plan now c ∙ sym (ramps-by plan kept c);
  }

  -- ---- with its blob kept

  module _ (keeps_blob : (c : ControlRec) → (g c).blob ≡ c.blob) where
    -- blobs stay
    blob-by : (kind : Kind) (o : Option (ControlPlan × ControlRec)) → blob (record_setting kind (option_map (λ (p : ControlPlan × ControlRec). (p.0, g p.1)) o)) ≡ blob (record_setting kind o)
    blob-by kinds.Eq (Some (k, c)) = keeps_blob c
    blob-by kinds.Eq None = refl
    blob-by kinds.Volume (Some (k, c)) = refl
    blob-by kinds.Volume None = refl
    blob-by kinds.Mux (Some (k, c)) = refl
    blob-by kinds.Mux None = refl
    blob-by kinds.Demux (Some (k, c)) = refl
    blob-by kinds.Demux None = refl
    blob-by kinds.HostPlay o = refl
    blob-by kind o = refl

    blob-set : (kind : Kind) (id : ℕ) → blob (record_setting kind (control_at plan now id)) ≡ blob (record_setting kind (control_at plan kept id))
    blob-set kind id = by (id == comp) refl
      where
        by : (b : Bool) → (id == comp) ≡ b → blob (record_setting kind (control_at plan now id)) ≡ blob (record_setting kind (control_at plan kept id))
        by true is = subst (λ (x : ℕ). blob (record_setting kind (control_at plan now x)) ≡ blob (record_setting kind (control_at plan kept x))) (sym (eqb-true id comp is))
            (ap (λ (o : Option (ControlPlan × ControlRec)). blob (record_setting kind o)) (there-at comp g plan.controls kept.controls) ∙ blob-by kind (control_at plan kept comp))
        by false is = ap (λ (o : Option (ControlPlan × ControlRec)). blob (record_setting kind o)) (elsewhere-at comp g id is plan.controls kept.controls)

    blobs : (c : ℕ) → blob_in new_view c ≡ blob_in old_view c
    blobs c =
        ap (λ (o : Option Comp). option_map_or (λ (x : Comp). blob x.setting) o []) (found-set plan now c plan.graph.comps)
        ∙ by (comp_of plan.graph c)
        ∙ sym (ap (λ (o : Option Comp). option_map_or (λ (x : Comp). blob x.setting) o []) (found-set plan kept c plan.graph.comps))
      where
        by : (o : Option Comp) → option_map_or (λ (x : Comp). blob x.setting) (option_map (set_comp plan now) o) [] ≡ option_map_or (λ (x : Comp). blob x.setting) (option_map (set_comp plan kept) o) []
        by None = refl
        by (Some x) = blob-set x.kind x.id

    -- the firmware that sees the record then, with a mark at the fresh one
    pub stands-seen : (fresh : Option ℕ) → IsRecordOf plan kept → (f f' : FwState) → view_of f ≡ old_view → Sees f new_view fresh f' → (whole : List (ℕ × List ℕ)) (inputs : List InputView) (moments : List Moment) (before : Stands (Some f) whole inputs moments) →
        (after : Stands (Some f') whole inputs (moments ++ Now new_view fresh ∷ [])) × Leads whole before.past (Now new_view fresh ∷ []) after.past
    unfolding Stands-now
    stands-seen fresh is f f' shows sees whole inputs moments before = (
      Stands-now f f' new_view fresh whole inputs moments before sees (same-agree ∙ is.shapes)
          (subst (λ (v : View). StaysAsLive v new_view fresh) (sym shows) (live-stays old_view new_view fresh (shape-with fresh (λ c apart. blobs c) is))),
      (after_now new_view fresh before.past, refl, refl),
    )

    remembers-same : (c : ℕ) → remembers new_view c ≡ remembers old_view c
    remembers-same c = λ i. same-live i c && is_of-kinds keeps_numbers new_view.graph old_view.graph c (kinds-by plan now c ∙ sym (kinds-by plan kept c)) i

    -- the firmware that shows the record then, with all but its graph as it was
    module _ (is : IsRecordOf plan kept) (f f' : FwState) (shows : view_of f ≡ old_view) (shows' : view_of f' ≡ new_view) (clock : f'.clock ≡ f.clock) (rings : f'.rings ≡ f.rings) (histories : f'.histories ≡ f.histories)
        (whole : List (ℕ × List ℕ)) (inputs : List InputView) (moments : List Moment) (before : Stands (Some f) whole inputs moments) where
      abbrev p : Past
      p = before.past

      past-view : p.view ≡ old_view
      past-view = sym before.holds.view ∙ shows

      -- a ring in which no frame may lie is empty
      empty-ring : (b : ℕ) → flows new_view b ≡ false → ring_frames f b ≡ []
      empty-ring b none =
          let same : number_of p.counts.taken b ≡ number_of p.counts.put b = before.kept.empty b (ap (λ (v : View). flows v b) past-view ∙ sym (same-flows b) ∙ none) in
          before.holds.rings b
          ∙ ap (λ (n : ℕ). part_of (list_of p.made b) (number_of p.counts.taken b) n) (let zero_is : number_of p.counts.put b - number_of p.counts.taken b ≡ 0 = omega (arith, same) in zero_is)

      ring-seen : (b : ℕ) (t : Bool) → flows new_view b ≡ t → ring_frames f b ≡ (if t then ring_frames f b else [])
      ring-seen b true flow = refl
      ring-seen b false flow = empty-ring b flow

      was-live : (c : ℕ) → remembers new_view c ≡ true → goes_on (view_of f) new_view None c ≡ true
      was-live c there =
          let live_now : live new_view c ≡ true = (and_parts (live new_view c) (is_of new_view.graph keeps_numbers c) there).0 in
          (λ i. live (shows i) c && live new_view c && true) ∙ (λ i. sym same-live i c && live new_view c && true) ∙ (λ i. live_now i && live_now i && true)

      sees : Sees f new_view None f'
      sees = record {
        clock = clock;
        view = shows';
        buffers = ap (map (λ r. r.buffer)) rings ∙ before.holds.buffers ∙ ap (λ (v : View). buffers v.graph) shows ∙ sym (ap (λ (v : View). buffers v.graph) shows');
        rings = λ b. ap (λ rs. option_map_or (λ r. r.frames) (find (λ r. r.buffer == b) rs) []) rings ∙ ring-seen b (flows new_view b) refl;
        remembered = λ c there. ap (λ hs. list_any (λ id. id == c) (map (λ h. h.comp) hs)) histories ∙ before.holds.remembered c (ap (λ (v : View). remembers v c) past-view ∙ sym (remembers-same c) ∙ there);
        histories = λ c there. ap (λ hs. option_map_or (λ h. h.numbers) (find (λ h. h.comp == c) hs) []) histories
            ∙ sym (ap (λ (t : Bool). if t then numbers_in f c else marked (view_of f) new_view c (numbers_in f c)) (was-live c there));
      }

      pub put-stands : (after : Stands (Some f') whole inputs (moments ++ Now new_view None ∷ [])) × Leads whole before.past (Now new_view None ∷ []) after.past
      put-stands = stands-seen None is f f' shows sees whole inputs moments before

    -- and the record stays one of the plan, where its controls do
    pub put-record : IsRecordOf plan kept → AreControls plan.controls now.controls → IsRecordOf plan now
    put-record is are = record-with is are

-- while the power is off, another control leaves the two sides agreeing
pub off-agrees : {D : Type 0} (means : Meaning D) (plan : Plan) (kept : Record) (comp : ℕ) (f : ControlRec → ControlRec) → (kept.power ≡ powers.Unloaded → ⊥) → (kept.power ≡ powers.On → ⊥) → IsRecordOf plan (with_control plan comp f kept) →
    (d : D) → Agrees means plan kept d → Agrees means plan (with_control plan comp f kept) d
off-agrees means plan kept comp f up off is d agrees = record { record_is = is; sides = by kept.power up off agrees.sides }
  where
    by : (power : Power) → (power ≡ powers.Unloaded → ⊥) → (power ≡ powers.On → ⊥) → Sides means plan kept d power → Sides means plan (with_control plan comp f kept) d power
    by powers.Off up off side = side
    by powers.Unloaded up off side = absurd (up refl)
    by powers.On up off side = absurd (off refl)
