-- A firmware at a stage has a stream changed, as the record has.
use Rattle.std.proofs.Common.{◌≡◌, refl, sym, ap, subst, ◌∙◌, ℕ, List, [], ◌∷◌, map, filter, Bool, true, false, cond, not, inl, inr, ◌==◌, ◌&&◌, Some, None, Ok, Err}
use Rattle.std.specs.Prelude.{Option, find}
use Rattle.std.specs.Option.{option_map}
use Rattle.std.specs.List.{zip}
use Rattle.std.proofs.lemmas.Bool.{eqb-true, false≢true}
use Rattle.stream_law.specs.declared.graph.Kind.{Kind}
use Rattle.stream_law.specs.declared.graph.Comp.{Comp}
use Rattle.stream_law.specs.declared.graph.Join.{Join}
use Rattle.stream_law.specs.declared.graph.Graph.{Graph}
use Rattle.stream_law.specs.declared.stream.Phase.{Phase}
use Rattle.stream_law.specs.declared.stream.StreamView.{StreamView}
use Rattle.stream_law.specs.State.{FwState, HeapView}
use Rattle.stream_law.specs.Ways.{comp_of, is_live_phase, is_running_phase}
use Rattle.stream_law.specs.declared.stream.Phase.TheVariants as phases
use Rattle.stream_law.specs.Seen.{seen}
use Rattle.stream_law.proofs.Members.{IsIn, find-in}
use Rattle.mbox_link.specs.Step.{is_used, kind_at, has_kind, is_host, is_prepared, is_paused, is_stream_phase, phase_at, set_phase, set_stream, stream_changed, pcm_free, row, no_device, invalid}
use Rattle.tplg_plan.specs.declared.plans.Plan.{Plan}
use Rattle.tplg_plan.specs.declared.plans.StreamPlan.{StreamPlan}
use Rattle.tplg_plan.specs.Sound.{IsSound}
use Rattle.host_widgets.specs.declared.kept.Found.{Found}
use Rattle.host_widgets.specs.declared.kept.Found.TheVariants as founds
use Rattle.host_widgets.specs.declared.kept.StreamRec.{StreamRec}
use Rattle.host_widgets.specs.declared.kept.Record.{Record}
use Rattle.host_widgets.specs.declared.trigger.Trigger.{Trigger}
use Rattle.host_widgets.specs.declared.trigger.Trigger.TheVariants.{Start, Stop, Pause, Release}
use Rattle.host_widgets.specs.HostRecord.{closed}
use Rattle.host_widgets.specs.Expected.{stream_view, phase_of}
use Rattle.host_widgets.specs.Acts.{trigger_message}
use Rattle.host_widgets.specs.HostActs.{Trig, Free, triggered_found, triggered_stream}
use Rattle.host_widgets.specs.Kept.{changed, with_stream}
use Rattle.host_widgets.specs.StreamStands.{takes_trigger}
use Rattle.host_widgets.proofs.LookedUp.{found-map}
use Rattle.host_widgets.specs.There.{there_after, silent_state}
use Rattle.host_widgets.proofs.RowsTold.{told, left-told}
use Rattle.host_widgets.proofs.HostStreams.{IsHostKind, stream-comp}
use Rattle.host_widgets.proofs.PartsBetween.{found-left}
use Rattle.host_widgets.proofs.StageBetween.{comp-at}
use Rattle.host_widgets.proofs.StageJoins.{used-comp}
use Rattle.host_widgets.proofs.UpStages.{Stage, StreamPair, stage_graph, stage_streams, at_stage}

-- ---- streams of which one is changed

abbrev pub changed_one : ℕ → (StreamRec → StreamRec) → StreamPair → StreamPair
changed_one host f (s, r) = (s, cond (s.host == host) (f r) r)

pub zip-changed : (host : ℕ) (f : StreamRec → StreamRec) (ss : List StreamPlan) (rs : List StreamRec) → zip ss (changed (λ (s : StreamPlan). s.host) host f ss rs) ≡ map (changed_one host f) (zip ss rs)
zip-changed host f [] rs = refl
zip-changed host f (s ∷ ss) [] = refl
zip-changed host f (s ∷ ss) (r ∷ rs) = ap (λ (ps : List StreamPair). (s, cond (s.host == host) (f r) r) ∷ ps) (zip-changed host f ss rs)

module _ (plan : Plan) (kept : Record) (host : ℕ) (f : StreamRec → StreamRec) where
  abbrev olds : List StreamPair
  olds = zip plan.streams kept.streams

  -- what is shown of each is what a change of what was shown comes to
  module _ (to : StreamView → StreamView) (one : (p : StreamPair) → IsIn p olds → stream_view (changed_one host f p) ≡ to (stream_view p)) where
    shows : (has : ℕ → Bool) (ps : List StreamPair) → ((p : StreamPair) → IsIn p ps → IsIn p olds) →
        map stream_view (filter (λ (p : StreamPair). has p.0.host) (map (changed_one host f) ps)) ≡ map to (map stream_view (filter (λ (p : StreamPair). has p.0.host) ps))
    shows has [] within = refl
    shows has (p ∷ ps) within = by (has p.0.host) (shows has ps (λ q q_in. within q (inr q_in)))
      where
        left : List StreamPair → List StreamPair
        left xs = filter (λ (x : StreamPair). has x.0.host) xs

        by : (b : Bool) → map stream_view (left (map (changed_one host f) ps)) ≡ map to (map stream_view (left ps)) →
            map stream_view (cond b (changed_one host f p ∷ left (map (changed_one host f) ps)) (left (map (changed_one host f) ps))) ≡ map to (map stream_view (cond b (p ∷ left ps) (left ps)))
        by true rest = λ i. one p (within p (inl refl)) i ∷ rest i
        by false rest = rest

    pub streams-changed : (st : Stage) → stage_streams plan (with_stream plan host f kept) st ≡ map to (stage_streams plan kept st)
    streams-changed st =
        ap (λ (ps : List StreamPair). map stream_view (filter (λ (p : StreamPair). st.has p.0.host) ps)) (zip-changed host f plan.streams kept.streams)
        ∙ shows st.has olds (λ p there. there)

-- a stream of another host is as it was
pub other-stays : (host : ℕ) (f : StreamRec → StreamRec) (to : StreamView → StreamView) (p : StreamPair) → ((p.0.host == host) ≡ true → stream_view (p.0, f p.1) ≡ to (stream_view p)) → ((p.0.host == host) ≡ false → to (stream_view p) ≡ stream_view p) → stream_view (changed_one host f p) ≡ to (stream_view p)
other-stays host f to p here there = by (p.0.host == host) refl
  where
    by : (b : Bool) → (p.0.host == host) ≡ b → stream_view (p.0, cond b (f p.1) p.1) ≡ to (stream_view p)
    by true e = here e
    by false e = sym (there e)

module _ (plan : Plan) (sound : IsSound plan) (kept : Record) (st : Stage) (whole : (j : Join) → IsIn j st.joins → IsIn j plan.graph.joins) (h : HeapView) (host : ℕ) (p : StreamPair) (found : find (λ (q : StreamPair). q.0.host == host) (zip plan.streams kept.streams) ≡ Some p) (has : st.has host ≡ true) where
  abbrev k : Graph
  k = stage_graph plan kept st

  abbrev g : FwState
  g = silent_state (at_stage plan kept st h)

  in-pairs : IsIn p (zip plan.streams kept.streams) × ((p.0.host == host) ≡ true)
  in-pairs = find-in (λ (q : StreamPair). q.0.host == host) (zip plan.streams kept.streams) p found

  same-host : p.0.host ≡ host
  same-host = eqb-true p.0.host host in-pairs.1

  comp : (c : Comp) × (comp_of plan.graph host ≡ Some c) × IsHostKind c.kind
  comp = let c = stream-comp plan sound kept p in-pairs.0 in (c.0, ap (comp_of plan.graph) (sym same-host) ∙ c.1, c.2)

  host-is : (kind : Kind) → IsHostKind kind → is_host kind ≡ true
  host-is kind (inl e) = ap is_host e
  host-is kind (inr e) = ap is_host e

  kind-is : has_kind is_host (kind_at k host) ≡ true
  kind-is = ap (λ (o : Option Comp). has_kind is_host (option_map (λ (c : Comp). c.kind) o)) (comp-at plan sound kept st host comp.0 comp.1 has) ∙ host-is comp.0.kind comp.2

  -- it is the one that is there
  pub stream-at : find (λ (s : StreamView). s.host == host) (stage_streams plan kept st) ≡ Some (stream_view p)
  stream-at = found-map (λ (q : StreamPair). q.0.host) (λ (s : StreamView). s.host) stream_view (λ (q : StreamPair). refl) (filter (λ (q : StreamPair). st.has q.0.host) (zip plan.streams kept.streams)) host p
      (found-left (λ (q : StreamPair). q.0.host == host) (λ (q : StreamPair). st.has q.0.host) (zip plan.streams kept.streams) p found (ap st.has same-host ∙ has))

  phase-is : phase_at g host ≡ Some (phase_of p.1.found)
  phase-is = ap (option_map (λ (s : StreamView). s.phase)) stream-at

  changed-row : (from : Phase → Bool) (to : StreamView → StreamView) → from (phase_of p.1.found) ≡ true → told (stream_changed g host from to) ≡ Ok (record { heap = h; graph = k; streams = map to (stage_streams plan kept st) })
  changed-row from to is = by (is_used k host) (has_kind is_host (kind_at k host)) (is_stream_phase from (phase_at g host)) (used-comp plan sound kept st whole host comp.0 comp.1 has) kind-is (ap (is_stream_phase from) phase-is ∙ is)
    where
      left : FwState
      left = seen (record { graph = k; streams = map to (stage_streams plan kept st) }) None g

      by : (a b c : Bool) → a ≡ true → b ≡ true → c ≡ true → told (cond (not a) (Err no_device) (cond (not (b && c)) (Err invalid) (Ok left))) ≡ Ok (record { heap = h; graph = k; streams = map to (stage_streams plan kept st) })
      by a b c is_a is_b is_c = subst (λ (x : Bool × Bool × Bool). told (cond (not x.0) (Err no_device) (cond (not (x.1 && x.2)) (Err invalid) (Ok left))) ≡ Ok (record { heap = h; graph = k; streams = map to (stage_streams plan kept st) })) (λ i. (sym is_a i, sym is_b i, sym is_c i)) refl

  -- ---- without parameters

  pub free-told : p.1.found ≡ founds.Prepared → told (pcm_free g host) ≡ Ok (at_stage plan (with_stream plan host (λ r. closed) kept) st h)
  free-told prepared =
      changed-row is_prepared (set_stream host phases.Idle None) (ap (λ (x : Found). is_prepared (phase_of x)) prepared)
      ∙ (λ i. Ok (record { heap = h; graph = k; streams = sym (streams-changed plan kept host (λ r. closed) (set_stream host phases.Idle None) one st) i }))
    where
      one : (q : StreamPair) → IsIn q (zip plan.streams kept.streams) → stream_view (changed_one host (λ r. closed) q) ≡ set_stream host phases.Idle None (stream_view q)
      one q there = other-stays host (λ r. closed) (set_stream host phases.Idle None) q
          (λ e. ap (λ (b : Bool). cond b (record { host = q.0.host; phase = phases.Idle; params = None }) (stream_view q)) (sym e))
          (λ e. ap (λ (b : Bool). cond b (record { host = q.0.host; phase = phases.Idle; params = None }) (stream_view q)) e)

  pub free-is : p.1.found ≡ founds.Prepared → there_after plan (Free host) (at_stage plan kept st h) ≡ at_stage plan (with_stream plan host (λ r. closed) kept) st h
  free-is prepared = left-told (at_stage plan kept st h) (pcm_free g host) (at_stage plan (with_stream plan host (λ r. closed) kept) st h) (free-told prepared)

  -- ---- triggers

  -- from which phases each trigger leads
  abbrev from_of : Trigger → Phase → Bool
  from_of Start = is_prepared
  from_of Stop = is_live_phase
  from_of Pause = is_running_phase
  from_of Release = is_paused

  leads-from : (what : Trigger) (found : Found) → takes_trigger what found ≡ true → from_of what (phase_of found) ≡ true
  leads-from Start founds.Prepared takes = refl
  leads-from Stop founds.Running takes = refl
  leads-from Stop founds.Paused takes = refl
  leads-from Pause founds.Running takes = refl
  leads-from Release founds.Paused takes = refl
  leads-from what found takes = absurd (false≢true takes)

  trigger-one : (what : Trigger) (q : StreamPair) → stream_view (changed_one host (triggered_stream what) q) ≡ set_phase host (phase_of (triggered_found what)) (stream_view q)
  trigger-one what q = other-stays host (triggered_stream what) (set_phase host (phase_of (triggered_found what))) q
      (λ e. ap (λ (b : Bool). cond b (record { host = q.0.host; phase = phase_of (triggered_found what); params = q.1.params }) (stream_view q)) (sym e))
      (λ e. ap (λ (b : Bool). cond b (record { host = q.0.host; phase = phase_of (triggered_found what); params = q.1.params }) (stream_view q)) e)

  triggered-there : (what : Trigger) → record { heap = h; graph = k; streams = map (set_phase host (phase_of (triggered_found what))) (stage_streams plan kept st) } ≡ at_stage plan (with_stream plan host (triggered_stream what) kept) st h
  triggered-there what = λ i. record { heap = h; graph = k; streams = sym (streams-changed plan kept host (triggered_stream what) (set_phase host (phase_of (triggered_found what))) (λ q there. trigger-one what q) st) i }

  pub trigger-told : (what : Trigger) → takes_trigger what p.1.found ≡ true → told (row g (trigger_message host what)) ≡ Ok (at_stage plan (with_stream plan host (triggered_stream what) kept) st h)
  trigger-told Start takes = changed-row is_prepared (set_phase host phases.Running) (leads-from Start p.1.found takes) ∙ (λ i. Ok (triggered-there Start i))
  trigger-told Stop takes = changed-row is_live_phase (set_phase host phases.Prepared) (leads-from Stop p.1.found takes) ∙ (λ i. Ok (triggered-there Stop i))
  trigger-told Pause takes = changed-row is_running_phase (set_phase host phases.Paused) (leads-from Pause p.1.found takes) ∙ (λ i. Ok (triggered-there Pause i))
  trigger-told Release takes = changed-row is_paused (set_phase host phases.Running) (leads-from Release p.1.found takes) ∙ (λ i. Ok (triggered-there Release i))

  pub trigger-is : (what : Trigger) → takes_trigger what p.1.found ≡ true → there_after plan (Trig host what) (at_stage plan kept st h) ≡ at_stage plan (with_stream plan host (triggered_stream what) kept) st h
  trigger-is what takes = left-told (at_stage plan kept st h) (row g (trigger_message host what)) (at_stage plan (with_stream plan host (triggered_stream what) kept) st h) (trigger-told what takes)
