-- What the firmware's rows of streams come to where it shows a plan with the streams of a record.
use Rattle.std.proofs.Common.{◌≡◌, if◌then◌else◌, refl, sym, ap, ◌∙◌, ℕ, List, [], ◌∷◌, map, length, zip, Bool, true, false, not, ◌&&◌, ◌||◌, ◌==◌, Some, None, Ok, Err, arith}
use Rattle.std.specs.Option.{option_map}
use Rattle.std.specs.List.{list_any, list_all, find}
use Rattle.std.proofs.lemmas.Bool.{false≢true}
use Rattle.sof_base.specs.declared.format.Params.{Params}
use Rattle.stream_law.specs.declared.graph.Comp.{Comp}
use Rattle.stream_law.specs.declared.graph.Graph.{Graph}
use Rattle.stream_law.specs.declared.graph.Setting.{Setting}
use Rattle.stream_law.specs.declared.stream.Phase.{Phase}
use Rattle.stream_law.specs.declared.stream.Phase.TheVariants as phases
use Rattle.stream_law.specs.declared.stream.StreamView.{StreamView}
use Rattle.stream_law.specs.State.{FwState, View, view_of}
use Rattle.stream_law.specs.Seen.{seen}
use Rattle.stream_law.specs.Ways.{agree, same_shape, is_live_phase}
use Rattle.stream_law.specs.Joins.{crosses}
use Rattle.mbox_link.specs.Step.{invalid, no_device, is_used, is_rate, is_way_ready, is_host, goes, has_kind, is_stream_phase, kind_at, phase_at, set_stream, with_params, stream_changed, pcm_params}
use Rattle.tplg_plan.specs.declared.plans.Plan.{Plan}
use Rattle.tplg_plan.specs.declared.plans.StreamPlan.{StreamPlan}
use Rattle.tplg_plan.specs.Sound.{IsSound}
use Rattle.host_widgets.specs.declared.kept.StreamRec.{StreamRec}
use Rattle.host_widgets.specs.Acts.{direction_of}
use Rattle.host_widgets.specs.Expected.{phase_of, stream_view}
use Rattle.host_widgets.specs.Host.{conflicts}
use Rattle.host_widgets.proofs.SameTouch.{crosses_same}
use Rattle.host_widgets.proofs.ReadyWays.{set_as, has_host, ways-set, touch-set, way-ready, host-used, host-kind, host-goes}
use Rattle.host_widgets.proofs.OthersAgree.{is_other, agrees-exactly}

-- ---- the stream of a host

-- it is so of each stream of this host
abbrev pub AllAt : (StreamRec → Type 0) → ℕ → List StreamPlan → List StreamRec → Type 0
AllAt So host [] rs = Unit {0}
AllAt So host (s ∷ ss) [] = Unit {0}
AllAt So host (s ∷ ss) (r ∷ rs) = ((s.host == host) ≡ true → So r) × AllAt So host ss rs

-- the streams that are shown
abbrev pub shown : List StreamPlan → List StreamRec → List StreamView
shown ss rs = map stream_view (zip ss rs)

shown-host : (host : ℕ) (ss : List StreamPlan) (rs : List StreamRec) → length rs ≡ length ss → list_any (λ (s : StreamView). s.host == host) (shown ss rs) ≡ has_host ss host
shown-host host [] rs same = refl
shown-host host (s ∷ ss) [] same = absurd (cc same)
shown-host host (s ∷ ss) (r ∷ rs) same = ap (λ (b : Bool). (s.host == host) || b) (shown-host host ss rs (let rest : length rs ≡ length ss = omega (arith, same) in rest))

-- the phase that is shown of it
phase-shown : (test : Phase → Bool) (is : Bool) (host : ℕ) (ss : List StreamPlan) (rs : List StreamRec) → length rs ≡ length ss → has_host ss host ≡ true →
    AllAt (λ r. test (phase_of r.found) ≡ is) host ss rs → is_stream_phase test (option_map (λ (s : StreamView). s.phase) (find (λ (s : StreamView). s.host == host) (shown ss rs))) ≡ is
phase-shown test is host [] rs same some all = absurd (false≢true some)
phase-shown test is host (s ∷ ss) [] same some all = absurd (cc same)
phase-shown test is host (s ∷ ss) (r ∷ rs) same some all =
    by (s.host == host) refl some (λ later. phase-shown test is host ss rs (let rest : length rs ≡ length ss = omega (arith, same) in rest) later all.1)
  where
    by : (b : Bool) → (s.host == host) ≡ b → (b || has_host ss host) ≡ true →
        (has_host ss host ≡ true → is_stream_phase test (option_map (λ (s : StreamView). s.phase) (find (λ (s : StreamView). s.host == host) (shown ss rs))) ≡ is) →
        is_stream_phase test (option_map (λ (s : StreamView). s.phase) (if b then Some (stream_view (s, r)) else find (λ (s : StreamView). s.host == host) (shown ss rs))) ≡ is
    by true here some rest = all.0 here
    by false here some rest = rest some

-- its conflicts are those of what is shown
conflicts-shown : (plan : Plan) (host : ℕ) (p : Params) (ss : List StreamPlan) (rs : List StreamRec) → list_any (is_other plan.graph host p) (shown ss rs) ≡ list_any (conflicts plan host p) (zip ss rs)
conflicts-shown plan host p [] rs = refl
conflicts-shown plan host p (s ∷ ss) [] = refl
conflicts-shown plan host p (s ∷ ss) (r ∷ rs) = ap (λ (b : Bool). conflicts plan host p (s, r) || b) (conflicts-shown plan host p ss rs)

-- streams agree by the plan's ways
agree-set : (g : Graph) (setting : Comp → Setting) (streams : List StreamView) → agree (record { graph = set_as setting g; streams = streams }) ≡ agree (record { graph = g; streams = streams })
unfolding agree
agree-set g setting streams = λ i. list_all (λ s. list_all (λ t. not (touch-set g setting s.host t.host i) || same_shape s.params t.params) streams) streams

not-not : (b : Bool) → not (not b) ≡ b
not-not true = refl
not-not false = refl

-- ---- rows

-- The firmware shows the plan, whatever is set at its components, and what these records say of its streams. One of them has this host.
module _ (plan : Plan) (sound : IsSound plan) (setting : Comp → Setting) (rs : List StreamRec) (same : length rs ≡ length plan.streams) (host : ℕ) (some : has_host plan.streams host ≡ true) where
  abbrev pub view : View
  view = record { graph = set_as setting plan.graph; streams = shown plan.streams rs }

  -- there is some stream of this host
  there : list_any (λ (s : StreamView). s.host == host) view.streams ≡ true
  there = shown-host host plan.streams rs same ∙ some

  module _ (f : FwState) (shows : view_of f ≡ view) where
    -- what leads from the phase that it has is done
    pub changes : (from : Phase → Bool) (to : StreamView → StreamView) → AllAt (λ r. from (phase_of r.found) ≡ true) host plan.streams rs →
        stream_changed f host from to ≡ Ok (seen (record { graph = f.graph; streams = map to f.streams }) None f)
    changes from to all =
        let used : is_used f.graph host ≡ true = ap (λ (v : View). is_used v.graph host) shows ∙ host-used plan sound setting host some in
        let kind : has_kind is_host (kind_at f.graph host) ≡ true = ap (λ (v : View). has_kind is_host (kind_at v.graph host)) shows ∙ host-kind plan sound setting host some in
        let phase : is_stream_phase from (phase_at f host) ≡ true =
        ap (λ (v : View). is_stream_phase from (option_map (λ (s : StreamView). s.phase) (find (λ (s : StreamView). s.host == host) v.streams))) shows
        ∙ phase-shown from true host plan.streams rs same some all in
        λ i. if not (used i) then Err no_device else if not (kind i && phase i) then Err invalid else Ok (seen (record { graph = f.graph; streams = map to f.streams }) None f)

    -- Parameters with a known rate, for a stream that does not move: they are refused exactly where the stream conflicts with another.
    module _ (were : agree view ≡ true) (p : Params) (rate : is_rate p.rate ≡ true) (rests : AllAt (λ r. is_live_phase (phase_of r.found) ≡ false) host plan.streams rs) where
      pub agrees : agree (with_params f host p) ≡ not (list_any (conflicts plan host p) (zip plan.streams rs))
      agrees =
          ap (λ (v : View). agree (record { graph = v.graph; streams = map (set_stream host phases.Prepared (Some p)) v.streams })) shows
          ∙ agree-set plan.graph setting (map (set_stream host phases.Prepared (Some p)) view.streams)
          ∙ agrees-exactly plan.graph host p view.streams there (sym (agree-set plan.graph setting view.streams) ∙ were)
          ∙ ap not (conflicts-shown plan host p plan.streams rs)

      pub prepares : pcm_params f host (direction_of plan host) p ≡ (if list_any (conflicts plan host p) (zip plan.streams rs) then Err invalid else Ok (seen (with_params f host p) None f))
      prepares =
          let used : is_used f.graph host ≡ true = ap (λ (v : View). is_used v.graph host) shows ∙ host-used plan sound setting host some in
          let kind : has_kind (λ kind. goes kind (direction_of plan host)) (kind_at f.graph host) ≡ true =
          ap (λ (v : View). has_kind (λ kind. goes kind (direction_of plan host)) (kind_at v.graph host)) shows ∙ host-goes plan sound setting host some in
          let moves : is_stream_phase is_live_phase (phase_at f host) ≡ false =
          ap (λ (v : View). is_stream_phase is_live_phase (option_map (λ (s : StreamView). s.phase) (find (λ (s : StreamView). s.host == host) v.streams))) shows
          ∙ phase-shown is_live_phase false host plan.streams rs same some rests in
          let ready : is_way_ready f.graph host ≡ true = ap (λ (v : View). is_way_ready v.graph host) shows ∙ way-ready plan sound setting host in
          let apart : crosses f.graph ≡ false = ap (λ (v : View). crosses v.graph) shows ∙ crosses_same (set_as setting plan.graph) plan.graph (ways-set plan.graph setting) ∙ sound.apart in
          (λ i. if not (used i) then Err no_device else if not (kind i) || moves i || not (rate i) || not (ready i) || apart i || not (agrees i) then Err invalid else Ok (seen (with_params f host p) None f))
          ∙ ap (λ (b : Bool). if b then Err invalid else Ok (seen (with_params f host p) None f)) (not-not (list_any (conflicts plan host p) (zip plan.streams rs)))
