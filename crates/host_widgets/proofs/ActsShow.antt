-- An act that the firmware takes leaves it showing what the record says then.
use Rattle.std.proofs.Common.{◌≡◌, refl, sym, ap, ◌∙◌, ℕ, Bool, true, false, List, [], ◌∷◌, Option, Some, None, Ok, Err, ℤ, map, ◌==◌}
use Rattle.std.specs.Prelude.{if◌then◌else◌}
use Rattle.std.specs.List.{zip}
use Rattle.sof_base.specs.declared.format.Params.{Params}
use Rattle.stream_law.specs.declared.stream.Phase.{Phase}
use Rattle.stream_law.specs.declared.stream.Phase.TheVariants as phases
use Rattle.stream_law.specs.declared.stream.StreamView.{StreamView}
use Rattle.stream_law.specs.State.{FwState, View, view_of}
use Rattle.stream_law.specs.Seen.{seen}
use Rattle.stream_law.specs.Ways.{is_live_phase, is_running_phase}
use Rattle.mbox_link.specs.Step as fw
use Rattle.mbox_link.specs.Step.{row, set_phase, set_stream, invalid, no_device}
use Rattle.tplg_plan.specs.declared.plans.Plan.{Plan}
use Rattle.tplg_plan.specs.declared.plans.StreamPlan.{StreamPlan}
use Rattle.host_widgets.specs.declared.kept.StreamRec.{StreamRec}
use Rattle.host_widgets.specs.declared.trigger.Trigger.{Trigger}
use Rattle.host_widgets.specs.declared.trigger.Trigger.TheVariants.{Start, Stop, Pause, Release}
use Rattle.host_widgets.specs.HostRecord.{closed}
use Rattle.host_widgets.specs.Expected.{stream_view, phase_of}
use Rattle.host_widgets.specs.declared.kept.Record.{Record}
use Rattle.host_widgets.specs.Kept.{changed}
use Rattle.host_widgets.specs.HostActs.{Trig, Free, Prepare, after, prepared_stream, triggered_stream, triggered_found}
use Rattle.host_widgets.specs.ActMessages.{act_message}
use Rattle.host_widgets.specs.ViewOf.{record_view, graph_by}

-- ---- streams

-- streams that are shown, once the one of a host is changed in the record, and once it is set in the view
module _ (host : ℕ) (f : StreamRec → StreamRec) (set : StreamView → StreamView)
    (hit : (s : StreamPlan) (r : StreamRec) → (s.host == host) ≡ true → set (stream_view (s, r)) ≡ stream_view (s, f r))
    (miss : (s : StreamPlan) (r : StreamRec) → (s.host == host) ≡ false → set (stream_view (s, r)) ≡ stream_view (s, r)) where
  one-shown : (s : StreamPlan) (r : StreamRec) (b : Bool) → (s.host == host) ≡ b → stream_view (s, (if b then f r else r)) ≡ set (stream_view (s, r))
  one-shown s r true is = sym (hit s r is)
  one-shown s r false is = sym (miss s r is)

  pub all-shown : (ss : List StreamPlan) (rs : List StreamRec) → map stream_view (zip ss (changed (λ (s : StreamPlan). s.host) host f ss rs)) ≡ map set (map stream_view (zip ss rs))
  all-shown [] rs = refl
  all-shown (s ∷ ss) [] = refl
  all-shown (s ∷ ss) (r ∷ rs) = λ i. one-shown s r (s.host == host) refl i ∷ all-shown ss rs i

set-phase-shown : (host : ℕ) (what : Trigger) (ss : List StreamPlan) (rs : List StreamRec) →
    map stream_view (zip ss (changed (λ (s : StreamPlan). s.host) host (triggered_stream what) ss rs)) ≡ map (set_phase host (phase_of (triggered_found what))) (map stream_view (zip ss rs))
set-phase-shown host what = all-shown host (triggered_stream what) (set_phase host (phase_of (triggered_found what)))
    (λ s r is. ap (λ (b : Bool). if b then stream_view (s, triggered_stream what r) else stream_view (s, r)) is)
    (λ s r is. ap (λ (b : Bool). if b then stream_view (s, triggered_stream what r) else stream_view (s, r)) is)

set-stream-shown : (host : ℕ) (g : StreamRec → StreamRec) (phase : Phase) (params : Option Params) → ((s : StreamPlan) (r : StreamRec) → stream_view (s, g r) ≡ record { host = s.host; phase = phase; params = params }) →
    (ss : List StreamPlan) (rs : List StreamRec) →
    map stream_view (zip ss (changed (λ (s : StreamPlan). s.host) host g ss rs)) ≡ map (set_stream host phase params) (map stream_view (zip ss rs))
set-stream-shown host g phase params is_set = all-shown host g (set_stream host phase params)
    (λ s r is. ap (λ (b : Bool). if b then record { host = s.host; phase = phase; params = params } else stream_view (s, r)) is ∙ sym (is_set s r))
    (λ s r is. ap (λ (b : Bool). if b then record { host = s.host; phase = phase; params = params } else stream_view (s, r)) is)

-- ---- rows

-- a row of two tests that was done
done-after : (a b : Bool) (e d : ℤ) (x f : FwState) → (if a then Err e else if b then Err d else Ok x) ≡ Ok f → x ≡ f
done-after true b e d x f is = absurd (cc is)
done-after false true e d x f is = absurd (cc is)
done-after false false e d x f is = cc is

-- a view with other streams
abbrev other : View → List StreamView → View
other v streams = record { graph = v.graph; streams = streams }

module _ (plan : Plan) (kept : Record) (f f' : FwState) (shows : view_of f ≡ record_view plan kept) where
  streams-after : (to : StreamView → StreamView) (kept' : Record) → graph_by plan kept' ≡ graph_by plan kept →
      map stream_view (zip plan.streams kept'.streams) ≡ map to (map stream_view (zip plan.streams kept.streams)) →
      other (view_of f) (map to f.streams) ≡ record_view plan kept'
  streams-after to kept' same is =
      ap (λ (v : View). other v (map to v.streams)) shows ∙ (λ i. record { graph = sym same i; streams = sym is i })

  -- the state after a row of a stream is that which sees the record then
  changed-seen : (host : ℕ) (from : Phase → Bool) (to : StreamView → StreamView) (kept' : Record) → graph_by plan kept' ≡ graph_by plan kept →
      map stream_view (zip plan.streams kept'.streams) ≡ map to (map stream_view (zip plan.streams kept.streams)) →
      fw.stream_changed f host from to ≡ Ok f' → f' ≡ seen (record_view plan kept') None f
  changed-seen host from to kept' same is done =
      sym (done-after _ _ no_device invalid (seen (other (view_of f) (map to f.streams)) None f) f' done) ∙ ap (λ (v : View). seen v None f) (streams-after to kept' same is)

  pub trig-seen : (host : ℕ) (what : Trigger) → row f (act_message plan (Trig host what)) ≡ Ok f' → f' ≡ seen (record_view plan (after plan (Trig host what) kept)) None f
  trig-seen host Start done = changed-seen host fw.is_prepared (set_phase host phases.Running) (after plan (Trig host Start) kept) refl (set-phase-shown host Start plan.streams kept.streams) done
  trig-seen host Stop done = changed-seen host is_live_phase (set_phase host phases.Prepared) (after plan (Trig host Stop) kept) refl (set-phase-shown host Stop plan.streams kept.streams) done
  trig-seen host Pause done = changed-seen host is_running_phase (set_phase host phases.Paused) (after plan (Trig host Pause) kept) refl (set-phase-shown host Pause plan.streams kept.streams) done
  trig-seen host Release done = changed-seen host fw.is_paused (set_phase host phases.Running) (after plan (Trig host Release) kept) refl (set-phase-shown host Release plan.streams kept.streams) done

  pub free-seen : (host : ℕ) → row f (act_message plan (Free host)) ≡ Ok f' → f' ≡ seen (record_view plan (after plan (Free host) kept)) None f
  free-seen host done = changed-seen host fw.is_prepared (set_stream host phases.Idle None) (after plan (Free host) kept) refl
      (set-stream-shown host (λ r. closed) phases.Idle None (λ s r. refl) plan.streams kept.streams) done

  pub prepare-seen : (host : ℕ) (p : Params) → row f (act_message plan (Prepare host p)) ≡ Ok f' → f' ≡ seen (record_view plan (after plan (Prepare host p) kept)) None f
  prepare-seen host p done =
      sym (done-after _ _ no_device invalid (seen (other (view_of f) (map (set_stream host phases.Prepared (Some p)) f.streams)) None f) f' done)
      ∙ ap (λ (v : View). seen v None f) (streams-after (set_stream host phases.Prepared (Some p)) (after plan (Prepare host p) kept) refl
      (set-stream-shown host (prepared_stream p) phases.Prepared (Some p) (λ s r. refl) plan.streams kept.streams))

  -- so it shows what the record says then
  pub prepare-shows : (host : ℕ) (p : Params) → row f (act_message plan (Prepare host p)) ≡ Ok f' → view_of f' ≡ record_view plan (after plan (Prepare host p) kept)
  prepare-shows host p done = ap view_of (prepare-seen host p done)
