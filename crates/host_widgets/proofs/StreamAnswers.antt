-- The firmware's answer to each act on a stream, in every plan: what the host's record says.
use Rattle.std.proofs.Common.{◌≡◌, if◌then◌else◌, refl, ap, ◌∙◌, ℕ, List, [], ◌∷◌, map, zip, Bool, true, false, Some, None, Ok, Err}
use Rattle.std.specs.List.{list_any}
use Rattle.sof_base.specs.declared.format.Params.{Params}
use Rattle.stream_law.specs.declared.graph.Comp.{Comp}
use Rattle.stream_law.specs.declared.graph.Setting.{Setting}
use Rattle.stream_law.specs.declared.stream.Phase.{Phase}
use Rattle.stream_law.specs.declared.stream.Phase.TheVariants as phases
use Rattle.stream_law.specs.declared.stream.StreamView.{StreamView}
use Rattle.stream_law.specs.State.{FwState, view_of}
use Rattle.stream_law.specs.Seen.{seen}
use Rattle.stream_law.specs.Ways.{is_live_phase, is_running_phase}
use Rattle.mbox_link.specs.Step as fw
use Rattle.mbox_link.specs.Step.{row, invalid, set_phase, set_stream, with_params, stream_changed, is_rate}
use Rattle.tplg_plan.specs.declared.plans.Plan.{Plan}
use Rattle.tplg_plan.specs.declared.plans.StreamPlan.{StreamPlan}
use Rattle.tplg_plan.specs.Sound.{IsSound}
use Rattle.host_widgets.specs.declared.kept.Found.{Found}
use Rattle.host_widgets.specs.declared.kept.Found.TheVariants.{Closed, Open, Prepared, Running, Paused, On as Found_On}
use Rattle.host_widgets.specs.declared.kept.StreamRec.{StreamRec}
use Rattle.host_widgets.specs.declared.trigger.Trigger.{Trigger}
use Rattle.host_widgets.specs.declared.trigger.Trigger.TheVariants.{Start, Stop, Pause, Release}
use Rattle.host_widgets.specs.Expected.{phase_of}
use Rattle.host_widgets.specs.Host.{errno, conflicts}
use Rattle.host_widgets.specs.declared.kept.Record.{Record}
use Rattle.host_widgets.specs.Kept.{control_at}
use Rattle.host_widgets.specs.HostActs.{Act, Prepare, Trig, Free, after}
use Rattle.host_widgets.specs.ActMessages.{act_message}
use Rattle.host_widgets.specs.OneAct.{own}
use Rattle.host_widgets.specs.ViewOf.{record_view, record_setting}
use Rattle.host_widgets.specs.Host.{IsRecordOf}
use Rattle.host_widgets.proofs.ActsShow.{trig-seen, free-seen, prepare-seen}
use Rattle.host_widgets.specs.StreamStands.{takes_trigger, takes_params}
use Rattle.host_widgets.proofs.ReadyWays.{has_host}
use Rattle.host_widgets.proofs.StreamRows.{AllAt, changes, prepares}
use Rattle.host_widgets.proofs.ActsCome.{answer_by}

-- the phases from which a trigger leads
abbrev pub from_of : Trigger → Phase → Bool
from_of Start = fw.is_prepared
from_of Stop = is_live_phase
from_of Pause = is_running_phase
from_of Release = fw.is_paused

pub from-phase : (what : Trigger) (found : Found) → takes_trigger what found ≡ true → from_of what (phase_of found) ≡ true
from-phase Start Closed is = absurd (cc is)
from-phase Start Open is = absurd (cc is)
from-phase Start Prepared is = refl
from-phase Start Running is = absurd (cc is)
from-phase Start Paused is = absurd (cc is)
from-phase Start Found_On is = absurd (cc is)
from-phase Stop Closed is = absurd (cc is)
from-phase Stop Open is = absurd (cc is)
from-phase Stop Prepared is = absurd (cc is)
from-phase Stop Running is = refl
from-phase Stop Paused is = refl
from-phase Stop Found_On is = absurd (cc is)
from-phase Pause Closed is = absurd (cc is)
from-phase Pause Open is = absurd (cc is)
from-phase Pause Prepared is = absurd (cc is)
from-phase Pause Running is = refl
from-phase Pause Paused is = absurd (cc is)
from-phase Pause Found_On is = absurd (cc is)
from-phase Release Closed is = absurd (cc is)
from-phase Release Open is = absurd (cc is)
from-phase Release Prepared is = absurd (cc is)
from-phase Release Running is = absurd (cc is)
from-phase Release Paused is = refl
from-phase Release Found_On is = absurd (cc is)

pub rests : (found : Found) → takes_params found ≡ true → is_live_phase (phase_of found) ≡ false
rests Closed is = absurd (cc is)
rests Open is = refl
rests Prepared is = refl
rests found is = absurd (cc is)

-- what is so of every record is so at each host
pub anywhere : (So : StreamRec → Type 0) → ((r : StreamRec) → So r) → (host : ℕ) (ss : List StreamPlan) (rs : List StreamRec) → AllAt So host ss rs
anywhere So so host [] rs = tt
anywhere So so host (s ∷ ss) [] = tt
anywhere So so host (s ∷ ss) (r ∷ rs) = (λ here. so r, anywhere So so host ss rs)

pub all-at : (So Is : StreamRec → Type 0) → ((r : StreamRec) → So r → Is r) → (host : ℕ) (ss : List StreamPlan) (rs : List StreamRec) → AllAt So host ss rs → AllAt Is host ss rs
all-at So Is next host [] rs so = tt
all-at So Is next host (s ∷ ss) [] so = tt
all-at So Is next host (s ∷ ss) (r ∷ rs) so = (λ here. next r (so.0 here), all-at So Is next host ss rs so.1)

-- The firmware shows a record of a sound plan. One of the plan's streams has this host.
module _ (plan : Plan) (sound : IsSound plan) (kept : Record) (is : IsRecordOf plan kept) (f : FwState) (shows : view_of f ≡ record_view plan kept) (heap host : ℕ) (some : has_host plan.streams host ≡ true) where
  abbrev setting : Comp → Setting
  setting c = record_setting c.kind (control_at plan kept c.id)

  -- the row answers an act as the record says
  abbrev pub IsAnswered : Act → Type 0
  IsAnswered act = row f (act_message plan act) ≡ answer_by (own plan heap kept act) (seen (record_view plan (after plan act kept)) None f)

  abbrev pub Stand : (StreamRec → Type 0) → Type 0
  Stand So = AllAt So host plan.streams kept.streams

  -- the state after a change of the stream
  abbrev changed_to : (StreamView → StreamView) → FwState
  changed_to to = seen (record { graph = f.graph; streams = map to f.streams }) None f

  does : (from : Phase → Bool) (to : StreamView → StreamView) → Stand (λ r. from (phase_of r.found) ≡ true) → stream_changed f host from to ≡ Ok (changed_to to)
  does from to all = changes plan sound setting kept.streams is.streams host some f shows from to all

  -- a trigger that the stream takes is done
  pub trig-answered : (what : Trigger) → Stand (λ r. takes_trigger what r.found ≡ true) → IsAnswered (Trig host what)
  trig-answered what all = by what (all-at (λ r. takes_trigger what r.found ≡ true) (λ r. from_of what (phase_of r.found) ≡ true) (λ r. from-phase what r.found) host plan.streams kept.streams all)
    where
      by : (what : Trigger) → Stand (λ r. from_of what (phase_of r.found) ≡ true) → IsAnswered (Trig host what)
      by Start all = let done = does fw.is_prepared (set_phase host phases.Running) all in done ∙ ap Ok (trig-seen plan kept f (changed_to (set_phase host phases.Running)) shows host Start done)
      by Stop all = let done = does is_live_phase (set_phase host phases.Prepared) all in done ∙ ap Ok (trig-seen plan kept f (changed_to (set_phase host phases.Prepared)) shows host Stop done)
      by Pause all = let done = does is_running_phase (set_phase host phases.Paused) all in done ∙ ap Ok (trig-seen plan kept f (changed_to (set_phase host phases.Paused)) shows host Pause done)
      by Release all = let done = does fw.is_paused (set_phase host phases.Running) all in done ∙ ap Ok (trig-seen plan kept f (changed_to (set_phase host phases.Running)) shows host Release done)

  -- a stream that is prepared is freed
  pub free-answered : Stand (λ r. r.found ≡ Prepared) → IsAnswered (Free host)
  free-answered all =
      let done = does fw.is_prepared (set_stream host phases.Idle None) (all-at (λ r. r.found ≡ Prepared) (λ r. fw.is_prepared (phase_of r.found) ≡ true) (λ r stands. ap (λ (x : Found). fw.is_prepared (phase_of x)) stands) host plan.streams kept.streams all) in
      done ∙ ap Ok (free-seen plan kept f (changed_to (set_stream host phases.Idle None)) shows host done)

  -- parameters are refused exactly where they conflict with those of another stream in the record
  pub prepare-answered : (p : Params) → is_rate p.rate ≡ true → Stand (λ r. takes_params r.found ≡ true) → IsAnswered (Prepare host p)
  prepare-answered p rate all = by (list_any (conflicts plan host p) (zip plan.streams kept.streams)) whole
    where
      next : FwState
      next = seen (with_params f host p) None f

      whole : row f (act_message plan (Prepare host p)) ≡ (if list_any (conflicts plan host p) (zip plan.streams kept.streams) then Err invalid else Ok next)
      whole = prepares plan sound setting kept.streams is.streams host some f shows is.shapes p rate (all-at (λ r. takes_params r.found ≡ true) (λ r. is_live_phase (phase_of r.found) ≡ false) (λ r. rests r.found) host plan.streams kept.streams all)

      by : (b : Bool) → row f (act_message plan (Prepare host p)) ≡ (if b then Err invalid else Ok next) →
          row f (act_message plan (Prepare host p)) ≡ answer_by (if b then Some (errno invalid) else None) (seen (record_view plan (after plan (Prepare host p) kept)) None f)
      by true row_is = row_is
      by false row_is = row_is ∙ ap Ok (prepare-seen plan kept f next shows host p row_is)
