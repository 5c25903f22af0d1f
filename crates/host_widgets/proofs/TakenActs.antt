-- A trigger, a free and parameters of a stream that may take them keep the record, the device and what stands.
use Rattle.std.proofs.Common.{◌≡◌, inl, inr, refl, sym, ap, ◌∙◌, ℕ, Bool, true, false, not, ◌||◌, ℤ, List, [], ◌∷◌, Option, Some, None, Ok, Err}
use Rattle.std.specs.Prelude.{if◌then◌else◌}
use Rattle.std.specs.List.{list_all}
use Rattle.std.proofs.lemmas.Bool.{and_parts, false≢true}
use Rattle.sof_base.specs.declared.format.Params.{Params}
use Rattle.stream_law.specs.Joins.{crosses}
use Rattle.stream_law.specs.State.{FwState, view_of}
use Rattle.stream_law.specs.Ways.{agree, is_live_phase}
use Rattle.stream_law.specs.Seen.{seen}
use Rattle.ipc3_model.specs.declared.reply.Body.TheVariants.{Nothing}
use Rattle.ipc3_model.specs.Messages.{message_spelling, decoded}
use Rattle.ipc3_model.specs.Meanings.{IsMessage}
use Rattle.mbox_link.specs.Step as fw
use Rattle.mbox_link.specs.Step.{row, body_of, invalid, no_device}
use Rattle.tplg_plan.specs.declared.plans.Plan.{Plan}
use Rattle.tplg_plan.specs.declared.plans.StreamPlan.{StreamPlan}
use Rattle.host_widgets.specs.declared.kept.Found.{Found}
use Rattle.host_widgets.specs.declared.kept.Found.TheVariants.{Closed, Open, Prepared, Running, Paused, On as Found_On}
use Rattle.host_widgets.specs.declared.kept.StreamRec.{StreamRec}
use Rattle.host_widgets.specs.declared.trigger.Trigger.{Trigger}
use Rattle.host_widgets.specs.declared.trigger.Trigger.TheVariants.{Start, Stop, Pause, Release}
use Rattle.host_widgets.specs.HostRecord.{closed, may_have, are_in_range}
use Rattle.host_widgets.specs.Acts.{direction_of}
use Rattle.host_widgets.specs.Expected.{phase_of}
use Rattle.host_widgets.specs.StreamStands.{takes_trigger, takes_params}
use Rattle.host_widgets.specs.declared.kept.Record.{Record}
use Rattle.host_widgets.specs.HostActs.{Act, Trig, Free, Prepare, prepared_stream, triggered_stream, triggered_found}
use Rattle.host_widgets.specs.ActMessages.{act_message}
use Rattle.host_widgets.specs.Host.{IsRecordOf}
use Rattle.host_widgets.proofs.ActsShow.{trig-seen, free-seen, prepare-seen, prepare-shows}
use Rattle.host_widgets.proofs.ActsStand.{KeepsWhereLive}
use Rattle.host_widgets.proofs.RecordsStay.{AllAt, may, Less, record-with, record-less}
use Rattle.host_widgets.proofs.OneActLaws.{IsStreamAct}

-- ---- what is so of the stream of a host

at-each : (So Is : StreamRec → Type 0) → ((r : StreamRec) → So r → may r ≡ true → Is r) → (host : ℕ) (ss : List StreamPlan) (rs : List StreamRec) → AllAt So host ss rs → list_all may rs ≡ true → AllAt Is host ss rs
at-each So Is next host [] rs so all = tt
at-each So Is next host (s ∷ ss) [] so all = tt
at-each So Is next host (s ∷ ss) (r ∷ rs) so all =
    let parts = and_parts (may r) (list_all may rs) all in
    (λ is. next r (so.0 is) parts.0, at-each So Is next host ss rs so.1 parts.1)

keeps-live : (So : StreamRec → Type 0) (f : StreamRec → StreamRec) → ((r : StreamRec) → So r → is_live_phase (phase_of r.found) ≡ true → (f r).params ≡ r.params) → (host : ℕ) (ss : List StreamPlan) (rs : List StreamRec) → AllAt So host ss rs → KeepsWhereLive f host ss rs
keeps-live So f same host [] rs so = tt
keeps-live So f same host (s ∷ ss) [] so = tt
keeps-live So f same host (s ∷ ss) (r ∷ rs) so = (λ is live. same r (so.0 is) live, keeps-live So f same host ss rs so.1)

-- ---- streams

pub trigger-may : (what : Trigger) (found : Found) (params : Option Params) → takes_trigger what found ≡ true → may_have found params ≡ true → may_have (triggered_found what) params ≡ true
trigger-may Start Prepared (Some p) is may = may
trigger-may Start Prepared None is may = may
trigger-may Start Closed params is may = absurd (false≢true is)
trigger-may Start Open params is may = absurd (false≢true is)
trigger-may Start Running params is may = absurd (false≢true is)
trigger-may Start Paused params is may = absurd (false≢true is)
trigger-may Start Found_On params is may = absurd (false≢true is)
trigger-may Stop Running (Some p) is may = may
trigger-may Stop Running None is may = may
trigger-may Stop Paused (Some p) is may = may
trigger-may Stop Paused None is may = may
trigger-may Stop Closed params is may = absurd (false≢true is)
trigger-may Stop Open params is may = absurd (false≢true is)
trigger-may Stop Prepared params is may = absurd (false≢true is)
trigger-may Stop Found_On params is may = absurd (false≢true is)
trigger-may Pause Running (Some p) is may = may
trigger-may Pause Running None is may = may
trigger-may Pause Closed params is may = absurd (false≢true is)
trigger-may Pause Open params is may = absurd (false≢true is)
trigger-may Pause Prepared params is may = absurd (false≢true is)
trigger-may Pause Paused params is may = absurd (false≢true is)
trigger-may Pause Found_On params is may = absurd (false≢true is)
trigger-may Release Paused (Some p) is may = may
trigger-may Release Paused None is may = may
trigger-may Release found params is may = absurd (false≢true is)

-- what takes parameters is at rest
params-rest : (found : Found) → takes_params found ≡ true → is_live_phase (phase_of found) ≡ true → ⊥
params-rest Closed takes live = false≢true live
params-rest Open takes live = false≢true live
params-rest Prepared takes live = false≢true live
params-rest Running takes live = false≢true takes
params-rest Paused takes live = false≢true takes
params-rest Found_On takes live = false≢true live

-- the last of six tests of a row that was done
or_true : (a b c d k : Bool) → (a || b || c || d || k || true) ≡ true
or_true true b c d k = refl
or_true false true c d k = refl
or_true false false true d k = refl
or_true false false false true k = refl
or_true false false false false true = refl
or_true false false false false false = refl

pub last-test : (x a b c d k g : Bool) (e i : ℤ) (y f : FwState) → (if x then Err e else if a || b || c || d || k || not g then Err i else Ok y) ≡ Ok f → (g ≡ true) × (y ≡ f)
last-test true a b c d k g e i y f is = absurd (cc is)
last-test false a b c d k false e i y f is = absurd (cc (sym (ap (λ (t : Bool). if t then Err i else Ok y) (or_true a b c d k)) ∙ is))
last-test false a b c d k true e i y f is = (refl, by (a || b || c || d || k || false) is)
  where
    by : (t : Bool) → (if t then Err i else Ok y) ≡ Ok f → y ≡ f
    by true is = absurd (cc is)
    by false is = cc is

-- ---- acts

module _ (plan : Plan) (kept : Record) (is : IsRecordOf plan kept) (host : ℕ) where
  abbrev Stand : (StreamRec → Type 0) → Type 0
  Stand So = AllAt So host plan.streams kept.streams

  -- its message is read as it was written
  abbrev pub Fits : Act → Type 0
  Fits act = IsMessage (act_message plan act) × (decoded (message_spelling (act_message plan act)) ≡ Ok (act_message plan act))

  -- a stream that takes a trigger
  pub trig-act : (what : Trigger) → Stand (λ r. takes_trigger what r.found ≡ true) → Fits (Trig host what) → ((f : FwState) → fw.body f (act_message plan (Trig host what)) ≡ Nothing) → IsStreamAct plan kept (Trig host what)
  trig-act what stand fits bare = record {
    host = host;
    change = triggered_stream what;
    changes = refl;
    no_blob = refl;
    message = fits.0;
    bare = λ f. ap (body_of f) fits.1 ∙ bare f;
    sees = λ f f' shows done. trig-seen plan kept f f' shows host what done;
    record_is = is;
    record_will = λ f f' shows done. record-less plan kept host (triggered_stream what) is
        (at-each (λ r. takes_trigger what r.found ≡ true) (λ r. may (triggered_stream what r) ≡ true) (λ r takes was. trigger-may what r.found r.params takes was) host plan.streams kept.streams stand is.each)
        (at-each (λ r. takes_trigger what r.found ≡ true) (λ r. Less (triggered_stream what r).params r.params) (λ r takes was. inl refl) host plan.streams kept.streams stand is.each);
    live = keeps-live (λ r. takes_trigger what r.found ≡ true) (triggered_stream what) (λ r takes live. refl) host plan.streams kept.streams stand;
  }

  -- a stream that is prepared, and goes
  pub free-act : Stand (λ r. r.found ≡ Prepared) → Fits (Free host) → IsStreamAct plan kept (Free host)
  free-act stand fits = record {
    host = host;
    change = λ r. closed;
    changes = refl;
    no_blob = refl;
    message = fits.0;
    bare = λ f. ap (body_of f) fits.1;
    sees = λ f f' shows done. free-seen plan kept f f' shows host done;
    record_is = is;
    record_will = λ f f' shows done. record-less plan kept host (λ r. closed) is
        (at-each (λ r. r.found ≡ Prepared) (λ r. may closed ≡ true) (λ r stands was. refl) host plan.streams kept.streams stand is.each)
        (at-each (λ r. r.found ≡ Prepared) (λ r. Less None r.params) (λ r stands was. inr refl) host plan.streams kept.streams stand is.each);
    live = keeps-live (λ r. r.found ≡ Prepared) (λ r. closed) (λ r stands live. absurd (false≢true (sym (ap (λ (x : Found). is_live_phase (phase_of x)) stands) ∙ live))) host plan.streams kept.streams stand;
  }

  -- parameters in range, which the firmware takes only where streams agree
  pub prepare-act : (p : Params) → are_in_range p ≡ true → Stand (λ r. takes_params r.found ≡ true) → Fits (Prepare host p) → IsStreamAct plan kept (Prepare host p)
  prepare-act p range stand fits = record {
    host = host;
    change = prepared_stream p;
    changes = refl;
    no_blob = refl;
    message = fits.0;
    bare = λ f. ap (body_of f) fits.1;
    sees = λ f f' shows done. prepare-seen plan kept f f' shows host p done;
    record_is = is;
    record_will = λ f f' shows done. record-with plan kept host (prepared_stream p) is
        (at-each (λ r. takes_params r.found ≡ true) (λ r. may (prepared_stream p r) ≡ true) (λ r takes was. range) host plan.streams kept.streams stand is.each)
        (ap agree (sym (prepare-shows plan kept f f' shows host p done)) ∙ agrees f f' done);
    live = keeps-live (λ r. takes_params r.found ≡ true) (prepared_stream p) (λ r takes live. absurd (params-rest r.found takes live)) host plan.streams kept.streams stand;
  }
    where
      agrees : (f f' : FwState) → row f (act_message plan (Prepare host p)) ≡ Ok f' → agree (view_of f') ≡ true
      agrees f f' done =
          let v = fw.with_params f host p in
          let l = last-test (not (fw.is_used f.graph host)) (not (fw.has_kind (λ kind. fw.goes kind (direction_of plan host)) (fw.kind_at f.graph host))) (fw.is_stream_phase is_live_phase (fw.phase_at f host))
          (not (fw.is_rate p.rate)) (not (fw.is_way_ready f.graph host)) (crosses f.graph) (agree v) no_device invalid (seen v None f) f' done in
          ap (λ (g : FwState). agree (view_of g)) (sym l.1) ∙ l.0
