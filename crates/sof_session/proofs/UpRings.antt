-- A device that is on has a ring for each buffer after a call, where it had one for each before it.
use Rattle.std.proofs.Common.{◌≡◌, refl, sym, ◌∙◌, subst, inl, inr, ℕ, zero, suc, ◌-◌, ◌==◌, Bool, true, false, not, cond, ◌||◌, ◌&&◌, List, [], ◌∷◌, map, Option, Some, None, Result, Ok, Err, ℤ}
use Rattle.std.specs.Prelude.{is_some, option_and_then}
use Rattle.sof_base.specs.declared.part.Part.{Part}
use Rattle.sof_base.specs.BlobFaults.{is_blob}
use Rattle.sof_base.specs.Ports.{Io}
use Rattle.stream_law.specs.declared.graph.Comp.{Comp}
use Rattle.stream_law.specs.declared.graph.Setting.{Setting}
use Rattle.stream_law.specs.declared.stream.Phase.{Phase}
use Rattle.stream_law.specs.declared.stream.Phase.TheVariants.{Idle, Prepared, Running, Paused}
use Rattle.stream_law.specs.declared.stream.StreamView.{StreamView}
use Rattle.stream_law.specs.Move.{Audio, audio_after}
use Rattle.stream_law.specs.Past as past
use Rattle.stream_law.specs.Past.{Moment}
use Rattle.stream_law.specs.Seen.{is_equaliser, is_volume, ring_seen, seen}
use Rattle.stream_law.specs.State.{FwState, RingView, View, view_of}
use Rattle.stream_law.specs.Table.{list_of}
use Rattle.stream_law.specs.Ways.{buffers, comp_of, is_live_phase, is_of, is_running_phase}
use Rattle.stream_law.proofs.Keyed.{keys-remade}
use Rattle.ipc3_model.specs.declared.fault.CodecFault.{CodecFault}
use Rattle.ipc3_model.specs.declared.message.Message.{Message}
use Rattle.ipc3_model.specs.declared.message.Message.TheVariants as messages
use Rattle.ipc3_model.specs.declared.reply.Body.{Body}
use Rattle.ipc3_model.specs.Messages.{decoded}
use Rattle.mbox_link.specs.Calls.{World, Meaning, Exchanged, Led, Ticked}
use Rattle.mbox_link.specs.Exchange.{Stepped, Rose, ticked, ticks}
use Rattle.mbox_link.specs.Meetings.{Meeting}
use Rattle.mbox_link.specs.Step.{blob_installed, body, body_of, has_kind, invalid, is_host, is_paused, is_prepared, is_refused_params, is_stream_phase, is_used, keeps_order, kind_at, new_setting, no_device, part_staged, phase_at, replied, row, row_of, set_phase, set_stream, staged_bytes, staging_at, step, stream_changed, value_set, with_blob_at, with_params, with_setting_at, with_staged}
use Rattle.host_widgets.specs.declared.answers.HostFault.{HostFault}
use Rattle.host_widgets.specs.ActCalls.{ActsDid, calls_of, next_of}
use Rattle.host_widgets.specs.ActRules.{ActRules}
use Rattle.host_widgets.specs.Host.{Outcome}
use Rattle.host_widgets.specs.Routines.{Routine, Finished, Sending, Job, JobDone, JobTested, RoutineDid}
use Rattle.host_widgets.specs.Walk.{Walked, walk}
use Rattle.sof_session.specs.Agreement.{Ringed}
use Rattle.sof_session.proofs.ActsLed.{acts-keep}
use Rattle.sof_session.proofs.JobPorts.{tested-by}
use Rattle.sof_session.proofs.RowsLeave.{row-leaves}

-- ---- a row

module _ (f : FwState) (rings : Ringed (Some f)) where
  abbrev HasRings : Result FwState ℤ → Type 0
  HasRings (Ok next) = Ringed (Some next)
  HasRings (Err e) = Unit {0}

  record Has (r : Result FwState ℤ) : Type 0 where
    is : HasRings r

  test : (b : Bool) (x y : Result FwState ℤ) → Has x → Has y → Has (cond b x y)
  test true x y first second = first
  test false x y first second = second

  refused : (e : ℤ) → Has (Err e)
  refused e = record { is = tt }

  -- the state in a view with the same edges
  seen-has : (v : View) (fresh : Option ℕ) → buffers v.graph ≡ buffers f.graph → Ringed (Some (seen v fresh f))
  seen-has v fresh same = keys-remade (λ (r : RingView). r.buffer) (ring_seen v) (λ r. refl) f.rings ∙ rings ∙ sym same

  value-has : (id : ℕ) (setting : Setting) (b : Bool) → Has (Ok (cond b (seen (with_setting_at f id setting) (Some id) f) (record f { graph = (with_setting_at f id setting).graph })))
  value-has id setting true = record { is = seen-has (with_setting_at f id setting) (Some id) refl }
  value-has id setting false = record { is = rings }

  set-has : (id : ℕ) (o : Option Setting) → Has (value_set f id o)
  set-has id None = refused invalid
  set-has id (Some setting) = value-has id setting (is_of f.graph is_volume id)

  part-has : (id : ℕ) (bytes : List ℕ) (part : Part) → Has (part_staged f id bytes part)
  part-has id bytes part =
      test (not (part.remaining == 0)) (Ok (with_staged id bytes part f)) _ (record { is = rings })
      (test (not (is_blob bytes)) (Err invalid) (Ok (blob_installed id bytes f)) (refused invalid) (record { is = seen-has (with_blob_at f id bytes) (Some id) refl }))

  stream-has : (host : ℕ) (from : Phase → Bool) (to : StreamView → StreamView) → Has (stream_changed f host from to)
  stream-has host from to =
      test (not (is_used f.graph host)) _ _ (refused no_device)
      (test (not (has_kind is_host (kind_at f.graph host) && is_stream_phase from (phase_at f host))) _ _ (refused invalid)
      (record { is = seen-has (record { graph = f.graph; streams = map to f.streams }) None refl }))

  -- of each message
  row-rings : (m : Message) (next : FwState) → row f m ≡ Ok next → Ringed (Some next)
  row-rings (messages.SetValue id command values) next done =
      subst HasRings done (test (not (is_used f.graph id)) _ _ (refused no_device) (set-has id (option_and_then (λ (c : Comp). new_setting c.kind c.setting command values) (comp_of f.graph id)))).is
  row-rings (messages.SetData id part) next done =
      subst HasRings done
      (test (not (is_used f.graph id)) _ _ (refused no_device)
      (test (not (has_kind is_equaliser (kind_at f.graph id)) || not (keeps_order (staging_at f id) part)) _ _ (refused invalid) (part-has id (staged_bytes (staging_at f id) part) part))).is
  row-rings (messages.PcmParams host direction params) next done =
      subst HasRings done
      (test (not (is_used f.graph host)) _ _ (refused no_device)
      (test (is_refused_params (view_of f) host direction params (is_stream_phase is_live_phase (phase_at f host))) _ _ (refused invalid) (record { is = seen-has (with_params f host params) None refl }))).is
  row-rings (messages.PcmFree id) next done = subst HasRings done (stream-has id is_prepared (set_stream id Idle None)).is
  row-rings (messages.TrigStart id) next done = subst HasRings done (stream-has id is_prepared (set_phase id Running)).is
  row-rings (messages.TrigStop id) next done = subst HasRings done (stream-has id is_live_phase (set_phase id Prepared)).is
  row-rings (messages.TrigPause id) next done = subst HasRings done (stream-has id is_running_phase (set_phase id Paused)).is
  row-rings (messages.TrigRelease id) next done = subst HasRings done (stream-has id is_paused (set_phase id Running)).is
  row-rings m next done = (row-leaves f m tt next done).ringed rings

  replied-rings : (said : Body) (r : Result FwState ℤ) → ((next : FwState) → r ≡ Ok next → Ringed (Some next)) → Ringed (Some (replied f said r).0)
  replied-rings said (Ok next) done = done next refl
  replied-rings said (Err e) done = rings

  step-rings : (request : List ℕ) → Ringed (Some (step f request).0)
  unfolding step
  step-rings request = by (decoded request)
    where
      by : (d : Result Message CodecFault) → Ringed (Some (replied f (body_of f d) (row_of f d)).0)
      by (Ok m) = replied-rings (body f m) (row f m) (row-rings m)
      by (Err fault) = rings

-- ---- ticks

tick-rings : (p : FwState × Io) → Ringed (Some p.0) → Ringed (Some (ticked p).0)
tick-rings p rings =
    let after : Audio = audio_after p.0 p.1 in
    keys-remade (λ (r : RingView). r.buffer) (λ (r : RingView). record { buffer = r.buffer; frames = list_of after.rings r.buffer }) (λ r. refl) p.0.rings ∙ rings

ticks-rings : (n : ℕ) (p : FwState × Io) → Ringed (Some p.0) → Ringed (Some (ticks n p).0)
ticks-rings zero p rings = rings
ticks-rings (suc n) p rings = ticks-rings n (ticked p) (tick-rings p rings)

-- ---- a message

stepped-rings : (refused faulted : Type 0) (p : FwState × Io) (request : List ℕ) (answer : Option (List ℕ)) (after : Option FwState) (io : Io) → Stepped refused faulted p request answer after io → Ringed (Some p.0) → Ringed after
stepped-rings refused faulted p request (Some reply) after io (same, inl own) rings = subst Ringed (sym own.0) (step-rings p.0 rings request)
stepped-rings refused faulted p request (Some reply) after io (same, inr refusal) rings = subst Ringed (sym refusal.2) rings
stepped-rings refused faulted p request None after io (same, rose, inl own) rings = subst Ringed (sym own) (step-rings p.0 rings request)
stepped-rings refused faulted p request None after io (same, rose, inr still) rings = subst Ringed (sym still) rings

module _ {D : Type 0} (means : Meaning D) where
  -- before and after a call
  abbrev Keeps : World D → World D → Type 0
  Keeps w v = Ringed (means.on w.device) → Ringed (means.on v.device)

  exchange-rings : (request : List ℕ) (answer : Option (List ℕ)) (w v : World D) → is_some (means.on w.device) ≡ true → Exchanged means request answer w v → Keeps w v
  exchange-rings request answer w v on x rings = by (means.on w.device) refl on rings
    where
      by : (o : Option FwState) → means.on w.device ≡ o → is_some o ≡ true → Ringed o → Ringed (means.on v.device)
      by None is here ringed = absurd (cc here)
      by (Some f) is here ringed =
          let n : ℕ = means.pending w.device - means.pending v.device in
          stepped-rings (Rose (means.refusals w.device) (means.refusals v.device)) (Rose (means.faults w.device) (means.faults v.device)) (ticks n (f, w.io)) request answer (means.on v.device) v.io (x.step f is) (ticks-rings n (f, w.io) ringed)

  pub ticked-rings : (w v : World D) → Ticked means w v → Keeps w v
  ticked-rings w v t rings = by (means.on w.device) refl rings
    where
      by : (o : Option FwState) → means.on w.device ≡ o → Ringed o → Ringed (means.on v.device)
      by None is ringed = subst Ringed (sym (t.off is).0) tt
      by (Some f) is ringed = subst Ringed (sym (t.on f is).0) (tick-rings (f, w.io) ringed)

  -- of moments before and after acts
  moments-rings : (heap : ℕ) (moments : List Moment) (w v : World D) → Led means w (calls_of heap moments) v → Keeps w v
  moments-rings heap [] w v led rings = subst (λ (x : World D). Ringed (means.on x.device)) (sym led) rings
  moments-rings heap (past.Boot ∷ moments) w v led rings = moments-rings heap moments led.0 v led.2 (subst Ringed (sym led.1.0.on) refl)
  moments-rings heap (past.Cut ∷ moments) w v led rings = moments-rings heap moments led.0 v led.2 (subst Ringed (sym led.1.0.on) tt)
  moments-rings heap (past.Now view fresh ∷ moments) w v led rings = moments-rings heap moments w v led rings
  moments-rings heap (past.Tick ∷ moments) w v led rings = moments-rings heap moments led.0 v led.2 (ticked-rings w led.0 led.1 rings)

  -- ---- a job

  module _ {S A : Type 0} (rules : ActRules S A) where
    acts-rings : (goes_on : Bool) (acts : List A) (ms : List Meeting) (kept : S) (w v : World D) → ActsDid means rules goes_on kept acts ms w v → Keeps w v
    acts-rings goes_on acts ms kept w v did = acts-keep means rules goes_on Keeps (record { same = λ w rings. rings; after = λ w m v first rest rings. rest (first rings); exchange = exchange-rings }) acts ms kept w v did

    routine-rings : (heap : ℕ) (routine : Routine S A) (kept : S) (ms : List Meeting) (w v : World D) → RoutineDid means rules heap kept routine ms w v → Keeps w v
    routine-rings heap (Finished end moments) kept ms w v did rings = moments-rings heap moments w v did.1 rings
    routine-rings heap (Sending acts goes_on then) kept ms w v (early, late, mid, split, acts_did, rest_did) rings =
        let now : Walked S A (List Meeting) = walk rules goes_on next_of kept early acts in
        routine-rings heap (then now.kept now.outcome) now.kept late mid v rest_did (acts-rings goes_on acts early kept w mid acts_did rings)

    job-rings : (heap : ℕ) (job : Job S A) (kept' : S) (w v : World D) (result : Outcome) → JobDone means rules heap job kept' w v result → Keeps w v
    job-rings heap job kept' w v result j rings = routine-rings heap job.routine job.from j.meetings j.begun v j.did (moments-rings heap job.first w j.begun j.first rings)

    -- by a test and a job
    pub tested-rings : (heap : ℕ) (test : Option HostFault) (job : Job S A) (kept kept' : S) (w v : World D) (result : Outcome) → JobTested means rules heap test job kept kept' w v result → Keeps w v
    tested-rings heap test job kept kept' w v result tested rings =
        tested-by means rules heap test job kept kept' w v result tested (λ (x : World D). Ringed (means.on x.device)) rings (λ j. job-rings heap job kept' w v result j rings)
