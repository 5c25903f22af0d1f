-- A trace that was kept, and what its replay leaves.
use Rattle.std.proofs.Common.{◌≡◌, ◌⊎◌, inl, inr, ℕ, ◌<◌, ◌≤◌, List, [], ◌∷◌, map, length, Option, Some, None, Ok, Err, refl, sym, ap, ◌∙◌, subst, arith}
use Rattle.std.specs.Prelude.{option_map}
use Rattle.sof_desk.specs.declared.calls.LoadFault.TheVariants.{TooLong}
use Rattle.sof_desk.specs.Desk.{DeskMeaning, Heard, DeskCall, Slot}
use Rattle.stream_law.specs.State.{view_of}
use Rattle.mbox_link.specs.Calls.{Meaning}
use Rattle.tplg_graph.specs.PlanOf.{plan_of}
use Rattle.ipc3_trace.specs.declared.entry.Entry.{Entry}
use Rattle.ipc3_trace.specs.declared.fault.TraceFault.{TraceFault}
use Rattle.ipc3_trace.specs.declared.fault.ReplayFault.{ReplayFault}
use Rattle.ipc3_trace.specs.Records.{records_bytes}
use Rattle.ipc3_trace.specs.Steps.{steps_of}
use Rattle.ipc3_trace.specs.WholeTraces.{IsTraceOf}
use Rattle.ipc3_trace.proofs.WholeLaws.{one-trace}
use Rattle.sof_session.specs.Lives.{Life, device_of}
use Rattle.sof_session.specs.SessionStep.{Calm}
use Rattle.run_desk.specs.DeskCalls.{heard_in, saying}
use Rattle.run_play.specs.Rounds.{rounds_of}
use Rattle.run_play.specs.Plays.{ToPlay, commands_in}
use Rattle.run_play.specs.Keeping.{trace_slot}
use Rattle.run_play.specs.Traces.{met_in, put_at, TraceHolds}
use Rattle.run_replay.specs.Replays.{replay_fault, replayed_lines, ReplayVerdict}
use Rattle.sof_run.specs.PlayLaws.{ReplaysAlike, HeardReplaysAlike, ReplaysEnd, HeardReplaysEnd}
use Rattle.sof_run.proofs.RightRuns.{traces_replay}

-- ---- a trace and its replay

lines_unheard : (lines : List (List ℕ)) → heard_in (map saying lines) ≡ []
lines_unheard [] = refl
lines_unheard (line ∷ lines) = lines_unheard lines

module _ {D P E Q : Type 0} (means : DeskMeaning D) (dsp : Meaning P) (others : DeskMeaning E) (device : Meaning Q) where
  -- the replay of a trace's bytes gave all of its records
  alike_by : {words : List (List ℕ)} {room : ℕ} (play : ToPlay room words) (file bytes : List ℕ) (q : P) (r : Q) (last : Life Q) (calls : List DeskCall) →
      IsTraceOf bytes (met_in play) None → option_map view_of (dsp.on q) ≡ option_map view_of (steps_of (met_in play)) → ReplayVerdict (device.most r) file bytes calls 0 →
      ((es : List Entry) → heard_in calls ≡ Ok bytes ∷ [] → IsTraceOf bytes es None → option_map view_of (device.on (device_of last)) ≡ option_map view_of (steps_of es)) →
      option_map view_of (device.on (device_of last)) ≡ option_map view_of (dsp.on q)
  alike_by play file bytes q r last calls trace view (inl (inl three)) gives = absurd (cc three)
  alike_by play file bytes q r last calls trace view (inl (inr seven)) gives = absurd (cc seven)
  alike_by play file bytes q r last calls trace view (inr (inl five)) gives = absurd (cc five.0)
  alike_by play file bytes q r last calls trace view (inr (inr (inl fault))) gives = absurd (cc fault.3)
  alike_by play file bytes q r last calls trace view (inr (inr (inr all))) gives =
      let heard : heard_in calls ≡ Ok bytes ∷ [] = ap heard_in all.5 ∙ ap (λ (hs : List Heard). Ok bytes ∷ hs) (lines_unheard (replayed_lines all.0)) in
      let same : all.0 ≡ met_in play = (one-trace bytes all.0 (met_in play) None None all.3 trace).0 in
      gives all.0 heard all.3 ∙ ap (λ (es : List Entry). option_map view_of (steps_of es)) same ∙ sym view

  pub replays_alike : ReplaysAlike means dsp others device
  replays_alike words again old new p q before after r s play name file bytes named told a calm wrote is_replay is_told b still =
      let quiet : Calm dsp p (device_of a.last) = subst (λ (d : P). Calm dsp p d) (sym a.exit.is) calm in
      let silent : Calm device r (device_of b.last) = subst (λ (d : Q). Calm device r d) (sym b.exit.is) still in
      let kept : TraceHolds means dsp play a.called.turns a.called.calls old new 0 a.last a.called.records = a.traces play name named quiet in
      let view : option_map view_of (dsp.on q) ≡ option_map view_of (steps_of (met_in play)) =
      ap (λ (d : P). option_map view_of (dsp.on d)) (sym a.exit.is) ∙ kept.view (inl told) refl in
      ap (λ (d : Q). option_map view_of (device.on d)) (sym b.exit.is)
      ∙ alike_by play file bytes q r b.last b.called.calls (kept.file told refl bytes wrote).1 view (b.replays.judged file bytes is_replay (inl is_told) silent)
      (λ es heard trace. b.replays.view file bytes es is_replay heard trace refl silent)

  pub heard_alike : HeardReplaysAlike means dsp others device
  heard_alike words again old new p q before after r s play name file named a heard calm is_replay b brought still =
      let quiet : Calm dsp p (device_of a.last) = subst (λ (d : P). Calm dsp p d) (sym a.exit.is) calm in
      let silent : Calm device r (device_of b.last) = subst (λ (d : Q). Calm device r d) (sym b.exit.is) still in
      let kept : TraceHolds means dsp play a.called.turns a.called.calls old new 0 a.last a.called.records = a.traces play name named quiet in
      let view : option_map view_of (dsp.on q) ≡ option_map view_of (steps_of (met_in play)) =
      ap (λ (d : P). option_map view_of (dsp.on d)) (sym a.exit.is) ∙ kept.view (inr heard) refl in
      let bytes : List ℕ = records_bytes (met_in play) in
      let got : heard_in b.called.calls ≡ Ok bytes ∷ [] = brought ∙ ap (λ (bs : List ℕ). Ok bs ∷ []) (kept.put heard refl).0 in
      ap (λ (d : Q). option_map view_of (device.on d)) (sym b.exit.is)
      ∙ alike_by play file bytes q r b.last b.called.calls (kept.put heard refl).1 view (b.replays.judged file bytes is_replay (inr got) silent)
      (λ es heard trace. b.replays.view file bytes es is_replay heard trace refl silent)

  -- ---- of any status

  not-at-fault : {room : ℕ} {words : List (List ℕ)} (play : ToPlay room words) (r : Q) (es : List Entry) (end : Option TraceFault) (fault : ReplayFault) → play.form.heap ≤ device.most r → es ≡ met_in play → end ≡ None →
      replay_fault (device.most r) es end ≡ Some fault → {X : Type 0} → X
  not-at-fault play r es end fault fits same none wrong =
      let right = traces_replay (plan_of play.t) play.form.heap (device.most r) (commands_in (rounds_of play.read.commands)) fits in
      let is : replay_fault (device.most r) es end ≡ None = (λ i. replay_fault (device.most r) (same i) (none i)) ∙ right in
      absurd (cc (sym is ∙ wrong))

  abbrev Ended : ℕ → P → Q → Type 0
  Ended status q s = ((status ≡ 3) ⊎ (status ≡ 7)) ⊎ ((status ≡ 0) × (option_map view_of (device.on s) ≡ option_map view_of (dsp.on q)))

  ends_by : {words : List (List ℕ)} {room : ℕ} (play : ToPlay room words) (file bytes : List ℕ) (q : P) (r : Q) (last : Life Q) (calls : List DeskCall) (status : ℕ) → play.form.heap ≤ device.most r → (16777216 < length bytes → heard_in calls ≡ Err TooLong ∷ [] → ⊥) →
      IsTraceOf bytes (met_in play) None → option_map view_of (dsp.on q) ≡ option_map view_of (steps_of (met_in play)) → ReplayVerdict (device.most r) file bytes calls status →
      ((es : List Entry) → status ≡ 0 → heard_in calls ≡ Ok bytes ∷ [] → IsTraceOf bytes es None → option_map view_of (device.on (device_of last)) ≡ option_map view_of (steps_of es)) → Ended status q (device_of last)
  ends_by play file bytes q r last calls status fits short trace view (inl early) gives = inl early
  ends_by play file bytes q r last calls status fits short trace view (inr (inl five)) gives = absurd (short five.1 (ap heard_in five.2))
  ends_by play file bytes q r last calls status fits short trace view (inr (inr (inl fault))) gives =
      let one = one-trace bytes fault.0 (met_in play) fault.1 None fault.5 trace in not-at-fault play r fault.0 fault.1 fault.2 fits one.0 one.1 fault.6
  ends_by play file bytes q r last calls status fits short trace view (inr (inr (inr all))) gives =
      let heard : heard_in calls ≡ Ok bytes ∷ [] = ap heard_in all.5 ∙ ap (λ (hs : List Heard). Ok bytes ∷ hs) (lines_unheard (replayed_lines all.0)) in
      let same : all.0 ≡ met_in play = (one-trace bytes all.0 (met_in play) None None all.3 trace).0 in
      inr (all.1, gives all.0 all.1 heard all.3 ∙ ap (λ (es : List Entry). option_map view_of (steps_of es)) same ∙ sym view)

  pub replays_end : ReplaysEnd means dsp others device
  replays_end words again old new p q before after r s status play name file bytes named told a calm wrote fits short is_replay is_told b still =
      let quiet : Calm dsp p (device_of a.last) = subst (λ (d : P). Calm dsp p d) (sym a.exit.is) calm in
      let silent : Calm device r (device_of b.last) = subst (λ (d : Q). Calm device r d) (sym b.exit.is) still in
      let kept : TraceHolds means dsp play a.called.turns a.called.calls old new 0 a.last a.called.records = a.traces play name named quiet in
      let view : option_map view_of (dsp.on q) ≡ option_map view_of (steps_of (met_in play)) =
      ap (λ (d : P). option_map view_of (dsp.on d)) (sym a.exit.is) ∙ kept.view (inl told) refl in
      subst (λ (d : Q). Ended status q d) b.exit.is
      (ends_by play file bytes q r b.last b.called.calls status fits (λ long failed. omega (arith, long, short)) (kept.file told refl bytes wrote).1 view (b.replays.judged file bytes is_replay (inl is_told) silent)
      (λ es zero heard trace. b.replays.view file bytes es is_replay heard trace zero silent))

  pub heard_end : HeardReplaysEnd means dsp others device
  heard_end words again old new p q before after r s status play name file named a heard calm fits is_replay b brought still =
      let quiet : Calm dsp p (device_of a.last) = subst (λ (d : P). Calm dsp p d) (sym a.exit.is) calm in
      let silent : Calm device r (device_of b.last) = subst (λ (d : Q). Calm device r d) (sym b.exit.is) still in
      let kept : TraceHolds means dsp play a.called.turns a.called.calls old new 0 a.last a.called.records = a.traces play name named quiet in
      let view : option_map view_of (dsp.on q) ≡ option_map view_of (steps_of (met_in play)) =
      ap (λ (d : P). option_map view_of (dsp.on d)) (sym a.exit.is) ∙ kept.view (inr heard) refl in
      let bytes : List ℕ = records_bytes (met_in play) in
      let got : heard_in b.called.calls ≡ Ok bytes ∷ [] = brought ∙ ap (λ (bs : List ℕ). Ok bs ∷ []) (kept.put heard refl).0 in
      subst (λ (d : Q). Ended status q d) b.exit.is
      (ends_by play file bytes q r b.last b.called.calls status fits (λ long failed. let other : Err TooLong ∷ [] ≡ Ok bytes ∷ [] = sym failed ∙ got in cc other) (kept.put heard refl).1 view (b.replays.judged file bytes is_replay (inr got) silent)
      (λ es zero heard trace. b.replays.view file bytes es is_replay heard trace zero silent))
