-- Where plain calls lead, their records lead, but for audio.
use Rattle.std.proofs.Common.{◌≡◌, inl, inr, ℕ, ◌-◌, Bool, true, false, List, [], ◌∷◌, ◌++◌, Option, Some, None, refl, sym, ap, subst, ◌∙◌, arith}
use Rattle.std.specs.Prelude.{is_some, option_map}
use Rattle.stream_law.specs.State.{FwState}
use Rattle.mbox_link.specs.Step.{step}
use Rattle.mbox_link.specs.Exchange.{ticked, ticks, Stepped, Rose}
use Rattle.mbox_link.specs.Calls as calls
use Rattle.mbox_link.specs.Calls.{World, Meaning, Call, Did, Led, Exchanged}
use Rattle.ipc3_trace.specs.declared.entry.Entry.{Entry}
use Rattle.ipc3_trace.specs.declared.entry.Entry.TheVariants.{Request, Tick}
use Rattle.ipc3_trace.specs.Steps.{quiescent, AreAlike, no_ports, step_by, steps_from}
use Rattle.ipc3_trace.specs.AlongCalls.{entries_by, entries_along}
use Rattle.ipc3_trace.specs.CallRecords.{IsPlain, ArePlain, RecordsLead, RepliesAreFirmware}
use Rattle.ipc3_trace.proofs.StepLaws.{step-alike, tick-alike}

-- ---- states that are alike

-- what a state that is on is alike to is on
alike-on : (f : FwState) (s : Option FwState) → AreAlike (Some f) s → (g : FwState) × (s ≡ Some g) × (quiescent f ≡ quiescent g)
alike-on f None e = absurd (cc e)
alike-on f (Some g) e = (g, refl, cc)

alike-to : (o t : Option FwState) (f g : FwState) → o ≡ Some f → t ≡ Some g → quiescent f ≡ quiescent g → AreAlike o t
alike-to o t f g e k h = ap (option_map quiescent) e ∙ ap Some h ∙ sym (ap (option_map quiescent) k)

-- ---- one call

module _ {D : Type 0} (means : Meaning D) where
  -- an exchange that is plain is the firmware's step
  exchanged : (request : List ℕ) (answer : Option (List ℕ)) (w v : World D) → Exchanged means request answer w v → IsPlain means (calls.Exchange request answer) w v → (f : FwState) → means.on w.device ≡ Some f →
      (means.on v.device ≡ Some (step f request).0) × (answer ≡ Some (step f request).1)
  exchanged request answer w v x (on, none, no_fault, no_refusal) f is =
      let still : means.pending w.device - means.pending v.device ≡ 0 = omega (arith, none) in
      by answer (subst (λ (n : ℕ). Stepped (Rose (means.refusals w.device) (means.refusals v.device)) (Rose (means.faults w.device) (means.faults v.device)) (ticks n (f, w.io)) request answer (means.on v.device) v.io) still (x.step f is))
    where
      by : (answer : Option (List ℕ)) → Stepped (Rose (means.refusals w.device) (means.refusals v.device)) (Rose (means.faults w.device) (means.faults v.device)) (f, w.io) request answer (means.on v.device) v.io →
          (means.on v.device ≡ Some (step f request).0) × (answer ≡ Some (step f request).1)
      by (Some reply) (same, inl (after, is)) = (after, ap Some is)
      by (Some reply) (same, inr (rose, refused, after)) = absurd (no_refusal rose)
      by None (same, rose, after) = absurd (no_fault rose)

  is-on : (o : Option FwState) → is_some o ≡ true → (f : FwState) × (o ≡ Some f)
  is-on None e = absurd (cc e)
  is-on (Some f) e = (f, refl)

  back-stays : (s : Option FwState) (request : List ℕ) (answer : Option (List ℕ)) → steps_from s (entries_by true (calls.Exchange request answer)) ≡ step_by s (Request request)
  back-stays s request (Some reply) = refl
  back-stays s request None = refl

  back-stays-off : (s : Option FwState) (request : List ℕ) (answer : Option (List ℕ)) → steps_from s (entries_by false (calls.Exchange request answer)) ≡ step_by s (Request request)
  back-stays-off s request (Some reply) = refl
  back-stays-off s request None = refl

  did-leads : (call : Call) (w v : World D) → Did means call w v → IsPlain means call w v → (s : Option FwState) → AreAlike (means.on w.device) s → AreAlike (means.on v.device) (steps_from s (entries_by (is_some (means.on w.device)) call))
  did-leads (calls.Boot heap) w v d plain s alike = ap (option_map quiescent) d.0.on
  did-leads calls.Cut w v d plain s alike = by (means.on w.device) alike
    where
      by : (o : Option FwState) → AreAlike o s → AreAlike (means.on v.device) (steps_from s (entries_by (is_some o) calls.Cut))
      by (Some f) h = ap (option_map quiescent) d.0.on
      by None h = ap (option_map quiescent) d.0.on ∙ h
  did-leads calls.Tick w v d plain s alike = by (means.on w.device) refl alike
    where
      by : (o : Option FwState) → means.on w.device ≡ o → AreAlike o s → AreAlike (means.on v.device) (steps_from s (entries_by (is_some o) calls.Tick))
      by (Some f) e h =
          let g = alike-on f s h in
          alike-to (means.on v.device) (step_by s Tick) (ticked (f, w.io)).0 (ticked (g.0, no_ports)).0 (d.on f e).0 (ap (λ (t : Option FwState). step_by t Tick) g.1) (tick-alike f g.0 w.io no_ports g.2)
      by None e h = ap (option_map quiescent) (d.off e).0 ∙ h
  did-leads (calls.Exchange request answer) w v d plain s alike =
      let here = is-on (means.on w.device) plain.0 in
      let came = exchanged request answer w v d plain here.0 here.1 in
      let g = alike-on here.0 s (ap (option_map quiescent) (sym here.1) ∙ alike) in
      let on = alike-to (means.on v.device) (step_by s (Request request)) (step here.0 request).0 (step g.0 request).0 came.0 (ap (λ (t : Option FwState). step_by t (Request request)) g.1) (step-alike here.0 g.0 request g.2).0 in
      subst (λ (t : Option FwState). AreAlike (means.on v.device) t) (sym (by (is_some (means.on w.device)))) on
    where
      by : (t : Bool) → steps_from s (entries_by t (calls.Exchange request answer)) ≡ step_by s (Request request)
      by true = back-stays s request answer
      by false = back-stays-off s request answer

  pub reply-is : (w v : World D) (request reply : List ℕ) → Exchanged means request (Some reply) w v → IsPlain means (calls.Exchange request (Some reply)) w v → (f : FwState) → AreAlike (means.on w.device) (Some f) → reply ≡ (step f request).1
  reply-is w v request reply x plain f alike =
      let here = is-on (means.on w.device) plain.0 in
      let came = exchanged request (Some reply) w v x plain here.0 here.1 in
      let g = alike-on here.0 (Some f) (ap (option_map quiescent) (sym here.1) ∙ alike) in
      let same : f ≡ g.0 = cc (g.1) in
      let is : reply ≡ (step here.0 request).1 = cc (came.1) in
      is ∙ (step-alike here.0 g.0 request g.2).1 ∙ ap (λ (h : FwState). (step h request).1) (sym same)

  -- ---- calls, one after another

  steps-append : (s : Option FwState) (es fs : List Entry) → steps_from s (es ++ fs) ≡ steps_from (steps_from s es) fs
  steps-append s [] fs = refl
  steps-append s (e ∷ es) fs = steps-append (step_by s e) es fs

  pub led-leads : (cs : List Call) (w v : World D) (led : Led means w cs v) → ArePlain means w cs v led → (s : Option FwState) → AreAlike (means.on w.device) s →
      AreAlike (means.on v.device) (steps_from s (entries_along means w cs v led))
  led-leads [] w v led plain s alike = subst (λ (x : World D). AreAlike (means.on x.device) s) (sym led) alike
  led-leads (call ∷ cs) w v led plain s alike =
      let es = entries_by (is_some (means.on w.device)) call in
      let here = did-leads call w led.0 led.1 plain.0 s alike in
      subst (λ (t : Option FwState). AreAlike (means.on v.device) t) (sym (steps-append s es (entries_along means led.0 cs v led.2)))
      (led-leads cs led.0 v led.2 plain.1 (steps_from s es) here)

pub records-lead : {D : Type 0} (means : Meaning D) → RecordsLead means
records-lead means w v cs led plain s alike = led-leads means cs w v led plain s alike

pub replies-are : {D : Type 0} (means : Meaning D) → RepliesAreFirmware means
replies-are means w v request reply d plain f alike = reply-is means w v request reply d plain f alike
