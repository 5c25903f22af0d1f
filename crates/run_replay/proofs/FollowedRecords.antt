-- A record that is given to a device which does nothing of its own accord leads it where a state is led that is alike to it.
use Rattle.std.proofs.Common.{◌≡◌, refl, sym, ap, ◌∙◌, subst, ℕ, Bool, true, false, List, [], ◌∷◌, ◌++◌, Option, Some, None, Ok, Err}
use Rattle.std.specs.Prelude.{is_some, option_map}
use Rattle.stream_law.specs.State.{FwState}
use Rattle.mbox_link.specs.Step.{step}
use Rattle.mbox_link.specs.Calls as calls
use Rattle.mbox_link.specs.Calls.{Meaning, Did, world}
use Rattle.ipc3_trace.specs.declared.entry.Entry.{Entry}
use Rattle.ipc3_trace.specs.declared.entry.Entry.TheVariants.{Boot, Cut, Request, Reply, Tick, Lost}
use Rattle.ipc3_trace.specs.Steps.{quiescent, AreAlike, step_by, steps_from}
use Rattle.ipc3_trace.specs.AlongCalls.{entries_by}
use Rattle.ipc3_trace.specs.CallRecords.{IsPlain}
use Rattle.ipc3_trace.proofs.LeadingLaws.{led-leads, replies-are}
use Rattle.sof_session.specs.SessionStep.{Calm}
use Rattle.run_replay.specs.declared.replay_fault.Stopped.TheVariants.{Device}
use Rattle.run_replay.specs.GivenRecords.{GaveRecord}
use Rattle.run_replay.specs.Replays.{reply_after}

-- what is alike is on or off alike
pub alike-on : (o s : Option FwState) → AreAlike o s → is_some o ≡ is_some s
alike-on None None alike = refl
alike-on None (Some g) alike = absurd (cc alike)
alike-on (Some f) None alike = absurd (cc alike)
alike-on (Some f) (Some g) alike = refl

module _ {P : Type 0} (dsp : Meaning P) (d after : P) where
  -- a tick leaves on what is on
  pub tick-follows : (s : Option FwState) → AreAlike (dsp.on d) s → Did dsp calls.Tick (world d [] []) (world after [] []) → AreAlike (dsp.on after) (step_by s Tick)
  tick-follows s alike did = by (dsp.on d) refl s alike
    where
      by : (o : Option FwState) → dsp.on d ≡ o → (s : Option FwState) → AreAlike o s → AreAlike (dsp.on after) (step_by s Tick)
      by None is None alike = ap (option_map quiescent) (did.off is).0
      by None is (Some f) alike = absurd (cc alike)
      by (Some f) is None alike = absurd (cc alike)
      by (Some f) is (Some g) alike =
          let led = led-leads dsp (calls.Tick ∷ []) (world d [] []) (world after [] []) (world after [] [], did, refl) (tt, tt) (Some g) (subst (λ (o : Option FwState). AreAlike o (Some g)) (sym is) alike) in
          subst (λ (b : Bool). AreAlike (dsp.on after) (steps_from (Some g) (entries_by b calls.Tick ++ []))) (ap is_some is) led

  -- and one that is on answers what the firmware does
  pub message-follows : (message reply : List ℕ) (f : FwState) → AreAlike (dsp.on d) (Some f) → dsp.pending d ≡ 0 → Calm dsp d after → Did dsp (calls.Exchange message (Some reply)) (world d [] []) (world after [] []) →
      (reply ≡ (step f message).1) × AreAlike (dsp.on after) (Some (step f message).0)
  message-follows message reply f alike none calm did =
      let on : is_some (dsp.on d) ≡ true = alike-on (dsp.on d) (Some f) alike in
      let plain : IsPlain dsp (calls.Exchange message (Some reply)) (world d [] []) (world after [] []) = (on, none, calm.faults, calm.refusals) in
      let led = led-leads dsp (calls.Exchange message (Some reply) ∷ []) (world d [] []) (world after [] []) (world after [] [], did, refl) (plain, tt) (Some f) alike in (
        replies-are dsp (world d [] []) (world after [] []) message reply did plain f alike,
        subst (λ (b : Bool). AreAlike (dsp.on after) (steps_from (Some f) (entries_by b (calls.Exchange message (Some reply)) ++ []))) on led,
      )

  -- it does not fail
  pub failed-not : (message : List ℕ) → is_some (dsp.on d) ≡ true → Calm dsp d after → Did dsp (calls.Exchange message None) (world d [] []) (world after [] []) → ⊥
  failed-not message on calm did = by (dsp.on d) refl on
    where
      by : (o : Option FwState) → dsp.on d ≡ o → is_some o ≡ true → ⊥
      by None is here = cc here
      by (Some f) is here = calm.faults (did.step f is).1

  -- the state after a record, and the reply that is awaited then
  pub gave-follows : (e : Entry) (reply : Option (List ℕ)) (s : Option FwState) → AreAlike (dsp.on d) s → dsp.pending d ≡ 0 → Calm dsp d after → ((message : List ℕ) → e ≡ Request message → is_some (dsp.on d) ≡ true) →
      GaveRecord dsp e d (Ok reply) after → AreAlike (dsp.on after) (step_by s e) × (reply ≡ reply_after s e)
  gave-follows (Boot heap) reply s alike none calm sends gave = (ap (option_map quiescent) gave.1.0.on, gave.0)
  gave-follows Cut reply s alike none calm sends gave = (ap (option_map quiescent) gave.1.0.on, gave.0)
  gave-follows Tick reply s alike none calm sends gave = (tick-follows s alike gave.1, gave.0)
  gave-follows (Reply other) reply s alike none calm sends gave = (subst (λ (x : P). AreAlike (dsp.on x) s) (sym gave.1) alike, gave.0)
  gave-follows Lost reply s alike none calm sends gave = (subst (λ (x : P). AreAlike (dsp.on x) s) (sym gave.1) alike, gave.0)
  gave-follows (Request message) None s alike none calm sends gave = absurd (cc gave.0)
  gave-follows (Request message) (Some reply) s alike none calm sends gave = by s alike (sym (alike-on (dsp.on d) s alike) ∙ sends message refl)
    where
      by : (s : Option FwState) → AreAlike (dsp.on d) s → is_some s ≡ true → AreAlike (dsp.on after) (step_by s (Request message)) × (Some reply ≡ reply_after s (Request message))
      by None alike on = absurd (cc on)
      by (Some f) alike on = let m = message-follows message reply f alike none calm gave.1 in (m.1, ap Some m.0)

  -- no record makes it fail
  pub gave-failed-not : (e : Entry) → Calm dsp d after → ((message : List ℕ) → e ≡ Request message → is_some (dsp.on d) ≡ true) → GaveRecord dsp e d (Err Device) after → ⊥
  gave-failed-not (Boot heap) calm sends gave = gave
  gave-failed-not Cut calm sends gave = gave
  gave-failed-not Tick calm sends gave = gave
  gave-failed-not (Reply other) calm sends gave = gave
  gave-failed-not Lost calm sends gave = gave
  gave-failed-not (Request message) calm sends gave = failed-not message (sends message refl) calm gave
