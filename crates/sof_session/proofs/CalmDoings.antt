-- A device whose counts did not rise over a walk did nothing of its own accord.
use Rattle.std.proofs.Common.{◌≡◌, refl, ap, ◌∙◌, ◌<◌, ◌-◌, ◌^◌, Bool, true, false, List, arith}
use Rattle.std.specs.Prelude.{if◌then◌else◌}
use Rattle.mbox_link.specs.declared.fates.Fate.{Fate}
use Rattle.mbox_link.specs.declared.fates.Fate.TheVariants.{Pass, Refuse, Drop, Lose}
use Rattle.mbox_link.specs.Exchange.{Rose}
use Rattle.mbox_link.specs.Calls.{World, Meaning, Steady}
use Rattle.mbox_link.specs.Wire.{Wire}
use Rattle.mbox_link.specs.Link.{link, next_fate, dropped_after, refused_after}
use Rattle.sof_session.specs.Agreement.{IsFated}
use Rattle.sof_session.proofs.ActsLed.{acts-led}
use Rattle.sof_session.proofs.LinkFates.{Led-inside, Steady-none}
use Rattle.sof_session.proofs.StayedCounts.{Stayed, none-rose}
use Rattle.mbox_link.specs.Meetings.{Meeting}
use Rattle.host_widgets.specs.ActRules.{ActRules}
use Rattle.host_widgets.specs.ActCalls.{ActDid, ActsDid, Onwards, Counted}
use Rattle.sof_session.proofs.Doings.{own_fate}

module _ {P S A : Type 0} (means : Meaning P) (rules : ActRules S A) where
  abbrev steady : World (Wire P) → World (Wire P) → Type 0
  steady w v = Steady means w.device.device v.device.device

  -- counts of the device over a walk
  pub acts-steady : (goes_on : Bool) (acts : List A) (ms : List Meeting) (kept : S) (w v : World (Wire P)) → ActsDid (link means) rules goes_on kept acts ms w v → steady w v
  acts-steady goes_on acts ms kept w v did = let led = acts-led (link means) rules goes_on acts ms kept w v did in Led-inside means led.0 w v led.1

  -- ---- one message

  module _ (kept : S) (act : A) (m : Meeting) (w v : World (Wire P)) (did : ActDid (link means) rules kept act m w v)
      (fated : IsFated w.device) (few : w.device.sent < 2 ^ 64 - 1) (stayed : Stayed means w.device.device v.device.device) where
    same_dropped : next_fate w.device ≡ Pass → v.device.dropped ≡ w.device.dropped
    same_dropped passes = ap (λ (l : Wire P). l.dropped) did.exchanged.did.1 ∙ ap (λ (f : Fate). dropped_after f w.device.dropped) passes

    same_refused : next_fate w.device ≡ Pass → v.device.refused ≡ w.device.refused
    same_refused passes = ap (λ (l : Wire P). l.refused) did.exchanged.did.1 ∙ ap (λ (f : Fate). refused_after f w.device.refused) passes

    no_fault : next_fate w.device ≡ Pass → Rose ((link means).faults w.device) ((link means).faults v.device) → ⊥
    no_fault passes = none-rose (means.faults w.device.device) (means.faults v.device.device) w.device.dropped v.device.dropped stayed.faults (same_dropped passes) (omega (arith, few, fated.dropped))

    no_refusal : next_fate w.device ≡ Pass → Rose ((link means).refusals w.device) ((link means).refusals v.device) → ⊥
    no_refusal passes = none-rose (means.refusals w.device.device) (means.refusals v.device.device) w.device.refused v.device.refused stayed.refusals (same_refused passes) (omega (arith, few, fated.refused))

    passes-on : (fate : Fate) → Counted (link means) fate w.device v.device → next_fate w.device ≡ Pass → fate ≡ Pass
    passes-on Pass counted passes = refl
    passes-on (Refuse e) counted passes = absurd (no_refusal passes counted)
    passes-on Drop counted passes = absurd (no_fault passes counted)
    passes-on Lose counted passes = absurd (no_fault passes counted)

    pub own-calm : (planned : Fate) → next_fate w.device ≡ planned → own_fate planned m.fate ≡ Pass
    own-calm Pass is = passes-on m.fate did.counted is
    own-calm planned is = refl

  -- ---- a walk

  abbrev Later : Bool → List A → List Meeting → S → World (Wire P) → World (Wire P) → Bool → Type 0
  Later goes_on acts ms kept mid v b = Onwards b ms mid v (ActsDid (link means) rules goes_on kept acts ms mid v)

  pub behind : (goes_on : Bool) (acts : List A) (ms : List Meeting) (kept : S) (mid v : World (Wire P)) (b : Bool) → Later goes_on acts ms kept mid v b → steady mid v
  behind goes_on acts ms kept mid v true on = acts-steady goes_on acts ms kept mid v on
  behind goes_on acts ms kept mid v false on = Steady-none means mid.device.device v.device.device (ap (λ (x : World (Wire P)). x.device.device) on.1)

  pub either : (b : Bool) (x y : Fate) → x ≡ Pass → y ≡ Pass → (if b then x else y) ≡ Pass
  either true x y one other = one
  either false x y one other = other
