-- What is so of acts over a device, one after another, where it is so of an exchange; and their calls.
use Rattle.std.proofs.Common.{◌≡◌, refl, sym, subst, ℕ, Bool, true, false, List, [], ◌∷◌, ◌++◌, Option}
use Rattle.std.specs.Prelude.{is_some}
use Rattle.ipc3_model.specs.Messages.{message_spelling}
use Rattle.mbox_link.specs.Calls.{World, Meaning, Call, Exchange, Led, Exchanged}
use Rattle.mbox_link.specs.Meetings.{Meeting}
use Rattle.mbox_link.proofs.Led.{Led-append, Led-one}
use Rattle.host_widgets.specs.ActRules.{ActRules}
use Rattle.host_widgets.specs.OneAct.{one_act}
use Rattle.host_widgets.specs.Walk.{goes_past}
use Rattle.host_widgets.specs.ActCalls.{ActsDid, Onwards}

module _ {D : Type 0} (means : Meaning D) where
  -- so of worlds before and after calls where nothing is called, over calls after others, and over an exchange of a device that is on
  pub record IsKept (Holds : World D → World D → Type 0) : Type 0 where
    pub same : (w : World D) → Holds w w
    pub after : (w m v : World D) → Holds w m → Holds m v → Holds w v
    pub exchange : (request : List ℕ) (answer : Option (List ℕ)) (w v : World D) → is_some (means.on w.device) ≡ true → Exchanged means request answer w v → Holds w v

  abbrev IsLed : World D → World D → Type 0
  IsLed w v = (calls : List Call) × Led means w calls v

  led-kept : IsKept IsLed
  led-kept = record {
    same = λ w. ([], refl);
    after = λ w m v first rest. (first.0 ++ rest.0, Led-append means first.0 rest.0 w m v first.1 rest.1);
    exchange = λ request answer w v on x. (Exchange request answer ∷ [], Led-one means w v (Exchange request answer) x);
  }

  module _ {S A : Type 0} (rules : ActRules S A) (goes_on : Bool) where
    pub acts-keep : (Holds : World D → World D → Type 0) → IsKept Holds → (acts : List A) (ms : List Meeting) (kept : S) (w v : World D) → ActsDid means rules goes_on kept acts ms w v → Holds w v
    acts-keep Holds keeps [] ms kept w v did = subst (Holds w) (sym did.1) (keeps.same w)
    acts-keep Holds keeps (act ∷ acts) [] kept w v did = absurd did
    acts-keep Holds keeps (act ∷ acts) (m ∷ ms) kept w v did =
        let a = one_act rules kept act m in
        keeps.after w did.0 v (keeps.exchange (message_spelling (rules.message act)) did.1.answer w did.0 did.1.on did.1.exchanged) (by (goes_past goes_on a.outcome) did.2 (acts-keep Holds keeps acts ms a.kept did.0 v))
      where
        by : (b : Bool) → Onwards b ms did.0 v (ActsDid means rules goes_on (one_act rules kept act m).kept acts ms did.0 v) → (ActsDid means rules goes_on (one_act rules kept act m).kept acts ms did.0 v → Holds did.0 v) → Holds did.0 v
        by true on rest = rest on
        by false over rest = subst (Holds did.0) (sym over.1) (keeps.same did.0)

    -- one exchange each
    pub acts-led : (acts : List A) (ms : List Meeting) (kept : S) (w v : World D) → ActsDid means rules goes_on kept acts ms w v → (calls : List Call) × Led means w calls v
    acts-led acts ms kept w v did = acts-keep IsLed led-kept acts ms kept w v did
