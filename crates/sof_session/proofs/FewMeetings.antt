-- Acts meet no more messages than there are acts.
use Rattle.std.proofs.Common.{◌≡◌, ap, ℕ, ◌≤◌, Bool, true, false, List, [], ◌∷◌, length, arith}
use Rattle.mbox_link.specs.Calls.{World, Meaning}
use Rattle.mbox_link.specs.Meetings.{Meeting}
use Rattle.host_widgets.specs.ActRules.{ActRules}
use Rattle.host_widgets.specs.OneAct.{one_act}
use Rattle.host_widgets.specs.Walk.{goes_past}
use Rattle.host_widgets.specs.ActCalls.{ActsDid, Onwards}

none-few : (ms : List Meeting) (n : ℕ) → ms ≡ [] → length ms ≤ n
none-few ms n is = let no : length ms ≡ 0 = ap length is in omega (arith, no)

module _ {D S A : Type 0} (means : Meaning D) (rules : ActRules S A) (goes_on : Bool) where
  pub few-meetings : (acts : List A) (ms : List Meeting) (kept : S) (w v : World D) → ActsDid means rules goes_on kept acts ms w v → length ms ≤ length acts
  few-meetings [] ms kept w v did = none-few ms 0 did.0
  few-meetings (act ∷ acts) [] kept w v did = absurd did
  few-meetings (act ∷ acts) (m ∷ ms) kept w v did =
      let now = (one_act rules kept act m).kept in
      let rest = by (goes_past goes_on (one_act rules kept act m).outcome) (few-meetings acts ms now did.0 v) did.2 in omega (arith, rest)
    where
      by : (b : Bool) → (ActsDid means rules goes_on (one_act rules kept act m).kept acts ms did.0 v → length ms ≤ length acts) →
          Onwards b ms did.0 v (ActsDid means rules goes_on (one_act rules kept act m).kept acts ms did.0 v) → length ms ≤ length acts
      by true rest on = rest on
      by false rest on = none-few ms (length acts) on.0
