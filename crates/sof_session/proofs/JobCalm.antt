-- A device whose counts did not rise over a job did nothing of its own accord.
use Rattle.std.proofs.Common.{◌≡◌, refl, sym, ap, ◌∙◌, subst, ℕ, ◌+◌, ◌<◌, ◌-◌, ◌^◌, ◌==◌, Bool, true, false, List, [], ◌∷◌, ◌++◌, length, arith}
use Rattle.std.proofs.lemmas.List.{length-append}
use Rattle.ipc3_model.specs.Messages.{message_spelling}
use Rattle.mbox_link.specs.declared.fates.Entry.{Entry}
use Rattle.mbox_link.specs.declared.fates.Fate.TheVariants.{Pass}
use Rattle.mbox_link.specs.Exchange.{more}
use Rattle.mbox_link.specs.Calls.{World, Meaning, Call, Led}
use Rattle.mbox_link.specs.Wire.{Wire}
use Rattle.mbox_link.specs.Link.{link, next_fate}
use Rattle.mbox_link.specs.Meetings.{Meeting, without_entry}
use Rattle.mbox_link.proofs.Led.{Led-append}
use Rattle.host_widgets.specs.ActRules.{ActRules}
use Rattle.host_widgets.specs.OneAct.{one_act}
use Rattle.host_widgets.specs.Walk.{Walked, walk, goes_past}
use Rattle.host_widgets.specs.ActCalls.{ActsDid, Onwards, next_of, calls_of}
use Rattle.host_widgets.specs.Routines.{Routine, Finished, Sending, RoutineDid}
use Rattle.sof_session.specs.Agreement.{IsFated}
use Rattle.sof_session.proofs.ActsLed.{acts-led}
use Rattle.sof_session.proofs.CalmDoings.{own-calm, behind, either}
use Rattle.sof_session.proofs.Doings.{own_fate, doing_by}
use Rattle.sof_session.proofs.LinkFates.{Led-fated, Led-inside, Steady-none, exchange_steady, exchange_fated, exchange_sent, exchange_entries, more-few}
use Rattle.sof_session.proofs.StayedCounts.{Stayed, Stayed-between}

module _ {P S A : Type 0} (means : Meaning P) (rules : ActRules S A) where
  -- ---- numbers

  none-sent : (ms : List Meeting) (w v : World (Wire P)) → ms ≡ [] → v ≡ w → v.device.sent ≡ w.device.sent + length ms
  none-sent ms w v none same =
      let n : length ms ≡ 0 = ap length none in
      let s : v.device.sent ≡ w.device.sent = ap (λ (x : World (Wire P)). x.device.sent) same in omega (arith, n, s)

  -- as many messages as were met
  sent-front : (goes_on : Bool) (acts : List A) (ms : List Meeting) (kept : S) (w v : World (Wire P)) → ActsDid (link means) rules goes_on kept acts ms w v → w.device.sent + length ms < 2 ^ 64 - 1 → v.device.sent ≡ w.device.sent + length ms
  sent-front goes_on [] ms kept w v did few = none-sent ms w v did.0 did.1
  sent-front goes_on (act ∷ acts) [] kept w v did few = absurd did
  sent-front goes_on (act ∷ acts) (m ∷ ms) kept w v did few =
      let one = exchange_sent means (message_spelling (rules.message act)) did.1.answer w did.0 did.1.exchanged in
      let one_more : more w.device.sent ≡ w.device.sent + 1 = omega (arith, few) in
      let fewer : did.0.device.sent + length ms < 2 ^ 64 - 1 = omega (arith, few, one, one_more) in
      let rest = by (goes_past goes_on (one_act rules kept act m).outcome) did.2 (λ on. sent-front goes_on acts ms (one_act rules kept act m).kept did.0 v on fewer) in
      omega (arith, one, one_more, rest)
    where
      by : (b : Bool) → Onwards b ms did.0 v (ActsDid (link means) rules goes_on (one_act rules kept act m).kept acts ms did.0 v) →
          (ActsDid (link means) rules goes_on (one_act rules kept act m).kept acts ms did.0 v → v.device.sent ≡ did.0.device.sent + length ms) → v.device.sent ≡ did.0.device.sent + length ms
      by true on rest = rest on
      by false on rest = none-sent ms did.0 v on.0 on.1

  -- ---- acts, with what was met after them

  module _ (goes_on : Bool) (late : List Meeting) (number : ℕ) where
    none-front : (ms : List Meeting) (w v : World (Wire P)) → ms ≡ [] → v ≡ w → doing_by v.device.sent v.device.entries late number ≡ Pass → doing_by w.device.sent w.device.entries (ms ++ late) number ≡ Pass
    none-front ms w v none same rest = subst (λ (x : List Meeting × World (Wire P)). doing_by x.1.device.sent x.1.device.entries (x.0 ++ late) number ≡ Pass) (λ i. (sym none i, same i)) rest

    calm-front : (acts : List A) (early : List Meeting) (kept : S) (w v : World (Wire P)) → ActsDid (link means) rules goes_on kept acts early w v → IsFated w.device → w.device.sent + length early < 2 ^ 64 - 1 →
        Stayed means w.device.device v.device.device → doing_by v.device.sent v.device.entries late number ≡ Pass → doing_by w.device.sent w.device.entries (early ++ late) number ≡ Pass
    calm-front [] early kept w v did fated few stayed rest = none-front early w v did.0 did.1 rest
    calm-front (act ∷ acts) [] kept w v did fated few stayed rest = absurd did
    calm-front (act ∷ acts) (m ∷ ms) kept w v did fated few stayed rest =
        let mid = did.0 in
        let request = message_spelling (rules.message act) in
        let a = one_act rules kept act m in
        let sent_is = exchange_sent means request did.1.answer w mid did.1.exchanged in
        let entries_is = exchange_entries means request did.1.answer w mid did.1.exchanged in
        let first = exchange_steady means request did.1.answer w mid did.1.exchanged in
        let onward = behind means rules goes_on acts ms a.kept mid v (goes_past goes_on a.outcome) did.2 in
        let none = Steady-none means w.device.device w.device.device refl in
        let still = Steady-none means v.device.device v.device.device refl in
        let fewer : mid.device.sent + length ms < 2 ^ 64 - 1 = omega (arith, few, sent_is, more-few w.device.sent) in
        either means rules (number == more w.device.sent) (own_fate (next_fate w.device) m.fate) (doing_by (more w.device.sent) (without_entry (more w.device.sent) w.device.entries) (ms ++ late) number)
        (own-calm means rules kept act m w mid did.1 fated (omega (arith, few)) (Stayed-between means w.device.device w.device.device mid.device.device v.device.device none onward stayed) (next_fate w.device) refl)
        (subst (λ (x : ℕ × List Entry). doing_by x.0 x.1 (ms ++ late) number ≡ Pass) (λ i. (sent_is i, entries_is i))
        (by (goes_past goes_on a.outcome) did.2
        (λ on. calm-front acts ms a.kept mid v on (exchange_fated means request did.1.answer w mid did.1.exchanged fated) fewer
        (Stayed-between means w.device.device mid.device.device v.device.device v.device.device first still stayed) rest)))
      where
        by : (b : Bool) → Onwards b ms did.0 v (ActsDid (link means) rules goes_on (one_act rules kept act m).kept acts ms did.0 v) →
            (ActsDid (link means) rules goes_on (one_act rules kept act m).kept acts ms did.0 v → doing_by did.0.device.sent did.0.device.entries (ms ++ late) number ≡ Pass) →
            doing_by did.0.device.sent did.0.device.entries (ms ++ late) number ≡ Pass
        by true on onward = onward on
        by false on onward = none-front ms did.0 v on.0 on.1 rest

  -- ---- a routine

  module _ (heap : ℕ) where
    -- all its calls
    pub routine-led : (routine : Routine S A) (kept : S) (ms : List Meeting) (w v : World (Wire P)) → RoutineDid (link means) rules heap kept routine ms w v → (calls : List Call) × Led (link means) w calls v
    routine-led (Finished end moments) kept ms w v did = (calls_of heap moments, did.1)
    routine-led (Sending acts goes_on then) kept ms w v (early, late, mid, split, acts_did, rest_did) =
        let now : Walked S A (List Meeting) = walk rules goes_on next_of kept early acts in
        let first = acts-led (link means) rules goes_on acts early kept w mid acts_did in
        let rest = routine-led (then now.kept now.outcome) now.kept late mid v rest_did in
        (first.0 ++ rest.0, Led-append (link means) first.0 rest.0 w mid v first.1 rest.1)

    pub routine-calm : (number : ℕ) (routine : Routine S A) (kept : S) (ms : List Meeting) (w v : World (Wire P)) → RoutineDid (link means) rules heap kept routine ms w v → IsFated w.device → w.device.sent + length ms < 2 ^ 64 - 1 →
        Stayed means w.device.device v.device.device → doing_by w.device.sent w.device.entries ms number ≡ Pass
    routine-calm number (Finished end moments) kept ms w v did fated few stayed = ap (λ (xs : List Meeting). doing_by w.device.sent w.device.entries xs number) did.0
    routine-calm number (Sending acts goes_on then) kept ms w v (early, late, mid, split, acts_did, rest_did) fated few stayed =
        let now : Walked S A (List Meeting) = walk rules goes_on next_of kept early acts in
        let first = acts-led (link means) rules goes_on acts early kept w mid acts_did in
        let rest = routine-led (then now.kept now.outcome) now.kept late mid v rest_did in
        let steady-first = Led-inside means first.0 w mid first.1 in
        let steady-rest = Led-inside means rest.0 mid v rest.1 in
        let stayed-first = Stayed-between means w.device.device w.device.device mid.device.device v.device.device (Steady-none means w.device.device w.device.device refl) steady-rest stayed in
        let stayed-rest = Stayed-between means w.device.device mid.device.device v.device.device v.device.device steady-first (Steady-none means v.device.device v.device.device refl) stayed in
        let lengths : length ms ≡ length early + length late = ap length split ∙ length-append early late in
        let few-early : w.device.sent + length early < 2 ^ 64 - 1 = omega (arith, few, lengths) in
        let sent = sent-front goes_on acts early kept w mid acts_did few-early in
        let few-late : mid.device.sent + length late < 2 ^ 64 - 1 = omega (arith, few, lengths, sent) in
        subst (λ (xs : List Meeting). doing_by w.device.sent w.device.entries xs number ≡ Pass) (sym split)
        (calm-front goes_on late number acts early kept w mid acts_did fated few-early stayed-first
        (routine-calm number (then now.kept now.outcome) now.kept late mid v rest_did (Led-fated means first.0 w mid fated first.1) few-late stayed-rest))
