-- A driver's records and what came back of them, merged, are a trace that `replay` finds right.
use Rattle.std.proofs.Common.{◌≡◌, ◌⊎◌, inl, inr, refl, sym, ◌∙◌, ap, subst, ℕ, ◌≤◌, Bool, true, false, List, [], ◌∷◌, ◌++◌, length, Option, Some, None, nat_le, nat_lt, arith}
use Rattle.std.proofs.lemmas.Bool.{leb-true, le-ltb}
use Rattle.std.proofs.lemmas.Slice.Eq.{bytes_eq-Decides}
use Rattle.std.specs.Prelude.{is_some}
use Rattle.std.specs.Str.{bytes_eq}
use Rattle.std.specs.Option.{option_or}
use Rattle.std.specs.List.{AllByRecursion}
use Rattle.stream_law.specs.State.{FwState}
use Rattle.sof_desk.specs.Desk.{DeskMeaning, DeskCall}
use Rattle.mbox_link.specs.Step.{fresh, step}
use Rattle.mbox_link.specs.Exchange.{ticked}
use Rattle.mbox_link.specs.Calls.{Meaning}
use Rattle.ipc3_trace.specs.declared.entry.Entry.{Entry}
use Rattle.ipc3_trace.specs.declared.entry.Entry.TheVariants.{Boot, Cut, Request, Reply, Tick, Lost}
use Rattle.ipc3_trace.specs.declared.fault.ReplayFault.{ReplayFault}
use Rattle.ipc3_trace.specs.Records.{IsEntry, records_bytes}
use Rattle.ipc3_trace.specs.Steps.{no_ports}
use Rattle.ipc3_trace.specs.AlongCalls.{back_of}
use Rattle.ipc3_trace.specs.WholeTraces.{IsTraceOf}
use Rattle.ipc3_trace.proofs.WholeLaws.{one-trace, written-stand}
use Rattle.run_replay.specs.Replaying.{next_place, order_where, back_fault, on_after}
use Rattle.run_replay.specs.Replays.{fault_from, replay_fault, ReplayVerdict}
use Rattle.run_serve.specs.Placed.{may_come, backs_of}
use Rattle.run_serve.specs.Serving.{ServeRound, AreRounds, served_entries, backs_in, unsent_round}
use Rattle.run_serve.specs.ServeLaws.{merged_entries, ServedReplays}
use Rattle.run_serve.proofs.FirmwareReplies.{replies_from}

-- ---- they are records

all-append : (es fs : List Entry) → AllByRecursion IsEntry es → AllByRecursion IsEntry fs → AllByRecursion IsEntry (es ++ fs)
all-append [] fs are others = others
all-append (e ∷ es) fs are others = (are.0, all-append es fs are.1 others)

merged-are : (room : ℕ) (on : Bool) (rs : List ServeRound) (after : Bool) → AreRounds room on rs after → AllByRecursion IsEntry (merged_entries rs)
merged-are room on [] after are = tt
merged-are room on (r ∷ rs) after are =
    (are.0.is, all-append (backs_of r.entry r.answer) (merged_entries rs) are.0.backs (merged-are room _ rs after are.1))

-- ---- each is in its place, and each reply is the one that is awaited

same-bytes : (reply : List ℕ) → bytes_eq reply reply ≡ true
same-bytes reply = (bytes_eq-Decides reply reply).1 refl

back-right : (reply : List ℕ) (at : ℕ) (back : Entry) → back ≡ Reply reply → back_fault reply at back ≡ None
back-right reply at back is = ap (back_fault reply at) is ∙ rw (same-bytes reply) refl

or-none : {A : Type 0} (o rest : Option A) → o ≡ None → rest ≡ None → option_or o rest ≡ None
or-none None rest none is = is
or-none (Some a) rest none is = absurd (cc none)

boot-right : (room heap at : ℕ) → nat_le heap room ≡ true → order_where (nat_lt room heap) at ≡ None
boot-right room heap at fits = ap (λ b. order_where b at) (le-ltb room heap (leb-true heap room fits))

-- the front of two lists
heads : (a b : Entry) (es fs : List Entry) → a ∷ es ≡ b ∷ fs → (a ≡ b) × (es ≡ fs)
heads a b es fs is = (cc is, cc is)

module _ (room : ℕ) where
  abbrev Right : List ServeRound → Type 0
  Right rs = (extra : List ServeRound) (s : Option FwState) (at : ℕ) (after : Bool) → AreRounds room (is_some s) rs after → backs_in (rs ++ extra) ≡ replies_from s (served_entries (rs ++ extra)) → fault_from room (merged_entries rs) None s None at ≡ None

  module _ (rs : List ServeRound) (others : Right rs) (extra : List ServeRound) (at : ℕ) (after : Bool) where
    abbrev later : List Entry
    later = served_entries (rs ++ extra)

    message-right : (message : List ℕ) (answer : Option (List ℕ)) (f : FwState) → AreRounds room true rs after → back_of answer ∷ backs_in (rs ++ extra) ≡ replies_from (Some f) (Request message ∷ later) → fault_from room (Request message ∷ back_of answer ∷ merged_entries rs) None (Some f) None at ≡ None
    message-right message answer f are is =
        let reply = (step f message).1 in
        let next = next_place at (Request message) in
        let both = heads (back_of answer) (Reply reply) (backs_in (rs ++ extra)) (replies_from (Some (step f message).0) later) is in
        subst (λ back. fault_from room (Request message ∷ back ∷ merged_entries rs) None (Some f) None at ≡ None) (sym both.0)
        (or-none (back_fault reply next (Reply reply)) (fault_from room (merged_entries rs) None (Some (step f message).0) None (next_place next (Reply reply))) (back-right reply next (Reply reply) refl)
        (others extra (Some (step f message).0) (next_place next (Reply reply)) after are both.1))

    one-right : (s : Option FwState) (e : Entry) (answer : Option (List ℕ)) → may_come room (is_some s) e ≡ true → AreRounds room (on_after (is_some s) e) rs after → backs_of e answer ++ backs_in (rs ++ extra) ≡ replies_from s (e ∷ later) → fault_from room (e ∷ (backs_of e answer ++ merged_entries rs)) None s None at ≡ None
    one-right None (Boot heap) answer may are is =
        or-none (order_where (nat_lt room heap) at) (fault_from room (merged_entries rs) None (Some (fresh heap)) None (next_place at (Boot heap))) (boot-right room heap at may)
        (others extra (Some (fresh heap)) (next_place at (Boot heap)) after are is)
    one-right (Some f) (Boot heap) answer may are is = absurd (cc may)
    one-right None Cut answer may are is = absurd (cc may)
    one-right (Some f) Cut answer may are is = others extra None (next_place at Cut) after are is
    one-right None (Request message) answer may are is = absurd (cc may)
    one-right (Some f) (Request message) answer may are is = message-right message answer f are is
    one-right s (Reply reply) answer may are is = absurd (cc may)
    one-right None Tick answer may are is = absurd (cc may)
    one-right (Some f) Tick answer may are is = others extra (Some (ticked (f, no_ports)).0) (next_place at Tick) after are is
    one-right s Lost answer may are is = absurd (cc may)

  rounds-right : (rs : List ServeRound) → Right rs
  rounds-right [] extra s at after are is = refl
  rounds-right (r ∷ rs) extra s at after are is = one-right rs (rounds-right rs) extra at after s r.entry r.answer are.0.may are.1 is

-- ---- all

some-fault : (fault : ReplayFault) → None ≡ Some fault → ⊥
some-fault fault e = cc e

-- what `replay` may end with, where the records of its bytes are known and none is at fault
verdict : (room : ℕ) (es : List Entry) → IsTraceOf (records_bytes es) es None → replay_fault room es None ≡ None → (name bytes : List ℕ) (calls : List DeskCall) (status : ℕ) → bytes ≡ records_bytes es → length bytes ≤ 16777216 → ReplayVerdict room name bytes calls status → (status ≡ 0) ⊎ ((status ≡ 3) ⊎ (status ≡ 7))
verdict room es trace right name bytes calls status is few (inl failed) = inr failed
verdict room es trace right name bytes calls status is few (inr (inl long)) = absurd (omega (arith, few, long.1))
verdict room es trace right name bytes calls status is few (inr (inr (inl (fs, end, fault, two, short, other, wrong, said)))) =
    let same = one-trace (records_bytes es) es fs None end trace (subst (λ b. IsTraceOf b fs end) is other) in
    let none : replay_fault room fs end ≡ None = (λ i. replay_fault room (sym same.0 i) (sym same.1 i)) ∙ right in
    absurd (some-fault fault (sym none ∙ wrong))
verdict room es trace right name bytes calls status is few (inr (inr (inr done))) = inl done.1

pub served-replay : {D P : Type 0} (means : DeskMeaning D) (dsp : Meaning P) → ServedReplays means dsp
served-replay means dsp names old new p q status done all calm =
    let s = all.served in
    let es = merged_entries s.rounds in
    let trace = written-stand es (merged-are (dsp.most p) false s.rounds s.after s.are) in
    let right = rounds-right (dsp.most p) s.rounds (unsent_round s.ending) None 0 s.after s.are (done.replied all calm) in
    record { trace = trace; right = right; replays = verdict (dsp.most p) es trace right }
