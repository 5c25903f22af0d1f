-- What was brought is one record and no more.
use Rattle.std.proofs.Common.{◌≡◌, ◌⊎◌, inl, inr, refl, sym, subst, ℕ, ◌+◌, ◌<◌, ◌≤◌, Bool, true, false, nat_lt, List, [], ◌∷◌, ◌++◌, length, arith, length-append}
use Rattle.std.proofs.lemmas.Bool.{ltb-true, ltb-false}
use Rattle.ipc3_trace.specs.declared.entry.Entry.{Entry}
use Rattle.ipc3_trace.specs.Kinds.{size_after}
use Rattle.ipc3_trace.specs.Records.{record_bytes}
use Rattle.ipc3_trace.specs.RecordsAt.{IsRecordAt}
use Rattle.ipc3_trace.proofs.HeadLaws.{size-front, whole-record}
use Rattle.run_serve.specs.Reads.{asked, Brings}
use Rattle.run_serve.proofs.RecordReads.{asked-head, asked-body}

-- no more is there than kind and size announce
abbrev Fits : List ℕ → Type 0
Fits bytes = 8 ≤ length bytes → length bytes ≤ 8 + size_after bytes

few-or : (n : ℕ) → (n < 8) ⊎ (8 ≤ n)
few-or n = by (nat_lt n 8) refl
  where
    by : (t : Bool) → nat_lt n 8 ≡ t → (n < 8) ⊎ (8 ≤ n)
    by true is = inl (ltb-true n 8 is)
    by false is = inr (ltb-false n 8 is)

fits-more : (part piece : List ℕ) → Fits part → 0 < length piece → length piece ≤ asked part → Fits (part ++ piece)
fits-more part piece fits some within there = by (few-or (length part))
  where
    by : (length part < 8) ⊎ (8 ≤ length part) → length (part ++ piece) ≤ 8 + size_after (part ++ piece)
    by (inl few) = omega (arith, length-append part piece, within, asked-head part few, few)
    by (inr head) = omega (arith, length-append part piece, within, some, asked-body part head, fits head, size-front part piece head)

brought-fits : (pieces : List (List ℕ)) (part all : List ℕ) → Brings part pieces all → Fits part → Fits all
brought-fits [] part all (none, is) fits = subst Fits (sym is) fits
brought-fits (piece ∷ pieces) part all (more, inl (none, last, is)) fits = subst Fits (sym is) fits
brought-fits (piece ∷ pieces) part all (more, inr (some, within, brings)) fits = brought-fits pieces (part ++ piece) all brings (fits-more part piece fits some within)

pub one-record : (pieces : List (List ℕ)) (bytes : List ℕ) (e : Entry) (next : ℕ) → Brings [] pieces bytes → IsRecordAt bytes 0 e next → bytes ≡ record_bytes e
one-record pieces bytes e next brings = whole-record bytes e next (brought-fits pieces [] bytes brings (λ none. absurd (omega (arith, none))))
