-- Bytes have one trace, and what is written as records is read as them.
use Rattle.std.proofs.Common.{◌≡◌, ℕ, zero, suc, ◌+◌, ◌-◌, ◌≤◌, ◌<◌, List, [], ◌∷◌, ◌++◌, length, take, drop, Option, Some, None, Result, Ok, Err, refl, sym, ap, subst, ◌∙◌, arith, length-append, zero-add}
use Rattle.std.specs.List.{AllByRecursion}
use Rattle.std.proofs.lemmas.List.{length-take, length-drop}
use Rattle.std.proofs.Math.Seq.{take-append_seam, drop-append_seam, take-length}
use Rattle.sof_base.specs.Slots.{part}
use Rattle.sof_base.proofs.FieldLaws.{IsBytes, part-add}
use Rattle.ipc3_trace.specs.declared.entry.Entry.{Entry}
use Rattle.ipc3_trace.specs.declared.entry.Next.{Next}
use Rattle.ipc3_trace.specs.declared.entry.Next.TheVariants.{End, One}
use Rattle.ipc3_trace.specs.declared.fault.TraceFault.{TraceFault}
use Rattle.ipc3_trace.specs.Records.{record_kind, content_of, record_bytes, records_bytes, IsEntry}
use Rattle.ipc3_trace.specs.RecordsAt.{IsRecordAt}
use Rattle.ipc3_trace.specs.TraceFaults.{IsFaultAt}
use Rattle.ipc3_trace.specs.WholeTraces.{IsOverAt, IsTraceOf}
use Rattle.ipc3_trace.specs.Reading.{next_in, found_then, found_from, trace_in}
use Rattle.ipc3_trace.proofs.Stands.{length-spelled}
use Rattle.ipc3_trace.proofs.RecordLaws.{IsRight, next-right, found, faulted}

-- ---- one record

-- a record that is written is read, whatever stands before and after it
pub stands-again : (e : Entry) (front rest : List ℕ) → IsEntry e → IsRecordAt (front ++ (record_bytes e ++ rest)) (length front) e (length front + length (record_bytes e))
stands-again e front rest is = record {
  is = is;
  stands = ap (take (length (record_bytes e))) (drop-append_seam front (record_bytes e ++ rest)) ∙ take-append_seam (record_bytes e) rest;
  behind = refl;
}

abbrev ok : Next → Result Next TraceFault
ok next = Ok next

abbrev err : TraceFault → Result Next TraceFault
err fault = Err fault

same-next : (a b : Next) → ok a ≡ ok b → a ≡ b
same-next a b e = cc

same-record : (e f : Entry) (m n : ℕ) → One e m ≡ One f n → (e ≡ f) × (m ≡ n)
same-record e f m n h = (cc, cc)

pub one-record : (b : List ℕ) (at : ℕ) (e f : Entry) (m n : ℕ) → IsRecordAt b at e m → IsRecordAt b at f n → (e ≡ f) × (m ≡ n)
one-record b at e f m n h k = same-record e f m n (same-next (One e m) (One f n) (sym (found b at (One e m) h) ∙ found b at (One f n) k))

-- ---- records from a place on

-- these records stand one after the other from a place on, up to the end or to the first fault
abbrev pub StandFrom : List ℕ → ℕ → List Entry → Option TraceFault → Type 0
StandFrom bytes at [] fault = IsOverAt bytes at fault
StandFrom bytes at (e ∷ es) fault = (next : ℕ) × IsRecordAt bytes at e next × StandFrom bytes next es fault

-- what is next where bytes end or are at fault
ended : (b : List ℕ) (at : ℕ) (end : Option TraceFault) → IsOverAt b at end → Result Next TraceFault
ended b at None h = Ok End
ended b at (Some fault) h = Err fault

ended-is : (b : List ℕ) (at : ℕ) (end : Option TraceFault) (h : IsOverAt b at end) → next_in b at ≡ ended b at end h
unfolding ended
ended-is b at None h = found b at End h
ended-is b at (Some fault) h = faulted b at fault h.1

one-end : (b : List ℕ) (at : ℕ) (x y : Option TraceFault) → IsOverAt b at x → IsOverAt b at y → x ≡ y
one-end b at None None h k = refl
one-end b at None (Some f) h k = let e : ok End ≡ err f = sym (found b at End h) ∙ faulted b at f k.1 in absurd (cc e)
one-end b at (Some f) None h k = let e : ok End ≡ err f = sym (found b at End k) ∙ faulted b at f h.1 in absurd (cc e)
one-end b at (Some f) (Some g) h k = let e : err f ≡ err g = sym (faulted b at f h.1) ∙ faulted b at g k.1 in cc

no-record : (b : List ℕ) (at : ℕ) (x : Option TraceFault) (e : Entry) (next : ℕ) → IsOverAt b at x → IsRecordAt b at e next → ⊥
no-record b at None e next h k = let same : ok End ≡ ok (One e next) = sym (found b at End h) ∙ found b at (One e next) k in cc same
no-record b at (Some f) e next h k = let same : err f ≡ ok (One e next) = sym (faulted b at f h.1) ∙ found b at (One e next) k in cc same

one-from : (b : List ℕ) (at : ℕ) (es fs : List Entry) (x y : Option TraceFault) → StandFrom b at es x → StandFrom b at fs y → (es ≡ fs) × (x ≡ y)
one-from b at [] [] x y h k = (refl, one-end b at x y h k)
one-from b at [] (f ∷ fs) x y h (next, k, rest) = absurd (no-record b at x f next h k)
one-from b at (e ∷ es) [] x y (next, h, rest) k = absurd (no-record b at y e next k h)
one-from b at (e ∷ es) (f ∷ fs) x y (m, h, more) (n, k, rest) =
    let here = one-record b at e f m n h k in
    let later = one-from b m es fs x y more (subst (λ (p : ℕ). StandFrom b p fs y) (sym here.1) rest) in
    ((λ i. here.0 i ∷ later.0 i), later.1)

-- ---- and as a whole

length-front : (b : List ℕ) (at n m : ℕ) (whole : List ℕ) → part b at (n + m) ≡ whole → length whole ≡ n + m → length (part b at n) ≡ n
length-front b at n m whole e long = omega (arith, ap length e, long, length-take (n + m) (drop at b), length-take n (drop at b))

-- the part of bytes that a front of records and those after it take
from-parts : (b : List ℕ) (at : ℕ) (es : List Entry) (end : Option TraceFault) → AllByRecursion IsEntry es → part b at (length (records_bytes es)) ≡ records_bytes es → IsOverAt b (at + length (records_bytes es)) end → StandFrom b at es end
from-parts b at [] end are stand ends = subst (λ (p : ℕ). IsOverAt b p end) (omega arith) ends
from-parts b at (e ∷ es) end are stand ends =
    let r = record_bytes e in
    let rs = records_bytes es in
    let n = length r in
    let long : length (r ++ rs) ≡ n + length rs = length-append r rs in
    let both : part b at n ++ part b (at + n) (length rs) ≡ r ++ rs = sym (part-add b at n (length rs)) ∙ ap (part b at) (sym long) ∙ stand in
    let first : length (part b at n) ≡ n = length-front b at n (length rs) (r ++ rs) (ap (part b at) (sym long) ∙ stand) long in
    let here : part b at n ≡ r = sym (take-append_seam (part b at n) (part b (at + n) (length rs))) ∙ (λ i. take (first i) (both i)) ∙ take-append_seam r rs in
    let later : part b (at + n) (length rs) ≡ rs = sym (drop-append_seam (part b at n) (part b (at + n) (length rs))) ∙ (λ i. drop (first i) (both i)) ∙ drop-append_seam r rs in (
      at + n,
      record { is = are.0; stands = here; behind = refl },
      from-parts b (at + n) es end are.1 later (subst (λ (p : ℕ). IsOverAt b p end) (omega (arith, long)) ends),
    )

pub one-trace : (b : List ℕ) (es fs : List Entry) (x y : Option TraceFault) → IsTraceOf b es x → IsTraceOf b fs y → (es ≡ fs) × (x ≡ y)
one-trace b es fs x y h k =
    one-from b 0 es fs x y
    (from-parts b 0 es x h.are h.stand (subst (λ (p : ℕ). IsOverAt b p x) (sym (zero-add (length (records_bytes es)))) h.ends))
    (from-parts b 0 fs y k.are k.stand (subst (λ (p : ℕ). IsOverAt b p y) (sym (zero-add (length (records_bytes fs)))) k.ends))

-- ---- each list of bytes has one

-- records that stand from a place on, as a part of the bytes
record Whole (b : List ℕ) (at : ℕ) (es : List Entry) (end : Option TraceFault) : Type 0 where
  are : AllByRecursion IsEntry es
  stand : part b at (length (records_bytes es)) ≡ records_bytes es
  ends : IsOverAt b (at + length (records_bytes es)) end

from-whole : (b : List ℕ) (at : ℕ) (es : List Entry) (end : Option TraceFault) → StandFrom b at es end → Whole b at es end
from-whole b at [] end ends = record { are = tt; stand = refl; ends = subst (λ (p : ℕ). IsOverAt b p end) (omega arith) ends }
from-whole b at (e ∷ es) end (next, r, rest) =
    let n = length (record_bytes e) in
    let rs = records_bytes es in
    let later = from-whole b next es end rest in
    let long : length (record_bytes e ++ rs) ≡ n + length rs = length-append (record_bytes e) rs in
    record {
      are = (r.is, later.are);
      stand = ap (part b at) long ∙ part-add b at n (length rs) ∙ (λ i. r.stands i ++ part b (sym r.behind i) (length rs)) ∙ ap (λ (t : List ℕ). record_bytes e ++ t) later.stand;
      ends = subst (λ (p : ℕ). IsOverAt b p end) (omega (arith, r.behind, long)) later.ends;
    }

record-within : (b : List ℕ) (at : ℕ) (e : Entry) (next : ℕ) → at ≤ length b → IsRecordAt b at e next → (at + 8 ≤ next) × (next ≤ length b)
record-within b at e next within r =
    let eight : length (record_bytes e) ≡ 8 + length (content_of e) = length-spelled (record_kind e) (content_of e) in
    (omega (arith, r.behind, eight), omega (arith, r.behind, eight, ap length r.stands, length-take (length (record_bytes e)) (drop at b), length-drop at b))

-- what is read is the trace
module _ (b : List ℕ) (is : IsBytes b) where
  abbrev Stands : ℕ → List Entry × Option TraceFault → Type 0
  Stands at found = StandFrom b at found.0 found.1

  then-stands : (at : ℕ) (more : ℕ → List Entry × Option TraceFault) → at ≤ length b → ((next : ℕ) → at + 8 ≤ next → next ≤ length b → Stands next (more next)) →
      (r : Result Next TraceFault) → IsRight b at r → Stands at (found_then r more)
  then-stands at more within later (Ok End) h = h
  then-stands at more within later (Ok (One e next)) h = let place = record-within b at e next within h in (next, h, later next place.0 place.1)
  then-stands at more within later (Err fault) h = (within, h)

  found-stands : (n at : ℕ) → at ≤ length b → length b - at < suc n → Stands at (found_from (suc n) b at)
  unfolding found_from
  found-stands zero at within left =
      then-stands at (λ next. found_from zero b next) within (λ next far near. absurd (omega (arith, within, left, far, near))) (next_in b at) (next-right b at is within)
  found-stands (suc n) at within left =
      then-stands at (λ next. found_from (suc n) b next) within (λ next far near. found-stands n next near (omega (arith, within, left, far, near))) (next_in b at) (next-right b at is within)

pub stands-in : (b : List ℕ) → IsBytes b → StandFrom b 0 (trace_in b).0 (trace_in b).1
stands-in b is = found-stands b is (length b) 0 (omega arith) (omega arith)

pub has-trace : (b : List ℕ) → IsBytes b → IsTraceOf b (trace_in b).0 (trace_in b).1
has-trace b is =
    let whole = from-whole b 0 (trace_in b).0 (trace_in b).1 (stands-in b is) in
    record { are = whole.are; stand = whole.stand; ends = subst (λ (p : ℕ). IsOverAt b p (trace_in b).1) (zero-add (length (records_bytes (trace_in b).0))) whole.ends }

-- records that are written are a trace of them
pub written-stand : (es : List Entry) → AllByRecursion IsEntry es → IsTraceOf (records_bytes es) es None
written-stand es are = record { are = are; stand = take-length (records_bytes es); ends = refl }

-- ---- by what is read at a place

pub goes-on : (b : List ℕ) (at : ℕ) (es : List Entry) (x : Option TraceFault) (e : Entry) (next : ℕ) → StandFrom b at es x → IsRecordAt b at e next → (rest : List Entry) × (es ≡ e ∷ rest) × StandFrom b next rest x
goes-on b at [] x e next ends r = absurd (no-record b at x e next ends r)
goes-on b at (f ∷ es) x e next (n, s, rest) r =
    let same = one-record b at f e n next s r in (es, (λ i. same.0 i ∷ es), subst (λ (p : ℕ). StandFrom b p es x) same.1 rest)

pub ends-here : (b : List ℕ) (at : ℕ) (es : List Entry) (x y : Option TraceFault) → StandFrom b at es x → IsOverAt b at y → (es ≡ []) × (x ≡ y)
ends-here b at es x y h k = one-from b at es [] x y h k

pub next-within : (b : List ℕ) (at : ℕ) (e : Entry) (next : ℕ) → at ≤ length b → IsRecordAt b at e next → (at < next) × (next ≤ length b)
next-within b at e next within r = let place = record-within b at e next within r in (omega (arith, place.0), place.1)

-- from a place on bytes end so
abbrev pub EndFrom : List ℕ → ℕ → Option TraceFault → Type 0
EndFrom b at end = (es : List Entry) × StandFrom b at es end

pub end-first : (b : List ℕ) → IsBytes b → EndFrom b 0 (trace_in b).1
end-first b is = ((trace_in b).0, stands-in b is)

pub end-more : (b : List ℕ) (at : ℕ) (e : Entry) (next : ℕ) (x : Option TraceFault) → EndFrom b at x → IsRecordAt b at e next → EndFrom b next x
end-more b at e next x left r = let on = goes-on b at left.0 x e next left.1 r in (on.0, on.2)

pub end-none : (b : List ℕ) (at : ℕ) (x : Option TraceFault) → EndFrom b at x → at ≡ length b → None ≡ x
end-none b at x left here = sym (ends-here b at left.0 x None left.1 here).1

pub end-fault : (b : List ℕ) (at : ℕ) (x : Option TraceFault) (fault : TraceFault) → EndFrom b at x → at ≤ length b → IsFaultAt b at fault → Some fault ≡ x
end-fault b at x fault left within is = sym (ends-here b at left.0 x (Some fault) left.1 (within, is)).1
