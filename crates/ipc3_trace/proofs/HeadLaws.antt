-- What the kind and the size at the front of bytes say of the record there.
use Rattle.std.proofs.Common.{◌≡◌, sym, ◌∙◌, ap, ℕ, ◌+◌, ◌<◌, ◌≤◌, ◌^◌, List, ◌++◌, length, take, drop, Some, cond, arith}
use Rattle.std.proofs.lemmas.List.{take-append-le, drop-append-le, length-drop, take_all}
use Rattle.std.specs.Int.{w32, from_le_bytes}
use Rattle.sof_base.specs.Slots.{word_at}
use Rattle.ipc3_trace.specs.declared.entry.Entry.{Entry}
use Rattle.ipc3_trace.specs.declared.entry.Entry.TheVariants.{Boot, Cut, Request, Reply, Tick, Lost}
use Rattle.ipc3_trace.specs.Kinds.{record_numbered, size_of_kind, size_after}
use Rattle.ipc3_trace.specs.Records.{record_kind, content_of, record_bytes, IsEntry}
use Rattle.ipc3_trace.specs.RecordsAt.{IsRecordAt}
use Rattle.ipc3_trace.proofs.Stands.{Stands, stands, length-spelled, known-again, takes-entry}

-- ---- kind and size stand in the first eight bytes

pub word-front : (front rest : List ℕ) (at : ℕ) → at + 4 ≤ length front → word_at (front ++ rest) at ≡ word_at front at
unfolding word_at
word-front front rest at there =
    let within : at ≤ length front = omega (arith, there) in
    let left : 4 ≤ length (drop at front) = omega (arith, there, length-drop at front) in
    ap (λ xs. from_le_bytes w32 (take 4 xs)) (drop-append-le at front rest within) ∙ ap (from_le_bytes w32) (take-append-le 4 (drop at front) rest left)

pub size-front : (front rest : List ℕ) → 8 ≤ length front → size_after (front ++ rest) ≡ size_after front
size-front front rest there = λ i. size_of_kind (record_numbered (word-front front rest 0 (omega (arith, there)) i)) (word-front front rest 4 (omega (arith, there)) i)

-- ---- a record of which no more is there than they announce

small : (e : Entry) → IsEntry e → length (content_of e) < 2 ^ 32
small (Boot heap) is = omega arith
small Cut is = omega arith
small (Request message) is = omega (arith, is)
small (Reply message) is = omega (arith, is.1)
small Tick is = omega arith
small Lost is = omega arith

pub whole-record : (bytes : List ℕ) (e : Entry) (next : ℕ) → (8 ≤ length bytes → length bytes ≤ 8 + size_after bytes) → IsRecordAt bytes 0 e next → bytes ≡ record_bytes e
whole-record bytes e next fits r =
    let kind = record_kind e in
    let body = content_of e in
    let s : Stands bytes 0 kind body = stands bytes 0 kind body (small e r.is) r.stands in
    let there : 8 + length body ≤ length bytes = omega (arith, s.there) in
    let known : record_numbered (word_at bytes 0) ≡ Some kind = ap record_numbered s.number ∙ known-again kind in
    let size : size_after bytes ≡ length body = (λ i. size_of_kind (known i) (s.size i)) ∙ ap (λ t. cond t (length body) 0) (takes-entry e r.is) in
    let most : length bytes ≤ 8 + size_after bytes = fits (omega (arith, there)) in
    let long : length (record_bytes e) ≡ 8 + length body = length-spelled kind body in
    let few : length bytes ≤ length (record_bytes e) = omega (arith, most, size, long) in
    sym (take_all (length (record_bytes e)) bytes few) ∙ r.stands
