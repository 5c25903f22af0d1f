-- What the bytes of a record say of the bytes that it stands in, and back.
use Rattle.std.proofs.Common.{◌≡◌, ℕ, ◌+◌, ◌<◌, ◌≤◌, ◌^◌, true, List, ◌++◌, length, take, drop, Some, refl, sym, ap, ◌∙◌, arith, length-append}
use Rattle.std.proofs.lemmas.Bool.{eqb-true, leb-true, le-leb, and_parts}
use Rattle.std.proofs.lemmas.List.{length-take, length-drop, nil_from_length, take-take}
use Rattle.std.proofs.lemmas.Nat.{le_bytes_4, from_le_bytes-to_le_bytes_4}
use Rattle.std.proofs.Math.Seq.{take-append_seam, drop-append_seam, take-length}
use Rattle.std.specs.Int.{w32, from_le_bytes, to_le_bytes}
use Rattle.sof_base.specs.Slots.{part, word_at}
use Rattle.sof_base.proofs.FieldLaws.{IsBytes, IsBytes-part, length-part, part-add}
use Rattle.ipc3_trace.specs.declared.kind.RecordKind.{RecordKind}
use Rattle.ipc3_trace.specs.declared.kind.RecordKind.TheVariants as kinds
use Rattle.ipc3_trace.specs.declared.entry.Entry.{Entry}
use Rattle.ipc3_trace.specs.declared.entry.Entry.TheVariants.{Boot, Cut, Request, Reply, Tick, Lost}
use Rattle.ipc3_trace.specs.Kinds.{record_number, record_numbered, takes_size}
use Rattle.ipc3_trace.specs.Records.{record_kind, content_of, spelled, record_bytes, IsEntry}
use Rattle.ipc3_trace.specs.Reading.{entry_in}

-- ---- lists that are joined

fronts : (xs us ys vs : List ℕ) → length xs ≡ length us → xs ++ ys ≡ us ++ vs → xs ≡ us
fronts xs us ys vs n e = sym (take-append_seam xs ys) ∙ (λ i. take (n i) (e i)) ∙ take-append_seam us vs

rests : (xs us ys vs : List ℕ) → length xs ≡ length us → xs ++ ys ≡ us ++ vs → ys ≡ vs
rests xs us ys vs n e = sym (drop-append_seam xs ys) ∙ (λ i. drop (n i) (e i)) ∙ drop-append_seam us vs

-- ---- kind, size and bytes

pub length-spelled : (kind : RecordKind) (body : List ℕ) → length (spelled kind body) ≡ 8 + length body
unfolding spelled
length-spelled kind body = omega (arith, length-append (to_le_bytes w32 (record_number kind)) (to_le_bytes w32 (length body) ++ body), length-append (to_le_bytes w32 (length body)) body)

kind-small : (kind : RecordKind) → record_number kind < 2 ^ 32
kind-small kinds.Boot = omega arith
kind-small kinds.Cut = omega arith
kind-small kinds.Request = omega arith
kind-small kinds.Reply = omega arith
kind-small kinds.Tick = omega arith
kind-small kinds.Lost = omega arith

-- these words and bytes stand at a place
pub record Stands (b : List ℕ) (at : ℕ) (kind : RecordKind) (body : List ℕ) : Type 0 where
  pub there : at + 8 + length body ≤ length b
  pub number : word_at b at ≡ record_number kind
  pub size : word_at b (at + 4) ≡ length body
  pub bytes : part b (at + 8) (length body) ≡ body

-- a record's bytes are its words and bytes
parts : (b : List ℕ) (at n : ℕ) → part b at (8 + n) ≡ part b at 4 ++ (part b (at + 4) 4 ++ part b (at + 8) n)
parts b at n =
    let k : 8 + n ≡ 4 + (4 + n) = omega arith in
    let p : at + 4 + 4 ≡ at + 8 = omega arith in
    ap (part b at) k ∙ part-add b at 4 (4 + n) ∙ ap (λ (t : List ℕ). part b at 4 ++ t) (part-add b (at + 4) 4 n ∙ ap (λ (q : ℕ). part b (at + 4) 4 ++ part b q n) p)

pub stands : (b : List ℕ) (at : ℕ) (kind : RecordKind) (body : List ℕ) → length body < 2 ^ 32 → part b at (length (spelled kind body)) ≡ spelled kind body → Stands b at kind body
unfolding spelled word_at
stands b at kind body few e =
    let n = length body in
    let long : length (spelled kind body) ≡ 8 + n = length-spelled kind body in
    let whole : part b at (8 + n) ≡ spelled kind body = ap (part b at) (sym long) ∙ e in
    let size : length (part b at (8 + n)) ≡ 8 + n = ap length whole ∙ long in
    let there : at + 8 + n ≤ length b = omega (arith, size, length-take (8 + n) (drop at b), length-drop at b) in
    let all = sym (parts b at n) ∙ whole in
    let first = length-part b at 4 (omega (arith, there)) in
    let second = length-part b (at + 4) 4 (omega (arith, there)) in
    let k = to_le_bytes w32 (record_number kind) in
    let s = to_le_bytes w32 n in
    let behind = rests (part b at 4) k (part b (at + 4) 4 ++ part b (at + 8) n) (s ++ body) first all in
    record {
      there = there;
      number = ap (from_le_bytes w32) (fronts (part b at 4) k (part b (at + 4) 4 ++ part b (at + 8) n) (s ++ body) first all) ∙ from_le_bytes-to_le_bytes_4 (record_number kind) (kind-small kind);
      size = ap (from_le_bytes w32) (fronts (part b (at + 4) 4) s (part b (at + 8) n) body second behind) ∙ from_le_bytes-to_le_bytes_4 n few;
      bytes = rests (part b (at + 4) 4) s (part b (at + 8) n) body second behind;
    }

pub stood : (b : List ℕ) (at : ℕ) (kind : RecordKind) (body : List ℕ) → IsBytes b → Stands b at kind body → part b at (length (spelled kind body)) ≡ spelled kind body
unfolding spelled word_at
stood b at kind body is s =
    let n = length body in
    let there = s.there in
    let first : to_le_bytes w32 (record_number kind) ≡ part b at 4 = le_bytes_4 (part b at 4) _ (length-part b at 4 (omega (arith, there))) (IsBytes-part b at 4 is) (sym s.number) in
    let second : to_le_bytes w32 n ≡ part b (at + 4) 4 = le_bytes_4 (part b (at + 4) 4) _ (length-part b (at + 4) 4 (omega (arith, there))) (IsBytes-part b (at + 4) 4 is) (sym s.size) in
    ap (part b at) (length-spelled kind body) ∙ parts b at n ∙ (λ i. sym first i ++ (sym second i ++ s.bytes i))

-- ---- records

pub known-again : (kind : RecordKind) → record_numbered (record_number kind) ≡ Some kind
known-again kinds.Boot = refl
known-again kinds.Cut = refl
known-again kinds.Request = refl
known-again kinds.Reply = refl
known-again kinds.Tick = refl
known-again kinds.Lost = refl

pub takes-entry : (e : Entry) → IsEntry e → takes_size (record_kind e) (length (content_of e)) ≡ true
takes-entry (Boot heap) is = refl
takes-entry Cut is = refl
takes-entry (Request message) is = le-leb _ _ is
takes-entry (Reply message) is = rw (le-leb 12 (length message) is.0, le-leb (length message) 384 is.1) refl
takes-entry Tick is = refl
takes-entry Lost is = refl

pub entry-again : (e : Entry) → IsEntry e → entry_in (record_kind e) (content_of e) ≡ e
unfolding word_at
entry-again (Boot heap) is = ap Boot (from_le_bytes-to_le_bytes_4 heap is)
entry-again Cut is = refl
entry-again (Request message) is = refl
entry-again (Reply message) is = refl
entry-again Tick is = refl
entry-again Lost is = refl

-- a record of a kind with bytes of a right number
pub record Made (kind : RecordKind) (body : List ℕ) : Type 0 where
  pub is : IsEntry (entry_in kind body)
  pub same : record_bytes (entry_in kind body) ≡ spelled kind body

-- four bytes are a number below 2 ^ 32
below : (body front : List ℕ) → front ≡ body → IsBytes body → from_le_bytes w32 front < 2 ^ 32
below body front e is = rw e (omega (arith, is 0, is 1, is 2, is 3))

pub made : (kind : RecordKind) (body : List ℕ) → IsBytes body → takes_size kind (length body) ≡ true → Made kind body
unfolding word_at
made kinds.Boot body is t =
    let four : length body ≡ 4 = eqb-true (length body) 4 t in
    let one : take 4 body ≡ body = ap (λ (n : ℕ). take n body) (sym four) ∙ take-length body in
    let same : to_le_bytes w32 (from_le_bytes w32 (take 4 body)) ≡ body = ap (λ (x : List ℕ). to_le_bytes w32 (from_le_bytes w32 x)) one ∙ le_bytes_4 body _ four is refl in
    record { is = below body (take 4 body) one is; same = ap (spelled kinds.Boot) same }
made kinds.Cut body is t = record { is = tt; same = ap (spelled kinds.Cut) (sym (nil_from_length body (eqb-true (length body) 0 t))) }
made kinds.Request body is t = record { is = leb-true (length body) 384 t; same = refl }
made kinds.Reply body is t = let both = and_parts _ _ t in record { is = (leb-true 12 (length body) both.0, leb-true (length body) 384 both.1); same = refl }
made kinds.Tick body is t = record { is = tt; same = ap (spelled kinds.Tick) (sym (nil_from_length body (eqb-true (length body) 0 t))) }
made kinds.Lost body is t = record { is = tt; same = ap (spelled kinds.Lost) (sym (nil_from_length body (eqb-true (length body) 0 t))) }

-- a word at a place is the first word of the part that begins there
pub word-part : (b : List ℕ) (at size : ℕ) → size ≡ 4 → word_at (part b at size) 0 ≡ word_at b at
unfolding word_at
word-part b at size four =
    ap (λ (n : ℕ). from_le_bytes w32 (take 4 (take n (drop at b)))) four ∙ ap (from_le_bytes w32) (take-take 4 4 (drop at b) (omega arith))
