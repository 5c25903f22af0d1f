-- What a reader finds at a place stands there, and what stands there is found: records, the end and faults.
use Rattle.std.proofs.Common.{◌≡◌, inl, inr, ℕ, ◌+◌, ◌<◌, ◌≤◌, ◌^◌, Bool, true, false, List, length, Option, Some, None, Result, Ok, Err, cond, refl, sym, ap, subst, ◌∙◌, arith, nat_lt, ◌==◌, ◌↔◌}
use Rattle.std.proofs.lemmas.Bool.{eqb-true, eq-eqb, ne_eqb, ltb-true, ltb-false, lt-ltb, le-ltb, eqb-false}
use Rattle.sof_base.specs.Slots.{part, word_at}
use Rattle.sof_base.proofs.FieldLaws.{IsBytes, IsBytes-part, length-part}
use Rattle.ipc3_trace.specs.declared.kind.RecordKind.{RecordKind}
use Rattle.ipc3_trace.specs.declared.kind.RecordKind.TheVariants as kinds
use Rattle.ipc3_trace.specs.declared.entry.Entry.{Entry}
use Rattle.ipc3_trace.specs.declared.entry.Entry.TheVariants.{Boot, Cut, Request, Reply, Tick, Lost}
use Rattle.ipc3_trace.specs.declared.entry.Next.{Next}
use Rattle.ipc3_trace.specs.declared.entry.Next.TheVariants.{End, One}
use Rattle.ipc3_trace.specs.declared.fault.TraceFault.{TraceFault}
use Rattle.ipc3_trace.specs.declared.fault.TraceFault.TheVariants.{Short, Kind, Size}
use Rattle.ipc3_trace.specs.Kinds.{record_number, record_numbered, takes_size}
use Rattle.ipc3_trace.specs.Records.{record_kind, content_of, IsEntry}
use Rattle.ipc3_trace.specs.RecordsAt.{IsNext}
use Rattle.ipc3_trace.specs.TraceFaults.{HasKind, IsFaultAt}
use Rattle.ipc3_trace.specs.Reading.{entry_in, whole_in, sized_in, headed_in, next_in}
use Rattle.ipc3_trace.proofs.Stands.{Stands, stands, stood, length-spelled, known-again, takes-entry, entry-again, Made, made}

-- ---- what is found stands there

-- what was found is right
abbrev pub IsRight : List ℕ → ℕ → Result Next TraceFault → Type 0
IsRight b at (Ok there) = IsNext b at there
IsRight b at (Err fault) = IsFaultAt b at fault

-- the kind of a number has it
by_test : (n k : ℕ) (kind kind' : RecordKind) (rest : Option RecordKind) (t : Bool) → (n == k) ≡ t → record_number kind' ≡ k → cond t (Some kind') rest ≡ Some kind → (rest ≡ Some kind → record_number kind ≡ n) → record_number kind ≡ n
by_test n k kind kind' rest true e is h more = let same : kind' ≡ kind = cc in ap record_number (sym same) ∙ is ∙ sym (eqb-true n k e)
by_test n k kind kind' rest false e is h more = more h

pub numbered-is : (n : ℕ) (kind : RecordKind) → record_numbered n ≡ Some kind → record_number kind ≡ n
numbered-is n kind h =
    by_test n 1 kind kinds.Boot _ (n == 1) refl refl h (λ h.
    by_test n 2 kind kinds.Cut _ (n == 2) refl refl h (λ h.
    by_test n 3 kind kinds.Request _ (n == 3) refl refl h (λ h.
    by_test n 4 kind kinds.Reply _ (n == 4) refl refl h (λ h.
    by_test n 5 kind kinds.Tick _ (n == 5) refl refl h (λ h.
    by_test n 6 kind kinds.Lost None (n == 6) refl refl h (λ h. absurd (cc h)))))))

before : (m n : ℕ) → m ≤ n → (m ≡ n → ⊥) → m < n
before m n within other = omega (arith, within, other)

module _ (b : List ℕ) (at : ℕ) (is : IsBytes b) where
  abbrev told_size : ℕ
  told_size = word_at b (at + 4)

  body-right : (kind : RecordKind) (t : Bool) → nat_lt (length b) (at + 8 + told_size) ≡ t → at + 8 ≤ length b → record_numbered (word_at b at) ≡ Some kind → record_number kind ≡ word_at b at → takes_size kind told_size ≡ true →
      IsRight b at (cond t (Err (Short at)) (Ok (One (entry_in kind (part b (at + 8) told_size)) (at + 8 + told_size))))
  body-right kind true e there known number takes =
      (refl, inr (kind, told_size, record { number = word_at b at; head = record { there = there; number_is = refl; size_is = refl }; known = known }, takes, ltb-true (length b) (at + 8 + told_size) e))
  body-right kind false e there known number takes =
      let body = part b (at + 8) told_size in
      let all : at + 8 + told_size ≤ length b = ltb-false (length b) (at + 8 + told_size) e in
      let long : length body ≡ told_size = length-part b (at + 8) told_size all in
      let m : Made kind body = made kind body (IsBytes-part b (at + 8) told_size is) (ap (takes_size kind) long ∙ takes) in
      let s : Stands b at kind body = record { there = omega (arith, long, all); number = sym number; size = sym long; bytes = ap (part b (at + 8)) long } in
      record {
        is = m.is;
        stands = ap (λ (r : List ℕ). part b at (length r)) m.same ∙ stood b at kind body is s ∙ sym m.same;
        behind = omega (arith, ap length m.same, length-spelled kind body, long);
      }

  size-right : (kind : RecordKind) (t : Bool) → takes_size kind told_size ≡ t → at + 8 ≤ length b → record_numbered (word_at b at) ≡ Some kind → record_number kind ≡ word_at b at →
      IsRight b at (cond t (whole_in b at kind told_size) (Err (Size at)))
  size-right kind true e there known number = body-right kind (nat_lt (length b) (at + 8 + told_size)) refl there known number e
  size-right kind false e there known number =
      (refl, (kind, told_size, record { number = word_at b at; head = record { there = there; number_is = refl; size_is = refl }; known = known }, e))

  kind-right : (k : Option RecordKind) → record_numbered (word_at b at) ≡ k → at + 8 ≤ length b → IsRight b at (sized_in b at k)
  kind-right None e there = (refl, (told_size, record { there = there; number_is = refl; size_is = refl }), e)
  kind-right (Some kind) e there = size-right kind (takes_size kind told_size) refl there e (numbered-is (word_at b at) kind e)

  head-right : (t : Bool) → nat_lt (length b) (at + 8) ≡ t → at < length b → IsRight b at (cond t (Err (Short at)) (sized_in b at (record_numbered (word_at b at))))
  head-right true e before = (refl, inl (before, ltb-true (length b) (at + 8) e))
  head-right false e before = kind-right (record_numbered (word_at b at)) refl (ltb-false (length b) (at + 8) e)

  end-right : (t : Bool) → (at == length b) ≡ t → at ≤ length b → IsRight b at (cond t (Ok End) (headed_in b at))
  end-right true e within = eqb-true at (length b) e
  end-right false e within = head-right (nat_lt (length b) (at + 8)) refl (before at (length b) within (eqb-false at (length b) e))

pub next-right : (b : List ℕ) (at : ℕ) → IsBytes b → at ≤ length b → IsRight b at (next_in b at)
unfolding next_in
next-right b at is within = end-right b at is (at == length b) refl within

-- ---- what stands there is found

not_end : (b : List ℕ) (at : ℕ) → at < length b → (at == length b) ≡ false
not_end b at less = ne_eqb at (length b) (λ e. omega (arith, e, less))

-- kind and size are looked at where they are there
headed : (b : List ℕ) (at : ℕ) → at + 8 ≤ length b → next_in b at ≡ sized_in b at (record_numbered (word_at b at))
unfolding next_in
headed b at there = rw (not_end b at (omega (arith, there)), le-ltb (length b) (at + 8) there) refl

kinded : (b : List ℕ) (at : ℕ) (kind : RecordKind) (size : ℕ) → HasKind b at kind size → next_in b at ≡ cond (takes_size kind size) (whole_in b at kind size) (Err (Size at))
kinded b at kind size has =
    let known : record_numbered (word_at b at) ≡ Some kind = ap record_numbered (sym has.head.number_is) ∙ has.known in
    headed b at has.head.there ∙ ap (sized_in b at) known ∙ ap (λ (n : ℕ). cond (takes_size kind n) (whole_in b at kind n) (Err (Size at))) (sym has.head.size_is)

small : (e : Entry) → IsEntry e → length (content_of e) < 2 ^ 32
small (Boot heap) is = omega arith
small Cut is = omega arith
small (Request message) is = omega (arith, is)
small (Reply message) is = omega (arith, is.1)
small Tick is = omega arith
small Lost is = omega arith

pub found : (b : List ℕ) (at : ℕ) (there : Next) → IsNext b at there → next_in b at ≡ Ok there
unfolding next_in
found b at End e = rw (eq-eqb at (length b) e) refl
found b at (One entry next) r =
    let kind = record_kind entry in
    let body = content_of entry in
    let s : Stands b at kind body = stands b at kind body (small entry r.is) r.stands in
    let there : at + 8 + length body ≤ length b = s.there in
    let has : HasKind b at kind (length body) = record { number = record_number kind; head = record { there = omega (arith, there); number_is = sym s.number; size_is = sym s.size }; known = known-again kind } in
    let next_is : at + 8 + length body ≡ next = omega (arith, r.behind, length-spelled kind body) in
    kinded b at kind (length body) has
    ∙ rw (takes-entry entry r.is, le-ltb (length b) (at + 8 + length body) there, s.bytes, entry-again entry r.is, next_is) refl

pub faulted : (b : List ℕ) (at : ℕ) (fault : TraceFault) → IsFaultAt b at fault → next_in b at ≡ Err fault
unfolding next_in
faulted b at (Short place) (same, inl cut) = rw (not_end b at cut.0, lt-ltb (length b) (at + 8) cut.1, same) refl
faulted b at (Short place) (same, inr (kind, size, has, takes, cut)) =
    kinded b at kind size has ∙ rw (takes, lt-ltb (length b) (at + 8 + size) cut, same) refl
faulted b at (Kind place number) (same, (size, head), unknown) =
    headed b at head.there ∙ ap (sized_in b at) (ap record_numbered (sym head.number_is) ∙ unknown) ∙ (λ i. Err (Kind (sym same i) (sym head.number_is i)))
faulted b at (Size place) (same, (kind, size, has, takes)) = kinded b at kind size has ∙ rw (takes, same) refl

-- ---- both

pub told : (b : List ℕ) (at : ℕ) → IsBytes b → at ≤ length b → (result : Result Next TraceFault) → result ≡ next_in b at → (there : Next) → (result ≡ Ok there) ↔ IsNext b at there
told b at is within result e there = (λ h. subst (IsRight b at) (sym e ∙ h) (next-right b at is within), λ h. e ∙ found b at there h)

pub fault-told : (b : List ℕ) (at : ℕ) → IsBytes b → at ≤ length b → (result : Result Next TraceFault) → result ≡ next_in b at → (fault : TraceFault) → (result ≡ Err fault) ↔ IsFaultAt b at fault
fault-told b at is within result e fault = (λ h. subst (IsRight b at) (sym e ∙ h) (next-right b at is within), λ h. e ∙ faulted b at fault h)
