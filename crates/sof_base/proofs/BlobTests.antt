-- Bytes that pass all tests of a blob, by the places of their parts.
use Rattle.std.proofs.Common.{◌≡◌, refl, ap, ◌∙◌, ℕ, ◌+◌, ◌-◌, ◌*◌, ◌<◌, ◌≤◌, Bool, true, false, ◌&&◌, List, [], ◌∷◌, ◌++◌, length, drop, arith}
use Rattle.std.specs.Prelude.{None, nat_le, ◌==◌}
use Rattle.std.proofs.lemmas.Bool.{leb-true, le-leb, eqb-true, eq-eqb, and_parts, and_from}
use Rattle.sof_base.specs.Slots.{word_at}
use Rattle.sof_base.specs.Blob.{is_count, is_assignment, is_shift, signed_at, blob_channels, blob_responses, assignment_at, response_at, section_count, section_place}
use Rattle.sof_base.specs.BlobParts.{blob_magic}
use Rattle.sof_base.specs.BlobFaults.{BlobFault, Size, Magic, HeaderSize, Channels, Responses, Assignment, Sections, Shift, Length, BlobTest, first_fault, head_tests, assignment_tests, section_tests, counts_tests, response_tests, blob_fault}
use Rattle.sof_base.proofs.FirstFaults.{tests_of, first-append, first-both, first-each, first-none}

-- what a walk over a blob finds
pub record IsSound (b : List ℕ) : Type 0 where
  pub long : (60 ≤ length b) × (length b ≤ 1024)
  pub magic : word_at b 0 ≡ blob_magic
  pub header : word_at b 8 ≡ length b - 32
  pub few_channels : (1 ≤ blob_channels b) × (blob_channels b ≤ 8)
  pub few_responses : (1 ≤ blob_responses b) × (blob_responses b ≤ 8)
  pub assignment : (c : ℕ) → c < blob_channels b → (60 + 4 * c + 4 ≤ length b) × (is_assignment (blob_responses b) (assignment_at b c) ≡ true)
  pub counts : (r : ℕ) → r < blob_responses b → (response_at b r + 24 ≤ length b) × (1 ≤ section_count b r) × (section_count b r ≤ 8)
  pub series : (r : ℕ) → r < blob_responses b → word_at b (response_at b r + 4) ≡ section_count b r
  pub sections : (r s : ℕ) → r < blob_responses b → s < section_count b r → (section_place b r s + 28 ≤ length b) × (is_shift (signed_at b (section_place b r s + 20)) ≡ true)

-- a number from 1 to 8, as a test
pub counted : (n : ℕ) → is_count n ≡ true → (1 ≤ n) × (n ≤ 8)
counted n t = let parts = and_parts (nat_le 1 n) (nat_le n 8) t in (leb-true 1 n parts.0, leb-true n 8 parts.1)

pub is_counted : (n : ℕ) → 1 ≤ n → n ≤ 8 → is_count n ≡ true
is_counted n low high = and_from (nat_le 1 n) (nat_le n 8) (le-leb 1 n low) (le-leb n 8 high)

-- ---- one test

passed : (fault : BlobFault) (holds : Bool) (rest : List BlobTest) → first_fault ((fault, holds) ∷ rest) ≡ None → (holds ≡ true) × (first_fault rest ≡ None)
passed fault true rest e = (refl, e)
passed fault false rest e = absurd cc

pass : (fault : BlobFault) (holds : Bool) (rest : List BlobTest) → holds ≡ true → first_fault rest ≡ None → first_fault ((fault, holds) ∷ rest) ≡ None
pass fault true rest is e = e
pass fault false rest is e = absurd cc

-- two tests: that bytes reach a place, and another
reached : (b : List ℕ) (end : ℕ) (fault : BlobFault) (holds : Bool) → first_fault ((Length, nat_le end (length b)) ∷ (fault, holds) ∷ []) ≡ None → (end ≤ length b) × (holds ≡ true)
reached b end fault holds e =
    let first = passed Length (nat_le end (length b)) ((fault, holds) ∷ []) e in
    (leb-true end (length b) first.0, (passed fault holds [] first.1).0)

reaches : (b : List ℕ) (end : ℕ) (fault : BlobFault) (holds : Bool) → end ≤ length b → holds ≡ true → first_fault ((Length, nat_le end (length b)) ∷ (fault, holds) ∷ []) ≡ None
reaches b end fault holds low is = pass Length (nat_le end (length b)) ((fault, holds) ∷ []) (le-leb end (length b) low) (pass fault holds [] is refl)

-- ---- from the tests

each : (tests : ℕ → List BlobTest) (n k : ℕ) → first_fault (tests_of tests 0 n) ≡ None → k < n → first_fault (tests k) ≡ None
each tests n k none low = ap (λ j. first_fault (tests j)) (let e : k ≡ 0 + k = omega arith in e) ∙ first-each tests 0 n k none low

record HasCounts (b : List ℕ) (r : ℕ) : Type 0 where
  there : response_at b r + 24 ≤ length b
  few : (1 ≤ section_count b r) × (section_count b r ≤ 8)
  series : word_at b (response_at b r + 4) ≡ section_count b r

has-counts : (b : List ℕ) (r : ℕ) → first_fault (counts_tests b r) ≡ None → HasCounts b r
has-counts b r e =
    let n = section_count b r in
    let t = reached b (response_at b r + 24) (Sections r) (is_count n && word_at b (response_at b r + 4) == n) e in
    let parts = and_parts (is_count n) (word_at b (response_at b r + 4) == n) t.1 in
    record { there = t.0; few = counted n parts.0; series = eqb-true (word_at b (response_at b r + 4)) n parts.1 }

record HasHead (b : List ℕ) : Type 0 where
  long : (60 ≤ length b) × (length b ≤ 1024)
  magic : word_at b 0 ≡ blob_magic
  header : word_at b 8 ≡ length b - 32
  few_channels : (1 ≤ blob_channels b) × (blob_channels b ≤ 8)
  few_responses : (1 ≤ blob_responses b) × (blob_responses b ≤ 8)

has-head : (b : List ℕ) → first_fault (head_tests b) ≡ None → HasHead b
has-head b e =
    let size = passed Size (nat_le 60 (length b) && nat_le (length b) 1024) (drop 1 (head_tests b)) e in
    let magic = passed Magic (word_at b 0 == blob_magic) (drop 2 (head_tests b)) size.1 in
    let header = passed HeaderSize (word_at b 8 == length b - 32) (drop 3 (head_tests b)) magic.1 in
    let chans = passed Channels (is_count (blob_channels b)) (drop 4 (head_tests b)) header.1 in
    let resps = passed Responses (is_count (blob_responses b)) (drop 5 (head_tests b)) chans.1 in
    let span = and_parts (nat_le 60 (length b)) (nat_le (length b) 1024) size.0 in
    record {
      long = (leb-true 60 (length b) span.0, leb-true (length b) 1024 span.1);
      magic = eqb-true (word_at b 0) blob_magic magic.0;
      header = eqb-true (word_at b 8) (length b - 32) header.0;
      few_channels = counted (blob_channels b) chans.0;
      few_responses = counted (blob_responses b) resps.0;
    }

pub tested-sound : (b : List ℕ) → blob_fault b ≡ None → IsSound b
unfolding blob_fault
tested-sound b none =
    let assignments = tests_of (assignment_tests b) 0 (blob_channels b) in
    let responses = tests_of (response_tests b) 0 (blob_responses b) in
    let first = first-both (head_tests b) (assignments ++ responses) none in
    let second = first-both assignments responses first.1 in
    let head = has-head b first.0 in
    let response : (r : ℕ) → r < blob_responses b → (first_fault (counts_tests b r) ≡ None) × (first_fault (tests_of (section_tests b r) 0 (section_count b r)) ≡ None) =
    λ r low. first-both (counts_tests b r) (tests_of (section_tests b r) 0 (section_count b r)) (each (response_tests b) (blob_responses b) r second.1 low) in
    record {
      long = head.long;
      magic = head.magic;
      header = head.header;
      few_channels = head.few_channels;
      few_responses = head.few_responses;
      assignment = λ c low. reached b (60 + 4 * c + 4) (Assignment c) (is_assignment (blob_responses b) (assignment_at b c)) (each (assignment_tests b) (blob_channels b) c second.0 low);
      counts = λ r low. let h = has-counts b r (response r low).0 in (h.there, h.few.0, h.few.1);
      series = λ r low. (has-counts b r (response r low).0).series;
      sections = λ r s low under. reached b (section_place b r s + 28) (Shift r s) (is_shift (signed_at b (section_place b r s + 20))) (each (section_tests b r) (section_count b r) s (response r low).1 under);
    }

-- ---- and back

all : (tests : ℕ → List BlobTest) (n : ℕ) → ((k : ℕ) → k < n → first_fault (tests k) ≡ None) → first_fault (tests_of tests 0 n) ≡ None
all tests n each = first-none tests 0 n (λ k low. ap (λ j. first_fault (tests j)) (let e : 0 + k ≡ k = omega arith in e) ∙ each k low)

head-passes : (b : List ℕ) → IsSound b → first_fault (head_tests b) ≡ None
head-passes b is =
    pass Size _ (drop 1 (head_tests b)) (and_from (nat_le 60 (length b)) (nat_le (length b) 1024) (le-leb 60 (length b) is.long.0) (le-leb (length b) 1024 is.long.1))
    (pass Magic _ (drop 2 (head_tests b)) (eq-eqb (word_at b 0) blob_magic is.magic)
    (pass HeaderSize _ (drop 3 (head_tests b)) (eq-eqb (word_at b 8) (length b - 32) is.header)
    (pass Channels _ (drop 4 (head_tests b)) (is_counted (blob_channels b) is.few_channels.0 is.few_channels.1)
    (pass Responses _ (drop 5 (head_tests b)) (is_counted (blob_responses b) is.few_responses.0 is.few_responses.1) refl))))

response-passes : (b : List ℕ) → IsSound b → (r : ℕ) → r < blob_responses b → first_fault (response_tests b r) ≡ None
response-passes b is r low =
    let n = section_count b r in let counts = is.counts r low in
    first-append (counts_tests b r) (tests_of (section_tests b r) 0 n)
    (reaches b (response_at b r + 24) (Sections r) (is_count n && word_at b (response_at b r + 4) == n) counts.0
    (and_from (is_count n) (word_at b (response_at b r + 4) == n) (is_counted n counts.1 counts.2) (eq-eqb (word_at b (response_at b r + 4)) n (is.series r low))))
    ∙ all (section_tests b r) n (λ s under. let h = is.sections r s low under in
    reaches b (section_place b r s + 28) (Shift r s) (is_shift (signed_at b (section_place b r s + 20))) h.0 h.1)

pub sound-tested : (b : List ℕ) → IsSound b → blob_fault b ≡ None
unfolding blob_fault
sound-tested b is =
    let assignments = tests_of (assignment_tests b) 0 (blob_channels b) in
    let responses = tests_of (response_tests b) 0 (blob_responses b) in
    first-append (head_tests b) (assignments ++ responses) (head-passes b is)
    ∙ first-append assignments responses
    (all (assignment_tests b) (blob_channels b) (λ c low. let h = is.assignment c low in
    reaches b (60 + 4 * c + 4) (Assignment c) (is_assignment (blob_responses b) (assignment_at b c)) h.0 h.1))
    ∙ all (response_tests b) (blob_responses b) (response-passes b is)
