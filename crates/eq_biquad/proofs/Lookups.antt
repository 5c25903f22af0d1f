-- The sections of a channel, by the bytes of a blob.
use Rattle.std.proofs.Common.{◌≡◌, refl, sym, ap, ◌∙◌, subst, ℕ, zero, suc, ◌+◌, ◌*◌, ◌<◌, ◌≤◌, true, ltb-true, List, [], ◌∷◌, length, map, arith, ℤ, pos, negsuc, ◌<ℤ◌, ◌≤ℤ◌, nat_abs, take, w32, FitsSigned}
use Rattle.std.proofs.lemmas.Int.{ints}
use Rattle.std.specs.Prelude.{nat_lt}
use Rattle.std.specs.List.{range_with_len}
use Rattle.std.proofs.lemmas.Bool.{cond-true, cond-false, lt-ltb, le-ltb}
use Rattle.sof_base.specs.Slots.{word_at}
use Rattle.sof_base.specs.Blob.{is_assignment, is_shift, signed_at, blob_channels, blob_responses, assignment_at, response_at, section_count, section_at}
use Rattle.sof_base.specs.BlobParts.{IsBlob}
use Rattle.sof_base.proofs.BlobTests.{IsSound}
use Rattle.sof_base.proofs.BlobLaws.{sound}
use Rattle.stream_law.specs.Equaliser.{response_sections, assigned_sections, sections_of}
use Rattle.eq_blob.specs.Sections.{sections_in, AreWithin}
use Rattle.sof_base.specs.Samples.{sample_of}
use Rattle.eq_blob.specs.WordBytes.{bytes_of_words}
use Rattle.eq_blob.proofs.ByteLaws.{word-cast, length-blob}
use Rattle.eq_blob.proofs.Cases.{by_less}

-- the sections of a response stand one after the other
sections-from : (b : List ℕ) (place a n : ℕ) → map (λ i. section_at b (place + 24 + 28 * i)) (range_with_len a n) ≡ sections_in b (place + 24 + 28 * a) n
sections-from b place a zero = refl
sections-from b place a (suc n) =
    ap (λ ss. section_at b (place + 24 + 28 * a) ∷ ss) (sections-from b place (a + 1) n ∙ ap (λ q. sections_in b q n) (let e : place + 24 + 28 * (a + 1) ≡ place + 24 + 28 * a + 28 = omega arith in e))

pub response-in : (b : List ℕ) (r : ℕ) → response_sections b r ≡ sections_in b (response_at b r + 24) (section_count b r)
response-in b r =
    sections-from b (response_at b r) 0 (section_count b r)
    ∙ ap (λ q. sections_in b q (section_count b r)) (let e : response_at b r + 24 + 28 * 0 ≡ response_at b r + 24 = omega arith in e)

-- a channel without an assignment
pub no-channel : (b : List ℕ) (k : ℕ) → blob_channels b ≤ k → sections_of b k ≡ []
unfolding sections_of
no-channel b k le = cond-false (nat_lt k (blob_channels b)) (assigned_sections b (assignment_at b k)) [] (le-ltb k (blob_channels b) le)

-- and one with an assignment
pub a-channel : (b : List ℕ) (k : ℕ) (z : ℤ) → k < blob_channels b → assignment_at b k ≡ z → sections_of b k ≡ assigned_sections b z
unfolding sections_of
a-channel b k z lt is = cond-true (nat_lt k (blob_channels b)) (assigned_sections b (assignment_at b k)) [] (lt-ltb k (blob_channels b) lt) ∙ ap (assigned_sections b) is

pub length-sections : (b : List ℕ) (place n : ℕ) → length (sections_in b place n) ≡ n
length-sections b place zero = refl
length-sections b place (suc n) = ap (λ m. suc m) (length-sections b (place + 28) n)

-- no blob has no sections
pub empty-blob : (k : ℕ) → sections_of [] k ≡ []
unfolding sections_of word_at
empty-blob k = cond-false (nat_lt k 0) (assigned_sections [] (assignment_at [] k)) [] (le-ltb k 0 (omega arith))

-- ---- each channel of a blob has at most 8 sections

pub assigned : (b : List ℕ) → IsSound b → (k : ℕ) → k < blob_channels b → (r : ℕ) → assignment_at b k ≡ pos r → r < blob_responses b
assigned b is k lt r e =
    let right : is_assignment (blob_responses b) (pos r) ≡ true = subst (λ z. is_assignment (blob_responses b) z ≡ true) e (is.assignment k lt).1 in
    below r (blob_responses b) right
  where
    below : (r n : ℕ) → is_assignment n (pos r) ≡ true → r < n
    below r n e = ltb-true r n e

pub few-sections : (b : List ℕ) → IsSound b → (k : ℕ) → length (sections_of b k) ≤ 8
few-sections b is k =
    by_less k (blob_channels b)
    (λ lt. by (assignment_at b k) lt refl)
    (λ le. subst (λ ss. length ss ≤ 8) (sym (no-channel b k le)) (omega arith))
  where
    by : (z : ℤ) → k < blob_channels b → assignment_at b k ≡ z → length (sections_of b k) ≤ 8
    by (pos r) lt e =
        let few = (is.counts r (assigned b is k lt r e)).2 in
        subst (λ ss. length ss ≤ 8) (sym (a-channel b k (pos r) lt e ∙ response-in b r))
        (omega (arith, length-sections b (response_at b r + 24) (section_count b r), few))
    by (negsuc m) lt e = subst (λ ss. length ss ≤ 8) (sym (a-channel b k (negsuc m) lt e)) (omega arith)

-- ---- a blob in words

-- the place of one response more
pub place-more : (b : List ℕ) (place r n : ℕ) → 4 * place ≡ response_at b r → n ≡ word_at b (4 * place) → 4 * (place + 6 + 7 * n) ≡ response_at b (r + 1)
place-more b place r n at count =
    (let e : 4 * (place + 6 + 7 * n) ≡ 4 * place + 24 + 28 * n = omega arith in e)
    ∙ (λ i. at i + 24 + 28 * (count ∙ ap (word_at b) at) i)
    ∙ ap (response_at b) (let e : suc r ≡ r + 1 = omega arith in e)

-- an assignment that is negative has no sections
pub negative-none : (b : List ℕ) (z : ℤ) → z <ℤ pos 0 → assigned_sections b z ≡ []
negative-none b (pos n) low = absurd (omega (arith, ints))
negative-none b (negsuc n) low = refl

-- one that is not is the number of a response
pub positive-is : (z : ℤ) → pos 0 ≤ℤ z → z ≡ pos (nat_abs z)
positive-is (pos n) le = refl
positive-is (negsuc n) le = absurd (omega (arith, ints))

-- the sections of an assigned response
pub response-found : (b : List ℕ) (k r place n : ℕ) → k < blob_channels b → assignment_at b k ≡ pos r → 4 * place ≡ response_at b r → n ≡ word_at b (4 * place) → sections_in b (4 * (place + 6)) n ≡ sections_of b k
response-found b k r place n lt word at count =
    let same : section_count b r ≡ n = ap (word_at b) (sym at) ∙ sym count in
    sym (a-channel b k (pos r) lt word
    ∙ response-in b r
    ∙ (λ i. sections_in b ((let e : response_at b r + 24 ≡ 4 * (place + 6) = omega (arith, at) in e) i) (same i)))

pub found-within : (b : List ℕ) → IsSound b → (r place n : ℕ) → r < blob_responses b → 4 * place ≡ response_at b r → n ≡ word_at b (4 * place) → AreWithin b (record { place = place + 6; count = n })
found-within b is r place n low at count =
    let same : word_at b (response_at b r) ≡ n = ap (word_at b) (sym at) ∙ sym count in
    let c = is.counts r low in
    record {
      few = omega (arith, c.2, same);
      bytes = last n refl;
      shifts = λ s lt. subst (λ q. is_shift (signed_at b q) ≡ true) (let e : response_at b r + 24 + 28 * s + 20 ≡ 4 * (place + 6) + 28 * s + 20 = omega (arith, at) in e) (is.sections r s low (omega (arith, same, lt))).1;
    }
  where
    last : (m : ℕ) → n ≡ m → 4 * (place + 6) + 28 * n ≤ length b
    last zero e = let c = is.counts r low in omega (arith, c.0, at, e)
    last (suc m) e = let t = is.sections r m low (omega (arith, e, count, ap (word_at b) at)) in omega (arith, t.0, at, e)

-- the assignment of a channel, by its word
pub word-assigned : (ws : List ℤ) (len k : ℕ) → length ws ≡ 256 → len ≤ 1024 → IsSound (take len (bytes_of_words ws)) → k < blob_channels (take len (bytes_of_words ws)) → FitsSigned w32 (sample_of ws (15 + k)) → assignment_at (take len (bytes_of_words ws)) k ≡ sample_of ws (15 + k)
word-assigned ws len k count most is low fit =
    let here = (is.assignment k low).0 in
    word-cast ws 15 k (60 + 4 * k) len (omega arith) (omega (arith, low, is.few_channels, count)) (omega (arith, here, length-blob ws len (omega arith))) fit

pub is-assigned : (ws : List ℤ) (len k : ℕ) → length ws ≡ 256 → len ≤ 1024 → IsSound (take len (bytes_of_words ws)) → k < blob_channels (take len (bytes_of_words ws)) → FitsSigned w32 (sample_of ws (15 + k)) → pos 0 ≤ℤ sample_of ws (15 + k)
    → (assignment_at (take len (bytes_of_words ws)) k ≡ pos (nat_abs (sample_of ws (15 + k)))) × (nat_abs (sample_of ws (15 + k)) < blob_responses (take len (bytes_of_words ws)))
is-assigned ws len k count most is low fit positive =
    let b = take len (bytes_of_words ws) in let v = sample_of ws (15 + k) in
    let word = word-assigned ws len k count most is low fit ∙ positive-is v positive in
    (word, assigned b is k low (nat_abs v) word)

pub few-all : (ws : List ℤ) (len : ℕ) → (0 < len → IsBlob (take len (bytes_of_words ws))) → (k : ℕ) → length (sections_of (take len (bytes_of_words ws)) k) ≤ 8
few-all ws len blob k =
    by_less 0 len
    (λ some. few-sections (take len (bytes_of_words ws)) (sound (take len (bytes_of_words ws)) (blob some)) k)
    (λ none. let e : len ≡ 0 = omega arith in subst (λ ss. length ss ≤ 8) (sym (ap (λ n. sections_of (take n (bytes_of_words ws)) k) e ∙ empty-blob k)) (omega arith))
