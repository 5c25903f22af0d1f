-- Bytes that a walk finds to be a blob are spelled by its fields.
use Rattle.std.proofs.Common.{◌≡◌, refl, sym, ap, ◌∙◌, subst, ℕ, zero, suc, ◌+◌, ◌-◌, ◌*◌, ◌<◌, ◌≤◌, true, List, [], ◌∷◌, ◌++◌, length, take, drop, arith, append_assoc}
use Rattle.std.proofs.lemmas.List.{take-append-drop, drop-drop}
use Rattle.std.specs.List.{AllByRecursion, flat_map}
use Rattle.sof_base.specs.Slots.{AreWords, words_bytes, word_at}
use Rattle.sof_base.specs.Layouts.{words_at}
use Rattle.sof_base.specs.Blob.{is_count, is_assignment, is_shift, signed_at, blob_channels, blob_responses, response_at, section_count}
use Rattle.sof_base.specs.BlobParts.{blob_magic}
use Rattle.sof_base.specs.BlobParts.{signed}
use Rattle.sof_base.specs.BlobParts.{SectionFields}
use Rattle.sof_base.specs.BlobParts.{ResponseFields, BlobFields, section_words, response_words, blob_words, IsResponse, IsBlob}
use Rattle.sof_base.proofs.FieldLaws.{IsBytes, words_same, words_fit, length-words}
use Rattle.sof_base.proofs.BlobTests.{IsSound, is_counted}

-- words are those of the bytes from a place up to the next
record Spelt (ws b : List ℕ) (place next : ℕ) : Type 0 where
  bytes : words_bytes ws ++ drop next b ≡ drop place b
  words : AreWords ws

words_bytes-append : (xs ys : List ℕ) → words_bytes (xs ++ ys) ≡ words_bytes xs ++ words_bytes ys
unfolding words_bytes
words_bytes-append [] ys = refl
words_bytes-append (x ∷ xs) ys = ap (λ l. words_bytes (x ∷ []) ++ l) (words_bytes-append xs ys) ∙ refl

AreWords-append : (xs ys : List ℕ) → AreWords xs → AreWords ys → AreWords (xs ++ ys)
unfolding AreWords
AreWords-append [] ys are more = more
AreWords-append (x ∷ xs) ys are more = (are.0, AreWords-append xs ys are.1 more)

-- one run of words after another
then : (xs ys b : List ℕ) (place middle next : ℕ) → Spelt xs b place middle → Spelt ys b middle next → Spelt (xs ++ ys) b place next
then xs ys b place middle next first second = record {
  bytes =
      ap (λ l. l ++ drop next b) (words_bytes-append xs ys)
      ∙ append_assoc (words_bytes xs) (words_bytes ys) (drop next b)
      ∙ ap (λ l. words_bytes xs ++ l) second.bytes
      ∙ first.bytes;
  words = AreWords-append xs ys first.words second.words;
}

nothing : (b : List ℕ) (place next : ℕ) → place ≡ next → Spelt [] b place next
unfolding words_bytes AreWords
nothing b place next e = record { bytes = ap (λ n. drop n b) (sym e); words = tt }

-- n words that are read
some : (n : ℕ) (b : List ℕ) (place next : ℕ) → IsBytes b → next ≡ place + 4 * n → next ≤ length b → Spelt (words_at n b place) b place next
some n b place next is e low = record {
  bytes =
      (λ i. words_same n b place is (omega (arith, low, e)) i ++ drop (e i) b)
      ∙ ap (λ l. take (4 * n) (drop place b) ++ l) (sym (drop-drop (4 * n) place b))
      ∙ take-append-drop (4 * n) (drop place b);
  words = words_fit n b place is (omega (arith, low, e));
}

-- one word that is read
one : (b : List ℕ) (place next w : ℕ) → IsBytes b → next ≡ place + 4 → next ≤ length b → word_at b place ≡ w → Spelt (w ∷ []) b place next
unfolding words_at
one b place next w is e low same =
    subst (λ x. Spelt (x ∷ []) b place next) same (some 1 b place next is (omega (arith, e)) low)

-- ---- the fields that bytes have

section_of_bytes : List ℕ → ℕ → SectionFields
section_of_bytes b place = record {
  a2 = word_at b place;
  a1 = word_at b (place + 4);
  b2 = word_at b (place + 4 + 4);
  b1 = word_at b (place + 4 + 4 + 4);
  b0 = word_at b (place + 4 + 4 + 4 + 4);
  shift = word_at b (place + 4 + 4 + 4 + 4 + 4);
  gain = word_at b (place + 4 + 4 + 4 + 4 + 4 + 4);
}

sections_of_bytes : List ℕ → ℕ → ℕ → List SectionFields
sections_of_bytes b place zero = []
sections_of_bytes b place (suc n) = section_of_bytes b place ∷ sections_of_bytes b (place + 28) n

response_of_bytes : List ℕ → ℕ → ResponseFields
response_of_bytes b place = record { reserved = words_at 4 b (place + 8); sections = sections_of_bytes b (place + 24) (word_at b place) }

responses_of_bytes : List ℕ → ℕ → ℕ → List ResponseFields
responses_of_bytes b r zero = []
responses_of_bytes b r (suc n) = response_of_bytes b (response_at b r) ∷ responses_of_bytes b (suc r) n

fields_of_bytes : List ℕ → BlobFields
fields_of_bytes b = record {
  kind = word_at b 4;
  abi = word_at b 12;
  header_reserved = words_at 4 b 16;
  head_size = word_at b 32;
  head_reserved = words_at 4 b 44;
  assignments = words_at (blob_channels b) b 60;
  responses = responses_of_bytes b 0 (blob_responses b);
}

-- ---- sections

length-sections_of : (b : List ℕ) (place n : ℕ) → length (sections_of_bytes b place n) ≡ n
unfolding sections_of_bytes
length-sections_of b place zero = refl
length-sections_of b place (suc n) = ap suc (length-sections_of b (place + 28) n)

section-spelt : (b : List ℕ) (place next : ℕ) → IsBytes b → next ≡ place + 28 → next ≤ length b → Spelt (section_words (section_of_bytes b place)) b place next
unfolding section_of_bytes words_at
section-spelt b place next is e low = some 7 b place next is (omega (arith, e)) low

sections-spelt : (b : List ℕ) (place n next : ℕ) → IsBytes b → next ≡ place + 28 * n → next ≤ length b → Spelt (flat_map section_words (sections_of_bytes b place n)) b place next
unfolding sections_of_bytes
sections-spelt b place zero next is e low = nothing b place next (omega (arith, e))
sections-spelt b place (suc n) next is e low =
    then (section_words (section_of_bytes b place)) (flat_map section_words (sections_of_bytes b (place + 28) n)) b place (place + 28) next
    (section-spelt b place (place + 28) is refl (omega (arith, e, low)))
    (sections-spelt b (place + 28) n next is (omega (arith, e)) low)

shifts-right : (b : List ℕ) (place n : ℕ) → ((s : ℕ) → s < n → is_shift (signed_at b (place + 28 * s + 20)) ≡ true) → AllByRecursion (λ s. is_shift (signed s.shift) ≡ true) (sections_of_bytes b place n)
unfolding sections_of_bytes section_of_bytes
shifts-right b place zero right = tt
shifts-right b place (suc n) right = (
  subst (λ p. is_shift (signed_at b p) ≡ true) (let e : place + 28 * 0 + 20 ≡ place + 4 + 4 + 4 + 4 + 4 = omega arith in e) (right 0 (omega arith)),
  shifts-right b (place + 28) n (λ s low. subst (λ p. is_shift (signed_at b p) ≡ true) (let e : place + 28 * suc s + 20 ≡ place + 28 + 28 * s + 20 = omega arith in e) (right (suc s) (omega arith))),
)

-- ---- responses

module _ (b : List ℕ) (bytes : IsBytes b) (is : IsSound b) where
  -- a response ends within the bytes
  response-end : (r : ℕ) → r < blob_responses b → response_at b (suc r) ≤ length b
  response-end r low = last (section_count b r) refl
    where
      last : (n : ℕ) → section_count b r ≡ n → response_at b (suc r) ≤ length b
      last zero e = let c = is.counts r low in omega (arith, c.0, e)
      last (suc m) e = let t = is.sections r m low (omega (arith, e)) in omega (arith, t.0, e)

  response-spelt : (r : ℕ) → r < blob_responses b → Spelt (response_words (response_of_bytes b (response_at b r))) b (response_at b r) (response_at b (suc r))
  unfolding response_of_bytes
  response-spelt r low =
      let place = response_at b r in let n = word_at b place in
      let head = is.counts r low in let end = response-end r low in
      let ss = sections_of_bytes b (place + 24) n in
      let count : n ≡ length ss = sym (length-sections_of b (place + 24) n) in
      then (length ss ∷ []) (length ss ∷ (words_at 4 b (place + 8) ++ flat_map section_words ss)) b place (place + 4) (response_at b (suc r))
      (one b place (place + 4) (length ss) bytes refl (omega (arith, head.0)) count)
      (then (length ss ∷ []) (words_at 4 b (place + 8) ++ flat_map section_words ss) b (place + 4) (place + 8) (response_at b (suc r))
      (one b (place + 4) (place + 8) (length ss) bytes (omega arith) (omega (arith, head.0)) (is.series r low ∙ count))
      (then (words_at 4 b (place + 8)) (flat_map section_words ss) b (place + 8) (place + 24) (response_at b (suc r))
      (some 4 b (place + 8) (place + 24) bytes (omega arith) head.0)
      (sections-spelt b (place + 24) n (response_at b (suc r)) bytes refl end)))

  responses-spelt : (r n m : ℕ) → m ≡ r + n → m ≤ blob_responses b → Spelt (flat_map response_words (responses_of_bytes b r n)) b (response_at b r) (response_at b m)
  unfolding responses_of_bytes
  responses-spelt r zero m e low = nothing b (response_at b r) (response_at b m) (ap (response_at b) (let k : r ≡ m = omega (arith, e) in k))
  responses-spelt r (suc n) m e low =
      then (response_words (response_of_bytes b (response_at b r))) (flat_map response_words (responses_of_bytes b (suc r) n)) b (response_at b r) (response_at b (suc r)) (response_at b m)
      (response-spelt r (omega (arith, e, low)))
      (responses-spelt (suc r) n m (omega (arith, e)) low)

  length-responses_of : (r n : ℕ) → length (responses_of_bytes b r n) ≡ n
  unfolding responses_of_bytes
  length-responses_of r zero = refl
  length-responses_of r (suc n) = ap suc (length-responses_of (suc r) n)

  response-right : (r : ℕ) → r < blob_responses b → IsResponse (response_of_bytes b (response_at b r))
  unfolding response_of_bytes
  response-right r low =
      let place = response_at b r in let n = word_at b place in let c = is.counts r low in
      record {
        reserved = length-words 4 b (place + 8);
        count = subst (λ k. is_count k ≡ true) (sym (length-sections_of b (place + 24) n)) (is_counted n c.1 c.2);
        shifts = shifts-right b (place + 24) n (λ s under. (is.sections r s low under).1);
      }

  responses-right : (r n m : ℕ) → m ≡ r + n → m ≤ blob_responses b → AllByRecursion IsResponse (responses_of_bytes b r n)
  unfolding responses_of_bytes
  responses-right r zero m e low = tt
  responses-right r (suc n) m e low = (response-right r (omega (arith, e, low)), responses-right (suc r) n m (omega (arith, e)) low)

  -- ---- assignments

  assigned : (place n count : ℕ) → ((k : ℕ) → k < n → is_assignment count (signed_at b (place + 4 * k)) ≡ true) → AllByRecursion (λ a. is_assignment count (signed a) ≡ true) (words_at n b place)
  unfolding words_at
  assigned place zero count right = tt
  assigned place (suc n) count right = (
    subst (λ p. is_assignment count (signed_at b p) ≡ true) (let e : place + 4 * 0 ≡ place = omega arith in e) (right 0 (omega arith)),
    assigned (place + 4) n count (λ k low. subst (λ p. is_assignment count (signed_at b p) ≡ true) (let e : place + 4 * suc k ≡ place + 4 + 4 * k = omega arith in e) (right (suc k) (omega arith))),
  )

  -- ---- the whole

  tail_words : List ℕ
  tail_words = words_at 4 b 44 ++ (words_at (blob_channels b) b 60 ++ flat_map response_words (responses_of_bytes b 0 (blob_responses b)))

  last_place : ℕ
  last_place = response_at b (blob_responses b)

  assignments-end : 60 + 4 * blob_channels b ≤ length b
  assignments-end = by (blob_channels b) refl
    where
      by : (n : ℕ) → blob_channels b ≡ n → 60 + 4 * blob_channels b ≤ length b
      by zero e = omega (arith, is.long.0, e)
      by (suc m) e = let t = is.assignment m (omega (arith, e)) in omega (arith, t.0, e)

  tail-spelt : Spelt tail_words b 44 last_place
  unfolding tail_words last_place
  tail-spelt =
      let responses = flat_map response_words (responses_of_bytes b 0 (blob_responses b)) in
      let assignments = words_at (blob_channels b) b 60 in
      then (words_at 4 b 44) (assignments ++ responses) b 44 60 (response_at b (blob_responses b))
      (some 4 b 44 60 bytes refl (omega (arith, is.long.0)))
      (then assignments responses b 60 (response_at b 0) (response_at b (blob_responses b))
      (some (blob_channels b) b 60 (response_at b 0) bytes refl assignments-end)
      (responses-spelt 0 (blob_responses b) (blob_responses b) (omega arith) (omega arith)))

  read : (place w : ℕ) → place + 4 ≤ 60 → word_at b place ≡ w → Spelt (w ∷ []) b place (place + 4)
  read place w low same = one b place (place + 4) w bytes refl (omega (arith, is.long.0, low)) same

  whole-spelt : Spelt (blob_words (length b - 32) (fields_of_bytes b)) b 0 last_place
  unfolding fields_of_bytes tail_words
  whole-spelt =
      let size = length b - 32 in
      let n = length (words_at (blob_channels b) b 60) in
      let m = length (responses_of_bytes b 0 (blob_responses b)) in
      let middle = word_at b 32 ∷ n ∷ m ∷ tail_words in
      let channels : blob_channels b ≡ n = sym (length-words (blob_channels b) b 60) in
      let count : blob_responses b ≡ m = sym (length-responses_of 0 (blob_responses b)) in
      then (blob_magic ∷ []) (word_at b 4 ∷ size ∷ word_at b 12 ∷ (words_at 4 b 16 ++ middle)) b 0 4 last_place (read 0 blob_magic (omega arith) is.magic)
      (then (word_at b 4 ∷ []) (size ∷ word_at b 12 ∷ (words_at 4 b 16 ++ middle)) b 4 8 last_place (read 4 (word_at b 4) (omega arith) refl)
      (then (size ∷ []) (word_at b 12 ∷ (words_at 4 b 16 ++ middle)) b 8 12 last_place (read 8 size (omega arith) is.header)
      (then (word_at b 12 ∷ []) (words_at 4 b 16 ++ middle) b 12 16 last_place (read 12 (word_at b 12) (omega arith) refl)
      (then (words_at 4 b 16) middle b 16 32 last_place (some 4 b 16 32 bytes refl (omega (arith, is.long.0)))
      (then (word_at b 32 ∷ []) (n ∷ m ∷ tail_words) b 32 36 last_place (read 32 (word_at b 32) (omega arith) refl)
      (then (n ∷ []) (m ∷ tail_words) b 36 40 last_place (read 36 n (omega arith) channels)
      (then (m ∷ []) tail_words b 40 44 last_place (read 40 m (omega arith) count) tail-spelt)))))))

  pub sound-blob : IsBlob b
  unfolding fields_of_bytes
  sound-blob =
      let count : blob_responses b ≡ length (responses_of_bytes b 0 (blob_responses b)) = sym (length-responses_of 0 (blob_responses b)) in
      let right : (c : ℕ) → c < blob_channels b → is_assignment (length (responses_of_bytes b 0 (blob_responses b))) (signed_at b (60 + 4 * c)) ≡ true =
      λ c low. subst (λ k. is_assignment k (signed_at b (60 + 4 * c)) ≡ true) count (is.assignment c low).1 in
      record {
        fields = fields_of_bytes b;
        rest = drop last_place b;
        spelling = sym whole-spelt.bytes;
        words = whole-spelt.words;
        in_range = record {
          header_reserved = length-words 4 b 16;
          head_reserved = length-words 4 b 44;
          channels = subst (λ k. is_count k ≡ true) (sym (length-words (blob_channels b) b 60)) (is_counted (blob_channels b) is.few_channels.0 is.few_channels.1);
          count = subst (λ k. is_count k ≡ true) count (is_counted (blob_responses b) is.few_responses.0 is.few_responses.1);
          assignments = assigned 60 (blob_channels b) (length (responses_of_bytes b 0 (blob_responses b))) right;
          responses = responses-right 0 (blob_responses b) (blob_responses b) (omega arith) (omega arith);
        };
        size = is.long;
      }
