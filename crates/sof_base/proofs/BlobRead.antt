-- The words that a blob is spelled by are read again at their places.
use Rattle.std.proofs.Common.{◌≡◌, refl, sym, ap, ◌∙◌, subst, ℕ, zero, suc, ◌+◌, ◌-◌, ◌*◌, ◌<◌, ◌≤◌, true, List, [], ◌∷◌, ◌++◌, length, take, drop, get_or, arith, length-append}
use Rattle.std.proofs.lemmas.List.{take_at}
use Rattle.std.specs.List.{AllByRecursion, flat_map}
use Rattle.sof_base.specs.Slots.{AreWords, words_bytes, word_at}
use Rattle.sof_base.specs.Layouts.{words_at}
use Rattle.sof_base.specs.Blob.{is_assignment, is_shift, signed_at, blob_channels, blob_responses, assignment_at, response_at}
use Rattle.sof_base.specs.BlobParts.{blob_magic}
use Rattle.sof_base.specs.BlobParts.{signed}
use Rattle.sof_base.specs.BlobParts.{SectionFields}
use Rattle.sof_base.specs.BlobParts.{ResponseFields, section_words, response_words, blob_words, IsResponse, IsBlob}
use Rattle.sof_base.proofs.FieldLaws.{words_again, length-words_bytes}
use Rattle.sof_base.proofs.BlobTests.{IsSound, counted}

-- words lie in bytes from a place on
pub record Lie (ws b : List ℕ) (place : ℕ) : Type 0 where
  pub words : words_at (length ws) b place ≡ ws
  pub end : place + 4 * length ws ≤ length b

head-same : {x y : ℕ} {xs ys : List ℕ} → x ∷ xs ≡ y ∷ ys → x ≡ y
head-same {x = x} e = ap (λ l. get_or l 0 x) e

tail-same : {x y : ℕ} {xs ys : List ℕ} → x ∷ xs ≡ y ∷ ys → xs ≡ ys
tail-same e = ap (λ l. drop 1 l) e

pub lie-word : (w : ℕ) (ws b : List ℕ) (place : ℕ) → Lie (w ∷ ws) b place → word_at b place ≡ w
unfolding words_at
lie-word w ws b place lie = head-same lie.words

pub lie-after : (w : ℕ) (ws b : List ℕ) (place : ℕ) → Lie (w ∷ ws) b place → Lie ws b (place + 4)
unfolding words_at
lie-after w ws b place lie = record { words = tail-same lie.words; end = omega (arith, lie.end) }

lie-first : (xs ys b : List ℕ) (place : ℕ) → Lie (xs ++ ys) b place → Lie xs b place
unfolding words_at
lie-first [] ys b place lie = record { words = refl; end = omega (arith, lie.end) }
lie-first (x ∷ xs) ys b place lie =
    let rest = lie-first xs ys b (place + 4) (lie-after x (xs ++ ys) b place lie) in
    record {
      words = (λ i. lie-word x (xs ++ ys) b place lie i ∷ rest.words i);
      end = omega (arith, rest.end);
    }

lie-second : (xs ys b : List ℕ) (place next : ℕ) → next ≡ place + 4 * length xs → Lie (xs ++ ys) b place → Lie ys b next
lie-second [] ys b place next at lie = subst (λ p. Lie ys b p) (let e : place ≡ next = omega (arith, at) in e) lie
lie-second (x ∷ xs) ys b place next at lie = lie-second xs ys b (place + 4) next (omega (arith, at)) (lie-after x (xs ++ ys) b place lie)

-- ---- a section, a response, and responses one after the other

record HasSection (b : List ℕ) (place : ℕ) (s : SectionFields) : Type 0 where
  shift : word_at b (place + 20) ≡ s.shift
  end : place + 28 ≤ length b

a-section : (b : List ℕ) (place : ℕ) (s : SectionFields) → Lie (section_words s) b place → HasSection b place s
a-section b place s lie =
    let five = lie-second (s.a2 ∷ s.a1 ∷ s.b2 ∷ s.b1 ∷ s.b0 ∷ []) (s.shift ∷ s.gain ∷ []) b place (place + 20) (omega arith) lie in
    record { shift = lie-word s.shift (s.gain ∷ []) b (place + 20) five; end = omega (arith, lie.end) }

-- each section of those from a place on has a right shift
sections-right : (b : List ℕ) (place : ℕ) (ss : List SectionFields) → Lie (flat_map section_words ss) b place → AllByRecursion (λ s. is_shift (signed s.shift) ≡ true) ss
    → (k : ℕ) → k < length ss → (place + 28 * k + 28 ≤ length b) × (is_shift (signed_at b (place + 28 * k + 20)) ≡ true)
sections-right b place [] lie right k low = absurd (omega arith)
sections-right b place (s ∷ ss) lie right zero low =
    let here = a-section b place s (lie-first (section_words s) (flat_map section_words ss) b place lie) in (
      omega (arith, here.end),
      subst (λ w. is_shift (signed w) ≡ true) (sym here.shift ∙ ap (word_at b) (let e : place + 20 ≡ place + 28 * 0 + 20 = omega arith in e)) right.0,
    )
sections-right b place (s ∷ ss) lie right (suc k) low =
    let others = sections-right b (place + 28) ss (lie-second (section_words s) (flat_map section_words ss) b place (place + 28) (omega arith) lie) right.1 k (omega arith) in (
      omega (arith, others.0),
      subst (λ p. is_shift (signed_at b p) ≡ true) (let e : place + 28 + 28 * k + 20 ≡ place + 28 * suc k + 20 = omega arith in e) others.1,
    )

length-sections : (ss : List SectionFields) → length (flat_map section_words ss) ≡ 7 * length ss
length-sections [] = refl
length-sections (s ∷ ss) = omega (arith, length-append (section_words s) (flat_map section_words ss), length-sections ss)

pub record HasResponse (b : List ℕ) (place : ℕ) : Type 0 where
  pub head : place + 24 ≤ length b
  pub few : (1 ≤ word_at b place) × (word_at b place ≤ 8)
  pub series : word_at b (place + 4) ≡ word_at b place
  pub sections : (s : ℕ) → s < word_at b place → (place + 24 + 28 * s + 28 ≤ length b) × (is_shift (signed_at b (place + 24 + 28 * s + 20)) ≡ true)

a-response : (b : List ℕ) (place : ℕ) (r : ResponseFields) → Lie (response_words r) b place → IsResponse r → HasResponse b place × (word_at b place ≡ length r.sections)
a-response b place r lie is =
    let n = length r.sections in
    let rest = r.reserved ++ flat_map section_words r.sections in
    let count = lie-word n (n ∷ rest) b place lie in
    let after = lie-after n (n ∷ rest) b place lie in
    let again = lie-word n rest b (place + 4) after in
    let reserved = lie-after n rest b (place + 4) after in
    let sections = lie-second r.reserved (flat_map section_words r.sections) b (place + 4 + 4) (place + 24) (omega (arith, is.reserved)) reserved in
    let few = counted n is.count in (
      record {
        head = omega (arith, sections.end);
        few = (omega (arith, count, few.0), omega (arith, count, few.1));
        series = again ∙ sym count;
        sections = λ s low. sections-right b (place + 24) r.sections sections is.shifts s (omega (arith, low, count));
      },
      count,
    )

length-response : (r : ResponseFields) → IsResponse r → 4 * length (response_words r) ≡ 24 + 28 * length r.sections
length-response r is = omega (arith, is.reserved, length-append r.reserved (flat_map section_words r.sections), length-sections r.sections)

-- responses k and up lie from their place on
responses-right : (b : List ℕ) (k : ℕ) (rs : List ResponseFields) → Lie (flat_map response_words rs) b (response_at b k) → AllByRecursion IsResponse rs → (j : ℕ) → j < length rs → HasResponse b (response_at b (k + j))
responses-right b k [] lie are j low = absurd (omega arith)
responses-right b k (r ∷ rs) lie are zero low =
    subst (λ n. HasResponse b (response_at b n)) (let e : k ≡ k + 0 = omega arith in e)
    (a-response b (response_at b k) r (lie-first (response_words r) (flat_map response_words rs) b (response_at b k) lie) are.0).0
responses-right b k (r ∷ rs) lie are (suc j) low =
    let place = response_at b k in
    let here = a-response b place r (lie-first (response_words r) (flat_map response_words rs) b place lie) are.0 in
    let next = lie-second (response_words r) (flat_map response_words rs) b place (response_at b (suc k)) (omega (arith, here.1, length-response r are.0)) lie in
    subst (λ n. HasResponse b (response_at b n)) (let e : suc k + j ≡ k + suc j = omega arith in e) (responses-right b (suc k) rs next are.1 j (omega arith))

-- ---- assignments

assignments-right : (b : List ℕ) (place n : ℕ) (ws : List ℕ) → Lie ws b place → AllByRecursion (λ a. is_assignment n (signed a) ≡ true) ws → (k : ℕ) → k < length ws → (place + 4 * k + 4 ≤ length b) × (is_assignment n (signed_at b (place + 4 * k)) ≡ true)
assignments-right b place n [] lie right k low = absurd (omega arith)
assignments-right b place n (w ∷ ws) lie right zero low = (
  omega (arith, lie.end),
  subst (λ x. is_assignment n (signed x) ≡ true) (sym (lie-word w ws b place lie) ∙ ap (word_at b) (let e : place ≡ place + 4 * 0 = omega arith in e)) right.0,
)
assignments-right b place n (w ∷ ws) lie right (suc k) low =
    let others = assignments-right b (place + 4) n ws (lie-after w ws b place lie) right.1 k (omega arith) in
    (omega (arith, others.0), subst (λ p. is_assignment n (signed_at b p) ≡ true) (let e : place + 4 + 4 * k ≡ place + 4 * suc k = omega arith in e) others.1)

-- ---- a whole blob

lie-whole : (ws b rest : List ℕ) → AreWords ws → b ≡ words_bytes ws ++ rest → Lie ws b 0
lie-whole ws b rest are e = record {
  words = words_again ws b 0 are (ap (λ l. take (4 * length ws) l) e ∙ take_at (words_bytes ws) rest (4 * length ws) (length-words_bytes ws));
  end = omega (arith, ap length e, length-append (words_bytes ws) rest, length-words_bytes ws);
}

pub blob-sound : (b : List ℕ) → IsBlob b → IsSound b
blob-sound b is =
    let f = is.fields in let size = length b - 32 in let n = length f.assignments in let m = length f.responses in
    let ranges = is.in_range in
    let responses = flat_map response_words f.responses in
    let tail = f.head_reserved ++ (f.assignments ++ responses) in
    let middle = f.head_size ∷ n ∷ m ∷ tail in
    let whole : Lie (blob_words size f) b 0 = lie-whole (blob_words size f) b is.rest is.words is.spelling in
    let from4 : Lie (f.kind ∷ size ∷ f.abi ∷ (f.header_reserved ++ middle)) b 4 = lie-after blob_magic _ b 0 whole in
    let from8 : Lie (size ∷ f.abi ∷ (f.header_reserved ++ middle)) b 8 = lie-after f.kind _ b 4 from4 in
    let from16 : Lie (f.header_reserved ++ middle) b 16 = lie-after f.abi _ b 12 (lie-after size _ b 8 from8) in
    let from32 : Lie middle b 32 = lie-second f.header_reserved middle b 16 32 (omega (arith, ranges.header_reserved)) from16 in
    let from36 : Lie (n ∷ m ∷ tail) b 36 = lie-after f.head_size (n ∷ m ∷ tail) b 32 from32 in
    let from40 : Lie (m ∷ tail) b 40 = lie-after n (m ∷ tail) b 36 from36 in
    let from44 : Lie tail b 44 = lie-after m tail b 40 from40 in
    let from60 : Lie (f.assignments ++ responses) b 60 = lie-second f.head_reserved (f.assignments ++ responses) b 44 60 (omega (arith, ranges.head_reserved)) from44 in
    let channels : blob_channels b ≡ n = lie-word n (m ∷ tail) b 36 from36 in
    let count : blob_responses b ≡ m = lie-word m tail b 40 from40 in
    let behind : Lie responses b (response_at b 0) = lie-second f.assignments responses b 60 (response_at b 0) (omega (arith, channels)) from60 in
    let assigned = assignments-right b 60 m f.assignments (lie-first f.assignments responses b 60 from60) ranges.assignments in
    let response : (r : ℕ) → r < blob_responses b → HasResponse b (response_at b r) =
    λ r low. subst (λ k. HasResponse b (response_at b k)) (let e : 0 + r ≡ r = omega arith in e) (responses-right b 0 f.responses behind ranges.responses r (omega (arith, low, count))) in
    let few_channels = counted n ranges.channels in let few_responses = counted m ranges.count in
    record {
      long = is.size;
      magic = lie-word blob_magic _ b 0 whole;
      header = lie-word size _ b 8 from8;
      few_channels = (omega (arith, channels, few_channels.0), omega (arith, channels, few_channels.1));
      few_responses = (omega (arith, count, few_responses.0), omega (arith, count, few_responses.1));
      assignment = λ c low. let h = assigned c (omega (arith, low, channels)) in (h.0, subst (λ k. is_assignment k (assignment_at b c) ≡ true) (sym count) h.1);
      counts = λ r low. let h = response r low in (h.head, h.few.0, h.few.1);
      series = λ r low. (response r low).series;
      sections = λ r s low under. (response r low).sections s under;
    }
