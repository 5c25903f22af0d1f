-- The order of an equaliser's parts, and the bytes that they join.
use Rattle.std.proofs.Common.{◌≡◌, refl, sym, ap, ◌∙◌, ℕ, ◌+◌, ◌-◌, ◌*◌, ◌/◌, ◌<◌, ◌≤◌, min, List, [], ◌++◌, length, take, drop, Bool, true, false, cond, not, ◌==◌, ◌&&◌, ◌||◌, Option, Some, None, arith, inl, inr, ◌⊎◌}
use Rattle.std.specs.Prelude.{nat_le, nat_lt}
use Rattle.std.specs.Option.{option_map_or}
use Rattle.std.specs.Str.{bytes_eq}
use Rattle.std.proofs.lemmas.Bool.{false≢true, and_parts, eqb-true, leb-true, leb-false, lt-ltb, le-ltb, le-leb}
use Rattle.std.proofs.lemmas.List.{take_at, take_all, take-take, length-take-le, length-append, append_assoc}
use Rattle.std.proofs.Common.{length-drop}
use Rattle.sof_base.specs.declared.part.Part.{Part}
use Rattle.sof_base.specs.BlobParts.{IsBlob}
use Rattle.sof_base.specs.BlobFaults.{is_blob}
use Rattle.eq_biquad.specs.EqState.{EqState}
use Rattle.stream_law.specs.State.{Staging}
use Rattle.mbox_link.specs.BlobParts.{parts, blob_part, left_behind}
use Rattle.mbox_link.specs.Step.{bytes_left, is_next, keeps_order, staged_bytes}
use Rattle.fw_parts.specs.Staged.{staging_in, fits_behind, CanBeStaged}

-- what is staged where something remains
pub staged-some : (id : ℕ) (staged : List ℕ) (next remaining : ℕ) → (remaining == 0) ≡ false → staging_in id staged next remaining ≡ Some (record { eq = id; bytes = take (32 + 260 * next) staged; next = next; remaining = remaining })
staged-some id staged next remaining more = ap (λ h. cond {A = Option Staging} h None (Some (record { eq = id; bytes = take (32 + 260 * next) staged; next = next; remaining = remaining }))) more

pub staged-none : (id : ℕ) (staged : List ℕ) (next remaining : ℕ) → (remaining == 0) ≡ true → staging_in id staged next remaining ≡ None
staged-none id staged next remaining none = ap (λ h. cond {A = Option Staging} h None (Some (record { eq = id; bytes = take (32 + 260 * next) staged; next = next; remaining = remaining }))) none

module _ (id : ℕ) (staged : List ℕ) (next remaining : ℕ) (part : Part) where
  behind : Staging
  behind = record { eq = id; bytes = take (32 + 260 * next) staged; next = next; remaining = remaining }

  -- whether a part is next, by what remains
  pub next-by : option_map_or (is_next part) (staging_in id staged next remaining) false ≡ (not (remaining == 0) && (((part.index == next) && bytes_eq part.header (take 32 (take (32 + 260 * next) staged))) && (bytes_left part == remaining)))
  next-by = by (remaining == 0)
    where
      by : (h : Bool) → option_map_or (is_next part) (cond {A = Option Staging} h None (Some (record { eq = id; bytes = take (32 + 260 * next) staged; next = next; remaining = remaining }))) false ≡ (not h && (((part.index == next) && bytes_eq part.header (take 32 (take (32 + 260 * next) staged))) && (bytes_left part == remaining)))
      by true = refl
      by false = refl

  -- part 0, or the one that is next
  pub order-says : keeps_order (staging_in id staged next remaining) part ≡ true → ((part.index ≡ 0) × (length part.bytes + part.remaining ≤ 992)) ⊎ (((part.index == 0) ≡ false) × ((remaining == 0) ≡ false) × (part.index ≡ next) × (length part.bytes + part.remaining ≡ remaining))
  order-says e = by (part.index == 0) refl (and_parts (cond (part.index == 0) (nat_le (bytes_left part) 992) (option_map_or (is_next part) (staging_in id staged next remaining) false)) (part.remaining == 0 || length part.bytes == 260) e).0
    where
      by : (h : Bool) → (part.index == 0) ≡ h → cond h (nat_le (bytes_left part) 992) (option_map_or (is_next part) (staging_in id staged next remaining) false) ≡ true → ((part.index ≡ 0) × (length part.bytes + part.remaining ≤ 992)) ⊎ (((part.index == 0) ≡ false) × ((remaining == 0) ≡ false) × (part.index ≡ next) × (length part.bytes + part.remaining ≡ remaining))
      by true is due = inl (eqb-true part.index 0 is, leb-true (bytes_left part) 992 due)
      by false is due =
          let all = and_parts (not (remaining == 0)) (((part.index == next) && bytes_eq part.header (take 32 (take (32 + 260 * next) staged))) && (bytes_left part == remaining)) (sym next-by ∙ due) in
          let right = and_parts ((part.index == next) && bytes_eq part.header (take 32 (take (32 + 260 * next) staged))) (bytes_left part == remaining) all.1 in
          let left = and_parts (part.index == next) (bytes_eq part.header (take 32 (take (32 + 260 * next) staged))) right.0 in
          inr (is, left-false (remaining == 0) all.0, eqb-true part.index next left.0, eqb-true (bytes_left part) remaining right.1)
        where
          left-false : (h : Bool) → not h ≡ true → h ≡ false
          left-false true e = sym e
          left-false false e = refl

  -- all but the last carry 260 bytes
  pub order-full : keeps_order (staging_in id staged next remaining) part ≡ true → (part.remaining == 0) ≡ false → length part.bytes ≡ 260
  order-full e more = eqb-true (length part.bytes) 260 (ap (λ h. h || length part.bytes == 260) (sym more) ∙ (and_parts (cond (part.index == 0) (nat_le (bytes_left part) 992) (option_map_or (is_next part) (staging_in id staged next remaining) false)) (part.remaining == 0 || length part.bytes == 260) e).1)

  -- the bytes of a part end at or before 1024
  pub order-fits : 260 * next + remaining ≤ 992 → keeps_order (staging_in id staged next remaining) part ≡ true → 32 + 260 * part.index + length part.bytes ≤ 1024
  order-fits within e = by (order-says e)
    where
      by : ((part.index ≡ 0) × (length part.bytes + part.remaining ≤ 992)) ⊎ (((part.index == 0) ≡ false) × ((remaining == 0) ≡ false) × (part.index ≡ next) × (length part.bytes + part.remaining ≡ remaining)) → 32 + 260 * part.index + length part.bytes ≤ 1024
      by (inl one) = omega (arith, one.0, one.1)
      by (inr one) = omega (arith, one.2, one.3, within)

  -- and what is staged with it, and what remains, are within a blob
  pub order-within : 260 * next + remaining ≤ 992 → keeps_order (staging_in id staged next remaining) part ≡ true → (part.remaining == 0) ≡ false → 260 * (part.index + 1) + part.remaining ≤ 992
  order-within within e more = by (order-says e)
    where
      full : length part.bytes ≡ 260
      full = order-full e more

      by : ((part.index ≡ 0) × (length part.bytes + part.remaining ≤ 992)) ⊎ (((part.index == 0) ≡ false) × ((remaining == 0) ≡ false) × (part.index ≡ next) × (length part.bytes + part.remaining ≡ remaining)) → 260 * (part.index + 1) + part.remaining ≤ 992
      by (inl one) = omega (arith, one.0, one.1, full)
      by (inr one) = omega (arith, one.2, one.3, full, within)

  -- the bytes with it are those in front of its place, and its own
  pub order-bytes : keeps_order (staging_in id staged next remaining) part ≡ true → staged_bytes (staging_in id staged next remaining) part ≡ (cond (part.index == 0) part.header (take (32 + 260 * part.index) staged)) ++ part.bytes
  order-bytes e = by (order-says e)
    where
      whole : (h : Bool) → (part.index == 0) ≡ h → cond h (part.header ++ part.bytes) (option_map_or (λ s. s.bytes) (staging_in id staged next remaining) [] ++ part.bytes) ≡ (cond h part.header (option_map_or (λ s. s.bytes) (staging_in id staged next remaining) [])) ++ part.bytes
      whole true is = refl
      whole false is = refl

      by : ((part.index ≡ 0) × (length part.bytes + part.remaining ≤ 992)) ⊎ (((part.index == 0) ≡ false) × ((remaining == 0) ≡ false) × (part.index ≡ next) × (length part.bytes + part.remaining ≡ remaining)) → staged_bytes (staging_in id staged next remaining) part ≡ (cond (part.index == 0) part.header (take (32 + 260 * part.index) staged)) ++ part.bytes
      by (inl one) =
          whole (part.index == 0) refl
          ∙ ap (λ xs. xs ++ part.bytes) (first (part.index == 0) (ap (λ n. n == 0) one.0))
        where
          first : (h : Bool) → h ≡ true → cond h part.header (option_map_or (λ (s : Staging). s.bytes) (staging_in id staged next remaining) []) ≡ cond h part.header (take (32 + 260 * part.index) staged)
          first true is = refl
          first false is = absurd (false≢true is)
      by (inr one) =
          whole (part.index == 0) refl
          ∙ ap (λ xs. xs ++ part.bytes) (ap (λ xs. cond (part.index == 0) part.header xs) (
          ap (λ (o : Option Staging). option_map_or (λ s. s.bytes) o []) (staged-some id staged next remaining one.1)
          ∙ ap (λ n. take (32 + 260 * n) staged) (sym one.2)))

-- the tests of a part one after the other
pub next-told : (id : ℕ) (staged : List ℕ) (next remaining : ℕ) (part : Part) (turn header left : Bool) → turn ≡ (not (remaining == 0) && (part.index == next)) → header ≡ bytes_eq part.header (take 32 staged) → left ≡ (bytes_left part == remaining)
    → ((turn && header) && left) ≡ option_map_or (is_next part) (staging_in id staged next remaining) false
next-told id staged next remaining part turn header left turn_is header_is left_is =
    (λ i. (turn_is i && (header_is ∙ ap (bytes_eq part.header) (sym (take-take 32 (32 + 260 * next) staged (omega arith)))) i) && left_is i)
    ∙ turned (not (remaining == 0)) (part.index == next) (bytes_eq part.header (take 32 (take (32 + 260 * next) staged))) (bytes_left part == remaining)
    ∙ sym (next-by id staged next remaining part)
  where
    turned : (a b c d : Bool) → (((a && b) && c) && d) ≡ (a && ((b && c) && d))
    turned true b c d = refl
    turned false b c d = refl

-- ---- bytes that are joined

-- the bytes before a part, with its own after them
pub join-is : (old mid new header own tail : List ℕ) (index at end : ℕ) → mid ≡ cond (index == 0) (header ++ drop 32 old) old → at ≡ 32 + 260 * index → end ≡ at + length own → at ≤ length mid → length old ≡ 1024 → length mid ≡ 1024 → new ≡ take at mid ++ (own ++ tail)
    → take end new ≡ cond (index == 0) header (take (32 + 260 * index) old) ++ own
join-is old mid new header own tail index at end mid_is at_is end_is within old_long mid_long is =
    ap (take end) (is ∙ sym (append_assoc (take at mid) own tail))
    ∙ take_at (take at mid ++ own) tail end (length-append (take at mid) own ∙ ap (λ n. n + length own) (length-take-le at mid within) ∙ sym end_is)
    ∙ ap (λ xs. xs ++ own) (by (index == 0) refl)
  where
    by : (h : Bool) → (index == 0) ≡ h → take at mid ≡ cond (index == 0) header (take (32 + 260 * index) old)
    by true first =
        let whole : mid ≡ header ++ drop 32 old = mid_is ∙ ap (λ h. cond h (header ++ drop 32 old) old) first in
        let long : length header ≡ 32 = omega (arith, ap length whole, length-append header (drop 32 old), length-drop 32 old, old_long, mid_long) in
        let zero : index ≡ 0 = eqb-true index 0 first in
        let front : at ≡ 32 = omega (arith, at_is, zero) in
        ap (take at) whole
        ∙ ap (λ n. take n (header ++ drop 32 old)) front
        ∙ take_at header (drop 32 old) 32 long
        ∙ sym (ap (λ h. cond h header (take (32 + 260 * index) old)) first)
    by false later =
        ap (take at) (mid_is ∙ ap (λ h. cond h (header ++ drop 32 old) old) later)
        ∙ ap (λ n. take n old) at_is
        ∙ sym (ap (λ h. cond h header (take (32 + 260 * index) old)) later)

-- and what may become of them
pub are-joined : (id : ℕ) (staged : List ℕ) (next remaining : ℕ) (part : Part) (bytes : List ℕ) → 260 * next + remaining ≤ 992 → keeps_order (staging_in id staged next remaining) part ≡ true → (part.remaining ≡ 0 → IsBlob bytes) → length bytes ≡ 32 + 260 * part.index + length part.bytes → CanBeStaged part bytes
are-joined id staged next remaining part bytes within order blob long = record {
  few = omega (arith, long, order-fits id staged next remaining part within order);
  blob = blob;
  count = λ more. omega (arith, long, order-full id staged next remaining part order more);
  within = λ more. order-within id staged next remaining part within order more;
}

-- what is taken is joined so, and nothing else
pub joined-some : (id : ℕ) (staged : List ℕ) (next remaining : ℕ) (part : Part) (bytes : List ℕ) → keeps_order (staging_in id staged next remaining) part ≡ true → (not (part.remaining == 0) || is_blob bytes) ≡ true → bytes ≡ cond (part.index == 0) part.header (take (32 + 260 * part.index) staged) ++ part.bytes
    → Some bytes ≡ cond (fits_behind (staging_in id staged next remaining) part) (Some (staged_bytes (staging_in id staged next remaining) part)) None
joined-some id staged next remaining part bytes order right is =
    let same : bytes ≡ staged_bytes (staging_in id staged next remaining) part = is ∙ sym (order-bytes id staged next remaining part order) in
    let fits : fits_behind (staging_in id staged next remaining) part ≡ true = (λ i. order i && (not (part.remaining == 0) || is_blob (sym same i))) ∙ right in
    ap (λ (xs : List ℕ). let o : Option (List ℕ) = Some xs in o) same
    ∙ sym (ap (λ h. cond {A = Option (List ℕ)} h (Some (staged_bytes (staging_in id staged next remaining) part)) None) fits)

pub joined-disordered : (id : ℕ) (staged : List ℕ) (next remaining : ℕ) (part : Part) → keeps_order (staging_in id staged next remaining) part ≡ false → None ≡ cond (fits_behind (staging_in id staged next remaining) part) (Some (staged_bytes (staging_in id staged next remaining) part)) None
joined-disordered id staged next remaining part broken =
    sym (ap (λ h. cond {A = Option (List ℕ)} (h && (not (part.remaining == 0) || is_blob (staged_bytes (staging_in id staged next remaining) part))) (Some (staged_bytes (staging_in id staged next remaining) part)) None) broken)

pub joined-wrong : (id : ℕ) (staged : List ℕ) (next remaining : ℕ) (part : Part) (bytes : List ℕ) → keeps_order (staging_in id staged next remaining) part ≡ true → (not (part.remaining == 0) || is_blob bytes) ≡ false → bytes ≡ cond (part.index == 0) part.header (take (32 + 260 * part.index) staged) ++ part.bytes
    → None ≡ cond (fits_behind (staging_in id staged next remaining) part) (Some (staged_bytes (staging_in id staged next remaining) part)) None
joined-wrong id staged next remaining part bytes order wrong is =
    let same : bytes ≡ staged_bytes (staging_in id staged next remaining) part = is ∙ sym (order-bytes id staged next remaining part order) in
    let fits : fits_behind (staging_in id staged next remaining) part ≡ false = (λ i. order i && (not (part.remaining == 0) || is_blob (sym same i))) ∙ wrong in
    sym (ap (λ h. cond {A = Option (List ℕ)} h (Some (staged_bytes (staging_in id staged next remaining) part)) None) fits)

-- ---- an equaliser with other words

pub eq-put : (old new : EqState) (blob : List ℕ) → new.blob ≡ blob → new.piece.home ≡ old.piece.home → new.piece.place ≡ old.piece.place → new.piece.size ≡ old.piece.size → new ≡ record { blob = blob; piece = record old.piece { words = new.piece.words } }
eq-put old new blob is home place size = λ i. record { blob = is i; piece = record { home = home i; place = place i; size = size i; words = new.piece.words } }

-- bytes that are staged from the first on stand in front
pub staged-front : (old new bytes : List ℕ) (n : ℕ) → new ≡ take 0 old ++ (bytes ++ drop (0 + length bytes) old) → length bytes ≡ n → take n new ≡ bytes
staged-front old new bytes n is count = ap (take n) is ∙ take_at bytes (drop (0 + length bytes) old) n count

-- ---- parts of a blob

parts-is : (blob : List ℕ) → parts blob ≡ (length blob - 32 + 259) / 260
parts-is blob = ap (λ n. (n + 259) / 260) (length-drop 32 blob)

cut-by : List ℕ → ℕ → Bool → Option Part
cut-by blob index h = cond h (Some (blob_part blob index)) None

-- none past the last
pub cut-none : (blob : List ℕ) (index n : ℕ) → n ≡ (length blob - 32 + 259) / 260 → n ≤ index → None ≡ cond (nat_lt index (parts blob)) (Some (blob_part blob index)) None
unfolding cut-by
cut-none blob index n is past = sym (ap (cut-by blob index) (le-ltb index (parts blob) (omega (arith, past, is, parts-is blob))))

-- and before that each has its bytes
pub cut-some : (blob header bytes : List ℕ) (index remaining n : ℕ) → n ≡ (length blob - 32 + 259) / 260 → index < n → header ≡ take 32 blob → bytes ≡ take 260 (drop (260 * index) (drop 32 blob)) → remaining ≡ left_behind blob index
    → Some (record { header = header; remaining = remaining; index = index; bytes = bytes }) ≡ cond (nat_lt index (parts blob)) (Some (blob_part blob index)) None
unfolding cut-by
cut-some blob header bytes index remaining n is before head_is bytes_are left_is =
    (λ i. Some (record { header = head_is i; remaining = left_is i; index = index; bytes = bytes_are i }))
    ∙ sym (ap (cut-by blob index) (lt-ltb index (parts blob) (omega (arith, before, is, parts-is blob))))

-- as many as there are, but no more than m
pub take-most : (xs : List ℕ) (n m : ℕ) → n ≡ min (length xs) m → take n xs ≡ take m xs
take-most xs n m is = by (nat_le (length xs) m) refl
  where
    by : (h : Bool) → nat_le (length xs) m ≡ h → take n xs ≡ take m xs
    by true few = let le : length xs ≤ m = leb-true (length xs) m few in take_all n xs (omega (arith, is, le)) ∙ sym (take_all m xs le)
    by false many = let lt : m < length xs = leb-false (length xs) m many in ap (λ k. take k xs) (let same : n ≡ m = omega (arith, is, lt) in same)

pub rest-left : (blob : List ℕ) (index n m : ℕ) → n ≡ length (drop (260 * index) (drop 32 blob)) → m ≡ min n 260 → n - m ≡ left_behind blob index
rest-left blob index n m is most =
    let long : length (drop (260 * index) (drop 32 blob)) ≡ length (drop 32 blob) - 260 * index = length-drop (260 * index) (drop 32 blob) in
    omega (arith, is, most, long)

-- items that fit come back whole
pub some-own : (h : Bool) (xs own : List ℕ) → ◌≡◌ {A = Option (List ℕ)} (Some own) (cond h (Some xs) None) → own ≡ xs
some-own true xs own e = cc e
some-own false xs own e = absurd (cc e)

pub some-whole : (o : Option (List ℕ)) (xs : List ℕ) (most : ℕ) → length xs ≤ most → o ≡ cond (nat_le (length xs) most) (Some xs) None → o ≡ Some xs
some-whole o xs most few is = is ∙ ap (λ h. cond {A = Option (List ℕ)} h (Some xs) None) (le-leb (length xs) most few)

-- a part is cut out of the bytes after the header
pub cut-told : (blob header behind rest bytes : List ℕ) (index len n : ℕ) → n ≡ (length blob - 32 + 259) / 260 → index < n → header ≡ take 32 blob → behind ≡ drop 32 blob → rest ≡ take (length behind - 260 * index) (drop (260 * index) behind) → len ≡ min (length rest) 260 → bytes ≡ take len rest
    → Some (record { header = header; remaining = length rest - len; index = index; bytes = bytes }) ≡ cond (nat_lt index (parts blob)) (Some (blob_part blob index)) None
cut-told blob header behind rest bytes index len n n_is before header_is behind_is rest_is len_is bytes_are =
    let whole : rest ≡ drop (260 * index) (drop 32 blob) = rest_is ∙ take_all (length behind - 260 * index) (drop (260 * index) behind) (omega (arith, length-drop (260 * index) behind)) ∙ ap (drop (260 * index)) behind_is in
    let most : len ≡ min (length (drop (260 * index) (drop 32 blob))) 260 = len_is ∙ ap (λ (xs : List ℕ). min (length xs) 260) whole in
    cut-some blob header bytes index (length rest - len) n n_is before header_is
    (bytes_are ∙ ap (take len) whole ∙ take-most (drop (260 * index) (drop 32 blob)) len 260 most)
    (rest-left blob index (length rest) len (ap length whole) len_is)
