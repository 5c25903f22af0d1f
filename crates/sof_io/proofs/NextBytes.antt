-- The next bytes of an input.
use Rattle.std.proofs.Common.{◌≡◌, ℕ, ◌+◌, ◌-◌, ◌<◌, min, List, [], ◌++◌, length, get_or, take, drop, replicate, refl, sym, ap, ◌∙◌, inl, inr, arith, length-append, length-take, length-drop, append_assoc}
use Rattle.std.proofs.lemmas.Bool.{cases_lt}
use Rattle.std.proofs.lemmas.List.{get_or-take, get_or_append_left, get_or-append_right, get_or-replicate, get_or_past, length-replicate, take_all, take_at, take_min, take-append-le, take-replicate, drop_all, drop_at, drop_min, drop-drop, drop-replicate, drop-append-le, replicate-append-replicate, append-nil}
use Rattle.std.proofs.Math.Nat.{min_comm}
use Rattle.std.proofs.Math.Seq.{take-add, take-append-add}
use Rattle.sof_io.specs.Takes.{next_bytes}

abbrev zeros : ℕ → List ℕ
zeros n = replicate n 0

length-zeros : (n : ℕ) → length (zeros n) ≡ n
length-zeros n = length-replicate n 0

-- they are as many as were asked for
pub length-next_bytes : (n : ℕ) (left : List ℕ) → length (next_bytes n left) ≡ n
length-next_bytes n left = omega (arith, length-take n (left ++ zeros n), length-append left (zeros n), length-zeros n)

-- of no bytes they are zeros
pub next_bytes-none : (n : ℕ) → next_bytes n [] ≡ replicate n 0
next_bytes-none n = take_all n (zeros n) (omega (arith, length-zeros n))

-- the bytes that are left, and zeros past the end
pub next_bytes-parts : (n : ℕ) (left : List ℕ) → next_bytes n left ≡ take n left ++ replicate (n - length left) 0
next_bytes-parts n left =
    elim (cases_lt (length left) n) [
      | inl short ↦
          let k : n ≡ length left + (n - length left) = omega arith in
          let whole : take n left ≡ left = take_all n left (omega arith) in
          let fill : take (n - length left) (zeros n) ≡ zeros (n - length left) = take-replicate (n - length left) n 0 (omega arith) in
          ap (λ (m : ℕ). take m (left ++ zeros n)) k ∙ take-append-add left (zeros n) (n - length left) ∙ ap (λ (t : List ℕ). left ++ t) fill ∙ ap (λ (t : List ℕ). t ++ zeros (n - length left)) (sym whole)
      | inr long ↦
          let none : n - length left ≡ 0 = omega arith in
          take-append-le n left (zeros n) long ∙ sym (append-nil (take n left)) ∙ ap (λ (m : ℕ). take n left ++ zeros m) (sym none)
    ]

-- what is left at a position, as a part of all bytes
pub cut : (position start : ℕ) (bytes seen left : List ℕ) → seen ≡ bytes → start ≡ min position (length seen) → drop position bytes ≡ left → take (length seen - start) (drop start seen) ≡ left
cut position start bytes seen left is from e =
    take_all (length seen - start) (drop start seen) (omega (arith, length-drop start seen))
    ∙ ap (λ (m : ℕ). drop m seen) from
    ∙ drop_min position seen
    ∙ ap (drop position) is
    ∙ e

-- a slice whose front was copied, and whose rest was filled with zeros
pub filled : (out left copied rest : List ℕ) (count : ℕ) → count ≡ min (length left) (length out) → copied ≡ take count left → rest ≡ replicate (length (take (length (copied ++ drop count out) - count) (drop count (copied ++ drop count out)))) 0 → take count (copied ++ drop count out) ++ (rest ++ drop (length (copied ++ drop count out) - count) (drop count (copied ++ drop count out))) ≡ next_bytes (length out) left
filled out left copied rest count is front back =
    let all : List ℕ = copied ++ drop count out in
    let n = length out in
    let len : length copied ≡ count = omega (arith, ap length front, length-take count left) in
    let whole : length (copied ++ drop count out) ≡ length out = omega (arith, length-append copied (drop count out), length-drop count out) in
    let past : drop count (copied ++ drop count out) ≡ drop count out = drop_at copied (drop count out) count len in
    let first : take count (copied ++ drop count out) ≡ copied = take_at copied (drop count out) count len in
    let none : drop (length out - count) (drop count out) ≡ [] = drop_all (length out - count) (drop count out) (omega (arith, length-drop count out)) in
    let many : length (take (length out - count) (drop count out)) ≡ length out - length left = omega (arith, length-take (length out - count) (drop count out), length-drop count out) in
    let zeros_are : rest ≡ replicate (length out - length left) 0 = back ∙ ap (λ (m : ℕ). replicate m 0) (rw (whole, past) many) in
    let same : copied ≡ take (length out) left = front ∙ ap (λ (m : ℕ). take m left) (is ∙ min_comm (length left) (length out)) ∙ take_min (length out) left in
    rw (first, whole, past, none, append-nil rest, zeros_are, same) (sym (next_bytes-parts (length out) left))

more_zeros : (n k : ℕ) (xs : List ℕ) → take n (xs ++ zeros (n + k)) ≡ take n (xs ++ zeros n)
more_zeros n k xs =
    ap (λ (all : List ℕ). take n (xs ++ all)) (sym (replicate-append-replicate n k 0))
    ∙ ap (take n) (sym (append_assoc xs (zeros n) (zeros k)))
    ∙ take-append-le n (xs ++ zeros n) (zeros k) (omega (arith, length-append xs (zeros n), length-zeros n))

after : (m n : ℕ) (left : List ℕ) → take n (drop m (left ++ zeros (m + n))) ≡ next_bytes n (drop m left)
after m n left =
    elim (cases_lt (length left) m) [
      | inl short ↦
          let k : length left + (m - length left) ≡ m = omega arith in
          let past : drop m (left ++ zeros (m + n)) ≡ zeros (m + n - (m - length left)) =
          ap (λ (i : ℕ). drop i (left ++ zeros (m + n))) (sym k)
          ∙ sym (drop-drop (m - length left) (length left) (left ++ zeros (m + n)))
          ∙ ap (drop (m - length left)) (drop_at left (zeros (m + n)) (length left) refl)
          ∙ drop-replicate (m - length left) (m + n) 0 in
          ap (take n) past
          ∙ take-replicate n (m + n - (m - length left)) 0 (omega arith)
          ∙ sym (next_bytes-none n)
          ∙ ap (next_bytes n) (sym (drop_all m left (omega arith)))
      | inr long ↦
          let turned : m + n ≡ n + m = omega arith in
          ap (take n) (drop-append-le m left (zeros (m + n)) long)
          ∙ ap (λ (i : ℕ). take n (drop m left ++ zeros i)) turned
          ∙ more_zeros n m (drop m left)
    ]

-- m bytes, and then n more of what is left after them
pub next_bytes-more : (m n : ℕ) (left : List ℕ) → next_bytes (m + n) left ≡ next_bytes m left ++ next_bytes n (drop m left)
next_bytes-more m n left =
    take-add m n (left ++ zeros (m + n))
    ∙ ap (λ (front : List ℕ). front ++ take n (drop m (left ++ zeros (m + n)))) (more_zeros m n left)
    ∙ ap (λ (back : List ℕ). next_bytes m left ++ back) (after m n left)

-- byte by byte they are those that are left, with zeros past the end
pub next_bytes-at : (n k : ℕ) (left : List ℕ) → k < n → get_or (next_bytes n left) k 0 ≡ get_or left k 0
next_bytes-at n k left lt =
    elim (cases_lt k (length left)) [
      | inl within ↦ get_or-take n (left ++ zeros n) k 0 lt ∙ get_or_append_left left (zeros n) 0 k within
      | inr past ↦
          get_or-take n (left ++ zeros n) k 0 lt
          ∙ get_or-append_right left (zeros n) (length left) k 0 refl past
          ∙ get_or-replicate n (k - length left) 0 0 (omega arith)
          ∙ sym (get_or_past left k 0 past)
    ]
