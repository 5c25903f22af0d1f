-- Bytes that are read round the end of a list.
use Rattle.std.proofs.Common.{◌≡◌, ℕ, ◌+◌, ◌-◌, ◌≤◌, ◌<◌, ◌⊎◌, inl, inr, List, [], ◌∷◌, ◌++◌, length, get_or, take, drop, refl, sym, ap, ◌∙◌, arith, length-append, length-take, length-drop, append_assoc, take-append-drop}
use Rattle.std.proofs.lemmas.Bool.{cases_lt, lt-ltb, le-ltb}
use Rattle.std.proofs.lemmas.List.{same_lists, get_or-take, get_or-drop, get_or_append_left, get_or-append_right, take_all, take_at, take-take, take-append-le, drop_all, drop_at, drop-drop, drop-take, drop-append-le, append-nil, places}
use Rattle.std.proofs.Math.Seq.{take-append-add}
use borrow.Rule.Slice.PartMut.{put_mid}
use Rattle.sof_io.specs.Round.{round_bytes, place_past}

pub length-round : (s n : ℕ) (xs : List ℕ) → s ≤ length xs → n ≤ length xs → length (round_bytes s n xs) ≡ n
unfolding round_bytes
length-round s n xs le fits = omega (arith, length-take n (drop s (xs ++ xs)), length-drop s (xs ++ xs), length-append xs xs)

-- byte by byte they are those of the list and those of the list again
get-round : (s n k d : ℕ) (xs : List ℕ) → k < n → get_or (round_bytes s n xs) k d ≡ get_or (xs ++ xs) (s + k) d
unfolding round_bytes
get-round s n k d xs lt = get_or-take n (drop s (xs ++ xs)) k d lt ∙ get_or-drop s (xs ++ xs) k d

-- up to the end of the list
pub round-near : (s n : ℕ) (xs : List ℕ) → s + n ≤ length xs → round_bytes s n xs ≡ take n (drop s xs)
unfolding round_bytes
round-near s n xs fits =
    ap (take n) (drop-append-le s xs xs (omega arith)) ∙ take-append-le n (drop s xs) xs (omega (arith, length-drop s xs))

-- and past it
pub round-far : (s n : ℕ) (xs : List ℕ) → s ≤ length xs → length xs ≤ s + n → round_bytes s n xs ≡ drop s xs ++ take (n - (length xs - s)) xs
unfolding round_bytes
round-far s n xs le past =
    let parts : n ≡ length (drop s xs) + (n - (length xs - s)) = omega (arith, length-drop s xs) in
    ap (take n) (drop-append-le s xs xs le)
    ∙ ap (λ (m : ℕ). take m (drop s xs ++ xs)) parts
    ∙ take-append-add (drop s xs) xs (n - (length xs - s))

-- fewer of them are their front
pub round-fewer : (s m n : ℕ) (xs : List ℕ) → m ≤ n → take m (round_bytes s n xs) ≡ round_bytes s m xs
unfolding round_bytes
round-fewer s m n xs le = take-take m n (drop s (xs ++ xs)) le

-- without the first k they are those from k places on
pub round-past : (s n k : ℕ) (xs : List ℕ) → s ≤ length xs → n ≤ length xs → k ≤ n → round_bytes (place_past (length xs) s k) (n - k) xs ≡ drop k (round_bytes s n xs)
unfolding round_bytes
round-past s n k xs le fits few =
    let behind : drop k (take n (drop s (xs ++ xs))) ≡ take (n - k) (drop (s + k) (xs ++ xs)) =
    ap (λ (m : ℕ). drop k (take m (drop s (xs ++ xs)))) (let e : n ≡ k + (n - k) = omega arith in e)
    ∙ drop-take k (n - k) (drop s (xs ++ xs))
    ∙ ap (take (n - k)) (drop-drop k s (xs ++ xs)) in
    elim (cases_lt (length xs) (s + k)) [
      | inl past ↦
          let from : ℕ = s + k - length xs in
          let whole : s + k ≡ length xs + from = omega arith in
          let again : drop (s + k) (xs ++ xs) ≡ drop from xs =
          ap (λ (m : ℕ). drop m (xs ++ xs)) whole
          ∙ sym (drop-drop from (length xs) (xs ++ xs))
          ∙ ap (drop from) (drop_at xs xs (length xs) refl) in
          rw (lt-ltb (length xs) (s + k) past) (
          ap (take (n - k)) (drop-append-le from xs xs (omega arith))
          ∙ take-append-le (n - k) (drop from xs) xs (omega (arith, length-drop from xs))
          ∙ sym (behind ∙ ap (take (n - k)) again)
          )
      | inr near ↦ rw (le-ltb (length xs) (s + k) near) (sym behind)
    ]

-- bytes put where those that are held end come after them
pub round-put : (s n t m : ℕ) (xs ys : List ℕ) → s ≤ length xs → t + m ≤ length xs → n + m ≤ length xs → length ys ≡ m → (t ≡ s + n) ⊎ (t + length xs ≡ s + n) → round_bytes s (n + m) (put_mid t m xs ys) ≡ round_bytes s n xs ++ ys
round-put s n t m xs ys le room fits count at =
    same_lists _ _ (omega (arith, long, length-round s (n + m) whole (omega (arith, long)) (omega (arith, long)), length-round s n xs le (omega arith), length-append (round_bytes s n xs) ys)) (λ k d under.
    let below : k < n + m = omega (arith, under, length-round s (n + m) whole (omega (arith, long)) (omega (arith, long))) in
    get-round s (n + m) k d whole below ∙ elim (cases_lt k n) [ inl lt ↦ older k d lt at | inr ge ↦ newer k d below ge at ])
  where
    whole : List ℕ
    whole = put_mid t m xs ys

    long : length whole ≡ length xs
    long = omega (arith, length-append (take t xs) (ys ++ drop m (drop t xs)), length-append ys (drop m (drop t xs)), length-drop m (drop t xs), length-drop t xs, length-take t xs)

    outside : (k d : ℕ) → (k < t → get_or whole k d ≡ get_or xs k d) × (t + m ≤ k → get_or whole k d ≡ get_or xs k d)
    outside k d =
        (λ low. grind (arith, places), λ high. grind (arith, places))

    within : (k d : ℕ) → k < m → get_or whole (t + k) d ≡ get_or ys k d
    within k d low = grind (arith, places)

    first : (zs : List ℕ) (i d : ℕ) → i < length zs → get_or (zs ++ zs) i d ≡ get_or zs i d
    first zs i d lt = get_or_append_left zs zs d i lt

    second : (zs : List ℕ) (i d : ℕ) → length zs ≤ i → get_or (zs ++ zs) i d ≡ get_or zs (i - length zs) d
    second zs i d ge = get_or-append_right zs zs (length zs) i d refl ge

    second_whole : (i d : ℕ) → length xs ≤ i → get_or (whole ++ whole) i d ≡ get_or whole (i - length xs) d
    second_whole i d ge = get_or-append_right whole whole (length xs) i d long ge

    held : (k d : ℕ) → k < n → get_or (xs ++ xs) (s + k) d ≡ get_or (round_bytes s n xs ++ ys) k d
    held k d lt = sym (get_or_append_left (round_bytes s n xs) ys d k (omega (arith, length-round s n xs le (omega arith))) ∙ get-round s n k d xs lt)

    older : (k d : ℕ) → k < n → (t ≡ s + n) ⊎ (t + length xs ≡ s + n) → get_or (whole ++ whole) (s + k) d ≡ get_or (round_bytes s n xs ++ ys) k d
    older k d lt (inl e) = first whole (s + k) d (omega (arith, long)) ∙ (outside (s + k) d).0 (omega arith) ∙ sym (first xs (s + k) d (omega arith)) ∙ held k d lt
    older k d lt (inr e) =
        elim (cases_lt (s + k) (length xs)) [
          | inl low ↦ first whole (s + k) d (omega (arith, long)) ∙ (outside (s + k) d).1 (omega arith) ∙ sym (first xs (s + k) d low) ∙ held k d lt
          | inr high ↦ second_whole (s + k) d high ∙ (outside (s + k - length xs) d).0 (omega arith) ∙ sym (second xs (s + k) d high) ∙ held k d lt
        ]

    put : (k d : ℕ) → n ≤ k → get_or ys (k - n) d ≡ get_or (round_bytes s n xs ++ ys) k d
    put k d ge = sym (get_or-append_right (round_bytes s n xs) ys n k d (length-round s n xs le (omega arith)) ge)

    newer : (k d : ℕ) → k < n + m → n ≤ k → (t ≡ s + n) ⊎ (t + length xs ≡ s + n) → get_or (whole ++ whole) (s + k) d ≡ get_or (round_bytes s n xs ++ ys) k d
    newer k d lt ge (inl e) =
        let there : s + k ≡ t + (k - n) = omega arith in
        first whole (s + k) d (omega (arith, long)) ∙ ap (λ (j : ℕ). get_or whole j d) there ∙ within (k - n) d (omega arith) ∙ put k d ge
    newer k d lt ge (inr e) =
        let there : s + k - length xs ≡ t + (k - n) = omega arith in
        second_whole (s + k) d (omega arith) ∙ ap (λ (j : ℕ). get_or whole j d) there ∙ within (k - n) d (omega arith) ∙ put k d ge

-- bytes after a list whose last ones are held
pub round-grown : (s n : ℕ) (xs ys : List ℕ) → s ≤ length xs → n ≤ length xs → (0 < length ys → s + n ≡ length xs) → round_bytes s (n + length ys) (xs ++ ys) ≡ round_bytes s n xs ++ ys
round-grown s n xs [] le fits last =
    let none : n + 0 ≡ n = omega arith in
    ap (λ (m : ℕ). round_bytes s m (xs ++ [])) none ∙ ap (round_bytes s n) (append-nil xs) ∙ sym (append-nil (round_bytes s n xs))
round-grown s n xs (y ∷ ys) le fits last =
    let all : s + n ≡ length xs = last (omega arith) in
    round-near s (n + length (y ∷ ys)) (xs ++ (y ∷ ys)) (omega (arith, length-append xs (y ∷ ys)))
    ∙ take_all (n + length (y ∷ ys)) (drop s (xs ++ (y ∷ ys))) (omega (arith, length-drop s (xs ++ (y ∷ ys)), length-append xs (y ∷ ys)))
    ∙ drop-append-le s xs (y ∷ ys) le
    ∙ ap (λ (front : List ℕ). front ++ (y ∷ ys)) (sym (take_all n (drop s xs) (omega (arith, length-drop s xs))) ∙ sym (round-near s n xs (omega arith)))

-- a list whose two parts are copied is both of them
pub joined : (out front back : List ℕ) (a : ℕ) → length front ≡ a → a ≤ length out → put_mid a (length (front ++ drop a out) - a) (front ++ drop a out) back ≡ front ++ back
joined out front back a len le =
    let mid = front ++ drop a out in
    let none : drop (length mid - a) (drop a mid) ≡ [] = drop_all (length mid - a) (drop a mid) (omega (arith, length-drop a mid)) in
    (λ i. take_at front (drop a out) a len i ++ (back ++ none i)) ∙ ap (λ (t : List ℕ). front ++ t) (append-nil back)

-- where the bytes that are held end
pub place-is : (len s n t : ℕ) → s ≤ len → n ≤ len → t ≡ place_past len s n → (t ≤ len) × ((t ≡ s + n) ⊎ (t + len ≡ s + n))
place-is len s n t le fits e =
    elim (cases_lt len (s + n)) [
      | inl past ↦
          let e' : t ≡ s + n - len = rw (lt-ltb len (s + n) past) at e in
          (omega arith, inr (omega arith))
      | inr near ↦
          let e' : t ≡ s + n = rw (le-ltb len (s + n) near) at e in
          (omega arith, inl e')
    ]

-- bytes put up to the end of the list, and then from its beginning
pub round-put_twice : (s n t a : ℕ) (xs ys : List ℕ) → s ≤ length xs → t + a ≡ length xs → n + length ys ≤ length xs → a < length ys → (t ≡ s + n) ⊎ (t + length xs ≡ s + n) → round_bytes s (n + length ys) (put_mid 0 (length (drop a ys)) (put_mid t a xs (take a ys)) (drop a ys)) ≡ round_bytes s n xs ++ ys
round-put_twice s n t a xs ys le end fits more (inr e) = absurd (omega arith)
round-put_twice s n t a xs ys le end fits more (inl e) =
    let front = take a ys in let back = drop a ys in
    let mid : List ℕ = put_mid t a xs front in
    let first : length front ≡ a = omega (arith, length-take a ys) in
    let rest : length back ≡ length ys - a = length-drop a ys in
    let long : length mid ≡ length xs = omega (arith, first, length-append (take t xs) (front ++ drop a (drop t xs)), length-append front (drop a (drop t xs)), length-drop a (drop t xs), length-drop t xs, length-take t xs) in
    let whole : n + length ys ≡ n + a + length back = omega arith in
    ap (λ (m : ℕ). round_bytes s m (put_mid 0 (length back) mid back)) whole
    ∙ round-put s (n + a) 0 (length back) mid back (omega (arith, long)) (omega (arith, long)) (omega (arith, long)) refl (inr (omega (arith, long)))
    ∙ ap (λ (l : List ℕ). l ++ back) (round-put s n t a xs front le (omega arith) (omega arith) first (inl e))
    ∙ append_assoc (round_bytes s n xs) front back
    ∙ ap (λ (l : List ℕ). round_bytes s n xs ++ l) (take-append-drop a ys)

pub round-none : (s : ℕ) (xs : List ℕ) → round_bytes s 0 xs ≡ []
unfolding round_bytes
round-none s xs = refl
