-- The inlets of all components and the buffers that they feed are no more than twice the buffers.
use Rattle.std.proofs.Common.{◌≡◌, refl, sym, ap, ◌∙◌, ℕ, ◌+◌, ◌<◌, ◌≤◌, List, [], ◌∷◌, ◌++◌, append_assoc, length, length-append, take, drop, get_or, filter, Bool, true, false, cond, not, ◌==◌, ◌||◌, Option, Some, None, arith}
use Rattle.std.proofs.lemmas.Bool.{eqb-true}
use Rattle.std.proofs.lemmas.List.{take_more, take-append-drop, append-nil}
use Rattle.std.specs.Prelude.{nat_eq}
use Rattle.std.specs.List.{AllByRecursion, IsDistinct}
use Rattle.stream_law.specs.State.{View}
use Rattle.stream_law.specs.Ways.{buffers, ins, outs, is_end, source_of, sink_of, active_end}
use Rattle.stream_law.specs.Moves.{chooses, fed, fed_by}
use Rattle.stream_law.proofs.Members.{filter-most}
use Rattle.fw_schedule.specs.Schedules.{inlets_of, step_edges}

-- ---- ends

-- an end is at one component
one-end : (e : Option ℕ) (c d : ℕ) → (c == d) ≡ false → is_end e c ≡ true → is_end e d ≡ false
one-end None c d apart is = refl
one-end (Some a) c d apart is = ap (λ x. x == d) (eqb-true a c is) ∙ apart

-- what passes, and what does not
halves : (p : ℕ → Bool) (bs : List ℕ) → length (filter p bs) + length (filter (λ b. not (p b)) bs) ≡ length bs
halves p [] = refl
halves p (b ∷ bs) = by (p b) (halves p bs)
  where
    by : (h : Bool) → length (filter p bs) + length (filter (λ b. not (p b)) bs) ≡ length bs → length (cond h (b ∷ filter p bs) (filter p bs)) + length (cond (not h) (b ∷ filter (λ b. not (p b)) bs) (filter (λ b. not (p b)) bs)) ≡ length (b ∷ bs)
    by true rest = omega (arith, rest)
    by false rest = omega (arith, rest)

module _ (end : ℕ → Option ℕ) where
  -- those at a component are not at another
  filter-apart : (c d : ℕ) → (c == d) ≡ false → (bs : List ℕ) → filter (λ b. is_end (end b) d) bs ≡ filter (λ b. is_end (end b) d) (filter (λ b. not (is_end (end b) c)) bs)
  filter-apart c d apart [] = refl
  filter-apart c d apart (b ∷ bs) = by (is_end (end b) c) refl (filter-apart c d apart bs)
    where
      by : (h : Bool) → is_end (end b) c ≡ h → filter (λ b. is_end (end b) d) bs ≡ filter (λ b. is_end (end b) d) (filter (λ b. not (is_end (end b) c)) bs)
          → cond (is_end (end b) d) (b ∷ filter (λ b. is_end (end b) d) bs) (filter (λ b. is_end (end b) d) bs) ≡ filter (λ b. is_end (end b) d) (cond (not h) (b ∷ filter (λ b. not (is_end (end b) c)) bs) (filter (λ b. not (is_end (end b) c)) bs))
      by true is rest = ap (λ k. cond k (b ∷ filter (λ b. is_end (end b) d) bs) (filter (λ b. is_end (end b) d) bs)) (one-end (end b) c d apart is) ∙ rest
      by false is rest = ap (λ (xs : List ℕ). cond (is_end (end b) d) (b ∷ xs) xs) rest

  -- how many are at these components
  abbrev pub count : List ℕ → List ℕ → ℕ
  count [] bs = 0
  count (c ∷ cs) bs = length (filter (λ b. is_end (end b) c) bs) + count cs bs

  count-apart : (c : ℕ) (cs bs : List ℕ) → AllByRecursion (λ d. (c == d) ≡ false) cs → count cs bs ≡ count cs (filter (λ b. not (is_end (end b) c)) bs)
  count-apart c [] bs apart = refl
  count-apart c (d ∷ ds) bs apart = λ i. length (filter-apart c d apart.0 bs i) + count-apart c ds bs apart.1 i

  pub count-few : (cs bs : List ℕ) → IsDistinct nat_eq cs → count cs bs ≤ length bs
  unfolding IsDistinct
  count-few [] bs distinct = omega arith
  count-few (c ∷ cs) bs distinct =
      let rest = count-few cs (filter (λ b. not (is_end (end b) c)) bs) distinct.1 in
      let same = count-apart c cs bs distinct.0 in
      let both = halves (λ b. is_end (end b) c) bs in
      omega (arith, rest, same, both)

-- ---- inlets, and what is fed

module _ (v : View) where
  -- those of these components, one after the other
  abbrev pub all_ends : List ℕ → List ℕ
  all_ends [] = []
  all_ends (c ∷ cs) = step_edges v c ++ all_ends cs

  all-counted : (cs : List ℕ) → length (all_ends cs) ≤ count (sink_of v.graph) cs (buffers v.graph) + count (source_of v.graph) cs (buffers v.graph)
  all-counted [] = omega arith
  all-counted (c ∷ cs) =
      let rest = all-counted cs in
      let most : length (inlets_of v c) ≤ length (ins v.graph c) = filter-most (λ b. not (chooses v c) || active_end v (source_of v.graph b)) (ins v.graph c) in
      let most_fed : length (fed_by v c) ≤ length (outs v.graph c) = filter-most (fed v) (outs v.graph c) in
      omega (arith, rest, most, most_fed, length-append (inlets_of v c) (fed_by v c), length-append (step_edges v c) (all_ends cs))

  pub all-few : (cs : List ℕ) → IsDistinct nat_eq cs → length (all_ends cs) ≤ length (buffers v.graph) + length (buffers v.graph)
  all-few cs distinct = omega (arith, all-counted cs, count-few (sink_of v.graph) cs (buffers v.graph) distinct, count-few (source_of v.graph) cs (buffers v.graph) distinct)

  all-append : (xs ys : List ℕ) → all_ends (xs ++ ys) ≡ all_ends xs ++ all_ends ys
  all-append [] ys = refl
  all-append (x ∷ xs) ys = ap (λ (zs : List ℕ). step_edges v x ++ zs) (all-append xs ys) ∙ sym (append_assoc (step_edges v x) (all_ends xs) (all_ends ys))

  -- those of one more
  pub all-more : (cs : List ℕ) (i : ℕ) → i < length cs → all_ends (take (i + 1) cs) ≡ all_ends (take i cs) ++ step_edges v (get_or cs i 0)
  all-more cs i low =
      ap all_ends (take_more cs i 0 low)
      ∙ all-append (take i cs) (get_or cs i 0 ∷ [])
      ∙ ap (λ (xs : List ℕ). all_ends (take i cs) ++ xs) (append-nil (step_edges v (get_or cs i 0)))

  -- those of the first are no more than those of all
  pub all-front : (cs : List ℕ) (i : ℕ) → length (all_ends (take i cs)) ≤ length (all_ends cs)
  all-front cs i =
      let all : length (all_ends cs) ≡ length (all_ends (take i cs) ++ all_ends (drop i cs)) = ap (λ (xs : List ℕ). length (all_ends xs)) (sym (take-append-drop i cs)) ∙ ap length (all-append (take i cs) (drop i cs)) in
      omega (arith, all, length-append (all_ends (take i cs)) (all_ends (drop i cs)))

  -- so there is room for those of each
  pub room-next : (cs : List ℕ) (i : ℕ) → IsDistinct nat_eq cs → length (buffers v.graph) ≤ 128 → i < length cs → length (all_ends (take i cs)) + length (step_edges v (get_or cs i 0)) ≤ 256
  room-next cs i distinct few low =
      let next = ap length (all-more cs i low) in
      omega (arith, next, length-append (all_ends (take i cs)) (step_edges v (get_or cs i 0)), all-front cs (i + 1), all-few cs distinct, few)
