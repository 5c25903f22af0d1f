-- Where each component has its place in the order there is no cycle, and where none more can be placed there is one.
use Rattle.std.proofs.Common.{◌≡◌, refl, sym, ap, ◌∙◌, ℕ, zero, suc, ◌<◌, ◌+◌, ◌≤◌, List, [], ◌∷◌, ◌++◌, length, length-append, true, false, ◌||◌, ◌==◌, ◌⊎◌, inl, inr, Some, nat_eq, arith}
use Rattle.std.specs.List.{list_any, IsDistinct}
use Rattle.std.specs.Cmp.{nat_eq_equiv}
use Rattle.std.proofs.lemmas.Bool.{false≢true, or_cases, eqb-true, cases_Bool}
use Rattle.std.proofs.lemmas.List.Folds.{list_any-append}
use Rattle.std.proofs.lemmas.Map.Keys.{IsDistinct-push}
use Rattle.std.proofs.lemmas.Map.Made.{length-le_from_is_member}
use Rattle.stream_law.specs.declared.graph.Graph.{Graph}
use Rattle.stream_law.specs.Ways.{components, source_of, sink_of}
use Rattle.stream_law.specs.Order.{is_among, is_ready, order}
use Rattle.stream_law.specs.Walks.{LeadsTo, Walk, HasCycle, HasEnds, HasAll}
use Rattle.stream_law.specs.StreamLaws.{IsRanked}
use Rattle.stream_law.proofs.Ordered.{order-proceeds, order-ranked, place_of}
use Rattle.stream_law.proofs.Waits.{eqb_turned, unready-source}

-- ---- no cycle

-- a walk leads to a higher rank
walk-rises : (g : Graph) (rank : ℕ → ℕ) → IsRanked g rank → (n a b : ℕ) → Walk g (suc n) a b → rank a < rank b
walk-rises g rank ranked zero a b w =
    let up : rank a < rank w.0 = ranked.rises w.1.buffer a w.0 w.1.source w.1.sink in
    let same : rank w.0 ≡ rank b = ap rank w.2 in
    omega (arith, up, same)
walk-rises g rank ranked (suc n) a b w =
    let up : rank a < rank w.0 = ranked.rises w.1.buffer a w.0 w.1.source w.1.sink in
    let rest : rank w.0 < rank b = walk-rises g rank ranked n w.0 b w.2 in
    omega (arith, up, rest)

pub ranks-no_cycle : (g : Graph) (rank : ℕ → ℕ) → IsRanked g rank → HasCycle g → ⊥
ranks-no_cycle g rank ranked c = let up : rank c.0 < rank c.0 = walk-rises g rank ranked c.1 c.0 c.0 c.2 in omega (arith, up)

-- places in an order that has all are ranks
pub order-ranks : (g : Graph) → HasEnds g → HasAll g (order g) → IsRanked g (place_of (order g))
order-ranks g ends all = order-ranked g (order-proceeds g all) (λ b d sink. all d (ends.sinks b d sink))

pub no-cycle : (g : Graph) → HasEnds g → HasAll g (order g) → HasCycle g → ⊥
no-cycle g ends all c = ranks-no_cycle g (place_of (order g)) (order-ranks g ends all) c

-- ---- a cycle

-- what is among a list with one more
pub push_cases : (xs : List ℕ) (y x : ℕ) → is_among (xs ++ y ∷ []) x ≡ true → (is_among xs x ≡ true) ⊎ (y ≡ x)
push_cases xs y x h = first (or_cases (is_among xs x) ((y == x) || false) (sym (list_any-append (λ (id : ℕ). id == x) xs (y ∷ [])) ∙ h))
  where
    second : ((y == x) ≡ true) ⊎ (false ≡ true) → (is_among xs x ≡ true) ⊎ (y ≡ x)
    second (inl e) = inr (eqb-true y x e)
    second (inr e) = absurd (false≢true e)

    first : (is_among xs x ≡ true) ⊎ (((y == x) || false) ≡ true) → (is_among xs x ≡ true) ⊎ (y ≡ x)
    first (inl k) = inl k
    first (inr k) = second (or_cases (y == x) false k)

-- std's word for the same
pub member_among : (xs : List ℕ) (x : ℕ) → list_any (nat_eq x) xs ≡ is_among xs x
member_among [] x = refl
member_among (y ∷ ys) x = ap (λ t. t || list_any (nat_eq x) ys) (eqb_turned x y) ∙ ap (λ t. (y == x) || t) (member_among ys x)

-- distinct ids of a list are no more than it has
pub distinct-le : (xs ids : List ℕ) → IsDistinct nat_eq xs → ((x : ℕ) → is_among xs x ≡ true → is_among ids x ≡ true) → length xs ≤ length ids
distinct-le xs ids d there = length-le_from_is_member nat_eq_equiv xs ids d (λ q h. member_among ids q ∙ there q (sym (member_among xs q) ∙ h))

-- each component that is not placed has a source that is not
abbrev pub IsStuck : Graph → List ℕ → Type 0
IsStuck g placed = (c : ℕ) → is_among (components g) c ≡ true → is_among placed c ≡ false → is_ready g placed c ≡ false

-- components that are not placed, and walks to them from c
record Trail (g : Graph) (trail : List ℕ) (c : ℕ) : Type 0 where
  distinct : IsDistinct nat_eq trail
  there : (x : ℕ) → is_among trail x ≡ true → is_among (components g) x ≡ true
  walks : (x : ℕ) → is_among trail x ≡ true → (n : ℕ) × Walk g n c x

-- going back from source to source leads to a component again
back : (g : Graph) (placed : List ℕ) → HasEnds g → IsStuck g placed → (fuel : ℕ) (trail : List ℕ) (c : ℕ) → length (components g) < length trail + fuel → Trail g trail c → is_among (components g) c ≡ true → is_among placed c ≡ false → HasCycle g
back g placed ends stuck zero trail c enough t there apart = absurd (let few = distinct-le trail (components g) t.distinct t.there in omega (arith, enough, few))
back g placed ends stuck (suc fuel) trail c enough t there apart = by_source (unready-source g placed c (stuck c there apart)) (back g placed ends stuck fuel)
  where
    by_source : (b : ℕ) × (a : ℕ) × (source_of g b ≡ Some a) × (sink_of g b ≡ Some c) × (is_among placed a ≡ false) → ((trail : List ℕ) (c : ℕ) → length (components g) < length trail + fuel → Trail g trail c → is_among (components g) c ≡ true → is_among placed c ≡ false → HasCycle g) → HasCycle g
    by_source (b, a, source, sink, gone) rest = by_case (cases_Bool (is_among trail a))
      where
        edge : LeadsTo g a c
        edge = record { buffer = b; source = source; sink = sink }

        more : is_among trail a ≡ false → Trail g (trail ++ a ∷ []) a
        more new = record { distinct = IsDistinct-push nat_eq_equiv trail a t.distinct (member_among trail a ∙ new); there = λ x h. there_again x (push_cases trail a x h); walks = λ x h. again x (push_cases trail a x h) }
          where
            there_again : (x : ℕ) → (is_among trail x ≡ true) ⊎ (a ≡ x) → is_among (components g) x ≡ true
            there_again x (inl h) = t.there x h
            there_again x (inr h) = ap (is_among (components g)) (sym h) ∙ ends.sources b a source

            again : (x : ℕ) → (is_among trail x ≡ true) ⊎ (a ≡ x) → (n : ℕ) × Walk g n a x
            again x (inl h) = let w = t.walks x h in (suc w.0, (c, edge, w.1))
            again x (inr h) = (0, h)

        by_case : (is_among trail a ≡ true) ⊎ (is_among trail a ≡ false) → HasCycle g
        by_case (inl h) = let w = t.walks a h in (a, w.0, (c, edge, w.1))
        by_case (inr h) = rest (trail ++ a ∷ []) a (omega (arith, enough, length-append trail (a ∷ []))) (more h) (ends.sources b a source) gone

pub has-cycle : (g : Graph) (placed : List ℕ) (c : ℕ) → HasEnds g → IsStuck g placed → is_among (components g) c ≡ true → is_among placed c ≡ false → HasCycle g
unfolding IsDistinct
has-cycle g placed c ends stuck there apart = back g placed ends stuck (suc (length (components g))) [] c (omega arith) (record { distinct = tt; there = λ x h. absurd (false≢true h); walks = λ x h. absurd (false≢true h) }) there apart
