-- Marks of what is seen.
use Rattle.std.proofs.Common.{◌≡◌, refl, sym, ap, ◌∙◌, ℕ, zero, suc, ◌<◌, List, [], ◌∷◌, ◌++◌, length, take, drop, get_or, set, replicate, Bool, true, false, ◌==◌, ◌&&◌, ◌||◌, ◌⊎◌, inl, inr, arith}
use Rattle.std.specs.List.{list_any}
use Rattle.std.proofs.lemmas.Bool.{false≢true, true≢false, eqb-true, eq-eqb, cases_Bool, or_left, or_right, or_cases}
use Rattle.std.proofs.lemmas.List.{get_or-set_same, get_or-set_other, length-set}
use Rattle.stream_law.specs.declared.graph.Edge.{Edge}
use Rattle.stream_law.specs.Order.{is_among}
use Rattle.stream_law.specs.Ways.{is_end}
use Rattle.tplg_walks.specs.Reach.{IsFound, AreMarksOf}
use Rattle.tplg_walks.proofs.Among.{is_among-push, among_last}

-- nothing is marked at first
pub marks-none : (n : ℕ) → AreMarksOf [] (replicate n false)
marks-none n = λ x low. none n x
  where
    none : (n k : ℕ) → get_or (replicate n false) k false ≡ false
    none zero k = refl
    none (suc n) zero = refl
    none (suc n) (suc k) = none n k

or-none : (a : Bool) → (a || (false || false)) ≡ a
or-none true = refl
or-none false = refl

-- another id is as it was
among-other : (seen : List ℕ) (id x : ℕ) → (id == x) ≡ false → is_among (seen ++ id ∷ []) x ≡ is_among seen x
among-other seen id x apart = is_among-push seen id x ∙ ap (λ t. is_among seen x || (t || false)) apart ∙ or-none (is_among seen x)

-- an id that has a mark is added with it
pub marks-add : (seen : List ℕ) (marks : List Bool) (id : ℕ) → id < length marks → AreMarksOf seen marks → AreMarksOf (seen ++ id ∷ []) (set marks id true)
marks-add seen marks id low are = λ x within. by_case x (cases_Bool (id == x)) (omega (arith, within, length-set marks id true))
  where
    by_case : (x : ℕ) → ((id == x) ≡ true) ⊎ ((id == x) ≡ false) → x < length marks → get_or (set marks id true) x false ≡ is_among (seen ++ id ∷ []) x
    by_case x (inl e) within = let same = eqb-true id x e in (λ i. get_or (set marks id true) (sym same i) false) ∙ get_or-set_same marks id true false low ∙ sym (among_last seen id) ∙ (λ i. is_among (seen ++ id ∷ []) (same i))
    by_case x (inr e) within = get_or-set_other marks id x true false (λ same. true≢false (sym (eq-eqb id x (sym same)) ∙ e)) ∙ are x within ∙ sym (among-other seen id x e)

-- and one that has none without
pub marks-past : (seen : List ℕ) (marks : List Bool) (id : ℕ) → (id < length marks → ⊥) → AreMarksOf seen marks → AreMarksOf (seen ++ id ∷ []) marks
marks-past seen marks id past are = λ x within. by_case x (cases_Bool (id == x)) within
  where
    by_case : (x : ℕ) → ((id == x) ≡ true) ⊎ ((id == x) ≡ false) → x < length marks → get_or marks x false ≡ is_among (seen ++ id ∷ []) x
    by_case x (inl e) within = absurd (past (omega (arith, within, eqb-true id x e)))
    by_case x (inr e) within = are x within ∙ sym (among-other seen id x e)

-- what one of some edges passes, one of all passes
any-drop : (p : Edge → Bool) (k : ℕ) (es : List Edge) → list_any p (drop k es) ≡ true → list_any p es ≡ true
any-drop p zero es h = h
any-drop p (suc k) [] h = h
any-drop p (suc k) (e ∷ es) h = or_right (p e) (list_any p es) (any-drop p k es h)

any-take : (p : Edge → Bool) (n : ℕ) (es : List Edge) → list_any p (take n es) ≡ true → list_any p es ≡ true
any-take p zero es h = absurd (false≢true h)
any-take p (suc n) [] h = h
any-take p (suc n) (e ∷ es) h = by_case (or_cases (p e) (list_any p (take n es)) h) (any-take p n es)
  where
    by_case : (p e ≡ true) ⊎ (list_any p (take n es) ≡ true) → (list_any p (take n es) ≡ true → list_any p es ≡ true) → (p e || list_any p es) ≡ true
    by_case (inl k) rest = or_left (p e) (list_any p es) k
    by_case (inr k) rest = or_right (p e) (list_any p es) (rest k)

-- what is found by some of the edges is found by all
pub found-part : (edges : List Edge) (k n from : ℕ) (seen : List ℕ) (b : ℕ) → IsFound (take n (drop k edges)) from seen b → IsFound edges from seen b
found-part edges k n from seen b f = record {
  apart = f.apart;
  source = f.source;
  behind = f.behind;
  edge = any-drop (λ e. is_end e.source f.source && is_end e.sink b) k edges (any-take (λ e. is_end e.source f.source && is_end e.sink b) n (drop k edges) f.edge);
}
