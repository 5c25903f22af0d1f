-- The tests of walks say whether there is one.
use Rattle.std.proofs.Common.{◌≡◌, refl, sym, ap, subst, ◌∙◌, ℕ, zero, suc, List, [], ◌∷◌, Bool, true, false, ◌==◌, ◌&&◌, ◌||◌, ◌⊎◌, ◌↔◌, inl, inr, Option, Some, None}
use Rattle.std.specs.List.{list_any}
use Rattle.std.specs.Option.{option_map_or}
use Rattle.std.proofs.lemmas.Bool.{false≢true, eqb-true, eq-eqb, and_parts, and_from, or_left, or_right, or_cases}
use Rattle.stream_law.specs.declared.graph.Comp.{Comp}
use Rattle.stream_law.specs.declared.graph.Edge.{Edge}
use Rattle.stream_law.specs.declared.graph.Kind.{Kind}
use Rattle.stream_law.specs.Order.{is_among}
use Rattle.stream_law.specs.Ways.{is_end, is_capture}
use Rattle.tplg_walks.specs.Cycles.{are_joined, EdgeWalk, Reaches, ReachesCapture}
use Rattle.tplg_walks.specs.Echoes.{leads_along, reaches, leads_to_capture, is_sort_at, reaches_sort, reached_by_sort}
use Rattle.tplg_walks.proofs.Among.{is_end-some}

-- two tests that hold together are one
pub same_from_iff : (a b : Bool) → (a ≡ true) ↔ (b ≡ true) → a ≡ b
same_from_iff true true iff = refl
same_from_iff true false iff = sym (iff.0 refl)
same_from_iff false true iff = iff.1 refl
same_from_iff false false iff = refl

-- a walk of some length
abbrev pub Leads : List Edge → ℕ → ℕ → Type 0
Leads edges a b = (n : ℕ) × EdgeWalk edges n a b

-- ---- walks

-- one edge more is no less
more : (e : Edge) (es : List Edge) (n a b : ℕ) → EdgeWalk es n a b → EdgeWalk (e ∷ es) n a b
more e es zero a b w = w
more e es (suc n) a b w = (w.0, or_right (is_end e.source a && is_end e.sink w.0) (are_joined es a w.0) w.1, more e es n w.0 b w.2)

-- one walk after another
both : (edges : List Edge) (n a c b : ℕ) → EdgeWalk edges n a c → Leads edges c b → Leads edges a b
both edges zero a c b w v = subst (λ x. Leads edges x b) (sym w) v
both edges (suc n) a c b w v = let rest = both edges n w.0 c b w.2 v in (suc rest.0, (w.0, w.1, rest.1))

-- the test at an end that is there
end-true : (test : ℕ → Bool) (o : Option ℕ) → option_map_or test o false ≡ true → (c : ℕ) × (o ≡ Some c) × (test c ≡ true)
end-true test None h = absurd (false≢true h)
end-true test (Some c) h = (c, refl, h)

end_at : (o : Option ℕ) (c : ℕ) → o ≡ Some c → is_end o c ≡ true
end_at o c e = ap (λ x. is_end x c) e ∙ eq-eqb c c refl

-- ---- where the test says so, there is one

pub leads-walk : (edges : List Edge) (a b : ℕ) → leads_along edges a b ≡ true → Leads edges a b
leads-walk [] a b h = (0, eqb-true a b h)
leads-walk (e ∷ es) a b h = by_case (or_cases (leads_along es a b) (option_map_or (λ c. leads_along es a c) e.source false && option_map_or (λ c. leads_along es c b) e.sink false) h) (λ x y k. leads-walk es x y k)
  where
    without : Leads es a b → Leads (e ∷ es) a b
    without w = (w.0, more e es w.0 a b w.1)

    by_case : (leads_along es a b ≡ true) ⊎ ((option_map_or (λ c. leads_along es a c) e.source false && option_map_or (λ c. leads_along es c b) e.sink false) ≡ true) → ((x y : ℕ) → leads_along es x y ≡ true → Leads es x y) → Leads (e ∷ es) a b
    by_case (inl k) rest = without (rest a b k)
    by_case (inr k) rest =
        let parts = and_parts (option_map_or (λ c. leads_along es a c) e.source false) (option_map_or (λ c. leads_along es c b) e.sink false) k in
        let s = end-true (λ c. leads_along es a c) e.source parts.0 in
        let t = end-true (λ c. leads_along es c b) e.sink parts.1 in
        let up = rest a s.0 s.2 in
        let on = rest t.0 b t.2 in
        let here : are_joined (e ∷ es) s.0 t.0 ≡ true = or_left (is_end e.source s.0 && is_end e.sink t.0) (are_joined es s.0 t.0) (and_from (is_end e.source s.0) (is_end e.sink t.0) (end_at e.source s.0 s.1) (end_at e.sink t.0 t.1)) in
        both (e ∷ es) up.0 a s.0 b (more e es up.0 a s.0 up.1) (suc on.0, (t.0, here, more e es on.0 t.0 b on.1))

-- ---- where there is one, the test says so

leads-same : (edges : List Edge) (a : ℕ) → leads_along edges a a ≡ true
leads-same [] a = eq-eqb a a refl
leads-same (e ∷ es) a = or_left (leads_along es a a) (option_map_or (λ c. leads_along es a c) e.source false && option_map_or (λ c. leads_along es c a) e.sink false) (leads-same es a)

-- the first edge is on the way
through : (e : Edge) (es : List Edge) (a s t b : ℕ) → e.source ≡ Some s → e.sink ≡ Some t → leads_along es a s ≡ true → leads_along es t b ≡ true → leads_along (e ∷ es) a b ≡ true
through e es a s t b is_s is_t up on =
    or_right (leads_along es a b) (option_map_or (λ c. leads_along es a c) e.source false && option_map_or (λ c. leads_along es c b) e.sink false)
    (and_from (option_map_or (λ c. leads_along es a c) e.source false) (option_map_or (λ c. leads_along es c b) e.sink false)
    (ap (λ o. option_map_or (λ c. leads_along es a c) o false) is_s ∙ up)
    (ap (λ o. option_map_or (λ c. leads_along es c b) o false) is_t ∙ on))

abbrev Through : Edge → List Edge → ℕ → ℕ → Type 0
Through e es c b = (option_map_or (λ x. leads_along es c x) e.source false && option_map_or (λ x. leads_along es x b) e.sink false) ≡ true

module _ (e : Edge) (es : List Edge) (rest : (n a b : ℕ) → EdgeWalk es n a b → leads_along es a b ≡ true) where
  -- by an edge but the first, and on by any but the first
  before : (a c x : ℕ) → are_joined es a c ≡ true → leads_along es c x ≡ true → leads_along es a x ≡ true
  before a c x j h = let v = leads-walk es c x h in rest (suc v.0) a x (c, j, v.1)

  step : (a c b : ℕ) → ((is_end e.source a && is_end e.sink c) ≡ true) ⊎ (are_joined es a c ≡ true) → (leads_along es c b ≡ true) ⊎ Through e es c b → leads_along (e ∷ es) a b ≡ true
  step a c b (inl k) (inl h) =
      let ends = and_parts (is_end e.source a) (is_end e.sink c) k in
      through e es a a c b (is_end-some e.source a ends.0) (is_end-some e.sink c ends.1) (leads-same es a) h
  step a c b (inl k) (inr h) =
      let ends = and_parts (is_end e.source a) (is_end e.sink c) k in
      let parts = and_parts (option_map_or (λ x. leads_along es c x) e.source false) (option_map_or (λ x. leads_along es x b) e.sink false) h in
      let on = ap (λ o. option_map_or (λ x. leads_along es x b) o false) (sym (is_end-some e.sink c ends.1)) ∙ parts.1 in
      through e es a a c b (is_end-some e.source a ends.0) (is_end-some e.sink c ends.1) (leads-same es a) on
  step a c b (inr j) (inl h) =
      or_left (leads_along es a b) (option_map_or (λ x. leads_along es a x) e.source false && option_map_or (λ x. leads_along es x b) e.sink false) (before a c b j h)
  step a c b (inr j) (inr h) =
      let parts = and_parts (option_map_or (λ x. leads_along es c x) e.source false) (option_map_or (λ x. leads_along es x b) e.sink false) h in
      let s = end-true (λ x. leads_along es c x) e.source parts.0 in
      let t = end-true (λ x. leads_along es x b) e.sink parts.1 in
      through e es a s.0 t.0 b s.1 t.1 (before a c s.0 j s.2) t.2

  over : (n a b : ℕ) → EdgeWalk (e ∷ es) n a b → leads_along (e ∷ es) a b ≡ true
  over zero a b w = ap (λ x. leads_along (e ∷ es) a x) (sym w) ∙ leads-same (e ∷ es) a
  over (suc n) a b w =
      step a w.0 b (or_cases (is_end e.source a && is_end e.sink w.0) (are_joined es a w.0) w.1)
      (or_cases (leads_along es w.0 b) (option_map_or (λ x. leads_along es w.0 x) e.source false && option_map_or (λ x. leads_along es x b) e.sink false) (over n w.0 b w.2))

pub walk-leads : (edges : List Edge) (n a b : ℕ) → EdgeWalk edges n a b → leads_along edges a b ≡ true
walk-leads [] zero a b w = eq-eqb a b w
walk-leads [] (suc n) a b w = absurd (false≢true w.1)
walk-leads (e ∷ es) n a b w = over e es (λ m x y v. walk-leads es m x y v) n a b w

-- ---- one edge or more

is_reached-walk : (all edges : List Edge) (a b : ℕ) → list_any (λ e. is_end e.source a && option_map_or (λ c. leads_along all c b) e.sink false) edges ≡ true → (c : ℕ) × (are_joined edges a c ≡ true) × (leads_along all c b ≡ true)
is_reached-walk all [] a b h = absurd (false≢true h)
is_reached-walk all (e ∷ es) a b h = by_case (or_cases (is_end e.source a && option_map_or (λ c. leads_along all c b) e.sink false) (list_any (λ e. is_end e.source a && option_map_or (λ c. leads_along all c b) e.sink false) es) h) (λ k. is_reached-walk all es a b k)
  where
    by_case : ((is_end e.source a && option_map_or (λ c. leads_along all c b) e.sink false) ≡ true) ⊎ (list_any (λ e. is_end e.source a && option_map_or (λ c. leads_along all c b) e.sink false) es ≡ true) → (list_any (λ e. is_end e.source a && option_map_or (λ c. leads_along all c b) e.sink false) es ≡ true → (c : ℕ) × (are_joined es a c ≡ true) × (leads_along all c b ≡ true)) → (c : ℕ) × (are_joined (e ∷ es) a c ≡ true) × (leads_along all c b ≡ true)
    by_case (inl k) rest =
        let parts = and_parts (is_end e.source a) (option_map_or (λ c. leads_along all c b) e.sink false) k in
        let t = end-true (λ c. leads_along all c b) e.sink parts.1 in
        (t.0, or_left (is_end e.source a && is_end e.sink t.0) (are_joined es a t.0) (and_from (is_end e.source a) (is_end e.sink t.0) parts.0 (end_at e.sink t.0 t.1)), t.2)
    by_case (inr k) rest = let r = rest k in (r.0, or_right (is_end e.source a && is_end e.sink r.0) (are_joined es a r.0) r.1, r.2)

walk-is_reached : (all edges : List Edge) (a c b : ℕ) → are_joined edges a c ≡ true → leads_along all c b ≡ true → list_any (λ e. is_end e.source a && option_map_or (λ c. leads_along all c b) e.sink false) edges ≡ true
walk-is_reached all [] a c b j h = absurd (false≢true j)
walk-is_reached all (e ∷ es) a c b j h = by_case (or_cases (is_end e.source a && is_end e.sink c) (are_joined es a c) j) (λ k. walk-is_reached all es a c b k h)
  where
    by_case : ((is_end e.source a && is_end e.sink c) ≡ true) ⊎ (are_joined es a c ≡ true) → (are_joined es a c ≡ true → list_any (λ e. is_end e.source a && option_map_or (λ c. leads_along all c b) e.sink false) es ≡ true) → list_any (λ e. is_end e.source a && option_map_or (λ c. leads_along all c b) e.sink false) (e ∷ es) ≡ true
    by_case (inl k) rest =
        let ends = and_parts (is_end e.source a) (is_end e.sink c) k in
        or_left (is_end e.source a && option_map_or (λ x. leads_along all x b) e.sink false) (list_any (λ e. is_end e.source a && option_map_or (λ c. leads_along all c b) e.sink false) es)
        (and_from (is_end e.source a) (option_map_or (λ x. leads_along all x b) e.sink false) ends.0 (ap (λ o. option_map_or (λ x. leads_along all x b) o false) (is_end-some e.sink c ends.1) ∙ h))
    by_case (inr k) rest =
        or_right (is_end e.source a && option_map_or (λ x. leads_along all x b) e.sink false) (list_any (λ e. is_end e.source a && option_map_or (λ c. leads_along all c b) e.sink false) es) (rest k)

pub reaches-from : (edges : List Edge) (a b : ℕ) → reaches edges a b ≡ true → Reaches edges a b
reaches-from edges a b h = let r = is_reached-walk edges edges a b h in let w = leads-walk edges r.0 b r.2 in (w.0, (r.0, r.1, w.1))

pub reaches-to : (edges : List Edge) (a b : ℕ) → Reaches edges a b → reaches edges a b ≡ true
reaches-to edges a b r = walk-is_reached edges edges a r.1.0 b r.1.1 (walk-leads edges r.0 r.1.0 b r.1.2)

-- ---- components of a sort

some-from : (comps : List Comp) (edges : List Edge) (sort : Kind → Bool) (id : ℕ) → reaches_sort comps edges sort id ≡ true → (d : ℕ) × (is_sort_at comps sort d ≡ true) × (reaches edges id d ≡ true)
some-from [] edges sort id h = absurd (false≢true h)
some-from (c ∷ cs) edges sort id h = by_case (or_cases (sort c.kind && reaches edges id c.id) (reaches_sort cs edges sort id) h) (λ k. some-from cs edges sort id k)
  where
    by_case : ((sort c.kind && reaches edges id c.id) ≡ true) ⊎ (reaches_sort cs edges sort id ≡ true) → (reaches_sort cs edges sort id ≡ true → (d : ℕ) × (is_sort_at cs sort d ≡ true) × (reaches edges id d ≡ true)) → (d : ℕ) × (is_sort_at (c ∷ cs) sort d ≡ true) × (reaches edges id d ≡ true)
    by_case (inl k) rest =
        let parts = and_parts (sort c.kind) (reaches edges id c.id) k in
        (c.id, or_left (c.id == c.id && sort c.kind) (is_sort_at cs sort c.id) (and_from (c.id == c.id) (sort c.kind) (eq-eqb c.id c.id refl) parts.0), parts.1)
    by_case (inr k) rest = let r = rest k in (r.0, or_right (c.id == r.0 && sort c.kind) (is_sort_at cs sort r.0) r.1, r.2)

pub some-to : (comps : List Comp) (edges : List Edge) (sort : Kind → Bool) (id d : ℕ) → is_sort_at comps sort d ≡ true → reaches edges id d ≡ true → reaches_sort comps edges sort id ≡ true
some-to [] edges sort id d h on = absurd (false≢true h)
some-to (c ∷ cs) edges sort id d h on = by_case (or_cases (c.id == d && sort c.kind) (is_sort_at cs sort d) h) (λ k. some-to cs edges sort id d k on)
  where
    by_case : ((c.id == d && sort c.kind) ≡ true) ⊎ (is_sort_at cs sort d ≡ true) → (is_sort_at cs sort d ≡ true → reaches_sort cs edges sort id ≡ true) → reaches_sort (c ∷ cs) edges sort id ≡ true
    by_case (inl k) rest =
        let parts = and_parts (c.id == d) (sort c.kind) k in
        or_left (sort c.kind && reaches edges id c.id) (reaches_sort cs edges sort id)
        (and_from (sort c.kind) (reaches edges id c.id) parts.1 (ap (λ x. reaches edges id x) (eqb-true c.id d parts.0) ∙ on))
    by_case (inr k) rest = or_right (sort c.kind && reaches edges id c.id) (reaches_sort cs edges sort id) (rest k)

-- one of the sort is among what passes a test exactly where one of the sort passes it
among-test : (comps : List Comp) (sort : Kind → Bool) (some other : ℕ → Bool) → ((b : ℕ) → (some b ≡ true) ↔ (other b ≡ true)) → list_any (λ c. sort c.kind && some c.id) comps ≡ list_any (λ c. sort c.kind && other c.id) comps
among-test [] sort some other all = refl
among-test (c ∷ cs) sort some other all = λ i. (sort c.kind && same_from_iff (some c.id) (other c.id) (all c.id) i) || among-test cs sort some other all i

-- one of the sort is among what is reached exactly where one of the sort is reached
pub some-among : (comps : List Comp) (edges : List Edge) (sort : Kind → Bool) (id : ℕ) (seen : List ℕ) → ((b : ℕ) → (is_among seen b ≡ true) ↔ Reaches edges id b) → list_any (λ c. sort c.kind && is_among seen c.id) comps ≡ reaches_sort comps edges sort id
some-among comps edges sort id seen all = among-test comps sort (is_among seen) (λ b. reaches edges id b) (λ b. (λ h. reaches-to edges id b ((all b).0 h), λ h. (all b).1 (reaches-from edges id b h)))

-- and so where it is reached from what is seen
pub some-before : (comps : List Comp) (edges : List Edge) (sort : Kind → Bool) (id : ℕ) (seen : List ℕ) → ((a : ℕ) → (is_among seen a ≡ true) ↔ Reaches edges a id) → list_any (λ c. sort c.kind && is_among seen c.id) comps ≡ reached_by_sort comps edges sort id
some-before comps edges sort id seen all = among-test comps sort (is_among seen) (λ a. reaches edges a id) (λ a. (λ h. reaches-to edges a id ((all a).0 h), λ h. (all a).1 (reaches-from edges a id h)))

-- ---- hosts that capture

pub capture-reached : (comps : List Comp) (edges : List Edge) (id : ℕ) → leads_to_capture comps edges id ≡ true → ReachesCapture comps edges id
capture-reached comps edges id h = let r = some-from comps edges is_capture id h in (r.0, r.1, reaches-from edges id r.0 r.2)

pub reached-capture : (comps : List Comp) (edges : List Edge) (id : ℕ) → ReachesCapture comps edges id → leads_to_capture comps edges id ≡ true
reached-capture comps edges id r = some-to comps edges is_capture id r.0 r.1 (reaches-to edges id r.0 r.2)
