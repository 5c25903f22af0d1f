-- Lemmas on what is among a list of ids, and on tables at such ids.
use Rattle.std.proofs.Common.{◌≡◌, refl, sym, ap, ◌∙◌, ℕ, List, [], ◌∷◌, filter, Bool, true, false, cond, ◌==◌, ◌&&◌, ◌||◌}
use Rattle.std.proofs.lemmas.Bool.{eqb-true, eq-eqb, or_left, or_right, and_right, false≢true, true≢false}
use Rattle.stream_law.specs.Table.{table, updated, value_of}
use Rattle.stream_law.specs.Order.{is_among}

-- what passes a filter passes the test and was there
pub is_among-filter : (p : ℕ → Bool) (ids : List ℕ) (x : ℕ) → is_among (filter p ids) x ≡ (p x && is_among ids x)
is_among-filter p [] x = sym (and_right (p x) false refl)
is_among-filter p (i ∷ ids) x = kept (p i) refl (i == x) refl (is_among-filter p ids x)
  where
    kept : (s : Bool) → p i ≡ s → (t : Bool) → (i == x) ≡ t → is_among (filter p ids) x ≡ (p x && is_among ids x) → is_among (cond s (i ∷ filter p ids) (filter p ids)) x ≡ (p x && ((i == x) || is_among ids x))
    kept true e true h rest = ap (λ t. t || is_among (filter p ids) x) h ∙ sym (ap (λ (q : Bool × Bool). q.0 && (q.1 || is_among ids x)) (λ i'. (((ap p (sym (eqb-true i x h))) ∙ e) i', h i')))
    kept true e false h rest = ap (λ t. t || is_among (filter p ids) x) h ∙ rest ∙ sym (ap (λ t. p x && (t || is_among ids x)) h)
    kept false e true h rest = rest ∙ ap (λ t. t && is_among ids x) (ap p (sym (eqb-true i x h)) ∙ e) ∙ sym (ap (λ t. t && ((i == x) || is_among ids x)) (ap p (sym (eqb-true i x h)) ∙ e))
    kept false e false h rest = rest ∙ sym (ap (λ t. p x && (t || is_among ids x)) h)

-- an updated table has the new value at what is among the ids
pub value_of-updated_among : {X : Type 0} (other : X) (ids : List ℕ) (f : ℕ → X) (entries : List (ℕ × X)) (x : ℕ) → is_among ids x ≡ true → value_of other (updated ids f entries) x ≡ f x
value_of-updated_among other [] f entries x there = absurd (false≢true there)
value_of-updated_among {X} other (i ∷ ids) f entries x there = head (i == x) refl there (value_of-updated_among other ids f entries x)
  where
    head : (b : Bool) → (i == x) ≡ b → (b || is_among ids x) ≡ true → (is_among ids x ≡ true → value_of other (updated ids f entries) x ≡ f x) → cond b (f i) (value_of other (updated ids f entries) x) ≡ f x
    head true e h rest = ap f (eqb-true i x e)
    head false e h rest = rest h

-- and elsewhere the old one
pub value_of-updated_apart : {X : Type 0} (other : X) (ids : List ℕ) (f : ℕ → X) (entries : List (ℕ × X)) (x : ℕ) → is_among ids x ≡ false → value_of other (updated ids f entries) x ≡ value_of other entries x
value_of-updated_apart other [] f entries x gone = refl
value_of-updated_apart {X} other (i ∷ ids) f entries x gone = head (i == x) gone (value_of-updated_apart other ids f entries x)
  where
    head : (b : Bool) → (b || is_among ids x) ≡ false → (is_among ids x ≡ false → value_of other (updated ids f entries) x ≡ value_of other entries x) → cond b (f i) (value_of other (updated ids f entries) x) ≡ value_of other entries x
    head true h rest = absurd (true≢false h)
    head false h rest = rest h

-- a table whose new values are the old ones has the old value everywhere
pub value_of-updated_kept : {X : Type 0} (other : X) (ids : List ℕ) (f : ℕ → X) (entries : List (ℕ × X)) (x : ℕ) → (is_among ids x ≡ true → f x ≡ value_of other entries x) → value_of other (updated ids f entries) x ≡ value_of other entries x
value_of-updated_kept other ids f entries x same = by_place (is_among ids x) refl
  where
    by_place : (h : Bool) → is_among ids x ≡ h → value_of other (updated ids f entries) x ≡ value_of other entries x
    by_place true h = value_of-updated_among other ids f entries x h ∙ same h
    by_place false h = value_of-updated_apart other ids f entries x h

-- functions that agree on a list make the same table of it
pub table_same_among : {X : Type 0} (ids : List ℕ) (f g : ℕ → X) → ((x : ℕ) → is_among ids x ≡ true → f x ≡ g x) → table ids f ≡ table ids g
table_same_among [] f g same = refl
table_same_among (i ∷ ids) f g same =
    ap (λ y. (i, y) ∷ table ids f) (same i (or_left (i == i) (is_among ids i) (eq-eqb i i refl)))
    ∙ ap (λ l. (i, g i) ∷ l) (table_same_among ids f g (λ x h. same x (or_right (i == x) (is_among ids x) h)))

-- a table has the function's value at what is among its ids
pub value_of-table_among : {X : Type 0} (other : X) (ids : List ℕ) (f : ℕ → X) (x : ℕ) → is_among ids x ≡ true → value_of other (table ids f) x ≡ f x
value_of-table_among other [] f x there = absurd (false≢true there)
value_of-table_among {X} other (i ∷ ids) f x there = head (i == x) refl there (value_of-table_among other ids f x)
  where
    head : (b : Bool) → (i == x) ≡ b → (b || is_among ids x) ≡ true → (is_among ids x ≡ true → value_of other (table ids f) x ≡ f x) → cond b (f i) (value_of other (table ids f) x) ≡ f x
    head true e h rest = ap f (eqb-true i x e)
    head false e h rest = rest h

-- and the other value at the rest
pub value_of-table_apart : {X : Type 0} (other : X) (ids : List ℕ) (f : ℕ → X) (x : ℕ) → is_among ids x ≡ false → value_of other (table ids f) x ≡ other
value_of-table_apart other [] f x gone = refl
value_of-table_apart {X} other (i ∷ ids) f x gone = head (i == x) gone (value_of-table_apart other ids f x)
  where
    head : (b : Bool) → (b || is_among ids x) ≡ false → (is_among ids x ≡ false → value_of other (table ids f) x ≡ other) → cond b (f i) (value_of other (table ids f) x) ≡ other
    head true h rest = absurd (true≢false h)
    head false h rest = rest h
