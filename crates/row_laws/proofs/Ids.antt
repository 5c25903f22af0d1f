-- Tests over the ids of a graph.
use Rattle.std.proofs.Common.{◌≡◌, refl, sym, ap, ◌∙◌, ℕ, List, [], ◌∷◌, ◌++◌, map, Bool, true, false, ◌||◌}
use Rattle.std.specs.List.{list_any}
use Rattle.std.proofs.lemmas.List.Folds.{list_any-append}
use Rattle.stream_law.specs.declared.graph.Comp.{Comp}
use Rattle.stream_law.specs.declared.graph.Edge.{Edge}

list_any-map : {X : Type 0} (p : ℕ → Bool) (key : X → ℕ) (xs : List X) → list_any p (map key xs) ≡ list_any (λ x. p (key x)) xs
list_any-map p key [] = refl
list_any-map p key (x ∷ xs) = ap (λ h. p (key x) || h) (list_any-map p key xs)

-- some id passes where some component's or some buffer's does
pub any-ids : (p : ℕ → Bool) (comps : List Comp) (edges : List Edge) → list_any p (map (λ c. c.id) comps ++ map (λ e. e.buffer) edges) ≡ (list_any (λ c. p c.id) comps || list_any (λ e. p e.buffer) edges)
any-ids p comps edges =
    list_any-append p (map (λ (c : Comp). c.id) comps) (map (λ (e : Edge). e.buffer) edges)
    ∙ ap (λ (h : Bool × Bool). h.0 || h.1) (λ i. (list_any-map p (λ (c : Comp). c.id) comps i, list_any-map p (λ (e : Edge). e.buffer) edges i))

-- the same of a test of components first
pub any-first : (p : ℕ → Bool) (comps : List Comp) (edges : List Edge) (a : Bool) → a ≡ list_any (λ c. p c.id) comps → a ≡ true → a ≡ list_any p (map (λ c. c.id) comps ++ map (λ e. e.buffer) edges)
any-first p comps edges a is holds = holds ∙ sym (any-ids p comps edges ∙ ap (λ h. h || list_any (λ (e : Edge). p e.buffer) edges) (sym is ∙ holds))

pub any-second : (p : ℕ → Bool) (comps : List Comp) (edges : List Edge) (a b : Bool) → a ≡ list_any (λ c. p c.id) comps → a ≡ false → b ≡ list_any (λ e. p e.buffer) edges → b ≡ list_any p (map (λ c. c.id) comps ++ map (λ e. e.buffer) edges)
any-second p comps edges a b is fails next = next ∙ sym (any-ids p comps edges ∙ ap (λ h. h || list_any (λ (e : Edge). p e.buffer) edges) (sym is ∙ fails))
