-- What is noted one index after another is what a stream needs.
use Rattle.std.proofs.Common.{◌≡◌, refl, sym, ap, ◌∙◌, ℕ, List, [], ◌∷◌, ◌++◌, filter, Bool, true, false, cond, inl, inr, ◌==◌, ◌||◌, ◌&&◌, Some, None}
use Rattle.std.specs.Prelude.{Option}
use Rattle.std.specs.List.{AllByRecursion}
use Rattle.stream_law.specs.declared.graph.Graph.{Graph}
use Rattle.stream_law.specs.Order.{is_among}
use Rattle.stream_law.proofs.Members.{IsIn, in-all}
use Rattle.stream_law.proofs.Among.{is_among-filter}
use Rattle.host_widgets.specs.Need.{HasAt, IsEnough, is_needed, need_in, IsPiped}
use Rattle.host_widgets.proofs.Between.{same-bools}
use Rattle.host_widgets.proofs.Needs.{among-in, in-among, need-least}
use Rattle.host_widgets.specs.Indices.{pipe_indices}

-- ---- one more among these

pub among-push : (has : List ℕ) (i x : ℕ) → is_among (has ++ i ∷ []) x ≡ (is_among has x || (i == x))
among-push [] i x = by (i == x)
  where
    by : (b : Bool) → (b || false) ≡ b
    by true = refl
    by false = refl
among-push (y ∷ has) i x = ap (λ (b : Bool). (y == x) || b) (among-push has i x) ∙ by (y == x) (is_among has x) (i == x)
  where
    by : (a b c : Bool) → (a || (b || c)) ≡ ((a || b) || c)
    by true b c = refl
    by false b c = refl

pub has-more : (p q : ℕ → Bool) (o : Option ℕ) → ((x : ℕ) → p x ≡ true → q x ≡ true) → HasAt p o → HasAt q o
has-more p q None f h = tt
has-more p q (Some i) f h = f i h

-- ---- the end

filter-same : (p q : ℕ → Bool) (xs : List ℕ) → ((x : ℕ) → IsIn x xs → p x ≡ q x) → filter p xs ≡ filter q xs
filter-same p q [] f = refl
filter-same p q (x ∷ xs) f = ap (λ (r : Bool × List ℕ). cond r.0 (x ∷ r.1) r.1) (λ i. (f x (inl refl) i, filter-same p q xs (λ y here. f y (inr here)) i))

-- indices that are in each set that is enough, and are enough, are those that are needed
pub all-noted : (g : Graph) (host : ℕ) → IsPiped g host → (has : List ℕ) → ((p : ℕ → Bool) → IsEnough g host p → AllByRecursion (λ i. p i ≡ true) has) → IsEnough g host (is_among has) → filter (is_among has) (pipe_indices g) ≡ need_in g host
all-noted g host piped has each enough = filter-same (is_among has) (is_needed g host) (pipe_indices g) (λ i there.
    let here : is_among (pipe_indices g) i ≡ true = in-among (pipe_indices g) i there in
    let told : is_among (need_in g host) i ≡ is_needed g host i = is_among-filter (is_needed g host) (pipe_indices g) i ∙ ap (λ (b : Bool). is_needed g host i && b) here ∙ and-true (is_needed g host i) in
    let one = need-least g host piped i in
    same-bools (is_among has i) (is_needed g host i)
    (λ is. sym told ∙ one.1 (λ p so. in-all (λ k. p k ≡ true) has i (each p so) (among-in has i is)))
    (λ is. one.0 (told ∙ is) (is_among has) enough))
  where
    and-true : (b : Bool) → (b && true) ≡ b
    and-true true = refl
    and-true false = refl
