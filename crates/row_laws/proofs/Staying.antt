-- What ways hold that stay.
use Rattle.std.proofs.Common.{◌≡◌, refl, sym, ap, ◌∙◌, ℕ, List, [], ◌∷◌, ◌++◌, Bool, true, false, inl, inr, ◌⊎◌, ◌==◌}
use Rattle.std.proofs.lemmas.Bool.{true≢false, false≢true, false_from_ne_true, or_parts, or_cases, and_parts, eqb-true}
use Rattle.std.specs.List.{list_all}
use Rattle.stream_law.specs.declared.graph.Graph.{Graph}
use Rattle.stream_law.specs.Ways.{components, buffers, on_way}
use Rattle.stream_law.specs.Joins.{same_test, has_stayed}
use Rattle.stream_law.specs.Order.{is_among}
use Rattle.mbox_link.specs.Step.{has_comp, has_edge}
use Rattle.row_laws.specs.Wired.{IsWired, is_node}
use Rattle.row_laws.proofs.Ids.{any-ids}
use Rattle.row_laws.proofs.Joined.{among-left, among-right}
use Rattle.row_laws.proofs.Unreached.{apart, off-way}

both-hold : (a b : Bool) → same_test a b ≡ true → b ≡ a
both-hold true b e = e
both-hold false true e = absurd (false≢true e)
both-hold false false e = refl

all-ids : (p : ℕ → Bool) (ids : List ℕ) (x : ℕ) → list_all p ids ≡ true → is_among ids x ≡ true → p x ≡ true
all-ids p [] x all there = absurd (false≢true there)
all-ids p (i ∷ ids) x all there = by (or_cases (i == x) (is_among ids x) there) (all-ids p ids x)
  where
    parts : (p i ≡ true) × (list_all p ids ≡ true)
    parts = and_parts (p i) (list_all p ids) all

    by : ((i == x) ≡ true) ⊎ (is_among ids x ≡ true) → (list_all p ids ≡ true → is_among ids x ≡ true → p x ≡ true) → p x ≡ true
    by (inl same) rest = ap p (sym (eqb-true i x same)) ∙ parts.0
    by (inr more) rest = rest parts.1 more

-- at what either graph has
pub stayed-at : (g h : Graph) (host : ℕ) → has_stayed g h host ≡ true → (x : ℕ) → is_among ((components g ++ buffers g) ++ (components h ++ buffers h)) x ≡ true → on_way h host x ≡ on_way g host x
stayed-at g h host stayed x there = both-hold (on_way g host x) (on_way h host x) (all-ids (λ x. same_test (on_way g host x) (on_way h host x)) ((components g ++ buffers g) ++ (components h ++ buffers h)) x stayed there)

-- what a graph has, by its ids
pub among-node : (g : Graph) (x : ℕ) → is_among (components g ++ buffers g) x ≡ is_node g x
among-node g x = any-ids (λ n. n == x) g.comps g.edges

-- what it has not is on the way of no component
off-node : (g : Graph) (host x : ℕ) → IsWired g → has_comp g host ≡ true → is_node g x ≡ false → on_way g host x ≡ false
off-node g host x wired there gone =
    let parts = or_parts (has_comp g x) (has_edge g x) gone in
    off-way g host x (false_from_ne_true (host == x) (λ e. true≢false (sym there ∙ ap (has_comp g) (eqb-true host x e) ∙ parts.0))) parts.1 (apart g x gone g.joins wired.ends)

-- so ways stay everywhere
pub way-stayed : (g h : Graph) (host : ℕ) → IsWired g → IsWired h → has_comp g host ≡ true → has_comp h host ≡ true → has_stayed g h host ≡ true → (x : ℕ) → on_way h host x ≡ on_way g host x
way-stayed g h host wired_g wired_h in_g in_h stayed x = by (is_node g x) refl (is_node h x) refl
  where
    by : (a : Bool) → is_node g x ≡ a → (b : Bool) → is_node h x ≡ b → on_way h host x ≡ on_way g host x
    by true here b there = stayed-at g h host stayed x (among-left (components g ++ buffers g) (components h ++ buffers h) x (among-node g x ∙ here))
    by false gone true there = stayed-at g h host stayed x (among-right (components g ++ buffers g) (components h ++ buffers h) x (among-node h x ∙ there))
    by false gone false lost = off-node h host x wired_h in_h lost ∙ sym (off-node g host x wired_g in_g gone)
