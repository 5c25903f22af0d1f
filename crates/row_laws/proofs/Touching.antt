-- When the streams of two hosts touch.
use Rattle.std.proofs.Common.{◌≡◌, refl, sym, ap, ◌∙◌, ℕ, List, [], ◌∷◌, ◌++◌, map, Option, Some, None, Bool, true, false, cond, not, inl, inr, ◌⊎◌, ◌==◌, ◌&&◌, ◌||◌}
use Rattle.std.proofs.lemmas.Bool.{false≢true, or_left, or_right, or_cases, and_parts, and_from, eqb-true, eq-eqb}
use Rattle.std.specs.Prelude.{find, option_and_then}
use Rattle.std.specs.Option.{option_map_or}
use Rattle.std.specs.List.{list_any}
use Rattle.stream_law.specs.declared.graph.Edge.{Edge}
use Rattle.stream_law.specs.declared.graph.Graph.{Graph}
use Rattle.stream_law.specs.Ways.{components, buffers, source_of, sink_of, is_echo, leaves_split, enters_capture, on_way, is_end_on_way, share, echoes, touch}
use Rattle.stream_law.specs.Order.{is_among}
use Rattle.stream_law.proofs.Members.{IsIn, any-in, in-any}

-- ---- ids that pass a test

pub list_any-at : (p : ℕ → Bool) (ids : List ℕ) (x : ℕ) → is_among ids x ≡ true → p x ≡ true → list_any p ids ≡ true
list_any-at p [] x there h = absurd (false≢true there)
list_any-at p (i ∷ ids) x there h = by_place (or_cases (i == x) (is_among ids x) there) (list_any-at p ids x)
  where
    by_place : ((i == x) ≡ true) ⊎ (is_among ids x ≡ true) → (is_among ids x ≡ true → p x ≡ true → list_any p ids ≡ true) → (p i || list_any p ids) ≡ true
    by_place (inl e) rest = or_left (p i) (list_any p ids) (ap p (eqb-true i x e) ∙ h)
    by_place (inr e) rest = or_right (p i) (list_any p ids) (rest e h)

pub some-among : (p : ℕ → Bool) (ids : List ℕ) → list_any p ids ≡ true → (x : ℕ) × (is_among ids x ≡ true) × (p x ≡ true)
some-among p [] e = absurd (false≢true e)
some-among p (i ∷ ids) e = by (or_cases (p i) (list_any p ids) e) (some-among p ids)
  where
    by : (p i ≡ true) ⊎ (list_any p ids ≡ true) → (list_any p ids ≡ true → (x : ℕ) × (is_among ids x ≡ true) × (p x ≡ true)) → (x : ℕ) × (is_among (i ∷ ids) x ≡ true) × (p x ≡ true)
    by (inl here) rest = (i, or_left (i == i) _ (eq-eqb i i refl), here)
    by (inr more) rest = let r = rest more in (r.0, or_right (i == r.0) _ r.1, r.2)

-- ---- echo edges

-- an echo edge has its two sides
pub echo-sides : (g : Graph) (b : ℕ) → is_echo g b ≡ true → (option_map_or (leaves_split g) (source_of g b) false ≡ true) × (option_map_or (enters_capture g) (sink_of g b) false ≡ true)
unfolding is_echo
echo-sides g b is = and_parts (option_map_or (leaves_split g) (source_of g b) false) (option_map_or (enters_capture g) (sink_of g b) false) is

-- and is a buffer
pub echo-in : (g : Graph) (b : ℕ) → is_echo g b ≡ true → IsIn b (buffers g)
echo-in g b is = at g.edges (echo-sides g b is).0
  where
    at : (es : List Edge) → option_map_or (leaves_split g) (option_and_then (λ e. e.source) (find (λ e. e.buffer == b) es)) false ≡ true → IsIn b (map (λ (e : Edge). e.buffer) es)
    at [] is = absurd (false≢true is)
    at (e ∷ es) is = by (e.buffer == b) refl is (at es)
      where
        by : (h : Bool) → (e.buffer == b) ≡ h → option_map_or (leaves_split g) (option_and_then (λ e. e.source) (cond h (Some e) (find (λ e. e.buffer == b) es))) false ≡ true → (option_map_or (leaves_split g) (option_and_then (λ e. e.source) (find (λ e. e.buffer == b) es)) false ≡ true → IsIn b (map (λ (e : Edge). e.buffer) es)) → IsIn b (e.buffer ∷ map (λ (e : Edge). e.buffer) es)
        by true same is rest = inl (sym (eqb-true e.buffer b same))
        by false same is rest = inr (rest is)

-- ---- streams that touch

-- those on whose ways an id is
pub touch-at : (g : Graph) (a b x : ℕ) → is_among (components g ++ buffers g) x ≡ true → on_way g a x ≡ true → on_way g b x ≡ true → touch g a b ≡ true
touch-at g a b x there on_a on_b =
    or_left (share g a b || echoes g a b) (echoes g b a) (or_left (share g a b) (echoes g a b) (list_any-at (λ y. on_way g a y && on_way g b y) (components g ++ buffers g) x there (and_from (on_way g a x) (on_way g b x) on_a on_b)))

-- those of which one has the source of an echo edge and the other its sink
pub touch-echo : (g : Graph) (a b x : ℕ) → is_echo g x ≡ true → is_end_on_way g a (source_of g x) ≡ true → is_end_on_way g b (sink_of g x) ≡ true → touch g a b ≡ true
touch-echo g a b x is from to =
    or_left (share g a b || echoes g a b) (echoes g b a) (or_right (share g a b) (echoes g a b) (in-any (λ y. is_echo g y && is_end_on_way g a (source_of g y) && is_end_on_way g b (sink_of g y)) (buffers g) x (echo-in g x is) (and_from _ _ (and_from _ _ is from) to)))

-- Where all that is on two ways, and all echo edges with their sides, were so in another graph, what touches touched there.
module _ (g h : Graph) (same : (x : ℕ) → is_echo h x ≡ true → (is_echo g x ≡ true) × (source_of h x ≡ source_of g x) × (sink_of h x ≡ sink_of g x)) (a b : ℕ) (nodes : (x : ℕ) → is_among (components h ++ buffers h) x ≡ true → on_way g a x ≡ true → is_among (components g ++ buffers g) x ≡ true) (way_a : (x : ℕ) → on_way h a x ≡ on_way g a x) (way_b : (x : ℕ) → on_way h b x ≡ on_way g b x) where
  end-by : (c : ℕ) → ((x : ℕ) → on_way h c x ≡ on_way g c x) → (o : Option ℕ) → is_end_on_way h c o ≡ is_end_on_way g c o
  end-by c way None = refl
  end-by c way (Some x) = way x

  share-by : share h a b ≡ true → share g a b ≡ true
  share-by e =
      let r = some-among (λ x. on_way h a x && on_way h b x) (components h ++ buffers h) e in
      let both = and_parts (on_way h a r.0) (on_way h b r.0) r.2 in
      let on_a : on_way g a r.0 ≡ true = sym (way_a r.0) ∙ both.0 in
      list_any-at (λ x. on_way g a x && on_way g b x) (components g ++ buffers g) r.0 (nodes r.0 r.1 on_a) (and_from (on_way g a r.0) (on_way g b r.0) on_a (sym (way_b r.0) ∙ both.1))

  echoes-by : (c d : ℕ) → ((x : ℕ) → on_way h c x ≡ on_way g c x) → ((x : ℕ) → on_way h d x ≡ on_way g d x) → echoes h c d ≡ true → echoes g c d ≡ true
  echoes-by c d way_c way_d e =
      let r = any-in (λ x. is_echo h x && is_end_on_way h c (source_of h x) && is_end_on_way h d (sink_of h x)) (buffers h) e in
      let x : ℕ = r.0 in
      let last = and_parts (is_echo h x && is_end_on_way h c (source_of h x)) (is_end_on_way h d (sink_of h x)) r.2 in
      let first = and_parts (is_echo h x) (is_end_on_way h c (source_of h x)) last.0 in
      let was = same x first.0 in
      in-any (λ x. is_echo g x && is_end_on_way g c (source_of g x) && is_end_on_way g d (sink_of g x)) (buffers g) x (echo-in g x was.0)
      (and_from _ _ (and_from _ _ was.0 (ap (is_end_on_way g c) (sym was.1) ∙ sym (end-by c way_c (source_of h x)) ∙ first.1)) (ap (is_end_on_way g d) (sym was.2) ∙ sym (end-by d way_d (sink_of h x)) ∙ last.1))

  pub touch-by : touch h a b ≡ true → touch g a b ≡ true
  touch-by e = by (or_cases (share h a b || echoes h a b) (echoes h b a) e)
    where
      first : (share h a b ≡ true) ⊎ (echoes h a b ≡ true) → (share g a b || echoes g a b) ≡ true
      first (inl e) = or_left (share g a b) (echoes g a b) (share-by e)
      first (inr e) = or_right (share g a b) (echoes g a b) (echoes-by a b way_a way_b e)

      by : ((share h a b || echoes h a b) ≡ true) ⊎ (echoes h b a ≡ true) → touch g a b ≡ true
      by (inl e) = or_left (share g a b || echoes g a b) (echoes g b a) (first (or_cases (share h a b) (echoes h a b) e))
      by (inr e) = or_right (share g a b || echoes g a b) (echoes g b a) (echoes-by b a way_b way_a e)

-- what is asked only of streams that touch
pub test-kept : (a b c : Bool) → (a ≡ true → b ≡ true) → (not b || c) ≡ true → (not a || c) ≡ true
test-kept true b c f e = sym (ap (λ h. not h || c) (f refl)) ∙ e
test-kept false b c f e = refl
