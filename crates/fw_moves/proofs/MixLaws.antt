-- Sums over parts of buffers, and over one more.
use Rattle.std.proofs.Common.{◌≡◌, sym, ap, ◌∙◌, ℕ, ◌+◌, ◌-◌, ◌<◌, ◌≤◌, List, [], ◌∷◌, ◌++◌, map, take, drop, length, get_or, arith, ℤ, pos, ◌+ℤ◌, length-take}
use Rattle.std.specs.List.{AllByRecursion}
use borrow.Rule.Slice.PartMut.{put_mid}
use Rattle.std.proofs.lemmas.List.{map-append, get_or-take, get_or-drop, get_or_append_left, get_or-append-add, get_or-append_right}
use Rattle.sof_base.specs.Equations.{exact_sum}
use Rattle.fw_mixer.proofs.SumLaws.{exact_sum-more, part-more}

-- what is so of each is so with one more
pub all-last : {X : Type 0} (P : X → Type 0) (xs : List X) (x : X) → AllByRecursion P xs → P x → AllByRecursion P (xs ++ x ∷ [])
all-last P [] x all here = (here, tt)
all-last P (y ∷ xs) x all here = (all.0, all-last P xs x all.1 here)

-- one more part of one more buffer
pub sums-more : {X : Type 0} (now : X → List ℤ) (parts : List X) (part : X) (of : ℕ → List ℤ) (looked : List ℕ) (p done k : ℕ) → p < length looked
    → exact_sum k (map now parts) ≡ exact_sum (done + k) (map of (take p looked)) → get_or (now part) k (pos 0) ≡ get_or (of (get_or looked p 0)) (done + k) (pos 0)
    → exact_sum k (map now (parts ++ part ∷ [])) ≡ exact_sum (done + k) (map of (take (p + 1) looked))
sums-more now parts part of looked p done k low so_far is =
    ap (exact_sum k) (map-append now parts (part ∷ []))
    ∙ exact_sum-more k (map now parts) (now part)
    ∙ (λ i. so_far i +ℤ is i)
    ∙ sym (part-more of looked p 0 (done + k) low)

-- samples of two parts, from a place in the first, and from one in the second
pub front-at : (front back all : List ℤ) (done k : ℕ) → front ++ back ≡ all → done + k < length front → get_or (drop done front) k (pos 0) ≡ get_or all (done + k) (pos 0)
front-at front back all done k is low =
    get_or-drop done front k (pos 0)
    ∙ sym (get_or_append_left front back (pos 0) (done + k) low)
    ∙ ap (λ (l : List ℤ). get_or l (done + k) (pos 0)) is

pub back-at : (front back all : List ℤ) (done k : ℕ) → front ++ back ≡ all → length front ≤ done → get_or (drop (done - length front) back) k (pos 0) ≡ get_or all (done + k) (pos 0)
back-at front back all done k is past =
    get_or-drop (done - length front) back k (pos 0)
    ∙ sym (get_or-append-add front back (done - length front + k) (pos 0))
    ∙ (λ i. get_or (is i) ((let e : length front + (done - length front + k) ≡ done + k = omega (arith, past) in e) i) (pos 0))

-- ---- samples that are written from a place on

pub put-before : (a n k : ℕ) (xs ys : List ℤ) → a ≤ length xs → k < a → get_or (put_mid a n xs ys) k (pos 0) ≡ get_or xs k (pos 0)
put-before a n k xs ys fits low =
    get_or_append_left (take a xs) _ (pos 0) k (omega (arith, length-take a xs)) ∙ get_or-take a xs k (pos 0) low

pub put-within : (a n k : ℕ) (xs ys : List ℤ) → a ≤ length xs → a ≤ k → k < a + length ys → get_or (put_mid a n xs ys) k (pos 0) ≡ get_or ys (k - a) (pos 0)
put-within a n k xs ys fits least low =
    get_or-append_right (take a xs) _ a k (pos 0) (omega (arith, length-take a xs)) least ∙ get_or_append_left ys _ (pos 0) (k - a) (omega (arith, least, low))
