-- The eight masks of a demux: none is more than 255 where no value is.
use Rattle.std.proofs.Common.{◌≡◌, refl, ℕ, zero, suc, List, [], ◌∷◌, length, map, replicate, Bool, true, ◌≤◌, arith}
use Rattle.std.specs.Prelude.{nat_le, ◌&&◌}
use Rattle.std.specs.List.{list_all, range_with_len, AllByRecursion}
use Rattle.std.proofs.lemmas.Bool.{and_parts, and_from, leb-true, le-leb}
use Rattle.host_widgets.specs.Controls.{mask_at, eight_masks}

pub eight : (values : List ℕ) → length (eight_masks values) ≡ 8
eight values = refl

-- a mask
abbrev pub is_mask : ℕ → Bool
is_mask v = nat_le v 255

at-most : (values : List ℕ) (k : ℕ) → list_all is_mask values ≡ true → is_mask (mask_at values k) ≡ true
at-most [] k all = refl
at-most (v ∷ vs) zero all = (and_parts (is_mask v) (list_all is_mask vs) all).0
at-most (v ∷ vs) (suc k) all = at-most vs k (and_parts (is_mask v) (list_all is_mask vs) all).1

all-of : (values ks : List ℕ) → list_all is_mask values ≡ true → list_all is_mask (map (mask_at values) ks) ≡ true
all-of values [] all = refl
all-of values (k ∷ ks) all = and_from (is_mask (mask_at values k)) (list_all is_mask (map (mask_at values) ks)) (at-most values k all) (all-of values ks all)

pub few-masks : (values : List ℕ) → list_all is_mask values ≡ true → list_all is_mask (eight_masks values) ≡ true
few-masks values all = all-of values (range_with_len 0 8) all

-- those are few enough for a message
pub masks-few : (values : List ℕ) → list_all is_mask values ≡ true → AllByRecursion (λ v. v ≤ 16777216) values
masks-few [] all = tt
masks-few (v ∷ vs) all = let both = and_parts (is_mask v) (list_all is_mask vs) all in (omega (arith, leb-true v 255 both.0), masks-few vs both.1)

-- values of a range are masks, where its greatest is
pub ranged-masks : (min max : ℕ) → max ≤ 255 → (values : List ℕ) → list_all (λ v. nat_le min v && nat_le v max) values ≡ true → list_all is_mask values ≡ true
ranged-masks min max few [] all = refl
ranged-masks min max few (v ∷ vs) all =
    let both = and_parts (nat_le min v && nat_le v max) (list_all (λ v. nat_le min v && nat_le v max) vs) all in
    let high = (and_parts (nat_le min v) (nat_le v max) both.0).1 in
    and_from (is_mask v) (list_all is_mask vs) (le-leb v 255 (omega (arith, few, leb-true v max high))) (ranged-masks min max few vs both.1)

pub same-masks : (n max : ℕ) → max ≤ 255 → list_all is_mask (replicate n max) ≡ true
same-masks zero max few = refl
same-masks (suc n) max few = and_from (is_mask max) (list_all is_mask (replicate n max)) (le-leb max 255 few) (same-masks n max few)
