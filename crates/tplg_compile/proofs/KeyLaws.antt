-- Keys among keys.
use Rattle.std.proofs.Common.{◌≡◌, ℕ, Bool, true, false, ◌||◌, List, [], ◌∷◌, ◌++◌, refl, ap, ◌∙◌, sym}
use Rattle.std.specs.Str.{bytes_eq}
use Rattle.tplg_compile.specs.ValueForm.{is_one_of}

or_assoc : (a b c : Bool) → ((a || b) || c) ≡ (a || (b || c))
or_assoc true b c = refl
or_assoc false b c = refl

pub is_among-append : (key : List ℕ) (ks ls : List (List ℕ)) → is_one_of key (ks ++ ls) ≡ (is_one_of key ks || is_one_of key ls)
is_among-append key [] ls = refl
is_among-append key (k ∷ ks) ls = ap (λ b. bytes_eq key k || b) (is_among-append key ks ls) ∙ sym (or_assoc (bytes_eq key k) (is_one_of key ks) (is_one_of key ls))
