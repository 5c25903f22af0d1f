-- Values as they are viewed, from a place on.
use Rattle.std.proofs.Common.{◌≡◌, ℕ, ◌+◌, ◌<◌, ◌≤◌, List, [], ◌∷◌, length, get_or, drop, refl, ap, arith}
use Rattle.std.specs.Borrow.{Bor}
use Rattle.std.proofs.lemmas.List.{drop_more, drop_all}
use Rattle.toml.specs.View.{view, items_view}
use Rattle.toml.specs.declared.value.Value.{Value}
use Rattle.tplg_compile.specs.declared.keys.TokenKey.{TokenKey}
use Rattle.tplg_compile.specs.ValueForm.{item_list}
use Rattle.tplg_compile.specs.ProgramValues.{viewed, slice_texts}
use Rattle.tplg_compile.specs.ProgramValues.{keyed_by}

pub list_of-items : (vs : List Value) → item_list (items_view vs) ≡ viewed vs
list_of-items [] = refl
list_of-items (v ∷ vs) = ap (λ ds. view v ∷ ds) (list_of-items vs)

pub seen-count : (vs : List Value) → length (viewed vs) ≡ length vs
seen-count [] = refl
seen-count (v ∷ vs) = omega (arith, seen-count vs)

pub seen-drop : (vs : List Value) (i : ℕ) (d : Value) → i < length vs → viewed (drop i vs) ≡ view (get_or vs i d) ∷ viewed (drop (i + 1) vs)
seen-drop vs i d h = ap viewed (drop_more vs i d h)

pub seen-past : (vs : List Value) (i : ℕ) → length vs ≤ i → viewed (drop i vs) ≡ []
seen-past vs i h = ap viewed (drop_all i vs h)

pub told-drop : (ks : List TokenKey) (i : ℕ) (d : TokenKey) → i < length ks → keyed_by (drop i ks) ≡ ((get_or ks i d).key.now, (get_or ks i d).token) ∷ keyed_by (drop (i + 1) ks)
told-drop ks i d h = ap keyed_by (drop_more ks i d h)

pub told-past : (ks : List TokenKey) (i : ℕ) → length ks ≤ i → keyed_by (drop i ks) ≡ []
told-past ks i h = ap keyed_by (drop_all i ks h)

pub texts-drop : (ks : List (Bor (List ℕ))) (i : ℕ) (d : Bor (List ℕ)) → i < length ks → slice_texts (drop i ks) ≡ (get_or ks i d).now ∷ slice_texts (drop (i + 1) ks)
texts-drop ks i d h = ap slice_texts (drop_more ks i d h)

pub texts-past : (ks : List (Bor (List ℕ))) (i : ℕ) → length ks ≤ i → slice_texts (drop i ks) ≡ []
texts-past ks i h = ap slice_texts (drop_all i ks h)

-- what a slice of keys shows past its end
abbrev pub no_key : TokenKey
no_key = record { key = record { ref_ptr = (0, 0); now = [] }; token = 0 }
