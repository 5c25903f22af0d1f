-- What a name names, by the id that is looked up.
use Rattle.std.proofs.Common.{◌≡◌, sym, ap, ◌∙◌, ℕ, ◌≤◌, List, [], ◌∷◌, length, filter, position, slice_get, Bool, true, false, cond, suc, Some, is_some, arith}
use Rattle.std.specs.Option.{option_map_or}
use Rattle.tplg_widgets.specs.EntryValue.{EntryValue}
use Rattle.tplg_widgets.specs.declared.route_end.End.TheVariants.{Other, Missing}
use Rattle.tplg_widgets.specs.Entries.{interpreted, is_interpreted}
use Rattle.tplg_widgets.specs.Names.{has_name}
use Rattle.tplg_widgets.specs.Ends.{end_at, end_named}

pub end-found : (es ps : List EntryValue) (name : List ℕ) (id : ℕ) (e : EntryValue) → ps ≡ interpreted es → position (has_name name) ps ≡ Some id → slice_get ps id ≡ Some e → end_at e id ≡ end_named es name
end-found es ps name id e same found there =
    let place : position (has_name name) (interpreted es) ≡ Some id = ap (position (has_name name)) (sym same) ∙ found in
    let here : slice_get (interpreted es) id ≡ Some e = ap (λ xs. slice_get xs id) (sym same) ∙ there in
    sym (ap (λ o. option_map_or (λ i. option_map_or (λ x. end_at x i) (slice_get (interpreted es) i) Other) o (cond (is_some (position (has_name name) es)) Other Missing)) place ∙ ap (λ o. option_map_or (λ x. end_at x id) o Other) here)

length-filter : {X : Type 0} (p : X → Bool) (xs : List X) → length (filter p xs) ≤ length xs
length-filter p [] = omega arith
length-filter {X} p (x ∷ xs) = by_test (p x) (length-filter p xs)
  where
    by_test : (b : Bool) → length (filter p xs) ≤ length xs → length (cond b (x ∷ filter p xs) (filter p xs)) ≤ suc (length xs)
    by_test true low = omega (arith, low)
    by_test false low = omega (arith, low)

pub length-interpreted : (es : List EntryValue) → length (interpreted es) ≤ length es
length-interpreted es = length-filter is_interpreted es
