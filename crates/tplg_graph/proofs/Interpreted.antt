-- What holds of each widget holds of the interpreted ones.
use Rattle.std.proofs.Common.{◌≡◌, refl, ap, ◌∙◌, ℕ, suc, ◌<◌, List, [], ◌∷◌, length, filter, Bool, true, false, cond, ◌&&◌, ◌||◌, Option, Some, None, arith}
use Rattle.std.specs.Option.{option_map_or}
use Rattle.std.specs.List.{list_all}
use Rattle.std.proofs.lemmas.Bool.{false≢true, and_from, and_parts}
use Rattle.tplg_widgets.specs.declared.entry.Entry.{Entry}
use Rattle.tplg_widgets.specs.Entries.{is_interpreted, interpreted}
use Rattle.tplg_rules.specs.RuleTable.{at}

holds-all : {X : Type 0} (xs : List X) (f : X → Bool) → ((k : ℕ) → k < length xs → at xs k f ≡ true) → list_all f xs ≡ true
holds-all [] f all = refl
holds-all (x ∷ xs) f all = and_from _ _ (all 0 (omega arith)) (holds-all xs f (λ k h. all (suc k) (omega arith)))

pub all-filter : {X : Type 0} (xs : List X) (f p : X → Bool) → list_all f xs ≡ true → list_all f (filter p xs) ≡ true
all-filter [] f p all = refl
all-filter {X} (x ∷ xs) f p all = by_test (p x) (and_parts (f x) (list_all f xs) all).0 (all-filter xs f p (and_parts (f x) (list_all f xs) all).1)
  where
    by_test : (b : Bool) → f x ≡ true → list_all f (filter p xs) ≡ true → list_all f (cond b (x ∷ filter p xs) (filter p xs)) ≡ true
    by_test true h rest = and_from _ _ h rest
    by_test false h rest = rest

-- a test of each widget holds of the interpreted ones
pub of-interpreted : (es ps : List Entry) (f : Entry → Bool) → ps ≡ interpreted es → ((k : ℕ) → k < length es → at es k f ≡ true) → list_all f ps ≡ true
of-interpreted es ps f same all = ap (list_all f) same ∙ all-filter es f is_interpreted (holds-all es f all)

pub weaker : {X : Type 0} (o : Option X) (f g : X → Bool) → ((x : X) → f x ≡ true → g x ≡ true) → option_map_or f o true ≡ true → option_map_or g o true ≡ true
weaker None f g less h = refl
weaker (Some x) f g less h = less x h

pub or-front : (a b c : Bool) → (a || (b && c)) ≡ true → (a || b) ≡ true
or-front true b c h = refl
or-front false true c h = refl
or-front false false c h = absurd (false≢true h)

-- each of them is interpreted
all-kept : {X : Type 0} (p : X → Bool) (xs : List X) → list_all p (filter p xs) ≡ true
all-kept p [] = refl
all-kept {X} p (x ∷ xs) = by_test (p x) refl (all-kept p xs)
  where
    by_test : (b : Bool) → p x ≡ b → list_all p (filter p xs) ≡ true → list_all p (cond b (x ∷ filter p xs) (filter p xs)) ≡ true
    by_test true h rest = and_from _ _ h rest
    by_test false h rest = rest

pub all-interpreted : (es : List Entry) → list_all is_interpreted (interpreted es) ≡ true
all-interpreted es = all-kept is_interpreted es
