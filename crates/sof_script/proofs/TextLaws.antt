-- Words of values, one after the other.
use Rattle.std.proofs.Common.{◌≡◌, ℕ, ◌+◌, ◌<◌, List, [], ◌∷◌, ◌++◌, length, take, get_or, codes, decimal, refl, sym, ap, ◌∙◌, append_assoc, append-nil}
use Rattle.std.proofs.lemmas.List.{take_more}
use Rattle.sof_script.specs.Text.{values_words}

words-append : (xs ys : List ℕ) → values_words (xs ++ ys) ≡ values_words xs ++ values_words ys
words-append [] ys = refl
words-append (x ∷ xs) ys =
    ap (λ (l : List ℕ). (codes " " ++ decimal x) ++ l) (words-append xs ys) ∙ sym (append_assoc (codes " " ++ decimal x) (values_words xs) (values_words ys))

pub values_more : (values : List ℕ) (i : ℕ) (front : List ℕ) → i < length values → ((front ++ values_words (take i values)) ++ codes " ") ++ decimal (get_or values i 0) ≡ front ++ values_words (take (i + 1) values)
values_more values i front more =
    let value = get_or values i 0 in
    let one : values_words (value ∷ []) ≡ codes " " ++ decimal value = append-nil (codes " " ++ decimal value) in
    append_assoc (front ++ values_words (take i values)) (codes " ") (decimal value)
    ∙ append_assoc front (values_words (take i values)) (codes " " ++ decimal value)
    ∙ ap (λ (l : List ℕ). front ++ l) (ap (λ (l : List ℕ). values_words (take i values) ++ l) (sym one) ∙ sym (words-append (take i values) (value ∷ [])) ∙ ap values_words (sym (take_more values i 0 more)))
