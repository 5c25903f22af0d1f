-- Keeping the first eleven tokens.
use Rattle.std.proofs.Common.{◌≡◌, ◌⊎◌, inl, inr, ℕ, zero, suc, ◌+◌, ◌<◌, ◌≤◌, List, [], ◌∷◌, ◌++◌, length, take, Option, Some, None, slice_set, refl, sym, ap, ◌∙◌, arith, append_assoc, append-nil}
use Rattle.std.proofs.lemmas.List.{take_all, take_more_set, length-append, length-take}
use Rattle.std.specs.Borrow.{Bor}
use Rattle.sof_script.specs.Splitting.{tokens_from, tokens_of}
use Rattle.sof_script.specs.TokenStarts.{texts, StartsToken, first_token}

texts-append : (xs ys : List (Bor (List ℕ))) → texts (xs ++ ys) ≡ texts xs ++ texts ys
texts-append [] ys = refl
texts-append (x ∷ xs) ys = ap (λ (r : List (List ℕ)). x.now ∷ r) (texts-append xs ys)

length-texts : (xs : List (Bor (List ℕ))) → length (texts xs) ≡ length xs
length-texts [] = refl
length-texts (x ∷ xs) = ap suc (length-texts xs)

pub kept_one : (found : List (Bor (List ℕ))) (n : ℕ) (r : Bor (List ℕ)) → n < 11 → length found ≡ 11 → texts (take (n + 1) (slice_set found n r)) ≡ take 11 (texts (take n found) ++ r.now ∷ [])
kept_one found n r more eleven =
    let whole = texts (take n found) ++ r.now ∷ [] in
    let short : length whole ≤ 11 = omega (arith, length-append (texts (take n found)) (r.now ∷ []), length-texts (take n found), length-take n found) in
    ap texts (take_more_set found n r (omega arith)) ∙ texts-append (take n found) (r ∷ []) ∙ sym (take_all 11 whole short)

take_again : (n : ℕ) (xs ys : List (List ℕ)) → take n (take n xs ++ ys) ≡ take n (xs ++ ys)
take_again zero xs ys = refl
take_again (suc n) [] ys = refl
take_again (suc n) (x ∷ xs) ys = ap (λ (r : List (List ℕ)). x ∷ r) (take_again n xs ys)

-- tokens before others
abbrev pub many : List (List ℕ) → Option (List (List ℕ)) → Option (List (List ℕ))
many told None = None
many told (Some tokens) = Some (told ++ tokens)

many_one : (told : List (List ℕ)) (token : List ℕ) (tokens : Option (List (List ℕ))) → many told (first_token token tokens) ≡ many (told ++ token ∷ []) tokens
many_one told token None = refl
many_one told token (Some tokens) = ap (λ (r : List (List ℕ)). Some r) (sym (append_assoc told (token ∷ []) tokens))

many_none : (tokens : Option (List (List ℕ))) → tokens ≡ many [] tokens
many_none None = refl
many_none (Some tokens) = refl

-- tokens that were given, and what is left of a line
pub record Collected (line rest : List ℕ) (kept : List (List ℕ)) : Type 0 where
  pub told : List (List ℕ)
  pub whole : tokens_of line ≡ many told (tokens_of rest)
  pub first : kept ≡ take 11 told
  pub starts : (rest ≡ []) ⊎ StartsToken rest

pub Collected-none : (line rest : List ℕ) → tokens_of rest ≡ tokens_of line → (rest ≡ []) ⊎ StartsToken rest → Collected line rest []
Collected-none line rest same starts = record { told = []; whole = sym same ∙ many_none (tokens_of rest); first = refl; starts = starts }

pub Collected-more : (line rest behind next token : List ℕ) (kept : List (List ℕ)) → Collected line rest kept → tokens_of rest ≡ first_token token (tokens_of behind) → tokens_of next ≡ tokens_of behind → (next ≡ []) ⊎ StartsToken next → Collected line next (take 11 (kept ++ token ∷ []))
Collected-more line rest behind next token kept c found same starts = record {
  told = c.told ++ token ∷ [];
  whole = c.whole ∙ ap (many c.told) found ∙ many_one c.told token (tokens_of behind) ∙ ap (many (c.told ++ token ∷ [])) (sym same);
  first = ap (λ (k : List (List ℕ)). take 11 (k ++ token ∷ [])) c.first ∙ take_again 11 c.told (token ∷ []);
  starts = starts;
}

pub Collected-broken : (line rest : List ℕ) (kept : List (List ℕ)) → Collected line rest kept → tokens_of rest ≡ None → tokens_of line ≡ None
Collected-broken line rest kept c broken = c.whole ∙ ap (many c.told) broken

pub Collected-all : (line rest : List ℕ) (kept : List (List ℕ)) → Collected line rest kept → length rest ≡ 0 → (all : List (List ℕ)) × (tokens_of line ≡ Some all) × (kept ≡ take 11 all)
unfolding tokens_from
Collected-all line [] kept c none = (c.told, c.whole ∙ ap (λ (r : List (List ℕ)). Some r) (append-nil c.told), c.first)
Collected-all line (b ∷ rest) kept c none = absurd (omega (arith, none))

pub starts_more : (rest : List ℕ) → (rest ≡ []) ⊎ StartsToken rest → 0 < length rest → StartsToken rest
starts_more rest (inl none) some = absurd (let unlike : length rest ≡ 0 = ap length none in omega (arith, unlike, some))
starts_more rest (inr is) some = is
