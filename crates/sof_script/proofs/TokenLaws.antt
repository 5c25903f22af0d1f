-- Finding the end of a token, byte by byte.
use Rattle.std.proofs.Common.{◌≡◌, ◌≢◌, ◌⊎◌, inl, inr, ℕ, ◌+◌, ◌<◌, ◌≤◌, Bool, true, false, cond, nat_eq, List, [], ◌∷◌, ◌++◌, length, take, drop, get_or, Option, Some, None, MatchOption, refl, sym, ap, ◌∙◌, arith, append-nil}
use Rattle.std.proofs.lemmas.List.{take_more, drop_more, drop_all}
use Rattle.std.proofs.lemmas.Grind.{common_steps}
use Rattle.std.specs.Borrow.{Bor}
use Rattle.sof_script.specs.Splitting.{is_blank, tokens_from, tokens_of, byte_kind, Kind, Blank, Quote, Other, TokenPlace, Inside, Quoted, Behind}
use Rattle.sof_script.specs.TokenStarts.{StartsToken, IsBare, first_token, onto_token}

-- bytes in front of the first of tokens
abbrev pub onto : List ℕ → Option (List (List ℕ)) → Option (List (List ℕ))
onto [] tokens = tokens
onto (b ∷ front) tokens = onto_token b (onto front tokens)

onto-more : (front : List ℕ) (b : ℕ) (tokens : Option (List (List ℕ))) → onto (front ++ b ∷ []) tokens ≡ onto front (onto_token b tokens)
onto-more [] b tokens = refl
onto-more (a ∷ front) b tokens = ap (onto_token a) (onto-more front b tokens)

onto-none : (front : List ℕ) → onto front None ≡ None
onto-none [] = refl
onto-none (a ∷ front) = ap (onto_token a) (onto-none front)

one : (b : ℕ) (token : List ℕ) (tokens : Option (List (List ℕ))) → onto_token b (first_token token tokens) ≡ first_token (b ∷ token) tokens
one b token None = refl
one b token (Some tokens) = refl

onto-first : (front token : List ℕ) (tokens : Option (List (List ℕ))) → onto front (first_token token tokens) ≡ first_token (front ++ token) tokens
onto-first [] token tokens = refl
onto-first (a ∷ front) token tokens = ap (onto_token a) (onto-first front token tokens) ∙ one a (front ++ token) tokens

-- the bytes before an end are of the first token, which begins at a place
pub record Within (place : TokenPlace) (bytes : List ℕ) (end : ℕ) : Type 0 where
  pub tokens : tokens_from place bytes ≡ onto (take end bytes) (tokens_from place (drop end bytes))
  pub within : end ≤ length bytes

pub Within-none : (place : TokenPlace) (bytes : List ℕ) → Within place bytes 0
Within-none place bytes = record { tokens = refl; within = omega arith }

-- a byte that belongs to the first token
pub Within-more : (place : TokenPlace) (bytes : List ℕ) (end : ℕ) → Within place bytes end → end < length bytes → ((rest : List ℕ) → tokens_from place (get_or bytes end 0 ∷ rest) ≡ onto_token (get_or bytes end 0) (tokens_from place rest)) → Within place bytes (end + 1)
Within-more place bytes end w more keeps =
    let b = get_or bytes end 0 in
    let rest = drop (end + 1) bytes in
    record {
      tokens = w.tokens ∙ ap (λ (r : List ℕ). onto (take end bytes) (tokens_from place r)) (drop_more bytes end 0 more) ∙ ap (onto (take end bytes)) (keeps rest)
          ∙ sym (onto-more (take end bytes) b (tokens_from place rest)) ∙ ap (λ (f : List ℕ). onto f (tokens_from place rest)) (sym (take_more bytes end 0 more));
      within = omega arith;
    }

-- ---- kinds

pub kind_blank : (b : ℕ) → is_blank b ≡ true → byte_kind b ≡ Blank
kind_blank b is = rw is refl

pub kind_quote : (b : ℕ) → b ≡ 34 → byte_kind b ≡ Quote
kind_quote b is = rw is refl

pub kind_other : (b : ℕ) → is_blank b ≡ false → b ≢ 34 → byte_kind b ≡ Other
kind_other b is unlike = let other : nat_eq b 34 ≡ false = grind (arith, common_steps) in rw (is, other) refl

-- ---- a token without quotes

inside_other : (b : ℕ) (rest : List ℕ) (k : Kind) → byte_kind b ≡ k → k ≢ Blank → tokens_from Inside (b ∷ rest) ≡ onto_token b (tokens_from Inside rest)
unfolding tokens_from
inside_other b rest Blank is unlike = absurd (unlike refl)
inside_other b rest Quote is unlike = rw (is, tokens_from) refl
inside_other b rest Other is unlike = rw (is, tokens_from) refl

not_blank : (b : ℕ) → is_blank b ≡ false → byte_kind b ≢ Blank
not_blank b unlike = λ is. (elim (nat_eq b 34) as (λ t. cond (is_blank b) Blank (cond t Quote Other) ≡ Blank → ⊥) [ true ↦ λ e. cc (sym (rw unlike at e)) | false ↦ λ e. cc (sym (rw unlike at e)) ]) is

pub inside_keeps : (b : ℕ) → is_blank b ≡ false → (rest : List ℕ) → tokens_from Inside (b ∷ rest) ≡ onto_token b (tokens_from Inside rest)
inside_keeps b unlike rest = inside_other b rest (byte_kind b) refl (not_blank b unlike)

pub bare_begins : (bytes : List ℕ) → IsBare bytes → tokens_of bytes ≡ tokens_from Inside bytes
unfolding tokens_from IsBare
bare_begins [] is = absurd is
bare_begins (b ∷ bytes) is = rw (is, tokens_from) refl

pub bare_first : (bytes : List ℕ) → IsBare bytes → (0 < length bytes) × (is_blank (get_or bytes 0 0) ≡ false)
unfolding IsBare
bare_first [] is = absurd is
bare_first (b ∷ bytes) is = (omega arith, bare_byte b (is_blank b) refl is) where
  bare_byte : (b : ℕ) (blank : Bool) → is_blank b ≡ blank → byte_kind b ≡ Other → blank ≡ false
  bare_byte b true is other = cc (sym (rw is at other))
  bare_byte b false is other = refl

pub bare_one : (bytes : List ℕ) → IsBare bytes → Within Inside bytes 1
bare_one bytes is =
    let first = bare_first bytes is in
    Within-more Inside bytes 0 (Within-none Inside bytes) first.0 (inside_keeps (get_or bytes 0 0) first.1)

bare_ends : (rest : List ℕ) → (rest ≡ []) ⊎ ((0 < length rest) × (is_blank (get_or rest 0 0) ≡ true)) → tokens_from Inside rest ≡ first_token [] (tokens_of rest)
unfolding tokens_from
bare_ends rest (inl none) = rw none refl
bare_ends [] (inr some) = refl
bare_ends (b ∷ rest) (inr some) = let is = kind_blank b some.1 in rw (is, tokens_from) refl

pub bare_whole : (bytes : List ℕ) (end : ℕ) → IsBare bytes → Within Inside bytes end → (drop end bytes ≡ []) ⊎ ((0 < length (drop end bytes)) × (is_blank (get_or (drop end bytes) 0 0) ≡ true)) → tokens_of bytes ≡ first_token (take end bytes) (tokens_of (drop end bytes))
bare_whole bytes end is w ends =
    bare_begins bytes is ∙ w.tokens ∙ ap (onto (take end bytes)) (bare_ends (drop end bytes) ends) ∙ onto-first (take end bytes) [] (tokens_of (drop end bytes))
    ∙ ap (λ (f : List ℕ). first_token f (tokens_of (drop end bytes))) (append-nil (take end bytes))

-- ---- a quoted token

quoted_kind : (b : ℕ) (rest : List ℕ) (k : Kind) → byte_kind b ≡ k → k ≢ Quote → tokens_from Quoted (b ∷ rest) ≡ onto_token b (tokens_from Quoted rest)
unfolding tokens_from
quoted_kind b rest Blank is unlike = rw (is, tokens_from) refl
quoted_kind b rest Quote is unlike = absurd (unlike refl)
quoted_kind b rest Other is unlike = rw (is, tokens_from) refl

not_quote : (b : ℕ) → b ≢ 34 → byte_kind b ≢ Quote
not_quote b unlike =
    let other : nat_eq b 34 ≡ false = grind (arith, common_steps) in
    λ is. (elim (is_blank b) as (λ t. cond t Blank (cond (nat_eq b 34) Quote Other) ≡ Quote → ⊥) [ true ↦ λ e. cc e | false ↦ λ e. cc (sym (rw other at e)) ]) is

pub quoted_keeps : (b : ℕ) → b ≢ 34 → (rest : List ℕ) → tokens_from Quoted (b ∷ rest) ≡ onto_token b (tokens_from Quoted rest)
quoted_keeps b unlike rest = quoted_kind b rest (byte_kind b) refl (not_quote b unlike)

pub quoted_open : (bytes : List ℕ) (end : ℕ) → Within Quoted bytes end → length bytes ≤ end → tokens_from Quoted bytes ≡ None
unfolding tokens_from
quoted_open bytes end w past =
    w.tokens ∙ ap (λ (r : List ℕ). onto (take end bytes) (tokens_from Quoted r)) (drop_all end bytes past) ∙ onto-none (take end bytes)

quoted_closed : (bytes : List ℕ) (end : ℕ) → Within Quoted bytes end → end < length bytes → get_or bytes end 0 ≡ 34 → tokens_from Quoted bytes ≡ onto (take end bytes) (tokens_from Behind (drop (end + 1) bytes))
unfolding tokens_from
quoted_closed bytes end w more is =
    let quote = kind_quote (get_or bytes end 0) is in
    w.tokens ∙ ap (λ (r : List ℕ). onto (take end bytes) (tokens_from Quoted r)) (drop_more bytes end 0 more) ∙ rw (quote, tokens_from) refl

behind_kind : (b : ℕ) (rest : List ℕ) (k : Kind) → byte_kind b ≡ k → k ≢ Blank → tokens_from Behind (b ∷ rest) ≡ None
unfolding tokens_from
behind_kind b rest Blank is unlike = absurd (unlike refl)
behind_kind b rest Quote is unlike = rw (is, tokens_from) refl
behind_kind b rest Other is unlike = rw (is, tokens_from) refl

pub behind_none : (rest : List ℕ) → length rest < 1 → tokens_from Behind rest ≡ first_token [] (tokens_of rest)
unfolding tokens_from
behind_none [] none = refl
behind_none (b ∷ rest) none = absurd (omega (arith, none))

behind_byte : (b : ℕ) (rest : List ℕ) (blank : Bool) → is_blank b ≡ blank → tokens_from Behind (b ∷ rest) ≡ cond blank (first_token [] (tokens_of (b ∷ rest))) None
unfolding tokens_from
behind_byte b rest true is = let kind = kind_blank b is in rw (kind, tokens_from) refl
behind_byte b rest false is = behind_kind b rest (byte_kind b) refl (not_blank b is)

pub behind_some : (rest : List ℕ) (blank : Bool) → 1 ≤ length rest → is_blank (get_or rest 0 0) ≡ blank → tokens_from Behind rest ≡ cond blank (first_token [] (tokens_of rest)) None
behind_some [] blank some is = absurd (omega (arith, some))
behind_some (b ∷ rest) blank some is = behind_byte b rest blank is

pub quoted_whole : (bytes : List ℕ) (end : ℕ) → Within Quoted bytes end → end < length bytes → get_or bytes end 0 ≡ 34 → tokens_from Behind (drop (end + 1) bytes) ≡ first_token [] (tokens_of (drop (end + 1) bytes)) → tokens_from Quoted bytes ≡ first_token (take end bytes) (tokens_of (drop (end + 1) bytes))
quoted_whole bytes end w more is ends =
    quoted_closed bytes end w more is ∙ ap (onto (take end bytes)) ends ∙ onto-first (take end bytes) [] (tokens_of (drop (end + 1) bytes))
    ∙ ap (λ (f : List ℕ). first_token f (tokens_of (drop (end + 1) bytes))) (append-nil (take end bytes))

pub quoted_broken : (bytes : List ℕ) (end : ℕ) → Within Quoted bytes end → end < length bytes → get_or bytes end 0 ≡ 34 → tokens_from Behind (drop (end + 1) bytes) ≡ None → tokens_from Quoted bytes ≡ None
quoted_broken bytes end w more is broken = quoted_closed bytes end w more is ∙ ap (onto (take end bytes)) broken ∙ onto-none (take end bytes)

-- ---- a token of either sort

pub begins_quoted : (bytes : List ℕ) → 0 < length bytes → get_or bytes 0 0 ≡ 34 → tokens_of bytes ≡ tokens_from Quoted (drop 1 bytes)
unfolding tokens_from
begins_quoted [] some is = absurd (omega (arith, some))
begins_quoted (b ∷ bytes) some is = let quote = kind_quote b is in rw (quote, tokens_from) refl

pub begins_bare : (bytes : List ℕ) → StartsToken bytes → get_or bytes 0 0 ≢ 34 → IsBare bytes
unfolding StartsToken IsBare
begins_bare [] starts unlike = absurd starts
begins_bare (b ∷ bytes) starts unlike = kind_other b starts unlike

pub some_byte : (bytes : List ℕ) → StartsToken bytes → 0 < length bytes
unfolding StartsToken
some_byte [] starts = absurd starts
some_byte (b ∷ bytes) starts = omega arith

-- what is found after a first quote
pub behind_quote : (found : Option (Bor (List ℕ) × Bor (List ℕ))) (inner bytes : List ℕ) → tokens_of bytes ≡ tokens_from Quoted inner → length inner ≤ length bytes
    → MatchOption found (tokens_from Quoted inner ≡ None) (λ f. (tokens_from Quoted inner ≡ first_token f.0.now (tokens_of f.1.now)) × (length f.1.now < length inner))
    → MatchOption found (tokens_of bytes ≡ None) (λ f. (tokens_of bytes ≡ first_token f.0.now (tokens_of f.1.now)) × (length f.1.now < length bytes))
behind_quote None inner bytes same within is = same ∙ is
behind_quote (Some f) inner bytes same within is = (same ∙ is.0, omega (arith, is.1, within))

pub first_of_rest : (bytes : List ℕ) (end : ℕ) → end < length bytes → is_blank (get_or bytes end 0) ≡ true → (0 < length (drop end bytes)) × (is_blank (get_or (drop end bytes) 0 0) ≡ true)
first_of_rest bytes end more is = rw (drop_more bytes end 0 more) (omega arith, is)
