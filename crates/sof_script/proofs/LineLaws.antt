-- Finding lines and what separates tokens, byte by byte.
use Rattle.std.proofs.Common.{◌≡◌, ◌≢◌, ◌⊎◌, inl, inr, ℕ, suc, ◌+◌, ◌-◌, ◌<◌, ◌≤◌, true, false, nat_eq, List, [], ◌∷◌, ◌++◌, length, take, drop, get_or, refl, sym, ap, ◌∙◌, arith, append-nil}
use Rattle.std.proofs.lemmas.List.{take_more, drop_more, drop_all, take_all}
use Rattle.std.proofs.lemmas.Grind.{common_steps}
use Rattle.std.specs.List.{onto_first}
use Rattle.sof_script.specs.Splitting.{lines_of, without_return, is_blank, is_plain_byte, all_plain, is_skipped, tokens_from, tokens_of, byte_kind, Blank}
use Rattle.sof_script.specs.TokenStarts.{StartsToken, with_byte}

-- ---- lines

-- bytes in front of the first of lines
abbrev pub onto_line : List ℕ → List (List ℕ) → List (List ℕ)
onto_line [] rest = rest
onto_line (b ∷ front) rest = onto_first b (onto_line front rest)

pub onto_line-more : (front : List ℕ) (b : ℕ) (rest : List (List ℕ)) → onto_line (front ++ b ∷ []) rest ≡ onto_line front (onto_first b rest)
onto_line-more [] b rest = refl
onto_line-more (a ∷ front) b rest = ap (onto_first a) (onto_line-more front b rest)

pub onto_line-first : (front line : List ℕ) (rest : List (List ℕ)) → onto_line front (line ∷ rest) ≡ (front ++ line) ∷ rest
onto_line-first [] line rest = refl
onto_line-first (a ∷ front) line rest = ap (onto_first a) (onto_line-first front line rest)

pub onto_line-none : (front : List ℕ) → 0 < length front → onto_line front [] ≡ front ∷ []
onto_line-none [] some = absurd (omega (arith, some))
onto_line-none (a ∷ []) some = refl
onto_line-none (a ∷ b ∷ front) some = ap (onto_first a) (onto_line-none (b ∷ front) (omega arith))

-- the bytes before a place are on the first line
pub record OnLine (bytes : List ℕ) (end : ℕ) : Type 0 where
  pub lines : lines_of bytes ≡ onto_line (take end bytes) (lines_of (drop end bytes))
  pub within : end ≤ length bytes

pub OnLine-none : (bytes : List ℕ) → OnLine bytes 0
OnLine-none bytes = record { lines = refl; within = omega arith }

lines_step : (bytes : List ℕ) (end : ℕ) → end < length bytes → lines_of (drop end bytes) ≡ with_byte (get_or bytes end 0) (lines_of (drop (end + 1) bytes))
unfolding lines_of
lines_step bytes end more = ap lines_of (drop_more bytes end 0 more)

pub OnLine-more : (bytes : List ℕ) (end : ℕ) → OnLine bytes end → end < length bytes → get_or bytes end 0 ≢ 10 → OnLine bytes (end + 1)
OnLine-more bytes end on more other =
    let b = get_or bytes end 0 in
    let rest = lines_of (drop (end + 1) bytes) in
    let plain : with_byte b rest ≡ onto_first b rest = grind (arith, common_steps) in
    record {
      lines = on.lines ∙ ap (onto_line (take end bytes)) (lines_step bytes end more ∙ plain) ∙ sym (onto_line-more (take end bytes) b rest) ∙ ap (λ (f : List ℕ). onto_line f rest) (sym (take_more bytes end 0 more));
      within = omega arith;
    }

pub OnLine-newline : (bytes : List ℕ) (end : ℕ) → OnLine bytes end → end < length bytes → get_or bytes end 0 ≡ 10 → lines_of bytes ≡ take end bytes ∷ lines_of (drop (end + 1) bytes)
OnLine-newline bytes end on more newline =
    let rest = lines_of (drop (end + 1) bytes) in
    let ends : with_byte (get_or bytes end 0) rest ≡ [] ∷ rest = rw newline refl in
    on.lines ∙ ap (onto_line (take end bytes)) (lines_step bytes end more ∙ ends) ∙ onto_line-first (take end bytes) [] rest ∙ ap (λ (f : List ℕ). f ∷ rest) (append-nil (take end bytes))

pub OnLine-last : (bytes : List ℕ) (end : ℕ) → OnLine bytes end → 0 < length bytes → length bytes ≤ end → lines_of bytes ≡ bytes ∷ lines_of []
unfolding lines_of
OnLine-last bytes end on some past =
    let none : drop end bytes ≡ [] = drop_all end bytes past in
    let all : take end bytes ≡ bytes = take_all end bytes past in
    on.lines ∙ ap (λ (r : List ℕ). onto_line (take end bytes) (lines_of r)) none ∙ ap (λ (f : List ℕ). onto_line f []) all ∙ onto_line-none bytes some

pub return_last : (line : List ℕ) → 1 ≤ length line → get_or line (length line - 1) 0 ≡ 13 → take (length line - 1) line ≡ without_return line
unfolding without_return
return_last [] some is = absurd (omega (arith, some))
return_last (b ∷ []) some is = rw is refl
return_last (b ∷ c ∷ line) some is =
    let fewer : suc (suc (length line)) - 1 ≡ suc (suc (length line) - 1) = omega arith in
    let here : get_or (c ∷ line) (suc (length line) - 1) 0 ≡ 13 = ap (λ (n : ℕ). get_or (b ∷ c ∷ line) n 0) (sym fewer) ∙ is in
    ap (λ (n : ℕ). take n (b ∷ c ∷ line)) fewer ∙ ap (λ (r : List ℕ). b ∷ r) (return_last (c ∷ line) (omega arith) here)

pub return_none : (line : List ℕ) → get_or line (length line - 1) 0 ≢ 13 → line ≡ without_return line
unfolding without_return
return_none [] other = refl
return_none (b ∷ []) other = let no : nat_eq b 13 ≡ false = grind (arith, common_steps) in rw no refl
return_none (b ∷ c ∷ line) other =
    let fewer : suc (suc (length line)) - 1 ≡ suc (suc (length line) - 1) = omega arith in
    ap (λ (r : List ℕ). b ∷ r) (return_none (c ∷ line) (λ is. other (ap (λ (n : ℕ). get_or (b ∷ c ∷ line) n 0) fewer ∙ is)))

pub return_empty : (line : List ℕ) → length line < 1 → line ≡ without_return line
unfolding without_return
return_empty [] none = refl
return_empty (b ∷ line) none = absurd (omega (arith, none))

-- ---- blanks

pub record Skipped (bytes : List ℕ) (at : ℕ) : Type 0 where
  pub tokens : tokens_of (drop at bytes) ≡ tokens_of bytes
  pub skipped : is_skipped (drop at bytes) ≡ is_skipped bytes
  pub within : at ≤ length bytes

pub Skipped-none : (bytes : List ℕ) → Skipped bytes 0
Skipped-none bytes = record { tokens = refl; skipped = refl; within = omega arith }

blank_first : (b : ℕ) (rest : List ℕ) → is_blank b ≡ true → (tokens_of (b ∷ rest) ≡ tokens_of rest) × (is_skipped (b ∷ rest) ≡ is_skipped rest)
unfolding tokens_from is_skipped
blank_first b rest blank =
    let kind : byte_kind b ≡ Blank = rw blank refl in
    (rw (kind, tokens_from) refl, rw blank refl)

pub Skipped-more : (bytes : List ℕ) (at : ℕ) → Skipped bytes at → at < length bytes → is_blank (get_or bytes at 0) ≡ true → Skipped bytes (at + 1)
Skipped-more bytes at s more blank =
    let first = blank_first (get_or bytes at 0) (drop (at + 1) bytes) blank in
    let here = drop_more bytes at 0 more in
    record {
      tokens = sym (ap tokens_of here ∙ first.0) ∙ s.tokens;
      skipped = sym (ap is_skipped here ∙ first.1) ∙ s.skipped;
      within = omega arith;
    }

pub starts : (bytes : List ℕ) (at : ℕ) → at < length bytes → is_blank (get_or bytes at 0) ≡ false → StartsToken (drop at bytes)
unfolding StartsToken
starts bytes at more other = rw (drop_more bytes at 0 more) other

-- ---- bytes that may stand on a line

pub plain_step : (bytes : List ℕ) (i : ℕ) → i < length bytes → is_plain_byte (get_or bytes i 0) ≡ true → all_plain bytes ≡ all_plain (drop i bytes) → all_plain bytes ≡ all_plain (drop (i + 1) bytes)
unfolding all_plain
plain_step bytes i more is so_far = so_far ∙ ap all_plain (drop_more bytes i 0 more) ∙ rw is refl

pub plain_stop : (bytes : List ℕ) (i : ℕ) → i < length bytes → is_plain_byte (get_or bytes i 0) ≡ false → all_plain bytes ≡ all_plain (drop i bytes) → all_plain bytes ≡ false
unfolding all_plain
plain_stop bytes i more is so_far = so_far ∙ ap all_plain (drop_more bytes i 0 more) ∙ rw is refl

pub plain_end : (bytes : List ℕ) (i : ℕ) → length bytes ≤ i → all_plain bytes ≡ all_plain (drop i bytes) → all_plain bytes ≡ true
unfolding all_plain
plain_end bytes i past so_far = so_far ∙ ap all_plain (drop_all i bytes past)

-- ---- whether a line is skipped

pub no_token : (line : List ℕ) → length line ≡ 0 → is_skipped line ≡ true
unfolding is_skipped
no_token [] none = refl
no_token (b ∷ line) none = absurd (omega (arith, none))

pub starts_token : (line : List ℕ) → (line ≡ []) ⊎ StartsToken line → 0 < length line → StartsToken line
starts_token line (inl none) some = absurd (let no : length line ≡ 0 = ap length none in omega (arith, no, some))
starts_token line (inr is) some = is

pub first_byte : (line : List ℕ) → StartsToken line → is_skipped line ≡ nat_eq (get_or line 0 0) 35
unfolding is_skipped StartsToken
first_byte [] is = absurd is
first_byte (b ∷ line) is = rw is refl
