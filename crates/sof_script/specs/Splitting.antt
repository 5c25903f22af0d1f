-- The lines of bytes and the tokens of a line.
use Rattle.std.specs.Prelude.{ℕ, Bool, true, ◌||◌, ◌&&◌, nat_eq, nat_le, if◌then◌else◌, List, [], ◌∷◌, Option, Some, None, option_map}
use Rattle.std.specs.List.{list_all, onto_first}

-- ---- lines

-- lines: each ends with its newline (10), which the last may lack; another byte belongs to the first line
unfoldable pub lines_of : List ℕ → List (List ℕ)
lines_of [] = []
lines_of (b ∷ bytes) = if nat_eq b 10 then [] ∷ lines_of bytes else onto_first b (lines_of bytes)

-- a line without the one carriage return (13) that it may end with
unfoldable pub without_return : List ℕ → List ℕ
without_return [] = []
without_return (b ∷ []) = if nat_eq b 13 then [] else b ∷ []
without_return (b ∷ c ∷ rest) = b ∷ without_return (c ∷ rest)

-- ---- tokens

-- a blank (32) or a tab (9)
abbrev pub is_blank : ℕ → Bool
is_blank b = nat_eq b 32 || nat_eq b 9

-- a byte that may stand on a line: 0x20 to 0x7E, or a tab
abbrev pub is_plain_byte : ℕ → Bool
is_plain_byte b = (nat_le 32 b && nat_le b 126) || nat_eq b 9

-- each byte may
unfoldable pub all_plain : List ℕ → Bool
all_plain bytes = list_all is_plain_byte bytes

-- a line is skipped that has no token, or whose first token begins with `#` (35)
unfoldable pub is_skipped : List ℕ → Bool
is_skipped [] = true
is_skipped (b ∷ bytes) = if is_blank b then is_skipped bytes else nat_eq b 35

-- how tokens are separated: by blanks, by double quotes (34), and all other bytes are alike
pub data Kind : Type 0 where
  Blank : Kind
  Quote : Kind
  Other : Kind

abbrev pub byte_kind : ℕ → Kind
byte_kind b = if is_blank b then Blank else if nat_eq b 34 then Quote else Other

-- where a byte stands: between tokens, inside one without quotes, between the quotes of one, just after those
pub data TokenPlace : Type 0 where
  Between : TokenPlace
  Inside : TokenPlace
  Quoted : TokenPlace
  Behind : TokenPlace

-- The tokens from a byte on that stands at a place, by those from the place that the byte leads to: a byte of a token stands in front of
-- the first of them, and an empty token begins where one ends.
abbrev pub tokens_by : TokenPlace → Kind → ℕ → (TokenPlace → Option (List (List ℕ))) → Option (List (List ℕ))
tokens_by Between Blank b from = from Between
tokens_by Between Quote b from = from Quoted
tokens_by Inside Blank b from = option_map (λ tokens. [] ∷ tokens) (from Between)
tokens_by Quoted Quote b from = from Behind
tokens_by Quoted _ b from = option_map (onto_first b) (from Quoted)
tokens_by Behind Blank b from = option_map (λ tokens. [] ∷ tokens) (from Between)
tokens_by Behind _ b from = None
tokens_by _ _ b from = option_map (onto_first b) (from Inside)

-- the tokens from a place on, the first of which may have begun; none where a quote is not closed, or no blank follows it
unfoldable pub tokens_from : TokenPlace → List ℕ → Option (List (List ℕ))
tokens_from Between [] = Some []
tokens_from Quoted [] = None
tokens_from _ [] = Some ([] ∷ [])
tokens_from place (b ∷ bytes) = tokens_by place (byte_kind b) b (λ next. tokens_from next bytes)

-- the tokens of a line; a quoted one is what is between its quotes
abbrev pub tokens_of : List ℕ → Option (List (List ℕ))
tokens_of line = tokens_from Between line
