-- How a line and a token begin.
use Rattle.std.specs.Prelude.{◌≡◌, ℕ, false, nat_eq, if◌then◌else◌, List, [], ◌∷◌, Option, option_map}
use Rattle.std.specs.List.{onto_first}
use Rattle.std.specs.Borrow.{Bor}
use Rattle.sof_script.specs.Splitting.{is_blank, byte_kind, Other}

-- the bytes of slices
abbrev pub texts : List (Bor (List ℕ)) → List (List ℕ)
texts [] = []
texts (r ∷ rs) = r.now ∷ texts rs

-- the first byte separates nothing
unfoldable pub StartsToken : List ℕ → Type 0
StartsToken [] = ⊥
StartsToken (b ∷ bytes) = is_blank b ≡ false

-- the first byte separates nothing and is no quote
unfoldable pub IsBare : List ℕ → Type 0
IsBare [] = ⊥
IsBare (b ∷ bytes) = byte_kind b ≡ Other

-- a byte and the lines after it: a newline (10) ends an empty line, another byte belongs to the first line
abbrev pub with_byte : ℕ → List (List ℕ) → List (List ℕ)
with_byte b rest = if nat_eq b 10 then [] ∷ rest else onto_first b rest

-- a token before others; none where those are none
abbrev pub first_token : List ℕ → Option (List (List ℕ)) → Option (List (List ℕ))
first_token token tokens = option_map (λ rest. token ∷ rest) tokens

-- a byte in front of the first of tokens
abbrev pub onto_token : ℕ → Option (List (List ℕ)) → Option (List (List ℕ))
onto_token b tokens = option_map (onto_first b) tokens
