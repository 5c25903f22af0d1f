-- What a token of a widget's private data says: the value of the first element with that token in an array of its sort.
use Rattle.std.specs.Prelude.{ℕ, ◌==◌, if◌then◌else◌, List, [], ◌∷◌, Option, Some, None}
use Rattle.std.specs.List.{flat_map}
use Rattle.sof_base.specs.Slots.{until_zero}
use Rattle.tplg_model.specs.declared.tokens.TextTuple.{TextTuple}
use Rattle.tplg_model.specs.declared.tokens.NumberTuple.{NumberTuple}
use Rattle.tplg_model.specs.declared.tokens.TokenArray.{TokenArray}
use Rattle.tplg_model.specs.declared.tokens.TokenArray.TheVariants.{Text, Number}

-- an array's elements where it is one of numbers (types 2 to 5)
abbrev pub number_tuples : TokenArray → List NumberTuple
number_tuples (Number numbers) = numbers.items
number_tuples _ = []

-- an array's elements where it is one of texts
abbrev pub texts_in : TokenArray → List TextTuple
texts_in (Text items) = items
texts_in _ = []

-- the number of the first element with a token
abbrev pub first_number : List NumberTuple → ℕ → Option ℕ
first_number [] token = None
first_number (t ∷ ts) token = if t.token == token then Some t.value else first_number ts token

-- the text of the first element with a token: the bytes before its first 0, or all 44
abbrev pub first_text : List TextTuple → ℕ → Option (List ℕ)
first_text [] token = None
first_text (t ∷ ts) token = if t.token == token then Some (until_zero t.bytes) else first_text ts token

-- the number of a token: its first element, in file order, in the arrays of numbers
unfoldable pub number_of : List TokenArray → ℕ → Option ℕ
number_of arrays token = first_number (flat_map number_tuples arrays) token

-- the text of a token: its first element, in file order, in the arrays of texts
unfoldable pub text_of : List TokenArray → ℕ → Option (List ℕ)
text_of arrays token = first_text (flat_map texts_in arrays) token
