-- A vendor array of numbers, as contracts see it.
use Rattle.std.specs.Prelude.{ℕ, ◌+◌, ◌*◌, ◌<◌, ◌≤◌, ◌^◌, List, length}
use Rattle.tplg_model.specs.declared.array_type.TheConstants.{BOOL, SHORT}
use Rattle.tplg_model.specs.declared.tokens.NumberTuple.{NumberTuple}

-- its type, and its elements
pub record Numbers : Type 0 where
  pub kind : ℕ
  pub items : List NumberTuple

-- the type is one of numbers (bool, byte, word, short), and the bytes of its three words and elements are fewer than 2^32
pub record AreNumbers (a : Numbers) : Type 0 where
  pub from : BOOL ≤ a.kind
  pub to : a.kind ≤ SHORT
  pub size : 12 + length a.items * 8 < 2 ^ 32
