-- Words at their places, and the first fault among them. All places are in bytes from 0.
use Rattle.std.specs.Prelude.{ℕ, zero, suc, ◌+◌, Bool, true, ◌&&◌, not, List, [], ◌∷◌, Option, Some, None, nat_le}
use Rattle.sof_base.specs.Slots.{word_at, half_at}
use Rattle.ipc3_model.specs.declared.fault.CodecFault.{CodecFault}
use Rattle.ipc3_model.specs.declared.fault.CodecFault.TheVariants.{Field}

-- a word of bytes: its place, how many bytes it has, and whether its value is one that it may have
pub record Place : Type 0 where
  pub at : ℕ
  pub width : ℕ
  pub good : Bool

-- so many bytes of any value
abbrev pub any_bytes : ℕ → ℕ → Place
any_bytes at width = record { at = at; width = width; good = true }

-- a word of any value
abbrev pub any_word : ℕ → Place
any_word at = any_bytes at 4

-- a word of some values
abbrev pub word_of : List ℕ → ℕ → (ℕ → Bool) → Place
word_of b at allows = record { at = at; width = 4; good = allows (word_at b at) }

-- a word of two bytes, of some values
abbrev pub half_of : List ℕ → ℕ → (ℕ → Bool) → Place
half_of b at allows = record { at = at; width = 2; good = allows (half_at b at) }

-- words of one width and of any value, from a place on
abbrev pub any_run : ℕ → ℕ → ℕ → List Place
any_run width at zero = []
any_run width at (suc n) = any_bytes at width ∷ any_run width (at + width) n

-- those of four bytes, and those of two
abbrev pub any_words : ℕ → ℕ → List Place
any_words at n = any_run 4 at n

abbrev pub any_halves : ℕ → ℕ → List Place
any_halves at n = any_run 2 at n

-- a word does not lie within the size word, or its value is not allowed there
abbrev pub is_bad : List ℕ → Place → Bool
is_bad b place = not (nat_le (place.at + place.width) (word_at b 0) && place.good)

-- a bad place is a fault there
abbrev pub field_fault : Option Place → Option CodecFault
field_fault None = None
field_fault (Some place) = Some (Field place.at)
