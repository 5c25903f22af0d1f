-- The names that a widget may have.
use Rattle.std.specs.Prelude.{ℕ, List, length, Bool, not, ◌&&◌, ◌==◌, nat_le}
use Rattle.std.specs.List.{list_all}

-- from the space to the tilde
abbrev pub is_printable : ℕ → Bool
is_printable byte = nat_le 32 byte && nat_le byte 126

-- bytes, at least one, that can be printed
abbrev pub is_widget_name : List ℕ → Bool
is_widget_name bytes = not (length bytes == 0) && list_all is_printable bytes
