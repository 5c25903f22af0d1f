-- The widgets of a name.
use Rattle.std.specs.Prelude.{ℕ, List, Bool, ◌&&◌}
use Rattle.std.specs.Str.{bytes_eq}
use Rattle.tplg_widgets.specs.declared.entry.Entry.{Entry}
use Rattle.tplg_widgets.specs.Entries.{is_interpreted}

-- a widget of this name
abbrev pub has_name : List ℕ → Entry → Bool
has_name name e = bytes_eq name e.name

-- an interpreted widget of this name
abbrev pub is_interpreted_named : List ℕ → Entry → Bool
is_interpreted_named name e = is_interpreted e && has_name name e
