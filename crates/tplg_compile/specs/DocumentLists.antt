-- The three lists of a document: widgets, routes and PCMs.
use Rattle.std.specs.Prelude.{Bool, is_some, List, [], ◌∷◌, codes, ℕ, Option, Some, option_map}
use Rattle.std.specs.List.{list_all}
use Rattle.std.specs.Option.{option_map_or}
use Rattle.toml.specs.Data.{Data, Members, get_member, as_array, as_table}
use Rattle.tplg_compile.specs.ValueForm.{found_where, item_list, only}
use Rattle.tplg_compile.specs.Outcomes.{◌>>=◌}

-- each value is a table
unfoldable pub are_tables : List Data → Bool
are_tables ds = list_all (λ d. is_some (as_table d)) ds

-- the entries of an array of tables
unfoldable pub entries_of : Data → Option (List Data)
entries_of d = found_where are_tables (option_map item_list (as_array d))

-- those of a list that may be absent
unfoldable pub entries_at : List ℕ → Members → Option (List Data)
entries_at key table = option_map_or entries_of (get_member key table) (Some [])

pub record Lists : Type 0 where
  pub widgets : List Data
  pub routes : List Data
  pub pcms : List Data

-- nothing where a document has another key, or a value that is no array of tables
unfoldable pub lists_of : Members → Option Lists
lists_of table = do
  known ← only (codes "widget" ∷ codes "route" ∷ codes "pcm" ∷ []) table
  widgets ← entries_at (codes "widget") table
  routes ← entries_at (codes "route") table
  pcms ← entries_at (codes "pcm") table
  Some (record { widgets = widgets; routes = routes; pcms = pcms })
