-- What is looked up of a topology's widgets: the interpreted ones, and the first of each name.
use Rattle.std.specs.Prelude.{◌≡◌, ℕ, ◌<◌, ◌^◌, List, length, position, Option}
use Rattle.tplg_widgets.specs.EntryValue.{EntryValue}
use Rattle.tplg_widgets.specs.Entries.{interpreted}
use Rattle.tplg_widgets.specs.Names.{is_interpreted_named, has_name}

-- the lookups by name: of the interpreted widgets among all, of their ids, and of all widgets
pub record AreLookups (es ps : List EntryValue) (first id any : List ℕ → Option ℕ) : Type 0 where
  pub few : length es < 2 ^ 32
  pub parts : ps ≡ interpreted es
  pub parts_few : length ps < 2 ^ 32
  pub firsts : (q : List ℕ) → first q ≡ position (is_interpreted_named q) es
  pub ids : (q : List ℕ) → id q ≡ position (has_name q) ps
  pub names : (q : List ℕ) → any q ≡ position (has_name q) es
