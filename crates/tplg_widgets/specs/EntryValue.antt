-- What the rules see of a widget: the index of its block, its role where it is interpreted, its name and its stream's name, its
-- tokens, and its live control.
use Rattle.std.specs.Prelude.{ℕ, List, Option}
use Rattle.tplg_model.specs.declared.control.Control.{Control}
use Rattle.tplg_widgets.specs.declared.entry.Role.{Role}
use Rattle.tplg_widgets.specs.declared.tokens.WidgetTokens.{WidgetTokens}

pub record EntryValue : Type 0 where
  pub index : ℕ
  pub role : Option Role
  pub name : List ℕ
  pub sname : List ℕ
  pub tokens : WidgetTokens
  pub control : Option Control
