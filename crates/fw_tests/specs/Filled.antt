-- A registry that is filled with components of ascending ids, and the region that their pieces are carved from, one after the other.
use Rattle.std.specs.Prelude.{◌≡◌, ℕ, ◌-◌, ◌*◌, ◌<◌, List, [], ◌∷◌}
use Rattle.sof_base.specs.declared.hole.Hole.{Hole}
use Rattle.fw_units.specs.declared.component.Component.{Component}
use Rattle.fw_components.specs.Tables.{Tables}

-- each has an id below n
abbrev pub AreBelow : ℕ → List Component → Type 0
AreBelow n [] = Unit {0}
AreBelow n (c ∷ cs) = (c.id < n) × AreBelow n cs

-- there are components of ids below n, and nothing else
pub record IsFilled (n : ℕ) (t : Tables) : Type 0 where
  pub comps : AreBelow n t.comps
  pub buffers : t.buffers ≡ []
  pub pipes : t.pipes ≡ []
  pub joins : t.joins ≡ []

-- what is free of 2080 bytes once n pieces of 16 bytes are carved
abbrev pub rest_behind : ℕ → List Hole
rest_behind n = record { place = 16 * n; size = 2080 - 16 * n } ∷ []
