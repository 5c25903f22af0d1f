-- What holds of the fields of a registry.
use Rattle.std.specs.Prelude.{◌≤◌, vec_capacity}
use Rattle.fw_components.specs.declared.registry.Registry.TheInside.{Inside}
use Rattle.fw_components.specs.Tables.{Tables}
use Rattle.fw_components.specs.Kept.{IsKept}
use Rattle.fw_components.specs.Tally.{IsTallied}

abbrev pub tables_of : Inside → Tables
tables_of r = record { comps = r.comps.items; buffers = r.buffers.items; pipes = r.pipes.items; joins = r.joins.items }

pub record IsRegistryLaid (r : Inside) : Type 0 where
  pub comps : 128 ≤ vec_capacity r.comps
  pub buffers : 128 ≤ vec_capacity r.buffers
  pub pipes : 32 ≤ vec_capacity r.pipes
  pub joins : 256 ≤ vec_capacity r.joins
  pub kept : IsKept (tables_of r)
  pub tallied : IsTallied (tables_of r) r.tallies
