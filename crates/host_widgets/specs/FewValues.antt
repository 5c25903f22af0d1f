-- How many values a volume or a demux has.
use Rattle.std.specs.Prelude.{◌≤◌}
use Rattle.tplg_plan.specs.declared.plans.ControlKind.{ControlKind}
use Rattle.tplg_plan.specs.declared.plans.ControlKind.TheVariants.{Volume, Masks}

-- a volume has at most 8 channels and values of at most 65535, and a demux at most 8 channels
abbrev pub HasFew : ControlKind → Type 0
HasFew (Volume min max channels lowest step mute) = (max ≤ 65535) × (channels ≤ 8)
HasFew (Masks min max channels) = channels ≤ 8
HasFew kind = Unit {0}
