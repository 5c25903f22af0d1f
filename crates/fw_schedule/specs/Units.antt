-- What is read off units.
use Rattle.std.specs.Option.{option_map_or}
use Rattle.sof_base.specs.declared.format.Format.{Format}
use Rattle.sof_base.specs.declared.format.Format.TheVariants.{S32}
use Rattle.fw_units.specs.declared.component.Unit as units
use Rattle.fw_units.specs.declared.component.Unit.TheVariants.{Host, Dai}

-- the format of an endpoint's samples
abbrev pub unit_format : units.Unit → Format
unit_format (Host capture phase params piece) = option_map_or (λ p. p.format) params S32
unit_format (Dai capture format piece) = format
unit_format unit = S32
