-- The error numbers of replies, negative as Linux has them.
use Rattle.std.specs.Prelude.{ℤ, negsuc}

abbrev pub no_memory : ℤ
no_memory = negsuc 11

abbrev pub busy : ℤ
busy = negsuc 15

abbrev pub no_device : ℤ
no_device = negsuc 18

abbrev pub invalid : ℤ
invalid = negsuc 21
