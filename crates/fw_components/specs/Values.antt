-- The tables once values are set, and what a call tells of them.
use Rattle.std.specs.Prelude.{ℕ, List, Option, Some, None, Result, Ok, Err, ℤ, negsuc, find, ◌==◌, not, if◌then◌else◌, option_and_then, false, map}
use Rattle.std.specs.Option.{option_map_or}
use Rattle.sof_base.specs.declared.errno.Errno.{Errno}
use Rattle.fw_units.specs.declared.component.Unit as units
use Rattle.fw_components.specs.Tables.{Tables}
use Rattle.fw_components.specs.Changes.{is_there}
use Rattle.fw_units.specs.Values.{takes_values, unit_values, valued_at}

abbrev pub values_or : Option (List ℕ) → Result (List ℕ) ℤ
values_or None = Err (negsuc 21)
values_or (Some values) = Ok values

-- the values of a component; -19 where the id names nothing, and -22 where there are none by this command
abbrev pub unit_values_at : Tables → ℕ → ℕ → Result (List ℕ) ℤ
unit_values_at t id command =
    if not (is_there t id) then Err (negsuc 18)
    else values_or (option_and_then (λ c. unit_values c.unit command) (find (λ c. c.id == id) t.comps))

-- an error by its number
abbrev pub answer_told : Result (List ℕ) Errno → Result (List ℕ) ℤ
answer_told (Ok values) = Ok values
answer_told (Err e) = Err e.0

-- ---- what values set

abbrev pub valued : ℕ → List ℕ → Tables → Tables
valued id values t = record { comps = map (valued_at id values) t.comps; buffers = t.buffers; pipes = t.pipes; joins = t.joins }

-- the tables once values are set; -19 where the id names nothing, and -22 where it does not take them
abbrev pub values_set : Tables → ℕ → ℕ → List ℕ → Result Tables ℤ
values_set t id command values =
    if not (is_there t id) then Err (negsuc 18)
    else if option_map_or (λ c. takes_values c.unit command values) (find (λ c. c.id == id) t.comps) false then Ok (valued id values t)
    else Err (negsuc 21)

abbrev pub left_with : Tables → Result Unit Errno → Result Tables ℤ
left_with t (Ok done) = Ok t
left_with t (Err e) = Err e.0
