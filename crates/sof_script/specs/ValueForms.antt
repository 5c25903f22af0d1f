-- What a token is worth as a number, a format, hex, a name or a file. Each has one cause for a token that is none.
use Rattle.std.specs.Prelude.{ℕ, ℤ, pos, ◌-ℤ◌, ◌+◌, ◌-◌, ◌*◌, Bool, true, false, not, ◌&&◌, nat_eq, nat_le, nat_lt, if◌then◌else◌, List, [], ◌∷◌, length, codes, Option, Some, None, Result, Ok, Err}
use Rattle.std.specs.Str.{bytes_eq}
use Rattle.std.specs.Result.{result_map_both}
use Rattle.sof_base.specs.Slots.{is_name}
use Rattle.sof_base.specs.declared.format.Format.{Format}
use Rattle.sof_base.specs.declared.format.Format.TheVariants.{S16, S24, S32}
use Rattle.hex.specs.Hex.{decode_of}
use Rattle.sof_script.specs.declared.fault_causes.Cause.{Cause}
use Rattle.sof_script.specs.declared.fault_causes.Cause.TheVariants as causes
use Rattle.sof_script.specs.Splitting.{all_plain}

-- ---- numbers

-- `0` to `9`
abbrev pub is_digit : ℕ → Bool
is_digit b = nat_le 48 b && nat_le b 57

-- the number of digits after those of a number; none where a byte is no digit
unfoldable pub digits_behind : ℕ → List ℕ → Option ℕ
digits_behind n [] = Some n
digits_behind n (b ∷ bytes) = if is_digit b then digits_behind (n * 10 + (b - 48)) bytes else None

-- there is a first byte, and it is `0` (48) only where that is all
abbrev pub begins_well : List ℕ → Bool
begins_well [] = false
begins_well (b ∷ []) = true
begins_well (b ∷ c ∷ bytes) = not (nat_eq b 48)

-- the number of decimal digits without a needless zero
abbrev pub decimal_value : List ℕ → Option ℕ
decimal_value token = if begins_well token then digits_behind 0 token else None

-- a number in its range
abbrev pub in_range : ℕ → ℕ → Option ℕ → Result ℕ Cause
in_range least most None = Err causes.Number
in_range least most (Some n) = if nat_le least n && nat_le n most then Ok n else Err causes.Number

abbrev pub number_value : ℕ → ℕ → List ℕ → Result ℕ Cause
number_value least most token = in_range least most (decimal_value token)

-- the negative of a number
abbrev pub negative : Result ℕ Cause → Result ℤ Cause
negative r = result_map_both (λ n. pos 0 -ℤ pos n) (λ cause. cause) r

-- an error number: `-` (45), and 1 to 4095 after it
abbrev pub error_value : List ℕ → Result ℤ Cause
error_value [] = Err causes.Number
error_value (b ∷ bytes) = if nat_eq b 45 then negative (number_value 1 4095 bytes) else Err causes.Number

-- ---- the format of a sample

abbrev pub format_value : List ℕ → Result Format Cause
format_value token =
    if bytes_eq token (codes "s16") then Ok S16
    else if bytes_eq token (codes "s24") then Ok S24
    else if bytes_eq token (codes "s32") then Ok S32
    else Err causes.Number

-- ---- hex

-- the bytes of at most 2048 hex digits, two for each, in either case; `-` is no bytes
abbrev pub hex_value : List ℕ → Result (List ℕ) Cause
hex_value token =
    if bytes_eq token (codes "-") then Ok []
    else if nat_lt 2048 (length token) then Err causes.Hex
    else result_map_both (λ bytes. bytes) (λ fault. causes.Hex) (decode_of token)

-- ---- names and files

-- 1 to 43 bytes, none of them 0
abbrev pub name_value : List ℕ → Result (List ℕ) Cause
name_value token = if nat_lt 0 (length token) && is_name token then Ok token else Err causes.Name

-- 1 to 255 bytes, each of them one that may stand on a line
abbrev pub file_value : List ℕ → Result (List ℕ) Cause
file_value token = if nat_lt 0 (length token) && nat_lt (length token) 256 && all_plain token then Ok token else Err causes.Name
