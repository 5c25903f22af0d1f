-- How a value of a source is read, and what stands at a key. Nothing where it is of another type or outside its range.
use Rattle.std.specs.Prelude.{ℕ, ℤ, pos, negsuc, Bool, true, not, ◌&&◌, nat_lt, nat_le, ◌==◌, int_le, if◌then◌else◌, List, [], ◌∷◌, length, Option, Some, None, option_map}
use Rattle.std.specs.Option.{option_map_or}
use Rattle.std.specs.List.{list_any}
use Rattle.std.specs.Str.{bytes_eq}
use Rattle.std.specs.Result.{result_ok}
use Rattle.sof_base.specs.Slots.{is_name}
use Rattle.hex.specs.Hex.{decode_of}
use Rattle.toml.specs.Data.{Data, Items, no_items, item, Members, no_members, member, get_member, as_str, as_integer, as_table}
use Rattle.tplg_compile.specs.Outcomes.{◌>>=◌}

-- what is found, where it passes a test
abbrev pub found_where : {A : Type 0} → (A → Bool) → Option A → Option A
found_where test found = found >>= λ x. if test x then Some x else None

-- ---- values

-- an integer from 0 to 4294967295
abbrev pub natural : ℤ → Option ℕ
natural (pos n) = if nat_lt n 4294967296 then Some n else None
natural (negsuc n) = None

-- a number from 0 to 4294967295
unfoldable pub number_of : Data → Option ℕ
number_of d = as_integer d >>= natural

-- a number from 0 to 65535
unfoldable pub index_of : Data → Option ℕ
index_of d = found_where (λ n. nat_le n 65535) (number_of d)

-- a number from -2147483648 to 2147483647
unfoldable pub signed_of : Data → Option ℤ
signed_of d = found_where (λ z. int_le (negsuc 2147483647) z && int_le z (pos 2147483647)) (as_integer d)

-- a text of at most 43 bytes, none of them 0
unfoldable pub name_of : Data → Option (List ℕ)
name_of d = found_where is_name (as_str d)

-- such a text that is not empty
unfoldable pub filled_of : Data → Option (List ℕ)
filled_of d = found_where (λ text. not (length text == 0)) (name_of d)

-- the bytes of an even number of hex digits
unfoldable pub blob_of : Data → Option (List ℕ)
blob_of d = as_str d >>= λ text. result_ok (decode_of text)

-- ---- lists of values

-- the items of an array as a list
abbrev pub item_list : Items → List Data
item_list no_items = []
item_list (item d ds) = d ∷ item_list ds

-- each value read, in their order
unfoldable pub each : {A : Type 0} → (Data → Option A) → List Data → Option (List A)
each read [] = Some []
each read (d ∷ ds) = do
  first ← read d
  more ← each read ds
  Some (first ∷ more)

-- a value that has to be a table, read
unfoldable pub in_table : {A : Type 0} → (Members → Option A) → Data → Option A
in_table read d = as_table d >>= read

-- ---- keys

-- the value at a key that has to stand there
unfoldable pub required_at : {A : Type 0} → (Data → Option A) → List ℕ → Members → Option A
required_at read key entry = get_member key entry >>= read

-- the value at a key that may be absent
unfoldable pub optional_at : {A : Type 0} → (Data → Option A) → List ℕ → Members → Option (Option A)
optional_at read key entry = option_map_or (λ d. option_map Some (read d)) (get_member key entry) (Some None)

-- a key is one of these
abbrev pub is_one_of : List ℕ → List (List ℕ) → Bool
is_one_of key keys = list_any (bytes_eq key) keys

-- each key of an entry is one of these
abbrev pub has_only : List (List ℕ) → Members → Bool
has_only keys no_members = true
has_only keys (member k d ms) = is_one_of k keys && has_only keys ms

-- something where each key of an entry is one of these
unfoldable pub only : List (List ℕ) → Members → Option (Unit {0})
only keys entry = if has_only keys entry then Some tt else None
