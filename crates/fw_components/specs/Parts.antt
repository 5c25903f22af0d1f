-- The parts in which an equaliser's blob comes and goes.
use Rattle.std.specs.Prelude.{◌≡◌, ℕ, ◌+◌, List, map, Bool, true, false, ◌==◌, not, Option, Some, None, Result, Ok, Err, ℤ, negsuc, find, if◌then◌else◌}
use Rattle.std.specs.Option.{option_map_or}
use Rattle.sof_base.specs.declared.errno.Errno.{Errno}
use Rattle.sof_base.specs.declared.part.Part.{Part}
use Rattle.eq_biquad.specs.EqState.{staged_of}
use Rattle.stream_law.specs.State.{Staging}
use Rattle.stream_law.specs.Seen.{fresh_numbers}
use Rattle.mbox_link.specs.Step.{staged_bytes, part_at}
use Rattle.fw_parts.specs.Staged.{staging_in, fits_behind}
use Rattle.fw_units.specs.declared.component.Component.{Component}
use Rattle.fw_units.specs.declared.component.Unit as units
use Rattle.fw_units.specs.declared.component.Unit.TheVariants.{Eq}
use Rattle.fw_units.specs.Units.{numbers_by}
use Rattle.fw_components.specs.Tables.{Tables, graph_of}
use Rattle.fw_components.specs.Changes.{is_there}
use Rattle.fw_units.specs.Frames.{piece_with_words, words_by}
use Rattle.fw_units.specs.Changes.{with_unit}

-- ---- parts of the blob in force

abbrev pub part_or : Option Part → Result Part ℤ
part_or None = Err (negsuc 21)
part_or (Some part) = Ok part

-- a part of a component's blob; -19 where the id names nothing, and -22 where there is no part of this number
abbrev pub part_got : Tables → ℕ → ℕ → Result Part ℤ
part_got t id index = if not (is_there t id) then Err (negsuc 18) else part_or (part_at (graph_of t) id index)

-- an error by its number
abbrev pub part_told : Result Part Errno → Result Part ℤ
part_told (Ok part) = Ok part
part_told (Err e) = Err e.0

-- ---- parts that are staged

abbrev pub staging_one : ℕ → units.Unit → Option Staging
staging_one id (Eq eq next remaining) = staging_in id (staged_of eq) next remaining
staging_one id unit = None

-- the bytes that are staged, with this part after them
abbrev pub joined_bytes : ℕ → units.Unit → Part → List ℕ
joined_bytes id unit part = staged_bytes (staging_one id unit) part

-- an equaliser takes such a part, and nothing else takes any
abbrev pub takes_part : ℕ → units.Unit → Part → Bool
takes_part id (Eq eq next remaining) part = fits_behind (staging_in id (staged_of eq) next remaining) part
takes_part id unit part = false

-- the last part puts the blob in force, and then nothing is staged; any other is staged, and the one after it is next
abbrev pub parted_unit : ℕ → Part → List ℤ → units.Unit → units.Unit
parted_unit id part words (Eq eq next remaining) =
    Eq (record { blob = if part.remaining == 0 then staged_bytes (staging_in id (staged_of eq) next remaining) part else eq.blob; piece = piece_with_words words eq.piece })
    (if part.remaining == 0 then 0 else part.index + 1)
    part.remaining
parted_unit id part words unit = unit

abbrev pub parted_by : Part → List ℤ → Component → Component
parted_by part words c = with_unit (parted_unit c.id part words) c

abbrev pub parted_at : ℕ → Part → List ℤ → Component → Component
parted_at id part words c = if c.id == id then parted_by part words c else c

-- the words of a component's piece
abbrev pub words_in : List Component → ℕ → List ℤ
words_in cs id = words_by (find (λ c. c.id == id) cs)

-- the tables once a part came, with the words of the component's piece after that
abbrev pub parted : ℕ → Part → List ℤ → Tables → Tables
parted id part words t = record { comps = map (parted_at id part words) t.comps; buffers = t.buffers; pipes = t.pipes; joins = t.joins }

-- the tables once a part is set; -19 where the id names nothing, and -22 where it does not take the part
abbrev pub part_set : Tables → ℕ → Part → List ℤ → Result Tables ℤ
part_set t id part words =
    if not (is_there t id) then Err (negsuc 18)
    else if option_map_or (λ c. takes_part c.id c.unit part) (find (λ c. c.id == id) t.comps) false then Ok (parted id part words t)
    else Err (negsuc 21)

-- ---- what words say after that

-- what is staged once these bytes came with a part
abbrev pub staging_after : ℕ → List ℕ → Part → Option Staging
staging_after id bytes part =
    if part.remaining == 0 then None
    else Some (record { eq = id; bytes = bytes; next = part.index + 1; remaining = part.remaining })

-- A unit once it took a part: all bytes that came are staged, or none with the last part. With that one an epoch begins, and any
-- other one leaves the numbers.
pub record IsParted (part : Part) (id : ℕ) (old new : units.Unit) : Type 0 where
  pub staged : staging_one id new ≡ staging_after id (joined_bytes id old part) part
  pub numbers : (channels : ℕ) → numbers_by new channels ≡ (if part.remaining == 0 then fresh_numbers (joined_bytes id old part) channels else numbers_by old channels)

abbrev pub IsPartedBy : Part → Option Component → Option Component → Type 0
IsPartedBy part (Some old) (Some new) = IsParted part old.id old.unit new.unit
IsPartedBy part old new = Unit {0}

-- a component takes the part, and these are its bytes then
abbrev pub IsTakenBy : Part → List ℕ → Option Component → Type 0
IsTakenBy part bytes None = Unit {0}
IsTakenBy part bytes (Some c) = (takes_part c.id c.unit part ≡ true) × (bytes ≡ joined_bytes c.id c.unit part)
