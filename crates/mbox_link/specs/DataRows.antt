-- The rows of SET_DATA and GET_DATA: a blob comes in parts, each with the header and at most 260 bytes of those after it.
use Rattle.std.specs.Prelude.{ℕ, ◌+◌, ◌&&◌, ◌||◌, Bool, false, not, List, [], ◌++◌, map, length, take, filter, Option, Some, None, Result, Ok, Err, ℤ, find, nat_le, nat_lt, is_some, option_and_then, ◌==◌, if◌then◌else◌}
use Rattle.std.specs.Option.{option_map_or}
use Rattle.std.specs.Str.{bytes_eq}
use Rattle.sof_base.specs.declared.part.Part.{Part}
use Rattle.sof_base.specs.BlobFaults.{is_blob}
use Rattle.stream_law.specs.declared.graph.Kind.{Kind}
use Rattle.stream_law.specs.declared.graph.Kind.TheVariants.{Eq}
use Rattle.stream_law.specs.declared.graph.Setting.{Setting}
use Rattle.stream_law.specs.declared.graph.Setting.TheVariants.{Blob}
use Rattle.stream_law.specs.declared.graph.Graph.{Graph}
use Rattle.stream_law.specs.State.{FwState, Staging, View}
use Rattle.stream_law.specs.Ways.{comp_of}
use Rattle.stream_law.specs.Placed.{placed}
use Rattle.stream_law.specs.Seen.{seen, is_equaliser}
use Rattle.mbox_link.specs.BlobParts.{parts, blob_part}
use Rattle.mbox_link.specs.ErrorNumbers.{no_device, invalid}
use Rattle.mbox_link.specs.NamedIds.{is_used, kind_at, has_kind}
use Rattle.mbox_link.specs.NewRows.{with_comps}
use Rattle.mbox_link.specs.ValueRows.{with_setting}

-- what is staged at an equaliser
abbrev pub staging_at : FwState → ℕ → Option Staging
staging_at f id = find (λ s. s.eq == id) f.staging

-- how many bytes come with a part and after it
abbrev pub bytes_left : Part → ℕ
bytes_left part = length part.bytes + part.remaining

-- a part is the next one of what is staged: its number, its header, and what remains
abbrev pub is_next : Part → Staging → Bool
is_next part s = part.index == s.next && bytes_eq part.header (take 32 s.bytes) && bytes_left part == s.remaining

-- part 0 begins anew, with at most 992 bytes in all, and any other part is the next one; all but the last carry 260 bytes
abbrev pub keeps_order : Option Staging → Part → Bool
keeps_order staged part =
    (if part.index == 0 then nat_le (bytes_left part) 992 else option_map_or (is_next part) staged false)
    && (part.remaining == 0 || length part.bytes == 260)

-- what is staged once a part has come: part 0 begins with its header, and any other is joined to those before it
abbrev pub staged_bytes : Option Staging → Part → List ℕ
staged_bytes staged part =
    if part.index == 0 then part.header ++ part.bytes else option_map_or (λ s. s.bytes) staged [] ++ part.bytes

abbrev pub unstaged : ℕ → List Staging → List Staging
unstaged id staging = filter (λ s. not (s.eq == id)) staging

-- bytes are staged, and more are to come
abbrev pub with_staged : ℕ → List ℕ → Part → FwState → FwState
with_staged id bytes part f = record f {
  staging = placed (λ s. s.eq) (record { eq = id; bytes = bytes; next = part.index + 1; remaining = part.remaining }) (unstaged id f.staging);
}

-- a blob is in force, an epoch begins with it, and nothing is staged
abbrev pub with_blob_at : FwState → ℕ → List ℕ → View
with_blob_at f id bytes = record { graph = with_comps (map (with_setting id (Blob bytes)) f.graph.comps) f.graph; streams = f.streams }

abbrev pub blob_installed : ℕ → List ℕ → FwState → FwState
blob_installed id bytes f = record (seen (with_blob_at f id bytes) (Some id) f) { staging = unstaged id f.staging }

-- a part is staged with those before it; with the last one they have to be a blob
abbrev pub part_staged : FwState → ℕ → List ℕ → Part → Result FwState ℤ
part_staged f id bytes part =
    if not (part.remaining == 0) then Ok (with_staged id bytes part f)
    else if not (is_blob bytes) then Err invalid
    else Ok (blob_installed id bytes f)

abbrev pub set_data : FwState → ℕ → Part → Result FwState ℤ
set_data f id part =
    if not (is_used f.graph id) then Err no_device
    else if not (has_kind is_equaliser (kind_at f.graph id)) || not (keeps_order (staging_at f id) part) then Err invalid
    else part_staged f id (staged_bytes (staging_at f id) part) part

-- the part of this number of the blob in force
abbrev pub part_by : Kind → Setting → ℕ → Option Part
part_by Eq (Blob blob) index = if nat_lt index (parts blob) then Some (blob_part blob index) else None
part_by kind setting index = None

abbrev pub part_at : Graph → ℕ → ℕ → Option Part
part_at g id index = option_and_then (λ c. part_by c.kind c.setting index) (comp_of g id)

-- the state stays, and the reply carries the part
abbrev pub get_data : FwState → ℕ → ℕ → Result FwState ℤ
get_data f id index =
    if not (is_used f.graph id) then Err no_device
    else if not (is_some (part_at f.graph id index)) then Err invalid
    else Ok f
