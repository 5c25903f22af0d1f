-- What is staged while a blob comes in parts.
use Rattle.std.specs.Prelude.{◌≡◌, ℕ, ◌+◌, ◌*◌, ◌≤◌, List, take, length, Bool, false, ◌==◌, ◌&&◌, ◌||◌, not, Option, Some, None, if◌then◌else◌}
use Rattle.sof_base.specs.declared.part.Part.{Part}
use Rattle.sof_base.specs.BlobParts.{IsBlob}
use Rattle.sof_base.specs.BlobFaults.{is_blob}
use Rattle.stream_law.specs.State.{Staging}
use Rattle.mbox_link.specs.Step.{keeps_order, staged_bytes}

-- what is staged under an id while more of the blob is to come: the header, and 260 bytes of each part
abbrev pub staging_in : ℕ → List ℕ → ℕ → ℕ → Option Staging
staging_in id staged next remaining =
    if remaining == 0 then None
    else Some (record { eq = id; bytes = take (32 + 260 * next) staged; next = next; remaining = remaining })

-- a part is the next one, and with the last one the bytes are a blob
abbrev pub fits_behind : Option Staging → Part → Bool
fits_behind staged part = keeps_order staged part && (not (part.remaining == 0) || is_blob (staged_bytes staged part))

-- bytes with all parts up to this one: a blob with the last part, and else as many as its number says, with room for what remains
pub record CanBeStaged (part : Part) (bytes : List ℕ) : Type 0 where
  pub few : length bytes ≤ 1024
  pub blob : part.remaining ≡ 0 → IsBlob bytes
  pub count : (part.remaining == 0) ≡ false → length bytes ≡ 292 + 260 * part.index
  pub within : (part.remaining == 0) ≡ false → 260 * (part.index + 1) + part.remaining ≤ 992
