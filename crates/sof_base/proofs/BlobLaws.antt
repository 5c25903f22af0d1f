-- Bytes are a blob exactly where no test of a blob fails.
use Rattle.std.proofs.Common.{◌≡◌, ℕ, List}
use Rattle.std.specs.Prelude.{None}
use Rattle.sof_base.specs.BlobParts.{IsBlob}
use Rattle.sof_base.specs.BlobFaults.{blob_fault}
use Rattle.sof_base.proofs.FieldLaws.{IsBytes}
use Rattle.sof_base.proofs.BlobTests.{IsSound, tested-sound, sound-tested}
use Rattle.sof_base.proofs.BlobRead.{blob-sound}
use Rattle.sof_base.proofs.BlobSpelt.{sound-blob}

-- what a walk over a blob finds, from its form
pub sound : (b : List ℕ) → IsBlob b → IsSound b
sound b is = blob-sound b is

pub no_fault-from_blob : (b : List ℕ) → IsBlob b → blob_fault b ≡ None
no_fault-from_blob b is = sound-tested b (blob-sound b is)

pub blob-from_no_fault : (b : List ℕ) → IsBytes b → blob_fault b ≡ None → IsBlob b
blob-from_no_fault b bytes none = sound-blob b bytes (tested-sound b none)
