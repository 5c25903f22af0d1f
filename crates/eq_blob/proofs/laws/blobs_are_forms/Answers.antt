use Rattle.sof_base.proofs.BlobLaws.{no_fault-from_blob, blob-from_no_fault}
use Rattle.eq_blob.proofs.laws.blobs_are_forms.Goals as goal

pub returns : goal.returns
returns c = λ b bytes. (λ none. blob-from_no_fault b bytes none, λ is. no_fault-from_blob b is)
