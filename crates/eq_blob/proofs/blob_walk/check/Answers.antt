use Rattle.std.proofs.Common.{◌≡◌, ◌∙◌, refl, sym, arith, None}
use Rattle.std.specs.Prelude.{Result, Ok, Err, IsOk}
use Rattle.sof_base.proofs.BlobLaws.{no_fault-from_blob, blob-from_no_fault}
use Rattle.eq_blob.specs.declared.fault.EqFault.{EqFault}
use Rattle.eq_blob.specs.Faults.{told}
use Rattle.eq_blob.proofs.blob_walk.check.Goals as goal

ok-told : {A : Type 0} (r : Result A EqFault) → IsOk r → told r ≡ None
ok-told (Ok x) is = refl
ok-told (Err f) is = absurd cc

told-ok : {A : Type 0} (r : Result A EqFault) → told r ≡ None → IsOk r
told-ok (Ok x) none = refl
told-ok (Err f) none = absurd cc

pub returns-clause-blob : goal.returns-clause-blob
returns-clause-blob c =
    let b = c.args.blob.now in (
      λ ok. blob-from_no_fault b (λ i. omega (arith, c.type_inv.blob i)) (sym c.walk.ensures ∙ ok-told c.walk.result ok),
      λ is. told-ok c.walk.result (c.walk.ensures ∙ no_fault-from_blob b is),
    )
