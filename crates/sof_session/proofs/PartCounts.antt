-- How many parts a blob has at most.
use Rattle.std.proofs.Common.{◌≡◌, ℕ, ◌≤◌, true, List, [], ◌∷◌, length, arith}
use Rattle.std.proofs.lemmas.List.FromFn.{length-range_with_len}
use Rattle.sof_base.specs.BlobFaults.{is_blob}
use Rattle.mbox_link.specs.BlobParts.{parts, part_numbers}
use Rattle.tplg_plan.specs.Ranges.{is_initial}
use Rattle.host_widgets.proofs.PartFacts.{few-parts}

pub few-numbers : (blob : List ℕ) → is_blob blob ≡ true → length (part_numbers blob) ≤ 4
few-numbers blob is = omega (arith, length-range_with_len 0 (parts blob), (few-parts blob is).1)

-- and where there may be none
pub few-kept : (blob : List ℕ) → is_initial blob ≡ true → length (part_numbers blob) ≤ 4
few-kept [] is = omega arith
few-kept (b ∷ bs) is = few-numbers (b ∷ bs) is
