-- The bytes of a blob's parts, one after another, make the blob.
use Rattle.std.proofs.Common.{◌≡◌, refl, sym, ap, ◌∙◌, ℕ, zero, suc, ◌+◌, ◌*◌, ◌<◌, ◌≤◌, true, List, [], ◌∷◌, ◌++◌, length, take, arith}
use Rattle.std.proofs.lemmas.List.{length-append, length-take}
use Rattle.sof_base.specs.declared.part.Part.{Part}
use Rattle.sof_base.specs.BlobFaults.{is_blob}
use Rattle.mbox_link.specs.BlobParts.{payload, blob_part, parts}
use Rattle.tplg_plan.specs.Ranges.{is_initial}
use Rattle.host_widgets.proofs.PartFacts.{few-parts, front, front-all, front-more, header-long, payload-long}
use Rattle.host_ctl.specs.ControlAnswers.{with_part}

-- what the first k parts make
abbrev pub first_bytes : List ℕ → ℕ → List ℕ
first_bytes blob zero = []
first_bytes blob (suc k) = front blob (suc k)

bytes-front : (blob : List ℕ) (k : ℕ) → 1 ≤ k → first_bytes blob k ≡ front blob k
bytes-front blob zero some = absurd (omega (arith, some))
bytes-front blob (suc k) some = refl

behind : (bytes : List ℕ) (part : Part) → 1 ≤ length bytes → with_part bytes part ≡ bytes ++ part.bytes
behind [] part some = absurd (omega (arith, some))
behind (b ∷ bytes) part some = refl

pub of-blob : (blob : List ℕ) (k : ℕ) → k < parts blob → is_initial blob ≡ true → is_blob blob ≡ true
of-blob [] k low is = absurd (let none : parts [] ≡ 0 = refl in omega (arith, low, none))
of-blob (b ∷ blob) k low is = is

front-long : (blob : List ℕ) → is_blob blob ≡ true → (k : ℕ) → (32 ≤ length (front blob k)) × (length (front blob k) ≤ 1024)
front-long blob is k =
    let all = length-append (take 32 blob) (take (260 * k) (payload blob)) in
    let h = header-long blob is in
    let t = length-take (260 * k) (payload blob) in
    let p = (payload-long blob is).1 in
    (omega (arith, all, h), omega (arith, all, h, t, p))

pub bytes-fit : (blob : List ℕ) (k : ℕ) → k < parts blob → is_initial blob ≡ true → length (first_bytes blob (k + 1)) ≤ 1024
bytes-fit blob k low is =
    let l = (front-long blob (of-blob blob k low is) (k + 1)).1 in
    let e = ap (λ (xs : List ℕ). length xs) (bytes-front blob (k + 1) (omega arith)) in
    omega (arith, l, e)

pub bytes-more : (blob : List ℕ) (k : ℕ) → k < parts blob → is_initial blob ≡ true → with_part (first_bytes blob k) (blob_part blob k) ≡ first_bytes blob (k + 1)
bytes-more blob zero low is = refl
bytes-more blob (suc k) low is =
    let b = of-blob blob (suc k) low is in
    behind (front blob (suc k)) (blob_part blob (suc k)) (let l = (front-long blob b (suc k)).0 in omega (arith, l))
    ∙ front-more blob b (suc k) low ∙ sym (bytes-front blob (suc k + 1) (omega arith))

pub bytes-all : (blob : List ℕ) → is_initial blob ≡ true → first_bytes blob (parts blob) ≡ blob
bytes-all [] is = refl
bytes-all (b ∷ blob) is =
    bytes-front (b ∷ blob) (parts (b ∷ blob)) (few-parts (b ∷ blob) is).0
    ∙ front-all (b ∷ blob) is (parts (b ∷ blob)) (omega arith)
