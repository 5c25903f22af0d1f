-- The parts of a blob: how many there are, what each carries, and what the first of them make.
use Rattle.std.proofs.Common.{◌≡◌, refl, sym, ap, ◌∙◌, ℕ, ◌+◌, ◌-◌, ◌*◌, ◌<◌, ◌≤◌, Bool, true, false, ◌==◌, List, [], ◌++◌, length, take, drop, Option, Some, None, arith, append_assoc, take-append-drop}
use Rattle.std.specs.Prelude.{is_none}
use Rattle.std.proofs.lemmas.Bool.{eq-eqb, ne_eqb, leb-true, leb-false}
use Rattle.std.proofs.lemmas.List.{length-drop, length-take-le, take_all}
use Rattle.std.proofs.Math.Seq.{take-add, take-append-le}
use Rattle.sof_base.specs.BlobFaults.{BlobFault, blob_fault, is_blob}
use Rattle.sof_base.proofs.BlobTests.{tested-sound}
use Rattle.mbox_link.specs.BlobParts.{payload, blob_part, is_last, parts}
use Rattle.mbox_link.specs.Step.{bytes_left}

pub none-told : (fault : Option BlobFault) → is_none fault ≡ true → fault ≡ None
none-told None is = refl
none-told (Some f) is = absurd (cc is)

-- a blob has 60 to 1024 bytes
pub blob-long : (blob : List ℕ) → is_blob blob ≡ true → (60 ≤ length blob) × (length blob ≤ 1024)
blob-long blob is = (tested-sound blob (none-told (blob_fault blob) is)).long

-- the header, and the bytes of the first k parts
abbrev pub front : List ℕ → ℕ → List ℕ
front blob k = take 32 blob ++ take (260 * k) (payload blob)

module _ (blob : List ℕ) (is : is_blob blob ≡ true) where
  pub payload-long : (28 ≤ length (payload blob)) × (length (payload blob) ≤ 992)
  payload-long = let l = blob-long blob is in let d = length-drop 32 blob in (omega (arith, l.0, d), omega (arith, l.1, d))

  pub header-long : length (take 32 blob) ≡ 32
  header-long = length-take-le 32 blob (let l = (blob-long blob is).0 in omega (arith, l))

  pub few-parts : (1 ≤ parts blob) × (parts blob ≤ 4)
  few-parts = let p = payload-long in (omega (arith, p.0), omega (arith, p.1))

  -- ---- what the first of them make

  pub front-header : (k : ℕ) → take 32 (front blob k) ≡ take 32 blob
  front-header k =
      take-append-le 32 (take 32 blob) (take (260 * k) (payload blob)) (let h = header-long in omega (arith, h))
      ∙ take_all 32 (take 32 blob) (let h = header-long in omega (arith, h))

  pub front-all : (k : ℕ) → length (payload blob) ≤ 260 * k → front blob k ≡ blob
  front-all k long = ap (λ (xs : List ℕ). take 32 blob ++ xs) (take_all (260 * k) (payload blob) long) ∙ take-append-drop 32 blob

  -- ---- one part

  module _ (k : ℕ) (low : k < parts blob) where
    abbrev rest : List ℕ
    rest = drop (260 * k) (payload blob)

    pub begins : 260 * k < length (payload blob)
    begins = omega (arith, low)

    pub rest-long : length rest ≡ length (payload blob) - 260 * k
    rest-long = length-drop (260 * k) (payload blob)

    pub front-more : front blob k ++ (blob_part blob k).bytes ≡ front blob (k + 1)
    front-more =
        append_assoc (take 32 blob) (take (260 * k) (payload blob)) (take 260 rest)
        ∙ ap (λ (xs : List ℕ). take 32 blob ++ xs) (sym (take-add (260 * k) 260 (payload blob)) ∙ ap (λ (n : ℕ). take n (payload blob)) (let e : 260 * k + 260 ≡ 260 * (k + 1) = omega arith in e))

    -- one that is not the last is full
    pub full-part : length (payload blob) ≤ 260 * (k + 1) → length (blob_part blob k).bytes ≡ length (payload blob) - 260 * k
    full-part ends = ap (λ (xs : List ℕ). length xs) (take_all 260 rest (let r = rest-long in omega (arith, r, ends))) ∙ rest-long

    pub whole-part : 260 * (k + 1) < length (payload blob) → length (blob_part blob k).bytes ≡ 260
    whole-part more = length-take-le 260 rest (let r = rest-long in omega (arith, r, more))

    -- with it and after it come all that its predecessors left
    pub part-left : bytes_left (blob_part blob k) ≡ length (payload blob) - 260 * k
    part-left = by (is_last blob k) refl
      where
        by : (b : Bool) → is_last blob k ≡ b → bytes_left (blob_part blob k) ≡ length (payload blob) - 260 * k
        by true e = let ends = leb-true (length (payload blob)) (260 * (k + 1)) e in let f = full-part ends in omega (arith, f, ends)
        by false e = let more = leb-false (length (payload blob)) (260 * (k + 1)) e in let w = whole-part more in omega (arith, w, more)

    pub part-some : (1 ≤ length (blob_part blob k).bytes) × (length (blob_part blob k).bytes ≤ 260)
    part-some = by (is_last blob k) refl
      where
        by : (b : Bool) → is_last blob k ≡ b → (1 ≤ length (blob_part blob k).bytes) × (length (blob_part blob k).bytes ≤ 260)
        by true e = let ends = leb-true (length (payload blob)) (260 * (k + 1)) e in let f = full-part ends in let b = begins in (omega (arith, f, b), omega (arith, f, ends))
        by false e = let more = leb-false (length (payload blob)) (260 * (k + 1)) e in let w = whole-part more in (omega (arith, w), omega (arith, w))

    -- nothing remains exactly after the last
    pub none-left : ((blob_part blob k).remaining == 0) ≡ is_last blob k
    none-left = by (is_last blob k) refl
      where
        by : (b : Bool) → is_last blob k ≡ b → ((blob_part blob k).remaining == 0) ≡ b
        by true e = let ends = leb-true (length (payload blob)) (260 * (k + 1)) e in eq-eqb (blob_part blob k).remaining 0 (let z : (blob_part blob k).remaining ≡ 0 = omega (arith, ends) in z)
        by false e = let more = leb-false (length (payload blob)) (260 * (k + 1)) e in ne_eqb (blob_part blob k).remaining 0 (λ z. let zero_is : length (payload blob) - 260 * (k + 1) ≡ 0 = z in omega (arith, more, zero_is))

    pub last-front : is_last blob k ≡ true → front blob (k + 1) ≡ blob
    last-front e = front-all (k + 1) (leb-true (length (payload blob)) (260 * (k + 1)) e)

    pub more-behind : is_last blob k ≡ false → (k + 1 < parts blob) × (length (blob_part blob k).bytes ≡ 260)
    more-behind e = let more = leb-false (length (payload blob)) (260 * (k + 1)) e in (omega (arith, more), whole-part more)

    pub none-behind : is_last blob k ≡ true → k + 1 ≡ parts blob
    none-behind e = let ends = leb-true (length (payload blob)) (260 * (k + 1)) e in let b = begins in omega (arith, ends, b)

-- no bytes are no blob
pub none-empty : is_blob [] ≡ true → ⊥
none-empty is = let l = (blob-long [] is).0 in omega (arith, l)
