use Rattle.std.proofs.Common.{◌≡◌, ◌<◌, ◌≤◌, ℕ, ◌+◌, ◌-◌, ◌*◌, true, List, length, take, drop, min, Some, None, refl, sym, ap, ◌∙◌, arith, rules}
use Rattle.std.specs.Prelude.{nat_le, if◌then◌else◌}
use Rattle.std.proofs.lemmas.Bool.{le-leb}
use Rattle.std.proofs.lemmas.List.{length-drop, length-take, drop-drop, take_min}
use Rattle.sof_base.specs.BlobFaults.{is_blob}
use Rattle.mbox_link.specs.BlobParts.{payload, parts}
use Rattle.host_widgets.proofs.PartFacts.{blob-long, begins}
use Rattle.host_widgets.proofs.parts.part.Goals as goal
use Rattle.host_widgets.proofs.parts.part.Goals.{in-Some, in-None}

-- it begins inside the blob, which is short
inside : (blob : List ℕ) → is_blob blob ≡ true → (k : ℕ) → k < parts blob → (32 + 260 * k < length blob) × (length blob ≤ 1024)
inside blob is k low = let b = begins blob is k low in let d = length-drop 32 blob in (omega (arith, b, d), (blob-long blob is).1)

-- what is after it is all that is left
behind : (blob : List ℕ) (k rest : ℕ) → rest ≡ length blob - (32 + 260 * k) → rest - min rest 260 ≡ length (payload blob) - 260 * (k + 1)
behind blob k rest is = let d = length-drop 32 blob in omega (arith, is, d)

-- its bytes
cut : (blob : List ℕ) (k rest : ℕ) → rest ≡ length blob - (32 + 260 * k) → take (min rest 260) (drop (32 + 260 * k) blob) ≡ take 260 (drop (260 * k) (payload blob))
cut blob k rest is =
    let tail : List ℕ = drop (32 + 260 * k) blob in
    let long = length-drop (32 + 260 * k) blob in
    ap (λ (n : ℕ). take n tail) (let same : min rest 260 ≡ min 260 (length tail) = omega (arith, is, long) in same)
    ∙ take_min 260 tail ∙ ap (take 260) (sym (drop-drop (260 * k) 32 blob))

-- at most 260 bytes are in a part
bounded : (bytes items : List ℕ) → length items ≤ 260 → Some bytes ≡ (if nat_le (length items) 260 then Some items else None) → bytes ≡ items
bounded bytes items short is = cc (is ∙ ap (λ b. if b then Some items else None) (le-leb (length items) 260 short))

fitted : (items : List ℕ) → length items ≤ 260 → None ≡ (if nat_le (length items) 260 then Some items else None) → ⊥
fitted items short is = absurd (cc (is ∙ ap (λ b. if b then Some items else None) (le-leb (length items) 260 short)))

pub overflow_sub-rest : goal.overflow_sub-rest
overflow_sub-rest c = let i = inside c.args.blob.now c.requires.blob c.args.index c.requires.there in omega (arith, i.0)

pub slice_bounds-new-end : goal.slice_bounds-new-end
slice_bounds-new-end c =
    let i = inside c.args.blob.now c.requires.blob c.args.index c.requires.there in
    let room : 32 + 260 * c.args.index + c.min-count.result ≤ length c.args.blob.now = omega (arith, i.0, c.min-count.ensures) in
    search rules

pub bytes_at-requires : goal.bytes_at-requires
bytes_at-requires c = let l = (blob-long c.args.blob.now c.requires.blob).0 in (omega arith, omega (arith, l))

pub overflow_cast-result : goal.overflow_cast-result
overflow_cast-result c = let i = inside c.args.blob.now c.requires.blob c.args.index c.requires.there in omega (arith, i.1)

pub returns : goal.returns
returns c =
    let blob = c.args.blob.now in
    let k = c.args.index in
    let rest : ℕ = length blob - (32 + 260 * k) in
    let count : c.min-count.result ≡ min rest 260 = c.min-count.ensures in
    let span : 32 + 260 * k + c.min-count.result - (32 + 260 * k) ≡ min rest 260 = omega (arith, count) in
    let items : List ℕ = take (32 + 260 * k + c.min-count.result - (32 + 260 * k)) (drop (32 + 260 * k) blob) in
    let short : length items ≤ 260 = let l = length-take (32 + 260 * k + c.min-count.result - (32 + 260 * k)) (drop (32 + 260 * k) blob) in omega (arith, l, span) in
    let bytes : c.match-new.bytes ≡ take 260 (drop (260 * k) (payload blob)) =
    elim c.match-new.branch [
      | in-Some w ↦ w.bytes-is ∙ bounded w.in-Some.bytes items short w.in-Some.ensures ∙ ap (λ (n : ℕ). take n (drop (32 + 260 * k) blob)) span ∙ cut blob k rest refl
      | in-None w ↦ absurd (fitted items short w.in-None.ensures)
    ] in
    let remaining : rest - c.min-count.result ≡ length (payload blob) - 260 * (k + 1) = ap (λ (n : ℕ). rest - n) count ∙ behind blob k rest refl in
    λ i. record { header = c.bytes_at.ensures i; remaining = remaining i; index = k; bytes = bytes i }
