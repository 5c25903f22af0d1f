-- Reads of what a far side gives, one after another.
use Rattle.std.proofs.Common.{◌≡◌, ◌∙◌, sym, ap, subst, ℕ, ◌+◌, ◌<◌, ◌≤◌, List, [], ◌++◌, length, take, drop, Option, Result, Ok, Err, append_assoc, arith}
use Rattle.std.proofs.lemmas.List.{append-nil, take-append-drop, length-take-le}
use Rattle.std.specs.Prelude.{IfOk}
use Rattle.std.specs.Io.KnownBytes.{Consumes}
use Rattle.std.proofs.KnownBytes.{Consumes-nil, Consumes-trans}
use Rattle.ipc3_trace.specs.Kinds.{size_after}
use Rattle.ipc3_trace.proofs.HeadLaws.{size-front}
use Rattle.ipc3_far.specs.FarEnds.{ReadsOn, ReadsRecord}

module _ (from : ℕ) (before : List ℕ) (old : Option (List ℕ)) where
  -- nothing was read yet
  pub reads_none : ReadsOn from from before before old old
  reads_none = ([], sym (append-nil (take from before)), Consumes-nil old)

  -- and a piece more
  pub reads_more : (there next : ℕ) (piece mid after : List ℕ) (m new : Option (List ℕ)) → ReadsOn from there before mid old m → take next after ≡ take there mid ++ piece → Consumes m new piece → ReadsOn from next before after old new
  reads_more there next piece mid after m new (bytes, is, read) took more = (
    bytes ++ piece,
    took ∙ ap (λ xs. xs ++ piece) is ∙ append_assoc (take from before) bytes piece,
    Consumes-trans old m new bytes piece read more,
  )

module _ (before mid : List ℕ) (old m : Option (List ℕ)) where
  -- fewer bytes than kind and size have
  pub short_record : (there : ℕ) → there < 8 → there ≤ length mid → ReadsOn 0 there before mid old m → ReadsRecord (take there mid) old m
  short_record there few within (bytes, is, read) =
      (λ eight. absurd (omega (arith, eight, length-take-le there mid within, few)), subst (Consumes old m) (sym is) read)

  -- kind and size, and what follows them
  pub whole_record : (size there : ℕ) (after : List ℕ) (new : Option (List ℕ)) → 8 ≤ length mid → size ≡ size_after mid → there ≤ 8 + size → there ≤ length after → ReadsOn 0 8 before mid old m → ReadsOn 8 there mid after m new → ReadsRecord (take there after) old new
  whole_record size there after new long size_is within fits (head, head_is, first) (body, body_is, rest) =
      let eight : length (take 8 mid) ≡ 8 = length-take-le 8 mid long in
      let head_size : size_after (take 8 mid) ≡ size = sym (size-front (take 8 mid) (drop 8 mid) (omega (arith, eight))) ∙ ap size_after (take-append-drop 8 mid) ∙ sym size_is in
      let same : size_after (take there after) ≡ size = ap size_after body_is ∙ size-front (take 8 mid) body (omega (arith, eight)) ∙ head_size in (
        λ more. omega (arith, same, within, length-take-le there after fits),
        subst (Consumes old new) (sym (body_is ∙ ap (λ xs. xs ++ body) head_is)) (Consumes-trans old m new head body first rest),
      )

  -- or a read of what follows them failed
  pub whole_or : {F : Type 0} (size : ℕ) (after : List ℕ) (new : Option (List ℕ)) → 8 ≤ length mid → size ≡ size_after mid → 8 + size ≤ length after → ReadsOn 0 8 before mid old m
      → (result : Result ℕ F) → IfOk result (λ there. there ≤ 8 + size) → IfOk result (λ there. ReadsOn 8 there mid after m new) → IfOk result (λ there. ReadsRecord (take there after) old new)
  whole_or size after new long size_is fits first (Ok there) within read = whole_record size there after new long size_is within (omega (arith, within, fits)) first read
  whole_or size after new long size_is fits first (Err fault) within read = tt
