-- What filling bytes by reads makes of them.
use Rattle.std.proofs.Common.{◌≡◌, inl, inr, refl, sym, ◌∙◌, ap, subst, ℕ, ◌+◌, ◌-◌, ◌<◌, ◌≤◌, List, [], ◌∷◌, ◌++◌, length, take, drop, Option, Some, None, Result, Ok, Err, append_assoc, arith}
use Rattle.std.proofs.lemmas.Grind.{flat_map-append}
use Rattle.std.proofs.lemmas.List.{append-nil, take-append-drop, length-take-le}
use Rattle.std.specs.Prelude.{IfOk, MatchResult}
use Rattle.sof_desk.specs.Desk.{DeskMeaning, DeskCall, Read, WasRead, DeskLed}
use Rattle.ipc3_trace.specs.Kinds.{size_after}
use Rattle.ipc3_trace.proofs.HeadLaws.{size-front}
use Rattle.run_serve.specs.Reads.{requests_slot, Brings, joined_pieces, WasBrought, WasUnread, SameSlots, fills, FillsTo, FillsUpTo, Filled}
use Rattle.run_serve.proofs.CallParts.{desk-append}
use Rattle.run_serve.proofs.RecordReads.{head-ends, head-fails, head-then, head-then-more}

-- no more is there
pub within-more : {F : Type 0} (r : Result ℕ F) (m n : ℕ) → IfOk r (λ there. there ≤ m) → m ≤ n → IfOk r (λ there. there ≤ n)
within-more (Ok there) m n less more = omega (arith, less, more)
within-more (Err fault) m n less more = tt

module _ {D : Type 0} (means : DeskMeaning D) where
  -- no read leaves a slot other than it was
  pub same-then : (d m e : D) → SameSlots means d m → SameSlots means m e → SameSlots means d e
  same-then d m e first rest = record { created = λ slot. rest.created slot ∙ first.created slot; opened = λ slot. rest.opened slot ∙ first.opened slot }

  pub same-read : (slot size : ℕ) (got : Option (List ℕ)) (d e : D) → WasRead means slot size got d e → SameSlots means d e
  same-read slot size got d e read = record { created = read.created; opened = read.opened }

  -- what is left to fill, filled, makes all filled
  abbrev pub LeftToFill : (F : Type 0) → ℕ → ℕ → List ℕ → D → ℕ → List ℕ → D → Type 0
  LeftToFill F from to before old there bytes d = (result : Result ℕ F) (after : List ℕ) (e : D) → Filled {F = F} means there to bytes result after d e → Filled {F = F} means from to before result after old e

  -- ---- one read more

  -- what is filled after a read is filled with it
  pub fill-more : {F : Type 0} (there to n size : ℕ) (piece before mid after : List ℕ) (result : Result ℕ F) (d m e : D) → there < to → 0 < length piece → length piece ≤ to - there → n ≡ there + length piece → take n mid ≡ take there before ++ piece → WasRead means requests_slot size (Some piece) d m → size ≡ to - there →
      Filled means n to mid result after m e → Filled means there to before result after d e
  fill-more there to n size piece before mid after (Ok end) d m e less some fits n_is took read asks (pieces, filled, bytes, led) = (
    piece ∷ pieces,
    (less, inr (some, fits, subst (λ k. FillsTo k to pieces end) n_is filled)),
    bytes ∙ ap (λ xs. xs ++ joined_pieces pieces) took ∙ append_assoc (take there before) piece (joined_pieces pieces),
    (m, subst (λ k. WasRead means requests_slot k (Some piece) d m) asks read, subst (λ k. DeskLed means m (fills k to pieces) e) n_is led),
  )
  fill-more there to n size piece before mid after (Err fault) d m e less some fits n_is took read asks (pieces, end, filled, bytes, led) = (
    piece ∷ pieces,
    end,
    (some, fits, subst (λ k. FillsUpTo k to pieces end) n_is filled),
    bytes ∙ ap (λ xs. xs ++ joined_pieces pieces) took ∙ append_assoc (take there before) piece (joined_pieces pieces),
    (m, subst (λ k. WasRead means requests_slot k (Some piece) d m) asks read, subst (λ k. DeskLed means m (fills k to pieces ++ (Read requests_slot (to - end) None ∷ [])) e) n_is led),
  )

  -- all is there
  pub fill-whole : (F : Type 0) (there to : ℕ) (bytes : List ℕ) (d : D) → there ≡ to → Filled {F = F} means there to bytes (Ok there) bytes d d
  fill-whole F there to bytes d is = ([], (is, is), sym (append-nil (take there bytes)), refl)

  -- the file ends
  pub fill-ended : (F : Type 0) (there to size : ℕ) (piece before after : List ℕ) (d e : D) → there < to → piece ≡ [] → take there after ≡ take there before → WasRead means requests_slot size (Some piece) d e → size ≡ to - there → Filled {F = F} means there to before (Ok there) after d e
  fill-ended F there to size piece before after d e less none same read asks = (
    piece ∷ [],
    (less, inl (none, refl, refl)),
    same ∙ sym (append-nil (take there before)) ∙ ap (λ xs. take there before ++ (xs ++ [])) (sym none),
    (e, subst (λ k. WasRead means requests_slot k (Some piece) d e) asks read, refl),
  )

  -- ---- a record

  module _ (F : Type 0) (before : List ℕ) (d : D) where
    -- fewer bytes than kind and size have
    pub brought-short : (there : ℕ) (after : List ℕ) (e : D) → there < 8 → Filled {F = F} means 0 8 before (Ok there) after d e → WasBrought means (take there after) d e
    brought-short there after e few (pieces, filled, bytes, led) =
        let f = head-ends pieces [] 0 there refl few filled in
        (pieces, subst (Brings [] pieces) (sym bytes) f.brings, subst (λ cs. DeskLed means d cs e) (sym f.reads) led)

    pub unread-head : (fault : F) (after : List ℕ) (e : D) → Filled means 0 8 before (Err fault) after d e → WasUnread means d e
    unread-head fault after e (pieces, there, filled, bytes, led) =
        let f = head-fails pieces [] 0 there refl (omega arith) filled in (
          pieces,
          f.brings,
          subst (λ cs. DeskLed means d cs e) (λ i. sym f.reads i ++ (Read requests_slot (sym f.asks i) None ∷ [])) led,
        )

    module _ (size : ℕ) (mid : List ℕ) (m : D) (long : 8 ≤ length mid) (size_is : size ≡ size_after mid) where
      -- kind and size as they stand in what was filled
      head-size : (first : List (List ℕ)) → take 8 mid ≡ joined_pieces first → 8 + size ≡ 8 + size_after (joined_pieces first)
      head-size first bytes =
          let eight : 8 ≤ length (take 8 mid) = omega (arith, length-take-le 8 mid long) in
          ap (λ n. 8 + n)
          (size_is ∙ ap size_after (sym (take-append-drop 8 mid)) ∙ size-front (take 8 mid) (drop 8 mid) eight ∙ ap size_after bytes)

      pub brought-whole : (there : ℕ) (after : List ℕ) (e : D) → Filled {F = F} means 0 8 before (Ok 8) mid d m → Filled {F = F} means 8 (8 + size) mid (Ok there) after m e → WasBrought means (take there after) d e
      brought-whole there after e (first, filled, bytes, led) (rest, more, all, later) =
          let h = head-then first rest [] 0 (8 + size) there refl filled (head-size first bytes) more in
          let all_is : take there after ≡ joined_pieces (first ++ rest) =
          all ∙ ap (λ xs. xs ++ joined_pieces rest) bytes ∙ sym (flat_map-append (λ piece. piece) first rest) in (
            first ++ rest,
            subst (Brings [] (first ++ rest)) (sym all_is) h.brings,
            subst (λ cs. DeskLed means d cs e) (sym h.reads) (desk-append means (fills 0 8 first) (fills 8 (8 + size) rest) d m e led later),
          )

      pub unread-body : (fault : F) (after : List ℕ) (e : D) → Filled {F = F} means 0 8 before (Ok 8) mid d m → Filled means 8 (8 + size) mid (Err fault) after m e → WasUnread means d e
      unread-body fault after e (first, filled, bytes, led) (rest, there, more, all, later) =
          let h = head-then-more first rest [] 0 (8 + size) there refl filled (head-size first bytes) more in
          let last : List DeskCall = Read requests_slot (8 + size - there) None ∷ [] in (
            first ++ rest,
            h.brings,
            subst (λ cs. DeskLed means d cs e) (sym (append_assoc (fills 0 8 first) (fills 8 (8 + size) rest) last) ∙ (λ i. sym h.reads i ++ (Read requests_slot (sym h.asks i) None ∷ [])))
                (desk-append means (fills 0 8 first) (fills 8 (8 + size) rest ++ last) d m e led later),
          )

      pub brought-or : (after : List ℕ) (e : D) (r : Result ℕ F) → Filled {F = F} means 0 8 before (Ok 8) mid d m → Filled {F = F} means 8 (8 + size) mid r after m e → MatchResult r (λ there. WasBrought means (take there after) d e) (λ fault. WasUnread means d e)
      brought-or after e (Ok there) first rest = brought-whole there after e first rest
      brought-or after e (Err fault) first rest = unread-body fault after e first rest
