-- Reading items one after the other, as a loop does.
use Rattle.std.proofs.Common.{◌≡◌, ℕ, suc, ◌+◌, ◌≤◌, List, [], ◌∷◌, ◌++◌, drop, length, Result, Ok, Err, refl, sym, ap, ◌∙◌, append_assoc, add-zero, zero-add, arith}
use Rattle.std.proofs.lemmas.List.{append-nil, drop-drop}
use Rattle.tplg_model.specs.declared.fault.TplgFault.{TplgFault}
use Rattle.tplg_model.specs.Outcomes.{◌>>=◌, Fails}
use Rattle.tplg_model.specs.Reading.{items_at}
use Rattle.tplg_model.proofs.FaultLaws.{fails_along}

module _ {A : Type 0} (step : ℕ → List ℕ → Result (A × ℕ) TplgFault) where
  -- what was read before, and what is still read
  abbrev pub with_front : List A → ℕ → Result (List A × ℕ) TplgFault → Result (List A × ℕ) TplgFault
  with_front front used read = read >>= λ x. Ok (front ++ x.0, used + x.1)

  -- the loop so far: items are read, used bytes of the front, and n are still to be read
  pub record SoFar (n at : ℕ) (bytes : List ℕ) (items : List A) (used : ℕ) (total : Result (List A × ℕ) TplgFault) : Type 0 where
    pub within : used ≤ length bytes
    pub whole : with_front items used (items_at step n (at + used) (drop used bytes)) ≡ total

  regroup : (front : List A) (used : ℕ) (x : A) (size : ℕ) (read : Result (List A × ℕ) TplgFault) → with_front front used (read >>= λ xs. Ok (x ∷ xs.0, size + xs.1)) ≡ with_front (front ++ x ∷ []) (used + size) read
  regroup front used x size (Ok xs) =
      let lists : front ++ x ∷ xs.0 ≡ (front ++ x ∷ []) ++ xs.0 = sym (append_assoc front (x ∷ []) xs.0) in
      let sums : used + (size + xs.1) ≡ (used + size) + xs.1 = omega arith in
      cc
  regroup front used x size (Err e) = refl

  nothing_before : (read : Result (List A × ℕ) TplgFault) → with_front [] 0 read ≡ read
  nothing_before (Ok xs) = ap (λ (n : ℕ). Ok (xs.0, n)) (zero-add xs.1)
  nothing_before (Err e) = refl

  pub SoFar-none : (n at : ℕ) (bytes : List ℕ) → SoFar n at bytes [] 0 (items_at step n at bytes)
  SoFar-none n at bytes = record { within = omega arith; whole = rw (add-zero) (nothing_before (items_at step n at bytes)) }

  pub SoFar-more : (n m at : ℕ) (bytes : List ℕ) (items : List A) (used : ℕ) (total : Result (List A × ℕ) TplgFault) (x : A) (size : ℕ) → n ≡ suc m → SoFar n at bytes items used total → step (at + used) (drop used bytes) ≡ Ok (x, size) → used + size ≤ length bytes
      → SoFar m at bytes (items ++ x ∷ []) (used + size) total
  unfolding items_at
  SoFar-more n m at bytes items used total x size k s h within =
      let rest = items_at step m (at + (used + size)) (drop (used + size) bytes) in
      let place : at + used + size ≡ at + (used + size) = omega arith in
      let next : items_at step n (at + used) (drop used bytes) ≡ (rest >>= λ xs. Ok (x ∷ xs.0, size + xs.1)) = rw (k, h, place, drop-drop size used bytes) refl in
      record { within = within; whole = sym (regroup items used x size rest) ∙ ap (with_front items used) (sym next) ∙ s.whole }

  pub SoFar-fails : (n m at : ℕ) (bytes : List ℕ) (items : List A) (used : ℕ) (total : Result (List A × ℕ) TplgFault) (e : TplgFault) → n ≡ suc m → SoFar n at bytes items used total → Fails e (step (at + used) (drop used bytes)) → Fails e total
  unfolding items_at
  SoFar-fails n m at bytes items used total e k s f =
      fails_along e (step (at + used) (drop used bytes)) total f (λ h. sym s.whole ∙ (rw (k, h) refl))

  pub SoFar-all : (at : ℕ) (bytes : List ℕ) (items : List A) (used : ℕ) (total : Result (List A × ℕ) TplgFault) → SoFar 0 at bytes items used total → total ≡ Ok (items, used)
  unfolding items_at
  SoFar-all at bytes items used total s =
      let lists = append-nil items in
      let sums : used + 0 ≡ used = omega arith in
      sym s.whole ∙ (rw (lists, sums) refl)
