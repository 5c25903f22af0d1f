-- Reading equal parts one after the other, as a loop does.
use Rattle.std.proofs.Common.{◌≡◌, ℕ, suc, ◌+◌, ◌-◌, ◌*◌, ◌≤◌, ◌<◌, List, [], ◌∷◌, ◌++◌, length, refl, sym, ap, ◌∙◌, arith, append_assoc, length-append, mul-suc, Result, Ok, Err}
use Rattle.std.proofs.lemmas.List.{append-nil}
use Rattle.tplg_model.specs.declared.fault.TplgFault.{TplgFault}
use Rattle.tplg_model.specs.Outcomes.{◌>>=◌, Fails}
use Rattle.tplg_model.specs.Reading.{parts_step}
use Rattle.tplg_model.proofs.FaultLaws.{fails_along}

module _ {A : Type 0} (w : ℕ) (step : ℕ → Result A TplgFault) where
  abbrev pub put_before : List A → Result (List A) TplgFault → Result (List A) TplgFault
  put_before xs read = read >>= λ ys. Ok (xs ++ ys)

  -- k of n parts are read
  pub record Parts (n k off : ℕ) (items : List A) : Type 0 where
    pub whole : put_before items (parts_step w step (n - k) (off + w * k)) ≡ parts_step w step n off
    pub count : length items ≡ k

  nothing_before : (read : Result (List A) TplgFault) → put_before [] read ≡ read
  nothing_before (Ok ys) = refl
  nothing_before (Err e) = refl

  regroup : (xs : List A) (x : A) (read : Result (List A) TplgFault) → put_before xs (read >>= λ ys. Ok (x ∷ ys)) ≡ put_before (xs ++ x ∷ []) read
  regroup xs x (Ok ys) = ap (λ (zs : List A). Ok zs) (sym (append_assoc xs (x ∷ []) ys))
  regroup xs x (Err e) = refl

  pub Parts-none : (n off : ℕ) → Parts n 0 off []
  Parts-none n off = let e : off + w * 0 ≡ off = omega arith in let d : n - 0 ≡ n = omega arith in record { whole = rw (d, e) (nothing_before (parts_step w step n off)); count = refl }

  pub Parts-more : (n k off : ℕ) (items : List A) (x : A) → k < n → Parts n k off items → step (off + w * k) ≡ Ok x → Parts n (k + 1) off (items ++ x ∷ [])
  unfolding parts_step
  Parts-more n k off items x lt p e =
      let m : n - k ≡ suc (n - (k + 1)) = omega arith in
      let place : off + w * k + w ≡ off + w * (k + 1) = omega (arith, mul-suc w k) in
      let rest = parts_step w step (n - (k + 1)) (off + w * (k + 1)) in
      let next : parts_step w step (n - k) (off + w * k) ≡ (rest >>= λ ys. Ok (x ∷ ys)) = rw (m, e, place) refl in
      record { whole = sym (regroup items x rest) ∙ ap (put_before items) (sym next) ∙ p.whole; count = omega (arith, p.count, length-append items (x ∷ [])) }

  pub Parts-fails : (n k off : ℕ) (items : List A) (e : TplgFault) → k < n → Parts n k off items → Fails e (step (off + w * k)) → Fails e (parts_step w step n off)
  unfolding parts_step
  Parts-fails n k off items e lt p f =
      let m : n - k ≡ suc (n - (k + 1)) = omega arith in
      fails_along e (step (off + w * k)) (parts_step w step n off) f (λ h. sym p.whole ∙ (rw (m, h) refl))

  pub Parts-all : (n k off : ℕ) (items : List A) → n ≤ k → Parts n k off items → parts_step w step n off ≡ Ok items
  unfolding parts_step
  Parts-all n k off items le p =
      let m : n - k ≡ 0 = omega arith in
      let lists = append-nil items in
      sym p.whole ∙ (rw (m, lists) refl)
