-- The laws of items one after the other, and of a head with items after it.
use Rattle.std.proofs.Common.{◌≡◌, ℕ, zero, suc, ◌+◌, ◌-◌, ◌≤◌, ◌<◌, ◌⊎◌, inl, inr, true, false, cond, eqb, eq-eqb, List, [], ◌∷◌, ◌++◌, length, take, drop, Result, Ok, Err, refl, sym, ap, subst, ◌∙◌, arith, length-append, append-nil, append_assoc, add-zero, zero-add}
use Rattle.std.proofs.lemmas.Bool.{eqb-true, eqb-false, ne_eqb}
use Rattle.std.proofs.lemmas.List.{drop_at, take_all, take-append-drop, length-take, length-drop, nil_from_length}
use Rattle.std.proofs.Math.Seq.{take-add}
use Rattle.tplg_model.specs.declared.fault.TplgFault.{TplgFault}
use Rattle.sof_base.specs.Cells.{Cell, Fits}
use Rattle.tplg_model.specs.Outcomes.{◌>>=◌}
use Rattle.tplg_model.specs.Arrays.{Each}
use Rattle.tplg_model.specs.Spelling.{items_cells}
use Rattle.tplg_model.specs.Reading.{items_at, all_items, headed_at}
use Rattle.tplg_model.specs.File.{ItemsFirst, ItemsFault, RecordsFault, BehindHead}
use Rattle.tplg_model.proofs.FaultLaws.{bind_ok, At_first, Later, bind_err, ok_same, only_first, passed_last, refused_last}
use Rattle.sof_base.proofs.FieldLaws.{IsBytes, IsBytes-drop}
use Rattle.sof_base.proofs.Fitting.{Fits-append, Fits-split, Fits-length}
use Rattle.tplg_model.specs.declared.fault.TplgFault.TheVariants.{Payload}

-- the first n bytes are spelled by these cells
pub record Took (bytes : List ℕ) (cells : List Cell) (n : ℕ) : Type 0 where
  pub within : n ≤ length bytes
  pub fits : Fits (take n bytes) cells

-- the two laws of a kind of item: what is read is spelled so, and what is spelled is read again
pub record IsItem {A : Type 0} (step : ℕ → List ℕ → Result (A × ℕ) TplgFault) (cells : A → List Cell) (Is : A → Type 0) : Type 0 where
  pub takes : (at : ℕ) (bytes : List ℕ) (x : A) (n : ℕ) → IsBytes bytes → step at bytes ≡ Ok (x, n) → Took bytes (cells x) n × Is x
  pub again : (at : ℕ) (x : A) (front rest : List ℕ) → Is x → Fits front (cells x) → step at (front ++ rest) ≡ Ok (x, length front)

-- ---- items

-- the cells of one more item
pub items_cells-more : {A : Type 0} (cells : A → List Cell) (xs : List A) (x : A) → items_cells cells (xs ++ x ∷ []) ≡ items_cells cells xs ++ cells x
unfolding items_cells
items_cells-more cells [] x = append-nil (cells x)
items_cells-more cells (y ∷ xs) x = ap (λ (t : List Cell). cells y ++ t) (items_cells-more cells xs x) ∙ sym (append_assoc (cells y) (items_cells cells xs) (cells x))

abbrev pub with_front : {A : Type 0} → List A → ℕ → Result (List A × ℕ) TplgFault → Result (List A × ℕ) TplgFault
with_front front used read = read >>= λ x. Ok (front ++ x.0, used + x.1)

with_first : {A : Type 0} (x : A) (size : ℕ) (xs : List A) (used : ℕ) (read : Result (List A × ℕ) TplgFault) → (with_front xs used read >>= λ ys. Ok (x ∷ ys.0, size + ys.1)) ≡ with_front (x ∷ xs) (size + used) read
with_first x size xs used (Ok ys) = let sums : size + (used + ys.1) ≡ (size + used) + ys.1 = omega arith in ap (λ (n : ℕ). Ok (x ∷ (xs ++ ys.0), n)) sums
with_first x size xs used (Err e) = refl

no_front : {A : Type 0} (read : Result (List A × ℕ) TplgFault) → read ≡ with_front [] 0 read
no_front (Ok ys) = ap (λ (n : ℕ). Ok (ys.0, n)) (sym (zero-add ys.1))
no_front (Err e) = refl

-- which faults a step answers
pub record IsFault {A : Type 0} (step : ℕ → List ℕ → Result (A × ℕ) TplgFault) (Fault : ℕ → List ℕ → TplgFault → Type 0) : Type 0 where
  pub found : (at : ℕ) (bytes : List ℕ) (f : TplgFault) → IsBytes bytes → step at bytes ≡ Err f → Fault at bytes f
  pub only : (at : ℕ) (bytes : List ℕ) (f : TplgFault) → Fault at bytes f → step at bytes ≡ Err f

module _ {A : Type 0} (step : ℕ → List ℕ → Result (A × ℕ) TplgFault) (cells : A → List Cell) (Is : A → Type 0) (item : IsItem step cells Is) where
  -- what was read of the front
  pub record TookAll (bytes : List ℕ) (n : ℕ) (xs : List A) (used : ℕ) : Type 0 where
    pub took : Took bytes (items_cells cells xs) used
    pub each : Each Is xs
    pub count : length xs ≡ n

  Took-then : (bytes : List ℕ) (cs ds : List Cell) (m n : ℕ) → Took bytes cs m → Took (drop m bytes) ds n → Took bytes (cs ++ ds) (m + n)
  Took-then bytes cs ds m n p q = record {
    within = omega (arith, p.within, q.within, length-drop m bytes);
    fits = rw (take-add m n bytes) (Fits-append (take m bytes) (take n (drop m bytes)) cs ds p.fits q.fits);
  }

  TookAll-more : (bytes : List ℕ) (n : ℕ) (x : A) (size : ℕ) (xs : List A) (used : ℕ) → Took bytes (cells x) size × Is x → TookAll (drop size bytes) n xs used → TookAll bytes (suc n) (x ∷ xs) (size + used)
  unfolding items_cells Each
  TookAll-more bytes n x size xs used p q = record {
    took = Took-then bytes (cells x) (items_cells cells xs) size used p.0 q.took;
    each = (p.1, q.each);
    count = ap suc q.count;
  }

  TookAll-none : (bytes : List ℕ) → TookAll bytes 0 [] 0
  unfolding items_cells Each Fits
  TookAll-none bytes = record { took = record { within = omega arith; fits = tt }; each = tt; count = refl }

  pub items_take : (n at : ℕ) (bytes : List ℕ) (xs : List A) (used : ℕ) → IsBytes bytes → items_at step n at bytes ≡ Ok (xs, used) → TookAll bytes n xs used
  unfolding items_at
  items_take zero at bytes xs used h e =
      let none : List A × ℕ = ([], 0) in
      subst (λ (p : List A × ℕ). TookAll bytes 0 p.0 p.1) (ok_same none (xs, used) (items_at step 0 at bytes) refl e) (TookAll-none bytes)
  items_take (suc n) at bytes xs used h e =
      let a = bind_ok (step at bytes) (λ x. items_at step n (at + x.1) (drop x.1 bytes) >>= λ ys. Ok (x.0 ∷ ys.0, x.1 + ys.1)) (xs, used) e in
      let b = bind_ok (items_at step n (at + a.0.1) (drop a.0.1 bytes)) (λ ys. Ok (a.0.0 ∷ ys.0, a.0.1 + ys.1)) (xs, used) a.2 in
      let one = item.takes at bytes a.0.0 a.0.1 h a.1 in
      let others = items_take n (at + a.0.1) (drop a.0.1 bytes) b.0.0 b.0.1 (IsBytes-drop a.0.1 bytes h) b.1 in
      let made : List A × ℕ = (a.0.0 ∷ b.0.0, a.0.1 + b.0.1) in
      subst (λ (p : List A × ℕ). TookAll bytes (suc n) p.0 p.1) (ok_same made (xs, used) (Ok made) refl b.2) (TookAll-more bytes n a.0.0 a.0.1 b.0.0 b.0.1 one others)

  -- what is spelled is read, and reading goes on after it
  pub items_again : (xs : List A) (m at : ℕ) (front rest : List ℕ) → Each Is xs → Fits front (items_cells cells xs)
      → items_at step (length xs + m) at (front ++ rest) ≡ with_front xs (length front) (items_at step m (at + length front) rest)
  unfolding items_at items_cells Each
  items_again [] m at front rest are f =
      let nothing : front ≡ [] = nil_from_length front (Fits-length front [] f) in
      rw (nothing, add-zero, zero-add) (no_front (items_at step m at rest))
  items_again (x ∷ xs) m at front rest are f =
      let parts = Fits-split front (cells x) (items_cells cells xs) f in
      let regrouped : front ++ rest ≡ parts.first ++ (parts.second ++ rest) = ap (λ (t : List ℕ). t ++ rest) parts.whole ∙ append_assoc parts.first parts.second rest in
      let one = item.again at x parts.first (parts.second ++ rest) are.0 parts.fits_first in
      let others = items_again xs m (at + length parts.first) parts.second rest are.1 parts.fits_second in
      let after = drop_at parts.first (parts.second ++ rest) (length parts.first) refl in
      let k : length (x ∷ xs) + m ≡ suc (length xs + m) = omega arith in
      let len : length front ≡ length parts.first + length parts.second = ap length parts.whole ∙ length-append parts.first parts.second in
      let place : at + length parts.first + length parts.second ≡ at + length front = omega (arith, len) in
      let first : items_at step (length (x ∷ xs) + m) at (front ++ rest) ≡ (items_at step (length xs + m) (at + length parts.first) (parts.second ++ rest) >>= λ ys. Ok (x ∷ ys.0, length parts.first + ys.1)) =
      rw (k, regrouped, one, after) refl in
      first ∙ ap (λ (r : Result (List A × ℕ) TplgFault). r >>= λ ys. Ok (x ∷ ys.0, length parts.first + ys.1)) others
      ∙ with_first x (length parts.first) xs (length parts.second) (items_at step m (at + length parts.first + length parts.second) rest)
      ∙ rw (place, len) refl

  -- ---- all of the bytes

  pub record TookWhole (bytes : List ℕ) (n : ℕ) (xs : List A) : Type 0 where
    pub fits : Fits bytes (items_cells cells xs)
    pub each : Each Is xs
    pub count : length xs ≡ n

  pub all_take : (n at : ℕ) (bytes : List ℕ) (xs : List A) → IsBytes bytes → all_items step n at bytes ≡ Ok xs → TookWhole bytes n xs
  unfolding all_items
  all_take n at bytes xs h e =
      let a = bind_ok (items_at step n at bytes) (λ x. cond (eqb x.1 (length bytes)) (Ok x.0) (Err (Payload (at + x.1)))) xs e in
      let t = items_take n at bytes a.0.0 a.0.1 h a.1 in
      let c = passed_last (eqb a.0.1 (length bytes)) (Payload (at + a.0.1)) a.0.0 xs a.2 in
      let used : a.0.1 ≡ length bytes = eqb-true _ _ c.0 in
      let all : take a.0.1 bytes ≡ bytes = take_all a.0.1 bytes (omega (arith, used)) in
      let whole : TookWhole bytes n a.0.0 = record { fits = rw all at t.took.fits; each = t.each; count = t.count } in
      subst (λ (ys : List A). TookWhole bytes n ys) c.1 whole

  pub all_again : (xs : List A) (at : ℕ) (bytes : List ℕ) → Each Is xs → Fits bytes (items_cells cells xs) → all_items step (length xs) at bytes ≡ Ok xs
  unfolding all_items items_at
  all_again xs at bytes are f =
      let again = items_again xs 0 at bytes [] are f in
      let lists = append-nil xs in
      let bytes-is = append-nil bytes in
      let sums : length bytes + 0 ≡ length bytes = omega arith in
      let count : length xs + 0 ≡ length xs = omega arith in
      let read : items_at step (length xs) at bytes ≡ Ok (xs, length bytes) = rw (count, bytes-is, lists, sums) at again in
      let same : eqb (length bytes) (length bytes) ≡ true = eq-eqb _ _ refl in
      rw (read, same) refl

  -- ---- the first fault

  module _ (Fault : ℕ → List ℕ → TplgFault → Type 0) (is_fault : IsFault step Fault) where
    fault_here : (n at : ℕ) (bytes : List ℕ) (f : TplgFault) → Fault at bytes f → ItemsFault cells Is Fault (suc n) at bytes f
    unfolding items_cells Each Fits
    fault_here n at bytes f e = (record { items = []; front = []; rest = bytes; whole = refl; fits = tt; are = tt }, omega arith, rw add-zero e)

    fault_more : (n at : ℕ) (bytes : List ℕ) (x : A) (size : ℕ) (f : TplgFault) → Took bytes (cells x) size × Is x → ItemsFault cells Is Fault n (at + size) (drop size bytes) f → ItemsFault cells Is Fault (suc n) at bytes f
    unfolding items_cells Each
    fault_more n at bytes x size f t q =
        let len : length (take size bytes) ≡ size = omega (arith, t.0.within, length-take size bytes) in
        let place : at + length (take size bytes ++ q.0.front) ≡ at + size + length q.0.front = omega (arith, length-append (take size bytes) q.0.front, len) in
        let first : ItemsFirst cells Is bytes = record {
          items = x ∷ q.0.items;
          front = take size bytes ++ q.0.front;
          rest = q.0.rest;
          whole = sym (take-append-drop size bytes) ∙ ap (λ (t : List ℕ). take size bytes ++ t) q.0.whole ∙ sym (append_assoc (take size bytes) q.0.front q.0.rest);
          fits = Fits-append (take size bytes) q.0.front (cells x) (items_cells cells q.0.items) t.0.fits q.0.fits;
          are = (t.1, q.0.are);
        } in
        (first, omega (arith, q.1), rw place q.2)

    pub items_found : (n at : ℕ) (bytes : List ℕ) (f : TplgFault) → IsBytes bytes → items_at step n at bytes ≡ Err f → ItemsFault cells Is Fault n at bytes f
    unfolding items_at
    items_found zero at bytes f h e = absurd cc
    items_found (suc n) at bytes f h e =
        elim (bind_err (step at bytes) (λ x. items_at step n (at + x.1) (drop x.1 bytes) >>= λ ys. Ok (x.0 ∷ ys.0, x.1 + ys.1)) f e) [
          | At_first e1 ↦ fault_here n at bytes f (is_fault.found at bytes f h e1)
          | Later x e1 e2 ↦ fault_more n at bytes x.0 x.1 f (item.takes at bytes x.0 x.1 h e1) (items_found n (at + x.1) (drop x.1 bytes) f (IsBytes-drop x.1 bytes h) (only_first (items_at step n (at + x.1) (drop x.1 bytes)) (λ ys. (x.0 ∷ ys.0, x.1 + ys.1)) f e2))
        ]

    pub items_only : (n at : ℕ) (bytes : List ℕ) (f : TplgFault) → ItemsFault cells Is Fault n at bytes f → items_at step n at bytes ≡ Err f
    unfolding items_at
    items_only n at bytes f q =
        let m = n - length q.0.items - 1 in
        let k : n ≡ length q.0.items + suc m = omega (arith, q.1) in
        let one = is_fault.only (at + length q.0.front) q.0.rest f q.2 in
        let here : items_at step (suc m) (at + length q.0.front) q.0.rest ≡ Err f = rw one refl in
        ap (λ (j : ℕ). items_at step j at bytes) k ∙ ap (items_at step (length q.0.items + suc m) at) q.0.whole ∙ items_again q.0.items (suc m) at q.0.front q.0.rest q.0.are q.0.fits ∙ (rw here refl)

    pub all_found : (n at : ℕ) (bytes : List ℕ) (f : TplgFault) → IsBytes bytes → all_items step n at bytes ≡ Err f → RecordsFault cells Is Fault n at bytes f
    unfolding all_items
    all_found n at bytes f h e =
        elim (bind_err (items_at step n at bytes) (λ x. cond (eqb x.1 (length bytes)) (Ok x.0) (Err (Payload (at + x.1)))) f e) [
          | At_first e1 ↦ inl (items_found n at bytes f h e1)
          | Later x e1 e2 ↦
              let t = items_take n at bytes x.0 x.1 h e1 in
              let c = refused_last (eqb x.1 (length bytes)) (Payload (at + x.1)) x.0 f e2 in
              let other = eqb-false x.1 (length bytes) c.0 in
              let len : length (take x.1 bytes) ≡ x.1 = omega (arith, t.took.within, length-take x.1 bytes) in
              let first : ItemsFirst cells Is bytes = record {
                items = x.0;
                front = take x.1 bytes;
                rest = drop x.1 bytes;
                whole = sym (take-append-drop x.1 bytes);
                fits = t.took.fits;
                are = t.each;
              } in
              inr (first, t.count, omega (arith, t.took.within, other, length-drop x.1 bytes), rw len (sym c.1))
        ]

    pub all_only : (n at : ℕ) (bytes : List ℕ) (f : TplgFault) → RecordsFault cells Is Fault n at bytes f → all_items step n at bytes ≡ Err f
    unfolding all_items items_at
    all_only n at bytes f (inl q) = rw (items_only n at bytes f q) refl
    all_only n at bytes f (inr q) =
        let first : ItemsFirst cells Is bytes = q.0 in
        let again = items_again first.items 0 at first.front first.rest first.are first.fits in
        let lists = append-nil first.items in
        let sums : length first.front + 0 ≡ length first.front = omega arith in
        let count : length first.items + 0 ≡ n = omega (arith, q.1) in
        let read : items_at step n at bytes ≡ Ok (first.items, length first.front) = rw first.whole (rw (count, lists, sums) at again) in
        let less : eqb (length first.front) (length bytes) ≡ false = ne_eqb (length first.front) (length bytes) (λ e. omega (arith, e, ap length first.whole, length-append first.front first.rest, q.2)) in
        rw (read, less) (ap (λ (g : TplgFault). Err g) (sym q.3))

-- each item has bytes, so items are no more than their bytes
pub items_few : {A : Type 0} (cells : A → List Cell) → ((x : A) → 0 < length (cells x)) → (xs : List A) → length xs ≤ length (items_cells cells xs)
unfolding items_cells
items_few cells some [] = omega arith
items_few cells some (x ∷ xs) = omega (arith, some x, items_few cells some xs, length-append (cells x) (items_cells cells xs))

-- ---- a head, and items after it

module _ {A B : Type 0} (head : ℕ → List ℕ → Result (A × ℕ) TplgFault) (head_cells : A → List Cell) (IsHead : A → Type 0) (head_item : IsItem head head_cells IsHead)
    (count : A → ℕ)
    (step : ℕ → List ℕ → Result (B × ℕ) TplgFault) (cells : B → List Cell) (Is : B → Type 0) (item : IsItem step cells Is) where
  abbrev pub headed_cells : A × List B → List Cell
  headed_cells x = head_cells x.0 ++ items_cells cells x.1

  abbrev pub IsHeaded : A × List B → Type 0
  IsHeaded x = IsHead x.0 × (Each Is x.1 × (length x.1 ≡ count x.0))

  headed_take : (at : ℕ) (bytes : List ℕ) (x : A × List B) (n : ℕ) → IsBytes bytes → headed_at head count step at bytes ≡ Ok (x, n) → Took bytes (headed_cells x) n × IsHeaded x
  unfolding headed_at
  headed_take at bytes x n h e =
      let a = bind_ok (head at bytes) (λ a. items_at step (count a.0) (at + a.1) (drop a.1 bytes) >>= λ bs. Ok ((a.0, bs.0), a.1 + bs.1)) (x, n) e in
      let b = bind_ok (items_at step (count a.0.0) (at + a.0.1) (drop a.0.1 bytes)) (λ bs. Ok ((a.0.0, bs.0), a.0.1 + bs.1)) (x, n) a.2 in
      let one = head_item.takes at bytes a.0.0 a.0.1 h a.1 in
      let others = items_take step cells Is item (count a.0.0) (at + a.0.1) (drop a.0.1 bytes) b.0.0 b.0.1 (IsBytes-drop a.0.1 bytes h) b.1 in
      let made : (A × List B) × ℕ = ((a.0.0, b.0.0), a.0.1 + b.0.1) in
      let fits : Fits (take (a.0.1 + b.0.1) bytes) (head_cells a.0.0 ++ items_cells cells b.0.0) = rw (take-add a.0.1 b.0.1 bytes) (Fits-append (take a.0.1 bytes) (take b.0.1 (drop a.0.1 bytes)) (head_cells a.0.0) (items_cells cells b.0.0) one.0.fits others.took.fits) in
      let whole : Took bytes (headed_cells made.0) made.1 × IsHeaded made.0 = (record { within = omega (arith, one.0.within, others.took.within, length-drop a.0.1 bytes); fits = fits }, (one.1, (others.each, others.count))) in
      subst (λ (p : (A × List B) × ℕ). Took bytes (headed_cells p.0) p.1 × IsHeaded p.0) (ok_same made (x, n) (Ok made) refl b.2) whole

  headed_again : (at : ℕ) (x : A × List B) (front rest : List ℕ) → IsHeaded x → Fits front (headed_cells x) → headed_at head count step at (front ++ rest) ≡ Ok (x, length front)
  unfolding headed_at items_at
  headed_again at x front rest is f =
      let parts = Fits-split front (head_cells x.0) (items_cells cells x.1) f in
      let regrouped : front ++ rest ≡ parts.first ++ (parts.second ++ rest) = ap (λ (t : List ℕ). t ++ rest) parts.whole ∙ append_assoc parts.first parts.second rest in
      let one = head_item.again at x.0 parts.first (parts.second ++ rest) is.0 parts.fits_first in
      let after = drop_at parts.first (parts.second ++ rest) (length parts.first) refl in
      let again = items_again step cells Is item x.1 0 (at + length parts.first) parts.second rest is.1.0 parts.fits_second in
      let n : length x.1 + 0 ≡ count x.0 = omega (arith, is.1.1) in
      let lists = append-nil x.1 in
      let sums : length parts.second + 0 ≡ length parts.second = omega arith in
      let others : items_at step (count x.0) (at + length parts.first) (parts.second ++ rest) ≡ Ok (x.1, length parts.second) = rw (n, lists, sums) at again in
      let len : length parts.first + length parts.second ≡ length front = sym (ap length parts.whole ∙ length-append parts.first parts.second) in
      rw (regrouped, one, after, others, len) refl

  pub headed_item : IsItem (headed_at head count step) headed_cells IsHeaded
  headed_item = record { takes = headed_take; again = headed_again }

  module _ (HeadFault Fault : ℕ → List ℕ → TplgFault → Type 0) (head_fault : IsFault head HeadFault) (is_fault : IsFault step Fault) where
    abbrev pub HeadedFault : ℕ → List ℕ → TplgFault → Type 0
    HeadedFault at bytes f = HeadFault at bytes f ⊎ BehindHead head_cells IsHead count cells Is Fault at bytes f

    headed_found : (at : ℕ) (bytes : List ℕ) (f : TplgFault) → IsBytes bytes → headed_at head count step at bytes ≡ Err f → HeadedFault at bytes f
    unfolding headed_at
    headed_found at bytes f h e =
        elim (bind_err (head at bytes) (λ a. items_at step (count a.0) (at + a.1) (drop a.1 bytes) >>= λ bs. Ok ((a.0, bs.0), a.1 + bs.1)) f e) [
          | At_first e1 ↦ inl (head_fault.found at bytes f h e1)
          | Later a e1 e2 ↦
              let one = head_item.takes at bytes a.0 a.1 h e1 in
              let len : length (take a.1 bytes) ≡ a.1 = omega (arith, one.0.within, length-take a.1 bytes) in
              let q = items_found step cells Is item Fault is_fault (count a.0) (at + a.1) (drop a.1 bytes) f (IsBytes-drop a.1 bytes h) (only_first (items_at step (count a.0) (at + a.1) (drop a.1 bytes)) (λ bs. ((a.0, bs.0), a.1 + bs.1)) f e2) in
              inr (record { head = a.0; front = take a.1 bytes; rest = drop a.1 bytes; whole = sym (take-append-drop a.1 bytes); fits = one.0.fits; is = one.1; first = rw len q })
        ]

    headed_only : (at : ℕ) (bytes : List ℕ) (f : TplgFault) → HeadedFault at bytes f → headed_at head count step at bytes ≡ Err f
    unfolding headed_at
    headed_only at bytes f (inl b) = rw (head_fault.only at bytes f b) refl
    headed_only at bytes f (inr q) =
        let one = head_item.again at q.head q.front q.rest q.is q.fits in
        let after = drop_at q.front q.rest (length q.front) refl in
        let others = items_only step cells Is item Fault is_fault (count q.head) (at + length q.front) q.rest f q.first in
        rw (q.whole, one, after, others) refl

    pub headed_is_fault : IsFault (headed_at head count step) HeadedFault
    headed_is_fault = record { found = headed_found; only = headed_only }
