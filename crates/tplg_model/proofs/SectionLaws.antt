-- A part of a record at an offset: the two laws, of fields, of equal parts, of parts one after another.
use Rattle.std.proofs.Common.{◌≡◌, ℕ, zero, suc, ◌+◌, ◌*◌, ◌≤◌, true, cond, List, [], ◌∷◌, ◌++◌, length, take, drop, Result, Ok, Err, refl, sym, ap, subst, ◌∙◌, arith, length-append, append_assoc, mul-suc}
use Rattle.std.proofs.lemmas.List.{take_at, drop_at, drop-drop, drop-take, take-take, take-append-drop}
use Rattle.tplg_model.specs.declared.fault.TplgFault.{TplgFault}
use Rattle.tplg_model.specs.declared.fault.TplgFault.TheVariants.{Name}
use Rattle.sof_base.specs.Cells.{Cell, Fits}
use Rattle.tplg_model.specs.Outcomes.{◌>>=◌}
use Rattle.sof_base.specs.Slots.{Slot, slots_cells, AreSlots, part}
use Rattle.sof_base.specs.Layouts.{Shape, widths, slots_from, all_named, shapes_of}
use Rattle.tplg_model.specs.Arrays.{Each}
use Rattle.tplg_model.specs.Spelling.{items_cells, joined_cells}
use Rattle.tplg_model.proofs.FaultLaws.{bind_ok, ok_same, passed_last}
use Rattle.tplg_model.specs.Reading.{parts_step}
use Rattle.sof_base.proofs.FieldLaws.{IsBytes, part-add, slots_read, slots_again, length-slots}
use Rattle.sof_base.proofs.Fitting.{Fits-length, Fits-append, Fits-split}

-- ---- a part

pub record IsPart {A : Type 0} (w : ℕ) (read : ℕ → List ℕ → ℕ → Result A TplgFault) (cells : A → List Cell) (Is : A → Type 0) : Type 0 where
  pub takes : (at : ℕ) (bytes : List ℕ) (off : ℕ) (x : A) → IsBytes bytes → off + w ≤ length bytes → read at bytes off ≡ Ok x → Fits (part bytes off w) (cells x) × Is x
  pub again : (at : ℕ) (bytes : List ℕ) (off : ℕ) (x : A) → Is x → Fits (part bytes off w) (cells x) → read at bytes off ≡ Ok x
  pub wide : (x : A) → Is x → length (cells x) ≡ w

-- of fields
pub record Fields {A : Type 0} (shapes : List Shape) (read : ℕ → List ℕ → ℕ → Result A TplgFault) (slots : A → List Slot) : Type 0 where
  pub make : List ℕ → ℕ → A
  pub same : (at : ℕ) (bytes : List ℕ) (off : ℕ) → read at bytes off ≡ cond (all_named shapes bytes off 0) (Ok (make bytes off)) (Err (Name at))
  pub is : (bytes : List ℕ) (off : ℕ) → slots (make bytes off) ≡ slots_from shapes bytes off 0
  pub shape : (x : A) → shapes_of (slots x) ≡ shapes
  pub back : (bytes : List ℕ) (off : ℕ) (x : A) → slots_from shapes bytes off 0 ≡ slots x → make bytes off ≡ x

module _ {A : Type 0} (shapes : List Shape) (read : ℕ → List ℕ → ℕ → Result A TplgFault) (slots : A → List Slot) (k : Fields shapes read slots) where
  fields_take : (at : ℕ) (bytes : List ℕ) (off : ℕ) (x : A) → IsBytes bytes → off + widths shapes ≤ length bytes → read at bytes off ≡ Ok x → Fits (part bytes off (widths shapes)) (slots_cells (slots x)) × AreSlots (slots x)
  fields_take at bytes off x h long e =
      let t = passed_last (all_named shapes bytes off 0) (Name at) (k.make bytes off) x (sym (k.same at bytes off) ∙ e) in
      let r = slots_read shapes bytes off 0 h (omega (arith, long)) t.0 in
      let place : off + 0 ≡ off = omega arith in
      let fits : Fits (part bytes off (widths shapes)) (slots_cells (slots_from shapes bytes off 0)) = subst (λ (p : ℕ). Fits (part bytes p (widths shapes)) (slots_cells (slots_from shapes bytes off 0))) place r.0 in
      let whole : Fits (part bytes off (widths shapes)) (slots_cells (slots (k.make bytes off))) × AreSlots (slots (k.make bytes off)) = rw (k.is bytes off) (fits, r.1) in
      subst (λ (y : A). Fits (part bytes off (widths shapes)) (slots_cells (slots y)) × AreSlots (slots y)) t.1 whole

  fields_again : (at : ℕ) (bytes : List ℕ) (off : ℕ) (x : A) → AreSlots (slots x) → Fits (part bytes off (widths shapes)) (slots_cells (slots x)) → read at bytes off ≡ Ok x
  fields_again at bytes off x are f =
      let place : off + 0 ≡ off = omega arith in
      let e : drop (off + 0) bytes ≡ part bytes off (widths shapes) ++ drop (widths shapes) (drop off bytes) = ap (λ (n : ℕ). drop n bytes) place ∙ sym (take-append-drop (widths shapes) (drop off bytes)) in
      let r = slots_again (slots x) bytes (part bytes off (widths shapes)) (drop (widths shapes) (drop off bytes)) off 0 are e f in
      let slots-is : slots_from shapes bytes off 0 ≡ slots x = ap (λ (s : List Shape). slots_from s bytes off 0) (sym (k.shape x)) ∙ r.slots in
      let named-is : all_named shapes bytes off 0 ≡ true = ap (λ (s : List Shape). all_named s bytes off 0) (sym (k.shape x)) ∙ r.ok in
      k.same at bytes off ∙ (rw (named-is, k.back bytes off x slots-is) refl)

  pub fields_part : IsPart (widths shapes) read (λ x. slots_cells (slots x)) (λ x. AreSlots (slots x))
  fields_part = record {
    takes = fields_take;
    again = fields_again;
    wide = λ x are. length-slots (slots x) are ∙ ap widths (k.shape x);
  }

-- what stands in two parts
two_parts : (bytes : List ℕ) (off w m : ℕ) (c d : List Cell) → length c ≡ w → length d ≡ m → Fits (part bytes off (w + m)) (c ++ d) → Fits (part bytes off w) c × Fits (part bytes (off + w) m) d
two_parts bytes off w m c d wide_c wide_d f =
    let parts = Fits-split (part bytes off (w + m)) c d f in
    let len : length parts.first ≡ w = Fits-length parts.first c parts.fits_first ∙ wide_c in
    let whole : part bytes off w ++ part bytes (off + w) m ≡ parts.first ++ parts.second = sym (part-add bytes off w m) ∙ parts.whole in
    let here : part bytes off w ≡ parts.first = sym (take-take w (w + m) (drop off bytes) (omega arith)) ∙ ap (take w) parts.whole ∙ take_at parts.first parts.second w len in
    let after : part bytes (off + w) m ≡ parts.second = ap (take m) (sym (drop-drop w off bytes)) ∙ sym (drop-take w m (drop off bytes)) ∙ ap (drop w) parts.whole ∙ drop_at parts.first parts.second w len in
    (rw here parts.fits_first, rw after parts.fits_second)

-- of n equal parts
module _ {A : Type 0} (w : ℕ) (read : ℕ → List ℕ → ℕ → Result A TplgFault) (cells : A → List Cell) (Is : A → Type 0) (one : IsPart w read cells Is) where
  abbrev pub parts_read : ℕ → ℕ → List ℕ → ℕ → Result (List A) TplgFault
  parts_read n at bytes off = parts_step w (read at bytes) n off

  parts_take : (n : ℕ) (at : ℕ) (bytes : List ℕ) (off : ℕ) (xs : List A) → IsBytes bytes → off + w * n ≤ length bytes → parts_read n at bytes off ≡ Ok xs → Fits (part bytes off (w * n)) (items_cells cells xs) × (Each Is xs × (length xs ≡ n))
  unfolding parts_step items_cells Each Fits
  parts_take zero at bytes off xs h long e =
      let none : List A = [] in
      let nothing : w * 0 ≡ 0 = omega arith in
      subst (λ (ys : List A). Fits (part bytes off (w * 0)) (items_cells cells ys) × (Each Is ys × (length ys ≡ 0))) (ok_same none xs (Ok none) refl e) (rw nothing (tt, (tt, refl)))
  parts_take (suc n) at bytes off xs h long e =
      let k : w * suc n ≡ w + w * n = omega (arith, mul-suc w n) in
      let a = bind_ok (read at bytes off) (λ x. parts_step w (read at bytes) n (off + w) >>= λ ys. Ok (x ∷ ys)) xs e in
      let b = bind_ok (parts_step w (read at bytes) n (off + w)) (λ ys. Ok (a.0 ∷ ys)) xs a.2 in
      let t = one.takes at bytes off a.0 h (omega (arith, long, k)) a.1 in
      let ts = parts_take n at bytes (off + w) b.0 h (omega (arith, long, k)) b.1 in
      let made : List A = a.0 ∷ b.0 in
      let fits : Fits (part bytes off (w * suc n)) (items_cells cells made) = rw (k, part-add bytes off w (w * n)) (Fits-append (part bytes off w) (part bytes (off + w) (w * n)) (cells a.0) (items_cells cells b.0) t.0 ts.0) in
      subst (λ (ys : List A). Fits (part bytes off (w * suc n)) (items_cells cells ys) × (Each Is ys × (length ys ≡ suc n))) (ok_same made xs (Ok made) refl b.2) (fits, ((t.1, ts.1.0), ap suc ts.1.1))

  parts_wide : (xs : List A) → Each Is xs → length (items_cells cells xs) ≡ w * length xs
  unfolding items_cells Each
  parts_wide [] are = omega arith
  parts_wide (x ∷ xs) are = omega (arith, mul-suc w (length xs), length-append (cells x) (items_cells cells xs), one.wide x are.0, parts_wide xs are.1)

  parts_again : (at : ℕ) (bytes : List ℕ) (off : ℕ) (xs : List A) → Each Is xs → Fits (part bytes off (w * length xs)) (items_cells cells xs) → parts_read (length xs) at bytes off ≡ Ok xs
  unfolding parts_step items_cells Each
  parts_again at bytes off [] are f = refl
  parts_again at bytes off (x ∷ xs) are f =
      let k : w * suc (length xs) ≡ w + w * length xs = omega (arith, mul-suc w (length xs)) in
      let t = two_parts bytes off w (w * length xs) (cells x) (items_cells cells xs) (one.wide x are.0) (parts_wide xs are.1) (rw k at f) in
      rw (one.again at bytes off x are.0 t.0, parts_again at bytes (off + w) xs are.1 t.1) refl

  pub equal_parts : (n : ℕ) → IsPart (w * n) (parts_read n) (λ xs. items_cells cells xs) (λ xs. Each Is xs × (length xs ≡ n))
  equal_parts n = record {
    takes = λ at bytes off xs h long e. parts_take n at bytes off xs h long e;
    again = λ at bytes off xs is f. ap (λ (m : ℕ). parts_read m at bytes off) (sym is.1) ∙ parts_again at bytes off xs is.0 (subst (λ (m : ℕ). Fits (part bytes off (w * m)) (items_cells cells xs)) (sym is.1) f);
    wide = λ xs is. parts_wide xs is.0 ∙ ap (λ (m : ℕ). w * m) is.1;
  }

-- ---- parts one after another

-- each part fits where it stands
abbrev pub FitsAt : List ℕ → ℕ → List ℕ → List (List Cell) → Type 0
FitsAt bytes off [] [] = Unit {0}
FitsAt bytes off [] (c ∷ cs) = ⊥
FitsAt bytes off (w ∷ ws) [] = ⊥
FitsAt bytes off (w ∷ ws) (c ∷ cs) = Fits (part bytes off w) c × FitsAt bytes (off + w) ws cs

abbrev pub total : List ℕ → ℕ
total [] = 0
total (w ∷ ws) = w + total ws

pub fits_joined : (bytes : List ℕ) (off : ℕ) (ws : List ℕ) (cs : List (List Cell)) → FitsAt bytes off ws cs → Fits (part bytes off (total ws)) (joined_cells cs)
unfolding Fits
fits_joined bytes off [] [] f = tt
fits_joined bytes off [] (c ∷ cs) f = absurd f
fits_joined bytes off (w ∷ ws) [] f = absurd f
fits_joined bytes off (w ∷ ws) (c ∷ cs) f = rw (part-add bytes off w (total ws)) (Fits-append (part bytes off w) (part bytes (off + w) (total ws)) c (joined_cells cs) f.0 (fits_joined bytes (off + w) ws cs f.1))

-- the parts have these widths
abbrev pub Wide : List ℕ → List (List Cell) → Type 0
Wide [] [] = Unit {0}
Wide [] (c ∷ cs) = ⊥
Wide (w ∷ ws) [] = ⊥
Wide (w ∷ ws) (c ∷ cs) = (length c ≡ w) × Wide ws cs

pub joined_fits : (bytes : List ℕ) (off : ℕ) (ws : List ℕ) (cs : List (List Cell)) (front rest : List ℕ) → Wide ws cs → drop off bytes ≡ front ++ rest → Fits front (joined_cells cs) → FitsAt bytes off ws cs × (length front ≡ total ws)
unfolding Fits
joined_fits bytes off [] [] front rest wide e f = (tt, Fits-length front [] f)
joined_fits bytes off [] (c ∷ cs) front rest wide e f = absurd wide
joined_fits bytes off (w ∷ ws) [] front rest wide e f = absurd wide
joined_fits bytes off (w ∷ ws) (c ∷ cs) front rest wide e f =
    let parts = Fits-split front c (joined_cells cs) f in
    let len : length parts.first ≡ w = Fits-length parts.first c parts.fits_first ∙ wide.0 in
    let here : drop off bytes ≡ parts.first ++ (parts.second ++ rest) = e ∙ ap (λ (t : List ℕ). t ++ rest) parts.whole ∙ append_assoc parts.first parts.second rest in
    let is : part bytes off w ≡ parts.first = ap (take w) here ∙ take_at parts.first (parts.second ++ rest) w len in
    let after : drop (off + w) bytes ≡ parts.second ++ rest = sym (drop-drop w off bytes) ∙ ap (drop w) here ∙ drop_at parts.first (parts.second ++ rest) w len in
    let others = joined_fits bytes (off + w) ws cs parts.second rest wide.1 after parts.fits_second in
    ((rw is parts.fits_first, others.0), omega (arith, ap length parts.whole, length-append parts.first parts.second, len, others.1))
