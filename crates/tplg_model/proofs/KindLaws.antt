-- The laws of a record whose last word is the size of the private data after it, from what is special to its kind.
use Rattle.std.proofs.Common.{◌≡◌, ℕ, zero, suc, ◌+◌, ◌-◌, ◌≤◌, Bool, true, false, ◌&&◌, cond, ltb, List, [], ◌∷◌, ◌++◌, length, take, Some, None, Result, Ok, Err, refl, sym, ap, subst, ◌∙◌, arith, length-append}
use Rattle.std.proofs.lemmas.Bool.{ltb-false, le-ltb}
use Rattle.tplg_model.specs.declared.fault.TplgFault.{TplgFault}
use Rattle.tplg_model.specs.declared.fault.TplgFault.TheVariants.{Payload, Name}
use Rattle.sof_base.specs.Cells.{Fits}
use Rattle.sof_base.specs.Slots.{Slot, Word, Half, Long, Size, Label, Words, Raw, Spare, slots_cells, AreSlots, word_at}
use Rattle.sof_base.specs.Layouts.{Shape, Bytes, shape_width, widths, slots_from, all_named, shapes_of}
use Rattle.sof_base.proofs.FieldLaws.{IsBytes, slots_read, slots_again, length-slots}
use Rattle.sof_base.proofs.Fitting.{Fits-length}
use Rattle.tplg_model.specs.Outcomes.{◌>>=◌}
use Rattle.tplg_model.specs.Reading.{tail_size}
use Rattle.tplg_model.specs.File.{have_names, sized_fault}
use Rattle.tplg_model.proofs.FaultLaws.{bind_ok, passed_last}
use Rattle.tplg_model.proofs.ItemLaws.{Took}

-- ---- the fields of a list of fields

unfoldable pub number : Slot → ℕ
number (Word n) = n
number (Half n) = n
number (Long n) = n
number (Size n) = n
number (Label name) = 0
number (Words ns) = 0
number (Raw bytes) = 0
number (Spare bytes) = 0

unfoldable pub text : Slot → List ℕ
text (Word n) = []
text (Half n) = []
text (Long n) = []
text (Size n) = []
text (Label name) = name
text (Words ns) = ns
text (Raw bytes) = bytes
text (Spare bytes) = bytes

unfoldable pub pick : ℕ → List Slot → Slot
pick n [] = Size 0
pick zero (s ∷ ss) = s
pick (suc n) (s ∷ ss) = pick n ss

-- ---- what a size word says

pub record Tail (width n : ℕ) (bytes : List ℕ) : Type 0 where
  pub room : width + n ≤ length bytes
  pub is : word_at bytes (width - 4) ≡ n

two_tests : (a b : Bool) (f : TplgFault) (m n : ℕ) → cond a (Err f) (cond b (Err f) (Ok m)) ≡ Ok n → (a ≡ false) × (b ≡ false) × (m ≡ n)
two_tests true b f m n e = absurd cc
two_tests false true f m n e = absurd cc
two_tests false false f m n e = (refl, refl, cc)

pub tail_is : (width at : ℕ) (bytes : List ℕ) (n : ℕ) → tail_size width at bytes ≡ Ok n → Tail width n bytes
unfolding tail_size
tail_is width at bytes n e =
    let t = two_tests (ltb (length bytes) width) (ltb (length bytes - width) (word_at bytes (width - 4))) (Payload at) (word_at bytes (width - 4)) n e in
    let long : width ≤ length bytes = ltb-false _ _ t.0 in
    let room : word_at bytes (width - 4) ≤ length bytes - width = ltb-false _ _ t.1 in
    record { room = omega (arith, long, room, t.2); is = t.2 }

pub tail_again : (width at : ℕ) (bytes : List ℕ) (n : ℕ) → Tail width n bytes → tail_size width at bytes ≡ Ok n
unfolding tail_size
tail_again width at bytes n t =
    let long : ltb (length bytes) width ≡ false = le-ltb _ _ (omega (arith, t.room)) in
    let room : ltb (length bytes - width) n ≡ false = le-ltb _ _ (omega (arith, t.room)) in
    rw (long, t.is, room) refl

-- ---- the step of every such record

abbrev pub sized_step : {A : Type 0} → ℕ → List Shape → (ℕ → List ℕ → A) → ℕ → List ℕ → Result (A × ℕ) TplgFault
sized_step w head make at bytes = tail_size w at bytes >>= λ n. cond (all_named head bytes 0 0) (Ok (make n bytes, w + n)) (Err (Name at))

-- one name, and then no fault
pub one_name : {A : Type 0} (r : Result ℕ TplgFault) (b : Bool) (f : TplgFault) (name : List ℕ) (g : ℕ → List ℕ → A)
    → (r >>= λ n. cond b (Ok name) (Err f) >>= λ m. Ok (g n m)) ≡ (r >>= λ n. cond (b && true) (Ok (g n name)) (Err f))
one_name (Err e) b f name g = refl
one_name (Ok n) true f name g = refl
one_name (Ok n) false f name g = refl

pub record SizedKind {A : Type 0} (w : ℕ) (head : List Shape) (make : ℕ → List ℕ → A) (slots : A → List Slot) (size : A → ℕ) (Kind : List ℕ → Type 0) (Rest : A → Type 0) : Type 0 where
  pub wide : widths head ≡ w
  pub is : (bytes : List ℕ) (n : ℕ) → IsBytes bytes → Kind bytes → word_at bytes (w - 4) ≡ n → w + n ≤ length bytes → slots (make n bytes) ≡ slots_from (head ++ Bytes n ∷ []) bytes 0 0
  pub rest : (bytes : List ℕ) (n : ℕ) → IsBytes bytes → Kind bytes → w + n ≤ length bytes → Rest (make n bytes)
  pub shape : (x : A) → Rest x → shapes_of (slots x) ≡ head ++ Bytes (size x) ∷ []
  pub back : (bytes : List ℕ) (x : A) → Rest x → slots_from (head ++ Bytes (size x) ∷ []) bytes 0 0 ≡ slots x → (word_at bytes (w - 4) ≡ size x) × (make (size x) bytes ≡ x)

widths-more : (head : List Shape) (n : ℕ) → widths (head ++ Bytes n ∷ []) ≡ widths head + n
widths-more [] n = omega arith
widths-more (s ∷ head) n = omega (arith, widths-more head n)

named-more : (head : List Shape) (n : ℕ) (bytes : List ℕ) (at off : ℕ) → all_named (head ++ Bytes n ∷ []) bytes at off ≡ all_named head bytes at off
named-more [] n bytes at off = refl
named-more (s ∷ head) n bytes at off = rw (named-more head n bytes at (off + shape_width s)) refl

module _ {A : Type 0} (w : ℕ) (head : List Shape) (make : ℕ → List ℕ → A) (slots : A → List Slot) (size : A → ℕ) (Kind : List ℕ → Type 0) (Rest : A → Type 0) (k : SizedKind w head make slots size Kind Rest) where
  pub sized_takes : (at : ℕ) (bytes : List ℕ) (x : A) (n : ℕ) → IsBytes bytes → Kind bytes → sized_step w head make at bytes ≡ Ok (x, n) → Took bytes (slots_cells (slots x)) n × (AreSlots (slots x) × Rest x)
  sized_takes at bytes x n h is e =
      let a = bind_ok (tail_size w at bytes) (λ m. cond (all_named head bytes 0 0) (Ok (make m bytes, w + m)) (Err (Name at))) (x, n) e in
      let m = a.0 in
      let t = tail_is w at bytes m a.1 in
      let d = passed_last (all_named head bytes 0 0) (Name at) (make m bytes, w + m) (x, n) a.2 in
      let full = head ++ Bytes m ∷ [] in
      let all : widths full ≡ w + m = widths-more head m ∙ ap (λ (v : ℕ). v + m) k.wide in
      let r = slots_read full bytes 0 0 h (omega (arith, t.room, all)) (named-more head m bytes 0 0 ∙ d.0) in
      let fits : Fits (take (w + m) bytes) (slots_cells (slots_from full bytes 0 0)) = subst (λ (v : ℕ). Fits (take v bytes) (slots_cells (slots_from full bytes 0 0))) all r.0 in
      let same = sym (k.is bytes m h is t.is t.room) in
      let took : Took bytes (slots_cells (slots (make m bytes))) (w + m) = subst (λ (ss : List Slot). Took bytes (slots_cells ss) (w + m)) same (record { within = t.room; fits = fits }) in
      let are : AreSlots (slots (make m bytes)) = subst AreSlots same r.1 in
      subst (λ (p : A × ℕ). Took bytes (slots_cells (slots p.0)) p.1 × (AreSlots (slots p.0) × Rest p.0)) d.1 (took, (are, k.rest bytes m h is t.room))

  -- what is spelled at the front, as fields
  pub record Spelled (x : A) (front bytes : List ℕ) : Type 0 where
    pub slots_are : slots_from (head ++ Bytes (size x) ∷ []) bytes 0 0 ≡ slots x
    pub ok : all_named head bytes 0 0 ≡ true
    pub len : length front ≡ w + size x

  pub sized_spelled : (x : A) (front rest : List ℕ) → AreSlots (slots x) × Rest x → Fits front (slots_cells (slots x)) → Spelled x front (front ++ rest)
  sized_spelled x front rest is f =
      let bytes = front ++ rest in
      let full = head ++ Bytes (size x) ∷ [] in
      let shape = k.shape x is.1 in
      let r = slots_again (slots x) bytes front rest 0 0 is.0 refl f in
      record {
        slots_are = ap (λ (s : List Shape). slots_from s bytes 0 0) (sym shape) ∙ r.slots;
        ok = sym (named-more head (size x) bytes 0 0) ∙ ap (λ (s : List Shape). all_named s bytes 0 0) (sym shape) ∙ r.ok;
        len = Fits-length front (slots_cells (slots x)) f ∙ length-slots (slots x) is.0 ∙ ap widths shape ∙ widths-more head (size x) ∙ ap (λ (v : ℕ). v + size x) k.wide;
      }

  pub sized_again : (at : ℕ) (x : A) (front rest : List ℕ) → AreSlots (slots x) × Rest x → Fits front (slots_cells (slots x)) → sized_step w head make at (front ++ rest) ≡ Ok (x, length front)
  sized_again at x front rest is f =
      let bytes = front ++ rest in
      let s = sized_spelled x front rest is f in
      let b = k.back bytes x is.1 s.slots_are in
      let tail = tail_again w at bytes (size x) (record { room = omega (arith, s.len, length-append front rest); is = b.0 }) in
      rw (tail, s.ok, b.1, s.len) refl

-- ---- faults

pub found_by_tests : {A : Type 0} (a b c : Bool) (p q : TplgFault) (m : ℕ) (g : ℕ → A) (f : TplgFault)
    → (cond a (Err p) (cond b (Err p) (Ok m)) >>= λ n. cond c (Ok (g n)) (Err q)) ≡ Err f → cond a (Some p) (cond b (Some p) (cond c None (Some q))) ≡ Some f
found_by_tests true b c p q m g f e = cc
found_by_tests false true c p q m g f e = cc
found_by_tests false false true p q m g f e = absurd cc
found_by_tests false false false p q m g f e = cc

pub only_by_tests : {A : Type 0} (a b c : Bool) (p q : TplgFault) (m : ℕ) (g : ℕ → A) (f : TplgFault)
    → cond a (Some p) (cond b (Some p) (cond c None (Some q))) ≡ Some f → (cond a (Err p) (cond b (Err p) (Ok m)) >>= λ n. cond c (Ok (g n)) (Err q)) ≡ Err f
only_by_tests true b c p q m g f e = cc
only_by_tests false true c p q m g f e = cc
only_by_tests false false true p q m g f e = absurd cc
only_by_tests false false false p q m g f e = cc

module _ {A : Type 0} (w : ℕ) (head : List Shape) (names : List ℕ) (make : ℕ → List ℕ → A) (same : (bytes : List ℕ) → all_named head bytes 0 0 ≡ have_names bytes names) where
  pub sized_found : (at : ℕ) (bytes : List ℕ) (f : TplgFault) → sized_step w head make at bytes ≡ Err f → sized_fault w names at bytes ≡ Some f
  unfolding tail_size
  sized_found at bytes f e =
      found_by_tests (ltb (length bytes) w) (ltb (length bytes - w) (word_at bytes (w - 4))) (have_names bytes names) (Payload at) (Name at) (word_at bytes (w - 4)) (λ n. (make n bytes, w + n)) f
      (ap (λ (b : Bool). tail_size w at bytes >>= λ n. cond b (Ok (make n bytes, w + n)) (Err (Name at))) (sym (same bytes)) ∙ e)

  pub sized_only : (at : ℕ) (bytes : List ℕ) (f : TplgFault) → sized_fault w names at bytes ≡ Some f → sized_step w head make at bytes ≡ Err f
  unfolding tail_size
  sized_only at bytes f e =
      ap (λ (b : Bool). tail_size w at bytes >>= λ n. cond b (Ok (make n bytes, w + n)) (Err (Name at))) (same bytes)
      ∙ only_by_tests (ltb (length bytes) w) (ltb (length bytes - w) (word_at bytes (w - 4))) (have_names bytes names) (Payload at) (Name at) (word_at bytes (w - 4)) (λ n. (make n bytes, w + n)) f e
