-- The laws of widgets: the head with its vendor arrays, and the controls after it.
use Rattle.std.proofs.Common.{◌≡◌, ℕ, ◌+◌, inl, inr, Bool, true, false, ◌&&◌, cond, List, [], ◌∷◌, ◌++◌, length, Option, Some, None, Result, Ok, Err, refl, sym, ap, subst, ◌∙◌}
use Rattle.tplg_model.specs.declared.fault.TplgFault.{TplgFault}
use Rattle.tplg_model.specs.declared.fault.TplgFault.TheVariants.{Name, Tokens}
use Rattle.tplg_model.specs.declared.tokens.TokenArray.{TokenArray}
use Rattle.tplg_model.specs.declared.control.Control.{Control}
use Rattle.tplg_model.specs.declared.widget.Widget.{Widget}
use Rattle.sof_base.specs.Cells.{Fits}
use Rattle.sof_base.specs.Slots.{Slot, Word, Half, Size, Label, Words, Raw, slots_cells, AreSlots, part, word_at, half_at, has_name}
use Rattle.sof_base.specs.Layouts.{words_at, name_at}
use Rattle.sof_base.specs.Layouts.{Shape, A_word, A_half, A_size, A_name, A_words}
use Rattle.sof_base.proofs.FieldLaws.{IsBytes, IsBytes-part, length-part, length-words}
use Rattle.tplg_model.specs.Arrays.{Each, ArrayFault, arrays_spelling}
use Rattle.tplg_model.specs.ArrayReading.{arrays_of}
use Rattle.tplg_model.specs.Outcomes.{◌>>=◌}
use Rattle.tplg_model.specs.Spelling.{items_cells, WidgetHead, widget_head_slots, widget_head_cells, IsWidgetHead, head_of, widget_cells, IsWidget, control_cells, IsControl}
use Rattle.tplg_model.specs.Reading.{tail_size, label_at, or_tokens, widget_head_with, widget_head_step, kcontrol_count, control_step, headed_at, widget_with, widget_step}
use Rattle.tplg_model.specs.File.{sized_fault, WidgetHeadFault, WidgetFault}
use Rattle.tplg_model.specs.RecordFaults.{ControlFault}
use Rattle.tplg_model.proofs.ArrayListLaws.{read_is, read_written, fault_is, fault_again}
use Rattle.tplg_model.proofs.FaultLaws.{bind_ok, At_first, Later, bind_err, ok_same, only_first}
use Rattle.tplg_model.proofs.ItemLaws.{Took, IsItem, IsFault, headed_item, headed_is_fault}
use Rattle.tplg_model.proofs.KindLaws.{number, text, pick, tail_is, SizedKind, sized_step, sized_takes, sized_again, sized_found, sized_only}
use Rattle.tplg_model.proofs.ControlLaws.{control_item, control_is_fault}

-- ---- a head whose private data are any bytes

record RawHead : Type 0 where
  id : ℕ
  name : List ℕ
  sname : List ℕ
  words : List ℕ
  event_flags : ℕ
  event_type : ℕ
  num_kcontrols : ℕ
  private : List ℕ

raw_slots : RawHead → List Slot
raw_slots w =
    Size 132 ∷ Word w.id ∷ Label w.name ∷ Label w.sname ∷ Words w.words ∷ Half w.event_flags ∷ Half w.event_type ∷ Word w.num_kcontrols
    ∷ Word (length w.private) ∷ Raw w.private ∷ []

raw_of : ℕ → List ℕ → RawHead
raw_of n bytes = record {
  id = word_at bytes 4;
  name = name_at bytes 8;
  sname = name_at bytes 52;
  words = words_at 6 bytes 96;
  event_flags = half_at bytes 120;
  event_type = half_at bytes 122;
  num_kcontrols = word_at bytes 124;
  private = part bytes 132 n;
}

raw_from : List Slot → RawHead
raw_from ss = record {
  id = number (pick 1 ss);
  name = text (pick 2 ss);
  sname = text (pick 3 ss);
  words = text (pick 4 ss);
  event_flags = number (pick 5 ss);
  event_type = number (pick 6 ss);
  num_kcontrols = number (pick 7 ss);
  private = text (pick 9 ss);
}

abbrev head_shapes : List Shape
head_shapes = A_size 132 ∷ A_word ∷ A_name ∷ A_name ∷ A_words 6 ∷ A_half ∷ A_half ∷ A_word ∷ A_word ∷ []

abbrev AnyBytes : List ℕ → Type 0
AnyBytes bytes = Unit {0}

abbrev HasSix : RawHead → Type 0
HasSix w = length w.words ≡ 6

abbrev private_of : RawHead → ℕ
private_of w = length w.private

raw_kind : SizedKind 132 head_shapes raw_of raw_slots private_of AnyBytes HasSix
unfolding raw_slots raw_of raw_from pick number text
raw_kind = record {
  wide = refl;
  is = λ bytes n h k e long. rw (length-part bytes 132 n long, e) refl;
  rest = λ bytes n h k long. length-words 6 bytes 96;
  shape = λ w is. rw is refl;
  back = λ bytes w is e. (ap (λ (ss : List Slot). number (pick 8 ss)) e, ap raw_from e);
}

-- ---- and then its private data are arrays

with_tokens : RawHead → List TokenArray → WidgetHead
with_tokens w tokens = record {
  id = w.id;
  name = w.name;
  sname = w.sname;
  words = w.words;
  event_flags = w.event_flags;
  event_type = w.event_type;
  num_kcontrols = w.num_kcontrols;
  tokens = tokens;
}

abbrev then_tokens : ℕ → RawHead × ℕ → Result (WidgetHead × ℕ) TplgFault
then_tokens at x = or_tokens at (arrays_of x.0.private) >>= λ tokens. Ok (with_tokens x.0 tokens, x.1)

two_names : {A C : Type 0} (r : Result ℕ TplgFault) (a b : Bool) (q : TplgFault) (x y : List ℕ) (made : ℕ → A) (g : ℕ → List ℕ → List ℕ → Result C TplgFault) (h : A → Result C TplgFault)
    → ((n : ℕ) → g n x y ≡ h (made n))
    → (r >>= λ n. cond a (Ok x) (Err q) >>= λ i. cond b (Ok y) (Err q) >>= λ j. g n i j) ≡ ((r >>= λ n. cond (a && (b && true)) (Ok (made n)) (Err q)) >>= h)
two_names (Err e) a b q x y made g h same = refl
two_names (Ok n) false b q x y made g h same = refl
two_names (Ok n) true false q x y made g h same = refl
two_names (Ok n) true true q x y made g h same = same n

abbrev raw_step : ℕ → List ℕ → Result (RawHead × ℕ) TplgFault
raw_step at bytes = sized_step 132 head_shapes raw_of at bytes

head_same : (at : ℕ) (bytes : List ℕ) → widget_head_step at bytes ≡ (raw_step at bytes >>= then_tokens at)
unfolding widget_head_step label_at raw_of with_tokens
head_same at bytes =
    two_names (tail_size 132 at bytes) (has_name bytes 8) (has_name bytes 52) (Name at) (name_at bytes 8) (name_at bytes 52) (λ n. (raw_of n bytes, 132 + n))
    (λ n name sname. or_tokens at (arrays_of (part bytes 132 n)) >>= λ tokens. Ok (widget_head_with name sname tokens bytes, 132 + n)) (then_tokens at) (λ n. refl)

tokens_ok : (at : ℕ) (r : Result (List TokenArray) ArrayFault) (xs : List TokenArray) → or_tokens at r ≡ Ok xs → r ≡ Ok xs
tokens_ok at (Ok ys) xs e = let same : ys ≡ xs = cc in ap (λ (zs : List TokenArray). Ok zs) same
tokens_ok at (Err d) xs e = absurd cc

tokens_err : (at : ℕ) (r : Result (List TokenArray) ArrayFault) (f : TplgFault) → or_tokens at r ≡ Err f → ((e : ArrayFault) × (r ≡ Err e)) × (f ≡ Tokens at)
tokens_err at (Ok ys) f e = absurd cc
tokens_err at (Err d) f e = ((d, refl), cc)

-- the bytes of private data are the program's
private_bytes : (bytes : List ℕ) (n : ℕ) → IsBytes bytes → IsBytes (part bytes 132 n)
private_bytes bytes n h = IsBytes-part bytes 132 n h

-- what a raw head that was read holds as private data
raw_private : (at : ℕ) (bytes : List ℕ) (x : RawHead × ℕ) → raw_step at bytes ≡ Ok x → x.0.private ≡ part bytes 132 (word_at bytes 128)
unfolding raw_of
raw_private at bytes x e =
    let a = bind_ok (tail_size 132 at bytes) (λ n. cond (has_name bytes 8 && (has_name bytes 52 && true)) (Ok (raw_of n bytes, 132 + n)) (Err (Name at))) x e in
    let t = tail_is 132 at bytes a.0 a.1 in
    let m = last (has_name bytes 8 && (has_name bytes 52 && true)) (Name at) (raw_of a.0 bytes, 132 + a.0) x a.2 in
    ap (λ (p : RawHead × ℕ). p.0.private) (sym m) ∙ ap (part bytes 132) (sym t.is)
  where
    last : (b : Bool) (f : TplgFault) (x y : RawHead × ℕ) → cond b (Ok x) (Err f) ≡ Ok y → x ≡ y
    last true f x y e = cc
    last false f x y e = absurd cc

head_takes : (at : ℕ) (bytes : List ℕ) (x : WidgetHead) (n : ℕ) → IsBytes bytes → widget_head_step at bytes ≡ Ok (x, n) → Took bytes (widget_head_cells x) n × IsWidgetHead x
unfolding raw_slots with_tokens
head_takes at bytes x n h e =
    let a = bind_ok (raw_step at bytes) (then_tokens at) (x, n) (sym (head_same at bytes) ∙ e) in
    let b = bind_ok (or_tokens at (arrays_of a.0.0.private)) (λ tokens. Ok (with_tokens a.0.0 tokens, a.0.1)) (x, n) a.2 in
    let raw = sized_takes 132 head_shapes raw_of raw_slots private_of AnyBytes HasSix raw_kind at bytes a.0.0 a.0.1 h tt a.1 in
    let is_bytes : IsBytes a.0.0.private = subst IsBytes (sym (raw_private at bytes a.0 a.1)) (private_bytes bytes (word_at bytes 128) h) in
    let arrays = read_is a.0.0.private b.0 is_bytes (tokens_ok at (arrays_of a.0.0.private) b.0 b.1) in
    let made : WidgetHead × ℕ = (with_tokens a.0.0 b.0, a.0.1) in
    let slots : raw_slots a.0.0 ≡ widget_head_slots made.0 =
    ap (λ (bs : List ℕ). Size 132 ∷ Word a.0.0.id ∷ Label a.0.0.name ∷ Label a.0.0.sname ∷ Words a.0.0.words ∷ Half a.0.0.event_flags ∷ Half a.0.0.event_type ∷ Word a.0.0.num_kcontrols ∷ Word (length bs) ∷ Raw bs ∷ []) arrays.0 in
    let took : Took bytes (widget_head_cells made.0) made.1 = subst (λ (ss : List Slot). Took bytes (slots_cells ss) a.0.1) slots raw.0 in
    let are : AreSlots (widget_head_slots made.0) = subst AreSlots slots raw.1.0 in
    subst (λ (p : WidgetHead × ℕ). Took bytes (widget_head_cells p.0) p.1 × IsWidgetHead p.0) (ok_same made (x, n) (Ok made) refl b.2)
    (took, record { slots = are; words = raw.1.1; tokens = arrays.1 })

raw_head : WidgetHead → RawHead
raw_head x = record {
  id = x.id;
  name = x.name;
  sname = x.sname;
  words = x.words;
  event_flags = x.event_flags;
  event_type = x.event_type;
  num_kcontrols = x.num_kcontrols;
  private = arrays_spelling x.tokens;
}

head_again : (at : ℕ) (x : WidgetHead) (front rest : List ℕ) → IsWidgetHead x → Fits front (widget_head_cells x) → widget_head_step at (front ++ rest) ≡ Ok (x, length front)
unfolding raw_slots raw_head with_tokens
head_again at x front rest is f =
    let raw = sized_again 132 head_shapes raw_of raw_slots private_of AnyBytes HasSix raw_kind at (raw_head x) front rest (is.slots, is.words) f in
    let tokens = read_written x.tokens is.tokens in
    head_same at (front ++ rest) ∙ (rw (raw, tokens) refl)

pub head_item : IsItem widget_head_step widget_head_cells IsWidgetHead
head_item = record { takes = head_takes; again = head_again }

-- ---- the fault of a head

head_found : (at : ℕ) (bytes : List ℕ) (f : TplgFault) → IsBytes bytes → widget_head_step at bytes ≡ Err f → WidgetHeadFault at bytes f
head_found at bytes f h e =
    elim (bind_err (raw_step at bytes) (then_tokens at) f (sym (head_same at bytes) ∙ e)) [
      | At_first e1 ↦ inl (sized_found 132 head_shapes (8 ∷ 52 ∷ []) raw_of (λ b. refl) at bytes f e1)
      | Later x e1 e2 ↦
          let t = tokens_err at (arrays_of x.0.private) f (only_first (or_tokens at (arrays_of x.0.private)) (λ tokens. (with_tokens x.0 tokens, x.1)) f e2) in
          let private = raw_private at bytes x e1 in
          let refused : arrays_of (part bytes 132 (word_at bytes 128)) ≡ Err t.0.0 = subst (λ (bs : List ℕ). arrays_of bs ≡ Err t.0.0) private t.0.1 in
          inr (no_fault at bytes x e1, ((t.0.0, fault_is (part bytes 132 (word_at bytes 128)) t.0.0 (private_bytes bytes (word_at bytes 128) h) refused), t.1))
    ]
  where
    no_fault : (at : ℕ) (bytes : List ℕ) (x : RawHead × ℕ) → raw_step at bytes ≡ Ok x → sized_fault 132 (8 ∷ 52 ∷ []) at bytes ≡ None
    no_fault at bytes x e = none_or (sized_fault 132 (8 ∷ 52 ∷ []) at bytes) (λ g p. clash g (sized_only 132 head_shapes (8 ∷ 52 ∷ []) raw_of (λ b. refl) at bytes g p))
      where
        clash : (g : TplgFault) → raw_step at bytes ≡ Err g → ⊥
        clash g q = absurd cc

        none_or : (o : Option TplgFault) → ((g : TplgFault) → o ≡ Some g → ⊥) → o ≡ None
        none_or None none_is = refl
        none_or (Some g) none_is = absurd (none_is g refl)

head_only : (at : ℕ) (bytes : List ℕ) (f : TplgFault) → WidgetHeadFault at bytes f → widget_head_step at bytes ≡ Err f
head_only at bytes f (inl bad) = head_same at bytes ∙ (rw (sized_only 132 head_shapes (8 ∷ 52 ∷ []) raw_of (λ b. refl) at bytes f bad) refl)
head_only at bytes f (inr q) = head_same at bytes ∙ from_raw (raw_step at bytes) refl
  where
    from_raw : (r : Result (RawHead × ℕ) TplgFault) → raw_step at bytes ≡ r → (r >>= then_tokens at) ≡ Err f
    from_raw (Err g) e =
        let bad = sized_found 132 head_shapes (8 ∷ 52 ∷ []) raw_of (λ b. refl) at bytes g e in
        let good : sized_fault 132 (8 ∷ 52 ∷ []) at bytes ≡ None = q.0 in
        absurd cc
    from_raw (Ok x) e =
        let refused : arrays_of x.0.private ≡ Err q.1.0.0 = subst (λ (bs : List ℕ). arrays_of bs ≡ Err q.1.0.0) (sym (raw_private at bytes x e)) (fault_again (part bytes 132 (word_at bytes 128)) q.1.0.0 q.1.0.1) in
        rw refused (ap (λ (g : TplgFault). Err g) (sym q.1.1))

pub head_is_fault : IsFault widget_head_step WidgetHeadFault
head_is_fault = record { found = head_found; only = head_only }

-- ---- the head and its controls

abbrev Headed : Type 0
Headed = WidgetHead × List Control

abbrev headed_step : ℕ → List ℕ → Result (Headed × ℕ) TplgFault
headed_step at bytes = headed_at widget_head_step kcontrol_count control_step at bytes

abbrev headed_kind : IsItem headed_step (λ (x : Headed). widget_head_cells x.0 ++ items_cells control_cells x.1) (λ (x : Headed). IsWidgetHead x.0 × (Each IsControl x.1 × (length x.1 ≡ kcontrol_count x.0)))
headed_kind = headed_item widget_head_step widget_head_cells IsWidgetHead head_item kcontrol_count control_step control_cells IsControl control_item

-- a head whose number is that of its controls is the head of its widget
head_again_is : (head : WidgetHead) (controls : List Control) → length controls ≡ head.num_kcontrols → head_of (widget_with head controls) ≡ head
head_again_is head controls e = rw e refl

widget_takes : (at : ℕ) (bytes : List ℕ) (x : Widget) (n : ℕ) → IsBytes bytes → widget_step at bytes ≡ Ok (x, n) → Took bytes (widget_cells x) n × IsWidget x
unfolding widget_step
widget_takes at bytes x n h e =
    let a = bind_ok (headed_step at bytes) (λ y. Ok (widget_with y.0.0 y.0.1, y.1)) (x, n) e in
    let t = headed_kind.takes at bytes a.0.0 a.0.1 h a.1 in
    let made : Widget × ℕ = (widget_with a.0.0.0 a.0.0.1, a.0.1) in
    let head = sym (head_again_is a.0.0.0 a.0.0.1 t.1.1.1) in
    let took : Took bytes (widget_cells made.0) made.1 = subst (λ (w : WidgetHead). Took bytes (widget_head_cells w ++ items_cells control_cells a.0.0.1) a.0.1) head t.0 in
    let is_head : IsWidgetHead (head_of made.0) = subst IsWidgetHead head t.1.0 in
    subst (λ (p : Widget × ℕ). Took bytes (widget_cells p.0) p.1 × IsWidget p.0) (ok_same made (x, n) (Ok made) refl a.2) (took, record { head = is_head; controls = t.1.1.0 })

widget_again : (at : ℕ) (x : Widget) (front rest : List ℕ) → IsWidget x → Fits front (widget_cells x) → widget_step at (front ++ rest) ≡ Ok (x, length front)
unfolding widget_step
widget_again at x front rest is f =
    let again = headed_kind.again at (head_of x, x.controls) front rest (is.head, (is.controls, refl)) f in
    rw again refl

pub widget_item : IsItem widget_step widget_cells IsWidget
widget_item = record { takes = widget_takes; again = widget_again }

abbrev headed_fault_is : IsFault headed_step WidgetFault
headed_fault_is = headed_is_fault widget_head_step widget_head_cells IsWidgetHead head_item kcontrol_count control_step control_cells IsControl control_item WidgetHeadFault ControlFault head_is_fault control_is_fault

widget_found : (at : ℕ) (bytes : List ℕ) (f : TplgFault) → IsBytes bytes → widget_step at bytes ≡ Err f → WidgetFault at bytes f
unfolding widget_step
widget_found at bytes f h e = headed_fault_is.found at bytes f h (only_first (headed_step at bytes) (λ y. (widget_with y.0.0 y.0.1, y.1)) f e)

widget_only : (at : ℕ) (bytes : List ℕ) (f : TplgFault) → WidgetFault at bytes f → widget_step at bytes ≡ Err f
unfolding widget_step
widget_only at bytes f q = rw (headed_fault_is.only at bytes f q) refl

pub widget_is_fault : IsFault widget_step WidgetFault
widget_is_fault = record { found = widget_found; only = widget_only }
