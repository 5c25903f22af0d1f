-- The laws of controls: mixers, enums and bytes controls.
use Rattle.std.proofs.Common.{◌≡◌, ℕ, ◌+◌, ◌≤◌, ◌<◌, ◌^◌, Bool, true, false, cond, eqb, ltb, List, [], ◌∷◌, ◌++◌, length, Option, Some, Result, Ok, Err, refl, sym, ap, ◌∙◌, arith, length-append}
use Rattle.std.proofs.lemmas.Bool.{eqb-true, eqb-false, ne_eqb, ltb-true, ltb-false, le-ltb, lt-ltb}
use Rattle.std.proofs.lemmas.Int.{to_z-of_z, of_z-to_z}
use Rattle.std.proofs.Math.Facts.{sfits_to_z}
use Rattle.std.specs.Int.{w32, cast_signed, cast_unsigned}
use Rattle.std.specs.Prelude.{FitsSigned}
use Rattle.tplg_model.specs.declared.fault.TplgFault.{TplgFault}
use Rattle.tplg_model.specs.declared.fault.TplgFault.TheVariants.{Payload, Name, ControlKind}
use Rattle.tplg_model.specs.declared.control.ControlHead.{ControlHead}
use Rattle.tplg_model.specs.declared.control.Control.{Control}
use Rattle.tplg_model.specs.declared.control.Control.TheVariants.{Mixer, Enum, Bytes as Data}
use Rattle.sof_base.specs.Cells.{Fits}
use Rattle.sof_base.specs.Slots.{Slot, word_at, has_name}
use Rattle.sof_base.specs.Layouts.{name_at}
use Rattle.sof_base.specs.Layouts.{Shape, A_word, A_size, A_name, A_words, Bytes, slots_from, shapes_of}
use Rattle.sof_base.proofs.FieldLaws.{IsBytes, length-part, length-words}
use Rattle.tplg_model.specs.Outcomes.{◌>>=◌}
use Rattle.tplg_model.specs.Spelling.{kcontrol_slots, control_cells, HasLengths, IsControl}
use Rattle.tplg_model.specs.Reading.{tail_size, label_at, control_head_with, mixer_with, mixer_step, enum_with, enum_step, bytes_with, bytes_step, unknown_step, control_step}
use Rattle.tplg_model.specs.File.{sized_fault, control_fault}
use Rattle.tplg_model.specs.RecordFaults.{ControlFault}
use Rattle.tplg_model.proofs.ElementLaws.{word_fits}
use Rattle.tplg_model.proofs.ItemLaws.{Took, IsItem, IsFault}
use Rattle.tplg_model.proofs.KindLaws.{number, text, pick, SizedKind, sized_step, one_name, sized_takes, sized_spelled, sized_again, sized_found, sized_only}

-- a control's kind
abbrev kind_of : Control → ℕ
kind_of (Mixer head min max platform_max invert num_channels channels private) = 1
kind_of (Enum head num_channels channels items mask count texts values private) = 4
kind_of (Data head max mask base num_regs ext_ops private) = 5

-- the size of its private data
abbrev size_of : Control → ℕ
size_of (Mixer head min max platform_max invert num_channels channels private) = length private
size_of (Enum head num_channels channels items mask count texts values private) = length private
size_of (Data head max mask base num_regs ext_ops private) = length private

-- bytes say that they are a control of a kind
abbrev SaysKind : ℕ → List ℕ → Type 0
SaysKind kind bytes = word_at bytes 64 ≡ kind

-- what a control of a kind is besides its fields
abbrev IsOf : ℕ → Control → Type 0
IsOf kind c = (kind_of c ≡ kind) × HasLengths c

abbrev head_shapes : List Shape → List Shape
head_shapes behind = A_size 204 ∷ A_word ∷ A_name ∷ A_word ∷ A_word ∷ A_word ∷ A_word ∷ A_word ∷ A_word ∷ A_words 32 ∷ behind

abbrev mixer_shapes : List Shape
mixer_shapes = head_shapes (A_size 360 ∷ A_word ∷ A_word ∷ A_word ∷ A_word ∷ A_word ∷ A_words 32 ∷ A_word ∷ [])

abbrev enum_shapes : List Shape
enum_shapes = head_shapes (A_size 1764 ∷ A_word ∷ A_words 32 ∷ A_word ∷ A_word ∷ A_word ∷ Bytes 704 ∷ A_words 176 ∷ A_word ∷ [])

abbrev bytes_shapes : List Shape
bytes_shapes = head_shapes (A_size 240 ∷ A_word ∷ A_word ∷ A_word ∷ A_word ∷ A_words 3 ∷ A_word ∷ [])

abbrev mixer_of : ℕ → List ℕ → Control
mixer_of n bytes = mixer_with n (name_at bytes 8) bytes

abbrev enum_of : ℕ → List ℕ → Control
enum_of n bytes = enum_with n (name_at bytes 8) bytes

abbrev bytes_of : ℕ → List ℕ → Control
bytes_of n bytes = bytes_with n (name_at bytes 8) bytes

head_from : List Slot → ControlHead
head_from ss = record {
  type_word = number (pick 1 ss);
  name = text (pick 2 ss);
  access = number (pick 3 ss);
  get = number (pick 4 ss);
  put = number (pick 5 ss);
  tlv_size = number (pick 7 ss);
  tlv_type = number (pick 8 ss);
  tlv = text (pick 9 ss);
}

-- ---- signed words

bits_again : (bytes : List ℕ) (at : ℕ) → IsBytes bytes → at + 4 ≤ length bytes → cast_unsigned w32 (cast_signed w32 (word_at bytes at)) ≡ word_at bytes at
bits_again bytes at h long = of_z-to_z w32 (word_at bytes at) (word_fits bytes at h long)

signed_fits : (bytes : List ℕ) (at : ℕ) → IsBytes bytes → at + 4 ≤ length bytes → FitsSigned w32 (cast_signed w32 (word_at bytes at))
signed_fits bytes at h long = let few : word_at bytes at < 2 ^ 32 = word_fits bytes at h long in sfits_to_z (record { fits = few })

-- ---- mixers

mixer_from : List Slot → Control
mixer_from ss =
    Mixer (head_from ss) (cast_signed w32 (number (pick 11 ss))) (cast_signed w32 (number (pick 12 ss))) (cast_signed w32 (number (pick 13 ss)))
    (number (pick 14 ss)) (number (pick 15 ss)) (text (pick 16 ss)) (text (pick 18 ss))

mixer_is : (bytes : List ℕ) (n : ℕ) → IsBytes bytes → SaysKind 1 bytes → word_at bytes 356 ≡ n → 360 + n ≤ length bytes → kcontrol_slots (mixer_of n bytes) ≡ slots_from (mixer_shapes ++ Bytes n ∷ []) bytes 0 0
unfolding control_head_with
mixer_is bytes n h k e long =
    let min = bits_again bytes 208 h (omega (arith, long)) in
    let max = bits_again bytes 212 h (omega (arith, long)) in
    let platform_max = bits_again bytes 216 h (omega (arith, long)) in
    rw (length-part bytes 360 n long, e, k, min, max, platform_max) refl

mixer_rest : (bytes : List ℕ) (n : ℕ) → IsBytes bytes → SaysKind 1 bytes → 360 + n ≤ length bytes → IsOf 1 (mixer_of n bytes)
unfolding control_head_with
mixer_rest bytes n h k long =
    let min = signed_fits bytes 208 h (omega (arith, long)) in
    let max = signed_fits bytes 212 h (omega (arith, long)) in
    let platform_max = signed_fits bytes 216 h (omega (arith, long)) in
    (refl, (length-words 32 bytes 76, (length-words 32 bytes 228, (min, (max, platform_max)))))

mixer_shape : (x : Control) → IsOf 1 x → shapes_of (kcontrol_slots x) ≡ mixer_shapes ++ Bytes (size_of x) ∷ []
mixer_shape (Mixer head min max platform_max invert num_channels channels private) is = rw (is.1.0, is.1.1.0) refl
mixer_shape (Enum head num_channels channels items mask count texts values private) is = absurd (omega (arith, is.0))
mixer_shape (Data head max mask base num_regs ext_ops private) is = absurd (omega (arith, is.0))

mixer_back : (bytes : List ℕ) (x : Control) → IsOf 1 x → slots_from (mixer_shapes ++ Bytes (size_of x) ∷ []) bytes 0 0 ≡ kcontrol_slots x → (word_at bytes 356 ≡ size_of x) × (mixer_of (size_of x) bytes ≡ x)
unfolding control_head_with mixer_from head_from pick number text
mixer_back bytes (Mixer head min max platform_max invert num_channels channels private) is e =
    let low = to_z-of_z w32 min is.1.1.1.0 in
    let high = to_z-of_z w32 max is.1.1.1.1.0 in
    let platform = to_z-of_z w32 platform_max is.1.1.1.1.1 in
    (ap (λ (ss : List Slot). number (pick 17 ss)) e, ap mixer_from e ∙ (rw (low, high, platform) refl))
mixer_back bytes (Enum head num_channels channels items mask count texts values private) is e = absurd (omega (arith, is.0))
mixer_back bytes (Data head max mask base num_regs ext_ops private) is e = absurd (omega (arith, is.0))

mixer_kind : SizedKind 360 mixer_shapes mixer_of kcontrol_slots size_of (SaysKind 1) (IsOf 1)
mixer_kind = record { wide = refl; is = mixer_is; rest = mixer_rest; shape = mixer_shape; back = mixer_back }

mixer_same : (at : ℕ) (bytes : List ℕ) → mixer_step at bytes ≡ sized_step 360 mixer_shapes mixer_of at bytes
unfolding mixer_step label_at
mixer_same at bytes = one_name (tail_size 360 at bytes) (has_name bytes 8) (Name at) (name_at bytes 8) (λ n name. (mixer_with n name bytes, 360 + n))

-- ---- enums

enum_from : List Slot → Control
enum_from ss =
    Enum (head_from ss) (number (pick 11 ss)) (text (pick 12 ss)) (number (pick 13 ss)) (number (pick 14 ss)) (number (pick 15 ss))
    (text (pick 16 ss)) (text (pick 17 ss)) (text (pick 19 ss))

enum_is : (bytes : List ℕ) (n : ℕ) → IsBytes bytes → SaysKind 4 bytes → word_at bytes 1760 ≡ n → 1764 + n ≤ length bytes → kcontrol_slots (enum_of n bytes) ≡ slots_from (enum_shapes ++ Bytes n ∷ []) bytes 0 0
unfolding control_head_with
enum_is bytes n h k e long = rw (length-part bytes 1764 n long, e, k) refl

enum_rest : (bytes : List ℕ) (n : ℕ) → IsBytes bytes → SaysKind 4 bytes → 1764 + n ≤ length bytes → IsOf 4 (enum_of n bytes)
unfolding control_head_with
enum_rest bytes n h k long =
    (refl, (length-words 32 bytes 76, (length-words 32 bytes 212, (length-part bytes 352 704 (omega (arith, long)), length-words 176 bytes 1056))))

enum_shape : (x : Control) → IsOf 4 x → shapes_of (kcontrol_slots x) ≡ enum_shapes ++ Bytes (size_of x) ∷ []
enum_shape (Mixer head min max platform_max invert num_channels channels private) is = absurd (omega (arith, is.0))
enum_shape (Enum head num_channels channels items mask count texts values private) is = rw (is.1.0, is.1.1.0, is.1.1.1.0, is.1.1.1.1) refl
enum_shape (Data head max mask base num_regs ext_ops private) is = absurd (omega (arith, is.0))

enum_back : (bytes : List ℕ) (x : Control) → IsOf 4 x → slots_from (enum_shapes ++ Bytes (size_of x) ∷ []) bytes 0 0 ≡ kcontrol_slots x → (word_at bytes 1760 ≡ size_of x) × (enum_of (size_of x) bytes ≡ x)
unfolding control_head_with enum_from head_from pick number text
enum_back bytes (Mixer head min max platform_max invert num_channels channels private) is e = absurd (omega (arith, is.0))
enum_back bytes (Enum head num_channels channels items mask count texts values private) is e = (ap (λ (ss : List Slot). number (pick 18 ss)) e, ap enum_from e)
enum_back bytes (Data head max mask base num_regs ext_ops private) is e = absurd (omega (arith, is.0))

enum_kind : SizedKind 1764 enum_shapes enum_of kcontrol_slots size_of (SaysKind 4) (IsOf 4)
enum_kind = record { wide = refl; is = enum_is; rest = enum_rest; shape = enum_shape; back = enum_back }

enum_same : (at : ℕ) (bytes : List ℕ) → enum_step at bytes ≡ sized_step 1764 enum_shapes enum_of at bytes
unfolding enum_step label_at
enum_same at bytes = one_name (tail_size 1764 at bytes) (has_name bytes 8) (Name at) (name_at bytes 8) (λ n name. (enum_with n name bytes, 1764 + n))

-- ---- bytes controls

bytes_from : List Slot → Control
bytes_from ss =
    Data (head_from ss) (number (pick 11 ss)) (number (pick 12 ss)) (number (pick 13 ss)) (number (pick 14 ss)) (text (pick 15 ss)) (text (pick 17 ss))

bytes_is : (bytes : List ℕ) (n : ℕ) → IsBytes bytes → SaysKind 5 bytes → word_at bytes 236 ≡ n → 240 + n ≤ length bytes → kcontrol_slots (bytes_of n bytes) ≡ slots_from (bytes_shapes ++ Bytes n ∷ []) bytes 0 0
unfolding control_head_with
bytes_is bytes n h k e long = rw (length-part bytes 240 n long, e, k) refl

bytes_rest : (bytes : List ℕ) (n : ℕ) → IsBytes bytes → SaysKind 5 bytes → 240 + n ≤ length bytes → IsOf 5 (bytes_of n bytes)
unfolding control_head_with
bytes_rest bytes n h k long = (refl, (length-words 32 bytes 76, length-words 3 bytes 224))

bytes_shape : (x : Control) → IsOf 5 x → shapes_of (kcontrol_slots x) ≡ bytes_shapes ++ Bytes (size_of x) ∷ []
bytes_shape (Mixer head min max platform_max invert num_channels channels private) is = absurd (omega (arith, is.0))
bytes_shape (Enum head num_channels channels items mask count texts values private) is = absurd (omega (arith, is.0))
bytes_shape (Data head max mask base num_regs ext_ops private) is = rw (is.1.0, is.1.1) refl

bytes_back : (bytes : List ℕ) (x : Control) → IsOf 5 x → slots_from (bytes_shapes ++ Bytes (size_of x) ∷ []) bytes 0 0 ≡ kcontrol_slots x → (word_at bytes 236 ≡ size_of x) × (bytes_of (size_of x) bytes ≡ x)
unfolding control_head_with bytes_from head_from pick number text
bytes_back bytes (Mixer head min max platform_max invert num_channels channels private) is e = absurd (omega (arith, is.0))
bytes_back bytes (Enum head num_channels channels items mask count texts values private) is e = absurd (omega (arith, is.0))
bytes_back bytes (Data head max mask base num_regs ext_ops private) is e = (ap (λ (ss : List Slot). number (pick 16 ss)) e, ap bytes_from e)

bytes_kind : SizedKind 240 bytes_shapes bytes_of kcontrol_slots size_of (SaysKind 5) (IsOf 5)
bytes_kind = record { wide = refl; is = bytes_is; rest = bytes_rest; shape = bytes_shape; back = bytes_back }

bytes_same : (at : ℕ) (bytes : List ℕ) → bytes_step at bytes ≡ sized_step 240 bytes_shapes bytes_of at bytes
unfolding bytes_step label_at
bytes_same at bytes = one_name (tail_size 240 at bytes) (has_name bytes 8) (Name at) (name_at bytes 8) (λ n name. (bytes_with n name bytes, 240 + n))

-- ---- the choice of a kind

data Chosen (bytes : List ℕ) : Type 0 where
  Short : length bytes < 204 → Chosen bytes
  A_mixer : 204 ≤ length bytes → SaysKind 1 bytes → Chosen bytes
  An_enum : 204 ≤ length bytes → SaysKind 4 bytes → Chosen bytes
  A_bytes : 204 ≤ length bytes → SaysKind 5 bytes → Chosen bytes
  Unknown : 204 ≤ length bytes → (SaysKind 1 bytes → ⊥) → (SaysKind 4 bytes → ⊥) → (SaysKind 5 bytes → ⊥) → Chosen bytes

chosen : (bytes : List ℕ) → Chosen bytes
chosen bytes = by_tests (ltb (length bytes) 204) (eqb (word_at bytes 64) 1) (eqb (word_at bytes 64) 4) (eqb (word_at bytes 64) 5) refl refl refl refl
  where
    by_tests : (a b c d : Bool) → ltb (length bytes) 204 ≡ a → eqb (word_at bytes 64) 1 ≡ b → eqb (word_at bytes 64) 4 ≡ c → eqb (word_at bytes 64) 5 ≡ d → Chosen bytes
    by_tests true b c d p q r s = Short (ltb-true _ _ p)
    by_tests false true c d p q r s = A_mixer (ltb-false _ _ p) (eqb-true _ _ q)
    by_tests false false true d p q r s = An_enum (ltb-false _ _ p) (eqb-true _ _ r)
    by_tests false false false true p q r s = A_bytes (ltb-false _ _ p) (eqb-true _ _ s)
    by_tests false false false false p q r s = Unknown (ltb-false _ _ p) (eqb-false _ _ q) (eqb-false _ _ r) (eqb-false _ _ s)

-- what is chosen by the tests of a control
abbrev by_kind : {A : Type 0} → List ℕ → A → A → A → A → A → A
by_kind bytes short mixer enum data_ unknown =
    cond (ltb (length bytes) 204) short (cond (eqb (word_at bytes 64) 1) mixer (cond (eqb (word_at bytes 64) 4) enum (cond (eqb (word_at bytes 64) 5) data_ unknown)))

module _ {A : Type 0} (bytes : List ℕ) (short mixer enum data_ unknown : A) where
  at_short : length bytes < 204 → by_kind bytes short mixer enum data_ unknown ≡ short
  at_short lt = rw (lt-ltb (length bytes) 204 lt) refl

  at_mixer : 204 ≤ length bytes → SaysKind 1 bytes → by_kind bytes short mixer enum data_ unknown ≡ mixer
  at_mixer long k = rw (le-ltb (length bytes) 204 long, k) refl

  at_enum : 204 ≤ length bytes → SaysKind 4 bytes → by_kind bytes short mixer enum data_ unknown ≡ enum
  at_enum long k = rw (le-ltb (length bytes) 204 long, k) refl

  at_bytes : 204 ≤ length bytes → SaysKind 5 bytes → by_kind bytes short mixer enum data_ unknown ≡ data_
  at_bytes long k = rw (le-ltb (length bytes) 204 long, k) refl

  at_unknown : 204 ≤ length bytes → (SaysKind 1 bytes → ⊥) → (SaysKind 4 bytes → ⊥) → (SaysKind 5 bytes → ⊥) → by_kind bytes short mixer enum data_ unknown ≡ unknown
  at_unknown long p q r = rw (le-ltb (length bytes) 204 long, ne_eqb (word_at bytes 64) 1 p, ne_eqb (word_at bytes 64) 4 q, ne_eqb (word_at bytes 64) 5 r) refl

step_is : (at : ℕ) (bytes : List ℕ) → control_step at bytes ≡ by_kind bytes (Err (Payload at)) (mixer_step at bytes) (enum_step at bytes) (bytes_step at bytes) (unknown_step at bytes)
unfolding control_step
step_is at bytes = refl

-- a refusal
abbrev refused : TplgFault → Result (Control × ℕ) TplgFault
refused f = Err f

abbrev fault_of : TplgFault → Option TplgFault
fault_of f = Some f

-- a control that is unknown is refused
unknown_is : (at : ℕ) (bytes : List ℕ) → unknown_step at bytes ≡ cond (has_name bytes 8) (refused (ControlKind at (word_at bytes 64))) (refused (Name at))
unfolding unknown_step label_at
unknown_is at bytes = by_name (has_name bytes 8) (name_at bytes 8) (Name at) (ControlKind at (word_at bytes 64))
  where
    by_name : (b : Bool) (name : List ℕ) (f g : TplgFault) → (cond b (Ok name) (Err f) >>= λ n. refused g) ≡ cond b (refused g) (refused f)
    by_name true name f g = refl
    by_name false name f g = refl

never : (b : Bool) (f g : TplgFault) (x : Control × ℕ) → cond b (refused f) (refused g) ≡ Ok x → ⊥
never true f g x e = absurd cc
never false f g x e = absurd cc

-- ---- the two laws

control_takes : (at : ℕ) (bytes : List ℕ) (x : Control) (n : ℕ) → IsBytes bytes → control_step at bytes ≡ Ok (x, n) → Took bytes (control_cells x) n × IsControl x
control_takes at bytes x n h e =
    let short : Result (Control × ℕ) TplgFault = Err (Payload at) in
    let step = sym (step_is at bytes) ∙ e in
    elim (chosen bytes) [
      | Short lt ↦ let a = sym (at_short bytes short (mixer_step at bytes) (enum_step at bytes) (bytes_step at bytes) (unknown_step at bytes) lt) ∙ step in absurd cc
      | A_mixer long k ↦
          let a = sym (at_mixer bytes short (mixer_step at bytes) (enum_step at bytes) (bytes_step at bytes) (unknown_step at bytes) long k) ∙ step in
          let t = sized_takes 360 mixer_shapes mixer_of kcontrol_slots size_of (SaysKind 1) (IsOf 1) mixer_kind at bytes x n h k (sym (mixer_same at bytes) ∙ a) in
          (t.0, (t.1.0, t.1.1.1))
      | An_enum long k ↦
          let a = sym (at_enum bytes short (mixer_step at bytes) (enum_step at bytes) (bytes_step at bytes) (unknown_step at bytes) long k) ∙ step in
          let t = sized_takes 1764 enum_shapes enum_of kcontrol_slots size_of (SaysKind 4) (IsOf 4) enum_kind at bytes x n h k (sym (enum_same at bytes) ∙ a) in
          (t.0, (t.1.0, t.1.1.1))
      | A_bytes long k ↦
          let a = sym (at_bytes bytes short (mixer_step at bytes) (enum_step at bytes) (bytes_step at bytes) (unknown_step at bytes) long k) ∙ step in
          let t = sized_takes 240 bytes_shapes bytes_of kcontrol_slots size_of (SaysKind 5) (IsOf 5) bytes_kind at bytes x n h k (sym (bytes_same at bytes) ∙ a) in
          (t.0, (t.1.0, t.1.1.1))
      | Unknown long p q r ↦
          let a = sym (at_unknown bytes short (mixer_step at bytes) (enum_step at bytes) (bytes_step at bytes) (unknown_step at bytes) long p q r) ∙ step in
          absurd (never (has_name bytes 8) (ControlKind at (word_at bytes 64)) (Name at) (x, n) (sym (unknown_is at bytes) ∙ a))
    ]

control_again : (at : ℕ) (x : Control) (front rest : List ℕ) → IsControl x → Fits front (control_cells x) → control_step at (front ++ rest) ≡ Ok (x, length front)
unfolding pick number
control_again at (Mixer head min max platform_max invert num_channels channels private) front rest is f =
    let x = Mixer head min max platform_max invert num_channels channels private in
    let bytes = front ++ rest in
    let s = sized_spelled 360 mixer_shapes mixer_of kcontrol_slots size_of (SaysKind 1) (IsOf 1) mixer_kind x front rest (is.0, (refl, is.1)) f in
    let k : word_at bytes 64 ≡ 1 = ap (λ (ss : List Slot). number (pick 6 ss)) s.slots_are in
    let again = sized_again 360 mixer_shapes mixer_of kcontrol_slots size_of (SaysKind 1) (IsOf 1) mixer_kind at x front rest (is.0, (refl, is.1)) f in
    step_is at bytes ∙ at_mixer bytes (Err (Payload at)) (mixer_step at bytes) (enum_step at bytes) (bytes_step at bytes) (unknown_step at bytes) (omega (arith, s.len, length-append front rest)) k ∙ mixer_same at bytes ∙ again
control_again at (Enum head num_channels channels items mask count texts values private) front rest is f =
    let x = Enum head num_channels channels items mask count texts values private in
    let bytes = front ++ rest in
    let s = sized_spelled 1764 enum_shapes enum_of kcontrol_slots size_of (SaysKind 4) (IsOf 4) enum_kind x front rest (is.0, (refl, is.1)) f in
    let k : word_at bytes 64 ≡ 4 = ap (λ (ss : List Slot). number (pick 6 ss)) s.slots_are in
    let again = sized_again 1764 enum_shapes enum_of kcontrol_slots size_of (SaysKind 4) (IsOf 4) enum_kind at x front rest (is.0, (refl, is.1)) f in
    step_is at bytes ∙ at_enum bytes (Err (Payload at)) (mixer_step at bytes) (enum_step at bytes) (bytes_step at bytes) (unknown_step at bytes) (omega (arith, s.len, length-append front rest)) k ∙ enum_same at bytes ∙ again
control_again at (Data head max mask base num_regs ext_ops private) front rest is f =
    let x = Data head max mask base num_regs ext_ops private in
    let bytes = front ++ rest in
    let s = sized_spelled 240 bytes_shapes bytes_of kcontrol_slots size_of (SaysKind 5) (IsOf 5) bytes_kind x front rest (is.0, (refl, is.1)) f in
    let k : word_at bytes 64 ≡ 5 = ap (λ (ss : List Slot). number (pick 6 ss)) s.slots_are in
    let again = sized_again 240 bytes_shapes bytes_of kcontrol_slots size_of (SaysKind 5) (IsOf 5) bytes_kind at x front rest (is.0, (refl, is.1)) f in
    step_is at bytes ∙ at_bytes bytes (Err (Payload at)) (mixer_step at bytes) (enum_step at bytes) (bytes_step at bytes) (unknown_step at bytes) (omega (arith, s.len, length-append front rest)) k ∙ bytes_same at bytes ∙ again

pub control_item : IsItem control_step control_cells IsControl
control_item = record { takes = control_takes; again = control_again }

-- ---- the fault of a control

unknown_fault : ℕ → List ℕ → Option TplgFault
unknown_fault at bytes = cond (has_name bytes 8) (Some (ControlKind at (word_at bytes 64))) (Some (Name at))

fault_is : (at : ℕ) (bytes : List ℕ) → control_fault at bytes ≡ by_kind bytes (Some (Payload at)) (sized_fault 360 (8 ∷ []) at bytes) (sized_fault 1764 (8 ∷ []) at bytes) (sized_fault 240 (8 ∷ []) at bytes) (unknown_fault at bytes)
unfolding unknown_fault
fault_is at bytes = refl

both_errs : (b : Bool) (f g h : TplgFault) → cond b (refused f) (refused g) ≡ refused h → cond b (fault_of f) (fault_of g) ≡ fault_of h
both_errs true f g h e = cc
both_errs false f g h e = cc

both_somes : (b : Bool) (f g h : TplgFault) → cond b (fault_of f) (fault_of g) ≡ fault_of h → cond b (refused f) (refused g) ≡ refused h
both_somes true f g h e = cc
both_somes false f g h e = cc

control_found : (at : ℕ) (bytes : List ℕ) (f : TplgFault) → IsBytes bytes → control_step at bytes ≡ Err f → ControlFault at bytes f
unfolding unknown_fault
control_found at bytes f h e =
    let short : Result (Control × ℕ) TplgFault = Err (Payload at) in
    let short_fault : Option TplgFault = Some (Payload at) in
    let step = sym (step_is at bytes) ∙ e in
    let f1 = sized_fault 360 (8 ∷ []) at bytes in
    let f4 = sized_fault 1764 (8 ∷ []) at bytes in
    let f5 = sized_fault 240 (8 ∷ []) at bytes in
    elim (chosen bytes) [
      | Short lt ↦
          let a = sym (at_short bytes short (mixer_step at bytes) (enum_step at bytes) (bytes_step at bytes) (unknown_step at bytes) lt) ∙ step in
          let same : Payload at ≡ f = cc in
          fault_is at bytes ∙ at_short bytes short_fault f1 f4 f5 (unknown_fault at bytes) lt ∙ ap (λ (g : TplgFault). Some g) same
      | A_mixer long k ↦
          let a = sym (at_mixer bytes short (mixer_step at bytes) (enum_step at bytes) (bytes_step at bytes) (unknown_step at bytes) long k) ∙ step in
          fault_is at bytes ∙ at_mixer bytes short_fault f1 f4 f5 (unknown_fault at bytes) long k ∙ sized_found 360 mixer_shapes (8 ∷ []) mixer_of (λ b. refl) at bytes f (sym (mixer_same at bytes) ∙ a)
      | An_enum long k ↦
          let a = sym (at_enum bytes short (mixer_step at bytes) (enum_step at bytes) (bytes_step at bytes) (unknown_step at bytes) long k) ∙ step in
          fault_is at bytes ∙ at_enum bytes short_fault f1 f4 f5 (unknown_fault at bytes) long k ∙ sized_found 1764 enum_shapes (8 ∷ []) enum_of (λ b. refl) at bytes f (sym (enum_same at bytes) ∙ a)
      | A_bytes long k ↦
          let a = sym (at_bytes bytes short (mixer_step at bytes) (enum_step at bytes) (bytes_step at bytes) (unknown_step at bytes) long k) ∙ step in
          fault_is at bytes ∙ at_bytes bytes short_fault f1 f4 f5 (unknown_fault at bytes) long k ∙ sized_found 240 bytes_shapes (8 ∷ []) bytes_of (λ b. refl) at bytes f (sym (bytes_same at bytes) ∙ a)
      | Unknown long p q r ↦
          let a = sym (at_unknown bytes short (mixer_step at bytes) (enum_step at bytes) (bytes_step at bytes) (unknown_step at bytes) long p q r) ∙ step in
          fault_is at bytes ∙ at_unknown bytes short_fault f1 f4 f5 (unknown_fault at bytes) long p q r ∙ both_errs (has_name bytes 8) (ControlKind at (word_at bytes 64)) (Name at) f (sym (unknown_is at bytes) ∙ a)
    ]

control_only : (at : ℕ) (bytes : List ℕ) (f : TplgFault) → ControlFault at bytes f → control_step at bytes ≡ Err f
unfolding unknown_fault
control_only at bytes f e =
    let short : Result (Control × ℕ) TplgFault = Err (Payload at) in
    let short_fault : Option TplgFault = Some (Payload at) in
    let first = sym (fault_is at bytes) ∙ e in
    let f1 = sized_fault 360 (8 ∷ []) at bytes in
    let f4 = sized_fault 1764 (8 ∷ []) at bytes in
    let f5 = sized_fault 240 (8 ∷ []) at bytes in
    elim (chosen bytes) [
      | Short lt ↦
          let a = sym (at_short bytes short_fault f1 f4 f5 (unknown_fault at bytes) lt) ∙ first in
          let same : Payload at ≡ f = cc in
          step_is at bytes ∙ at_short bytes short (mixer_step at bytes) (enum_step at bytes) (bytes_step at bytes) (unknown_step at bytes) lt ∙ ap (λ (g : TplgFault). Err g) same
      | A_mixer long k ↦
          let a = sym (at_mixer bytes short_fault f1 f4 f5 (unknown_fault at bytes) long k) ∙ first in
          step_is at bytes ∙ at_mixer bytes short (mixer_step at bytes) (enum_step at bytes) (bytes_step at bytes) (unknown_step at bytes) long k ∙ mixer_same at bytes ∙ sized_only 360 mixer_shapes (8 ∷ []) mixer_of (λ b. refl) at bytes f a
      | An_enum long k ↦
          let a = sym (at_enum bytes short_fault f1 f4 f5 (unknown_fault at bytes) long k) ∙ first in
          step_is at bytes ∙ at_enum bytes short (mixer_step at bytes) (enum_step at bytes) (bytes_step at bytes) (unknown_step at bytes) long k ∙ enum_same at bytes ∙ sized_only 1764 enum_shapes (8 ∷ []) enum_of (λ b. refl) at bytes f a
      | A_bytes long k ↦
          let a = sym (at_bytes bytes short_fault f1 f4 f5 (unknown_fault at bytes) long k) ∙ first in
          step_is at bytes ∙ at_bytes bytes short (mixer_step at bytes) (enum_step at bytes) (bytes_step at bytes) (unknown_step at bytes) long k ∙ bytes_same at bytes ∙ sized_only 240 bytes_shapes (8 ∷ []) bytes_of (λ b. refl) at bytes f a
      | Unknown long p q r ↦
          let a = sym (at_unknown bytes short_fault f1 f4 f5 (unknown_fault at bytes) long p q r) ∙ first in
          step_is at bytes ∙ at_unknown bytes short (mixer_step at bytes) (enum_step at bytes) (bytes_step at bytes) (unknown_step at bytes) long p q r ∙ unknown_is at bytes ∙ both_somes (has_name bytes 8) (ControlKind at (word_at bytes 64)) (Name at) f a
    ]

pub control_is_fault : IsFault control_step ControlFault
control_is_fault = record { found = control_found; only = control_only }
