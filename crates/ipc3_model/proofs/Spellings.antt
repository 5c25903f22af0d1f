-- The fields of messages: how many bytes they have, and that pairs and parts are read as they are spelled.
use Rattle.std.proofs.Common.{◌≡◌, ℕ, zero, suc, ◌+◌, ◌*◌, ◌≤◌, Bool, true, cond, eqb, List, [], ◌∷◌, length, Some, refl, sym, ap, subst, arith, inl, inr}
use Rattle.std.proofs.lemmas.Bool.{cases_Bool, eqb-true, leb-true}
use Rattle.std.specs.List.{find}
use Rattle.std.specs.Prelude.{◌==◌}
use Rattle.sof_base.specs.Slots.{Slot, Word, Half, Raw, word_at, part}
use Rattle.sof_base.specs.Layouts.{widths, slots_from, all_named, shapes_of, Bytes}
use Rattle.sof_base.specs.Samples.{frame_format}
use Rattle.sof_base.specs.declared.format.Format.{Format}
use Rattle.sof_base.specs.declared.format.Format.TheVariants.{S16, S24, S32}
use Rattle.sof_base.proofs.FieldLaws.{length-part}
use Rattle.ipc3_model.specs.declared.command.CommandWord.{CommandWord}
use Rattle.ipc3_model.specs.declared.command.CommandWord.TheVariants as commands
use Rattle.ipc3_model.specs.declared.component_type.CompType.{CompType}
use Rattle.ipc3_model.specs.Allowed.{is_frame_format}
use Rattle.ipc3_model.specs.ComponentTypes.{type_number, all_types, type_numbered}
use Rattle.ipc3_model.specs.Commands.{command_number, all_commands, command_numbered}
use Rattle.ipc3_model.specs.StreamWords.{format_of_word}
use Rattle.ipc3_model.specs.ControlWords.{value_slots, value_places, pair_values_at}
use Rattle.ipc3_model.proofs.Places.{AllGood}

-- ---- command words

found : {A : Type 0} (p : A → Bool) (xs : List A) (x : A) → find p xs ≡ Some x → p x ≡ true
found p [] x e = absurd cc
found p (y ∷ ys) x e =
    elim (cases_Bool (p y)) [
      | inl is ↦
          let here : Some y ≡ Some x = subst (λ (t : Bool). cond t (Some y) (find p ys) ≡ Some x) is e in
          let same : y ≡ x = cc in
          subst (λ z. p z ≡ true) same is
      | inr other ↦
          let there : find p ys ≡ Some x = subst (λ (t : Bool). cond t (Some y) (find p ys) ≡ Some x) other e in
          found p ys x there
    ]

-- the word of the command of a word
pub command_is : (n : ℕ) (c : CommandWord) → command_numbered n ≡ Some c → n ≡ command_number c
command_is n c e = eqb-true n (command_number c) (found (λ (c : CommandWord). n == command_number c) all_commands c e)

-- the command of the word of a command
pub command_again : (c : CommandWord) → command_numbered (command_number c) ≡ Some c
command_again commands.CompNew = refl
command_again commands.CompFree = refl
command_again commands.Connect = refl
command_again commands.PipeNew = refl
command_again commands.PipeFree = refl
command_again commands.PipeComplete = refl
command_again commands.BufferNew = refl
command_again commands.BufferFree = refl
command_again commands.CtxSave = refl
command_again commands.SetValue = refl
command_again commands.GetValue = refl
command_again commands.SetData = refl
command_again commands.GetData = refl
command_again commands.PcmParams = refl
command_again commands.PcmFree = refl
command_again commands.TrigStart = refl
command_again commands.TrigStop = refl
command_again commands.TrigPause = refl
command_again commands.TrigRelease = refl

-- ---- the fields of a list of fields

-- the number in the field of this number
abbrev pub number_at : List Slot → ℕ → ℕ
number_at [] i = 0
number_at (Word n ∷ ss) zero = n
number_at (Half n ∷ ss) zero = n
number_at (s ∷ ss) zero = 0
number_at (s ∷ ss) (suc i) = number_at ss i

-- the fields from this number on
abbrev pub fields_from : List Slot → ℕ → List Slot
fields_from ss zero = ss
fields_from [] (suc i) = []
fields_from (s ∷ ss) (suc i) = fields_from ss i

-- ---- the types of components, and frame formats

-- the type word of the type of a type word
pub type_is : (n : ℕ) (t : CompType) → type_numbered n ≡ Some t → n ≡ type_number t
type_is n t e = eqb-true n (type_number t) (found (λ (t : CompType). n == type_number t) all_types t e)

pub number_again : (n : ℕ) → is_frame_format n ≡ true → frame_format (format_of_word n) ≡ n
number_again n is =
    elim (cases_Bool (eqb n 0)) [
      | inl e ↦ subst (λ (m : ℕ). frame_format (format_of_word m) ≡ m) (sym (eqb-true n 0 e)) refl
      | inr e0 ↦ elim (cases_Bool (eqb n 1)) [
        | inl e ↦ subst (λ (m : ℕ). frame_format (format_of_word m) ≡ m) (sym (eqb-true n 1 e)) refl
        | inr e1 ↦
            let most : n ≤ 2 = leb-true n 2 is in
            let two : n ≡ 2 = grind (arith, e0, e1, most) in
            subst (λ (m : ℕ). frame_format (format_of_word m) ≡ m) (sym two) refl
      ]
    ]

pub format_again : (f : Format) → format_of_word (frame_format f) ≡ f
format_again S16 = refl
format_again S24 = refl
format_again S32 = refl

pub format_known : (f : Format) → is_frame_format (frame_format f) ≡ true
format_known S16 = refl
format_known S24 = refl
format_known S32 = refl

-- ---- pairs

pub length-values_at : (n : ℕ) (b : List ℕ) (at : ℕ) → length (pair_values_at n b at) ≡ n
length-values_at zero b at = refl
length-values_at (suc n) b at = ap suc (length-values_at n b (at + 8))

pub values_width : (channel : ℕ) (vs : List ℕ) → widths (shapes_of (value_slots channel vs)) ≡ 8 * length vs
values_width channel [] = refl
values_width channel (v ∷ vs) = omega (arith, values_width (channel + 1) vs)

pub values_named : (channel : ℕ) (vs : List ℕ) (b : List ℕ) (at off : ℕ) → all_named (shapes_of (value_slots channel vs)) b at off ≡ true
values_named channel [] b at off = refl
values_named channel (v ∷ vs) b at off = values_named (channel + 1) vs b at (off + 4 + 4)

pub values_room : (n : ℕ) (b : List ℕ) (channel at : ℕ) → at ≤ word_at b 0 → AllGood b (value_places b channel at n) → at + 8 * n ≤ word_at b 0
values_room zero b channel at room good = omega (arith, room)
values_room (suc n) b channel at room good =
    let next : at + 8 ≤ word_at b 0 = omega (arith, good.1.0.within) in
    omega (arith, values_room n b (channel + 1) (at + 8) next good.1.1)

-- pairs whose places are good are those that are spelled
pub values_found : (n : ℕ) (b : List ℕ) (channel at : ℕ) → AllGood b (value_places b channel at n) → slots_from (shapes_of (value_slots channel (pair_values_at n b at))) b 0 at ≡ value_slots channel (pair_values_at n b at)
values_found zero b channel at good = refl
values_found (suc n) b channel at good =
    let first : 0 + at ≡ at = omega arith in
    let second : 0 + (at + 4) ≡ at + 4 = omega arith in
    let next : at + 4 + 4 ≡ at + 8 = omega arith in
    let is : word_at b at ≡ channel = eqb-true (word_at b at) channel good.0.allowed in
    rw (first, second, next, is) (ap (λ (ss : List Slot). Word channel ∷ Word (word_at b (at + 4)) ∷ ss) (values_found n b (channel + 1) (at + 8) good.1.1))

eqb-same : (n m : ℕ) → n ≡ m → eqb n m ≡ true
eqb-same n m e = grind (arith, e)

pub record ValuesAre (b : List ℕ) (channel : ℕ) (vs : List ℕ) (at : ℕ) : Type 0 where
  pub good : AllGood b (value_places b channel at (length vs))
  pub is : pair_values_at (length vs) b at ≡ vs

pub values_only : (vs : List ℕ) (b : List ℕ) (channel at : ℕ) → slots_from (shapes_of (value_slots channel vs)) b 0 at ≡ value_slots channel vs → at + 8 * length vs ≤ word_at b 0 → ValuesAre b channel vs at
values_only [] b channel at e room = record { good = tt; is = refl }
values_only (v ∷ vs) b channel at e room =
    let first : 0 + at ≡ at = omega arith in
    let second : 0 + (at + 4) ≡ at + 4 = omega arith in
    let next : at + 4 + 4 ≡ at + 8 = omega arith in
    let here : Word (word_at b at) ∷ Word (word_at b (at + 4)) ∷ slots_from (shapes_of (value_slots (channel + 1) vs)) b 0 (at + 8) ≡ Word channel ∷ Word v ∷ value_slots (channel + 1) vs = rw (first, second, next) at e in
    let is_channel : word_at b at ≡ channel = cc in
    let is_value : word_at b (at + 4) ≡ v = cc in
    let after : slots_from (shapes_of (value_slots (channel + 1) vs)) b 0 (at + 8) ≡ value_slots (channel + 1) vs = cc in
    let rest = values_only vs b (channel + 1) (at + 8) after (omega (arith, room)) in
    record {
      good = (record { within = omega (arith, room); allowed = eqb-same (word_at b at) channel is_channel }, (record { within = omega (arith, room); allowed = refl }, rest.good));
      is = rw (is_value, rest.is) refl;
    }

-- ---- parts

-- a part that is read is the one that is spelled
pub part_found : (b : List ℕ) (n : ℕ) → 124 + n ≤ length b → slots_from (Bytes (length (part b 92 32)) ∷ Bytes (length (part b 124 n)) ∷ []) b 0 92 ≡ Raw (part b 92 32) ∷ Raw (part b 124 n) ∷ []
part_found b n long =
    let head : length (part b 92 32) ≡ 32 = length-part b 92 32 (omega (arith, long)) in
    let rest : length (part b 124 n) ≡ n = length-part b 124 n long in
    subst (λ (m : ℕ). slots_from (Bytes m ∷ Bytes (length (part b 124 n)) ∷ []) b 0 92 ≡ Raw (part b 92 32) ∷ Raw (part b 124 n) ∷ []) (sym head)
    (subst (λ (m : ℕ). slots_from (Bytes 32 ∷ Bytes m ∷ []) b 0 92 ≡ Raw (part b 92 32) ∷ Raw (part b 124 n) ∷ []) (sym rest) refl)
