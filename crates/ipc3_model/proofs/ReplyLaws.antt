-- Bytes carry a reply exactly where it is decoded.
use Rattle.std.proofs.Common.{◌≡◌, ℕ, zero, suc, ◌+◌, ◌*◌, ◌≤◌, ◌<◌, ◌^◌, Bool, true, false, cond, eqb, ℤ, List, [], ◌∷◌, ◌++◌, length, take, drop, Option, Some, None, Result, Ok, Err, refl, sym, ap, subst, ◌∙◌, arith, inl, inr}
use Rattle.std.proofs.lemmas.Bool.{eqb-true, leb-true, and_parts, ltb-false, le-ltb, cases_Bool}
use Rattle.std.proofs.lemmas.List.{take-append-drop}
use Rattle.std.proofs.Math.Facts.{sfits_to_z, Fits-of_lt, Fits-of_z}
use Rattle.std.proofs.lemmas.Int.{to_z-of_z, of_z-to_z}
use Rattle.std.specs.Prelude.{nat_lt, nat_le, ◌&&◌, not, IfOk, IfErr}
use Rattle.std.specs.Int.{w32, cast_unsigned, cast_signed}
use Rattle.std.specs.List.{find}
use Rattle.sof_base.specs.Cells.{Fits}
use Rattle.sof_base.specs.Slots.{Slot, Word, Size, Raw, slots_cells, AreSlots, word_at, part, IsSlot}
use Rattle.sof_base.specs.Layouts.{Bytes, A_word, slots_from, shapes_of, widths, all_named}
use Rattle.sof_base.specs.declared.part.Part.{Part}
use Rattle.sof_base.proofs.FieldLaws.{IsBytes, slot_reads, slots_read, slots_again, length-part}
use Rattle.ipc3_model.specs.declared.control_kind.ControlKind.{ControlKind}
use Rattle.ipc3_model.specs.declared.control_kind.ControlKind.TheVariants as kinds
use Rattle.ipc3_model.specs.declared.reply.Reply.{Reply}
use Rattle.ipc3_model.specs.declared.reply.Body.{Body}
use Rattle.ipc3_model.specs.declared.reply.Body.TheVariants as bodies
use Rattle.ipc3_model.specs.declared.fault.CodecFault.{CodecFault}
use Rattle.ipc3_model.specs.declared.fault.CodecFault.TheVariants.{Short, SizeWord, Command}
use Rattle.ipc3_model.specs.Places.{Place, any_words, any_bytes, word_of, is_bad, field_fault}
use Rattle.ipc3_model.specs.StreamWords.{host_buffer_slots}
use Rattle.ipc3_model.specs.ControlWords.{control_slots, takes_command, takes_count, takes_remaining, value_slots, values_in, part_in, part_slots, control_rest_places, payload_places}
use Rattle.ipc3_model.specs.Messages.{is_sized, faultless}
use Rattle.ipc3_model.specs.Replies.{reply_size, reply_slots, is_body_type, body_kind, body_places, reply_places, reply_fault, body_with, reply_of, decoded_reply}
use Rattle.ipc3_model.specs.ReplyForms.{IsBody, IsReply, MeansReply, TakesCommand}
use Rattle.ipc3_model.proofs.Places.{AllGood, AllGood-from, AllGood-append, AllGood-split, good_at, none-AllGood, find-none}
use Rattle.ipc3_model.proofs.Spellings.{number_at, fields_from, length-values_at, values_width, values_named, values_room, values_found, ValuesAre, values_only, part_found}
use Rattle.ipc3_model.proofs.WordsToPlaces.{part_same}
use Rattle.ipc3_model.proofs.Carrying.{no_fault, decoded_parts, fault_parts, within}

abbrev reply_with : ℤ → Body → Reply
reply_with error body = record { error = error; body = body }

-- ---- fields

AreSlots-from : (ss : List Slot) (i : ℕ) → AreSlots ss → AreSlots (fields_from ss i)
unfolding AreSlots
AreSlots-from ss zero are = are
AreSlots-from [] (suc i) are = tt
AreSlots-from (s ∷ ss) (suc i) are = AreSlots-from ss i are.1

-- the fields of a body, whose words fit
values_are : (size error : ℕ) (values : List ℕ) → error < 2 ^ 32 → length values ≤ 8 → AreSlots (value_slots 0 values) → AreSlots (Size size ∷ Word 0x10000000 ∷ (control_slots (Word error) (Size 0) kinds.SetValue (Size 0) (Word (length values)) (Size 0) (Size 0) ++ value_slots 0 values))
unfolding AreSlots IsSlot
values_are size error values fits small are =
    (tt, (omega arith, (fits, (tt, (omega arith, (tt, (tt, (tt, (tt, (tt, (tt, (tt, (tt, (tt, (omega (arith, small), (tt, (tt, (tt, (tt, (tt, (tt, (tt, (tt, are)))))))))))))))))))))))

part_are : (size error : ℕ) (part : Part) → error < 2 ^ 32 → length part.bytes ≤ 260 → part.remaining ≤ 992 → part.index < 2 ^ 32 → AreSlots (Size size ∷ Word 0x10000000 ∷ (control_slots (Word error) (Size 0) kinds.SetData (Word 3) (Word (length part.bytes)) (Word part.remaining) (Word part.index) ++ part_slots part))
unfolding AreSlots IsSlot
part_are size error part fits small remaining index =
    (tt, (omega arith, (fits, (tt, (omega arith, (omega arith, (tt, (tt, (tt, (tt, (tt, (tt, (tt, (tt, (omega (arith, small), (omega (arith, remaining), (index, (tt, (tt, (tt, (tt, (tt, (tt, (tt, (tt, tt)))))))))))))))))))))))))

least_most : (low n high : ℕ) → (nat_le low n && nat_le n high) ≡ true → (low ≤ n) × (n ≤ high)
least_most low n high e =
    let both = and_parts (nat_le low n) (nat_le n high) e in
    (leb-true low n both.0, leb-true n high both.1)

pub reply-are : (error : ℤ) (body : Body) → IsReply (reply_with error body) → AreSlots (reply_slots (reply_with error body))
unfolding AreSlots IsSlot
reply-are error bodies.Nothing is = (omega arith, (omega arith, ((Fits-of_z is.0).fits, tt)))
reply-are error (bodies.Values values) is = values_are (92 + 8 * length values) (cast_unsigned w32 error) values (Fits-of_z is.0).fits (least_most 1 (length values) 8 is.1.1).1 is.1.0
reply-are error (bodies.Part part) is =
    let remaining : part.remaining + length part.bytes ≤ 992 = leb-true (part.remaining + length part.bytes) 992 is.1.3 in
    part_are (124 + length part.bytes) (cast_unsigned w32 error) part (Fits-of_z is.0).fits (least_most 1 (length part.bytes) 260 is.1.2).1 (omega (arith, remaining)) is.1.0

pub reply-width : (error : ℤ) (body : Body) → IsBody body → widths (shapes_of (reply_slots (reply_with error body))) ≡ reply_size body
reply-width error bodies.Nothing is = refl
reply-width error (bodies.Values values) is = omega (arith, values_width 0 values)
reply-width error (bodies.Part part) is = let head : length part.header ≡ 32 = is.1 in omega (arith, head)

reply-named : (error : ℤ) (body : Body) (b : List ℕ) → all_named (shapes_of (reply_slots (reply_with error body))) b 0 0 ≡ true
reply-named error bodies.Nothing b = refl
reply-named error (bodies.Values values) b = values_named 0 values b 0 92
reply-named error (bodies.Part part) b = refl

-- a body's places up to byte 92
abbrev front_places : List ℕ → ControlKind → List Place
front_places b kind = any_words 8 2 ++ word_of b 16 is_body_type ∷ control_rest_places b kind

-- ---- from the places to the words

word_range : (b : List ℕ) → IsBytes b → 12 ≤ length b → word_at b 8 < 2 ^ 32
unfolding IsSlot
word_range b bytes header = (slot_reads A_word b 8 bytes header refl).is

-- the error of bytes
abbrev error_at : List ℕ → ℤ
error_at b = cast_signed w32 (word_at b 8)

-- the words of bytes are a reply's
record Carries (b : List ℕ) (body : Body) : Type 0 where
  room : reply_size body ≤ word_at b 0
  width : widths (shapes_of (reply_slots (reply_with (error_at b) body))) ≡ reply_size body
  same : slots_from (shapes_of (reply_slots (reply_with (error_at b) body))) b 0 0 ≡ reply_slots (reply_with (error_at b) body)
  command : TakesCommand b body
  is : AreSlots (reply_slots (reply_with (error_at b) body)) → IsBody body

MeansReply-from : (b : List ℕ) (body : Body) → IsBytes b → 12 ≤ length b → is_sized 12 b ≡ true → Carries b body → IsReply (reply_with (error_at b) body) × MeansReply b (reply_with (error_at b) body)
MeansReply-from b body bytes header sized h =
    let r = reply_with (error_at b) body in
    let inside = within 12 b sized in
    let all = slots_read (shapes_of (reply_slots r)) b 0 0 bytes (omega (arith, h.width, h.room, inside)) (reply-named (error_at b) body b) in
    let fits : Fits (take (reply_size body) b) (slots_cells (reply_slots r)) = rw (h.width, h.same) at all.0 in
    let are : AreSlots (reply_slots r) = rw h.same at all.1 in
    let word : word_at b 8 < 2 ^ 32 = word_range b bytes header in
    ((sfits_to_z (Fits-of_lt word), h.is are), record { header = header; sized = sized; room = h.room; fits = fits; command = h.command })

again_unsigned : (b : List ℕ) → IsBytes b → 12 ≤ length b → cast_unsigned w32 (error_at b) ≡ word_at b 8
again_unsigned b bytes header = of_z-to_z w32 (word_at b 8) (word_range b bytes header)

one_of_two : (n : ℕ) → is_body_type n ≡ true → eqb n 5 ≡ false → n ≡ 1
one_of_two n is other =
    elim (cases_Bool (eqb n 1)) [
      | inl one ↦ eqb-true n 1 one
      | inr none ↦ let neither : false ≡ true = rw (none, other) at is in absurd cc
    ]

-- the words of a reply with a part
part_reply_same : (b : List ℕ) → slots_from (Bytes (length (part b 92 32)) ∷ Bytes (length (part b 124 (word_at b 56))) ∷ []) b 0 92 ≡ part_slots (part_in b) → length (part b 124 (word_at b 56)) ≡ word_at b 56 → word_at b 20 ≡ 3 → word_at b 16 ≡ 5 → word_at b 4 ≡ 0x10000000 → cast_unsigned w32 (error_at b) ≡ word_at b 8 → slots_from (shapes_of (reply_slots (reply_with (error_at b) (bodies.Part (part_in b))))) b 0 0 ≡ reply_slots (reply_with (error_at b) (bodies.Part (part_in b)))
part_reply_same b tail long takes type command error =
    let size : Slot = Size (reply_size (bodies.Part (part_in b))) in
    let ps : List Slot = part_slots (part_in b) in
    let all : List Slot → ℕ → ℕ → ℕ → ℕ → ℕ → List Slot = λ (ss : List Slot) (c e t k n : ℕ). size ∷ Word c ∷ Word e ∷ Size 0 ∷ Word t ∷ Word k ∷ Size 0 ∷ (host_buffer_slots ++ Word n ∷ Word (word_at b 60) ∷ Word (word_at b 64) ∷ Size 0 ∷ Size 0 ∷ Size 0 ∷ Size 0 ∷ Size 0 ∷ Size 0 ∷ ss) in
    ap (λ (ss : List Slot). all ss (word_at b 4) (word_at b 8) (word_at b 16) (word_at b 20) (word_at b 56)) tail
    ∙ ap (λ (c : ℕ). all ps c (word_at b 8) (word_at b 16) (word_at b 20) (word_at b 56)) command
    ∙ ap (λ (e : ℕ). all ps 0x10000000 e (word_at b 16) (word_at b 20) (word_at b 56)) (sym error)
    ∙ ap (λ (t : ℕ). all ps 0x10000000 (cast_unsigned w32 (error_at b)) t (word_at b 20) (word_at b 56)) type
    ∙ ap (λ (k : ℕ). all ps 0x10000000 (cast_unsigned w32 (error_at b)) 5 k (word_at b 56)) takes
    ∙ ap (λ (n : ℕ). all ps 0x10000000 (cast_unsigned w32 (error_at b)) 5 3 n) (sym long)

nothing_found : (b : List ℕ) → cast_unsigned w32 (error_at b) ≡ word_at b 8 → word_at b 0 ≡ 12 → word_at b 4 ≡ 0x10000000 → Carries b bodies.Nothing
nothing_found b error size command = record { room = omega (arith, size); width = refl; same = rw (error, size, command) refl; command = tt; is = λ _. tt }

values_carry : (b : List ℕ) → cast_unsigned w32 (error_at b) ≡ word_at b 8 → word_at b 4 ≡ 0x10000000 → word_at b 16 ≡ 1 → AllGood b (body_places b kinds.SetValue) → Carries b (bodies.Values (values_in b))
values_carry b error command type good =
    let both = AllGood-split b (front_places b kinds.SetValue) (payload_places b kinds.SetValue) good in
    let last = good_at b (front_places b kinds.SetValue) 20 both.0 in
    let takes = good_at b (front_places b kinds.SetValue) 3 both.0 in
    let count = good_at b (front_places b kinds.SetValue) 12 both.0 in
    let long : length (values_in b) ≡ word_at b 56 = length-values_at (word_at b 56) b 92 in
    let tail = values_found (word_at b 56) b 0 92 both.1 in
    let reach = values_room (word_at b 56) b 0 92 last.within both.1 in
    record {
      room = omega (arith, long, reach);
      width = omega (arith, values_width 0 (values_in b));
      same = rw (tail, long, type, command, error) refl;
      command = takes.allowed;
      is = λ are. (AreSlots-from (reply_slots (reply_with (error_at b) (bodies.Values (values_in b)))) 23 are, rw long count.allowed);
    }

part_carries : (b : List ℕ) → cast_unsigned w32 (error_at b) ≡ word_at b 8 → word_at b 0 ≤ length b → word_at b 4 ≡ 0x10000000 → word_at b 16 ≡ 5 → AllGood b (body_places b kinds.SetData) → Carries b (bodies.Part (part_in b))
unfolding IsSlot AreSlots
part_carries b error inside command type good =
    let n = word_at b 56 in
    let both = AllGood-split b (front_places b kinds.SetData) (payload_places b kinds.SetData) good in
    let takes = good_at b (front_places b kinds.SetData) 3 both.0 in
    let count = good_at b (front_places b kinds.SetData) 12 both.0 in
    let remaining = good_at b (front_places b kinds.SetData) 13 both.0 in
    let last = good_at b (payload_places b kinds.SetData) 8 both.1 in
    let all : 124 + n ≤ length b = omega (arith, last.within, inside) in
    let head : length (part b 92 32) ≡ 32 = length-part b 92 32 (omega (arith, all)) in
    let long : length (part b 124 n) ≡ n = length-part b 124 n all in
    record {
      room = omega (arith, long, last.within);
      width = omega (arith, head);
      same = part_reply_same b (part_found b n all) long (eqb-true (word_at b 20) 3 takes.allowed) type command error;
      command = tt;
      is = λ are. ((AreSlots-from (reply_slots (reply_with (error_at b) (bodies.Part (part_in b)))) 16 are).0, head, rw long count.allowed, rw long remaining.allowed);
    }

-- a body is of one of two types
body_carries : (b : List ℕ) → cast_unsigned w32 (error_at b) ≡ word_at b 8 → word_at b 0 ≤ length b → word_at b 4 ≡ 0x10000000 → AllGood b (body_places b (body_kind b)) → Carries b (body_with b (body_kind b))
body_carries b error inside command good =
    elim (cases_Bool (eqb (word_at b 16) 5)) [
      | inl five ↦
          let here : AllGood b (body_places b kinds.SetData) = subst (λ (t : Bool). AllGood b (body_places b (cond t kinds.SetData kinds.SetValue))) five good in
          subst (λ (t : Bool). Carries b (body_with b (cond t kinds.SetData kinds.SetValue))) (sym five) (part_carries b error inside command (eqb-true _ _ five) here)
      | inr other ↦
          let here : AllGood b (body_places b kinds.SetValue) = subst (λ (t : Bool). AllGood b (body_places b (cond t kinds.SetData kinds.SetValue))) other good in
          let type = good_at b (front_places b kinds.SetValue) 2 (AllGood-split b (front_places b kinds.SetValue) (payload_places b kinds.SetValue) here).0 in
          let one : word_at b 16 ≡ 1 = one_of_two (word_at b 16) type.allowed other in
          subst (λ (t : Bool). Carries b (body_with b (cond t kinds.SetData kinds.SetValue))) (sym other) (values_carry b error command one here)
    ]

reply_found : (b : List ℕ) → IsBytes b → 12 ≤ length b → is_sized 12 b ≡ true → word_at b 4 ≡ 0x10000000 → AllGood b (reply_places b) → Carries b (reply_of b).body
reply_found b bytes header sized command good =
    let error = again_unsigned b bytes header in
    elim (cases_Bool (eqb (word_at b 0) 12)) [
      | inl twelve ↦ subst (λ (t : Bool). Carries b (cond t bodies.Nothing (body_with b (body_kind b)))) (sym twelve) (nothing_found b error (eqb-true _ _ twelve) command)
      | inr more ↦
          let here : AllGood b (body_places b (body_kind b)) = subst (λ (t : Bool). AllGood b (cond t [] (body_places b (body_kind b)))) more good in
          subst (λ (t : Bool). Carries b (cond t bodies.Nothing (body_with b (body_kind b)))) (sym more) (body_carries b error (within 12 b sized) command here)
    ]

-- the fault after the header
abbrev pub behind : List ℕ → Option CodecFault
behind b = cond (not (eqb (word_at b 4) 0x10000000)) (Some (Command (word_at b 4))) (field_fault (find (is_bad b) (reply_places b)))

-- a header without a fault
no_header_fault : (short sized : Bool) (o : Option CodecFault) → cond short (Some Short) (cond (not sized) (Some SizeWord) o) ≡ None → (short ≡ false) × (sized ≡ true) × (o ≡ None)
no_header_fault true sized o e = absurd cc
no_header_fault false false o e = absurd cc
no_header_fault false true o e = (refl, refl, e)

parts_of : (t : Bool) (f : CodecFault) (o : Option Place) → cond (not t) (Some f) (field_fault o) ≡ None → (t ≡ true) × (o ≡ None)
parts_of true f o e = (refl, no_fault o e)
parts_of false f o e = absurd cc

-- what is decoded is a reply that the bytes carry
pub decoded_reply_found : (b : List ℕ) (r : Reply) → IsBytes b → decoded_reply b ≡ Ok r → IsReply r × MeansReply b r
unfolding decoded_reply reply_fault
decoded_reply_found b r bytes e =
    let parts = decoded_parts (reply_fault b) (reply_of b) r e in
    let header = no_header_fault (nat_lt (length b) 12) (is_sized 12 b) (behind b) parts.0 in
    let rest = parts_of (eqb (word_at b 4) 0x10000000) (Command (word_at b 4)) (find (is_bad b) (reply_places b)) header.2 in
    let long : 12 ≤ length b = ltb-false _ _ header.0 in
    let carries = reply_found b bytes long header.1 (eqb-true _ _ rest.0) (none-AllGood b (reply_places b) rest.1) in
    subst (λ (x : Reply). IsReply x × MeansReply b x) parts.1 (MeansReply-from b (reply_of b).body bytes long header.1 carries)

-- ---- from the words to the places

-- no place is bad, and the body is this one
record Answers (b : List ℕ) (body : Body) : Type 0 where
  good : AllGood b (reply_places b)
  is : (reply_of b).body ≡ body

not_twelve : (n : ℕ) → 12 < n → eqb n 12 ≡ false
not_twelve n lt = grind arith

abbrev Are : List ℕ → ℤ → Body → Type 0
Are b error body = slots_from (shapes_of (reply_slots (reply_with error body))) b 0 0 ≡ reply_slots (reply_with error body)

nothing_only : (b : List ℕ) (error : ℤ) → Are b error bodies.Nothing → Answers b bodies.Nothing
nothing_only b error e =
    let size : word_at b 0 ≡ 12 = ap (λ (ss : List Slot). number_at ss 0) e in
    record { good = rw size tt; is = rw size refl }

values_answer : (b : List ℕ) (error : ℤ) (values : List ℕ) → 92 + 8 * length values ≤ word_at b 0 → Are b error (bodies.Values values) → takes_count kinds.SetValue (length values) ≡ true → takes_command kinds.SetValue (word_at b 20) ≡ true → Answers b (bodies.Values values)
values_answer b error values room e count takes =
    let w16 : word_at b 16 ≡ 1 = ap (λ (ss : List Slot). number_at ss 4) e in
    let w56 : word_at b 56 ≡ length values = ap (λ (ss : List Slot). number_at ss 14) e in
    let more : eqb (word_at b 0) 12 ≡ false = not_twelve (word_at b 0) (omega (arith, room)) in
    let tail : slots_from (shapes_of (value_slots 0 values)) b 0 92 ≡ value_slots 0 values = ap (λ (ss : List Slot). fields_from ss 23) e in
    let are : ValuesAre b 0 values 92 = values_only values b 0 92 tail room in
    let front : AllGood b (front_places b kinds.SetValue) = AllGood-from b 92 (front_places b kinds.SetValue) (omega (arith, room)) refl (rw (w16, w56, takes, count) refl) in
    let good : AllGood b (body_places b kinds.SetValue) = AllGood-append b (front_places b kinds.SetValue) (payload_places b kinds.SetValue) front (rw w56 are.good) in
    record {
      good = subst (λ (t : Bool). AllGood b (cond t [] (body_places b (body_kind b)))) (sym more) (subst (λ (n : ℕ). AllGood b (body_places b (cond (eqb n 5) kinds.SetData kinds.SetValue))) (sym w16) good);
      is = rw (more, w16, w56, are.is) refl;
    }

part_answer : (b : List ℕ) (error : ℤ) (part : Part) → 124 + length part.bytes ≤ word_at b 0 → Are b error (bodies.Part part) → length part.header ≡ 32 → takes_count kinds.SetData (length part.bytes) ≡ true → takes_remaining kinds.SetData (length part.bytes) part.remaining ≡ true → Answers b (bodies.Part part)
part_answer b error part room e long count remaining =
    let w16 : word_at b 16 ≡ 5 = ap (λ (ss : List Slot). number_at ss 4) e in
    let w20 : word_at b 20 ≡ 3 = ap (λ (ss : List Slot). number_at ss 5) e in
    let w56 : word_at b 56 ≡ length part.bytes = ap (λ (ss : List Slot). number_at ss 14) e in
    let w60 : word_at b 60 ≡ part.remaining = ap (λ (ss : List Slot). number_at ss 15) e in
    let w64 : word_at b 64 ≡ part.index = ap (λ (ss : List Slot). number_at ss 16) e in
    let more : eqb (word_at b 0) 12 ≡ false = not_twelve (word_at b 0) (omega (arith, room)) in
    let tail : slots_from (Bytes (length part.header) ∷ Bytes (length part.bytes) ∷ []) b 0 92 ≡ Raw part.header ∷ Raw part.bytes ∷ [] = ap (λ (ss : List Slot). fields_from ss 23) e in
    let front : AllGood b (front_places b kinds.SetData) = AllGood-from b 92 (front_places b kinds.SetData) (omega (arith, room)) refl (rw (w16, w20, w56, w60, count, remaining) refl) in
    let header : AllGood b (any_words 92 8) = AllGood-from b 124 (any_words 92 8) (omega (arith, room)) refl refl in
    let payload : AllGood b (payload_places b kinds.SetData) = AllGood-append b (any_words 92 8) (any_bytes 124 (word_at b 56) ∷ []) header (record { within = rw w56 room; allowed = refl }, tt) in
    let good : AllGood b (body_places b kinds.SetData) = AllGood-append b (front_places b kinds.SetData) (payload_places b kinds.SetData) front payload in
    record {
      good = subst (λ (t : Bool). AllGood b (cond t [] (body_places b (body_kind b)))) (sym more) (subst (λ (n : ℕ). AllGood b (body_places b (cond (eqb n 5) kinds.SetData kinds.SetValue))) (sym w16) good);
      is = rw (more, w16) (ap bodies.Part (part_same b part.header part.bytes part.remaining part.index long w56 w60 w64 tail));
    }

body_answer : (b : List ℕ) (error : ℤ) (body : Body) → reply_size body ≤ word_at b 0 → Are b error body → IsBody body → TakesCommand b body → Answers b body
body_answer b error bodies.Nothing room e is takes = nothing_only b error e
body_answer b error (bodies.Values values) room e is takes = values_answer b error values room e is.1 takes
body_answer b error (bodies.Part part) room e is takes = part_answer b error part room e is.1 is.2 is.3

-- the words of every reply's header
record Header (b : List ℕ) (error : ℤ) : Type 0 where
  command : word_at b 4 ≡ 0x10000000
  error_word : word_at b 8 ≡ cast_unsigned w32 error

header_of : (b : List ℕ) (error : ℤ) (body : Body) → Are b error body → Header b error
header_of b error bodies.Nothing e = record { command = ap (λ (ss : List Slot). number_at ss 1) e; error_word = ap (λ (ss : List Slot). number_at ss 2) e }
header_of b error (bodies.Values values) e = record { command = ap (λ (ss : List Slot). number_at ss 1) e; error_word = ap (λ (ss : List Slot). number_at ss 2) e }
header_of b error (bodies.Part part) e = record { command = ap (λ (ss : List Slot). number_at ss 1) e; error_word = ap (λ (ss : List Slot). number_at ss 2) e }

-- a reply that the bytes carry is decoded
pub decoded_reply_only : (b : List ℕ) (r : Reply) → IsReply r → MeansReply b r → decoded_reply b ≡ Ok r
unfolding decoded_reply reply_fault
decoded_reply_only b r is means =
    let n = reply_size r.body in
    let again = slots_again (reply_slots r) b (take n b) (drop n b) 0 0 (reply-are r.error r.body is) (sym (take-append-drop n b)) means.fits in
    let answers = body_answer b r.error r.body means.room again.slots is.1 means.command in
    let header = header_of b r.error r.body again.slots in
    let long : nat_lt (length b) 12 ≡ false = le-ltb _ _ means.header in
    let sized = means.sized in
    let command = header.command in
    let none : reply_fault b ≡ None = rw (long, sized, command, find-none b (reply_places b) answers.good) refl in
    let error : error_at b ≡ r.error = ap (cast_signed w32) header.error_word ∙ to_z-of_z w32 r.error is.0 in
    ap (λ (o : Option CodecFault). faultless o (reply_of b)) none ∙ ap Ok (ap (λ (e : ℤ). reply_with e (reply_of b).body) error ∙ ap (reply_with r.error) answers.is)

-- ---- what a decoder answered

pub if_decoded_reply : (b : List ℕ) (r : Result Reply CodecFault) → IsBytes b → r ≡ decoded_reply b → IfOk r (λ x. IsReply x × MeansReply b x)
if_decoded_reply b (Ok x) bytes e = decoded_reply_found b x bytes (sym e)
if_decoded_reply b (Err f) bytes e = tt

pub if_reply_fault : (b : List ℕ) (r : Result Reply CodecFault) → r ≡ decoded_reply b → IfErr r (λ f. reply_fault b ≡ Some f)
unfolding decoded_reply
if_reply_fault b (Ok x) e = tt
if_reply_fault b (Err f) e = fault_parts (reply_fault b) (reply_of b) f (sym e)

pub decoded_reply_fault : (b : List ℕ) (f : CodecFault) → decoded_reply b ≡ Err f → reply_fault b ≡ Some f
unfolding decoded_reply
decoded_reply_fault b f e = fault_parts (reply_fault b) (reply_of b) f e

pub decoded_reply_fault_only : (b : List ℕ) (f : CodecFault) → reply_fault b ≡ Some f → decoded_reply b ≡ Err f
unfolding decoded_reply
decoded_reply_fault_only b f e = ap (λ (o : Option CodecFault). faultless o (reply_of b)) e
