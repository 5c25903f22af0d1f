-- Bytes carry a message exactly where it is decoded.
use Rattle.std.proofs.Common.{◌≡◌, ℕ, ◌≤◌, Bool, true, false, cond, List, ◌∷◌, length, take, drop, Option, Some, None, Result, Ok, Err, refl, sym, ap, subst, ◌∙◌, arith}
use Rattle.std.proofs.lemmas.Bool.{leb-true, ltb-false, le-ltb, and_parts}
use Rattle.std.proofs.lemmas.List.{take-append-drop}
use Rattle.std.specs.Prelude.{nat_lt, not, IfOk, IfErr}
use Rattle.std.specs.List.{find}
use Rattle.sof_base.specs.Cells.{Fits}
use Rattle.sof_base.specs.Slots.{Slot, Word, Size, slots_cells, AreSlots, word_at}
use Rattle.sof_base.specs.Layouts.{widths, slots_from, all_named, shapes_of}
use Rattle.sof_base.proofs.FieldLaws.{IsBytes, slots_read, slots_again}
use Rattle.ipc3_model.specs.declared.command.CommandWord.{CommandWord}
use Rattle.ipc3_model.specs.declared.message.Message.{Message}
use Rattle.ipc3_model.specs.declared.message.Message.TheVariants.{CompNew, SetValue, SetData}
use Rattle.ipc3_model.specs.declared.message.CompWords.TheVariants.{Host, Dai, Volume, Mixer, Mux, Eq, Demux}
use Rattle.ipc3_model.specs.declared.fault.CodecFault.{CodecFault}
use Rattle.ipc3_model.specs.declared.fault.CodecFault.TheVariants.{Short, SizeWord}
use Rattle.ipc3_model.specs.Commands.{command_number, command_numbered}
use Rattle.ipc3_model.specs.Places.{Place, is_bad, field_fault}
use Rattle.ipc3_model.specs.Messages.{is_sized, places_of, message_of, faultless, decoded_body, decoded, size_of, command_of, body_slots, message_slots}
use Rattle.ipc3_model.specs.Meanings.{body_fault, message_fault, IsAllowed, IsMessage, Means}
use Rattle.ipc3_model.proofs.Places.{find-none, none-AllGood}
use Rattle.ipc3_model.proofs.Spellings.{command_is, command_again, values_width, values_named}
use Rattle.ipc3_model.proofs.PlacesToWords.{Found, body_found}
use Rattle.ipc3_model.proofs.WordsToPlaces.{Answers, body_only}

-- ---- the words of bytes, as slots

-- the words after the header are m's
pub record Carries (b : List ℕ) (m : Message) : Type 0 where
  pub room : size_of m ≤ word_at b 0
  pub command : word_at b 4 ≡ command_number (command_of m)
  pub same : slots_from (shapes_of (body_slots m)) b 0 8 ≡ body_slots m
  pub allowed : IsAllowed m

pub widths-message : (m : Message) → IsAllowed m → widths (shapes_of (message_slots m)) ≡ size_of m
widths-message (CompNew id pipe periods_sink periods_source frame_fmt (Host direction)) is = refl
widths-message (CompNew id pipe periods_sink periods_source frame_fmt (Dai direction index)) is = refl
widths-message (CompNew id pipe periods_sink periods_source frame_fmt (Volume channels min_value max_value ramp initial_ramp)) is = refl
widths-message (CompNew id pipe periods_sink periods_source frame_fmt Mixer) is = refl
widths-message (CompNew id pipe periods_sink periods_source frame_fmt Mux) is = refl
widths-message (CompNew id pipe periods_sink periods_source frame_fmt Eq) is = refl
widths-message (CompNew id pipe periods_sink periods_source frame_fmt Demux) is = refl
widths-message (SetValue id command values) is = omega (arith, values_width 0 values)
widths-message (SetData id part) is = let head : length part.header ≡ 32 = is.0 in omega (arith, head)
widths-message m is = refl

named-message : (m : Message) (b : List ℕ) → all_named (shapes_of (message_slots m)) b 0 0 ≡ true
named-message (CompNew id pipe periods_sink periods_source frame_fmt (Host direction)) b = refl
named-message (CompNew id pipe periods_sink periods_source frame_fmt (Dai direction index)) b = refl
named-message (CompNew id pipe periods_sink periods_source frame_fmt (Volume channels min_value max_value ramp initial_ramp)) b = refl
named-message (CompNew id pipe periods_sink periods_source frame_fmt Mixer) b = refl
named-message (CompNew id pipe periods_sink periods_source frame_fmt Mux) b = refl
named-message (CompNew id pipe periods_sink periods_source frame_fmt Eq) b = refl
named-message (CompNew id pipe periods_sink periods_source frame_fmt Demux) b = refl
named-message (SetValue id command values) b = values_named 0 values b 0 92
named-message m b = refl

-- the size word is at most the number of bytes, and at least the header's size
pub within : (header : ℕ) (b : List ℕ) → is_sized header b ≡ true → word_at b 0 ≤ length b
within header b sized = leb-true (word_at b 0) (length b) (and_parts _ _ sized).1

pub at_least : (header : ℕ) (b : List ℕ) → is_sized header b ≡ true → header ≤ word_at b 0
at_least header b sized = leb-true header (word_at b 0) (and_parts _ _ (and_parts _ _ sized).0).0

whole : (b : List ℕ) (m : Message) → Carries b m → slots_from (shapes_of (message_slots m)) b 0 0 ≡ message_slots m
whole b m h =
    ap (λ (n : ℕ). Size (size_of m) ∷ Word n ∷ slots_from (shapes_of (body_slots m)) b 0 8) h.command ∙ ap (λ (ss : List Slot). Size (size_of m) ∷ Word (command_number (command_of m)) ∷ ss) h.same

Means-from : (b : List ℕ) (m : Message) → IsBytes b → 8 ≤ length b → is_sized 8 b ≡ true → Carries b m → IsMessage m × Means b m
Means-from b m bytes header sized carries =
    let width = widths-message m carries.allowed in
    let inside = within 8 b sized in
    let all = slots_read (shapes_of (message_slots m)) b 0 0 bytes (omega (arith, width, carries.room, inside)) (named-message m b) in
    let same = whole b m carries in
    let fits : Fits (take (size_of m) b) (slots_cells (message_slots m)) = rw (width, same) at all.0 in
    let are : AreSlots (message_slots m) = rw same at all.1 in
    ((are, carries.allowed), record { header = header; sized = sized; room = carries.room; fits = fits; allowed = carries.allowed })

head_word : (b : List ℕ) (size n : ℕ) (xs ys : List Slot) → Size size ∷ Word (word_at b 4) ∷ xs ≡ Size size ∷ Word n ∷ ys → (word_at b 4 ≡ n) × (xs ≡ ys)
head_word b size n xs ys e = (cc, cc)

Means-Carries : (b : List ℕ) (m : Message) → IsMessage m → Means b m → Carries b m
Means-Carries b m is means =
    let n = size_of m in
    let r = slots_again (message_slots m) b (take n b) (drop n b) 0 0 is.0 (sym (take-append-drop n b)) means.fits in
    let both = head_word b (size_of m) (command_number (command_of m)) (slots_from (shapes_of (body_slots m)) b 0 8) (body_slots m) r.slots in
    record { room = means.room; command = both.0; same = both.1; allowed = means.allowed }

-- ---- from the places to the words, and back

-- the answer is a message: no fault
pub decoded_parts : {A : Type 0} (o : Option CodecFault) (x y : A) → faultless o x ≡ Ok y → (o ≡ None) × (x ≡ y)
decoded_parts None x y e = (refl, cc)
decoded_parts (Some f) x y e = absurd cc

-- the answer is a fault
pub fault_parts : {A : Type 0} (o : Option CodecFault) (x : A) (f : CodecFault) → faultless o x ≡ Err f → o ≡ Some f
fault_parts None x f e = absurd cc
fault_parts (Some g) x f e = cc

pub no_fault : (o : Option Place) → field_fault o ≡ None → o ≡ None
no_fault None e = refl
no_fault (Some place) e = absurd cc

body_carries : (b : List ℕ) (o : Option CommandWord) (m : Message) → command_numbered (word_at b 4) ≡ o → 8 ≤ word_at b 0 → word_at b 0 ≤ length b → decoded_body b o ≡ Ok m → Carries b m
body_carries b None m is head inside e = absurd cc
body_carries b (Some c) m is head inside e =
    let parts = decoded_parts (field_fault (find (is_bad b) (places_of b c))) (message_of b c) m e in
    let found : Found b c (message_of b c) = body_found b c head inside (none-AllGood b (places_of b c) (no_fault (find (is_bad b) (places_of b c)) parts.0)) in
    let command : word_at b 4 ≡ command_number (command_of (message_of b c)) = command_is (word_at b 4) c is ∙ ap command_number (sym found.is) in
    subst (λ (x : Message). Carries b x) parts.1 (record { room = found.room; command = command; same = found.same; allowed = found.allowed })

message_only : (b : List ℕ) (m : Message) → Carries b m → decoded_body b (command_numbered (word_at b 4)) ≡ Ok m
message_only b m h =
    let c = command_of m in
    let answers : Answers b m = body_only b m h.room h.same h.allowed in
    let number : command_numbered (word_at b 4) ≡ Some c = ap command_numbered h.command ∙ command_again c in
    ap (decoded_body b) number ∙ ap (λ (o : Option Place). faultless (field_fault o) (message_of b c)) (find-none b (places_of b c) answers.good) ∙ ap Ok answers.is

-- ---- what is decoded, and what is not

-- a header without a fault
header_parts : {A : Type 0} (short sized : Bool) (r : Result A CodecFault) (m : A) → cond short (Err Short) (cond (not sized) (Err SizeWord) r) ≡ Ok m → (short ≡ false) × (sized ≡ true) × (r ≡ Ok m)
header_parts true sized r m e = absurd cc
header_parts false false r m e = absurd cc
header_parts false true r m e = (refl, refl, e)

-- what is decoded is a message that the bytes carry
pub decoded_found : (b : List ℕ) (m : Message) → IsBytes b → decoded b ≡ Ok m → IsMessage m × Means b m
unfolding decoded
decoded_found b m bytes e =
    let header = header_parts (nat_lt (length b) 8) (is_sized 8 b) (decoded_body b (command_numbered (word_at b 4))) m e in
    Means-from b m bytes (ltb-false _ _ header.0) header.1 (body_carries b (command_numbered (word_at b 4)) m refl (at_least 8 b header.1) (within 8 b header.1) header.2)

-- a message that the bytes carry is decoded
pub decoded_only : (b : List ℕ) (m : Message) → IsMessage m → Means b m → decoded b ≡ Ok m
unfolding decoded
decoded_only b m is means =
    let long : nat_lt (length b) 8 ≡ false = le-ltb _ _ means.header in
    let sized = means.sized in
    rw (long, sized) (message_only b m (Means-Carries b m is means))

-- ---- faults

body_faults : (b : List ℕ) (o : Option CommandWord) (f : CodecFault) → decoded_body b o ≡ Err f → body_fault b o ≡ Some f
body_faults b None f e = cc
body_faults b (Some c) f e = fault_parts (field_fault (find (is_bad b) (places_of b c))) (message_of b c) f e

body_faults_only : (b : List ℕ) (o : Option CommandWord) (f : CodecFault) → body_fault b o ≡ Some f → decoded_body b o ≡ Err f
body_faults_only b None f e = cc
body_faults_only b (Some c) f e = ap (λ (o : Option CodecFault). faultless o (message_of b c)) e

header_faults : {A : Type 0} (short sized : Bool) (r : Result A CodecFault) (o : Option CodecFault) (f : CodecFault) → (r ≡ Err f → o ≡ Some f) → cond short (Err Short) (cond (not sized) (Err SizeWord) r) ≡ Err f → cond short (Some Short) (cond (not sized) (Some SizeWord) o) ≡ Some f
header_faults true sized r o f h e = cc
header_faults false false r o f h e = cc
header_faults false true r o f h e = h e

header_faults_only : {A : Type 0} (short sized : Bool) (r : Result A CodecFault) (o : Option CodecFault) (f : CodecFault) → (o ≡ Some f → r ≡ Err f) → cond short (Some Short) (cond (not sized) (Some SizeWord) o) ≡ Some f → cond short (Err Short) (cond (not sized) (Err SizeWord) r) ≡ Err f
header_faults_only true sized r o f h e = cc
header_faults_only false false r o f h e = cc
header_faults_only false true r o f h e = h e

pub decoded_fault : (b : List ℕ) (f : CodecFault) → decoded b ≡ Err f → message_fault b ≡ Some f
unfolding decoded message_fault
decoded_fault b f e =
    let o = command_numbered (word_at b 4) in
    header_faults (nat_lt (length b) 8) (is_sized 8 b) (decoded_body b o) (body_fault b o) f (body_faults b o f) e

pub decoded_fault_only : (b : List ℕ) (f : CodecFault) → message_fault b ≡ Some f → decoded b ≡ Err f
unfolding decoded message_fault
decoded_fault_only b f e =
    let o = command_numbered (word_at b 4) in
    header_faults_only (nat_lt (length b) 8) (is_sized 8 b) (decoded_body b o) (body_fault b o) f (body_faults_only b o f) e

-- ---- what a decoder answered

pub if_decoded : (b : List ℕ) (r : Result Message CodecFault) → IsBytes b → r ≡ decoded b → IfOk r (λ m. IsMessage m × Means b m)
if_decoded b (Ok m) bytes e = decoded_found b m bytes (sym e)
if_decoded b (Err f) bytes e = tt

pub if_fault : (b : List ℕ) (r : Result Message CodecFault) → r ≡ decoded b → IfErr r (λ f. message_fault b ≡ Some f)
if_fault b (Ok m) e = tt
if_fault b (Err f) e = decoded_fault b f (sym e)
