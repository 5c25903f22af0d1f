-- What is spelled is decoded, whatever follows it.
use Rattle.std.proofs.Common.{◌≡◌, ℕ, ◌≤◌, ◌<◌, ◌^◌, true, List, [], ◌∷◌, ◌++◌, length, take, drop, Result, Ok, refl, sym, ap, subst, ◌∙◌, arith, length-append, append-nil}
use Rattle.std.proofs.lemmas.Bool.{le-leb, leb-true, and_parts}
use Rattle.std.proofs.lemmas.List.{take_at, take-append-drop, length-map}
use Rattle.std.proofs.lemmas.Nat.{from_le_bytes-to_le_bytes_4}
use Rattle.std.specs.Prelude.{nat_le, ◌&&◌}
use Rattle.sof_base.specs.Cells.{Fits, written, byte_of}
use Rattle.sof_base.specs.Slots.{Slot, Word, Size, slots_cells, slot_cells, word_at}
use Rattle.sof_base.proofs.FieldLaws.{length-slots}
use Rattle.sof_base.proofs.Fitting.{Fits-written}
use Rattle.ipc3_model.specs.declared.message.Message.{Message}
use Rattle.ipc3_model.specs.declared.message.Message.TheVariants.{CompNew, SetValue, SetData}
use Rattle.ipc3_model.specs.declared.message.CompWords.TheVariants.{Host, Dai, Volume, Mixer, Mux, Eq, Demux}
use Rattle.ipc3_model.specs.declared.reply.Reply.{Reply}
use Rattle.ipc3_model.specs.declared.reply.Body.{Body}
use Rattle.ipc3_model.specs.declared.reply.Body.TheVariants as bodies
use Rattle.ipc3_model.specs.declared.fault.CodecFault.{CodecFault}
use Rattle.ipc3_model.specs.Commands.{command_number}
use Rattle.ipc3_model.specs.Messages.{message_slots, message_spelling, size_of, command_of, body_slots, is_sized, decoded}
use Rattle.ipc3_model.specs.Meanings.{IsAllowed, IsMessage, Means}
use Rattle.ipc3_model.specs.Replies.{reply_size, reply_slots, reply_spelling, decoded_reply}
use Rattle.ipc3_model.specs.ReplyForms.{IsBody, IsReply, MeansReply, TakesCommand}
use Rattle.ipc3_model.proofs.Carrying.{widths-message, decoded_only}
use Rattle.ipc3_model.proofs.ReplyLaws.{reply-are, reply-width, decoded_reply_only}

ok_once : {A : Type 0} (r : Result A CodecFault) (x y : A) → r ≡ Ok x → r ≡ Ok y → x ≡ y
ok_once r x y e f = cc

most_of : (low n high : ℕ) → (nat_le low n && nat_le n high) ≡ true → n ≤ high
most_of low n high e = leb-true n high (and_parts (nat_le low n) (nat_le n high) e).1

-- ---- messages

-- how long a message is
pub length-spelling : (m : Message) → IsMessage m → length (message_spelling m) ≡ size_of m
length-spelling m is = length-map (slots_cells (message_slots m)) byte_of ∙ length-slots (message_slots m) is.0 ∙ widths-message m is.1

pub size-least : (m : Message) → 8 ≤ size_of m
size-least (CompNew id pipe periods_sink periods_source frame_fmt (Host direction)) = omega arith
size-least (CompNew id pipe periods_sink periods_source frame_fmt (Dai direction index)) = omega arith
size-least (CompNew id pipe periods_sink periods_source frame_fmt (Volume channels min_value max_value ramp initial_ramp)) = omega arith
size-least (CompNew id pipe periods_sink periods_source frame_fmt Mixer) = omega arith
size-least (CompNew id pipe periods_sink periods_source frame_fmt Mux) = omega arith
size-least (CompNew id pipe periods_sink periods_source frame_fmt Eq) = omega arith
size-least (CompNew id pipe periods_sink periods_source frame_fmt Demux) = omega arith
size-least m = omega arith

allowed-most : (m : Message) → IsAllowed m → size_of m ≤ 384
allowed-most (CompNew id pipe periods_sink periods_source frame_fmt (Host direction)) is = omega arith
allowed-most (CompNew id pipe periods_sink periods_source frame_fmt (Dai direction index)) is = omega arith
allowed-most (CompNew id pipe periods_sink periods_source frame_fmt (Volume channels min_value max_value ramp initial_ramp)) is = omega arith
allowed-most (CompNew id pipe periods_sink periods_source frame_fmt Mixer) is = omega arith
allowed-most (CompNew id pipe periods_sink periods_source frame_fmt Mux) is = omega arith
allowed-most (CompNew id pipe periods_sink periods_source frame_fmt Eq) is = omega arith
allowed-most (CompNew id pipe periods_sink periods_source frame_fmt Demux) is = omega arith
allowed-most (SetValue id command values) is = let few = most_of 1 (length values) 8 is.1 in omega (arith, few)
allowed-most (SetData id part) is = let few = most_of 1 (length part.bytes) 260 is.1 in omega (arith, few)
allowed-most m is = omega arith

pub size-most : (m : Message) → IsMessage m → size_of m ≤ 384
size-most m is = allowed-most m is.1

-- the first word that is spelled
first_word : (n : ℕ) (ss : List Slot) (rest : List ℕ) → n < 2 ^ 32 → word_at (written (slots_cells (Size n ∷ ss)) ++ rest) 0 ≡ n
unfolding slots_cells slot_cells word_at
first_word n ss rest small = from_le_bytes-to_le_bytes_4 n small

sized-from : (header n : ℕ) (b : List ℕ) → word_at b 0 ≡ n → header ≤ n → n ≤ 384 → n ≤ length b → is_sized header b ≡ true
sized-from header n b is low high room = rw (is, le-leb header n low, le-leb n 384 high, le-leb n (length b) room) refl

pub Means-spelling : (m : Message) (rest : List ℕ) → IsMessage m → Means (message_spelling m ++ rest) m
Means-spelling m rest is =
    let spelling = message_spelling m in
    let b = spelling ++ rest in
    let n = size_of m in
    let len = length-spelling m is in
    let long : n ≤ length b = omega (arith, len, length-append spelling rest) in
    let least = size-least m in
    let most = size-most m is in
    let size : word_at b 0 ≡ n = first_word n (Word (command_number (command_of m)) ∷ body_slots m) rest (omega (arith, most)) in
    let front : take n b ≡ spelling = take_at spelling rest n len in
    record {
      header = omega (arith, long, least);
      sized = sized-from 8 n b size least most long;
      room = omega (arith, size);
      fits = subst (λ (x : List ℕ). Fits x (slots_cells (message_slots m))) (sym front) (Fits-written (slots_cells (message_slots m)));
      allowed = is.1;
    }

-- a message is decoded from its spelling
pub decoded-spelling : (m : Message) (rest : List ℕ) → IsMessage m → decoded (message_spelling m ++ rest) ≡ Ok m
decoded-spelling m rest is = decoded_only (message_spelling m ++ rest) m is (Means-spelling m rest is)

-- also where its spelling is only the first n bytes
pub decoded-front : (m : Message) (b : List ℕ) (n : ℕ) → IsMessage m → take n b ≡ message_spelling m → decoded b ≡ Ok m
decoded-front m b n is front =
    let whole : message_spelling m ++ drop n b ≡ b = ap (λ (x : List ℕ). x ++ drop n b) (sym front) ∙ take-append-drop n b in
    subst (λ (x : List ℕ). decoded x ≡ Ok m) whole (decoded-spelling m (drop n b) is)

-- bytes carry at most one message
pub one_message : (b : List ℕ) (m n : Message) → IsMessage m → IsMessage n → Means b m → Means b n → m ≡ n
one_message b m n is_m is_n means_m means_n = ok_once (decoded b) m n (decoded_only b m is_m means_m) (decoded_only b n is_n means_n)

-- ---- replies

pub length-reply_spelling : (r : Reply) → IsReply r → length (reply_spelling r) ≡ reply_size r.body
length-reply_spelling r is = length-map (slots_cells (reply_slots r)) byte_of ∙ length-slots (reply_slots r) (reply-are r.error r.body is) ∙ reply-width r.error r.body is.1

body-least : (body : Body) → 12 ≤ reply_size body
body-least bodies.Nothing = omega arith
body-least (bodies.Values values) = omega arith
body-least (bodies.Part part) = omega arith

body-most : (body : Body) → IsBody body → reply_size body ≤ 384
body-most bodies.Nothing is = omega arith
body-most (bodies.Values values) is = let few = most_of 1 (length values) 8 is.1 in omega (arith, few)
body-most (bodies.Part part) is = let few = most_of 1 (length part.bytes) 260 is.2 in omega (arith, few)

pub reply-least : (r : Reply) → 12 ≤ reply_size r.body
reply-least r = body-least r.body

pub reply-most : (r : Reply) → IsReply r → reply_size r.body ≤ 384
reply-most r is = body-most r.body is.1

abbrev spelling_of : Body → Reply → List ℕ
spelling_of body r = reply_spelling (record { error = r.error; body = body })

size-reply : (r : Reply) (body : Body) (rest : List ℕ) → reply_size body ≤ 384 → word_at (spelling_of body r ++ rest) 0 ≡ reply_size body
unfolding slots_cells slot_cells word_at
size-reply r bodies.Nothing rest small = refl
size-reply r (bodies.Values values) rest small = from_le_bytes-to_le_bytes_4 (reply_size (bodies.Values values)) (omega (arith, small))
size-reply r (bodies.Part part) rest small = from_le_bytes-to_le_bytes_4 (reply_size (bodies.Part part)) (omega (arith, small))

-- the command of what is spelled
command-reply : (r : Reply) (body : Body) (rest : List ℕ) → TakesCommand (spelling_of body r ++ rest) body
unfolding slots_cells slot_cells word_at
command-reply r bodies.Nothing rest = tt
command-reply r (bodies.Values values) rest = refl
command-reply r (bodies.Part part) rest = tt

pub MeansReply-spelling : (r : Reply) (rest : List ℕ) → IsReply r → MeansReply (reply_spelling r ++ rest) r
MeansReply-spelling r rest is =
    let spelling = reply_spelling r in
    let b = spelling ++ rest in
    let n = reply_size r.body in
    let len = length-reply_spelling r is in
    let long : n ≤ length b = omega (arith, len, length-append spelling rest) in
    let least = reply-least r in
    let most = reply-most r is in
    let size : word_at b 0 ≡ n = size-reply r r.body rest most in
    let front : take n b ≡ spelling = take_at spelling rest n len in
    record {
      header = omega (arith, long, least);
      sized = sized-from 12 n b size least most long;
      room = omega (arith, size);
      fits = subst (λ (x : List ℕ). Fits x (slots_cells (reply_slots r))) (sym front) (Fits-written (slots_cells (reply_slots r)));
      command = command-reply r r.body rest;
    }

-- a reply is decoded from its spelling
pub decoded_reply-spelling : (r : Reply) (rest : List ℕ) → IsReply r → decoded_reply (reply_spelling r ++ rest) ≡ Ok r
decoded_reply-spelling r rest is = decoded_reply_only (reply_spelling r ++ rest) r is (MeansReply-spelling r rest is)

-- from nothing but its spelling
pub decoded_reply-exactly : (r : Reply) → IsReply r → decoded_reply (reply_spelling r) ≡ Ok r
decoded_reply-exactly r is = subst (λ (x : List ℕ). decoded_reply x ≡ Ok r) (append-nil (reply_spelling r)) (decoded_reply-spelling r [] is)

-- also where its spelling is only the first n bytes
pub decoded_reply-front : (r : Reply) (b : List ℕ) (n : ℕ) → IsReply r → take n b ≡ reply_spelling r → decoded_reply b ≡ Ok r
decoded_reply-front r b n is front =
    let whole : reply_spelling r ++ drop n b ≡ b = ap (λ (x : List ℕ). x ++ drop n b) (sym front) ∙ take-append-drop n b in
    subst (λ (x : List ℕ). decoded_reply x ≡ Ok r) whole (decoded_reply-spelling r (drop n b) is)

-- bytes carry at most one reply
pub one_reply : (b : List ℕ) (r s : Reply) → IsReply r → IsReply s → MeansReply b r → MeansReply b s → r ≡ s
one_reply b r s is_r is_s means_r means_s = ok_once (decoded_reply b) r s (decoded_reply_only b r is_r means_r) (decoded_reply_only b s is_s means_s)
