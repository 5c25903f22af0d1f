-- Bytes none of whose places is bad have the words of a message.
use Rattle.std.proofs.Common.{◌≡◌, ℕ, ◌+◌, ◌≤◌, true, false, List, [], ◌∷◌, ◌++◌, length, Option, Some, None, refl, sym, ap, subst, ◌∙◌, arith}
use Rattle.std.proofs.lemmas.Bool.{eqb-true}
use Rattle.std.specs.Prelude.{◌==◌, is_some}
use Rattle.sof_base.specs.Slots.{Slot, Word, Size, word_at, part}
use Rattle.sof_base.specs.Layouts.{slots_from, shapes_of, Bytes}
use Rattle.ipc3_model.specs.declared.command.CommandWord.{CommandWord}
use Rattle.ipc3_model.specs.declared.command.CommandWord.TheVariants as commands
use Rattle.ipc3_model.specs.declared.component_type.CompType.{CompType}
use Rattle.ipc3_model.specs.declared.component_type.CompType.TheVariants as types
use Rattle.ipc3_model.specs.declared.control_kind.ControlKind.{ControlKind}
use Rattle.ipc3_model.specs.declared.control_kind.ControlKind.TheVariants as kinds
use Rattle.ipc3_model.specs.declared.message.Message.{Message}
use Rattle.ipc3_model.specs.declared.message.Message.TheVariants.{CompNew}
use Rattle.ipc3_model.specs.declared.message.CompWords.{CompWords}
use Rattle.ipc3_model.specs.ComponentTypes.{type_number, type_numbered}
use Rattle.ipc3_model.specs.Places.{Place, any_words, word_of}
use Rattle.ipc3_model.specs.StreamWords.{host_buffer_slots}
use Rattle.ipc3_model.specs.ControlWords.{type_of, values_in, part_in, part_slots, control_rest_places, payload_places}
use Rattle.ipc3_model.specs.Messages.{size_of, command_of, body_slots, comp_places, comp_words, typed_words, places_of, message_of}
use Rattle.ipc3_model.specs.Meanings.{IsAllowed}
use Rattle.ipc3_model.proofs.Places.{AllGood, AllGood-split, good_at}
use Rattle.ipc3_model.proofs.Spellings.{type_is, number_again, length-values_at, values_room, values_found, part_found}
use Rattle.sof_base.proofs.FieldLaws.{length-part}

-- m has this command, and its words stand in b
pub record Found (b : List ℕ) (c : CommandWord) (m : Message) : Type 0 where
  pub is : command_of m ≡ c
  pub room : size_of m ≤ word_at b 0
  pub same : slots_from (shapes_of (body_slots m)) b 0 8 ≡ body_slots m
  pub allowed : IsAllowed m

-- ---- components

abbrev comp_of : List ℕ → CompWords → Message
comp_of b words = CompNew (word_at b 8) (word_at b 16) (word_at b 36) (word_at b 40) (word_at b 48) words

abbrev OfType : List ℕ → CompType → Type 0
OfType b t = word_at b 12 ≡ type_number t → AllGood b (comp_places b (Some t)) → Found b commands.CompNew (comp_of b (comp_words b t))

typed_found : (b : List ℕ) (t : CompType) → OfType b t
typed_found b types.Host type good =
    let last = good_at b (comp_places b (Some types.Host)) 16 good in
    let direction = good_at b (comp_places b (Some types.Host)) 14 good in
    record { is = refl; room = last.within; same = rw type refl; allowed = direction.allowed }
typed_found b types.Dai type good =
    let last = good_at b (comp_places b (Some types.Dai)) 17 good in
    let format = good_at b (comp_places b (Some types.Dai)) 10 good in
    let direction = good_at b (comp_places b (Some types.Dai)) 14 good in
    record { is = refl; room = last.within; same = rw type refl; allowed = (format.allowed, direction.allowed) }
typed_found b types.Volume type good =
    let last = good_at b (comp_places b (Some types.Volume)) 18 good in
    let channels = good_at b (comp_places b (Some types.Volume)) 14 good in
    record { is = refl; room = last.within; same = rw type refl; allowed = channels.allowed }
typed_found b types.Mixer type good =
    let last = good_at b (comp_places b (Some types.Mixer)) 13 good in
    record { is = refl; room = last.within; same = rw type refl; allowed = tt }
typed_found b types.Mux type good =
    let last = good_at b (comp_places b (Some types.Mux)) 13 good in
    record { is = refl; room = last.within; same = rw type refl; allowed = tt }
typed_found b types.EqIir type good =
    let last = good_at b (comp_places b (Some types.EqIir)) 22 good in
    record { is = refl; room = last.within; same = rw type refl; allowed = tt }
typed_found b types.Demux type good =
    let last = good_at b (comp_places b (Some types.Demux)) 22 good in
    record { is = refl; room = last.within; same = rw type refl; allowed = tt }

comp_found : (b : List ℕ) (o : Option CompType) → type_numbered (word_at b 12) ≡ o → AllGood b (comp_places b o) → Found b commands.CompNew (comp_of b (typed_words b o))
comp_found b None none good =
    let type : is_some (type_numbered (word_at b 12)) ≡ true = good.1.0.allowed in
    let no : false ≡ true = subst (λ (o : Option CompType). is_some o ≡ true) none type in
    absurd cc
comp_found b (Some t) some good = typed_found b t (type_is (word_at b 12) t some) good

-- ---- the other messages with words of their own

pipe_found : (b : List ℕ) → AllGood b (places_of b commands.PipeNew) → Found b commands.PipeNew (message_of b commands.PipeNew)
pipe_found b good =
    let last = good_at b (places_of b commands.PipeNew) 9 good in
    let period = good_at b (places_of b commands.PipeNew) 4 good in
    record { is = refl; room = last.within; same = refl; allowed = period.allowed }

buffer_found : (b : List ℕ) → AllGood b (places_of b commands.BufferNew) → Found b commands.BufferNew (message_of b commands.BufferNew)
buffer_found b good =
    let last = good_at b (places_of b commands.BufferNew) 8 good in
    let type = good_at b (places_of b commands.BufferNew) 1 good in
    let size = good_at b (places_of b commands.BufferNew) 5 good in
    record { is = refl; room = last.within; same = rw (eqb-true (word_at b 12) 12 type.allowed) refl; allowed = size.allowed }

params_found : (b : List ℕ) → AllGood b (places_of b commands.PcmParams) → Found b commands.PcmParams (message_of b commands.PcmParams)
params_found b good =
    let last = good_at b (places_of b commands.PcmParams) 30 good in
    let direction = good_at b (places_of b commands.PcmParams) 12 good in
    let format = good_at b (places_of b commands.PcmParams) 13 good in
    let channels = good_at b (places_of b commands.PcmParams) 17 good in
    record { is = refl; room = last.within; same = rw (number_again (word_at b 60) format.allowed) refl; allowed = (direction.allowed, channels.allowed) }

-- ---- controls

-- the places up to byte 92
abbrev pub front_places : List ℕ → ControlKind → List Place
front_places b kind = any_words 8 2 ++ word_of b 16 (λ n. n == type_of kind) ∷ control_rest_places b kind

get_value_found : (b : List ℕ) → AllGood b (places_of b commands.GetValue) → Found b commands.GetValue (message_of b commands.GetValue)
get_value_found b good =
    let last = good_at b (places_of b commands.GetValue) 20 good in
    let type = good_at b (places_of b commands.GetValue) 2 good in
    let command = good_at b (places_of b commands.GetValue) 3 good in
    record { is = refl; room = last.within; same = rw (eqb-true (word_at b 16) 0 type.allowed) refl; allowed = command.allowed }

get_data_found : (b : List ℕ) → AllGood b (places_of b commands.GetData) → Found b commands.GetData (message_of b commands.GetData)
get_data_found b good =
    let last = good_at b (places_of b commands.GetData) 20 good in
    let type = good_at b (places_of b commands.GetData) 2 good in
    let command = good_at b (places_of b commands.GetData) 3 good in
    record { is = refl; room = last.within; same = rw (eqb-true (word_at b 16) 4 type.allowed, eqb-true (word_at b 20) 3 command.allowed) refl; allowed = tt }

set_value_found : (b : List ℕ) → AllGood b (places_of b commands.SetValue) → Found b commands.SetValue (message_of b commands.SetValue)
set_value_found b good =
    let both = AllGood-split b (front_places b kinds.SetValue) (payload_places b kinds.SetValue) good in
    let last = good_at b (front_places b kinds.SetValue) 20 both.0 in
    let type = good_at b (front_places b kinds.SetValue) 2 both.0 in
    let command = good_at b (front_places b kinds.SetValue) 3 both.0 in
    let count = good_at b (front_places b kinds.SetValue) 12 both.0 in
    let long : length (values_in b) ≡ word_at b 56 = length-values_at (word_at b 56) b 92 in
    let tail = values_found (word_at b 56) b 0 92 both.1 in
    let reach = values_room (word_at b 56) b 0 92 last.within both.1 in
    record {
      is = refl;
      room = omega (arith, long, reach);
      same = rw (tail, long, eqb-true (word_at b 16) 1 type.allowed) refl;
      allowed = (command.allowed, rw long count.allowed);
    }

-- the words and the payload of a part
set_data_same : (b : List ℕ) → slots_from (Bytes (length (part b 92 32)) ∷ Bytes (length (part b 124 (word_at b 56))) ∷ []) b 0 92 ≡ part_slots (part_in b) → length (part b 124 (word_at b 56)) ≡ word_at b 56 → word_at b 16 ≡ 5 → word_at b 20 ≡ 3 → slots_from (shapes_of (body_slots (message_of b commands.SetData))) b 0 8 ≡ body_slots (message_of b commands.SetData)
set_data_same b tail long type command =
    let head : List Slot → ℕ → ℕ → ℕ → List Slot = λ (ss : List Slot) (t k n : ℕ). Size 0 ∷ Word (word_at b 12) ∷ Word t ∷ Word k ∷ Size 0 ∷ (host_buffer_slots ++ Word n ∷ Word (word_at b 60) ∷ Word (word_at b 64) ∷ Size 0 ∷ Size 0 ∷ Size 0 ∷ Size 0 ∷ Size 0 ∷ Size 0 ∷ ss) in
    ap (λ (ss : List Slot). head ss (word_at b 16) (word_at b 20) (word_at b 56)) tail
    ∙ ap (λ (t : ℕ). head (part_slots (part_in b)) t (word_at b 20) (word_at b 56)) type
    ∙ ap (λ (k : ℕ). head (part_slots (part_in b)) 5 k (word_at b 56)) command
    ∙ ap (λ (n : ℕ). head (part_slots (part_in b)) 5 3 n) (sym long)

set_data_found : (b : List ℕ) → word_at b 0 ≤ length b → AllGood b (places_of b commands.SetData) → Found b commands.SetData (message_of b commands.SetData)
set_data_found b inside good =
    let n = word_at b 56 in
    let both = AllGood-split b (front_places b kinds.SetData) (payload_places b kinds.SetData) good in
    let type = good_at b (front_places b kinds.SetData) 2 both.0 in
    let command = good_at b (front_places b kinds.SetData) 3 both.0 in
    let count = good_at b (front_places b kinds.SetData) 12 both.0 in
    let remaining = good_at b (front_places b kinds.SetData) 13 both.0 in
    let last = good_at b (payload_places b kinds.SetData) 8 both.1 in
    let all : 124 + n ≤ length b = omega (arith, last.within, inside) in
    let head : length (part b 92 32) ≡ 32 = length-part b 92 32 (omega (arith, all)) in
    let long : length (part b 124 n) ≡ n = length-part b 124 n all in
    record {
      is = refl;
      room = omega (arith, long, last.within);
      same = set_data_same b (part_found b n all) long (eqb-true (word_at b 16) 5 type.allowed) (eqb-true (word_at b 20) 3 command.allowed);
      allowed = (head, rw long count.allowed, rw long remaining.allowed);
    }

-- ---- every message

-- a message whose id is all that it has
pub body_found : (b : List ℕ) (c : CommandWord) → 8 ≤ word_at b 0 → word_at b 0 ≤ length b → AllGood b (places_of b c) → Found b c (message_of b c)
body_found b commands.CompNew head inside good = comp_found b (type_numbered (word_at b 12)) refl good
body_found b commands.Connect head inside good = record { is = refl; room = good.1.0.within; same = refl; allowed = tt }
body_found b commands.PipeNew head inside good = pipe_found b good
body_found b commands.BufferNew head inside good = buffer_found b good
body_found b commands.CtxSave head inside good = record { is = refl; room = head; same = refl; allowed = tt }
body_found b commands.SetValue head inside good = set_value_found b good
body_found b commands.GetValue head inside good = get_value_found b good
body_found b commands.SetData head inside good = set_data_found b inside good
body_found b commands.GetData head inside good = get_data_found b good
body_found b commands.PcmParams head inside good = params_found b good
body_found b c head inside good = record { is = refl; room = good.0.within; same = refl; allowed = tt }
