-- Bytes that have the words of a message have no bad place, and are read as it.
use Rattle.std.proofs.Common.{◌≡◌, ℕ, ◌+◌, ◌*◌, ◌≤◌, List, [], ◌∷◌, length, Some, refl, sym, ap, subst, arith}
use Rattle.sof_base.specs.Slots.{Slot, Word, Size, Raw, word_at, half_at, part}
use Rattle.sof_base.specs.Layouts.{slots_from, shapes_of, Bytes}
use Rattle.sof_base.specs.Samples.{frame_format}
use Rattle.sof_base.specs.declared.part.Part.{Part}
use Rattle.sof_base.specs.declared.format.Params.{Params}
use Rattle.ipc3_model.specs.declared.command.CommandWord.TheVariants as commands
use Rattle.ipc3_model.specs.declared.component_type.CompType.TheVariants as types
use Rattle.ipc3_model.specs.declared.control_kind.ControlKind.TheVariants as kinds
use Rattle.ipc3_model.specs.declared.message.Message.{Message}
use Rattle.ipc3_model.specs.declared.message.Message.TheVariants.{CompNew, CompFree, Connect, PipeNew, PipeFree, PipeComplete, BufferNew, BufferFree, CtxSave, SetValue, GetValue, SetData, GetData, PcmParams, PcmFree, TrigStart, TrigStop, TrigPause, TrigRelease}
use Rattle.ipc3_model.specs.declared.message.CompWords.{CompWords}
use Rattle.ipc3_model.specs.declared.message.CompWords.TheVariants.{Host, Dai, Volume, Mixer, Mux, Eq, Demux}
use Rattle.ipc3_model.specs.ComponentTypes.{type_number, type_numbered}
use Rattle.ipc3_model.specs.Places.{any_words, any_bytes}
use Rattle.ipc3_model.specs.ControlWords.{value_slots, part_in, payload_places}
use Rattle.ipc3_model.specs.Messages.{size_of, comp_size, comp_type, command_of, kind_slots, body_slots, comp_places, places_of, message_of}
use Rattle.ipc3_model.specs.Meanings.{IsKind, IsAllowed}
use Rattle.ipc3_model.proofs.Places.{AllGood, AllGood-from, AllGood-append}
use Rattle.ipc3_model.proofs.PlacesToWords.{front_places}
use Rattle.ipc3_model.proofs.Spellings.{number_at, fields_from, format_again, format_known, ValuesAre, values_only}

-- no place is bad, and the message is m
pub record Answers (b : List ℕ) (m : Message) : Type 0 where
  pub good : AllGood b (places_of b (command_of m))
  pub is : message_of b (command_of m) ≡ m

abbrev Are : List ℕ → Message → Type 0
Are b m = slots_from (shapes_of (body_slots m)) b 0 8 ≡ body_slots m

-- a message with an id alone
id_good : (b : List ℕ) → 12 ≤ word_at b 0 → AllGood b (any_words 8 1)
id_good b room = AllGood-from b 12 (any_words 8 1) room refl refl

-- ---- components

-- a component whose type has no words that carry something
bare_is : (b : List ℕ) (id pipe periods_sink periods_source frame_fmt : ℕ) (kind : CompWords) (more : List Slot)
    → Word (word_at b 8) ∷ Word (word_at b 12) ∷ Word (word_at b 16) ∷ Size 0 ∷ Size 0 ∷ Size 36 ∷ Size 0 ∷ Word (word_at b 36) ∷ Word (word_at b 40) ∷ Size 0 ∷ Word (word_at b 48) ∷ more
    ≡ Word id ∷ Word (type_number (comp_type kind)) ∷ Word pipe ∷ Size 0 ∷ Size 0 ∷ Size 36 ∷ Size 0 ∷ Word periods_sink ∷ Word periods_source ∷ Size 0 ∷ Word frame_fmt ∷ more
    → CompNew (word_at b 8) (word_at b 16) (word_at b 36) (word_at b 40) (word_at b 48) kind ≡ CompNew id pipe periods_sink periods_source frame_fmt kind
bare_is b id pipe periods_sink periods_source frame_fmt kind more e =
    let w8 : word_at b 8 ≡ id = ap (λ (ss : List Slot). number_at ss 0) e in
    let w16 : word_at b 16 ≡ pipe = ap (λ (ss : List Slot). number_at ss 2) e in
    let w36 : word_at b 36 ≡ periods_sink = ap (λ (ss : List Slot). number_at ss 7) e in
    let w40 : word_at b 40 ≡ periods_source = ap (λ (ss : List Slot). number_at ss 8) e in
    let w48 : word_at b 48 ≡ frame_fmt = ap (λ (ss : List Slot). number_at ss 10) e in
    rw (w8, w16, w36, w40, w48) refl

comp_only : (b : List ℕ) (id pipe periods_sink periods_source frame_fmt : ℕ) (kind : CompWords) → comp_size kind ≤ word_at b 0 → Are b (CompNew id pipe periods_sink periods_source frame_fmt kind) → IsKind kind frame_fmt → Answers b (CompNew id pipe periods_sink periods_source frame_fmt kind)
comp_only b id pipe periods_sink periods_source frame_fmt (Host direction) room e allowed =
    let type : word_at b 12 ≡ 1 = cc in
    let w8 : word_at b 8 ≡ id = ap (λ (ss : List Slot). number_at ss 0) e in
    let w16 : word_at b 16 ≡ pipe = ap (λ (ss : List Slot). number_at ss 2) e in
    let w36 : word_at b 36 ≡ periods_sink = ap (λ (ss : List Slot). number_at ss 7) e in
    let w40 : word_at b 40 ≡ periods_source = ap (λ (ss : List Slot). number_at ss 8) e in
    let w48 : word_at b 48 ≡ frame_fmt = ap (λ (ss : List Slot). number_at ss 10) e in
    let w64 : word_at b 64 ≡ direction = ap (λ (ss : List Slot). number_at ss 14) e in
    record { good = subst (λ (n : ℕ). AllGood b (comp_places b (type_numbered n))) (sym type) (AllGood-from b 76 (comp_places b (Some types.Host)) room refl (rw (type, w64, allowed) refl)); is = rw (type, w8, w16, w36, w40, w48, w64) refl }
comp_only b id pipe periods_sink periods_source frame_fmt (Dai direction index) room e allowed =
    let type : word_at b 12 ≡ 2 = cc in
    let w8 : word_at b 8 ≡ id = ap (λ (ss : List Slot). number_at ss 0) e in
    let w16 : word_at b 16 ≡ pipe = ap (λ (ss : List Slot). number_at ss 2) e in
    let w36 : word_at b 36 ≡ periods_sink = ap (λ (ss : List Slot). number_at ss 7) e in
    let w40 : word_at b 40 ≡ periods_source = ap (λ (ss : List Slot). number_at ss 8) e in
    let w48 : word_at b 48 ≡ frame_fmt = ap (λ (ss : List Slot). number_at ss 10) e in
    let w64 : word_at b 64 ≡ direction = ap (λ (ss : List Slot). number_at ss 14) e in
    let w68 : word_at b 68 ≡ index = ap (λ (ss : List Slot). number_at ss 15) e in
    record { good = subst (λ (n : ℕ). AllGood b (comp_places b (type_numbered n))) (sym type) (AllGood-from b 80 (comp_places b (Some types.Dai)) room refl (rw (type, w48, w64, allowed.0, allowed.1) refl)); is = rw (type, w8, w16, w36, w40, w48, w64, w68) refl }
comp_only b id pipe periods_sink periods_source frame_fmt (Volume channels min_value max_value ramp initial_ramp) room e allowed =
    let type : word_at b 12 ≡ 5 = cc in
    let w8 : word_at b 8 ≡ id = ap (λ (ss : List Slot). number_at ss 0) e in
    let w16 : word_at b 16 ≡ pipe = ap (λ (ss : List Slot). number_at ss 2) e in
    let w36 : word_at b 36 ≡ periods_sink = ap (λ (ss : List Slot). number_at ss 7) e in
    let w40 : word_at b 40 ≡ periods_source = ap (λ (ss : List Slot). number_at ss 8) e in
    let w48 : word_at b 48 ≡ frame_fmt = ap (λ (ss : List Slot). number_at ss 10) e in
    let w64 : word_at b 64 ≡ channels = ap (λ (ss : List Slot). number_at ss 14) e in
    let w68 : word_at b 68 ≡ min_value = ap (λ (ss : List Slot). number_at ss 15) e in
    let w72 : word_at b 72 ≡ max_value = ap (λ (ss : List Slot). number_at ss 16) e in
    let w76 : word_at b 76 ≡ ramp = ap (λ (ss : List Slot). number_at ss 17) e in
    let w80 : word_at b 80 ≡ initial_ramp = ap (λ (ss : List Slot). number_at ss 18) e in
    record { good = subst (λ (n : ℕ). AllGood b (comp_places b (type_numbered n))) (sym type) (AllGood-from b 84 (comp_places b (Some types.Volume)) room refl (rw (type, w64, allowed) refl)); is = rw (type, w8, w16, w36, w40, w48, w64, w68, w72, w76, w80) refl }
comp_only b id pipe periods_sink periods_source frame_fmt Mixer room e allowed =
    let type : word_at b 12 ≡ 6 = ap (λ (ss : List Slot). number_at ss 1) e in
    record { good = subst (λ (n : ℕ). AllGood b (comp_places b (type_numbered n))) (sym type) (AllGood-from b 64 (comp_places b (Some types.Mixer)) room refl (rw type refl)); is = rw type (bare_is b id pipe periods_sink periods_source frame_fmt Mixer (Size 0 ∷ Size 0 ∷ Size 0 ∷ []) e) }
comp_only b id pipe periods_sink periods_source frame_fmt Mux room e allowed =
    let type : word_at b 12 ≡ 7 = ap (λ (ss : List Slot). number_at ss 1) e in
    record { good = subst (λ (n : ℕ). AllGood b (comp_places b (type_numbered n))) (sym type) (AllGood-from b 64 (comp_places b (Some types.Mux)) room refl (rw type refl)); is = rw type (bare_is b id pipe periods_sink periods_source frame_fmt Mux (Size 0 ∷ Size 0 ∷ Size 0 ∷ []) e) }
comp_only b id pipe periods_sink periods_source frame_fmt Eq room e allowed =
    let type : word_at b 12 ≡ 13 = ap (λ (ss : List Slot). number_at ss 1) e in
    record { good = subst (λ (n : ℕ). AllGood b (comp_places b (type_numbered n))) (sym type) (AllGood-from b 100 (comp_places b (Some types.EqIir)) room refl (rw type refl)); is = rw type (bare_is b id pipe periods_sink periods_source frame_fmt Eq (Size 0 ∷ Size 0 ∷ Size 0 ∷ kind_slots Eq) e) }
comp_only b id pipe periods_sink periods_source frame_fmt Demux room e allowed =
    let type : word_at b 12 ≡ 18 = ap (λ (ss : List Slot). number_at ss 1) e in
    record { good = subst (λ (n : ℕ). AllGood b (comp_places b (type_numbered n))) (sym type) (AllGood-from b 100 (comp_places b (Some types.Demux)) room refl (rw type refl)); is = rw type (bare_is b id pipe periods_sink periods_source frame_fmt Demux (Size 0 ∷ Size 0 ∷ Size 0 ∷ kind_slots Demux) e) }

-- ---- streams

params_only : (b : List ℕ) (host direction : ℕ) (params : Params) → 108 ≤ word_at b 0 → Are b (PcmParams host direction params) → IsAllowed (PcmParams host direction params) → Answers b (PcmParams host direction params)
params_only b host direction params room e allowed =
    let w8 : word_at b 8 ≡ host = ap (λ (ss : List Slot). number_at ss 0) e in
    let w56 : word_at b 56 ≡ direction = ap (λ (ss : List Slot). number_at ss 12) e in
    let w60 : word_at b 60 ≡ frame_format params.format = ap (λ (ss : List Slot). number_at ss 13) e in
    let w68 : word_at b 68 ≡ params.rate = ap (λ (ss : List Slot). number_at ss 15) e in
    let h74 : half_at b 74 ≡ params.channels = ap (λ (ss : List Slot). number_at ss 17) e in
    let known = format_known params.format in
    let again = format_again params.format in
    record {
      good = AllGood-from b 108 (places_of b commands.PcmParams) room refl (rw (w56, w60, h74, allowed.0, allowed.1, known) refl);
      is = rw (w8, w56, w60, w68, h74, again) refl;
    }

-- ---- controls

set_value_only : (b : List ℕ) (id command : ℕ) (values : List ℕ) → 92 + 8 * length values ≤ word_at b 0 → Are b (SetValue id command values) → IsAllowed (SetValue id command values) → Answers b (SetValue id command values)
set_value_only b id command values room e allowed =
    let w12 : word_at b 12 ≡ id = ap (λ (ss : List Slot). number_at ss 1) e in
    let w16 : word_at b 16 ≡ 1 = ap (λ (ss : List Slot). number_at ss 2) e in
    let w20 : word_at b 20 ≡ command = ap (λ (ss : List Slot). number_at ss 3) e in
    let w56 : word_at b 56 ≡ length values = ap (λ (ss : List Slot). number_at ss 12) e in
    let tail : slots_from (shapes_of (value_slots 0 values)) b 0 92 ≡ value_slots 0 values = ap (λ (ss : List Slot). fields_from ss 21) e in
    let are : ValuesAre b 0 values 92 = values_only values b 0 92 tail room in
    let front : AllGood b (front_places b kinds.SetValue) = AllGood-from b 92 (front_places b kinds.SetValue) (omega (arith, room)) refl (rw (w16, w20, w56, allowed.0, allowed.1) refl) in
    record {
      good = AllGood-append b (front_places b kinds.SetValue) (payload_places b kinds.SetValue) front (rw w56 are.good);
      is = rw (w12, w20, w56, are.is) refl;
    }

get_value_only : (b : List ℕ) (id command : ℕ) → 92 ≤ word_at b 0 → Are b (GetValue id command) → IsAllowed (GetValue id command) → Answers b (GetValue id command)
get_value_only b id command room e allowed =
    let w16 : word_at b 16 ≡ 0 = ap (λ (ss : List Slot). number_at ss 2) e in
    let w20 : word_at b 20 ≡ command = ap (λ (ss : List Slot). number_at ss 3) e in
    record { good = AllGood-from b 92 (places_of b commands.GetValue) room refl (rw (w16, w20, allowed) refl); is = cc }

get_data_only : (b : List ℕ) (id index : ℕ) → 92 ≤ word_at b 0 → Are b (GetData id index) → Answers b (GetData id index)
get_data_only b id index room e =
    let w16 : word_at b 16 ≡ 4 = ap (λ (ss : List Slot). number_at ss 2) e in
    let w20 : word_at b 20 ≡ 3 = ap (λ (ss : List Slot). number_at ss 3) e in
    let w12 : word_at b 12 ≡ id = ap (λ (ss : List Slot). number_at ss 1) e in
    let w64 : word_at b 64 ≡ index = ap (λ (ss : List Slot). number_at ss 14) e in
    record { good = AllGood-from b 92 (places_of b commands.GetData) room refl (rw (w16, w20) refl); is = rw (w12, w64) refl }

-- a part of a header and bytes
pub part_same : (b header bytes : List ℕ) (remaining index : ℕ) → length header ≡ 32 → word_at b 56 ≡ length bytes → word_at b 60 ≡ remaining → word_at b 64 ≡ index → slots_from (Bytes (length header) ∷ Bytes (length bytes) ∷ []) b 0 92 ≡ Raw header ∷ Raw bytes ∷ [] → part_in b ≡ record { header = header; remaining = remaining; index = index; bytes = bytes }
part_same b header bytes remaining index long n w60 w64 tail =
    let here : Raw (part b 92 32) ∷ Raw (part b 124 (length bytes)) ∷ [] ≡ Raw header ∷ Raw bytes ∷ [] = subst (λ (m : ℕ). slots_from (Bytes m ∷ Bytes (length bytes) ∷ []) b 0 92 ≡ Raw header ∷ Raw bytes ∷ []) long tail in
    let first : part b 92 32 ≡ header = cc in
    let second : part b 124 (length bytes) ≡ bytes = cc in
    rw (w60, w64, n, first, second) refl

set_data_only : (b : List ℕ) (id : ℕ) (part : Part) → 124 + length part.bytes ≤ word_at b 0 → Are b (SetData id part) → IsAllowed (SetData id part) → Answers b (SetData id part)
set_data_only b id part room e allowed =
    let w12 : word_at b 12 ≡ id = ap (λ (ss : List Slot). number_at ss 1) e in
    let w16 : word_at b 16 ≡ 5 = ap (λ (ss : List Slot). number_at ss 2) e in
    let w20 : word_at b 20 ≡ 3 = ap (λ (ss : List Slot). number_at ss 3) e in
    let w56 : word_at b 56 ≡ length part.bytes = ap (λ (ss : List Slot). number_at ss 12) e in
    let w60 : word_at b 60 ≡ part.remaining = ap (λ (ss : List Slot). number_at ss 13) e in
    let w64 : word_at b 64 ≡ part.index = ap (λ (ss : List Slot). number_at ss 14) e in
    let tail : slots_from (Bytes (length part.header) ∷ Bytes (length part.bytes) ∷ []) b 0 92 ≡ Raw part.header ∷ Raw part.bytes ∷ [] = ap (λ (ss : List Slot). fields_from ss 21) e in
    let front : AllGood b (front_places b kinds.SetData) = AllGood-from b 92 (front_places b kinds.SetData) (omega (arith, room)) refl (rw (w16, w20, w56, w60, allowed.1, allowed.2) refl) in
    let header : AllGood b (any_words 92 8) = AllGood-from b 124 (any_words 92 8) (omega (arith, room)) refl refl in
    let payload : AllGood b (payload_places b kinds.SetData) = AllGood-append b (any_words 92 8) (any_bytes 124 (word_at b 56) ∷ []) header (record { within = rw w56 room; allowed = refl }, tt) in
    record {
      good = AllGood-append b (front_places b kinds.SetData) (payload_places b kinds.SetData) front payload;
      is = rw w12 (ap (SetData id) (part_same b part.header part.bytes part.remaining part.index allowed.0 w56 w60 w64 tail));
    }

-- ---- every message

pub body_only : (b : List ℕ) (m : Message) → size_of m ≤ word_at b 0 → Are b m → IsAllowed m → Answers b m
body_only b (CompNew id pipe periods_sink periods_source frame_fmt kind) room e allowed = comp_only b id pipe periods_sink periods_source frame_fmt kind room e allowed
body_only b (Connect source sink) room e allowed = record { good = AllGood-from b 16 (places_of b commands.Connect) room refl refl; is = cc }
body_only b (PipeNew id pipe sched period priority mips frames time_domain) room e allowed =
    let w8 : word_at b 8 ≡ id = ap (λ (ss : List Slot). number_at ss 0) e in
    let w12 : word_at b 12 ≡ pipe = ap (λ (ss : List Slot). number_at ss 1) e in
    let w16 : word_at b 16 ≡ sched = ap (λ (ss : List Slot). number_at ss 2) e in
    let w24 : word_at b 24 ≡ period = ap (λ (ss : List Slot). number_at ss 4) e in
    let w28 : word_at b 28 ≡ priority = ap (λ (ss : List Slot). number_at ss 5) e in
    let w32 : word_at b 32 ≡ mips = ap (λ (ss : List Slot). number_at ss 6) e in
    let w36 : word_at b 36 ≡ frames = ap (λ (ss : List Slot). number_at ss 7) e in
    let w44 : word_at b 44 ≡ time_domain = ap (λ (ss : List Slot). number_at ss 9) e in
    record { good = AllGood-from b 48 (places_of b commands.PipeNew) room refl (rw (w24, allowed) refl); is = rw (w8, w12, w16, w24, w28, w32, w36, w44) refl }
body_only b (BufferNew id pipe size caps) room e allowed =
    let w12 : word_at b 12 ≡ 12 = cc in
    let w28 : word_at b 28 ≡ size = cc in
    record { good = AllGood-from b 44 (places_of b commands.BufferNew) room refl (rw (w12, w28, allowed) refl); is = cc }
body_only b CtxSave room e allowed = record { good = tt; is = refl }
body_only b (SetValue id command values) room e allowed = set_value_only b id command values room e allowed
body_only b (GetValue id command) room e allowed = get_value_only b id command room e allowed
body_only b (SetData id part) room e allowed = set_data_only b id part room e allowed
body_only b (GetData id index) room e allowed = get_data_only b id index room e
body_only b (PcmParams host direction params) room e allowed = params_only b host direction params room e allowed
body_only b (CompFree id) room e allowed = record { good = id_good b room; is = cc }
body_only b (PipeFree id) room e allowed = record { good = id_good b room; is = cc }
body_only b (PipeComplete id) room e allowed = record { good = id_good b room; is = cc }
body_only b (BufferFree id) room e allowed = record { good = id_good b room; is = cc }
body_only b (PcmFree id) room e allowed = record { good = id_good b room; is = cc }
body_only b (TrigStart id) room e allowed = record { good = id_good b room; is = cc }
body_only b (TrigStop id) room e allowed = record { good = id_good b room; is = cc }
body_only b (TrigPause id) room e allowed = record { good = id_good b room; is = cc }
body_only b (TrigRelease id) room e allowed = record { good = id_good b room; is = cc }
