-- The records that are built are those of the program: their numbers and names fit their fields.
use Rattle.std.proofs.Common.{◌≡◌, ℕ, zero, suc, ℤ, ◌<◌, ◌^◌, List, [], ◌∷◌, ◌++◌, length, replicate, refl, arith, lit<}
use Rattle.std.specs.Prelude.{FitsSigned, pos, negsuc}
use Rattle.std.specs.Int.{w32, cast_unsigned}
use Rattle.sof_base.specs.Slots.{Slot, Word, Words, Size, Raw, IsName, NoZero, AreWords, IsSlot, AreSlots}
use Rattle.tplg_model.specs.declared.control.ControlHead.{ControlHead}
use Rattle.tplg_model.specs.declared.control.Control.TheVariants as control
use Rattle.tplg_model.specs.declared.tokens.TokenArray.{TokenArray}
use Rattle.tplg_model.specs.Arrays.{Each, arrays_spelling}
use Rattle.tplg_model.specs.Spelling.{IsControl, control_head_slots, widget_head_slots, stream_record_slots}
use Rattle.tplg_build.specs.WidgetForm.{plain_head, scaled_head, channel_records}
use Rattle.tplg_build.specs.PcmForm.{empty_streams}
use Rattle.tplg_build.specs.Payloads.{empty_stream}

-- ---- fields

pub none_is : IsName []
unfolding NoZero
none_is = (omega arith, tt)

are_append : (a b : List Slot) → AreSlots a → AreSlots b → AreSlots (a ++ b)
unfolding AreSlots
are_append [] b x y = y
are_append (s ∷ a) b x y = (x.0, are_append a b x.1 y)

words_append : (a b : List ℕ) → AreWords a → AreWords b → AreWords (a ++ b)
unfolding AreWords
words_append [] b x y = y
words_append (w ∷ a) b x y = (x.0, words_append a b x.1 y)

zero_words : (n : ℕ) → AreWords (replicate n 0)
unfolding AreWords
zero_words zero = tt
zero_words (suc n) = (lit< tt, zero_words n)

channels_are : (n : ℕ) → AreWords (channel_records n)
unfolding AreWords
channels_are zero = tt
channels_are (suc n) = (lit< tt, (lit< tt, (lit< tt, (lit< tt, channels_are n))))

unsigned_small : (z : ℤ) → FitsSigned w32 z → cast_unsigned w32 z < 2 ^ 32
unsigned_small (pos n) f = let b : n < 2 ^ 31 = f.sfits in omega arith
unsigned_small (negsuc n) f = let b : n < 2 ^ 31 = f.sfits in omega arith

-- ---- heads of controls

record IsHead (h : ControlHead) : Type 0 where
  type_word : h.type_word < 2 ^ 32
  name : IsName h.name
  access : h.access < 2 ^ 32
  get : h.get < 2 ^ 32
  put : h.put < 2 ^ 32
  tlv_size : h.tlv_size < 2 ^ 32
  tlv_type : h.tlv_type < 2 ^ 32
  tlv : AreWords h.tlv

head_slots : (kind : ℕ) (h : ControlHead) → kind < 2 ^ 32 → IsHead h → AreSlots (control_head_slots kind h)
unfolding AreSlots IsSlot
head_slots kind h small is = (tt, (is.type_word, (is.name, (is.access, (is.get, (is.put, (small, (is.tlv_size, (is.tlv_type, (is.tlv, tt))))))))))

plain_is : (type_word : ℕ) (name : List ℕ) → type_word < 2 ^ 32 → IsName name → IsHead (plain_head type_word name)
plain_is type_word name small named = record {
  type_word = small;
  name = named;
  access = lit< tt;
  get = lit< tt;
  put = lit< tt;
  tlv_size = lit< tt;
  tlv_type = lit< tt;
  tlv = zero_words 32;
}

three : (a b c : ℕ) → a < 2 ^ 32 → b < 2 ^ 32 → c < 2 ^ 32 → AreWords (a ∷ b ∷ c ∷ [])
unfolding AreWords
three a b c x y z = (x, (y, (z, tt)))

scaled_is : (type_word : ℕ) (name : List ℕ) (min step mute : ℕ) → type_word < 2 ^ 32 → IsName name → min < 2 ^ 32 → step < 2 ^ 32 → mute < 2 ^ 32 → IsHead (scaled_head type_word name min step mute)
scaled_is type_word name min step mute small named a b c = record {
  type_word = small;
  name = named;
  access = lit< tt;
  get = lit< tt;
  put = lit< tt;
  tlv_size = lit< tt;
  tlv_type = lit< tt;
  tlv = words_append (min ∷ step ∷ mute ∷ []) (replicate 29 0) (three min step mute a b c) (zero_words 29);
}

-- ---- controls

mixer_tail : (min max platform_max : ℤ) (invert num_channels : ℕ) (channels private : List ℕ) → FitsSigned w32 min → FitsSigned w32 max → FitsSigned w32 platform_max → invert < 2 ^ 32 → num_channels < 2 ^ 32 → AreWords channels → length private < 2 ^ 32
    → AreSlots (Size 360 ∷ Word (cast_unsigned w32 min) ∷ Word (cast_unsigned w32 max) ∷ Word (cast_unsigned w32 platform_max) ∷ Word invert ∷ Word num_channels ∷ Words channels ∷ Word (length private) ∷ Raw private ∷ [])
unfolding AreSlots IsSlot
mixer_tail min max platform_max invert num_channels channels private a b c d e f g = (tt, (unsigned_small min a, (unsigned_small max b, (unsigned_small platform_max c, (d, (e, (f, (g, (tt, tt)))))))))

pub mixer_is : (name : List ℕ) (channels : ℕ) (min max tlv_min : ℤ) (step mute : ℕ) → IsName name → channels < 2 ^ 32 → FitsSigned w32 min → FitsSigned w32 max → FitsSigned w32 tlv_min → step < 2 ^ 32 → mute < 2 ^ 32
    → IsControl (control.Mixer (scaled_head 1 name (cast_unsigned w32 tlv_min) step mute) min max max 0 channels (channel_records 8) [])
mixer_is name channels min max tlv_min step mute named few a b c d e =
    let head = scaled_head 1 name (cast_unsigned w32 tlv_min) step mute in
    let is = scaled_is 1 name (cast_unsigned w32 tlv_min) step mute (lit< tt) named (unsigned_small tlv_min c) d e in (
      are_append (control_head_slots 1 head) _ (head_slots 1 head (lit< tt) is) (mixer_tail min max max 0 channels (channel_records 8) [] a b b (lit< tt) few (channels_are 8) (lit< tt)),
      (refl, (refl, (a, (b, b)))),
    )

enum_tail : (num_channels : ℕ) (channels : List ℕ) (items mask count : ℕ) (texts values private : List ℕ) → num_channels < 2 ^ 32 → AreWords channels → items < 2 ^ 32 → mask < 2 ^ 32 → count < 2 ^ 32 → AreWords values → length private < 2 ^ 32
    → AreSlots (Size 1764 ∷ Word num_channels ∷ Words channels ∷ Word items ∷ Word mask ∷ Word count ∷ Raw texts ∷ Words values ∷ Word (length private) ∷ Raw private ∷ [])
unfolding AreSlots IsSlot
enum_tail num_channels channels items mask count texts values private a b c d e f g = (tt, (a, (b, (c, (d, (e, (tt, (f, (g, (tt, tt))))))))))

pub enum_is : (name : List ℕ) (count : ℕ) (texts : List ℕ) → IsName name → count < 2 ^ 32 → length texts ≡ 704
    → IsControl (control.Enum (plain_head 3 name) 1 (channel_records 8) count 0 count texts (replicate 176 0) [])
enum_is name count texts named small size =
    let head = plain_head 3 name in (
      are_append (control_head_slots 4 head) _ (head_slots 4 head (lit< tt) (plain_is 3 name (lit< tt) named))
          (enum_tail 1 (channel_records 8) count 0 count texts (replicate 176 0) [] (lit< tt) (channels_are 8) small (lit< tt) small (zero_words 176) (lit< tt)),
      (refl, (refl, (size, refl))),
    )

bytes_tail : (max mask base num_regs : ℕ) (ext_ops private : List ℕ) → max < 2 ^ 32 → mask < 2 ^ 32 → base < 2 ^ 32 → num_regs < 2 ^ 32 → AreWords ext_ops → length private < 2 ^ 32
    → AreSlots (Size 240 ∷ Word max ∷ Word mask ∷ Word base ∷ Word num_regs ∷ Words ext_ops ∷ Word (length private) ∷ Raw private ∷ [])
unfolding AreSlots IsSlot
bytes_tail max mask base num_regs ext_ops private a b c d e f = (tt, (a, (b, (c, (d, (e, (f, (tt, tt))))))))

pub bytes_is : (name : List ℕ) (max : ℕ) (blob : List ℕ) → IsName name → max < 2 ^ 32 → length blob < 2 ^ 32 → IsControl (control.Bytes (plain_head 2 name) max 0 0 0 (0 ∷ 0 ∷ 0 ∷ []) blob)
bytes_is name max blob named small few =
    let head = plain_head 2 name in (
      are_append (control_head_slots 5 head) _ (head_slots 5 head (lit< tt) (plain_is 2 name (lit< tt) named)) (bytes_tail max 0 0 0 (0 ∷ 0 ∷ 0 ∷ []) blob small (lit< tt) (lit< tt) (lit< tt) (zero_words 3) few),
      (refl, refl),
    )

-- ---- widgets

pub widget_head_is : (id : ℕ) (name sname : List ℕ) (num_kcontrols : ℕ) (tokens : List TokenArray) → id < 2 ^ 32 → IsName name → IsName sname → num_kcontrols < 2 ^ 32 → length (arrays_spelling tokens) < 2 ^ 32
    → AreSlots (widget_head_slots (record { id = id; name = name; sname = sname; words = replicate 6 0; event_flags = 0; event_type = 0; num_kcontrols = num_kcontrols; tokens = tokens }))
unfolding AreSlots IsSlot
widget_head_is id name sname num_kcontrols tokens a b c d e = (tt, (a, (b, (c, (zero_words 6, (lit< tt, (lit< tt, (d, (e, (tt, tt))))))))))

-- ---- PCMs

stream_is : AreSlots (stream_record_slots empty_stream)
unfolding AreSlots IsSlot
stream_is = (tt, (none_is, (lit< tt, (lit< tt, (lit< tt, (lit< tt, (lit< tt, tt)))))))

pub streams_are : Each (λ s. AreSlots (stream_record_slots s)) empty_streams
unfolding Each
streams_are = (stream_is, (stream_is, (stream_is, (stream_is, (stream_is, (stream_is, (stream_is, (stream_is, tt))))))))
