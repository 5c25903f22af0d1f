-- Reading from left to right, with the first fault that is met. What is read at a place takes the place and the bytes from it on.
use Rattle.std.specs.Prelude.{ℕ, zero, suc, ◌+◌, ◌-◌, List, [], ◌∷◌, length, drop, Option, Some, None, Result, Ok, Err, nat_lt, ◌==◌, if◌then◌else◌}
use Rattle.std.specs.Int.{w32, cast_signed}
use Rattle.sof_base.specs.Slots.{word_at, half_at, has_name, part}
use Rattle.sof_base.specs.Layouts.{long_at, name_at, words_at}
use Rattle.tplg_model.specs.declared.block_type.TheConstants.{DAPM_GRAPH, DAPM_WIDGET, PCM, MANIFEST}
use Rattle.tplg_model.specs.declared.control_kind.TheConstants as control_kind
use Rattle.tplg_model.specs.declared.fault.TplgFault.{TplgFault}
use Rattle.tplg_model.specs.declared.fault.TplgFault.TheVariants.{Payload, Name, ControlKind, Tokens}
use Rattle.tplg_model.specs.declared.tokens.TokenArray.{TokenArray}
use Rattle.tplg_model.specs.declared.block.Route.{Route}
use Rattle.tplg_model.specs.declared.block.Manifest.{Manifest}
use Rattle.tplg_model.specs.declared.block.Topology.{Topology}
use Rattle.tplg_model.specs.declared.block.Body.{Body}
use Rattle.tplg_model.specs.declared.block.Body.TheVariants.{Manifests, Widgets, Routes, Pcms, Other}
use Rattle.tplg_model.specs.declared.pcm.Caps.{Caps}
use Rattle.tplg_model.specs.declared.pcm.StreamRecord.{StreamRecord}
use Rattle.tplg_model.specs.declared.pcm.Pcm.{Pcm}
use Rattle.tplg_model.specs.declared.control.ControlHead.{ControlHead}
use Rattle.tplg_model.specs.declared.control.Control.{Control}
use Rattle.tplg_model.specs.declared.control.Control.TheVariants.{Mixer, Enum, Bytes}
use Rattle.tplg_model.specs.declared.widget.Widget.{Widget}
use Rattle.tplg_model.specs.Arrays.{ArrayFault}
use Rattle.tplg_model.specs.ArrayReading.{arrays_of}
use Rattle.tplg_model.specs.Outcomes.{◌>>=◌}
use Rattle.tplg_model.specs.Spelling.{WidgetHead, BlockValue}
use Rattle.tplg_model.specs.File.{header_fault}

-- ---- fields

-- the size of what follows a record of a width, its last word, where all of it is there
unfoldable pub tail_size : ℕ → ℕ → List ℕ → Result ℕ TplgFault
tail_size width at bytes =
    if nat_lt (length bytes) width then Err (Payload at)
    else if nat_lt (length bytes - width) (word_at bytes (width - 4)) then Err (Payload at)
    else Ok (word_at bytes (width - 4))

-- the name at an offset
unfoldable pub label_at : ℕ → List ℕ → ℕ → Result (List ℕ) TplgFault
label_at at bytes off = if has_name bytes off then Ok (name_at bytes off) else Err (Name at)

-- ---- items

-- a number of items, one after the other, each with its number of bytes
unfoldable pub items_at : {A : Type 0} → (ℕ → List ℕ → Result (A × ℕ) TplgFault) → ℕ → ℕ → List ℕ → Result (List A × ℕ) TplgFault
items_at step zero at bytes = Ok ([], 0)
items_at step (suc n) at bytes = do
  x ← step at bytes
  xs ← items_at step n (at + x.1) (drop x.1 bytes)
  Ok (x.0 ∷ xs.0, x.1 + xs.1)

-- a number of items, all of the bytes
unfoldable pub all_items : {A : Type 0} → (ℕ → List ℕ → Result (A × ℕ) TplgFault) → ℕ → ℕ → List ℕ → Result (List A) TplgFault
all_items step n at bytes = do
  x ← items_at step n at bytes
  if x.1 == length bytes then Ok x.0 else Err (Payload (at + x.1))

-- a head, and after it as many items as it says
unfoldable pub headed_at : {A B : Type 0} → (ℕ → List ℕ → Result (A × ℕ) TplgFault) → (A → ℕ) → (ℕ → List ℕ → Result (B × ℕ) TplgFault)
    → ℕ → List ℕ → Result ((A × List B) × ℕ) TplgFault
headed_at head count step at bytes = do
  a ← head at bytes
  bs ← items_at step (count a.0) (at + a.1) (drop a.1 bytes)
  Ok ((a.0, bs.0), a.1 + bs.1)

-- parts of a width
unfoldable pub parts_step : {A : Type 0} → ℕ → (ℕ → Result A TplgFault) → ℕ → ℕ → Result (List A) TplgFault
parts_step w step zero off = Ok []
parts_step w step (suc n) off = do
  x ← step off
  xs ← parts_step w step n (off + w)
  Ok (x ∷ xs)

-- ---- routes and manifests

-- a route of three names
abbrev pub route_with : List ℕ → List ℕ → List ℕ → Route
route_with sink control source = record { sink = sink; control = control; source = source }

-- the route at the front of bytes
unfoldable pub route_step : ℕ → List ℕ → Result (Route × ℕ) TplgFault
route_step at bytes =
    if nat_lt (length bytes) 132 then Err (Payload at)
    else (label_at at bytes 0 >>= λ sink. label_at at bytes 44 >>= λ control. label_at at bytes 88 >>= λ source. Ok (route_with sink control source, 132))

-- a manifest with a size of private data
abbrev pub manifest_with : ℕ → List ℕ → Manifest
manifest_with size bytes = record { words = words_at 26 bytes 4; private = part bytes 112 size }

-- the manifest at the front of bytes
unfoldable pub manifest_step : ℕ → List ℕ → Result (Manifest × ℕ) TplgFault
manifest_step at bytes = do
  size ← tail_size 112 at bytes
  Ok (manifest_with size bytes, 112 + size)

-- ---- PCMs

-- a stream record at an offset, whose name was read
abbrev pub stream_with : List ℕ → List ℕ → ℕ → StreamRecord
stream_with name bytes off = record {
  name = name;
  format = long_at bytes (off + 48);
  rate = word_at bytes (off + 56);
  period_bytes = word_at bytes (off + 60);
  buffer_bytes = word_at bytes (off + 64);
  channels = word_at bytes (off + 68);
}

-- the stream record at an offset of a PCM
unfoldable pub stream_step : ℕ → List ℕ → ℕ → Result StreamRecord TplgFault
stream_step at bytes off = do
  name ← label_at at bytes (off + 4)
  Ok (stream_with name bytes off)

-- caps at an offset, whose name was read
abbrev pub caps_at : List ℕ → List ℕ → ℕ → Caps
caps_at name bytes off = record {
  name = name;
  formats = long_at bytes (off + 48);
  rates = word_at bytes (off + 56);
  rate_min = word_at bytes (off + 60);
  rate_max = word_at bytes (off + 64);
  channels_min = word_at bytes (off + 68);
  channels_max = word_at bytes (off + 72);
  periods_min = word_at bytes (off + 76);
  periods_max = word_at bytes (off + 80);
  period_size_min = word_at bytes (off + 84);
  period_size_max = word_at bytes (off + 88);
  buffer_size_min = word_at bytes (off + 92);
  buffer_size_max = word_at bytes (off + 96);
  sig_bits = word_at bytes (off + 100);
}

-- the caps at an offset of a PCM
unfoldable pub caps_step : ℕ → List ℕ → ℕ → Result Caps TplgFault
caps_step at bytes off = do
  name ← label_at at bytes (off + 4)
  Ok (caps_at name bytes off)

-- the eight stream records of a PCM
unfoldable pub streams_step : ℕ → List ℕ → Result (List StreamRecord) TplgFault
streams_step at bytes = parts_step 72 (stream_step at bytes) 8 112

-- a PCM with a size of private data, whose parts with names were read
abbrev pub pcm_with : ℕ → List ℕ → List ℕ → List StreamRecord → Caps → Caps → List ℕ → Pcm
pcm_with size name dai_name streams play cap bytes = record {
  name = name;
  dai_name = dai_name;
  pcm_id = word_at bytes 92;
  dai_id = word_at bytes 96;
  playback = word_at bytes 100;
  capture = word_at bytes 104;
  compress = word_at bytes 108;
  streams = streams;
  num_streams = word_at bytes 688;
  play = play;
  cap = cap;
  flag_mask = word_at bytes 900;
  flags = word_at bytes 904;
  private = part bytes 912 size;
}

-- the PCM at the front of bytes
unfoldable pub pcm_step : ℕ → List ℕ → Result (Pcm × ℕ) TplgFault
pcm_step at bytes = do
  size ← tail_size 912 at bytes
  name ← label_at at bytes 4
  dai_name ← label_at at bytes 48
  streams ← streams_step at bytes
  play ← caps_step at bytes 692
  cap ← caps_step at bytes 796
  Ok (pcm_with size name dai_name streams play cap bytes, 912 + size)

-- ---- controls

-- a control's head, whose name was read
unfoldable pub control_head_with : List ℕ → List ℕ → ControlHead
control_head_with name bytes = record {
  type_word = word_at bytes 4;
  name = name;
  access = word_at bytes 52;
  get = word_at bytes 56;
  put = word_at bytes 60;
  tlv_size = word_at bytes 68;
  tlv_type = word_at bytes 72;
  tlv = words_at 32 bytes 76;
}

-- a mixer with a size of private data, whose name was read
abbrev pub mixer_with : ℕ → List ℕ → List ℕ → Control
mixer_with size name bytes =
    Mixer (control_head_with name bytes) (cast_signed w32 (word_at bytes 208)) (cast_signed w32 (word_at bytes 212)) (cast_signed w32 (word_at bytes 216))
    (word_at bytes 220) (word_at bytes 224) (words_at 32 bytes 228) (part bytes 360 size)

-- the mixer at the front of bytes
unfoldable pub mixer_step : ℕ → List ℕ → Result (Control × ℕ) TplgFault
mixer_step at bytes = do
  size ← tail_size 360 at bytes
  name ← label_at at bytes 8
  Ok (mixer_with size name bytes, 360 + size)

-- an enum with a size of private data, whose name was read
abbrev pub enum_with : ℕ → List ℕ → List ℕ → Control
enum_with size name bytes =
    Enum (control_head_with name bytes) (word_at bytes 208) (words_at 32 bytes 212) (word_at bytes 340) (word_at bytes 344) (word_at bytes 348)
    (part bytes 352 704) (words_at 176 bytes 1056) (part bytes 1764 size)

-- the enum at the front of bytes
unfoldable pub enum_step : ℕ → List ℕ → Result (Control × ℕ) TplgFault
enum_step at bytes = do
  size ← tail_size 1764 at bytes
  name ← label_at at bytes 8
  Ok (enum_with size name bytes, 1764 + size)

-- a bytes control with a size of private data, whose name was read
abbrev pub bytes_with : ℕ → List ℕ → List ℕ → Control
bytes_with size name bytes =
    Bytes (control_head_with name bytes) (word_at bytes 208) (word_at bytes 212) (word_at bytes 216) (word_at bytes 220) (words_at 3 bytes 224)
    (part bytes 240 size)

-- the bytes control at the front of bytes
unfoldable pub bytes_step : ℕ → List ℕ → Result (Control × ℕ) TplgFault
bytes_step at bytes = do
  size ← tail_size 240 at bytes
  name ← label_at at bytes 8
  Ok (bytes_with size name bytes, 240 + size)

-- a control of none of the three kinds
unfoldable pub unknown_step : ℕ → List ℕ → Result (Control × ℕ) TplgFault
unknown_step at bytes = do
  name ← label_at at bytes 8
  Err (ControlKind at (word_at bytes 64))

-- the control at the front of bytes, by its operation `info`
unfoldable pub control_step : ℕ → List ℕ → Result (Control × ℕ) TplgFault
control_step at bytes =
    if nat_lt (length bytes) 204 then Err (Payload at)
    else if word_at bytes 64 == control_kind.MIXER then mixer_step at bytes
    else if word_at bytes 64 == control_kind.ENUM then enum_step at bytes
    else if word_at bytes 64 == control_kind.BYTES then bytes_step at bytes
    else unknown_step at bytes

-- ---- widgets

-- the arrays of a widget's private data; any fault of theirs is the widget's
abbrev pub or_tokens : ℕ → Result (List TokenArray) ArrayFault → Result (List TokenArray) TplgFault
or_tokens at (Ok arrays) = Ok arrays
or_tokens at (Err fault) = Err (Tokens at)

-- a widget's head, whose names and vendor arrays were read
abbrev pub widget_head_with : List ℕ → List ℕ → List TokenArray → List ℕ → WidgetHead
widget_head_with name sname tokens bytes = record {
  id = word_at bytes 4;
  name = name;
  sname = sname;
  words = words_at 6 bytes 96;
  event_flags = half_at bytes 120;
  event_type = half_at bytes 122;
  num_kcontrols = word_at bytes 124;
  tokens = tokens;
}

-- the head of the widget at the front of bytes, with its private data
unfoldable pub widget_head_step : ℕ → List ℕ → Result (WidgetHead × ℕ) TplgFault
widget_head_step at bytes = do
  size ← tail_size 132 at bytes
  name ← label_at at bytes 8
  sname ← label_at at bytes 52
  tokens ← or_tokens at (arrays_of (part bytes 132 size))
  Ok (widget_head_with name sname tokens bytes, 132 + size)

-- the number of controls that a head says
abbrev pub kcontrol_count : WidgetHead → ℕ
kcontrol_count head = head.num_kcontrols

-- a widget of a head and controls
abbrev pub widget_with : WidgetHead → List Control → Widget
widget_with head controls = record {
  id = head.id;
  name = head.name;
  sname = head.sname;
  words = head.words;
  event_flags = head.event_flags;
  event_type = head.event_type;
  tokens = head.tokens;
  controls = controls;
}

-- the widget at the front of bytes, with its controls
unfoldable pub widget_step : ℕ → List ℕ → Result (Widget × ℕ) TplgFault
widget_step at bytes = do
  x ← headed_at widget_head_step kcontrol_count control_step at bytes
  Ok (widget_with x.0.0 x.0.1, x.1)

-- ---- blocks

-- the payload of a block by its type; bytes are kept where the type has no records
unfoldable pub body_at : ℕ → ℕ → ℕ → List ℕ → Result Body TplgFault
body_at kind count at payload =
    if kind == DAPM_GRAPH then (all_items route_step count at payload >>= λ rs. Ok (Routes rs))
    else if kind == DAPM_WIDGET then (all_items widget_step count at payload >>= λ ws. Ok (Widgets ws))
    else if kind == PCM then (all_items pcm_step count at payload >>= λ ps. Ok (Pcms ps))
    else if kind == MANIFEST then (all_items manifest_step count at payload >>= λ ms. Ok (Manifests ms))
    else Ok (Other kind count payload)

-- an outcome, where no fault stands before it
abbrev pub unless_fault : {A : Type 0} → Option TplgFault → Result A TplgFault → Result A TplgFault
unless_fault (Some fault) outcome = Err fault
unless_fault None outcome = outcome

-- a block of a body, with three words of its header
abbrev pub block_with : Body → List ℕ → BlockValue
block_with body bytes = record { version = word_at bytes 8; vendor_type = word_at bytes 20; index = word_at bytes 28; body = body }

-- the block at the front of bytes
unfoldable pub block_step : ℕ → List ℕ → Result (BlockValue × ℕ) TplgFault
block_step at bytes =
    unless_fault (header_fault at bytes) (body_at (word_at bytes 12) (word_at bytes 32) (at + 36) (part bytes 36 (word_at bytes 24)) >>= λ body.
    Ok (block_with body bytes, 36 + word_at bytes 24))

-- items up to the end; the first number is at least that of the bytes
unfoldable pub until_end : {A : Type 0} → (ℕ → List ℕ → Result (A × ℕ) TplgFault) → ℕ → ℕ → List ℕ → Result (List A) TplgFault
until_end step zero at bytes = Ok []
until_end step (suc n) at bytes =
    if length bytes == 0 then Ok [] else (step at bytes >>= λ x. until_end step n (at + x.1) (drop x.1 bytes) >>= λ xs. Ok (x.0 ∷ xs))

-- the blocks of a file
abbrev pub blocks_of : List ℕ → Result (List BlockValue) TplgFault
blocks_of bytes = until_end block_step (length bytes) 0 bytes

-- the topology of a file
abbrev pub topology_of : List ℕ → Result Topology TplgFault
topology_of bytes = blocks_of bytes >>= λ bs. Ok (record { blocks = bs })
