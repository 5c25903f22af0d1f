-- How a topology is spelled, after the ALSA topology structures (ABI 5): the fields of each record in their order, blocks, files.
use Rattle.std.specs.Prelude.{◌≡◌, ℕ, List, [], ◌∷◌, ◌++◌, length, FitsSigned}
use Rattle.std.specs.Int.{w32, cast_unsigned}
use Rattle.sof_base.specs.Cells.{Cell, fixed}
use Rattle.sof_base.specs.Slots.{Slot, Word, Half, Long, Size, Label, Words, Raw, slots_cells, AreSlots}
use Rattle.tplg_model.specs.Arrays.{Each, AreArrays, arrays_spelling}
use Rattle.tplg_model.specs.declared.block_header.TheConstants.{MAGIC, ABI, HEADER_BYTES}
use Rattle.tplg_model.specs.declared.block_type.TheConstants.{DAPM_GRAPH, DAPM_WIDGET, PCM, MANIFEST}
use Rattle.tplg_model.specs.declared.control_kind.TheConstants as control_kind
use Rattle.tplg_model.specs.declared.tokens.TokenArray.{TokenArray}
use Rattle.tplg_model.specs.declared.block.Route.{Route}
use Rattle.tplg_model.specs.declared.block.Manifest.{Manifest}
use Rattle.tplg_model.specs.declared.block.Body.{Body}
use Rattle.tplg_model.specs.declared.block.Body.TheVariants.{Manifests, Widgets, Routes, Pcms, Other}
use Rattle.tplg_model.specs.declared.pcm.Caps.{Caps}
use Rattle.tplg_model.specs.declared.pcm.StreamRecord.{StreamRecord}
use Rattle.tplg_model.specs.declared.pcm.Pcm.{Pcm}
use Rattle.tplg_model.specs.declared.control.ControlHead.{ControlHead}
use Rattle.tplg_model.specs.declared.control.Control.{Control}
use Rattle.tplg_model.specs.declared.control.Control.TheVariants.{Mixer, Enum, Bytes}
use Rattle.tplg_model.specs.declared.widget.Widget.{Widget}

-- ---- lists and parts

-- items, one after the other
unfoldable pub items_cells : {A : Type 0} → (A → List Cell) → List A → List Cell
items_cells cells [] = []
items_cells cells (x ∷ xs) = cells x ++ items_cells cells xs

-- the spellings of parts, joined_cells
abbrev pub joined_cells : List (List Cell) → List Cell
joined_cells [] = []
joined_cells (c ∷ cs) = c ++ joined_cells cs

-- ---- routes and manifests

-- a route: three names
abbrev pub route_slots : Route → List Slot
route_slots r = Label r.sink ∷ Label r.control ∷ Label r.source ∷ []

-- the values of a route of the program
abbrev pub IsRoute : Route → Type 0
IsRoute r = AreSlots (route_slots r)

-- a route's bytes
abbrev pub route_cells : Route → List Cell
route_cells r = slots_cells (route_slots r)

-- a manifest: its size, 26 words, and private data
abbrev pub manifest_slots : Manifest → List Slot
manifest_slots m = Size 112 ∷ Words m.words ∷ Word (length m.private) ∷ Raw m.private ∷ []

-- the values of a manifest of the program
abbrev pub IsManifest : Manifest → Type 0
IsManifest m = AreSlots (manifest_slots m) × (length m.words ≡ 26)

-- a manifest's bytes
abbrev pub manifest_cells : Manifest → List Cell
manifest_cells m = slots_cells (manifest_slots m)

-- ---- PCMs

-- a stream record
abbrev pub stream_record_slots : StreamRecord → List Slot
stream_record_slots s = Size 72 ∷ Label s.name ∷ Long s.format ∷ Word s.rate ∷ Word s.period_bytes ∷ Word s.buffer_bytes ∷ Word s.channels ∷ []

-- caps
abbrev pub caps_slots : Caps → List Slot
caps_slots c =
    Size 104 ∷ Label c.name ∷ Long c.formats ∷ Word c.rates ∷ Word c.rate_min ∷ Word c.rate_max ∷ Word c.channels_min ∷ Word c.channels_max
    ∷ Word c.periods_min ∷ Word c.periods_max ∷ Word c.period_size_min ∷ Word c.period_size_max ∷ Word c.buffer_size_min ∷ Word c.buffer_size_max
    ∷ Word c.sig_bits ∷ []

-- a PCM, up to its stream records
abbrev pub pcm_head_slots : Pcm → List Slot
pcm_head_slots p = Size 912 ∷ Label p.name ∷ Label p.dai_name ∷ Word p.pcm_id ∷ Word p.dai_id ∷ Word p.playback ∷ Word p.capture ∷ Word p.compress ∷ []

-- and from its flags on
abbrev pub pcm_tail_slots : Pcm → List Slot
pcm_tail_slots p = Word p.flag_mask ∷ Word p.flags ∷ Word (length p.private) ∷ []

-- a PCM: its head, its stream records, their number, the caps of playback and of capture, flags, and private data
abbrev pub pcm_parts : Pcm → List (List Cell)
pcm_parts p =
    slots_cells (pcm_head_slots p)
    ∷ items_cells (λ s. slots_cells (stream_record_slots s)) p.streams
    ∷ slots_cells (Word p.num_streams ∷ [])
    ∷ slots_cells (caps_slots p.play)
    ∷ slots_cells (caps_slots p.cap)
    ∷ slots_cells (pcm_tail_slots p)
    ∷ fixed p.private
    ∷ []

-- a PCM's bytes
abbrev pub pcm_cells : Pcm → List Cell
pcm_cells p = joined_cells (pcm_parts p)

-- the values of a PCM of the program
pub record IsPcm (p : Pcm) : Type 0 where
  pub head : AreSlots (pcm_head_slots p)
  pub streams : Each (λ s. AreSlots (stream_record_slots s)) p.streams
  pub eight : length p.streams ≡ 8
  pub num_streams : AreSlots (Word p.num_streams ∷ [])
  pub play : AreSlots (caps_slots p.play)
  pub cap : AreSlots (caps_slots p.cap)
  pub tail : AreSlots (pcm_tail_slots p)

-- ---- controls

-- the head of a control whose operation `info` is of a kind
abbrev pub control_head_slots : ℕ → ControlHead → List Slot
control_head_slots kind h =
    Size 204 ∷ Word h.type_word ∷ Label h.name ∷ Word h.access ∷ Word h.get ∷ Word h.put ∷ Word kind
    ∷ Word h.tlv_size ∷ Word h.tlv_type ∷ Words h.tlv ∷ []

-- a mixer, an enum or a bytes control: its head, its own size and words, and private data
abbrev pub kcontrol_slots : Control → List Slot
kcontrol_slots (Mixer head min max platform_max invert num_channels channels private) =
    control_head_slots control_kind.MIXER head
    ++ Size 360 ∷ Word (cast_unsigned w32 min) ∷ Word (cast_unsigned w32 max) ∷ Word (cast_unsigned w32 platform_max) ∷ Word invert
    ∷ Word num_channels ∷ Words channels ∷ Word (length private) ∷ Raw private ∷ []
kcontrol_slots (Enum head num_channels channels items mask count texts values private) =
    control_head_slots control_kind.ENUM head
    ++ Size 1764 ∷ Word num_channels ∷ Words channels ∷ Word items ∷ Word mask ∷ Word count ∷ Raw texts ∷ Words values
    ∷ Word (length private) ∷ Raw private ∷ []
kcontrol_slots (Bytes head max mask base num_regs ext_ops private) =
    control_head_slots control_kind.BYTES head
    ++ Size 240 ∷ Word max ∷ Word mask ∷ Word base ∷ Word num_regs ∷ Words ext_ops ∷ Word (length private) ∷ Raw private ∷ []

-- a control's bytes
abbrev pub control_cells : Control → List Cell
control_cells c = slots_cells (kcontrol_slots c)

-- a control's arrays have their lengths, and its signed words are 32 bits
abbrev pub HasLengths : Control → Type 0
HasLengths (Mixer head min max platform_max invert num_channels channels private) =
    (length head.tlv ≡ 32) × ((length channels ≡ 32) × (FitsSigned w32 min × (FitsSigned w32 max × FitsSigned w32 platform_max)))
HasLengths (Enum head num_channels channels items mask count texts values private) =
    (length head.tlv ≡ 32) × ((length channels ≡ 32) × ((length texts ≡ 704) × (length values ≡ 176)))
HasLengths (Bytes head max mask base num_regs ext_ops private) = (length head.tlv ≡ 32) × (length ext_ops ≡ 3)

-- the values of a control of the program
abbrev pub IsControl : Control → Type 0
IsControl c = AreSlots (kcontrol_slots c) × HasLengths c

-- ---- widgets

-- a widget without its controls, of which it says only the number
pub record WidgetHead : Type 0 where
  pub id : ℕ
  pub name : List ℕ
  pub sname : List ℕ
  pub words : List ℕ
  pub event_flags : ℕ
  pub event_type : ℕ
  pub num_kcontrols : ℕ
  pub tokens : List TokenArray

-- its words, and its private data: vendor arrays
abbrev pub widget_head_slots : WidgetHead → List Slot
widget_head_slots w =
    Size 132 ∷ Word w.id ∷ Label w.name ∷ Label w.sname ∷ Words w.words ∷ Half w.event_flags ∷ Half w.event_type ∷ Word w.num_kcontrols
    ∷ Word (length (arrays_spelling w.tokens)) ∷ Raw (arrays_spelling w.tokens) ∷ []

-- the bytes of a widget up to its controls
abbrev pub widget_head_cells : WidgetHead → List Cell
widget_head_cells w = slots_cells (widget_head_slots w)

-- the values of a widget of the program, but for its controls
pub record IsWidgetHead (w : WidgetHead) : Type 0 where
  pub slots : AreSlots (widget_head_slots w)
  pub words : length w.words ≡ 6
  pub tokens : AreArrays w.tokens

-- what a widget says before its controls
abbrev pub head_of : Widget → WidgetHead
head_of w = record {
  id = w.id;
  name = w.name;
  sname = w.sname;
  words = w.words;
  event_flags = w.event_flags;
  event_type = w.event_type;
  num_kcontrols = length w.controls;
  tokens = w.tokens;
}

-- a widget: its head, and then its controls
abbrev pub widget_cells : Widget → List Cell
widget_cells w = widget_head_cells (head_of w) ++ items_cells control_cells w.controls

-- the values of a widget of the program
pub record IsWidget (w : Widget) : Type 0 where
  pub head : IsWidgetHead (head_of w)
  pub controls : Each IsControl w.controls

-- ---- blocks

-- a block's payload
abbrev pub body_cells : Body → List Cell
body_cells (Manifests ms) = items_cells manifest_cells ms
body_cells (Widgets ws) = items_cells widget_cells ws
body_cells (Routes rs) = items_cells route_cells rs
body_cells (Pcms ps) = items_cells pcm_cells ps
body_cells (Other kind count bytes) = fixed bytes

-- a block's type
abbrev pub block_type : Body → ℕ
block_type (Manifests ms) = MANIFEST
block_type (Widgets ws) = DAPM_WIDGET
block_type (Routes rs) = DAPM_GRAPH
block_type (Pcms ps) = PCM
block_type (Other kind count bytes) = kind

-- its number of records
abbrev pub count_of : Body → ℕ
count_of (Manifests ms) = length ms
count_of (Widgets ws) = length ws
count_of (Routes rs) = length rs
count_of (Pcms ps) = length ps
count_of (Other kind count bytes) = count

-- a type whose payload is no records
abbrev pub HasNoRecords : ℕ → Type 0
HasNoRecords kind = (kind ≡ DAPM_GRAPH → ⊥) × (kind ≡ DAPM_WIDGET → ⊥) × (kind ≡ PCM → ⊥) × (kind ≡ MANIFEST → ⊥)

-- bytes are kept only where the type has no records
abbrev pub HasOwnForm : Body → Type 0
HasOwnForm (Other kind count bytes) = HasNoRecords kind
HasOwnForm body = Unit {0}

-- a block: three words of its header, and its records
pub record BlockValue : Type 0 where
  pub version : ℕ
  pub vendor_type : ℕ
  pub index : ℕ
  pub body : Body

-- the nine words of a header: the magic word, the ABI, version, type, its own size, vendor type, payload size, index, count
abbrev pub header_slots : BlockValue → List Slot
header_slots b =
    Word MAGIC ∷ Word ABI ∷ Word b.version ∷ Word (block_type b.body) ∷ Word HEADER_BYTES
    ∷ Word b.vendor_type ∷ Word (length (body_cells b.body)) ∷ Word b.index ∷ Word (count_of b.body) ∷ []

-- a block: its header and its payload
abbrev pub block_cells : BlockValue → List Cell
block_cells b = slots_cells (header_slots b) ++ body_cells b.body

-- the values of a payload of the program
abbrev pub AreRecords : Body → Type 0
AreRecords (Manifests ms) = Each IsManifest ms
AreRecords (Widgets ws) = Each IsWidget ws
AreRecords (Routes rs) = Each IsRoute rs
AreRecords (Pcms ps) = Each IsPcm ps
AreRecords (Other kind count bytes) = Unit {0}

-- the values of a block of the program
pub record IsBlock (b : BlockValue) : Type 0 where
  pub header : AreSlots (header_slots b)
  pub kept : HasOwnForm b.body
  pub body : AreRecords b.body
