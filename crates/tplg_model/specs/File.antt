-- Which bytes are the file of a topology, and which fault of bytes is the first.
use Rattle.std.specs.Prelude.{◌≡◌, ℕ, ◌+◌, ◌-◌, ◌<◌, Bool, List, [], ◌∷◌, ◌++◌, length, Option, Some, None, ◌⊎◌, nat_lt, ◌==◌, if◌then◌else◌}
use Rattle.std.specs.List.{list_all}
use Rattle.sof_base.specs.Cells.{Cell, Fits, written}
use Rattle.sof_base.specs.Slots.{word_at, has_name, part}
use Rattle.tplg_model.specs.declared.block_header.TheConstants.{MAGIC, ABI, HEADER_BYTES}
use Rattle.tplg_model.specs.declared.block_type.TheConstants.{DAPM_GRAPH, DAPM_WIDGET, PCM, MANIFEST}
use Rattle.tplg_model.specs.declared.control_kind.TheConstants as control_kind
use Rattle.tplg_model.specs.declared.fault.TplgFault.{TplgFault}
use Rattle.tplg_model.specs.declared.fault.TplgFault.TheVariants.{Truncated, Magic, Abi, HeaderSize, Payload, Name, ControlKind, Tokens}
use Rattle.tplg_model.specs.declared.block.Topology.{Topology}
use Rattle.tplg_model.specs.Arrays.{Each, ArrayFault, IsTokenFault}
use Rattle.tplg_model.specs.Spelling.{items_cells, IsRoute, route_cells, IsManifest, manifest_cells, IsPcm, pcm_cells, IsControl, control_cells, WidgetHead, IsWidgetHead, widget_head_cells, IsWidget, widget_cells, IsBlock, block_cells}

-- ---- files

-- the bytes that are written
abbrev pub spelling : Topology → List ℕ
spelling t = written (items_cells block_cells t.blocks)

-- the values of a topology of the program
abbrev pub IsTopology : Topology → Type 0
IsTopology t = Each IsBlock t.blocks

-- bytes have the length of the spelling, and agree with it outside the loose places
abbrev pub IsFileOf : List ℕ → Topology → Type 0
IsFileOf bytes t = Fits bytes (items_cells block_cells t.blocks)

-- ---- faults of a record: the first of the list at its place

-- the fields of 44 bytes at these offsets have a 0
abbrev pub have_names : List ℕ → List ℕ → Bool
have_names bytes offs = list_all (has_name bytes) offs

-- a record of a width, with names at these offsets
abbrev pub fixed_fault : ℕ → List ℕ → ℕ → List ℕ → Option TplgFault
fixed_fault width names at bytes =
    if nat_lt (length bytes) width then Some (Payload at)
    else if have_names bytes names then None
    else Some (Name at)

-- a record of a width whose last word is the size of its private data, with names at these offsets
abbrev pub sized_fault : ℕ → List ℕ → ℕ → List ℕ → Option TplgFault
sized_fault width names at bytes =
    if nat_lt (length bytes) width then Some (Payload at)
    else if nat_lt (length bytes - width) (word_at bytes (width - 4)) then Some (Payload at)
    else if have_names bytes names then None
    else Some (Name at)

-- this is the fault at a place
abbrev pub FaultTold : (ℕ → List ℕ → Option TplgFault) → ℕ → List ℕ → TplgFault → Type 0
FaultTold fault at bytes f = fault at bytes ≡ Some f

-- a PCM's names, those of its eight stream records and those of its caps
abbrev pub pcm_names : List ℕ
pcm_names = 4 ∷ 48 ∷ 116 ∷ 188 ∷ 260 ∷ 332 ∷ 404 ∷ 476 ∷ 548 ∷ 620 ∷ 696 ∷ 800 ∷ []

-- a control, by its operation `info`; of a control of none of the three kinds only its head is to fit
abbrev pub control_fault : ℕ → List ℕ → Option TplgFault
control_fault at bytes =
    if nat_lt (length bytes) 204 then Some (Payload at)
    else if word_at bytes 64 == control_kind.MIXER then sized_fault 360 (8 ∷ []) at bytes
    else if word_at bytes 64 == control_kind.ENUM then sized_fault 1764 (8 ∷ []) at bytes
    else if word_at bytes 64 == control_kind.BYTES then sized_fault 240 (8 ∷ []) at bytes
    else if has_name bytes 8 then Some (ControlKind at (word_at bytes 64))
    else Some (Name at)

-- a widget's words and names, and then its private data, which are not vendor arrays
abbrev pub WidgetHeadFault : ℕ → List ℕ → TplgFault → Type 0
WidgetHeadFault at bytes f =
    (sized_fault 132 (8 ∷ 52 ∷ []) at bytes ≡ Some f)
    ⊎ ((sized_fault 132 (8 ∷ 52 ∷ []) at bytes ≡ None)
    × (((e : ArrayFault) × IsTokenFault (part bytes 132 (word_at bytes 128)) e) × (f ≡ Tokens at)))

-- ---- faults of items

-- bytes are whole items, and then further bytes
pub record ItemsFirst {A : Type 0} (cells : A → List Cell) (Is : A → Type 0) (bytes : List ℕ) : Type 0 where
  pub items : List A
  pub front : List ℕ
  pub rest : List ℕ
  pub whole : bytes ≡ front ++ rest
  pub fits : Fits front (items_cells cells items)
  pub are : Each Is items

-- fewer than n items, and then an item at fault
abbrev pub ItemsFault : {A : Type 0} → (A → List Cell) → (A → Type 0) → (ℕ → List ℕ → TplgFault → Type 0) → ℕ → ℕ → List ℕ → TplgFault → Type 0
ItemsFault cells Is Fault n at bytes f = (q : ItemsFirst cells Is bytes) × (length q.items < n) × Fault (at + length q.front) q.rest f

-- n items, and then further bytes
abbrev pub BytesLeft : {A : Type 0} → (A → List Cell) → (A → Type 0) → ℕ → ℕ → List ℕ → TplgFault → Type 0
BytesLeft cells Is n at bytes f = (q : ItemsFirst cells Is bytes) × (length q.items ≡ n) × (0 < length q.rest) × (f ≡ Payload (at + length q.front))

-- a payload of n records
abbrev pub RecordsFault : {A : Type 0} → (A → List Cell) → (A → Type 0) → (ℕ → List ℕ → TplgFault → Type 0) → ℕ → ℕ → List ℕ → TplgFault → Type 0
RecordsFault cells Is Fault n at bytes f = ItemsFault cells Is Fault n at bytes f ⊎ BytesLeft cells Is n at bytes f

-- the head is whole, and an item after it is at fault
pub record BehindHead {A B : Type 0} (head_cells : A → List Cell) (IsHead : A → Type 0) (count : A → ℕ)
    (cells : B → List Cell) (Is : B → Type 0) (Fault : ℕ → List ℕ → TplgFault → Type 0) (at : ℕ) (bytes : List ℕ) (f : TplgFault) : Type 0 where
  pub head : A
  pub front : List ℕ
  pub rest : List ℕ
  pub whole : bytes ≡ front ++ rest
  pub fits : Fits front (head_cells head)
  pub is : IsHead head
  pub first : ItemsFault cells Is Fault (count head) (at + length front) rest f

-- a widget without its controls is at fault, or it is whole and one of its controls is at fault
abbrev pub WidgetFault : ℕ → List ℕ → TplgFault → Type 0
WidgetFault at bytes f =
    WidgetHeadFault at bytes f
    ⊎ BehindHead widget_head_cells IsWidgetHead (λ (head : WidgetHead). head.num_kcontrols) control_cells IsControl (FaultTold control_fault) at bytes f

-- ---- faults of a file

-- the header of a block: bytes that are missing, then its words, then its payload's bytes that are missing
abbrev pub header_fault : ℕ → List ℕ → Option TplgFault
header_fault at bytes =
    if nat_lt (length bytes) 36 then Some (Truncated at)
    else if word_at bytes 0 == MAGIC then
    if word_at bytes 4 == ABI then
    if word_at bytes 16 == HEADER_BYTES then
    if nat_lt (length bytes - 36) (word_at bytes 24) then Some (Truncated at)
    else None
    else Some (HeaderSize at)
    else Some (Abi at (word_at bytes 4))
    else Some (Magic at)

-- the payload of a block, by its type: a route of three names; a widget; a PCM with its names; a manifest without names
abbrev pub PayloadFault : ℕ → ℕ → ℕ → List ℕ → TplgFault → Type 0
PayloadFault kind count at payload f =
    ((kind ≡ DAPM_GRAPH) × RecordsFault route_cells IsRoute (FaultTold (fixed_fault 132 (0 ∷ 44 ∷ 88 ∷ []))) count at payload f)
    ⊎ (((kind ≡ DAPM_WIDGET) × RecordsFault widget_cells IsWidget WidgetFault count at payload f)
    ⊎ (((kind ≡ PCM) × RecordsFault pcm_cells IsPcm (FaultTold (sized_fault 912 pcm_names)) count at payload f)
    ⊎ ((kind ≡ MANIFEST) × RecordsFault manifest_cells IsManifest (FaultTold (sized_fault 112 [])) count at payload f)))

-- the header is at fault, or it is right and its payload is
abbrev pub BlockFault : ℕ → List ℕ → TplgFault → Type 0
BlockFault at bytes f =
    (header_fault at bytes ≡ Some f)
    ⊎ ((header_fault at bytes ≡ None) × PayloadFault (word_at bytes 12) (word_at bytes 32) (at + 36) (part bytes 36 (word_at bytes 24)) f)

-- bytes are whole blocks, and then a block at fault
abbrev pub IsFileFault : List ℕ → TplgFault → Type 0
IsFileFault bytes f = (q : ItemsFirst block_cells IsBlock bytes) × (0 < length q.rest) × BlockFault (length q.front) q.rest f
