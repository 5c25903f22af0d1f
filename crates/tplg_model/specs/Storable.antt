-- What the types of a block and of an array keep, and the bytes of the parts of a PCM.
use Rattle.std.specs.Prelude.{◌<◌, ◌^◌, List, length}
use Rattle.sof_base.specs.Cells.{Cell}
use Rattle.sof_base.specs.Slots.{slots_cells}
use Rattle.tplg_model.specs.declared.block.Body.{Body}
use Rattle.tplg_model.specs.declared.pcm.Caps.{Caps}
use Rattle.tplg_model.specs.declared.pcm.StreamRecord.{StreamRecord}
use Rattle.tplg_model.specs.declared.tokens.TokenArray.{TokenArray}
use Rattle.tplg_model.specs.Arrays.{array_size}
use Rattle.tplg_model.specs.Spelling.{body_cells, HasOwnForm, stream_record_slots, caps_slots}

-- what each block of the program keeps: its payload has a size, and bytes are kept only of other types
pub record IsStorable (body : Body) : Type 0 where
  pub size : length (body_cells body) < 2 ^ 32
  pub kept : HasOwnForm body

-- an array's size fits its word
abbrev pub HasSize : TokenArray → Type 0
HasSize a = array_size a < 2 ^ 32

-- a stream record's bytes
abbrev pub stream_cells : StreamRecord → List Cell
stream_cells s = slots_cells (stream_record_slots s)

-- the bytes of caps
abbrev pub caps_cells : Caps → List Cell
caps_cells c = slots_cells (caps_slots c)
