-- Which replies have a form, and how they are read.
use Rattle.std.specs.Prelude.{◌≡◌, ℕ, ℤ, ◌<◌, ◌≤◌, ◌^◌, true, List, length, take}
use Rattle.std.specs.Int.{w32}
use Rattle.std.specs.Int.RustNames.{FitsSigned}
use Rattle.sof_base.specs.Cells.{Fits}
use Rattle.sof_base.specs.Slots.{AreSlots, slots_cells, word_at}
use Rattle.ipc3_model.specs.declared.control_kind.ControlKind.TheVariants as kinds
use Rattle.ipc3_model.specs.declared.reply.Body.{Body}
use Rattle.ipc3_model.specs.declared.reply.Body.TheVariants.{Nothing, Values, Part}
use Rattle.ipc3_model.specs.declared.reply.Reply.{Reply}
use Rattle.ipc3_model.specs.ControlWords.{takes_command, takes_count, takes_remaining, value_slots}
use Rattle.ipc3_model.specs.Messages.{is_sized}
use Rattle.ipc3_model.specs.Replies.{reply_size, reply_slots}

-- a reply without a body
abbrev pub without_body : ℤ → Reply
without_body error = record { error = error; body = Nothing }

-- a body of the program that no decoder refuses
abbrev pub IsBody : Body → Type 0
IsBody Nothing = Unit {0}
IsBody (Values values) = AreSlots (value_slots 0 values) × (takes_count kinds.SetValue (length values) ≡ true)
IsBody (Part part) =
    (part.index < 2 ^ 32) × (length part.header ≡ 32) × (takes_count kinds.SetData (length part.bytes) ≡ true) × (takes_remaining kinds.SetData (length part.bytes) part.remaining ≡ true)

-- an error of the program is an i32
abbrev pub IsReply : Reply → Type 0
IsReply r = FitsSigned w32 r.error × IsBody r.body

-- the command of a reply with values is not kept, and may be that of any values
abbrev pub TakesCommand : List ℕ → Body → Type 0
TakesCommand b Nothing = Unit {0}
TakesCommand b (Values values) = takes_command kinds.SetValue (word_at b 20) ≡ true
TakesCommand b (Part part) = Unit {0}

-- b carries r: its size word is 12 for a reply without a body, and else has room for r, and r's words stand at their places; all else is free
pub record MeansReply (b : List ℕ) (r : Reply) : Type 0 where
  pub header : 12 ≤ length b
  pub sized : is_sized 12 b ≡ true
  pub room : reply_size r.body ≤ word_at b 0
  pub fits : Fits (take (reply_size r.body) b) (slots_cells (reply_slots r))
  pub command : TakesCommand b r.body
