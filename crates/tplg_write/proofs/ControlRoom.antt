-- A control and a widget have no fewer bytes than their private data, and a control has some.
use Rattle.std.proofs.Common.{ℕ, ◌≤◌, ◌<◌, List, [], ◌∷◌, ◌++◌, length, ℤ, arith, length-append}
use Rattle.std.specs.Int.{w32, cast_unsigned}
use Rattle.sof_base.specs.Slots.{Slot, Word, Size, Words, Raw, Label, Half, slot_cells, slots_cells}
use Rattle.tplg_model.specs.declared.control.ControlHead.{ControlHead}
use Rattle.tplg_model.specs.declared.control.Control.TheVariants.{Mixer, Enum, Bytes}
use Rattle.tplg_model.specs.declared.control.Control.{Control}
use Rattle.tplg_model.specs.Arrays.{arrays_spelling}
use Rattle.tplg_model.specs.Spelling.{control_head_slots, control_cells, WidgetHead, widget_head_cells}
use Rattle.tplg_write.proofs.RoomLaws.{raw_among}

pub mixer_private : (head : ControlHead) (min max platform_max : ℤ) (invert num_channels : ℕ) (channels private : List ℕ) → length private ≤ length (control_cells (Mixer head min max platform_max invert num_channels channels private))
mixer_private head min max platform_max invert num_channels channels private =
    raw_among (control_head_slots 1 head ++ Size 360 ∷ Word (cast_unsigned w32 min) ∷ Word (cast_unsigned w32 max) ∷ Word (cast_unsigned w32 platform_max) ∷ Word invert ∷ Word num_channels ∷ Words channels ∷ Word (length private) ∷ []) private []

pub enum_private : (head : ControlHead) (num_channels : ℕ) (channels : List ℕ) (items mask count : ℕ) (texts values private : List ℕ) → length private ≤ length (control_cells (Enum head num_channels channels items mask count texts values private))
enum_private head num_channels channels items mask count texts values private =
    raw_among (control_head_slots 4 head ++ Size 1764 ∷ Word num_channels ∷ Words channels ∷ Word items ∷ Word mask ∷ Word count ∷ Raw texts ∷ Words values ∷ Word (length private) ∷ []) private []

pub bytes_private : (head : ControlHead) (max mask base num_regs : ℕ) (ext_ops private : List ℕ) → length private ≤ length (control_cells (Bytes head max mask base num_regs ext_ops private))
bytes_private head max mask base num_regs ext_ops private =
    raw_among (control_head_slots 5 head ++ Size 240 ∷ Word max ∷ Word mask ∷ Word base ∷ Word num_regs ∷ Words ext_ops ∷ Word (length private) ∷ []) private []

first_some : (s : Slot) (ss : List Slot) → 0 < length (slot_cells s) → 0 < length (slots_cells (s ∷ ss))
unfolding slots_cells
first_some s ss some = omega (arith, some, length-append (slot_cells s) (slots_cells ss))

size_some : (n : ℕ) → 0 < length (slot_cells (Size n))
unfolding slot_cells
size_some n = omega arith

pub control_some : (c : Control) → 0 < length (control_cells c)
control_some (Mixer head min max platform_max invert num_channels channels private) = first_some (Size 204) _ (size_some 204)
control_some (Enum head num_channels channels items mask count texts values private) = first_some (Size 204) _ (size_some 204)
control_some (Bytes head max mask base num_regs ext_ops private) = first_some (Size 204) _ (size_some 204)

pub tokens_room : (w : WidgetHead) → length (arrays_spelling w.tokens) ≤ length (widget_head_cells w)
tokens_room w =
    raw_among (Size 132 ∷ Word w.id ∷ Label w.name ∷ Label w.sname ∷ Words w.words ∷ Half w.event_flags ∷ Half w.event_type ∷ Word w.num_kcontrols ∷ Word (length (arrays_spelling w.tokens)) ∷ []) (arrays_spelling w.tokens) []
