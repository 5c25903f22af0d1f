-- The bytes of records of the program.
use Rattle.std.proofs.Common.{◌≡◌, ℕ, ◌+◌, ◌*◌, ◌≤◌, List, [], ◌∷◌, ◌++◌, length, ap, arith, length-append}
use Rattle.sof_base.specs.Slots.{Word, AreSlots}
use Rattle.sof_base.proofs.FieldLaws.{length-slots, length-fixed}
use Rattle.tplg_model.specs.declared.block.Route.{Route}
use Rattle.tplg_model.specs.declared.pcm.Pcm.{Pcm}
use Rattle.tplg_model.specs.declared.pcm.StreamRecord.{StreamRecord}
use Rattle.tplg_model.specs.declared.control.Control.{Control}
use Rattle.tplg_model.specs.declared.control.Control.TheVariants.{Mixer, Enum, Bytes}
use Rattle.tplg_model.specs.declared.widget.Widget.{Widget}
use Rattle.tplg_model.specs.Arrays.{Each, arrays_spelling}
use Rattle.tplg_model.specs.Spelling.{items_cells, IsRoute, route_slots, route_cells, stream_record_slots, caps_slots, pcm_head_slots, pcm_tail_slots, pcm_parts, pcm_cells, IsPcm, IsControl, control_cells, widget_head_slots, widget_head_cells, head_of, IsWidget, widget_cells}
use Rattle.tplg_model.specs.Storable.{stream_cells}
use Rattle.tplg_model.proofs.ItemLaws.{items_cells-more}
use Rattle.tplg_build.proofs.FieldSizes.{length-joined, length-items}

-- ---- routes and PCMs

route_size : (r : Route) → IsRoute r → length (route_cells r) ≡ 132
route_size r is = length-slots (route_slots r) is

pub routes_size : (rs : List Route) → Each IsRoute rs → length (items_cells route_cells rs) ≡ 132 * length rs
routes_size rs are = length-items route_cells 132 IsRoute route_size rs are

stream_size : (s : StreamRecord) → AreSlots (stream_record_slots s) → length (stream_cells s) ≡ 72
stream_size s is = length-slots (stream_record_slots s) is

pcm_size : (p : Pcm) → IsPcm p → length (pcm_cells p) ≡ 912 + length p.private
pcm_size p is =
    let streams = length-items stream_cells 72 (λ s. AreSlots (stream_record_slots s)) stream_size p.streams is.streams in
    omega (
      arith,
      length-joined (pcm_parts p),
      length-slots (pcm_head_slots p) is.head,
      streams,
      is.eight,
      length-slots (Word p.num_streams ∷ []) is.num_streams,
      length-slots (caps_slots p.play) is.play,
      length-slots (caps_slots p.cap) is.cap,
      length-slots (pcm_tail_slots p) is.tail,
      length-fixed p.private,
    )

pub one_pcm : (p : Pcm) → IsPcm p → length (items_cells pcm_cells (p ∷ [])) ≡ 912 + length p.private
unfolding items_cells
one_pcm p is = omega (arith, length-append (pcm_cells p) [], pcm_size p is)

-- ---- controls

-- the private data of a control
abbrev pub private_of : Control → List ℕ
private_of (Mixer head min max platform_max invert num_channels channels private) = private
private_of (Enum head num_channels channels items mask count texts values private) = private
private_of (Bytes head max mask base num_regs ext_ops private) = private

pub control_size : (c : Control) → IsControl c → length (control_cells c) ≤ 1764 + length (private_of c)
control_size (Mixer head min max platform_max invert num_channels channels private) is = omega (arith, length-slots _ is.0, is.1.0, is.1.1.0)
control_size (Enum head num_channels channels items mask count texts values private) is =
    omega (arith, length-slots _ is.0, is.1.0, is.1.1.0, is.1.1.1.0, is.1.1.1.1)
control_size (Bytes head max mask base num_regs ext_ops private) is = omega (arith, length-slots _ is.0, is.1.0, is.1.1)

-- a control more, of at most so many bytes
pub controls_more : (cs : List Control) (c : Control) (n i : ℕ) → length (items_cells control_cells cs) ≤ n * i → length (control_cells c) ≤ n → length (items_cells control_cells (cs ++ c ∷ [])) ≤ n * (i + 1)
controls_more cs c n i few one =
    let k : n * (i + 1) ≡ n * i + n = omega arith in
    omega (arith, k, few, one, ap length (items_cells-more control_cells cs c), length-append (items_cells control_cells cs) (control_cells c))

-- ---- widgets

pub widget_size : (w : Widget) → IsWidget w → length (widget_cells w) ≡ 132 + length (arrays_spelling w.tokens) + length (items_cells control_cells w.controls)
widget_size w is =
    omega (arith, length-append (widget_head_cells (head_of w)) (items_cells control_cells w.controls), length-slots (widget_head_slots (head_of w)) is.head.slots, is.head.words)

pub one_widget : (w : Widget) → length (items_cells widget_cells (w ∷ [])) ≡ length (widget_cells w)
unfolding items_cells
one_widget w = omega (arith, length-append (widget_cells w) [])
