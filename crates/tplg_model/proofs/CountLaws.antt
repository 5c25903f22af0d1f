-- A block's number of records fits its word, since each record has bytes.
use Rattle.std.proofs.Common.{ℕ, ◌-◌, ◌<◌, ◌^◌, List, [], ◌∷◌, ◌++◌, length, arith, length-append}
use Rattle.tplg_model.specs.declared.block.Route.{Route}
use Rattle.tplg_model.specs.declared.block.Manifest.{Manifest}
use Rattle.tplg_model.specs.declared.block.Body.{Body}
use Rattle.tplg_model.specs.declared.block.Body.TheVariants.{Manifests, Widgets, Routes, Pcms, Other}
use Rattle.tplg_model.specs.declared.pcm.Pcm.{Pcm}
use Rattle.tplg_model.specs.declared.widget.Widget.{Widget}
use Rattle.sof_base.specs.Cells.{Cell, fixed, loose}
use Rattle.sof_base.specs.Slots.{Slot, Size, Label, zeros, slot_cells, slots_cells}
use Rattle.sof_base.proofs.FieldLaws.{length-fixed}
use Rattle.tplg_model.specs.Spelling.{items_cells, route_cells, manifest_cells, pcm_cells, widget_head_cells, head_of, widget_cells, control_cells, count_of}
use Rattle.tplg_model.specs.Storable.{IsStorable}
use Rattle.tplg_model.proofs.ItemLaws.{items_few}

-- cells whose first field has bytes
first_some : (s : Slot) (ss : List Slot) → 0 < length (slot_cells s) → 0 < length (slots_cells (s ∷ ss))
unfolding slots_cells
first_some s ss some = omega (arith, some, length-append (slot_cells s) (slots_cells ss))

size_some : (n : ℕ) → 0 < length (slot_cells (Size n))
unfolding slot_cells
size_some n = omega arith

name_some : (name : List ℕ) → 0 < length (slot_cells (Label name))
unfolding slot_cells
name_some name =
    omega (arith, length-append (fixed (name ++ 0 ∷ [])) (loose (zeros (43 - length name))), length-fixed (name ++ 0 ∷ []), length-append name (0 ∷ []))

before_more : (cs ds : List Cell) → 0 < length cs → 0 < length (cs ++ ds)
before_more cs ds some = omega (arith, some, length-append cs ds)

route_some : (r : Route) → 0 < length (route_cells r)
route_some r = first_some (Label r.sink) _ (name_some r.sink)

manifest_some : (m : Manifest) → 0 < length (manifest_cells m)
manifest_some m = first_some (Size 112) _ (size_some 112)

pcm_some : (p : Pcm) → 0 < length (pcm_cells p)
pcm_some p = before_more _ _ (first_some (Size 912) _ (size_some 912))

widget_some : (w : Widget) → 0 < length (widget_cells w)
widget_some w = before_more (widget_head_cells (head_of w)) (items_cells control_cells w.controls) (first_some (Size 132) _ (size_some 132))

-- the count of a block whose bytes are kept fits by itself
abbrev pub KeptCountFits : Body → Type 0
KeptCountFits (Other kind count bytes) = count < 2 ^ 32
KeptCountFits body = Unit {0}

pub count_fits : (body : Body) → IsStorable body → KeptCountFits body → count_of body < 2 ^ 32
count_fits (Manifests ms) sound kept = omega (arith, sound.size, items_few manifest_cells manifest_some ms)
count_fits (Widgets ws) sound kept = omega (arith, sound.size, items_few widget_cells widget_some ws)
count_fits (Routes rs) sound kept = omega (arith, sound.size, items_few route_cells route_some rs)
count_fits (Pcms ps) sound kept = omega (arith, sound.size, items_few pcm_cells pcm_some ps)
count_fits (Other kind count bytes) sound kept = kept
