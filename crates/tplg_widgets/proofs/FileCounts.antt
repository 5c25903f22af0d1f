-- A file is no shorter than the number of its widgets, and of its routes.
use Rattle.std.proofs.Common.{◌≡◌, ◌∙◌, ap, ℕ, suc, ◌+◌, ◌<◌, ◌≤◌, ◌^◌, List, [], ◌∷◌, ◌++◌, length, map, length-append, arith}
use Rattle.std.specs.List.{flat_map}
use Rattle.std.proofs.lemmas.List.{length-map}
use Rattle.sof_base.specs.Cells.{Cell}
use Rattle.sof_base.specs.Slots.{Slot, Size, Label, slot_cells, slots_cells}
use Rattle.sof_base.proofs.Fitting.{Fits-length}
use Rattle.tplg_model.specs.declared.widget.Widget.{Widget}
use Rattle.tplg_model.specs.declared.block.Route.{Route}
use Rattle.tplg_model.specs.declared.block.Block.{Block}
use Rattle.tplg_model.specs.declared.block.Body.{Body}
use Rattle.tplg_model.specs.declared.block.Body.TheVariants.{Manifests, Widgets, Routes, Pcms, Other}
use Rattle.tplg_model.specs.declared.block.Topology.{Topology}
use Rattle.tplg_model.specs.Spelling.{items_cells, widget_cells, widget_head_cells, head_of, control_cells, route_cells, body_cells, header_slots, block_cells}
use Rattle.tplg_model.specs.File.{IsFileOf}
use Rattle.tplg_model.specs.RecordFaults.{topology_cells}
use Rattle.tplg_widgets.specs.EntryValue.{EntryValue}
use Rattle.tplg_widgets.specs.Entries.{entry_of, widgets_in, routes_in, entries_in, entries_of}
use Rattle.tplg_widgets.specs.Ends.{ends_of, block_ends, all_ends, ends_in}

-- items that have a byte each
items-within : {A : Type 0} (cells : A → List Cell) → ((x : A) → 1 ≤ length (cells x)) → (xs : List A) → length xs ≤ length (items_cells cells xs)
unfolding items_cells
items-within cells some [] = omega arith
items-within cells some (x ∷ xs) = omega (arith, length-append (cells x) (items_cells cells xs), some x, items-within cells some xs)

-- what begins with its own size, or with a name, has a byte
sized : (n : ℕ) (ss : List Slot) → 1 ≤ length (slots_cells (Size n ∷ ss))
unfolding slots_cells slot_cells
sized n ss = omega arith

named : (name : List ℕ) (ss : List Slot) → 1 ≤ length (slots_cells (Label name ∷ ss))
unfolding slots_cells slot_cells
named [] ss = omega arith
named (b ∷ bs) ss = omega arith

widget-within : (w : Widget) → 1 ≤ length (widget_cells w)
widget-within w =
    let some : 1 ≤ length (widget_head_cells (head_of w)) = sized 132 _ in
    omega (arith, some, length-append (widget_head_cells (head_of w)) (items_cells control_cells w.controls))

widgets-in-body : (b : Body) → length (widgets_in b) ≤ length (body_cells b)
widgets-in-body (Widgets ws) = items-within widget_cells widget-within ws
widgets-in-body (Manifests ms) = omega arith
widgets-in-body (Routes rs) = omega arith
widgets-in-body (Pcms ps) = omega arith
widgets-in-body (Other kind count bytes) = omega arith

routes-in-body : (b : Body) → length (routes_in b) ≤ length (body_cells b)
routes-in-body (Routes rs) = items-within route_cells (λ r. named r.sink _) rs
routes-in-body (Widgets ws) = omega arith
routes-in-body (Manifests ms) = omega arith
routes-in-body (Pcms ps) = omega arith
routes-in-body (Other kind count bytes) = omega arith

-- lists made of blocks, of no more items than the payload has bytes
blocks-within : {Y : Type 0} (f : Block → List Y) → ((b : Block) → length (f b) ≤ length (body_cells b.body)) → (bs : List Block) → length (flat_map f bs) ≤ length (items_cells block_cells bs)
unfolding items_cells
blocks-within f within [] = omega arith
blocks-within f within (b ∷ bs) =
    omega (
      arith,
      length-append (f b) (flat_map f bs),
      length-append (block_cells b) (items_cells block_cells bs),
      length-append (slots_cells (header_slots b)) (body_cells b.body),
      within b,
      blocks-within f within bs,
    )

-- a topology of a short file has few widgets and few routes
pub few-widgets : (bytes : List ℕ) (t : Topology) → IsFileOf bytes t → length bytes < 2 ^ 32 → length (entries_of t) < 2 ^ 32
few-widgets bytes t file short =
    omega (
      arith,
      Fits-length bytes (topology_cells t) file,
      short,
      blocks-within entries_in (λ b. let same = length-map (widgets_in b.body) (entry_of b.index) in omega (arith, same, widgets-in-body b.body)) t.blocks,
    )

pub few-routes : (bytes : List ℕ) (t : Topology) → IsFileOf bytes t → length bytes < 2 ^ 32 → length (ends_in t) < 2 ^ 32
few-routes bytes t file short =
    omega (
      arith,
      Fits-length bytes (topology_cells t) file,
      short,
      blocks-within (block_ends (entries_of t)) (λ b. let same = length-map (routes_in b.body) (ends_of (entries_of t)) in omega (arith, same, routes-in-body b.body)) t.blocks,
    )
