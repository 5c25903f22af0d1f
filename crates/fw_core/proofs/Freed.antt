-- The rows that free a component, a buffer or a pipeline.
use Rattle.std.proofs.Common.{◌≡◌, refl, sym, ap, ◌∙◌, subst, ℕ, ◌<◌, List, [], ◌∷◌, ◌++◌, map, filter, Bool, true, false, cond, not, ◌||◌, ◌==◌, Option, Some, None, Result, Ok, Err, find, option_map, inl, inr, take, ◌+◌, ◌*◌}
use Rattle.std.specs.Prelude.{OnErr, OnOk, nat_lt, ◌⊎◌}
use Rattle.std.specs.List.{AllByRecursion, list_any}
use Rattle.std.proofs.lemmas.Bool.{true≢false, eqb-true, lt-ltb, ltb-true, or_parts, or_right, false_from_ne_true}
use Rattle.sof_base.specs.declared.errno.Errno.{Errno}
use Rattle.sof_base.specs.declared.hole.Hole.{Hole}
use Rattle.stream_law.specs.declared.graph.Pipe.{Pipe}
use Rattle.stream_law.specs.State.{FwState, PieceView, Staging, view_of}
use Rattle.stream_law.specs.Joins.{stays}
use Rattle.stream_law.specs.Placed.{placed, AreAbove, Ascends, HasDistinct}
use Rattle.stream_law.proofs.Members.{IsIn, any-in, in-any, in-all, find-in, kept-in}
use Rattle.stream_law.proofs.Placing.{AreAbove-below, AreAbove-filter, Ascends-filter, find-placed}
use Rattle.mbox_link.specs.Step.{no_device, busy, invalid, is_used, has_comp, has_edge, has_pipe, has_complete_pipe, is_held, is_index_held, touches, without_edge, comp_free, buffer_free, pipe_free, free_pipe, without_comp, without_buffer, without_pipe}
use Rattle.mbox_link.specs.Step as step
use Rattle.row_laws.specs.Tiled.{heap_bytes}
use Rattle.row_laws.specs.Wired.{is_node}
use Rattle.row_laws.specs.Kept.{FirmwareInvariant}
use Rattle.row_laws.specs.RowLaws.{RowIsKept}
use Rattle.row_laws.proofs.RowKept.{comp_free-kept, buffer_free-kept, pipe_free-kept}
use Rattle.row_laws.proofs.FreeKept.{no-buffer, no-comp, free-whole}
use Rattle.row_laws.proofs.Fewer.{all-filter, distinct-filter}
use Rattle.eq_biquad.specs.EqState.{staged_of}
use Rattle.fw_heap.specs.declared.run.Home.{Home}
use Rattle.fw_heap.specs.Regions.{RegionState}
use Rattle.fw_units.specs.declared.component.Component.{Component}
use Rattle.fw_units.specs.declared.component.Unit as units
use Rattle.fw_units.specs.declared.component.Unit.TheVariants.{Eq, Buffer}
use Rattle.fw_units.specs.Units.{ring_by, staging_by, pieces_by, piece_by, with_staging_by}
use Rattle.fw_components.specs.Tables.{Tables, all_of, view_by, graph_of, rings_of, histories_of, staging_of, carved_pieces}
use Rattle.fw_units.specs.Changes.{has_id, IsOfHome}
use Rattle.fw_components.specs.Changes.{tables_without, without_by, given_found, found}
use Rattle.fw_walks.proofs.Naming.{comp-named, edge-named, pipe-named}
use Rattle.fw_pipeline.specs.declared.freeing.Item.{Item}
use Rattle.fw_pipeline.specs.declared.freeing.Item.TheVariants as items
use Rattle.fw_pipeline.specs.Rows as rows
use Rattle.fw_components.specs.States.{AreOf}
use Rattle.fw_pipeline.proofs.FreeRows.{comp-left, buffer-left, pipe-left}
use Rattle.fw_schedule.specs.Ticks.{HasShapes}
use Rattle.fw_core.specs.Held.{state_in, IsPieceHeld}
use Rattle.fw_core.specs.Answers.{IsRow}
use Rattle.fw_core.proofs.RowLaws.{told-by, row-is, on-ok, pass, passed, same-ok, not-false}
use Rattle.fw_core.proofs.Back.{placed-apart, placed-others, filter-apart}
use Rattle.fw_core.proofs.Histories.{AreThere, there-all, there-less, histories-are}
use Rattle.fw_core.proofs.Changed.{state-is, same-comps}
use Rattle.fw_core.proofs.Shapes.{Fits, moves, frames, HasRamp, IsSame, shapes-are, pipes-same, comp_free-same, buffer_free-same}

-- ---- what is placed and then tested

module _ {X : Type 0} (key : X → ℕ) (x : X) where
  pub placed-first : (xs : List X) → AreAbove key (key x) xs → placed key x xs ≡ x ∷ xs
  unfolding AreAbove
  placed-first [] above = refl
  placed-first (y ∷ ys) above = ap (λ h. cond h (x ∷ y ∷ ys) (y ∷ placed key x ys)) (lt-ltb (key x) (key y) above.0)

  pub placed-dropped : (p : X → Bool) (xs : List X) → p x ≡ false → filter p (placed key x xs) ≡ filter p xs
  placed-dropped p [] out = ap (λ h. cond h (x ∷ []) []) out
  placed-dropped p (y ∷ ys) out = by (nat_lt (key x) (key y)) (placed-dropped p ys out)
    where
      by : (h : Bool) → filter p (placed key x ys) ≡ filter p ys → filter p (cond h (x ∷ y ∷ ys) (y ∷ placed key x ys)) ≡ filter p (y ∷ ys)
      by true rest = ap (λ h. cond h (x ∷ filter p (y ∷ ys)) (filter p (y ∷ ys))) out
      by false rest = ap (λ zs. cond (p y) (y ∷ zs) zs) rest

  pub placed-passed : (p : X → Bool) (xs : List X) → p x ≡ true → Ascends key xs → filter p (placed key x xs) ≡ placed key x (filter p xs)
  unfolding Ascends AreAbove
  placed-passed p [] in_p up = ap (λ h. cond h (x ∷ []) []) in_p
  placed-passed p (y ∷ ys) in_p up = by (nat_lt (key x) (key y)) refl (placed-passed p ys in_p up.1)
    where
      above : key x < key y → AreAbove key (key x) (y ∷ ys)
      above h = (h, AreAbove-below key (key x) (key y) ys h up.0)

      keep : (k : Bool) → p y ≡ k → nat_lt (key x) (key y) ≡ false → filter p (placed key x ys) ≡ placed key x (filter p ys) → cond k (y ∷ filter p (placed key x ys)) (filter p (placed key x ys)) ≡ placed key x (cond k (y ∷ filter p ys) (filter p ys))
      keep true e not_below rest = ap (λ zs. y ∷ zs) rest ∙ sym (ap (λ h. cond h (x ∷ y ∷ filter p ys) (y ∷ placed key x (filter p ys))) not_below)
      keep false e not_below rest = rest

      by : (h : Bool) → nat_lt (key x) (key y) ≡ h → filter p (placed key x ys) ≡ placed key x (filter p ys) → filter p (cond h (x ∷ y ∷ ys) (y ∷ placed key x ys)) ≡ placed key x (filter p (y ∷ ys))
      by true is rest = ap (λ h. cond h (x ∷ filter p (y ∷ ys)) (filter p (y ∷ ys))) in_p ∙ sym (placed-first (filter p (y ∷ ys)) (AreAbove-filter p key (key x) (y ∷ ys) (above (ltb-true (key x) (key y) is))))
      by false is rest = keep (p y) refl is rest

-- ---- pieces without one id

-- those after the first
behind-distinct : (c : Component) (cs : List Component) → HasDistinct (λ (p : PieceView). p.id) (pieces_by (c ∷ cs)) → HasDistinct (λ (p : PieceView). p.id) (pieces_by cs)
behind-distinct c cs distinct = subst (HasDistinct (λ (p : PieceView). p.id)) (placed-others (λ (p : PieceView). p.id) (piece_by c) (pieces_by cs) (placed-apart (λ (p : PieceView). p.id) (piece_by c) (pieces_by cs) distinct)) (distinct-filter (λ (p : PieceView). p.id) (λ p. not (p.id == c.id)) (pieces_by (c ∷ cs)) distinct)

behind-ascends : (c : Component) (cs : List Component) → HasDistinct (λ (p : PieceView). p.id) (pieces_by (c ∷ cs)) → Ascends (λ (p : PieceView). p.id) (pieces_by (c ∷ cs)) → Ascends (λ (p : PieceView). p.id) (pieces_by cs)
behind-ascends c cs distinct up = subst (Ascends (λ (p : PieceView). p.id)) (placed-others (λ (p : PieceView). p.id) (piece_by c) (pieces_by cs) (placed-apart (λ (p : PieceView). p.id) (piece_by c) (pieces_by cs) distinct)) (Ascends-filter (λ p. not (p.id == c.id)) (λ (p : PieceView). p.id) (pieces_by (c ∷ cs)) up)

pub pieces-left : (id : ℕ) (cs : List Component) → HasDistinct (λ (p : PieceView). p.id) (pieces_by cs) → Ascends (λ (p : PieceView). p.id) (pieces_by cs) → pieces_by (filter (λ c. not (c.id == id)) cs) ≡ filter (λ p. not (p.id == id)) (pieces_by cs)
pieces-left id [] distinct up = refl
pieces-left id (c ∷ cs) distinct up =
    let less = behind-ascends c cs distinct up in
    by (c.id == id) refl less (pieces-left id cs (behind-distinct c cs distinct) less)
  where
    by : (h : Bool) → (c.id == id) ≡ h → Ascends (λ (p : PieceView). p.id) (pieces_by cs) → pieces_by (filter (λ c. not (c.id == id)) cs) ≡ filter (λ p. not (p.id == id)) (pieces_by cs) → pieces_by (cond (not h) (c ∷ filter (λ c. not (c.id == id)) cs) (filter (λ c. not (c.id == id)) cs)) ≡ filter (λ p. not (p.id == id)) (placed (λ (p : PieceView). p.id) (piece_by c) (pieces_by cs))
    by true is less rest = rest ∙ sym (placed-dropped (λ (p : PieceView). p.id) (piece_by c) (λ p. not (p.id == id)) (pieces_by cs) (ap not is))
    by false is less rest = ap (placed (λ (p : PieceView). p.id) (piece_by c)) rest ∙ sym (placed-passed (λ (p : PieceView). p.id) (piece_by c) (λ p. not (p.id == id)) (pieces_by cs) (ap not is) less)

pub find-piece : (id : ℕ) (cs : List Component) → HasDistinct (λ (p : PieceView). p.id) (pieces_by cs) → find (λ p. p.id == id) (pieces_by cs) ≡ option_map piece_by (find (λ c. c.id == id) cs)
find-piece id [] distinct = refl
find-piece id (c ∷ cs) distinct =
    find-placed (λ (p : PieceView). p.id) (piece_by c) (pieces_by cs) id (placed-apart (λ (p : PieceView). p.id) (piece_by c) (pieces_by cs) distinct)
    ∙ by (c.id == id) (find-piece id cs (behind-distinct c cs distinct))
  where
    by : (h : Bool) → find (λ p. p.id == id) (pieces_by cs) ≡ option_map piece_by (find (λ c. c.id == id) cs) → cond h (Some (piece_by c)) (find (λ p. p.id == id) (pieces_by cs)) ≡ option_map piece_by (cond h (Some c) (find (λ c. c.id == id) cs))
    by true rest = refl
    by false rest = rest

holes-found : (o : Option Component) (holes : List Hole) → given_found o holes ≡ step.holes_after_free (option_map piece_by o) holes
holes-found None holes = refl
holes-found (Some c) holes = refl

-- ---- all that is left of tables

filter-split : {X : Type 0} (p : X → Bool) (xs ys : List X) → filter p (xs ++ ys) ≡ filter p xs ++ filter p ys
filter-split p [] ys = refl
filter-split {X} p (x ∷ xs) ys = by (p x) (filter-split p xs ys)
  where
    by : (h : Bool) → filter p (xs ++ ys) ≡ filter p xs ++ filter p ys → cond h (x ∷ filter p (xs ++ ys)) (filter p (xs ++ ys)) ≡ cond h (x ∷ filter p xs) (filter p xs) ++ filter p ys
    by true rest = ap (λ zs. x ∷ zs) rest
    by false rest = rest

all-left : (id : ℕ) (xs bs cs ds es fs : List Component) → ds ≡ filter (λ c. not (c.id == id)) xs → es ≡ filter (λ c. not (c.id == id)) bs → fs ≡ filter (λ c. not (c.id == id)) cs → ds ++ (es ++ fs) ≡ filter (λ c. not (c.id == id)) (xs ++ (bs ++ cs))
all-left id xs bs cs ds es fs a b c =
    (λ i. a i ++ (b i ++ c i))
    ∙ sym (filter-split (λ c. not (c.id == id)) xs (bs ++ cs) ∙ ap (λ zs. filter (λ c. not (c.id == id)) xs ++ zs) (filter-split (λ c. not (c.id == id)) bs cs))

-- a pipeline's id is that of no component and of no buffer
no-pipe : (f : FwState) (id : ℕ) → FirmwareInvariant f → is_node f.graph id ≡ true → has_pipe f.graph id ≡ false
no-pipe f id kept node = false_from_ne_true (has_pipe f.graph id) (λ e. let p = any-in (λ p. p.id == id) f.graph.pipes e in true≢false (sym node ∙ ap (is_node f.graph) (sym (eqb-true p.0.id id p.2)) ∙ in-all (λ (p : Pipe). is_node f.graph p.id ≡ false) f.graph.pipes p.0 kept.wired.alone p.1))

no-node : (f : FwState) (id : ℕ) → FirmwareInvariant f → has_pipe f.graph id ≡ true → is_node f.graph id ≡ false
no-node f id kept pipe = let p = any-in (λ p. p.id == id) f.graph.pipes pipe in ap (is_node f.graph) (sym (eqb-true p.0.id id p.2)) ∙ in-all (λ (p : Pipe). is_node f.graph p.id ≡ false) f.graph.pipes p.0 kept.wired.alone p.1

-- ---- what is staged

stage-gone : (id eq : ℕ) (unit : units.Unit) (h : Bool) → (eq == id) ≡ h → (ss : List Staging) → filter (λ s. not (s.eq == id)) (with_staging_by eq unit ss) ≡ cond (not h) (with_staging_by eq unit (filter (λ s. not (s.eq == id)) ss)) (filter (λ s. not (s.eq == id)) ss)
stage-gone id eq (Eq e next remaining) h is ss = by h is (remaining == 0)
  where
    by : (h : Bool) → (eq == id) ≡ h → (k : Bool) → filter (λ s. not (s.eq == id)) (cond k ss (record { eq = eq; bytes = take (32 + 260 * next) (staged_of e); next = next; remaining = remaining } ∷ ss)) ≡ cond (not h) (cond k (filter (λ s. not (s.eq == id)) ss) (record { eq = eq; bytes = take (32 + 260 * next) (staged_of e); next = next; remaining = remaining } ∷ filter (λ s. not (s.eq == id)) ss)) (filter (λ s. not (s.eq == id)) ss)
    by true is true = refl
    by false is true = refl
    by h is false = ap (λ h. cond (not h) (record { eq = eq; bytes = take (32 + 260 * next) (staged_of e); next = next; remaining = remaining } ∷ filter (λ s. not (s.eq == id)) ss) (filter (λ s. not (s.eq == id)) ss)) is
stage-gone id eq (Buffer size ring source sink) true is ss = refl
stage-gone id eq (Buffer size ring source sink) false is ss = refl
stage-gone id eq u true is ss = refl
stage-gone id eq u false is ss = refl

stages-gone : (id : ℕ) (cs : List Component) → staging_by (filter (λ c. not (c.id == id)) cs) ≡ filter (λ s. not (s.eq == id)) (staging_by cs)
stages-gone id [] = refl
stages-gone id (c ∷ cs) = by (c.id == id) refl (stages-gone id cs)
  where
    by : (h : Bool) → (c.id == id) ≡ h → staging_by (filter (λ c. not (c.id == id)) cs) ≡ filter (λ s. not (s.eq == id)) (staging_by cs) → staging_by (cond (not h) (c ∷ filter (λ c. not (c.id == id)) cs) (filter (λ c. not (c.id == id)) cs)) ≡ filter (λ s. not (s.eq == id)) (with_staging_by c.id c.unit (staging_by cs))
    by true is rest = rest ∙ sym (stage-gone id c.id c.unit true is (staging_by cs))
    by false is rest = ap (with_staging_by c.id c.unit) rest ∙ sym (stage-gone id c.id c.unit false is (staging_by cs))

-- ---- rows that are done

comp-tests : (f g : FwState) (id : ℕ) → comp_free f id ≡ Ok g → (has_comp f.graph id ≡ true) × (without_comp id f ≡ g) × (list_any (touches id) f.graph.joins ≡ false)
comp-tests f g id is =
    let wrong : Bool = not (has_comp f.graph id) || list_any (touches id) f.graph.joins in
    let still = pass (not (is_used f.graph id)) no_device (cond (has_complete_pipe f.graph id) (Err busy) (cond wrong (Err invalid) (Ok (without_comp id f)))) g is in
    let right = pass (has_complete_pipe f.graph id) busy (cond wrong (Err invalid) (Ok (without_comp id f))) g still in
    let parts = or_parts (not (has_comp f.graph id)) (list_any (touches id) f.graph.joins) (passed wrong invalid (Ok (without_comp id f)) g right) in
    (not-false (has_comp f.graph id) parts.0, same-ok (without_comp id f) g (pass wrong invalid (Ok (without_comp id f)) g right), parts.1)

buffer-tests : (f g : FwState) (id : ℕ) → buffer_free f id ≡ Ok g → (has_edge f.graph id ≡ true) × (without_buffer id f ≡ g) × (is_held f.graph f.streams id ≡ false) × (stays (view_of f) (without_edge id f.graph) ≡ true)
buffer-tests f g id is =
    let wrong : Bool = not (has_edge f.graph id) || is_held f.graph f.streams id || not (stays (view_of f) (without_edge id f.graph)) in
    let still = pass (not (is_used f.graph id)) no_device (cond (has_complete_pipe f.graph id) (Err busy) (cond wrong (Err invalid) (Ok (without_buffer id f)))) g is in
    let right = pass (has_complete_pipe f.graph id) busy (cond wrong (Err invalid) (Ok (without_buffer id f))) g still in
    let all = or_parts (not (has_edge f.graph id) || is_held f.graph f.streams id) (not (stays (view_of f) (without_edge id f.graph))) (passed wrong invalid (Ok (without_buffer id f)) g right) in
    let parts = or_parts (not (has_edge f.graph id)) (is_held f.graph f.streams id) all.0 in
    (not-false (has_edge f.graph id) parts.0, same-ok (without_buffer id f) g (pass wrong invalid (Ok (without_buffer id f)) g right), parts.1, not-false (stays (view_of f) (without_edge id f.graph)) all.1)

pipe-tests : (f g : FwState) (id : ℕ) → pipe_free f id ≡ Ok g → (has_pipe f.graph id ≡ true) × (without_pipe id f ≡ g)
pipe-tests f g id is = by (find (λ p. p.id == id) f.graph.pipes) refl (pass (not (is_used f.graph id)) no_device (free_pipe f id (find (λ p. p.id == id) f.graph.pipes)) g is)
  where
    by : (o : Option Pipe) → find (λ p. p.id == id) f.graph.pipes ≡ o → free_pipe f id o ≡ Ok g → (has_pipe f.graph id ≡ true) × (without_pipe id f ≡ g)
    by None at is = cc
    by (Some p) at is =
        let there = find-in (λ p. p.id == id) f.graph.pipes p at in
        (in-any (λ p. p.id == id) f.graph.pipes p there.0 there.1, same-ok (without_pipe id f) g (pass (is_index_held f.graph f.streams p.index) invalid (Ok (without_pipe id f)) g is))

-- ---- what is left

module _ (t u : Tables) (r s : RegionState) (id : ℕ) (held : IsPieceHeld t r) where
  abbrev key : PieceView → ℕ
  key p = p.id

  -- all that is left is what has another id
  all-gone : (has_id t.comps id ≡ true) ⊎ ((has_id t.buffers id ≡ true) ⊎ (has_id t.pipes id ≡ true)) → u ≡ tables_without id t → all_of u ≡ filter (λ c. not (c.id == id)) (all_of t)
  all-gone (inl there) done =
      let f = state_in t r 0 in let kept = held.kept 0 in
      let comp = sym (comp-named t id) ∙ there in
      let no_edge = edge-named t id ∙ no-buffer f kept id comp in
      let no_pipe = pipe-named t id ∙ no-pipe f id kept (node-comp comp) in
      ap all_of (done ∙ comp-left t id there) ∙ all-left id t.comps t.buffers t.pipes _ _ _ refl (sym (filter-apart (λ (c : Component). c.id) id t.buffers no_edge)) (sym (filter-apart (λ (c : Component). c.id) id t.pipes no_pipe))
    where
      node-comp : has_comp (graph_of t) id ≡ true → is_node (graph_of t) id ≡ true
      node-comp e = ap (λ h. h || has_edge (graph_of t) id) e
  all-gone (inr (inl there)) done =
      let f = state_in t r 0 in let kept = held.kept 0 in
      let edge = sym (edge-named t id) ∙ there in
      let no_comp = comp-named t id ∙ no-comp f kept id edge in
      let no_pipe = pipe-named t id ∙ no-pipe f id kept (or_right (has_comp (graph_of t) id) (has_edge (graph_of t) id) edge) in
      ap all_of (done ∙ buffer-left t id no_comp there) ∙ all-left id t.comps t.buffers t.pipes _ _ _ (sym (filter-apart (λ (c : Component). c.id) id t.comps no_comp)) refl (sym (filter-apart (λ (c : Component). c.id) id t.pipes no_pipe))
  all-gone (inr (inr there)) done =
      let f = state_in t r 0 in let kept = held.kept 0 in
      let none = or_parts (has_comp (graph_of t) id) (has_edge (graph_of t) id) (no-node f id kept (sym (pipe-named t id) ∙ there)) in
      let no_comp = comp-named t id ∙ none.0 in let no_edge = edge-named t id ∙ none.1 in
      ap all_of (done ∙ pipe-left t id no_comp no_edge) ∙ all-left id t.comps t.buffers t.pipes _ _ _ (sym (filter-apart (λ (c : Component). c.id) id t.comps no_comp)) (sym (filter-apart (λ (c : Component). c.id) id t.buffers no_edge)) refl

  -- its pieces
  pieces-gone : all_of u ≡ filter (λ c. not (c.id == id)) (all_of t) → filter (λ p. not (p.id == id)) (carved_pieces t) ≡ carved_pieces u
  pieces-gone all = sym (ap pieces_by all ∙ pieces-left id (all_of t) (held.kept 0).tiled.ids (held.kept 0).ascending.pieces)

  holes-gone : s.holes ≡ given_found (found t id) r.holes → step.holes_after_free (find (λ p. p.id == id) (carved_pieces t)) r.holes ≡ s.holes
  holes-gone holes = sym (holes ∙ holes-found (found t id) r.holes ∙ ap (λ o. step.holes_after_free o r.holes) (sym (find-piece id (all_of t) (held.kept 0).tiled.ids)))

  -- the histories of what is left
  gone-there : (g : FwState) → ((d : Component) → IsIn d u.comps → IsIn d t.comps) → AreThere u.comps (histories_of t)
  gone-there g within = there-all t.comps u.comps _ (λ c d in_c in_d same. same-comps t r held c d in_c (within d in_d) same)

  comp-leads : (clock : ℕ) (g : FwState) → comp_free (state_in t r clock) id ≡ Ok g → view_of g ≡ view_by u → u ≡ tables_without id t → s.holes ≡ given_found (found t id) r.holes → g ≡ state_in u s clock
  comp-leads clock g is view done holes =
      let tests = comp-tests (state_in t r clock) g id is in
      let there = comp-named t id ∙ tests.0 in
      let own = sym tests.1 in
      let left = done ∙ comp-left t id there in
      state-is u s clock g
      (ap (λ (x : FwState). x.heap.holes) own ∙ holes-gone holes)
      (ap (λ (x : FwState). x.heap.pieces) own ∙ pieces-gone (all-gone (inl there) done))
      (ap (λ (x : FwState). x.clock) own)
      view
      (ap (λ (x : FwState). x.rings) own ∙ sym (ap rings_of left))
      (histories-are g u (comp_free-kept id (state_in t r clock) g (held.kept clock) is) view (subst (AreThere u.comps) (ap (λ (x : FwState). x.histories) tests.1) (there-less u.comps (λ h. not (h.comp == id)) (histories_of t) (gone-there g (λ d in_d. (kept-in (λ c. not (c.id == id)) t.comps d (subst (λ (cs : List Component). IsIn d cs) (ap (λ (x : Tables). x.comps) left) in_d)).0)))))
      (ap (λ (x : FwState). x.staging) own ∙ sym (ap staging_of left ∙ stages-gone id t.comps))

  buffer-leads : ((id : ℕ) (cs : List Component) → map ring_by (filter (λ x. not (x.id == id)) cs) ≡ filter (λ x. not (x.buffer == id)) (map ring_by cs)) → (clock : ℕ) (g : FwState) → buffer_free (state_in t r clock) id ≡ Ok g → view_of g ≡ view_by u → u ≡ tables_without id t → s.holes ≡ given_found (found t id) r.holes → g ≡ state_in u s clock
  buffer-leads rings clock g is view done holes =
      let tests = buffer-tests (state_in t r clock) g id is in
      let there = edge-named t id ∙ tests.0 in
      let own = sym tests.1 in
      let left = done ∙ buffer-left t id (comp-named t id ∙ no-comp (state_in t r 0) (held.kept 0) id tests.0) there in
      state-is u s clock g
      (ap (λ (x : FwState). x.heap.holes) own ∙ holes-gone holes)
      (ap (λ (x : FwState). x.heap.pieces) own ∙ pieces-gone (all-gone (inr (inl there)) done))
      (ap (λ (x : FwState). x.clock) own)
      view
      (ap (λ (x : FwState). x.rings) own ∙ sym (ap rings_of left ∙ rings id t.buffers))
      (histories-are g u (buffer_free-kept id (state_in t r clock) g (held.kept clock) is) view (subst (AreThere u.comps) (ap (λ (x : FwState). x.histories) tests.1) (gone-there g (λ d in_d. subst (λ (cs : List Component). IsIn d cs) (ap (λ (x : Tables). x.comps) left) in_d))))
      (ap (λ (x : FwState). x.staging) own ∙ sym (ap staging_of left))

  pipe-leads : (clock : ℕ) (g : FwState) → pipe_free (state_in t r clock) id ≡ Ok g → view_of g ≡ view_by u → u ≡ tables_without id t → s.holes ≡ given_found (found t id) r.holes → g ≡ state_in u s clock
  pipe-leads clock g is view done holes =
      let tests = pipe-tests (state_in t r clock) g id is in
      let there = pipe-named t id ∙ tests.0 in
      let own = sym tests.1 in
      let none = or_parts (has_comp (graph_of t) id) (has_edge (graph_of t) id) (no-node (state_in t r 0) id (held.kept 0) tests.0) in
      let left = done ∙ pipe-left t id (comp-named t id ∙ none.0) (edge-named t id ∙ none.1) in
      state-is u s clock g
      (ap (λ (x : FwState). x.heap.holes) own ∙ holes-gone holes)
      (ap (λ (x : FwState). x.heap.pieces) own ∙ pieces-gone (all-gone (inr (inr there)) done))
      (ap (λ (x : FwState). x.clock) own)
      view
      (ap (λ (x : FwState). x.rings) own ∙ sym (ap rings_of left))
      (histories-are g u (pipe_free-kept id (state_in t r clock) g (held.kept clock) is) view (subst (AreThere u.comps) (ap (λ (x : FwState). x.histories) tests.1) (gone-there g (λ d in_d. subst (λ (cs : List Component). IsIn d cs) (ap (λ (x : Tables). x.comps) left) in_d))))
      (ap (λ (x : FwState). x.staging) own ∙ sym (ap staging_of left))

-- ---- and what is Live

module _ (t u : Tables) (r s : RegionState) (id : ℕ) (held : IsPieceHeld t r) (done : u ≡ tables_without id t) where
  left-shapes : ((x : ℕ) → IsSame (view_by t) (view_by u) x) → HasShapes u
  left-shapes same = shapes-are t u (λ c there. same c.id) (λ c there. same c.id)
      (subst (λ (x : Tables). AllByRecursion (Fits (view_by t) moves) x.comps) (sym done) (comps (has_id t.comps id) (has_id t.buffers id)))
      (subst (λ (x : Tables). AllByRecursion (Fits (view_by t) frames) x.buffers) (sym done) (buffers (has_id t.comps id) (has_id t.buffers id)))
      (subst (λ (x : Tables). AllByRecursion (HasRamp (view_by t)) x.comps) (sym done) (ramps (has_id t.comps id) (has_id t.buffers id)))
    where
      ramps : (h k : Bool) → AllByRecursion (HasRamp (view_by t)) (without_by h k id t).comps
      ramps true k = all-filter (λ c. not (c.id == id)) (HasRamp (view_by t)) t.comps held.shapes.ramps
      ramps false true = held.shapes.ramps
      ramps false false = held.shapes.ramps

      comps : (h k : Bool) → AllByRecursion (Fits (view_by t) moves) (without_by h k id t).comps
      comps true k = all-filter (λ c. not (c.id == id)) (Fits (view_by t) moves) t.comps held.shapes.comps
      comps false true = held.shapes.comps
      comps false false = held.shapes.comps

      buffers : (h k : Bool) → AllByRecursion (Fits (view_by t) frames) (without_by h k id t).buffers
      buffers true k = held.shapes.buffers
      buffers false true = all-filter (λ c. not (c.id == id)) (Fits (view_by t) frames) t.buffers held.shapes.buffers
      buffers false false = held.shapes.buffers

  freed-shapes : (what : Item) → rows.row_of_free what (state_in t r 0) id ≡ Ok (state_in u s 0) → HasShapes u
  freed-shapes items.Component row =
      let tests = comp-tests (state_in t r 0) (state_in u s 0) id row in
      left-shapes (comp_free-same id (state_in t r 0) (state_in u s 0) (held.kept 0) tests.2 tests.0 tests.1)
  freed-shapes items.Buffer row =
      let tests = buffer-tests (state_in t r 0) (state_in u s 0) id row in
      left-shapes (buffer_free-same id (state_in t r 0) (state_in u s 0) (held.kept 0) tests.0 tests.2 tests.3 tests.1)
  freed-shapes items.Pipeline row =
      let tests = pipe-tests (state_in t r 0) (state_in u s 0) id row in
      left-shapes (pipes-same (state_in t r 0) (state_in u s 0) _ (held.kept 0) (ap view_of (sym tests.1)))

-- ---- all three

freed-kept : (what : Item) (id : ℕ) → RowIsKept (λ f. rows.row_of_free what f id)
freed-kept items.Component id f g kept is = comp_free-kept id f g kept is
freed-kept items.Buffer id f g kept is = buffer_free-kept id f g kept is
freed-kept items.Pipeline id f g kept is = pipe_free-kept id f g kept is

freed-whole : (what : Item) (id : ℕ) (f g : FwState) → FirmwareInvariant f → rows.row_of_free what f id ≡ Ok g → heap_bytes g.heap ≡ heap_bytes f.heap
freed-whole items.Component id f g kept is = ap (λ (x : FwState). heap_bytes x.heap) (sym (comp-tests f g id is).1) ∙ free-whole f kept id
freed-whole items.Buffer id f g kept is = ap (λ (x : FwState). heap_bytes x.heap) (sym (buffer-tests f g id is).1) ∙ free-whole f kept id
freed-whole items.Pipeline id f g kept is = ap (λ (x : FwState). heap_bytes x.heap) (sym (pipe-tests f g id is).1) ∙ free-whole f kept id

freed-leads : (what : Item) (t u : Tables) (r s : RegionState) (id : ℕ) → IsPieceHeld t r → ((id : ℕ) (cs : List Component) → map ring_by (filter (λ x. not (x.id == id)) cs) ≡ filter (λ x. not (x.buffer == id)) (map ring_by cs)) → (clock : ℕ) (g : FwState) → rows.row_of_free what (state_in t r clock) id ≡ Ok g → view_of g ≡ view_by u → u ≡ tables_without id t → s.holes ≡ given_found (found t id) r.holes → g ≡ state_in u s clock
freed-leads items.Component t u r s id held rings clock g is view done holes = comp-leads t u r s id held clock g is view done holes
freed-leads items.Buffer t u r s id held rings clock g is view done holes = buffer-leads t u r s id held rings clock g is view done holes
freed-leads items.Pipeline t u r s id held rings clock g is view done holes = pipe-leads t u r s id held clock g is view done holes

-- what is left is of the region
left-homes : (home : Home) (t : Tables) (id : ℕ) → AreOf home t → AreOf home (tables_without id t)
left-homes home t id all = by (has_id t.comps id) (has_id t.buffers id)
  where
    parts : (xs ys : List Component) → AllByRecursion (IsOfHome home) (xs ++ ys) → AllByRecursion (IsOfHome home) xs × AllByRecursion (IsOfHome home) ys
    parts [] ys all = (tt, all)
    parts (x ∷ xs) ys all = let rest = parts xs ys all.1 in ((all.0, rest.0), rest.1)

    both : (xs ys : List Component) → AllByRecursion (IsOfHome home) xs → AllByRecursion (IsOfHome home) ys → AllByRecursion (IsOfHome home) (xs ++ ys)
    both [] ys a b = b
    both (x ∷ xs) ys a b = (a.0, both xs ys a.1 b)

    less : (xs : List Component) → AllByRecursion (IsOfHome home) xs → AllByRecursion (IsOfHome home) (filter (λ c. not (c.id == id)) xs)
    less xs a = all-filter (λ c. not (c.id == id)) (IsOfHome home) xs a

    by : (h k : Bool) → AreOf home (without_by h k id t)
    by true k = let a = parts t.comps (t.buffers ++ t.pipes) all in both _ _ (less t.comps a.0) a.1
    by false true = let a = parts t.comps (t.buffers ++ t.pipes) all in let b = parts t.buffers t.pipes a.1 in both _ _ a.0 (both _ _ (less t.buffers b.0) b.1)
    by false false = let a = parts t.comps (t.buffers ++ t.pipes) all in let b = parts t.buffers t.pipes a.1 in both _ _ a.0 (both _ _ b.0 (less t.pipes b.1))

pub freed-is : (what : Item) (t u : Tables) (r s : RegionState) (id : ℕ) → IsPieceHeld t r → {X : Type 0} (answer : Result X Errno) → ((id : ℕ) (cs : List Component) → map ring_by (filter (λ x. not (x.id == id)) cs) ≡ filter (λ x. not (x.buffer == id)) (map ring_by cs))
    → ((f : FwState) → rows.view_answer (view_by u) answer ≡ rows.view_after (rows.row_of_free what (rows.with_view (view_by t) f) id)) → OnOk answer (u ≡ tables_without id t) → OnOk answer (s.holes ≡ given_found (found t id) r.holes)
    → ((s.home ≡ r.home) × (s.size ≡ r.size) × (s.usable ≡ r.usable)) → OnErr answer ((u ≡ t) × (s ≡ r)) → IsRow (λ f. rows.row_of_free what f id) t u r s answer
freed-is what t u r s id held answer rings views done holes same kept =
    row-is (λ f. rows.row_of_free what f id) t u r s answer held
    (λ clock. told-by answer (rows.row_of_free what (state_in t r clock) id) (view_by u) (state_in u s clock) (views (state_in t r clock)) (λ g is view. on-both answer done holes (λ d h. freed-leads what t u r s id held rings clock g is view d h)))
    (freed-kept what id) (λ f g kept is. freed-whole what id f g kept is)
    (on-ok answer done (λ d. subst (λ home. AreOf home u) (sym same.0) (subst (AreOf r.home) (sym d) (left-homes r.home t id held.homes)))) (on-ok answer done (λ d. freed-shapes t u r s id held d what)) same kept
  where
    on-both : {X A B C : Type 0} (answer : Result X Errno) → OnOk answer A → OnOk answer B → (A → B → C) → OnOk answer C
    on-both (Ok done) a b to = to a b
    on-both (Err error) a b to = tt
