-- The rows that join and complete: the graph alone changes.
use Rattle.std.proofs.Common.{◌≡◌, refl, sym, ap, ◌∙◌, subst, ℕ, List, [], ◌∷◌, ◌++◌, map, Bool, true, false, cond, not, ◌&&◌, ◌==◌, Option, Some, None, Result, Ok, Err, ℤ, find}
use Rattle.std.specs.Prelude.{OnErr, OnOk}
use Rattle.std.specs.List.{AllByRecursion, IsDistinct}
use Rattle.sof_base.specs.declared.errno.Errno.{Errno}
use Rattle.stream_law.specs.declared.graph.Comp.{Comp}
use Rattle.stream_law.specs.declared.graph.Join.{Join}
use Rattle.stream_law.specs.declared.graph.Pipe.{Pipe}
use Rattle.stream_law.specs.State.{FwState, view_of}
use Rattle.stream_law.specs.Placed.{HasDistinct}
use Rattle.stream_law.specs.Joins.{with_join as graph_with_join}
use Rattle.stream_law.proofs.Members.{IsIn}
use Rattle.mbox_link.specs.Step.{no_device, busy, invalid, is_used, has_comp, is_joined, is_refused_join, connect, completed, complete_pipe, pipe_complete, with_pipes}
use Rattle.row_laws.specs.Tiled.{heap_bytes}
use Rattle.row_laws.proofs.RowKept.{connect-kept, pipe_complete-kept}
use Rattle.fw_heap.specs.Regions.{RegionState}
use Rattle.fw_units.specs.declared.component.Component.{Component}
use Rattle.fw_units.specs.declared.component.Unit as units
use Rattle.fw_units.specs.declared.component.Unit.TheVariants.{Buffer}
use Rattle.fw_units.specs.Frames.{channels_by}
use Rattle.fw_units.specs.Units.{ring_by, comp_by}
use Rattle.fw_components.specs.Tables.{Tables, all_of, view_by, rings_of, histories_of, staging_of, carved_pieces}
use Rattle.fw_units.specs.Changes.{joined_at, sunk_unit, sourced_unit, completed_at}
use Rattle.fw_components.specs.Changes.{tables_with_join}
use Rattle.fw_pipeline.specs.Rows as rows
use Rattle.fw_schedule.specs.Ticks.{HasShapes}
use Rattle.fw_core.specs.Held.{state_in, IsPieceHeld}
use Rattle.fw_core.specs.Answers.{IsRow}
use Rattle.fw_core.proofs.RowLaws.{told-by, row-is, on-ok}
use Rattle.fw_core.proofs.Seats.{seat, seats-pieces, seats-homes, seat-joined, seat-completed, map-kept, map-both, in-map}
use Rattle.fw_core.proofs.Histories.{history, AreThere, one-key, there-all, histories-are}
use Rattle.fw_core.proofs.Streams.{err-same}
use Rattle.fw_core.proofs.Shapes.{Fits, moves, frames, HasRamp, IsSame, shapes-are, fits-map, pipes-same, connect-same, comp-among, buffer-among}

-- a state is that of tables and a region where each part is
pub state-is : (u : Tables) (s : RegionState) (clock : ℕ) (g : FwState) → g.heap.holes ≡ s.holes → g.heap.pieces ≡ carved_pieces u → g.clock ≡ clock → view_of g ≡ view_by u → g.rings ≡ rings_of u → g.histories ≡ histories_of u → g.staging ≡ staging_of u → g ≡ state_in u s clock
state-is u s clock g holes pieces at view rings histories staging = λ i. record {
  heap = record { holes = holes i; pieces = pieces i };
  clock = at i;
  graph = (view i).graph;
  streams = (view i).streams;
  rings = rings i;
  histories = histories i;
  staging = staging i;
}

-- three tests that all pass
pub three-tests : (a b c : Bool) (e n m : ℤ) (h g : FwState) → cond a (Err e) (cond b (Err n) (cond c (Err m) (Ok h))) ≡ Ok g → h ≡ g
three-tests true b c e n m h g is = cc
three-tests false true c e n m h g is = cc
three-tests false false true e n m h g is = cc
three-tests false false false e n m h g is = cc

-- no two components have one id
pub comps-distinct : (t : Tables) (r : RegionState) → IsPieceHeld t r → HasDistinct (λ (c : Component). c.id) t.comps
comps-distinct t r held = subst (λ (ns : List ℕ). IsDistinct (λ m n. m == n) ns) (map-map t.comps) (held.kept 0).wired.ids
  where
    map-map : (cs : List Component) → map (λ (x : Comp). x.id) (map comp_by cs) ≡ map (λ (c : Component). c.id) cs
    map-map [] = refl
    map-map (c ∷ cs) = ap (λ ns. c.id ∷ ns) (map-map cs)

-- components that stay keep their histories
pub same-comps : (t : Tables) (r : RegionState) → IsPieceHeld t r → (c d : Component) → IsIn c t.comps → IsIn d t.comps → d.id ≡ c.id → history d ≡ history c
same-comps t r held c d in_c in_d same = ap history (one-key (λ (c : Component). c.id) t.comps (comps-distinct t r held) c d in_c in_d same)

-- ---- CONNECT

-- a join leaves ids and channels
sunk-frames : (id : ℕ) (u : units.Unit) → channels_by (sunk_unit id u) ≡ channels_by u
sunk-frames id (Buffer size ring source sink) = refl
sunk-frames id u = refl

sourced-frames : (id : ℕ) (u : units.Unit) → channels_by (sourced_unit id u) ≡ channels_by u
sourced-frames id (Buffer size ring source sink) = refl
sourced-frames id u = refl

joined-id : (j : Join) (c : Component) → (joined_at j c).id ≡ c.id
joined-id j c = by (c.id == j.source) (c.id == j.sink)
  where
    by : (h k : Bool) → (cond {A = Component} h (record { id = c.id; pipe = c.pipe; channels = c.channels; unit = sunk_unit j.sink c.unit }) (cond k (record { id = c.id; pipe = c.pipe; channels = c.channels; unit = sourced_unit j.source c.unit }) c)).id ≡ c.id
    by true k = refl
    by false true = refl
    by false false = refl

joined-frames : (j : Join) (c : Component) → frames (joined_at j c) ≡ frames c
joined-frames j c = by (c.id == j.source) (c.id == j.sink)
  where
    by : (h k : Bool) → frames (cond h (record { id = c.id; pipe = c.pipe; channels = c.channels; unit = sunk_unit j.sink c.unit }) (cond k (record { id = c.id; pipe = c.pipe; channels = c.channels; unit = sourced_unit j.source c.unit }) c)) ≡ frames c
    by true k = sunk-frames j.sink c.unit
    by false true = sourced-frames j.source c.unit
    by false false = refl

connect-done : (f g : FwState) (source sink : ℕ) → connect f source sink ≡ Ok g → record f { graph = graph_with_join f.graph (record { source = source; sink = sink }) } ≡ g
connect-done f g source sink is = three-tests (not (is_used f.graph source && is_used f.graph sink)) (is_joined f.graph source sink) (is_refused_join f source sink) no_device busy invalid _ g is

module _ (t u : Tables) (r : RegionState) (source sink : ℕ) (held : IsPieceHeld t r) where
  joined-seats : u ≡ tables_with_join (record { source = source; sink = sink }) t → map seat (all_of u) ≡ map seat (all_of t)
  joined-seats done =
      let j : Join = record { source = source; sink = sink } in
      ap (λ (x : Tables). map seat (all_of x)) done
      ∙ map-both seat t.comps (t.buffers ++ t.pipes) t.comps (map (joined_at j) t.buffers ++ t.pipes) refl (map-both seat t.buffers t.pipes (map (joined_at j) t.buffers) t.pipes (map-kept seat (joined_at j) (seat-joined j) t.buffers) refl)

  connect-leads : ((j : Join) (cs : List Component) → map ring_by (map (joined_at j) cs) ≡ map ring_by cs) → (clock : ℕ) (g : FwState) → connect (state_in t r clock) source sink ≡ Ok g → view_of g ≡ view_by u → u ≡ tables_with_join (record { source = source; sink = sink }) t → g ≡ state_in u r clock
  connect-leads rings clock g is view done =
      let j : Join = record { source = source; sink = sink } in
      let f = state_in t r clock in
      let own = connect-done f g source sink is in
      let kept = connect-kept source sink f g (held.kept clock) is in
      let comps = ap (λ (x : Tables). x.comps) done in
      let histories = ap (λ (x : FwState). x.histories) (sym own) in
      state-is u r clock g
      (ap (λ (x : FwState). x.heap.holes) (sym own))
      (ap (λ (x : FwState). x.heap.pieces) (sym own) ∙ sym (seats-pieces (all_of t) (all_of u) (joined-seats done)))
      (ap (λ (x : FwState). x.clock) (sym own))
      view
      (ap (λ (x : FwState). x.rings) (sym own) ∙ sym (ap (λ (x : Tables). rings_of x) done ∙ rings j t.buffers))
      (histories-are g u kept view (subst (AreThere u.comps) (sym histories) (subst (λ (ds : List Component). AreThere ds (histories_of t)) (sym comps) (there-all t.comps t.comps _ (same-comps t r held)))))
      (ap (λ (x : FwState). x.staging) (sym own) ∙ sym (ap (λ (x : Tables). staging_of x) done))

  connect-shapes : u ≡ tables_with_join (record { source = source; sink = sink }) t → connect (state_in t r 0) source sink ≡ Ok (state_in u r 0) → HasShapes u
  connect-shapes done row =
      let j : Join = record { source = source; sink = sink } in
      let same = connect-same source sink (state_in t r 0) (state_in u r 0) (held.kept 0) row in
      shapes-are t u
      (λ c there. same c.id (comp-among t c (subst (λ (x : Tables). IsIn c x.comps) done there)))
      (λ c there. let from = in-map (joined_at j) t.buffers c (subst (λ (x : Tables). IsIn c x.buffers) done there) in
      subst (IsSame (view_by t) (view_by u)) (sym (ap (λ (x : Component). x.id) from.2 ∙ joined-id j from.0)) (same from.0.id (buffer-among t from.0 from.1)))
      (subst (λ (x : Tables). AllByRecursion (Fits (view_by t) moves) x.comps) (sym done) held.shapes.comps)
      (subst (λ (x : Tables). AllByRecursion (Fits (view_by t) frames) x.buffers) (sym done) (fits-map (view_by t) frames (joined_at j) (joined-id j) (joined-frames j) t.buffers held.shapes.buffers))
      (subst (λ (x : Tables). AllByRecursion (HasRamp (view_by t)) x.comps) (sym done) held.shapes.ramps)

  pub connect-is : {X : Type 0} (answer : Result X Errno) → ((j : Join) (cs : List Component) → map ring_by (map (joined_at j) cs) ≡ map ring_by cs) → ((f : FwState) → rows.view_answer (view_by u) answer ≡ rows.view_after (connect (rows.with_view (view_by t) f) source sink)) → OnOk answer (u ≡ tables_with_join (record { source = source; sink = sink }) t) → OnErr answer (u ≡ t) → IsRow (λ f. connect f source sink) t u r r answer
  connect-is answer rings views done kept =
      row-is (λ f. connect f source sink) t u r r answer held
      (λ clock. told-by answer (connect (state_in t r clock) source sink) (view_by u) (state_in u r clock) (views (state_in t r clock)) (λ g is view. on-ok answer done (connect-leads rings clock g is view)))
      (connect-kept source sink) (λ f g kept is. ap (λ (x : FwState). heap_bytes x.heap) (sym (connect-done f g source sink is)))
      (on-ok answer done (λ done. seats-homes r.home (all_of t) (all_of u) (joined-seats done) held.homes)) (on-ok answer done connect-shapes) (refl, refl, refl) (err-same t u r answer kept)

-- ---- PIPE_COMPLETE

complete-done : (f g : FwState) (id : ℕ) → pipe_complete f id ≡ Ok g → record f { graph = with_pipes (map (completed id) f.graph.pipes) f.graph } ≡ g
complete-done f g id is = used (not (is_used f.graph id)) is
  where
    found : (o : Option Pipe) → complete_pipe f id o ≡ Ok g → record f { graph = with_pipes (map (completed id) f.graph.pipes) f.graph } ≡ g
    found None is = cc
    found (Some p) is = three-tests (not (is_used f.graph p.sched)) p.complete (not (has_comp f.graph p.sched)) no_device busy invalid _ g is

    used : (a : Bool) → cond a (Err no_device) (complete_pipe f id (find (λ p. p.id == id) f.graph.pipes)) ≡ Ok g → record f { graph = with_pipes (map (completed id) f.graph.pipes) f.graph } ≡ g
    used true is = cc
    used false is = found (find (λ p. p.id == id) f.graph.pipes) is

abbrev complete_tables : ℕ → Tables → Tables
complete_tables id t = record { comps = t.comps; buffers = t.buffers; pipes = map (completed_at id) t.pipes; joins = t.joins }

module _ (t u : Tables) (r : RegionState) (id : ℕ) (held : IsPieceHeld t r) where
  completed-seats : u ≡ complete_tables id t → map seat (all_of u) ≡ map seat (all_of t)
  completed-seats done =
      ap (λ (x : Tables). map seat (all_of x)) done
      ∙ map-both seat t.comps (t.buffers ++ t.pipes) t.comps (t.buffers ++ map (completed_at id) t.pipes) refl (map-both seat t.buffers t.pipes t.buffers (map (completed_at id) t.pipes) refl (map-kept seat (completed_at id) (seat-completed id) t.pipes))

  complete-leads : (clock : ℕ) (g : FwState) → pipe_complete (state_in t r clock) id ≡ Ok g → view_of g ≡ view_by u → u ≡ complete_tables id t → g ≡ state_in u r clock
  complete-leads clock g is view done =
      let f = state_in t r clock in
      let own = complete-done f g id is in
      let kept = pipe_complete-kept id f g (held.kept clock) is in
      let comps = ap (λ (x : Tables). x.comps) done in
      let histories = ap (λ (x : FwState). x.histories) (sym own) in
      state-is u r clock g
      (ap (λ (x : FwState). x.heap.holes) (sym own))
      (ap (λ (x : FwState). x.heap.pieces) (sym own) ∙ sym (seats-pieces (all_of t) (all_of u) (completed-seats done)))
      (ap (λ (x : FwState). x.clock) (sym own))
      view
      (ap (λ (x : FwState). x.rings) (sym own) ∙ sym (ap (λ (x : Tables). rings_of x) done))
      (histories-are g u kept view (subst (AreThere u.comps) (sym histories) (subst (λ (ds : List Component). AreThere ds (histories_of t)) (sym comps) (there-all t.comps t.comps _ (same-comps t r held)))))
      (ap (λ (x : FwState). x.staging) (sym own) ∙ sym (ap (λ (x : Tables). staging_of x) done))

  complete-shapes : u ≡ complete_tables id t → pipe_complete (state_in t r 0) id ≡ Ok (state_in u r 0) → HasShapes u
  complete-shapes done row =
      let same : (x : ℕ) → IsSame (view_by t) (view_by u) x = pipes-same (state_in t r 0) (state_in u r 0) _ (held.kept 0) (ap view_of (sym (complete-done (state_in t r 0) (state_in u r 0) id row))) in
      shapes-are t u (λ c there. same c.id) (λ c there. same c.id)
      (subst (λ (x : Tables). AllByRecursion (Fits (view_by t) moves) x.comps) (sym done) held.shapes.comps)
      (subst (λ (x : Tables). AllByRecursion (Fits (view_by t) frames) x.buffers) (sym done) held.shapes.buffers)
      (subst (λ (x : Tables). AllByRecursion (HasRamp (view_by t)) x.comps) (sym done) held.shapes.ramps)

  pub complete-is : {X : Type 0} (answer : Result X Errno) → ((f : FwState) → rows.view_answer (view_by u) answer ≡ rows.view_after (pipe_complete (rows.with_view (view_by t) f) id)) → OnOk answer (u ≡ complete_tables id t) → OnErr answer (u ≡ t) → IsRow (λ f. pipe_complete f id) t u r r answer
  complete-is answer views done kept =
      row-is (λ f. pipe_complete f id) t u r r answer held
      (λ clock. told-by answer (pipe_complete (state_in t r clock) id) (view_by u) (state_in u r clock) (views (state_in t r clock)) (λ g is view. on-ok answer done (complete-leads clock g is view)))
      (pipe_complete-kept id) (λ f g kept is. ap (λ (x : FwState). heap_bytes x.heap) (sym (complete-done f g id is)))
      (on-ok answer done (λ done. seats-homes r.home (all_of t) (all_of u) (completed-seats done) held.homes)) (on-ok answer done complete-shapes) (refl, refl, refl) (err-same t u r answer kept)
