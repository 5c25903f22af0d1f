use Rattle.std.proofs.Common.{◌≡◌, refl, sym, ap, subst, ◌∙◌, ◌+◌, ◌-◌, ◌++◌, ◌∷◌, [], ◌≤◌, ◌<◌, ℕ, zero, suc, List, map, take, drop, replicate, length, length-append, length-drop, length-take, arith}
use Rattle.std.proofs.lemmas.List.{length-map, length-replicate, drop-replicate}
use Rattle.std.proofs.Math.Seq.{take-append-add}
use Rattle.std.specs.List.{refill}
use Rattle.arrayvec.specs.ArrayVec.{ArrayVec}
use Rattle.arrayvec.proofs.ArrayVecLemmas.{items-with_items}
use Rattle.stream_law.specs.declared.graph.Edge.{Edge}
use Rattle.stream_law.specs.declared.graph.Join.{Join}
use Rattle.stream_law.specs.declared.graph.Graph.{Graph}
use Rattle.stream_law.specs.Joins.{joined_edge}
use Rattle.fw_places.specs.WayCharts.{AreWaysOf}
use Rattle.fw_units.specs.declared.component.Component.{Component}
use Rattle.fw_units.specs.Units.{comp_by, edge_by, pipe_by}
use Rattle.fw_components.specs.Tables.{Tables}
use Rattle.fw_components.specs.EchoEdges.{AreLinkable}
use Rattle.fw_components.proofs.KeptLaws.{room-to_join}
use Rattle.fw_components.proofs.Linkable.{buffers-linkable, more-linkable, join-listed}
use Rattle.fw_components.proofs.Listed.{are-joined, joins-few}
use Rattle.fw_components.proofs.registry.Registry.ways_with.Goals as goal

-- the joins with one more are those at the front of a list that was full of it
front-one : (j : Join) (n : ℕ) → 0 < n → take 1 (replicate n j) ≡ j ∷ []
front-one j zero low = absurd (omega (arith, low))
front-one j (suc n) low = refl

front-more : (joins : List Join) (j : Join) (m : ℕ) → length joins < m → take (length joins + 1) (joins ++ drop (length joins) (replicate m j)) ≡ joins ++ j ∷ []
front-more joins j m low =
    take-append-add joins (drop (length joins) (replicate m j)) 1
    ∙ ap (λ (js : List Join). joins ++ js) (ap (take 1) (drop-replicate (length joins) m j) ∙ front-one j (m - length joins) (omega (arith, low)))

-- a list of 256 still has so many where joins are copied to its front
front-size : (joins all new : List Join) → new ≡ joins ++ drop (length joins) all → length all ≡ 256 → length joins ≤ 256 → length new ≡ 256
front-size joins all new is size few = omega (arith, ap length is, length-append joins (drop (length joins) all), length-drop (length joins) all, size, few)

-- edges that are written in place are what is written
placed-edges : (es ws ns : List Edge) (j : Join) → es ≡ ws → ns ≡ map (joined_edge j) es → refill (length ws) ws ns ≡ map (joined_edge j) ws
placed-edges es ws ns j same is = items-with_items (let v : ArrayVec Edge = record { items = ws } in v) ns (ap length is ∙ length-map es (joined_edge j) ∙ ap length same) ∙ is ∙ ap (map (joined_edge j)) same

pub copy_joins-count-requires : goal.copy_joins-count-requires
copy_joins-count-requires c =
    let few = joins-few c.args.self.now c.joins.ensures.kept in
    omega (arith, few, ap length c.joins.ensures.items)

pub slice_bounds-joins-end : goal.slice_bounds-joins-end
slice_bounds-joins-end c =
    let t : Tables = c.args.self.now in let few = joins-few t c.joins.ensures.kept in
    let size = front-size c.joins.result.now (replicate 256 c.args.join) c.copy_joins-count.new.copy c.copy_joins-count.ensures.copy (length-replicate 256 c.args.join) (omega (arith, few, ap length c.joins.ensures.items)) in
    omega (arith, size, room-to_join t c.joins.ensures.kept c.args.join c.requires, ap length c.joins.ensures.items, c.copy_joins-count.ensures.count)

pub slice_bounds-ways_of-end : goal.slice_bounds-ways_of-end
slice_bounds-ways_of-end c =
    let t : Tables = c.args.self.now in let few = joins-few t c.joins.ensures.kept in
    let size = front-size c.joins.result.now (replicate 256 c.args.join) c.copy_joins-count.new.copy c.copy_joins-count.ensures.copy (length-replicate 256 c.args.join) (omega (arith, few, ap length c.joins.ensures.items)) in
    omega (arith, size, length-take (c.copy_joins-count.result + 1) c.copy_joins-count.new.copy, room-to_join t c.joins.ensures.kept c.args.join c.requires, ap length c.joins.ensures.items, c.copy_joins-count.ensures.count)

pub ways_of-requires : goal.ways_of-requires
ways_of-requires c =
    let t : Tables = c.args.self.now in let j : Join = c.args.join in
    let edges : c.as_slice.result.now ≡ map (joined_edge j) (map edge_by t.buffers) =
    c.as_slice.ensures.value ∙ placed-edges c.as_mut_slice.result.now c.edges_of-edges.result.items c.join_edges.new.edges j c.as_mut_slice.ensures.value c.join_edges.ensures ∙ ap (map (joined_edge j)) (c.edges_of-edges.ensures ∙ ap (map edge_by) c.buffers.ensures.items) in
    let low : length c.joins.result.now < 256 = omega (arith, room-to_join t c.joins.ensures.kept j c.requires, ap length c.joins.ensures.items) in
    let all = ap (λ (xs : List Join). take (c.copy_joins-count.result + 1) xs) c.copy_joins-count.ensures.copy ∙ ap (λ n. take (n + 1) (c.joins.result.now ++ drop (length c.joins.result.now) (replicate 256 j))) c.copy_joins-count.ensures.count ∙ front-more c.joins.result.now j 256 low ∙ ap (λ (xs : List Join). xs ++ j ∷ []) c.joins.ensures.items in
    let few : length t.joins + 1 ≤ 256 = omega (arith, room-to_join t c.joins.ensures.kept j c.requires) in
    subst (λ (p : List Component × List Edge × List Join). AreLinkable p.0 p.1 p.2) (λ i. (sym c.comps.ensures.items i, sym edges i, sym all i))
    (more-linkable t.comps (map edge_by t.buffers) t.joins j (buffers-linkable t.comps t.buffers t.joins (are-joined t c.joins.ensures.kept)) (join-listed t j c.requires) few)

pub returns : goal.returns
returns c =
    let t : Tables = c.args.self.now in let j : Join = c.args.join in
    let edges : c.as_slice.result.now ≡ map (joined_edge j) (map edge_by t.buffers) =
    c.as_slice.ensures.value ∙ placed-edges c.as_mut_slice.result.now c.edges_of-edges.result.items c.join_edges.new.edges j c.as_mut_slice.ensures.value c.join_edges.ensures ∙ ap (map (joined_edge j)) (c.edges_of-edges.ensures ∙ ap (map edge_by) c.buffers.ensures.items) in
    let low : length c.joins.result.now < 256 = omega (arith, room-to_join t c.joins.ensures.kept j c.requires, ap length c.joins.ensures.items) in
    let all = ap (λ (xs : List Join). take (c.copy_joins-count.result + 1) xs) c.copy_joins-count.ensures.copy ∙ ap (λ n. take (n + 1) (c.joins.result.now ++ drop (length c.joins.result.now) (replicate 256 j))) c.copy_joins-count.ensures.count ∙ front-more c.joins.result.now j 256 low ∙ ap (λ (xs : List Join). xs ++ j ∷ []) c.joins.ensures.items in
    subst (λ (p : List Component × List Edge × List Join). let g : Graph = record { comps = map comp_by p.0; edges = p.1; pipes = map pipe_by t.pipes; joins = p.2 } in AreWaysOf g c.ways_of.result)
    (λ i. (c.comps.ensures.items i, edges i, all i)) (c.ways_of.ensures (map pipe_by t.pipes))
