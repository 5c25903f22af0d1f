use Rattle.std.proofs.Common.{◌≡◌, sym, ap, subst, ◌∙◌, ◌++◌, ◌≤◌, ◌&&◌, not, ℕ, List, map, filter, take, length, length-take, arith}
use Rattle.std.proofs.lemmas.List.{length-map}
use Rattle.std.specs.List.{AllByRecursion}
use Rattle.stream_law.specs.declared.graph.Edge.{Edge}
use Rattle.stream_law.specs.declared.graph.Join.{Join}
use Rattle.fw_places.specs.Walks.{IsListed}
use Rattle.fw_units.specs.declared.component.Component.{Component}
use Rattle.fw_components.specs.EchoEdges.{linked_ids, is_edge_in}
use Rattle.fw_components.proofs.EchoWays.{left-listed, ways-found}
use Rattle.fw_components.proofs.echo_edges.ways_of.Goals as goal

pub list_edges-requires : goal.list_edges-requires
list_edges-requires c =
    let cs = c.args.comps.now in
    let a : length c.list.new.ids.items ≡ length (map (λ c. c.id) cs) = ap length (c.list.ensures ∙ ap (λ (xs : List ℕ). xs ++ map (λ c. c.id) cs) c.new-ids.ensures) in
    omega (arith, a, length-map cs (λ (c : Component). c.id), c.requires.few_comps, c.requires.few_edges)

pub of-places-requires : goal.of-places-requires
of-places-requires c =
    let cs = c.args.comps.now in let es = c.args.edges.now in let js : List Join = c.args.joins.now in
    let all : c.list_edges.new.ids.items ≡ linked_ids cs es = c.list_edges.ensures ∙ ap (λ (xs : List ℕ). xs ++ map (λ e. e.buffer) es) (c.list.ensures ∙ ap (λ (xs : List ℕ). xs ++ map (λ c. c.id) cs) c.new-ids.ensures) in
    record {
      listed = subst (λ (xs : List ℕ). AllByRecursion (IsListed xs) js) (sym all) c.requires.listed;
      few = c.requires.few_joins;
    }

pub echoes_of-echoes-requires : goal.echoes_of-echoes-requires
echoes_of-echoes-requires c =
    let cs = c.args.comps.now in let es = c.args.edges.now in let js : List Join = c.args.joins.now in
    let all : c.of-places.result.ids ≡ linked_ids cs es = c.of-places.ensures.ids ∙ c.list_edges.ensures ∙ ap (λ (xs : List ℕ). xs ++ map (λ e. e.buffer) es) (c.list.ensures ∙ ap (λ (xs : List ℕ). xs ++ map (λ c. c.id) cs) c.new-ids.ensures) in
    record {
      few = c.requires.few_edges;
      ids = all;
      listed = subst (λ (p : List ℕ × List Join). AllByRecursion (IsListed p.0) p.1) (λ i. (sym all i, sym c.of-places.ensures.joins i)) c.requires.listed;
    }

pub along-requires : goal.along-requires
along-requires c =
    let cs = c.args.comps.now in let es = c.args.edges.now in let js : List Join = c.args.joins.now in
    let all : c.of-places.result.ids ≡ linked_ids cs es = c.of-places.ensures.ids ∙ c.list_edges.ensures ∙ ap (λ (xs : List ℕ). xs ++ map (λ e. e.buffer) es) (c.list.ensures ∙ ap (λ (xs : List ℕ). xs ++ map (λ c. c.id) cs) c.new-ids.ensures) in
    let p = λ (j : Join). not (is_edge_in c.as_slice.result.now j.source) && not (is_edge_in c.as_slice.result.now j.sink) in
    record {
      listed = subst (λ (q : List ℕ × List Join). AllByRecursion (IsListed q.0) q.1) (λ i. (sym all i, sym c.leave_out-count.ensures.left i)) (left-listed (linked_ids cs es) p js c.requires.listed);
      few = (let e : length (take c.leave_out-count.result c.leave_out-count.new.left) ≤ 256 = omega (arith, length-take c.leave_out-count.result c.leave_out-count.new.left, c.leave_out-count.ensures.few, c.requires.few_joins) in e);
    }

pub returns : goal.returns
returns c = λ pipes.
    let cs = c.args.comps.now in let es = c.args.edges.now in let js : List Join = c.args.joins.now in
    let all : c.of-places.result.ids ≡ linked_ids cs es = c.of-places.ensures.ids ∙ c.list_edges.ensures ∙ ap (λ (xs : List ℕ). xs ++ map (λ e. e.buffer) es) (c.list.ensures ∙ ap (λ (xs : List ℕ). xs ++ map (λ c. c.id) cs) c.new-ids.ensures) in
    ways-found cs es pipes js c.of.result c.requires c.echoes_of-echoes.result.items c.of-places.result all c.of-places.ensures.joins c.echoes_of-echoes.ensures
    (c.of.ensures.ids ∙ c.along.ensures.ids)
    (c.of.ensures.joins ∙ c.along.ensures.joins ∙ c.leave_out-count.ensures.left
    ∙ ap (λ (xs : List Edge). filter (λ (j : Join). not (is_edge_in xs j.source) && not (is_edge_in xs j.sink)) js) c.as_slice.ensures.value)
    c.of.ensures.echoes
