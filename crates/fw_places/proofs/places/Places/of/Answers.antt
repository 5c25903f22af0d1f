use Rattle.std.proofs.Common.{◌≡◌, ap, ◌∙◌, ◌≤◌, ℕ, List, length, map, take, arith}
use Rattle.stream_law.specs.declared.graph.Join.{Join}
use Rattle.fw_places.specs.Walks.{by_places}
use Rattle.fw_places.proofs.Charts.{chart-joins, chart-is}
use Rattle.fw_places.proofs.places.Places.of.Goals as goal

pub invariant_of-result : goal.invariant_of-result
invariant_of-result c =
    let ids : List ℕ = c.args.ids.items in let joins : List Join = c.args.joins.now in
    let is : take (length joins) c.resolve.new.ends ≡ map (by_places ids) joins = c.resolve.ensures ∙ ap (λ (xs : List ℕ). map (by_places xs) joins) c.as_slice.ensures.value in
    let few : length ids ≤ 256 = omega (arith, c.as_slice.ensures.fits, ap length c.as_slice.ensures.value) in
    chart-is ids joins c.resolve.new.ends (length joins) is c.requires.listed few c.requires.few

pub returns-clause-joins : goal.returns-clause-joins
returns-clause-joins c =
    let ids : List ℕ = c.args.ids.items in let joins : List Join = c.args.joins.now in
    chart-joins ids joins c.resolve.new.ends (length joins) (c.resolve.ensures ∙ ap (λ (xs : List ℕ). map (by_places xs) joins) c.as_slice.ensures.value) c.requires.listed
