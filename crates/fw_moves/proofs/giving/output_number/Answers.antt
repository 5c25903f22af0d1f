use Rattle.std.proofs.Common.{◌≡◌, ap, ◌∙◌, ℕ, ◌+◌, ◌<◌, List, ◌∷◌, drop, length, get_or, arith}
use Rattle.std.proofs.lemmas.Bool.{eq-eqb, ne_eqb}
use Rattle.std.proofs.lemmas.List.{drop_more, drop_all}
use Rattle.stream_law.specs.declared.graph.Join.{Join}
use Rattle.fw_moves.specs.Processed.{output_number}
use Rattle.fw_moves.proofs.OutletLaws.{output-here, output-past, output-other}
use Rattle.fw_moves.proofs.giving.output_number.Goals as goal
use Rattle.fw_moves.proofs.giving.output_number.Goals.{then-join-id+else-join-outlet, else-join-id}

-- those from this join on are this one and those after it
rest-more : (joins : List Join) (i number id b : ℕ) → i < length joins → output_number joins id b ≡ number + output_number (drop i joins) id b → output_number joins id b ≡ number + output_number (get_or joins i (record { source = 0; sink = 0 }) ∷ drop (i + 1) joins) id b
rest-more joins i number id b low is = is ∙ ap (λ (js : List Join). number + output_number js id b) (drop_more joins i (record { source = 0; sink = 0 }) low)

pub loop-join-preserved : goal.loop-join-preserved
loop-join-preserved c =
    let joins : List Join = c.args.joins.now in let i = c.loop-join.join-index in let id = c.args.id in let b = c.args.outlet in
    let j : Join = get_or joins i (record { source = 0; sink = 0 }) in let rest : List Join = drop (i + 1) joins in
    let so_far = rest-more joins i c.loop-join.number id b c.loop-join-test.true c.loop-join.invariant.rest in
    elim c.if-join-id.branch [
      | then-join-id+else-join-outlet w ↦ record { within = omega (arith, c.loop-join.invariant.within, w.number-is); rest = omega (arith, so_far, output-past j rest id b (eq-eqb j.source id w.if-join-id.true) (ne_eqb j.sink b w.if-join-outlet.false), w.number-is) }
      | else-join-id w ↦ record { within = omega (arith, c.loop-join.invariant.within, w.number-is); rest = omega (arith, so_far, output-other j rest id b (ne_eqb j.source id w.if-join-id.false), w.number-is) }
    ]

pub returns-then-join-outlet : goal.returns-then-join-outlet
returns-then-join-outlet c =
    let joins : List Join = c.args.joins.now in let i = c.loop-join.join-index in let id = c.args.id in let b = c.args.outlet in
    let j : Join = get_or joins i (record { source = 0; sink = 0 }) in let rest : List Join = drop (i + 1) joins in
    omega (arith, rest-more joins i c.loop-join.number id b c.loop-join-test.true c.loop-join.invariant.rest, output-here j rest id b (eq-eqb j.source id c.if-join-id.true) (eq-eqb j.sink b c.if-join-outlet.true))

pub returns : goal.returns
returns c =
    let joins : List Join = c.args.joins.now in
    let none : output_number (drop c.loop-join.join-index joins) c.args.id c.args.outlet ≡ 0 = ap (λ (js : List Join). output_number js c.args.id c.args.outlet) (drop_all c.loop-join.join-index joins (omega (arith, c.loop-join-test.false))) in
    omega (arith, c.loop-join.invariant.rest, none)
