use Rattle.std.proofs.Common.{◌≡◌, subst, suc, ◌+◌, ℕ, List, map, take, get_or, set, arith}
use Rattle.stream_law.specs.declared.graph.Join.{Join}
use Rattle.fw_places.specs.Walks.{by_places}
use Rattle.fw_places.proofs.Charts.{written-more}
use Rattle.fw_places.proofs.places.resolve.Goals as goal

pub loop-i-preserved : goal.loop-i-preserved
loop-i-preserved c =
    let joins : List Join = c.args.joins.now in let i = c.loop-i.i in
    let e : suc i ≡ i + 1 = omega arith in
    let none : Join = record { source = 0; sink = 0 } in
    let join : Join = record { source = c.place_by.result; sink = c.place_by-in-loop-i.result } in
    let is : join ≡ by_places c.args.ids.now (get_or joins i none) = λ k. let r : Join = record { source = c.place_by.ensures.place k; sink = c.place_by-in-loop-i.ensures.place k } in r in
    subst (λ (n : ℕ). take n (set c.loop-i.ends i join) ≡ map (by_places c.args.ids.now) (take n joins)) e (written-more (by_places c.args.ids.now) joins c.loop-i.ends i join none c.loop-i-test.true (omega (arith, c.loop-i.auto.ends, c.requires.room, c.loop-i-test.true)) c.loop-i.invariant is)
