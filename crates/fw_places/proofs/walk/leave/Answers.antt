use Rattle.std.proofs.Common.{◌≡◌, ◌<◌, ◌-◌, sym, ap, ◌∙◌, ℕ, suc, List, true, false, length, get_or, arith}
use Rattle.stream_law.specs.declared.graph.Join.{Join}
use Rattle.fw_places.specs.Walks.{near_of, far_of}
use Rattle.fw_places.specs.Leaving.{no_join, last_from}
use Rattle.fw_places.proofs.Marking.{all-at}
use Rattle.fw_places.proofs.Leaves.{last-most, last-one, rest-more, rest-all, go-then}
use Rattle.fw_places.proofs.walk.leave.Goals as goal

pub bounds-joins-k : goal.bounds-joins-k
bounds-joins-k c = let r = c.loop-at.invariant.rest in omega (arith, c.loop-at-test.true, r.1.0, r.1.1.0, last-most c.args.back c.args.joins.now c.args.place r.0)

pub bounds-before-k : goal.bounds-before-k
bounds-before-k c = let r = c.loop-at.invariant.rest in omega (arith, c.loop-at-test.true, r.1.0, r.1.1.0, last-most c.args.back c.args.joins.now c.args.place r.0, c.requires.room)

pub loop-at-smaller : goal.loop-at-smaller
loop-at-smaller c =
    let r = c.loop-at.invariant.rest in let k : ℕ = c.loop-at.at - 1 in let joins : List Join = c.args.joins.now in
    let low : k < length joins = omega (arith, c.loop-at-test.true, r.1.0, r.1.1.0, last-most c.args.back joins c.args.place r.0) in
    omega (arith, c.loop-at-test.true, c.requires.links k low, last-most c.args.back joins (near_of c.args.back (get_or joins k no_join)) k)

pub loop-at-preserved : goal.loop-at-preserved
loop-at-preserved c =
    let r = c.loop-at.invariant.rest in let k : ℕ = c.loop-at.at - 1 in let joins : List Join = c.args.joins.now in let back = c.args.back in
    let low : k < length joins = omega (arith, c.loop-at-test.true, r.1.0, r.1.1.0, last-most back joins c.args.place r.0) in
    let e : c.loop-at.at ≡ suc k = omega (arith, c.loop-at-test.true) in
    let is : last_from back joins r.0 c.args.place ≡ suc k = sym r.1.1.0 ∙ e in
    let here : near_of back (get_or joins k no_join) ≡ c.args.place = (last-one back joins c.args.place r.0 k is).1.0 in
    record {
      found = c.find.ensures.found;
      on = go-then c.args.marks.now c.loop-at.marks c.find.new.marks c.args.found.now.items c.loop-at.found.items c.find.new.found.items c.loop-at.invariant.on c.find.ensures.on;
      rest = (
        k,
        (
          omega (arith, low),
          (
            c.requires.links k low ∙ ap (last_from back joins k) here,
            rest-more back joins c.args.place c.loop-at.marks c.find.new.marks r.0 r.1.1.1 k is c.find.ensures.on.kept (ap (λ (n : ℕ). get_or c.find.new.marks n false) (sym c.far.ensures) ∙ c.find.ensures.place),
          ),
        ),
      );
      least = λ p closed start. c.find.ensures.least p (ap p c.far.ensures ∙ all-at (λ (j : Join). p (near_of back j) ≡ true → p (far_of back j) ≡ true) joins k no_join low closed (ap p here ∙ start c.args.place c.requires.place)) (c.loop-at.invariant.least p closed start);
    }

pub returns-clause-left : goal.returns-clause-left
returns-clause-left c =
    let r = c.loop-at.invariant.rest in
    let e : c.loop-at.at ≡ 0 = omega (arith, c.loop-at-test.false) in
    rest-all c.args.back c.args.joins.now c.args.place c.loop-at.marks c.loop-at.marks r.0 r.1.1.1 (sym r.1.1.0 ∙ e)
