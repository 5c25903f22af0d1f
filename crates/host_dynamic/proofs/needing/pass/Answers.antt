use Rattle.std.proofs.Common.{sym, ap, subst, ◌∙◌, ◌<◌, length, get_or, Bool, true, false, List, arith}
use Rattle.host_dynamic.specs.Noting.{IsLowJoin}
use Rattle.host_dynamic.specs.Spreading.{AllAllowed}
use Rattle.host_dynamic.proofs.Spreading.{in-get, all-get, passed-size, passed-keeps, passed-allows}
use Rattle.host_dynamic.proofs.needing.pass.Goals as goal

pub loop-join-init : goal.loop-join-init
loop-join-init c = record { size = c.requires.size; kept = λ x is. is; sound = λ p all. all }

pub pass_join-requires-clause-size : goal.pass_join-requires-clause-size
pass_join-requires-clause-size c = c.loop-join.invariant.size

pub pass_join-requires-clause-join : goal.pass_join-requires-clause-join
pass_join-requires-clause-join c =
    let g = c.args.graph.now in let k = c.loop-join.join-index in
    let low : k < length g.joins = omega (arith, c.loop-join-test.true, ap length c.items-join-items.ensures) in
    all-get IsLowJoin c.items-join-items.result.now g.joins k _ c.items-join-items.ensures low c.requires.joins

pub loop-join-preserved : goal.loop-join-preserved
loop-join-preserved c =
    let g = c.args.graph.now in let back = c.args.back in let k = c.loop-join.join-index in let marks = c.loop-join.marks in
    let low : k < length g.joins = omega (arith, c.loop-join-test.true, ap length c.items-join-items.ensures) in
    record {
      size = ap length c.pass_join.ensures ∙ passed-size back _ marks ∙ c.loop-join.invariant.size;
      kept = λ x is. ap (λ (ms : List Bool). get_or ms x false) c.pass_join.ensures ∙ passed-keeps back _ marks x (c.loop-join.invariant.kept x is);
      sound = λ p all. subst (λ (ms : List Bool). AllAllowed g back p ms) (sym c.pass_join.ensures) (passed-allows g back p _ marks (in-get c.items-join-items.result.now g.joins k _ c.items-join-items.ensures low) (c.loop-join.invariant.sound p all));
    }

pub returns-clause-size : goal.returns-clause-size
returns-clause-size c = c.loop-join.invariant.size

pub returns-clause-kept : goal.returns-clause-kept
returns-clause-kept c = c.loop-join.invariant.kept

pub returns-clause-sound : goal.returns-clause-sound
returns-clause-sound c = c.loop-join.invariant.sound
