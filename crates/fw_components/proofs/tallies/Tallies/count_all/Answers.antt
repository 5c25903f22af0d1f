use Rattle.std.proofs.Common.{◌≡◌, sym, subst, ◌∙◌, ℕ, ◌+◌, ◌-◌, ◌<◌, List, ◌∷◌, drop, length, arith}
use Rattle.std.proofs.lemmas.List.{drop_more, drop_all}
use Rattle.stream_law.specs.Ways.{on_way}
use Rattle.fw_places.proofs.Marking.{all-at}
use Rattle.fw_units.specs.declared.component.Component.{Component}
use Rattle.fw_units.specs.Units.{streams_by}
use Rattle.fw_components.specs.Tally.{AreTold, IsSeenIn}
use Rattle.fw_components.proofs.Tallying.{bare-told}
use Rattle.fw_components.proofs.tallies.Tallies.count_all.Goals as goal

pub loop-i-init : goal.loop-i-init
loop-i-init c = record {
  within = omega arith;
  most = λ k. (omega (arith, c.requires.bare.running k), omega (arith, c.requires.bare.live k));
  told = λ g chart seen. subst (λ (cs : List Component). AreTold (on_way g) c.args.ways.now.ids (streams_by cs) c.args.self.now) (sym (drop_all (length c.args.comps.now) c.args.comps.now (omega arith))) (bare-told (on_way g) c.args.ways.now.ids c.args.self.now c.requires.bare);
}

pub loop-i-preserved : goal.loop-i-preserved
loop-i-preserved c =
    let comps : List Component = c.args.comps.now in let d : Component = c.index-comps-i.result in
    let k : ℕ = c.loop-i.i - 1 in
    let low : k < length comps = omega (arith, c.loop-i-test.true, c.loop-i.invariant.within) in
    let next : c.loop-i.i ≡ k + 1 = omega (arith, c.loop-i-test.true) in
    let rest : d ∷ drop c.loop-i.i comps ≡ drop k comps = (λ i. c.index-comps-i.is i ∷ drop (next i) comps) ∙ sym (drop_more comps k d low) in
    record {
      within = omega (arith, c.loop-i.invariant.within);
      most = λ n. (omega (arith, (c.count.ensures.most n).0, (c.loop-i.invariant.most n).0, next), omega (arith, (c.count.ensures.most n).1, (c.loop-i.invariant.most n).1, next));
      told = λ g chart seen.
          subst (λ (cs : List Component). AreTold (on_way g) c.args.ways.now.ids (streams_by cs) c.count.new.self) rest
          (c.count.ensures.told g (streams_by (drop c.loop-i.i comps)) chart (subst (IsSeenIn g) (sym c.index-comps-i.is) (all-at (IsSeenIn g) comps k d low seen)) (c.loop-i.invariant.told g chart seen));
    }
