use Rattle.std.proofs.Common.{◌≡◌, refl, ap, ◌∙◌, ◌<◌, ℕ, List, length, ltb, get_or, ◌&&◌, arith}
use Rattle.std.proofs.lemmas.List.{length-set}
use Rattle.stream_law.specs.Ways.{live}
use Rattle.fw_places.proofs.Marking.{none-marked}
use Rattle.fw_components.specs.Tables.{view_by}
use Rattle.fw_walks.proofs.HostMarks.{live-at, none-yet, marked-more}
use Rattle.fw_walks.proofs.marks.live_marks.Goals as goal

pub loop-k-init : goal.loop-k-init
loop-k-init c = record {
  size = refl;
  within = omega arith;
  each = λ k. none-marked 257 k ∙ none-yet (λ k. live (view_by c.args.registry.now) (get_or c.ids-ids.result.now k 0)) k;
}

pub loop-k-preserved : goal.loop-k-preserved
loop-k-preserved c =
    let few : length c.ids-ids.result.now < 257 = omega (arith, ap length c.ids-ids.ensures.ids, c.ids-ids.ensures.few) in
    record {
      size = length-set c.loop-k.marks c.loop-k.k _ ∙ c.loop-k.invariant.size;
      within = omega (arith, c.loop-k-test.true);
      each = marked-more (λ k. live (view_by c.args.registry.now) (get_or c.ids-ids.result.now k 0)) c.loop-k.marks c.loop-k.k c.live.result c.loop-k.invariant.each (omega (arith, c.loop-k-test.true, c.loop-k.invariant.size, few)) c.live.ensures;
    }

pub returns : goal.returns
returns c =
    let ids : List ℕ = c.args.places.now.ids in
    let all : c.loop-k.k ≡ length ids = omega (arith, c.loop-k-test.false, c.loop-k.invariant.within, ap length c.ids-ids.ensures.ids) in
    live-at c.args.registry.now c.comps-comps.ensures.kept ids c.requires.ids c.loop-k.marks (λ k.
    c.loop-k.invariant.each k ∙ (λ i. ltb k (all i) && live (view_by c.args.registry.now) (get_or (c.ids-ids.ensures.ids i) k 0)))
