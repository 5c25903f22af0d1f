use Rattle.std.proofs.Common.{◌≡◌, sym, ap, subst, ◌∙◌, ◌<◌, length, get_or, Bool, true, false, List, arith}
use Rattle.stream_law.specs.declared.graph.Comp.{Comp}
use Rattle.stream_law.proofs.Members.{IsIn, in-all}
use Rattle.host_dynamic.specs.Spreading.{AllAllowed, IsSplitMarked, split_marked}
use Rattle.host_dynamic.proofs.Spreading.{at-in, all-turn, split-size, split-keeps, split-there, split-allows}
use Rattle.host_dynamic.proofs.needing.mark_splits.Goals as goal

pub mark_split-requires-clause-size : goal.mark_split-requires-clause-size
mark_split-requires-clause-size c = c.loop-comp.invariant.size

pub mark_split-requires-clause-id : goal.mark_split-requires-clause-id
mark_split-requires-clause-id c =
    let g = c.args.graph.now in let k = c.loop-comp.comp-index in let d = c.comp-item.result in
    let low : k < length g.comps = omega (arith, c.loop-comp-test.true, ap length c.items-comp-items.ensures) in
    let item : d ≡ get_or g.comps k d = c.comp-item.is ∙ ap (λ (xs : List Comp). get_or xs k d) c.items-comp-items.ensures in
    in-all (λ (x : Comp). x.id < 288) g.comps d c.requires.comps (subst (λ (x : Comp). IsIn x g.comps) (sym item) (at-in g.comps k d low))

pub loop-comp-preserved : goal.loop-comp-preserved
loop-comp-preserved c =
    let g = c.args.graph.now in let has = c.args.needed.now in let k = c.loop-comp.comp-index in let d = c.comp-item.result in let marks = c.loop-comp.marks in let then : List Bool = c.mark_split.new.marks in
    let low : k < length g.comps = omega (arith, c.loop-comp-test.true, ap length c.items-comp-items.ensures) in
    let item : d ≡ get_or g.comps k d = c.comp-item.is ∙ ap (λ (xs : List Comp). get_or xs k d) c.items-comp-items.ensures in
    let there : IsIn d g.comps = subst (λ (x : Comp). IsIn x g.comps) (sym item) (at-in g.comps k d low) in
    let id : d.id < 288 = in-all (λ (x : Comp). x.id < 288) g.comps d c.requires.comps there in
    let now : then ≡ split_marked has d marks = c.mark_split.ensures in
    record {
      size = ap length now ∙ split-size has d marks ∙ c.loop-comp.invariant.size;
      kept = λ x is. ap (λ (ms : List Bool). get_or ms x false) now ∙ split-keeps has d marks x (c.loop-comp.invariant.kept x is);
      marked = all-turn (IsSplitMarked has marks) (IsSplitMarked has then) g.comps g.comps k d (λ i. g.comps) low c.loop-comp.invariant.marked
          (λ x so split on. ap (λ (ms : List Bool). get_or ms x.id false) now ∙ split-keeps has d marks x.id (so split on))
          (subst (IsSplitMarked has then) item (λ split on. ap (λ (ms : List Bool). get_or ms d.id false) now ∙ split-there has d marks (omega (arith, id, c.loop-comp.invariant.size)) split on));
      sound = λ back p closed held all. subst (λ (ms : List Bool). AllAllowed g back p ms) (sym now) (split-allows g back p has d marks there closed held (c.loop-comp.invariant.sound back p closed held all));
    }
