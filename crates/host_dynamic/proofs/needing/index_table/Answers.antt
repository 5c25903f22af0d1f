use Rattle.std.proofs.Common.{◌≡◌, refl, sym, ap, subst, ◌∙◌, ℕ, ◌<◌, ◌≤◌, zero, suc, length, get_or, replicate, List, None, ◌==◌, arith}
use Rattle.stream_law.specs.Ways.{comp_of}
use Rattle.std.specs.Prelude.{Option, find}
use Rattle.std.proofs.lemmas.List.{length-replicate, take_all, get_or_default}
use Rattle.stream_law.specs.declared.graph.Comp.{Comp}
use Rattle.stream_law.specs.declared.graph.Edge.{Edge}
use Rattle.stream_law.proofs.Members.{IsIn, in-all}
use Rattle.host_dynamic.proofs.Spreading.{at-in, put-size, comp-turn, edge-turn}
use Rattle.host_dynamic.proofs.needing.index_table.Goals as goal
use Rattle.host_widgets.specs.Indices.{named_index}

abbrev none : Option ℕ
none = None

none-there : (n x : ℕ) → get_or (replicate n none) x None ≡ None
none-there zero x = refl
none-there (suc n) zero = refl
none-there (suc n) (suc x) = none-there n x

pub loop-comp-init : goal.loop-comp-init
loop-comp-init c = record { size = length-replicate 288 none; so_far = λ x. none-there 288 x }

pub put_index-requires-clause-id : goal.put_index-requires-clause-id
put_index-requires-clause-id c =
    let g = c.args.graph.now in let k = c.loop-comp.comp-index in let d = c.comp-item.result in
    let low : k < length g.comps = omega (arith, c.loop-comp-test.true, ap length c.items-comp-items.ensures) in
    let item : d ≡ get_or g.comps k d = c.comp-item.is ∙ ap (λ (xs : List Comp). get_or xs k d) c.items-comp-items.ensures in
    in-all (λ (x : Comp). x.id < 288) g.comps d c.requires.comps (subst (λ (x : Comp). IsIn x g.comps) (sym item) (at-in g.comps k d low))

pub loop-comp-preserved : goal.loop-comp-preserved
loop-comp-preserved c =
    let g = c.args.graph.now in let k = c.loop-comp.comp-index in let d = c.comp-item.result in let t : List (Option ℕ) = c.loop-comp.table in
    let low : k < length g.comps = omega (arith, c.loop-comp-test.true, ap length c.items-comp-items.ensures) in
    let item : d ≡ get_or g.comps k d = c.comp-item.is ∙ ap (λ (xs : List Comp). get_or xs k d) c.items-comp-items.ensures in
    let id : d.id < 288 = in-all (λ (x : Comp). x.id < 288) g.comps d c.requires.comps (subst (λ (x : Comp). IsIn x g.comps) (sym item) (at-in g.comps k d low)) in
    record {
      size = ap length c.put_index.ensures ∙ put-size t d.id d.pipe ∙ c.loop-comp.invariant.size;
      so_far = λ x. ap (λ (ts : List (Option ℕ)). get_or ts x None) c.put_index.ensures ∙ comp-turn g t d k x item low (omega (arith, id, c.loop-comp.invariant.size)) (c.loop-comp.invariant.so_far x);
    }

pub loop-edge-init : goal.loop-edge-init
loop-edge-init c =
    let g = c.args.graph.now in let k = c.loop-comp.comp-index in
    let past : length g.comps ≤ k = omega (arith, c.loop-comp-test.false, ap length c.items-comp-items.ensures) in
    record {
      size = c.loop-comp.invariant.size;
      so_far = λ x. c.loop-comp.invariant.so_far x ∙ ap (λ (cs : List Comp). named_index (find (λ (k : Comp). k.id == x) cs) None) (take_all k g.comps past) ∙ sym (none-edge (comp_of g x));
    }
  where
    none-edge : (o : Option Comp) → named_index o None ≡ named_index o None
    none-edge o = refl

pub loop-edge-preserved : goal.loop-edge-preserved
loop-edge-preserved c =
    let g = c.args.graph.now in let k = c.loop-edge.edge-index in let e0 : Edge = record { buffer = 0; pipe = 0; size = 0; source = None; sink = None } in let d : Edge = get_or c.items-edge-items.result.now k e0 in let t : List (Option ℕ) = c.loop-edge.table in
    let low : k < length g.edges = omega (arith, c.loop-edge-test.true, ap length c.items-edge-items.ensures) in
    let item : d ≡ get_or g.edges k d = ap (λ (xs : List Edge). get_or xs k e0) c.items-edge-items.ensures ∙ get_or_default g.edges k e0 d low in
    let id : d.buffer < 288 = in-all (λ (x : Edge). x.buffer < 288) g.edges d c.requires.edges (subst (λ (x : Edge). IsIn x g.edges) (sym item) (at-in g.edges k d low)) in
    record {
      size = ap length c.put_index-in-loop-edge.ensures ∙ put-size t d.buffer d.pipe ∙ c.loop-edge.invariant.size;
      so_far = λ x. ap (λ (ts : List (Option ℕ)). get_or ts x None) c.put_index-in-loop-edge.ensures ∙ edge-turn g t d k x item low (omega (arith, id, c.loop-edge.invariant.size)) (c.loop-edge.invariant.so_far x);
    }

pub returns : goal.returns
returns c = λ x.
    let g = c.args.graph.now in let k = c.loop-edge.edge-index in
    let past : length g.edges ≤ k = omega (arith, c.loop-edge-test.false, ap length c.items-edge-items.ensures) in
    c.loop-edge.invariant.so_far x ∙ ap (λ (es : List Edge). named_index (comp_of g x) (find (λ (e : Edge). e.buffer == x) es)) (take_all k g.edges past)
