use Rattle.std.proofs.Common.{sym, ap, subst, ℕ, ◌<◌, ◌≤◌, length, get_or, true, List, None, arith}
use Rattle.std.specs.Prelude.{⊤}
use Rattle.std.specs.List.{AllByRecursion}
use Rattle.std.proofs.lemmas.List.{take_all}
use Rattle.stream_law.specs.declared.graph.Edge.{Edge}
use Rattle.stream_law.specs.Order.{is_among}
use Rattle.host_widgets.specs.Need.{end_index, HasAt}
use Rattle.host_dynamic.specs.Spreading.{NotesMore, BringsEnds, HasNoted}
use Rattle.host_dynamic.proofs.Noted.{has-more}
use Rattle.host_dynamic.proofs.Spreading.{in-get, all-turn, notes-start, end-keeps, end-there, source-more, sink-more, kept-by}
use Rattle.host_dynamic.proofs.needing.note_ends.Goals as goal

pub loop-edge-init : goal.loop-edge-init
loop-edge-init c = record { more = notes-start c.args.plan.now.graph (λ p. ⊤) c.args.needed.now.items c.requires.once; brought = tt }

pub note_source-requires-clause-once : goal.note_source-requires-clause-once
note_source-requires-clause-once c = c.loop-edge.invariant.more.once

pub note_sink-requires-clause-once : goal.note_sink-requires-clause-once
note_sink-requires-clause-once c =
    let plan = c.args.plan.now in let g = plan.graph in let k = c.loop-edge.edge-index in let before : List ℕ = c.args.needed.now.items in let now : List ℕ = c.loop-edge.needed.items in
    let d : Edge = record { buffer = 0; pipe = 0; size = 0; source = None; sink = None } in
    let low : k < length g.edges = omega (arith, c.loop-edge-test.true, ap length c.items-edge-items.ensures) in
    (subst (λ (ys : List ℕ). NotesMore g (λ p. ⊤) before ys) (sym c.note_source.ensures) (source-more plan c.requires.plan before now (get_or c.items-edge-items.result.now k d) (in-get c.items-edge-items.result.now g.edges k d c.items-edge-items.ensures low) c.loop-edge.invariant.more)).once

pub loop-edge-preserved : goal.loop-edge-preserved
loop-edge-preserved c =
    let plan = c.args.plan.now in let g = plan.graph in let k = c.loop-edge.edge-index in let before : List ℕ = c.args.needed.now.items in let now : List ℕ = c.loop-edge.needed.items in
    let mid : List ℕ = c.note_source.new.needed.items in let then : List ℕ = c.note_sink.new.needed.items in let xs : List Edge = c.items-edge-items.result.now in
    let d : Edge = record { buffer = 0; pipe = 0; size = 0; source = None; sink = None } in
    let low : k < length g.edges = omega (arith, c.loop-edge-test.true, ap length c.items-edge-items.ensures) in
    let first : HasNoted (is_among mid) now = subst (λ (ys : List ℕ). HasNoted (is_among ys) now) (sym c.note_source.ensures) (end-keeps plan c.requires.plan before now (get_or xs k d).pipe (get_or xs k d).source) in
    let second : HasNoted (is_among then) mid = subst (λ (ys : List ℕ). HasNoted (is_among ys) mid) (sym c.note_sink.ensures) (end-keeps plan c.requires.plan before mid (get_or xs k d).pipe (get_or xs k d).sink) in
    record {
      more = subst (λ (ys : List ℕ). NotesMore g (λ p. ⊤) before ys) (sym c.note_sink.ensures) (sink-more plan c.requires.plan before mid (get_or xs k d) (in-get xs g.edges k d c.items-edge-items.ensures low)
          (subst (λ (ys : List ℕ). NotesMore g (λ p. ⊤) before ys) (sym c.note_source.ensures) (source-more plan c.requires.plan before now (get_or c.items-edge-items.result.now k d) (in-get xs g.edges k d c.items-edge-items.ensures low) c.loop-edge.invariant.more)));
      brought = all-turn (BringsEnds g before now) (BringsEnds g before then) xs g.edges k d c.items-edge-items.ensures low c.loop-edge.invariant.brought
          (λ x so on. (has-more (is_among now) (is_among then) (end_index g x.source) (λ i h. second i (first i h)) (so on).0, has-more (is_among now) (is_among then) (end_index g x.sink) (λ i h. second i (first i h)) (so on).1))
          (λ on. let held = kept-by before now c.loop-edge.invariant.more.grown.0 c.loop-edge.invariant.more.grown.1 (get_or xs k d).pipe on in (
            has-more (is_among mid) (is_among then) (end_index g (get_or xs k d).source) second (subst (λ (ys : List ℕ). HasAt (is_among ys) (end_index g (get_or xs k d).source)) (sym c.note_source.ensures) (end-there plan c.requires.plan before now (get_or xs k d).pipe (get_or xs k d).source held)),
            subst (λ (ys : List ℕ). HasAt (is_among ys) (end_index g (get_or xs k d).sink)) (sym c.note_sink.ensures) (end-there plan c.requires.plan before mid (get_or xs k d).pipe (get_or xs k d).sink (first (get_or xs k d).pipe held)),
          ));
    }

pub returns-clause-more : goal.returns-clause-more
returns-clause-more c = c.loop-edge.invariant.more

pub returns-clause-brought : goal.returns-clause-brought
returns-clause-brought c =
    let g = c.args.plan.now.graph in let k = c.loop-edge.edge-index in
    let past : length g.edges ≤ k = omega (arith, c.loop-edge-test.false, ap length c.items-edge-items.ensures) in
    subst (λ (ys : List Edge). AllByRecursion (BringsEnds g c.args.needed.now.items c.loop-edge.needed.items) ys) (take_all k g.edges past) c.loop-edge.invariant.brought
