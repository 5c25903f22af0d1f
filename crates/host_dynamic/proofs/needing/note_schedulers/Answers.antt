use Rattle.std.proofs.Common.{sym, ap, subst, ℕ, ◌<◌, ◌≤◌, length, get_or, true, false, List, arith}
use Rattle.std.specs.Prelude.{⊤}
use Rattle.std.specs.List.{AllByRecursion}
use Rattle.std.proofs.lemmas.List.{take_all}
use Rattle.stream_law.specs.declared.graph.Pipe.{Pipe}
use Rattle.stream_law.specs.Order.{is_among}
use Rattle.host_widgets.specs.Need.{HasAt}
use Rattle.host_dynamic.specs.Spreading.{NotesMore, BringsScheduler, HasNoted}
use Rattle.host_dynamic.proofs.Noted.{has-more}
use Rattle.host_dynamic.proofs.Spreading.{in-get, all-turn, notes-start, sched-keeps, sched-there, sched-more, kept-by}
use Rattle.host_dynamic.proofs.needing.note_schedulers.Goals as goal
use Rattle.host_widgets.specs.Indices.{index_at}

pub loop-pipe-init : goal.loop-pipe-init
loop-pipe-init c = record { more = notes-start c.args.plan.now.graph (λ p. ⊤) c.args.needed.now.items c.requires.once; brought = tt }

pub note_scheduler-requires-clause-once : goal.note_scheduler-requires-clause-once
note_scheduler-requires-clause-once c = c.loop-pipe.invariant.more.once

pub loop-pipe-preserved : goal.loop-pipe-preserved
loop-pipe-preserved c =
    let plan = c.args.plan.now in let g = plan.graph in let k = c.loop-pipe.pipe-index in let before : List ℕ = c.args.needed.now.items in let now : List ℕ = c.loop-pipe.needed.items in let then : List ℕ = c.note_scheduler.new.needed.items in
    let xs : List Pipe = c.items-pipe-items.result.now in
    let d : Pipe = record { id = 0; index = 0; sched = 0; period = 0; complete = false } in
    let low : k < length g.pipes = omega (arith, c.loop-pipe-test.true, ap length c.items-pipe-items.ensures) in
    let keeps : HasNoted (is_among then) now = subst (λ (ys : List ℕ). HasNoted (is_among ys) now) (sym c.note_scheduler.ensures) (sched-keeps plan c.requires.plan before now (get_or xs k d)) in
    record {
      more = subst (λ (ys : List ℕ). NotesMore g (λ p. ⊤) before ys) (sym c.note_scheduler.ensures) (sched-more plan c.requires.plan before now (get_or xs k d) (in-get xs g.pipes k d c.items-pipe-items.ensures low) c.loop-pipe.invariant.more);
      brought = all-turn (BringsScheduler g before now) (BringsScheduler g before then) xs g.pipes k d c.items-pipe-items.ensures low c.loop-pipe.invariant.brought
          (λ x so on. has-more (is_among now) (is_among then) (index_at g x.sched) keeps (so on))
          (λ on. subst (λ (ys : List ℕ). HasAt (is_among ys) (index_at g (get_or xs k d).sched)) (sym c.note_scheduler.ensures) (sched-there plan c.requires.plan before now (get_or xs k d) (kept-by before now c.loop-pipe.invariant.more.grown.0 c.loop-pipe.invariant.more.grown.1 (get_or xs k d).index on)));
    }

pub returns-clause-more : goal.returns-clause-more
returns-clause-more c = c.loop-pipe.invariant.more

pub returns-clause-brought : goal.returns-clause-brought
returns-clause-brought c =
    let g = c.args.plan.now.graph in let k = c.loop-pipe.pipe-index in
    let past : length g.pipes ≤ k = omega (arith, c.loop-pipe-test.false, ap length c.items-pipe-items.ensures) in
    subst (λ (ys : List Pipe). AllByRecursion (BringsScheduler g c.args.needed.now.items c.loop-pipe.needed.items) ys) (take_all k g.pipes past) c.loop-pipe.invariant.brought
