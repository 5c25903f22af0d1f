use Rattle.std.proofs.Common.{sym, ◌∙◌}
use Rattle.run_desk.proofs.BindingLaws.{slot_here, slot_later}
use Rattle.run_desk.proofs.bindings.slot_of.Goals as goal

pub returns-then-is_sought : goal.returns-then-is_sought
returns-then-is_sought c =
    let within = rw c.items-comp-items.ensures at c.loop-comp-test.true in
    let is = rw c.items-comp-items.ensures at c.comp-item.is in
    sym (slot_here c.args.plan.now c.args.input c.args.name.now c.args.plan.now.graph.comps c.loop-comp.comp-index c.comp-item.result within is (sym c.is_sought.ensures ∙ c.if-is_sought.true))
    ∙ c.loop-comp.invariant

pub loop-comp-preserved : goal.loop-comp-preserved
loop-comp-preserved c =
    let within = rw c.items-comp-items.ensures at c.loop-comp-test.true in
    let is = rw c.items-comp-items.ensures at c.comp-item.is in
    slot_later c.args.plan.now c.args.input c.args.name.now c.args.plan.now.graph.comps c.loop-comp.comp-index c.comp-item.result within is (sym c.is_sought.ensures ∙ c.if-is_sought.false)
    ∙ c.loop-comp.invariant
