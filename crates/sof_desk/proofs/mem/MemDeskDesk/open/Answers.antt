use Rattle.std.proofs.Common.{◌≡◌, ◌∙◌, sym, ap, is_ok, is_none, arith}
use Rattle.sof_desk.specs.declared.mem.MemDesk.TheInside.{Inside}
use Rattle.sof_desk.specs.Shelf.{Shelf}
use Rattle.sof_desk.proofs.ActsOfShelf.{acted}
use Rattle.sof_desk.proofs.CallSteps.{answered, opens, open_fails}
use Rattle.sof_desk.proofs.mem.MemDeskDesk.open.Goals as goal
use Rattle.sof_desk.proofs.mem.MemDeskDesk.open.Goals.{then-is_none, else-is_none}

-- what a desk in memory means, by its fields
abbrev view : Inside → Shelf
view i = record { files = i.files.items; opens = i.opens.items; most = i.most; said = i.said; plans = i.plans.items; calls = i.calls; faults = i.faults }

pub returns : goal.returns
returns c =
    let call = c.count_call-planned in
    let at : Shelf = c.if-is_none.self in
    let last : Shelf = view c.self.inside in
    let new : Shelf = record last { faults = c.answer.new.self } in
    let counted : new ≡ answered at c.if-is_none.done =
    ap (λ n. record last { faults = n }) c.answer.ensures.after ∙ ap (λ s. answered s c.if-is_none.done) c.self.view_is
    in
    let free : c.is_none.result ≡ is_none call.result = grind (arith, c.is_none.ensures) in
    acted _ _ _ _
    (elim c.if-is_none.branch [
      | then-is_none w ↦
          let done = w.open_input-done in
          opens c.args.self.now call.new.self at new call.result c.args.slot c.args.name.now (is_ok c.answer.result) c.if-is_none.done call.ensures.after call.ensures.planned (sym free ∙ w.if-is_none.true) (w.done-is ∙ done.ensures.done) (w.self-is ∙ rw (← w.done-is) at done.ensures.after) counted c.answer.ensures.answer
      | else-is_none w ↦
          open_fails c.args.self.now call.new.self at new call.result c.args.slot c.args.name.now (is_ok c.answer.result) c.if-is_none.done call.ensures.after call.ensures.planned (w.done-is ∙ free) (sym free ∙ w.if-is_none.false) w.self-is counted c.answer.ensures.answer
    ])
