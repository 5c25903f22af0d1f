use Rattle.std.proofs.Common.{◌≡◌, ◌∙◌, sym, ap, is_ok, is_none, length, arith}
use Rattle.std.proofs.lemmas.List.{with_items_is}
use Rattle.sof_desk.specs.declared.mem.MemDesk.TheInside.{Inside}
use Rattle.sof_desk.specs.Shelf.{Shelf}
use Rattle.sof_desk.proofs.ActsOfShelf.{acted}
use Rattle.sof_desk.proofs.CallSteps.{creates, create_fails}
use Rattle.sof_desk.proofs.mem.MemDeskDesk.create.Goals as goal
use Rattle.sof_desk.proofs.mem.MemDeskDesk.create.Goals.{then-is_none, else-is_none}

-- what a desk in memory means, by its fields
abbrev view : Inside → Shelf
view i = record { files = i.files.items; opens = i.opens.items; most = i.most; said = i.said; plans = i.plans.items; calls = i.calls; faults = i.faults }

pub returns : goal.returns
returns c =
    let mid : Shelf = view c.self.inside in
    let at : Shelf = view c.if-is_none.self-inside in
    let new : Shelf = record at { faults = c.answer.new.self } in
    let counted = ap (λ n. record at { faults = n }) c.answer.ensures.after in
    let call = c.count_call-planned in
    let free : c.is_none.result ≡ is_none call.result = grind (arith, c.is_none.ensures) in
    acted _ _ _ _
    (elim c.if-is_none.branch [
      | then-is_none w ↦
          let done = w.create_in-done in
          let can = rw w.deref_mut.ensures.value at done.ensures.done in
          let after = rw w.deref_mut.ensures.value at done.ensures.after in
          let kept : length done.new.files ≡ c.self.inside.files.len = omega (arith, done.auto.files, w.deref_mut.ensures.len) in
          let items = with_items_is c.self.inside.files done.new.files kept in
          let tied = ap view w.self-inside-is ∙ ap (λ files. record mid { files = files }) items in
          creates c.args.self.now mid at new call.result c.args.slot c.args.name.now (is_ok c.answer.result) c.if-is_none.done done.new.files (c.self.view_is ∙ call.ensures.after) call.ensures.planned (sym free ∙ w.if-is_none.true) (w.done-is ∙ can) (rw (← w.done-is) at after) tied counted c.answer.ensures.answer
      | else-is_none w ↦
          create_fails c.args.self.now mid at new call.result c.args.slot c.args.name.now (is_ok c.answer.result) c.if-is_none.done (c.self.view_is ∙ call.ensures.after) call.ensures.planned (w.done-is ∙ free) (sym free ∙ w.if-is_none.false) (ap view w.self-inside-is) counted c.answer.ensures.answer
    ])
