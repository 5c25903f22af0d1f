use Rattle.std.proofs.Common.{◌∙◌, ap, is_ok}
use Rattle.sof_desk.specs.Shelf.{Shelf}
use Rattle.sof_desk.proofs.ActsOfShelf.{acted}
use Rattle.sof_desk.proofs.CallSteps.{says}
use Rattle.sof_desk.proofs.mem.MemDeskDesk.say.Goals as goal

pub returns : goal.returns
returns c =
    let inside = c.self.inside in
    let mid : Shelf = record { files = inside.files.items; opens = inside.opens.items; most = inside.most; said = inside.said; plans = inside.plans.items; calls = inside.calls; faults = inside.faults } in
    let call = c.count_call-planned in
    let said = c.take-done.new.self in
    let new : Shelf = record mid { said = said; faults = c.answer.new.self } in
    let counted = ap (λ n. record mid { said = said; faults = n }) c.answer.ensures.after in
    acted _ _ _ _ (says c.args.self.now mid new call.result c.args.piece.now (is_ok c.answer.result) c.take-done.result said (c.self.view_is ∙ call.ensures.after) call.ensures.planned c.take-done.ensures.whole c.take-done.ensures.after counted c.answer.ensures.answer)
