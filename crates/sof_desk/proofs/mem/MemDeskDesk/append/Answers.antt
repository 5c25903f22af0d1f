use Rattle.std.proofs.Common.{◌≡◌, ◌∙◌, length, ap, arith, is_ok}
use Rattle.std.proofs.lemmas.List.{with_items_is}
use Rattle.std.specs.Vec.{with_items}
use Rattle.sof_desk.specs.Shelf.{Shelf}
use Rattle.sof_desk.proofs.ActsOfShelf.{acted}
use Rattle.sof_desk.proofs.CallSteps.{appends}
use Rattle.sof_desk.proofs.mem.MemDeskDesk.append.Goals as goal

pub returns : goal.returns
returns c =
    let inside = c.self.inside in
    let mid : Shelf = record { files = inside.files.items; opens = inside.opens.items; most = inside.most; said = inside.said; plans = inside.plans.items; calls = inside.calls; faults = inside.faults } in
    let call = c.count_call-planned in
    let done = c.append_in-done in
    let files = done.new.files in
    let whole = rw c.deref_mut.ensures.value at done.ensures.whole in
    let after = rw c.deref_mut.ensures.value at done.ensures.after in
    let kept : length files ≡ inside.files.len = omega (arith, done.auto.files, c.deref_mut.ensures.len) in
    let items = with_items_is inside.files files kept in
    let new : Shelf = record mid { files = (with_items inside.files files).items; faults = c.answer.new.self } in
    let counted = ap (λ fs. record mid { files = fs; faults = c.answer.new.self }) items ∙ ap (λ n. record mid { files = files; faults = n }) c.answer.ensures.after in
    acted _ _ _ _ (appends c.args.self.now mid new call.result c.args.slot c.args.piece.now (is_ok c.answer.result) done.result files (c.self.view_is ∙ call.ensures.after) call.ensures.planned whole after counted c.answer.ensures.answer)
