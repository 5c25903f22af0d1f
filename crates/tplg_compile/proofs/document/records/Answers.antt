use Rattle.std.proofs.Common.{◌≡◌, Some, None, get_or, sym, ap, ◌∙◌, arith}
use Rattle.toml.specs.View.{view}
use Rattle.tplg_compile.specs.ValueForm.{in_table}
use Rattle.tplg_compile.specs.ProgramValues.{viewed}
use Rattle.tplg_compile.specs.InOrder.{entries_read}
use Rattle.tplg_compile.proofs.SeenLaws.{seen-drop, seen-past}
use Rattle.tplg_compile.proofs.LoopLaws.{after, after-nothing, told-more, told-lacks, told-end, told_fault}
use Rattle.tplg_compile.proofs.document.records.Goals as goal

pub loop-place-init : goal.loop-place-init
loop-place-init g c =
    rw c.new-records.ensures.items (after-nothing (entries_read g.L.EntryList.list (in_table g.L.EntryList.read) 0 (viewed c.args.entries.now)))

pub returns-in-Err : goal.returns-in-Err
returns-in-Err g c =
    let vs = c.args.entries.now in
    let i = c.loop-place.place in
    let v = c.index-entries-place.result in
    let list = g.L.EntryList.list in
    let read = in_table g.L.EntryList.read in
    let done = c.loop-place.records.items in
    rw (c.told.ensures, c.list.ensures) (told_fault c.in-Err.fault list i (read (view v)) (entries_read list read 0 (viewed vs)) (λ none.
    let here : read (view (get_or vs i v)) ≡ None = rw (← c.index-entries-place.is) none in
    sym c.loop-place.invariant ∙ ap (λ ds. after done (entries_read list read i ds)) (seen-drop vs i v c.loop-place-test.true) ∙ told-lacks list read done i _ _ here) c.in-Err.ensures)

pub loop-place-preserved : goal.loop-place-preserved
loop-place-preserved g c =
    let vs = c.args.entries.now in
    let i = c.loop-place.place in
    let v = c.index-entries-place.result in
    let list = g.L.EntryList.list in
    let read = in_table g.L.EntryList.read in
    let done = c.loop-place.records.items in
    let here : read (view (get_or vs i v)) ≡ Some c.in-Ok.record = rw (← c.index-entries-place.is) c.in-Ok.ensures in
    rw c.in_ok-push-in-Ok.ensures.items (sym (ap (λ ds. after done (entries_read list read i ds)) (seen-drop vs i v c.loop-place-test.true) ∙ told-more list read done i _ _ _ here) ∙ c.loop-place.invariant)

pub returns : goal.returns
returns g c =
    let vs = c.args.entries.now in
    let list = g.L.EntryList.list in
    let read = in_table g.L.EntryList.read in
    let done = c.loop-place.records.items in
    sym c.loop-place.invariant ∙ ap (λ ds. after done (entries_read list read c.loop-place.place ds)) (seen-past vs c.loop-place.place (omega arith)) ∙ told-end list read done c.loop-place.place
