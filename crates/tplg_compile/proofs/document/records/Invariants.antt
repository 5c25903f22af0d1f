use Rattle.std.proofs.Common.{◌≡◌, drop}
use Rattle.tplg_compile.specs.ValueForm.{in_table}
use Rattle.tplg_compile.specs.ProgramValues.{viewed}
use Rattle.tplg_compile.specs.InOrder.{entries_read}
use Rattle.tplg_compile.proofs.LoopLaws.{after}
use Rattle.tplg_compile.proofs.document.records.Given as goal

abbrev pub invariant-loop-place : goal.invariant-loop-place
invariant-loop-place g l =
    after l.records.items (entries_read g.L.EntryList.list (in_table g.L.EntryList.read) l.place (viewed (drop l.place l.entries))) ≡ entries_read g.L.EntryList.list (in_table g.L.EntryList.read) 0 (viewed l.entries)
