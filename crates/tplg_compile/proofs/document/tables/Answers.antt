use Rattle.std.proofs.Common.{◌≡◌, true, false, Some, refl, sym, arith}
use Rattle.std.proofs.lemmas.Grind.{common_steps}
use Rattle.toml.specs.Data.{as_array}
use Rattle.toml.specs.View.{view, array_view}
use Rattle.tplg_compile.specs.ProgramValues.{viewed}
use Rattle.tplg_compile.specs.DocumentLists.{are_tables, entries_of}
use Rattle.tplg_compile.proofs.SeenLaws.{list_of-items}
use Rattle.tplg_compile.proofs.document.tables.Goals as goal

pub returns-then-not-are_tables : goal.returns-then-not-are_tables
unfolding entries_of
returns-then-not-are_tables c =
    let a = c.in-Some.array.now in
    let is : as_array (view c.args.value.now) ≡ Some (array_view a) = sym c.in-Some.ensures in
    let no : are_tables (viewed a.items) ≡ false = grind (arith, common_steps) in
    rw (is, list_of-items a.items, no) refl

pub returns : goal.returns
unfolding entries_of
returns c =
    let a = c.in-Some.array.now in
    let is : as_array (view c.args.value.now) ≡ Some (array_view a) = sym c.in-Some.ensures in
    let yes : are_tables (viewed a.items) ≡ true = grind (arith, common_steps) in
    rw (is, list_of-items a.items, yes, c.as_slice-2.ensures.value) refl
