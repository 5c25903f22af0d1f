-- Lists whose entries a word numbers.
use Rattle.std.specs.Prelude.{◌≡◌, ◌<◌, ◌^◌, length, Some}
use Rattle.toml.specs.Data.{Members}
use Rattle.tplg_compile.specs.DocumentLists.{Lists, lists_of}

-- a word numbers the entries of each list
pub record AreNumbered (lists : Lists) : Type 0 where
  pub widgets : length lists.widgets < 2 ^ 32
  pub routes : length lists.routes < 2 ^ 32
  pub pcms : length lists.pcms < 2 ^ 32

-- those of a document's lists, where it has them
abbrev pub HasNumberedEntries : Members → Type 0
HasNumberedEntries table = (lists : Lists) → lists_of table ≡ Some lists → AreNumbered lists
