use Rattle.std.proofs.Common.{◌≡◌, ◌++◌, take}
use Rattle.tplg_model.specs.Arrays.{AreArrays, arrays_spelling}
use Rattle.tplg_tokens.proofs.writing.write_each.Given as goal

abbrev pub invariant-loop-array : goal.invariant-loop-array
invariant-loop-array l = (l.out.items ≡ l.fn.out.items ++ arrays_spelling (take l.array-index l.arrays)) × AreArrays (take l.array-index l.arrays)
