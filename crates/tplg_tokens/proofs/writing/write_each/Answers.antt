use Rattle.std.proofs.Common.{take, sym, append-nil}
use Rattle.tplg_model.specs.Arrays.{Each, IsArray, array_spelling, arrays_spelling}
use Rattle.tplg_model.proofs.ElementLaws.{each_more}
use Rattle.tplg_tokens.proofs.ElementLoops.{Write-more, kept_along}
use Rattle.tplg_tokens.proofs.writing.write_each.Goals as goal

pub loop-array-init : goal.loop-array-init
unfolding Each
loop-array-init c = (sym (append-nil c.args.out.now.items), tt)

pub loop-array-preserved : goal.loop-array-preserved
loop-array-preserved c =
    let xs = c.args.arrays.now in
    let i = c.loop-array.array-index in
    let x = c.array-item.result in (
      rw (c.in_ok-write_array.ensures.ok, c.loop-array.invariant.0) (Write-more array_spelling c.args.out.now.items xs i x c.loop-array-test.true c.array-item.is),
      each_more IsArray xs i x c.loop-array-test.true c.array-item.is c.loop-array.invariant.1 c.in_ok-write_array.ensures.is,
    )

pub returns-in_err-write_array-clause-kept : goal.returns-in_err-write_array-clause-kept
returns-in_err-write_array-clause-kept c = kept_along c.args.out.now.items (arrays_spelling (take c.loop-array.array-index c.args.arrays.now)) c.loop-array.out.items c.write_array.new.out.items c.loop-array.invariant.0 c.write_array.ensures.kept
