use Rattle.std.proofs.Common.{◌+◌, length, ap, arith, rules}
use Rattle.std.proofs.lemmas.List.{length-drop}
use Rattle.sof_script.proofs.TokenLaws.{Within-more, quoted_keeps, quoted_whole, quoted_broken, quoted_open}
use Rattle.sof_script.specs.Splitting.{Quoted}
use Rattle.sof_script.proofs.scanning.quoted_token.Goals as goal

pub loop-end-preserved : goal.loop-end-preserved
loop-end-preserved c = Within-more Quoted c.args.bytes.now c.loop-end.end c.loop-end.invariant c.loop-end-test.true (quoted_keeps _ (search rules))

pub returns : goal.returns
returns c = quoted_open c.args.bytes.now c.loop-end.end c.loop-end.invariant c.loop-end-test.false

pub returns-then-ends_token : goal.returns-then-ends_token
returns-then-ends_token c =
    let bytes = c.args.bytes.now in
    let end = c.loop-end.end in
    let ends = rw (c.if-ends_token.true, c.split_at.ensures.back) at c.ends_token.ensures in (
      rw (c.split_at-then-ends_token.ensures.front, c.split_at.ensures.back) (quoted_whole bytes end c.loop-end.invariant c.loop-end-test.true c.if-bytes-end-eq34.true ends),
      omega (arith, ap length c.split_at.ensures.back, length-drop (end + 1) bytes, c.loop-end-test.true),
    )

pub returns-else-ends_token : goal.returns-else-ends_token
returns-else-ends_token c =
    let ends = rw (c.if-ends_token.false, c.split_at.ensures.back) at c.ends_token.ensures in
    quoted_broken c.args.bytes.now c.loop-end.end c.loop-end.invariant c.loop-end-test.true c.if-bytes-end-eq34.true ends
