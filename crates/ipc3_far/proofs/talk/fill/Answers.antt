use Rattle.std.proofs.Common.{◌≡◌, ◌+◌, ◌-◌, ◌<◌, ◌≤◌, ℕ, List, length, take, ◌++◌, arith}
use borrow.Rule.Slice.PartMut.{put_mid}
use Rattle.ipc3_trace.proofs.WrittenParts.{take-written}
use Rattle.ipc3_far.proofs.FarReads.{reads_more}
use Rattle.ipc3_far.proofs.talk.fill.Goals as goal

pub loop-there-preserved : goal.loop-there-preserved
loop-there-preserved g c =
    let there = c.loop-there.there in
    let to = c.args.to in
    let count = c.in_ok-count.count in
    let before = c.loop-there.bytes in
    let out = c.read.new.buf in
    let mid : List ℕ = put_mid there (to - there) before out in
    let within : there ≤ length before = omega arith in
    let less : there < to = c.loop-there-test.true in
    let few : count ≤ length out = c.in_ok-count.ensures.bound.0 in
    let span : length out ≡ to - there = omega arith in
    let took : take (there + count) mid ≡ take there before ++ take count out = take-written there (to - there) count before out within few in
    record {
      within = omega (arith, few, span, less);
      read = reads_more c.args.start c.args.bytes.now (g.R.Read.remaining c.args.from.now) there (there + count) (take count out) before mid (g.R.Read.remaining c.loop-there.from) (g.R.Read.remaining c.read.new.self) c.loop-there.invariant.read took c.in_ok-count.ensures.bytes.0;
    }
