use Rattle.std.proofs.Common.{◌≡◌, ◌+◌, ◌-◌, ◌<◌, ◌≤◌, ℕ, [], ◌++◌, List, length, take, Some, Ok, ap, ◌∙◌, arith}
use Rattle.std.proofs.lemmas.List.{length-take-le}
use Rattle.std.proofs.lemmas.Slice.{take-put_mid_below}
use borrow.Rule.Slice.PartMut.{put_mid}
use Rattle.sof_desk.specs.declared.calls.DeskFailed.{DeskFailed}
use Rattle.run_serve.specs.Reads.{requests_slot}
use Rattle.ipc3_trace.proofs.WrittenParts.{take-written}
use Rattle.run_serve.proofs.ReadLaws.{same-then, same-read, fill-more, fill-whole, fill-ended}
use Rattle.run_serve.proofs.reading.fill.Goals as goal

pub returns-then-count-eq0-clause-filled : goal.returns-then-count-eq0-clause-filled
returns-then-count-eq0-clause-filled g c =
    let there = c.loop-there.there in
    let to = c.args.to in
    let before = c.loop-there.bytes in
    let out = c.read.new.out in
    let after : List ℕ = put_mid there (to - there) before out in
    let within : there ≤ length before = omega arith in
    let less : there < to = c.loop-there-test.true in
    let none : take c.in_ok-count.count out ≡ [] = ap (λ (n : ℕ). take n out) c.if-count-eq0.true in
    let same : take there after ≡ take there before = take-put_mid_below there (to - there) before out there (omega arith) within in
    c.loop-there.invariant.left (Ok there) after c.read.new.self
    (fill-ended g.D.Desk.means DeskFailed there to _ (take c.in_ok-count.count out) before after c.loop-there.desk c.read.new.self less none same c.in_ok-count.ensures.1 (omega arith))

pub loop-there-preserved : goal.loop-there-preserved
loop-there-preserved g c =
    let means = g.D.Desk.means in
    let there = c.loop-there.there in
    let to = c.args.to in
    let count = c.in_ok-count.count in
    let before = c.loop-there.bytes in
    let out = c.read.new.out in
    let piece = take count out in
    let mid : List ℕ = put_mid there (to - there) before out in
    let within : there ≤ length before = omega arith in
    let less : there < to = c.loop-there-test.true in
    let few : count ≤ length out = c.in_ok-count.ensures.0 in
    let long : length piece ≡ count = length-take-le count out few in
    let span : length out ≡ to - there = omega arith in
    let took : take (there + count) mid ≡ take there before ++ piece = take-written there (to - there) count before out within few in
    record {
      within = omega (arith, few, span, less);
      opened = c.in_ok-count.ensures.1.opened requests_slot ∙ c.loop-there.invariant.opened;
      same = same-then means c.args.desk.now c.loop-there.desk c.read.new.self c.loop-there.invariant.same (same-read means requests_slot _ (Some piece) c.loop-there.desk c.read.new.self c.in_ok-count.ensures.1);
      left = λ result after e filled.
          c.loop-there.invariant.left result after e
          (fill-more means there to (there + count) _ piece before mid after result c.loop-there.desk c.read.new.self e less (omega (arith, long, c.if-count-eq0.false)) (omega (arith, long, few, span)) (ap (λ (n : ℕ). there + n) (omega (arith, long))) took c.in_ok-count.ensures.1 (omega arith) filled);
    }

pub returns-clause-filled : goal.returns-clause-filled
returns-clause-filled g c =
    let there = c.loop-there.there in
    let whole : there ≡ c.args.to = omega (arith, c.loop-there-test.false, c.loop-there.invariant.within) in
    c.loop-there.invariant.left (Ok there) c.loop-there.bytes c.loop-there.desk (fill-whole g.D.Desk.means DeskFailed there c.args.to c.loop-there.bytes c.loop-there.desk whole)
