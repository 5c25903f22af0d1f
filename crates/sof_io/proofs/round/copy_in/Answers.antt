use Rattle.std.proofs.Common.{◌≡◌, refl, ◌∙◌, ℕ, ◌+◌, ◌-◌, length, arith}
use borrow.Rule.Slice.PartMut.{put_mid}
use Rattle.sof_io.specs.Round.{round_bytes}
use Rattle.sof_io.proofs.RoundBytes.{round-put, round-put_twice, place-is}
use Rattle.sof_io.proofs.round.copy_in.Goals as goal

pub returns-then-piece-ahead : goal.returns-then-piece-ahead
returns-then-piece-ahead c =
    let start = c.args.start in let held = c.args.held in let end = c.after-end.result in
    let bytes = c.args.bytes.now in let piece = c.args.piece.now in
    let n : ℕ = length piece in
    let span : end + n - end ≡ n = omega arith in
    let at = place-is (length bytes) start held end c.requires.0 (omega (arith, c.requires.1)) c.after-end.ensures in
    (λ i. round_bytes start (held + n) (put_mid end (span i) bytes (c.copy_from_slice.ensures.after i)))
    ∙ round-put start held end n bytes piece c.requires.0 (omega (arith, at.0, c.if-piece-ahead.true)) c.requires.1 refl at.1

pub returns : goal.returns
returns c =
    let start = c.args.start in let held = c.args.held in let end = c.after-end.result in
    let bytes = c.args.bytes.now in let piece = c.args.piece.now in
    let ahead : ℕ = length bytes - end in
    let n : ℕ = length piece in
    let at = place-is (length bytes) start held end c.requires.0 (omega (arith, c.requires.1)) c.after-end.ensures in
    (λ i. round_bytes start (held + n) (put_mid 0 (length (c.split_at.ensures.back i)) (put_mid end ahead bytes ((c.copy_from_slice-2.ensures.after ∙ c.split_at.ensures.front) i)) ((c.copy_from_slice-3.ensures.after ∙ c.split_at.ensures.back) i)))
    ∙ round-put_twice start held end ahead bytes piece c.requires.0 (omega (arith, at.0)) c.requires.1 (omega (arith, c.if-piece-ahead.false)) at.1
