use Rattle.std.proofs.Common.{◌≡◌, ℕ, ◌-◌, List, length, arith, ap}
use Rattle.tplg_model.specs.Spelling.{body_cells}
use Rattle.tplg_write.specs.Sinks.{Sunk}
use Rattle.tplg_write.proofs.RoomLaws.{length_written}
use Rattle.tplg_write.proofs.PatchLaws.{header_length, block_wrote}
use Rattle.tplg_write.proofs.OfProgram.{block_is}
use Rattle.tplg_write.proofs.blocks.put_block.Goals as goal

pub overflow_sub-size : goal.overflow_sub-size
overflow_sub-size c =
    let added = rw c.in_ok-word.ensures.ok at (rw c.in_ok-word-2.ensures.ok at (rw c.in_ok-word-3.ensures.ok at c.in_ok-put_body.ensures.ok)) in
    let body = body_cells c.block.inside.body in
    let long = header_length c.put_front.new.sink.added c.block.inside.index c.kind_and_count-kind.result.1 0 body in
    omega (arith, c.block.invariant.size, c.len-place.ensures, c.len.ensures, ap (λ s. length s.added) added, long, length_written body)

pub overflow_sub-size-2 : goal.overflow_sub-size-2
overflow_sub-size-2 c =
    let added = rw c.in_ok-word.ensures.ok at (rw c.in_ok-word-2.ensures.ok at (rw c.in_ok-word-3.ensures.ok at c.in_ok-put_body.ensures.ok)) in
    let body = body_cells c.block.inside.body in
    let long = header_length c.put_front.new.sink.added c.block.inside.index c.kind_and_count-kind.result.1 0 body in
    omega (arith, c.block.invariant.size, c.len-place.ensures, c.len.ensures, ap (λ s. length s.added) added, long, length_written body)

pub overflow_cast-size : goal.overflow_cast-size
overflow_cast-size c =
    let added = rw c.in_ok-word.ensures.ok at (rw c.in_ok-word-2.ensures.ok at (rw c.in_ok-word-3.ensures.ok at c.in_ok-put_body.ensures.ok)) in
    let body = body_cells c.block.inside.body in
    let long = header_length c.put_front.new.sink.added c.block.inside.index c.kind_and_count-kind.result.1 0 body in
    omega (arith, c.block.invariant.size, c.len-place.ensures, c.len.ensures, ap (λ s. length s.added) added, long, length_written body)

pub patch-requires : goal.patch-requires
patch-requires c =
    let added = rw c.in_ok-word.ensures.ok at (rw c.in_ok-word-2.ensures.ok at (rw c.in_ok-word-3.ensures.ok at c.in_ok-put_body.ensures.ok)) in
    let body = body_cells c.block.inside.body in
    let long = header_length c.put_front.new.sink.added c.block.inside.index c.kind_and_count-kind.result.1 0 body in
    omega (arith, c.block.invariant.size, c.len-place.ensures, c.len.ensures, ap (λ s. length s.added) added, long, length_written body)

pub returns-clause-ok : goal.returns-clause-ok
returns-clause-ok c =
    let added = rw c.in_ok-word.ensures.ok at (rw c.in_ok-word-2.ensures.ok at (rw c.in_ok-word-3.ensures.ok at c.in_ok-put_body.ensures.ok)) in
    let body = body_cells c.block.inside.body in
    let long = header_length c.put_front.new.sink.added c.block.inside.index c.kind_and_count-kind.result.1 0 body in
    let size : c.len.result - c.len-place.result - 12 ≡ length body = omega (arith, c.len-place.ensures, c.len.ensures, ap (λ s. length s.added) added, long, length_written body) in
    let kinds = c.kind_and_count-kind.ensures.words in
    let whole =
    block_wrote c.args.sink.now.added c.put_front.new.sink.added (record { version = c.block.inside.version; vendor_type = c.block.inside.vendor_type; index = c.block.inside.index; body = c.block.inside.body })
    c.kind_and_count-kind.result.0 c.kind_and_count-kind.result.1 (c.len.result - c.len-place.result - 12) c.len-place.result
    (ap (λ (s : Sunk). s.added) (rw (← c.block.view_is) at c.in_ok-put_front.ensures.ok)) (ap (λ (p : ℕ × ℕ). p.0) kinds) (ap (λ (p : ℕ × ℕ). p.1) kinds) size c.len-place.ensures in
    rw (← c.block.view_is, c.patch.ensures.added, added, c.in_ok-put_front.ensures.front) (ap (λ (a : List ℕ). record { front = c.args.sink.now.front; added = a }) whole)

pub returns-clause-is : goal.returns-clause-is
returns-clause-is c =
    let fit = rw (← c.block.view_is) at c.in_ok-put_front.ensures.fit in
    let words = c.kind_and_count-kind.ensures.fit in
    rw (← c.block.view_is) (block_is (record { version = c.block.inside.version; vendor_type = c.block.inside.vendor_type; index = c.block.inside.index; body = c.block.inside.body })
    fit.0 words.0 fit.1 c.block.invariant c.word-2.ensures.fits words.1 c.in_ok-put_body.ensures.is)
