use Rattle.std.proofs.Common.{◌+◌, ◌-◌, take, drop, arith, ◌∙◌}
use Rattle.std.proofs.lemmas.List.{with_items_is}
use borrow.Rule.Slice.PartMut.{put_mid, same_len_mid}
use Rattle.tplg_write.proofs.SinkLaws.{sunk, sunk_patched}
use Rattle.tplg_write.proofs.sink.Sink.patch.Goals as goal

pub returns-clause-added : goal.returns-clause-added
returns-clause-added c =
    let inside = c.self.inside in
    let at = inside.kept + c.args.at in
    let size = at + 4 - at in
    let was = c.deref_mut.result.now in
    let is = c.copy_from_slice.new.self in
    let items = with_items_is inside.bytes (put_mid at size was is) (same_len_mid at size was is c.copy_from_slice.ensures.len ∙ c.deref_mut.ensures.len) in
    rw (← c.self.view_is) ((λ i. sunk (take inside.kept (items i)) (drop inside.kept (items i)))
    ∙ sunk_patched inside.kept c.args.at c.args.n size inside.bytes.items was is c.self.invariant c.deref_mut.ensures.value (omega arith) (c.copy_from_slice.ensures.after ∙ c.word_bytes.ensures))
