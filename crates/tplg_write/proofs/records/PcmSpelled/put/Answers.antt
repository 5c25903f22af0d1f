use Rattle.std.proofs.Common.{ℕ, List, ap}
use Rattle.tplg_model.specs.Spelling.{pcm_parts}
use Rattle.tplg_write.proofs.SinkLaws.{parts_wrote}
use Rattle.tplg_write.proofs.records.PcmSpelled.put.Goals as goal

pub returns-clause-ok : goal.returns-clause-ok
returns-clause-ok c =
    rw (c.in_ok-put_fixed.ensures.ok, c.in_ok-put_pcm_tail.ensures.ok, c.in_ok-put-2.ensures.ok, c.in_ok-put.ensures.ok, c.in_ok-put_number.ensures.ok, c.in_ok-put_items.ensures.ok, c.in_ok-put_pcm_head.ensures.ok, c.items-2.ensures, c.items.ensures.value)
    (ap (λ (a : List ℕ). record { front = c.args.sink.now.front; added = a }) (parts_wrote c.args.sink.now.added (pcm_parts c.args.self.now)))
