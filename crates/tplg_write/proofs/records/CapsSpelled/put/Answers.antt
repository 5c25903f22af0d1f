use Rattle.std.proofs.Common.{ℕ, List, sym, ap}
use Rattle.sof_base.proofs.WriteLaws.{part_slots}
use Rattle.tplg_model.specs.Spelling.{caps_slots}
use Rattle.tplg_write.proofs.records.CapsSpelled.put.Goals as goal

pub returns-clause-ok : goal.returns-clause-ok
returns-clause-ok c = rw (c.in_ok-put_caps.ensures.ok) (ap (λ (a : List ℕ). record { front = c.args.sink.now.front; added = a }) (sym (part_slots c.args.sink.now.added (caps_slots c.args.self.now))))
