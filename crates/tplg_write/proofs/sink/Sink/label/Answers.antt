use Rattle.std.proofs.Common.{List, ℕ, ap}
use Rattle.sof_base.proofs.WriteLaws.{name_padded}
use Rattle.tplg_write.proofs.sink.Sink.label.Goals as goal

pub returns-clause-ok : goal.returns-clause-ok
returns-clause-ok c =
    rw (c.in_ok-put-2.ensures.ok, c.in_ok-put.ensures.ok, c.as_bytes-bytes.ensures.value) (ap (λ (a : List ℕ). record { front = c.args.self.now.front; added = a })
    (name_padded c.args.self.now.added c.args.name.now c.as_bytes-bytes.ensures.is_name.0))
