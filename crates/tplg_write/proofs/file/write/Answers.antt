use Rattle.std.proofs.Common.{refl}
use Rattle.sof_base.specs.Layouts.{wrote_part}
use Rattle.tplg_model.specs.File.{spelling}
use Rattle.tplg_model.proofs.FileLaws.{topology_again, IsFileOf-spelling}
use Rattle.tplg_write.proofs.file.write.Goals as goal

pub returns-in-Ok-clause-ok : goal.returns-in-Ok-clause-ok
unfolding wrote_part
returns-in-Ok-clause-ok c =
    rw (c.whole.ensures, c.in-Ok.ensures.ok, c.behind-sink.ensures, c.replace.ensures.value, c.items.ensures) refl

pub returns-in-Ok-clause-is : goal.returns-in-Ok-clause-is
returns-in-Ok-clause-is c = rw (← c.items.ensures) c.in-Ok.ensures.are

pub returns-in-Ok-clause-again : goal.returns-in-Ok-clause-again
returns-in-Ok-clause-again c =
    let t = c.args.topology.now in
    topology_again (spelling t) t (rw (← c.items.ensures) c.in-Ok.ensures.are) (IsFileOf-spelling t)
