use Rattle.std.proofs.Common.{sym, ap, ⊎_elim}
use Rattle.sof_session.specs.UpCommands.{down_fault}
use Rattle.sof_session.proofs.session.down_fault.Goals as goal

pub returns-in-Unloaded : goal.returns-in-Unloaded
returns-in-Unloaded c = sym (ap down_fault c.in-Unloaded.is)

pub returns-in-On : goal.returns-in-On
returns-in-On c = ⊎_elim (λ on. sym (ap down_fault on)) (λ off. sym (ap down_fault off)) c.in-On.is
