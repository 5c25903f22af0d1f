use Rattle.std.proofs.Common.{Ok, ap, sym, ◌∙◌}
use Rattle.ipc3_model.specs.Messages.{message_spelling}
use Rattle.host_widgets.specs.Sides.{world_of}
use Rattle.host_widgets.specs.ActCalls.{came_to}
use Rattle.host_widgets.proofs.Walks.{handed_on}
use Rattle.host_widgets.proofs.OneMessage.{passes}
use Rattle.host_widgets.proofs.passing.transact_no_reply.Goals as goal

pub returns-in_err-transact-clause-passes : goal.returns-in_err-transact-clause-passes
returns-in_err-transact-clause-passes g c =
    passes g.P.Dsp.means c.args.side.now.heap (message_spelling c.args.message.now) c.args.side.now.kept.now (world_of c.args.side.now) c.transact.new.side.kept.now (world_of c.transact.new.side) c.transact.result c.from_residual.result c.transact.ensures.replied
    (handed_on c.from_residual.result c.in_err-transact.field-0.0 c.from_residual.ensures ∙ ap came_to (sym c.in_err-transact.was))

pub returns-clause-passes : goal.returns-clause-passes
returns-clause-passes g c =
    passes g.P.Dsp.means c.args.side.now.heap (message_spelling c.args.message.now) c.args.side.now.kept.now (world_of c.args.side.now) c.transact.new.side.kept.now (world_of c.transact.new.side) c.transact.result (Ok tt) c.transact.ensures.replied
    (ap came_to (sym c.in_ok-transact.was))
