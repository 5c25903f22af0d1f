use Rattle.std.proofs.Common.{sym, ◌∙◌}
use Rattle.ipc3_model.specs.Messages.{message_spelling}
use Rattle.mbox_link.specs.Calls.{world}
use Rattle.host_widgets.specs.Sides.{world_of}
use Rattle.host_widgets.proofs.OneMessage.{heard, went_dead}
use Rattle.host_widgets.proofs.passing.transact.Goals as goal

pub returns-then-is_down-clause-replied : goal.returns-then-is_down-clause-replied
returns-then-is_down-clause-replied g c =
    went_dead g.P.Dsp.means c.args.side.now.heap (message_spelling c.args.message.now) c.args.side.now.kept.now (world_of c.args.side.now) c.link_down.new.kept (world c.send-answer.new.dsp c.send-answer.new.io c.send-answer.new.out)
    (world c.link_down.new.dsp c.link_down.new.io c.link_down.new.out) c.send-answer.result c.send-answer.ensures (sym c.is_down.ensures ∙ c.if-is_down.true) c.link_down.ensures.calls c.link_down.ensures.kept

pub returns-else-is_down-clause-replied : goal.returns-else-is_down-clause-replied
returns-else-is_down-clause-replied g c =
    heard g.P.Dsp.means c.args.side.now.heap (message_spelling c.args.message.now) c.args.side.now.kept.now (world_of c.args.side.now) (world c.send-answer.new.dsp c.send-answer.new.io c.send-answer.new.out) c.send-answer.result c.send-answer.ensures (sym c.is_down.ensures ∙ c.if-is_down.false)
