use Rattle.std.proofs.Common.{◌∙◌, sym, ap, Some}
use Rattle.sof_base.specs.Ports.{Io}
use Rattle.fw_core.specs.Device.{FirmwareView}
use Rattle.fw_core.proofs.Calls.{firmware-exchanged}
use Rattle.fw_core.proofs.dsp.FirmwareDsp.exchange.Goals as goal

pub returns-clause-did : goal.returns-clause-did
returns-clause-did c =
    let io : Io = record { inputs = c.args._io.now; outputs = c.args._out.now } in
    firmware-exchanged c.args.request.now _ (record { device = c.args.self.now; io = io }) (record { device = c.reply-answer.new.self; io = io })
    (ap Some c.encode_reply.ensures.bytes ∙ sym c.reply-answer.ensures.reply, ap (λ (d : FirmwareView). record { device = d; io = io }) c.reply-answer.ensures.step)
