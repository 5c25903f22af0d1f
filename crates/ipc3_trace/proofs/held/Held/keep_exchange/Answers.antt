use Rattle.std.proofs.Common.{ap, ◌∙◌}
use Rattle.ipc3_trace.specs.Records.{spelled}
use Rattle.ipc3_trace.specs.HeldRecords.{kept_exchange}
use Rattle.ipc3_trace.proofs.Holding.{full-exchange}
use Rattle.ipc3_trace.proofs.held.Held.keep_exchange.Goals as goal

pub returns-else-exchange_fits : goal.returns-else-exchange_fits
returns-else-exchange_fits c =
    full-exchange c.args.kind c.args.request.now c.args.back.now (record { bytes = c.self.inside.bytes.items; cut_short = c.self.inside.cut_short }) c.exchange_fits.result c.exchange_fits.ensures.fits c.if-exchange_fits.false
    ∙ ap (kept_exchange c.args.request.now (spelled c.args.kind c.args.back.now)) c.self.view_is
