use Rattle.std.proofs.Common.{◌≡◌, ◌≤◌, true, length, take, ap, ◌∙◌, arith}
use Rattle.std.proofs.lemmas.List.{length-take}
use Rattle.std.specs.Prelude.{is_some}
use Rattle.sof_base.specs.Ports.{Io}
use Rattle.ipc3_trace.specs.Tracing.{Traced}
use Rattle.ipc3_trace.proofs.TracerCalls.{at, reply-entry, traced-exchange}
use Rattle.ipc3_trace.proofs.tracer.TracerDsp.exchange.Goals as goal

pub returns-in-Ok-clause-did : goal.returns-in-Ok-clause-did
returns-in-Ok-clause-did g c =
    let io : Io = record { inputs = c.args.io.now; outputs = c.args.out.now } in
    let jo : Io = record { inputs = c.exchange.new.io; outputs = c.exchange.new.out } in
    let means = g.P.Dsp.means in
    let back = take c.in-Ok.long c.exchange.new.reply in
    let on : is_some (means.on c.self.inside.dsp) ≡ true = ap (λ (t : Traced _). is_some (means.on t.device)) c.self.view_is ∙ c.requires.on in
    let short : length back ≤ 384 = omega (arith, c.in-Ok.ensures.short, length-take c.in-Ok.long c.exchange.new.reply) in
    let is = reply-entry means c.args.request.now back (at c.self.inside.dsp io) (at c.exchange.new.self jo) c.in-Ok.ensures.did on short in
    rw (← c.self.view_is) (traced-exchange means c.args.request.now _ c.self.inside.dsp c.exchange.new.self c.self.inside.held c.keep_exchange.new.self io jo c.in-Ok.ensures.did is c.keep_exchange.ensures)

pub returns-in-Err-clause-did : goal.returns-in-Err-clause-did
returns-in-Err-clause-did g c =
    let io : Io = record { inputs = c.args.io.now; outputs = c.args.out.now } in
    let jo : Io = record { inputs = c.exchange.new.io; outputs = c.exchange.new.out } in
    rw (← c.self.view_is)
    (traced-exchange g.P.Dsp.means c.args.request.now _ c.self.inside.dsp c.exchange.new.self c.self.inside.held c.keep_exchange-in-Err.new.self io jo c.in-Err.ensures.did tt c.keep_exchange-in-Err.ensures)
