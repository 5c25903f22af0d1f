use Rattle.std.proofs.Common.{◌≤◌, ap, [], length, take, Some, arith}
use Rattle.std.proofs.lemmas.List.{length-take}
use Rattle.sof_base.specs.Ports.{Io}
use Rattle.mbox_link.specs.Calls.{Exchanged, world}
use Rattle.ipc3_trace.proofs.TracerCalls.{reply-entry}
use Rattle.run_replay.proofs.ReplayPhases.{sent-bare}
use Rattle.run_serve.proofs.giving.send.Goals as goal

pub returns-in-Ok-clause-gave : goal.returns-in-Ok-clause-gave
returns-in-Ok-clause-gave g c =
    let io : Io = record { inputs = c.args.inputs.now; outputs = c.args.outputs.now } in
    let jo : Io = record { inputs = c.exchange.new.io; outputs = c.exchange.new.out } in
    let reply = take c.in-Ok.long c.exchange.new.reply in
    let did : Exchanged g.P.Dsp.means c.args.message.now (Some reply) (world c.args.dsp.now [] []) (world c.exchange.new.self [] []) =
    (sent-bare g.P.Dsp.means c.args.dsp.now c.exchange.new.self io jo (λ i. record { inputs = c.requires.inputs i; outputs = c.requires.outputs i }) c.args.message.now _ c.requires.on c.in-Ok.ensures.did).1 in
    let few : length reply ≤ 384 = omega (arith, length-take c.in-Ok.long c.exchange.new.reply, c.in-Ok.ensures.short) in
    rw c.front.ensures (reply-entry g.P.Dsp.means c.args.message.now reply (world c.args.dsp.now [] []) (world c.exchange.new.self [] []) did c.requires.on few, did)

pub returns-in-Ok-clause-inputs : goal.returns-in-Ok-clause-inputs
returns-in-Ok-clause-inputs g c =
    let io : Io = record { inputs = c.args.inputs.now; outputs = c.args.outputs.now } in
    let jo : Io = record { inputs = c.exchange.new.io; outputs = c.exchange.new.out } in
    ap (λ (x : Io). x.inputs)
    (sent-bare g.P.Dsp.means c.args.dsp.now c.exchange.new.self io jo (λ i. record { inputs = c.requires.inputs i; outputs = c.requires.outputs i }) c.args.message.now _ c.requires.on c.in-Ok.ensures.did).0

pub returns-in-Ok-clause-outputs : goal.returns-in-Ok-clause-outputs
returns-in-Ok-clause-outputs g c =
    let io : Io = record { inputs = c.args.inputs.now; outputs = c.args.outputs.now } in
    let jo : Io = record { inputs = c.exchange.new.io; outputs = c.exchange.new.out } in
    ap (λ (x : Io). x.outputs)
    (sent-bare g.P.Dsp.means c.args.dsp.now c.exchange.new.self io jo (λ i. record { inputs = c.requires.inputs i; outputs = c.requires.outputs i }) c.args.message.now _ c.requires.on c.in-Ok.ensures.did).0

pub returns-in-Err-clause-gave : goal.returns-in-Err-clause-gave
returns-in-Err-clause-gave g c =
    let io : Io = record { inputs = c.args.inputs.now; outputs = c.args.outputs.now } in
    let jo : Io = record { inputs = c.exchange.new.io; outputs = c.exchange.new.out } in
    (sent-bare g.P.Dsp.means c.args.dsp.now c.exchange.new.self io jo (λ i. record { inputs = c.requires.inputs i; outputs = c.requires.outputs i }) c.args.message.now _ c.requires.on c.in-Err.ensures.did).1

pub returns-in-Err-clause-inputs : goal.returns-in-Err-clause-inputs
returns-in-Err-clause-inputs g c =
    let io : Io = record { inputs = c.args.inputs.now; outputs = c.args.outputs.now } in
    let jo : Io = record { inputs = c.exchange.new.io; outputs = c.exchange.new.out } in
    ap (λ (x : Io). x.inputs)
    (sent-bare g.P.Dsp.means c.args.dsp.now c.exchange.new.self io jo (λ i. record { inputs = c.requires.inputs i; outputs = c.requires.outputs i }) c.args.message.now _ c.requires.on c.in-Err.ensures.did).0

pub returns-in-Err-clause-outputs : goal.returns-in-Err-clause-outputs
returns-in-Err-clause-outputs g c =
    let io : Io = record { inputs = c.args.inputs.now; outputs = c.args.outputs.now } in
    let jo : Io = record { inputs = c.exchange.new.io; outputs = c.exchange.new.out } in
    ap (λ (x : Io). x.outputs)
    (sent-bare g.P.Dsp.means c.args.dsp.now c.exchange.new.self io jo (λ i. record { inputs = c.requires.inputs i; outputs = c.requires.outputs i }) c.args.message.now _ c.requires.on c.in-Err.ensures.did).0
