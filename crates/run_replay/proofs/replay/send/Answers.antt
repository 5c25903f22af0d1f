use Rattle.std.proofs.Common.{ap}
use Rattle.sof_base.specs.Ports.{Io}
use Rattle.run_replay.proofs.ReplayPhases.{sent-bare}
use Rattle.run_replay.proofs.replay.send.Goals as goal

pub returns-in-Ok-clause-did : goal.returns-in-Ok-clause-did
returns-in-Ok-clause-did g c =
    let io : Io = record { inputs = c.args.inputs.now; outputs = c.args.outputs.now } in
    let jo : Io = record { inputs = c.exchange.new.io; outputs = c.exchange.new.out } in
    rw c.front.ensures
    (sent-bare g.P.Dsp.means c.args.dsp.now c.exchange.new.self io jo (λ i. record { inputs = c.requires.inputs i; outputs = c.requires.outputs i }) c.args.message.now _ c.requires.on c.in-Ok.ensures.did).1

pub returns-in-Ok-clause-inputs : goal.returns-in-Ok-clause-inputs
returns-in-Ok-clause-inputs g c =
    let io : Io = record { inputs = c.args.inputs.now; outputs = c.args.outputs.now } in
    let jo : Io = record { inputs = c.exchange.new.io; outputs = c.exchange.new.out } in
    ap (λ (x : Io). x.inputs)
    (sent-bare g.P.Dsp.means c.args.dsp.now c.exchange.new.self io jo (λ i. record { inputs = c.requires.inputs i; outputs = c.requires.outputs i }) c.args.message.now _ c.requires.on c.in-Ok.ensures.did).0

pub returns-in-Ok-clause-outputs : goal.returns-in-Ok-clause-outputs
returns-in-Ok-clause-outputs g c =
    let io : Io = record { inputs = c.args.inputs.now; outputs = c.args.outputs.now } in
    let jo : Io = record { inputs = c.exchange.new.io; outputs = c.exchange.new.out } in
    ap (λ (x : Io). x.outputs)
    (sent-bare g.P.Dsp.means c.args.dsp.now c.exchange.new.self io jo (λ i. record { inputs = c.requires.inputs i; outputs = c.requires.outputs i }) c.args.message.now _ c.requires.on c.in-Ok.ensures.did).0

pub returns-in-Err-clause-did : goal.returns-in-Err-clause-did
returns-in-Err-clause-did g c =
    let io : Io = record { inputs = c.args.inputs.now; outputs = c.args.outputs.now } in
    let jo : Io = record { inputs = c.exchange.new.io; outputs = c.exchange.new.out } in
    (sent-bare g.P.Dsp.means c.args.dsp.now c.exchange.new.self io jo (λ i. record { inputs = c.requires.inputs i; outputs = c.requires.outputs i }) c.args.message.now _ c.requires.on c.in-Err.ensures.did).1

pub returns-in-Err-clause-inputs : goal.returns-in-Err-clause-inputs
returns-in-Err-clause-inputs g c =
    let io : Io = record { inputs = c.args.inputs.now; outputs = c.args.outputs.now } in
    let jo : Io = record { inputs = c.exchange.new.io; outputs = c.exchange.new.out } in
    ap (λ (x : Io). x.inputs)
    (sent-bare g.P.Dsp.means c.args.dsp.now c.exchange.new.self io jo (λ i. record { inputs = c.requires.inputs i; outputs = c.requires.outputs i }) c.args.message.now _ c.requires.on c.in-Err.ensures.did).0

pub returns-in-Err-clause-outputs : goal.returns-in-Err-clause-outputs
returns-in-Err-clause-outputs g c =
    let io : Io = record { inputs = c.args.inputs.now; outputs = c.args.outputs.now } in
    let jo : Io = record { inputs = c.exchange.new.io; outputs = c.exchange.new.out } in
    ap (λ (x : Io). x.outputs)
    (sent-bare g.P.Dsp.means c.args.dsp.now c.exchange.new.self io jo (λ i. record { inputs = c.requires.inputs i; outputs = c.requires.outputs i }) c.args.message.now _ c.requires.on c.in-Err.ensures.did).0
