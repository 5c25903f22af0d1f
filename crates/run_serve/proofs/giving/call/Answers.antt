use Rattle.std.proofs.Common.{◌≡◌, refl, ap, ◌∙◌, true, false}
use Rattle.sof_base.specs.Ports.{Io}
use Rattle.run_replay.proofs.ReplayPhases.{ticked-bare}
use Rattle.run_serve.proofs.giving.call.Goals as goal
use Rattle.run_serve.proofs.giving.call.Goals.{in-Boot, in-Cut, in-Tick, in-Reply, in-Lost}

pub returns-clause-gave : goal.returns-clause-gave
returns-clause-gave g c = elim c.match-entry.branch [
  | in-Boot w ↦ rw (w.in-Boot.is, w.dsp-is) (w.boot.ensures, refl)
  | in-Cut w ↦ rw (w.in-Cut.is, w.dsp-is) (w.cut.ensures, refl)
  | in-Tick w ↦
      let io : Io = record { inputs = c.args.inputs.now; outputs = c.args.outputs.now } in
      let jo : Io = record { inputs = w.tick.new.io; outputs = w.tick.new.out } in
      rw (w.in-Tick.is, w.dsp-is)
      (ticked-bare g.P.Dsp.means c.args.dsp.now w.tick.new.self io jo (λ i. record { inputs = c.requires.inputs i; outputs = c.requires.outputs i }) w.tick.ensures).1
  | in-Reply w ↦ let placed : false ≡ true = rw w.in-Reply.is at c.requires.may in absurd (cc placed)
  | in-Lost w ↦ let placed : false ≡ true = rw w.in-Lost.is at c.requires.may in absurd (cc placed)
]

pub returns-clause-inputs : goal.returns-clause-inputs
returns-clause-inputs g c = elim c.match-entry.branch [
  | in-Boot w ↦ w.inputs-is ∙ c.requires.inputs
  | in-Cut w ↦ w.inputs-is ∙ c.requires.inputs
  | in-Tick w ↦
      let io : Io = record { inputs = c.args.inputs.now; outputs = c.args.outputs.now } in
      let jo : Io = record { inputs = w.tick.new.io; outputs = w.tick.new.out } in
      w.inputs-is
      ∙ ap (λ (x : Io). x.inputs)
      (ticked-bare g.P.Dsp.means c.args.dsp.now w.tick.new.self io jo (λ i. record { inputs = c.requires.inputs i; outputs = c.requires.outputs i }) w.tick.ensures).0
  | in-Reply w ↦ w.inputs-is ∙ c.requires.inputs
  | in-Lost w ↦ w.inputs-is ∙ c.requires.inputs
]

pub returns-clause-outputs : goal.returns-clause-outputs
returns-clause-outputs g c = elim c.match-entry.branch [
  | in-Boot w ↦ w.outputs-is ∙ c.requires.outputs
  | in-Cut w ↦ w.outputs-is ∙ c.requires.outputs
  | in-Tick w ↦
      let io : Io = record { inputs = c.args.inputs.now; outputs = c.args.outputs.now } in
      let jo : Io = record { inputs = w.tick.new.io; outputs = w.tick.new.out } in
      w.outputs-is
      ∙ ap (λ (x : Io). x.outputs)
      (ticked-bare g.P.Dsp.means c.args.dsp.now w.tick.new.self io jo (λ i. record { inputs = c.requires.inputs i; outputs = c.requires.outputs i }) w.tick.ensures).0
  | in-Reply w ↦ w.outputs-is ∙ c.requires.outputs
  | in-Lost w ↦ w.outputs-is ∙ c.requires.outputs
]
