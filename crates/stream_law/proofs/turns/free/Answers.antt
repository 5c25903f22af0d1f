use Rattle.std.proofs.Common.{sym, ap, ◌∙◌, map}
use Rattle.std.proofs.lemmas.List.{take_all}
use Rattle.stream_law.specs.Waiting.{freed}
use Rattle.stream_law.proofs.TurnLaws.{freed-none, freed-more}
use Rattle.stream_law.proofs.turns.free.Goals as goal

pub loop-e-init : goal.loop-e-init
loop-e-init c = sym (freed-none c.args.edges.now c.args.id c.args.left.now)

pub loop-e-preserved : goal.loop-e-preserved
loop-e-preserved c = freed-more c.args.edges.now c.args.id c.loop-e.e-index _ c.args.left.now c.loop-e.left c.free_edge.new.left c.loop-e-test.true c.loop-e.invariant c.free_edge.ensures

pub returns : goal.returns
returns c = c.loop-e.invariant ∙ ap (λ those. map (freed c.args.edges.now c.args.id those) c.args.left.now) (take_all c.loop-e.e-index c.args.edges.now c.loop-e-test.false)
