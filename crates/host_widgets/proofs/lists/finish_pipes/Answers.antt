use Rattle.std.proofs.Common.{◌≤◌, ap, subst, ◌∙◌, List, length, false, arith}
use Rattle.std.specs.List.{flat_map}
use Rattle.std.proofs.lemmas.List.{take_all}
use Rattle.mbox_link.specs.Calls.{world}
use Rattle.stream_law.specs.declared.graph.Pipe.{Pipe}
use Rattle.host_widgets.specs.ActCarried.{ActsSent}
use Rattle.host_widgets.specs.Groups.{finish_acts_of}
use Rattle.host_widgets.specs.HostActs.{Act}
use Rattle.host_widgets.proofs.MadeSent.{finish-acts}
use Rattle.host_widgets.proofs.Walks.{passing, sent-on, sent-room, sent-all, sent-stops, handed_on}
use Rattle.host_widgets.proofs.lists.finish_pipes.Goals as goal

abbrev no_pipe : Pipe
no_pipe = record { id = 0; index = 0; sched = 0; period = 0; complete = false }

pub finish_pipe_of-requires-clause-on : goal.finish_pipe_of-requires-clause-on
finish_pipe_of-requires-clause-on g c = sent-on g.P.Dsp.means c.args.plan.now _ _ _ passing c.loop-pipe.invariant c.requires.on

pub finish_pipe_of-requires-clause-room : goal.finish_pipe_of-requires-clause-room
finish_pipe_of-requires-clause-room g c = sent-room g.P.Dsp.means c.args.plan.now _ _ _ passing c.loop-pipe.invariant c.requires.room

pub returns-in_err-finish_pipe_of : goal.returns-in_err-finish_pipe_of
returns-in_err-finish_pipe_of g c =
    let plan = c.args.plan.now in let n = c.args.indices.now in
    let w = world c.args.dsp.now c.args.io.now c.args.out.now in let v = world c.finish_pipe_of.new.dsp c.finish_pipe_of.new.io c.finish_pipe_of.new.out in
    subst (λ (acts : List Act). ActsSent g.P.Dsp.means plan acts w v c.from_residual.result) (finish-acts n plan.graph.pipes)
    (sent-stops g.P.Dsp.means plan (finish_acts_of n) plan.graph.pipes c.items-pipe-items.result.now c.items-pipe-items.ensures c.loop-pipe.pipe-index no_pipe c.loop-pipe-test.true
    w (world c.loop-pipe.dsp c.loop-pipe.io c.loop-pipe.out) v c.loop-pipe.invariant c.finish_pipe_of.result c.finish_pipe_of.ensures c.in_err-finish_pipe_of.field-0.0 c.from_residual.result c.in_err-finish_pipe_of.was
    (handed_on c.from_residual.result c.in_err-finish_pipe_of.field-0.0 c.from_residual.ensures))

pub loop-pipe-preserved : goal.loop-pipe-preserved
loop-pipe-preserved g c =
    let plan = c.args.plan.now in let n = c.args.indices.now in
    sent-all g.P.Dsp.means plan (finish_acts_of n) plan.graph.pipes c.items-pipe-items.result.now c.items-pipe-items.ensures c.loop-pipe.pipe-index no_pipe c.loop-pipe-test.true
    (world c.args.dsp.now c.args.io.now c.args.out.now) (world c.loop-pipe.dsp c.loop-pipe.io c.loop-pipe.out) (world c.finish_pipe_of.new.dsp c.finish_pipe_of.new.io c.finish_pipe_of.new.out)
    c.loop-pipe.invariant c.finish_pipe_of.result c.finish_pipe_of.ensures c.in_ok-finish_pipe_of.was

pub returns : goal.returns
returns g c =
    let plan = c.args.plan.now in let n = c.args.indices.now in
    let past : length plan.graph.pipes ≤ c.loop-pipe.pipe-index = omega (arith, c.loop-pipe-test.false, ap length c.items-pipe-items.ensures) in
    subst (λ (acts : List Act). ActsSent g.P.Dsp.means plan acts (world c.args.dsp.now c.args.io.now c.args.out.now) (world c.loop-pipe.dsp c.loop-pipe.io c.loop-pipe.out) passing)
    (ap (flat_map (finish_acts_of n)) (take_all c.loop-pipe.pipe-index plan.graph.pipes past) ∙ finish-acts n plan.graph.pipes) c.loop-pipe.invariant
