use Rattle.std.proofs.Common.{refl, subst, List, map, arith}
use Rattle.std.proofs.lemmas.List.{length-map, take_all}
use Rattle.mbox_link.specs.Calls.{world}
use Rattle.stream_law.specs.declared.graph.Join.{Join as Joined}
use Rattle.host_widgets.specs.HostActs.{Act, Join}
use Rattle.host_widgets.specs.ActCarried.{ActsSent}
use Rattle.host_widgets.proofs.Walks.{passing, sent-on, sent-room, sent-more, sent-ends, handed_on}
use Rattle.host_widgets.proofs.lists.make_joins.Goals as goal

abbrev act_of : Joined → Act
act_of j = Join j.source j.sink

abbrev no_join : Joined
no_join = record { source = 0; sink = 0 }

pub send-requires-clause-on : goal.send-requires-clause-on
send-requires-clause-on g c = sent-on g.P.Dsp.means c.args.plan.now _ _ _ passing c.loop-join.invariant c.requires.on

pub send-requires-clause-room : goal.send-requires-clause-room
send-requires-clause-room g c = sent-room g.P.Dsp.means c.args.plan.now _ _ _ passing c.loop-join.invariant c.requires.room

pub returns-in_err-send : goal.returns-in_err-send
returns-in_err-send g c =
    sent-ends g.P.Dsp.means c.args.plan.now act_of c.args.joins.now c.args.joins.now refl c.loop-join.join-index no_join c.loop-join-test.true
    (world c.args.dsp.now c.args.io.now c.args.out.now) (world c.loop-join.dsp c.loop-join.io c.loop-join.out) (world c.send.new.dsp c.send.new.io c.send.new.out)
    c.send.result c.loop-join.invariant c.send.ensures c.in_err-send.field-0.0 c.from_residual.result c.in_err-send.was
    (handed_on c.from_residual.result c.in_err-send.field-0.0 c.from_residual.ensures)

pub loop-join-preserved : goal.loop-join-preserved
loop-join-preserved g c =
    sent-more g.P.Dsp.means c.args.plan.now act_of c.args.joins.now c.args.joins.now refl c.loop-join.join-index no_join c.loop-join-test.true
    (world c.args.dsp.now c.args.io.now c.args.out.now) (world c.loop-join.dsp c.loop-join.io c.loop-join.out) (world c.send.new.dsp c.send.new.io c.send.new.out)
    c.send.result c.loop-join.invariant c.send.ensures c.in_ok-send.field-0 c.in_ok-send.was

pub returns : goal.returns
returns g c =
    let acts : List Act = map act_of c.args.joins.now in
    subst (λ (acts : List Act). ActsSent g.P.Dsp.means c.args.plan.now acts (world c.args.dsp.now c.args.io.now c.args.out.now) (world c.loop-join.dsp c.loop-join.io c.loop-join.out) passing)
    (take_all c.loop-join.join-index acts (omega (arith, c.loop-join-test.false, length-map c.args.joins.now act_of))) c.loop-join.invariant
