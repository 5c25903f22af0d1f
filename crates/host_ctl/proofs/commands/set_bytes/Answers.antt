use Rattle.std.proofs.Common.{subst, rules}
use Rattle.mbox_link.specs.Calls.{World, world}
use Rattle.host_widgets.specs.Sides.{world_of}
use Rattle.host_widgets.specs.declared.kept.Record.{Record}
use Rattle.host_widgets.specs.AnsweredOrders.{OrderAnswered, TestedAnswered}
use Rattle.host_widgets.specs.Host.{Agrees}
use Rattle.host_widgets.specs.Orders.{Procedure}
use Rattle.host_widgets.specs.TestedOrders.{Tested}
use Rattle.host_widgets.proofs.AnsweredActs.{late-answered}
use Rattle.host_ctl.specs.ControlAsks.{bytes_fault}
use Rattle.host_ctl.specs.ControlOrders.{bytes_order}
use Rattle.host_ctl.proofs.BlobTests.{installable-here}
use Rattle.host_ctl.proofs.ControlOrdered.{bytes-ended, bytes-named}
use Rattle.host_ctl.proofs.commands.set_bytes.Goals as goal

pub set_bytes-requires-clause-blob : goal.set_bytes-requires-clause-blob
set_bytes-requires-clause-blob g c = installable-here c.args.plan.now c.requires.plan c.args.kept.now c.requires.kept c.args.name.now c.in_ok-place.place c.in_ok-place.ensures.place c.args.blob.now c.in_ok-place.ensures.none

pub returns : goal.returns
returns g c =
    let means = g.P.Dsp.means in
    let plan = c.args.plan.now in
    let heap = c.args.heap in
    let kept = c.args.kept.now in
    let name = c.args.name.now in
    let w = world c.args.dsp.now c.args.io.now c.args.out.now in
    let i = c.in_ok-place.place in
    let at = c.in_ok-place.ensures.place in
    let fault = bytes_fault plan kept name c.args.blob.now in
    let order = bytes_order plan kept name c.args.blob.now in
    let now = c.set_bytes.new.side.kept.now in
    let v = world_of c.set_bytes.new.side in
    let none = c.in_ok-place.ensures.none in
    let x = subst (λ (o : Procedure). OrderAnswered means plan heap o kept now w v c.set_bytes.result) (bytes-named plan c.requires.plan kept c.requires.kept name i at c.args.blob.now) c.set_bytes.ensures.answered in
    record {
      answered = subst (λ (e : Record × World g.row.P.Denot). TestedAnswered means plan heap fault order kept e.0 w e.1 c.set_bytes.result) (search rules) (late-answered means plan heap fault order kept now w v c.set_bytes.result none x);
      asked = λ agrees. subst (λ (e : Record × World g.row.P.Denot). Tested means plan heap fault order kept e.0 w e.1 c.set_bytes.result) (search rules) (bytes-ended plan c.requires.plan kept c.requires.kept name i at means heap w agrees now v c.set_bytes.result c.args.blob.now none x).0;
      agree = λ agrees. subst (λ (e : Record × g.row.P.Denot). Agrees means plan e.0 e.1) (search rules) (bytes-ended plan c.requires.plan kept c.requires.kept name i at means heap w agrees now v c.set_bytes.result c.args.blob.now none x).1;
    }
