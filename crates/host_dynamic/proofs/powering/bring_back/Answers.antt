use Rattle.std.proofs.Common.{◌++◌, List, sym, subst}
use Rattle.std.specs.List.{zip, flat_map}
use Rattle.mbox_link.specs.Calls.{world}
use Rattle.host_widgets.specs.ActCarried.{ActsSent}
use Rattle.host_widgets.specs.ActLists.{prepare_acts}
use Rattle.host_widgets.specs.Host.{Outcome}
use Rattle.host_widgets.specs.HostActs.{Act}
use Rattle.host_widgets.proofs.Walks.{sent-then, sent-ended, handed_on}
use Rattle.host_widgets.specs.UpActs.{making_acts}
use Rattle.host_pm.proofs.TurnsCome.{turn-sent}
use Rattle.host_dynamic.proofs.powering.bring_back.Goals as goal
use Rattle.host_widgets.proofs.MadeSent.{listed-on, listed-room, listed-sent}

pub prepare_all-requires-clause-on : goal.prepare_all-requires-clause-on
prepare_all-requires-clause-on g c = listed-on g.P.Dsp.means c.args.plan.now _ _ _ _ _ c.make.ensures.sent c.requires.on

pub prepare_all-requires-clause-room : goal.prepare_all-requires-clause-room
prepare_all-requires-clause-room g c = listed-room g.P.Dsp.means c.args.plan.now _ _ _ _ _ c.make.ensures.sent c.requires.room

pub returns-in_err-make : goal.returns-in_err-make
returns-in_err-make g c =
    let means = g.P.Dsp.means in let plan = c.args.plan.now in
    let w = world c.args.dsp.now c.args.io.now c.args.out.now in let m = world c.make.new.dsp c.make.new.io c.make.new.out in
    let acts : List Act = making_acts plan c.args.kept.now c.args.up.now in let more : List Act = flat_map prepare_acts (zip plan.streams c.args.kept.now.streams) in
    let fault = c.in_err-make.field-0.0 in
    let first = subst (λ (r : Outcome). ActsSent means plan acts w m r) c.in_err-make.was (listed-sent means plan acts c.make.ensures.passed w m c.make.result c.make.ensures.sent) in
    subst (λ (r : Outcome). ActsSent means plan (acts ++ more) w m r) (sym (handed_on c.from_residual.result fault c.from_residual.ensures)) (sent-ended means plan acts more w m fault first)

pub returns : goal.returns
returns g c =
    let means = g.P.Dsp.means in let plan = c.args.plan.now in
    let w = world c.args.dsp.now c.args.io.now c.args.out.now in let m = world c.make.new.dsp c.make.new.io c.make.new.out in let v = world c.prepare_all.new.dsp c.prepare_all.new.io c.prepare_all.new.out in
    let acts : List Act = making_acts plan c.args.kept.now c.args.up.now in let more : List Act = flat_map prepare_acts (zip plan.streams c.args.kept.now.streams) in
    let first = subst (λ (r : Outcome). ActsSent means plan acts w m r) c.in_ok-make.was (listed-sent means plan acts c.make.ensures.passed w m c.make.result c.make.ensures.sent) in
    sent-then means plan acts more w m v c.prepare_all.result first (turn-sent means plan more m v c.prepare_all.result c.prepare_all.ensures)
