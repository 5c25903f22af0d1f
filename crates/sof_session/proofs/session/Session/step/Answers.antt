use Rattle.std.proofs.Common.{ℤ, refl, subst, sym, arith}
use Rattle.mbox_link.specs.declared.fates.Fate.TheVariants.{Refuse, Drop, Lose}
use Rattle.mbox_link.specs.Fates.{IsError}
use Rattle.host_widgets.specs.declared.answers.Answer.{Answer}
use Rattle.host_widgets.specs.declared.answers.Answer.TheVariants.{Done}
use Rattle.sof_script.specs.declared.script.Command.{Command}
use Rattle.sof_script.specs.declared.script.Command.TheVariants as commands
use Rattle.sof_session.specs.Modes.{SteppedBy}
use Rattle.sof_session.specs.SessionCalls.{PlanRan, ports}
use Rattle.sof_session.proofs.Agreement.{at}
use Rattle.sof_session.proofs.ModeCalls.{by-command, fate-steps, lag-steps, show-steps}
use Rattle.sof_session.proofs.PlanAgreement.{is-error}
use Rattle.sof_session.proofs.StepCommands.{in-range-of, ahead-in, refuse-in, lag-in, as-is}
use Rattle.sof_session.proofs.session.Session.step.Goals as goal

pub plan_fate-requires-clause-ahead : goal.plan_fate-requires-clause-ahead
plan_fate-requires-clause-ahead g c = ahead-in c.in-Refuse.k (refuse-in c.in-Refuse.k c.in-Refuse.error (in-range-of c.args.command.now (commands.Refuse c.in-Refuse.k c.in-Refuse.error) c.in-Refuse.is c.requires.numbers)).0

pub plan_fate-requires-clause-meant : goal.plan_fate-requires-clause-meant
plan_fate-requires-clause-meant g c =
    let error = c.in-Refuse.error in
    let meant = is-error error (refuse-in c.in-Refuse.k error (in-range-of c.args.command.now (commands.Refuse c.in-Refuse.k error) c.in-Refuse.is c.requires.numbers)).1 in
    subst IsError (sym (as-is error meant)) meant

pub plan_fate-requires-in-Drop-clause-ahead : goal.plan_fate-requires-in-Drop-clause-ahead
plan_fate-requires-in-Drop-clause-ahead g c = ahead-in c.in-Drop.k (in-range-of c.args.command.now (commands.Drop c.in-Drop.k) c.in-Drop.is c.requires.numbers)

pub plan_fate-requires-in-Lose-clause-ahead : goal.plan_fate-requires-in-Lose-clause-ahead
plan_fate-requires-in-Lose-clause-ahead g c = ahead-in c.in-Lose.k (in-range-of c.args.command.now (commands.Lose c.in-Lose.k) c.in-Lose.is c.requires.numbers)

pub plan_lag-requires-clause-ahead : goal.plan_lag-requires-clause-ahead
plan_lag-requires-clause-ahead g c = (lag-in c.in-Lag.k c.in-Lag.ticks (in-range-of c.args.command.now (commands.Lag c.in-Lag.k c.in-Lag.ticks) c.in-Lag.is c.requires.numbers)).0

pub plan_lag-requires-clause-short : goal.plan_lag-requires-clause-short
plan_lag-requires-clause-short g c = (lag-in c.in-Lag.k c.in-Lag.ticks (in-range-of c.args.command.now (commands.Lag c.in-Lag.k c.in-Lag.ticks) c.in-Lag.is c.requires.numbers)).1

-- ---- calls

pub returns-in-Load : goal.returns-in-Load
returns-in-Load g c =
    let done = c.load in
    assumption (by-command g.P.Dsp.means c.args.self.now done.new.self (ports c.args.io.now c.args.out.now) (ports done.new.io done.new.out) done.result c.args.command.now commands.Load c.in-Load.is done.ensures)

pub returns-in-Unload : goal.returns-in-Unload
returns-in-Unload g c =
    let done = c.unload in
    assumption (by-command g.P.Dsp.means c.args.self.now done.new.self (ports c.args.io.now c.args.out.now) (ports done.new.io done.new.out) done.result c.args.command.now commands.Unload c.in-Unload.is done.ensures)

pub returns-in-Suspend : goal.returns-in-Suspend
returns-in-Suspend g c =
    let done = c.suspend in
    assumption (by-command g.P.Dsp.means c.args.self.now done.new.self (ports c.args.io.now c.args.out.now) (ports done.new.io done.new.out) done.result c.args.command.now commands.Suspend c.in-Suspend.is done.ensures)

pub returns-in-Resume : goal.returns-in-Resume
returns-in-Resume g c =
    let done = c.resume in
    assumption (by-command g.P.Dsp.means c.args.self.now done.new.self (ports c.args.io.now c.args.out.now) (ports done.new.io done.new.out) done.result c.args.command.now commands.Resume c.in-Resume.is done.ensures)

pub returns-in-Open : goal.returns-in-Open
returns-in-Open g c =
    let done = c.open in
    assumption (by-command g.P.Dsp.means c.args.self.now done.new.self (ports c.args.io.now c.args.out.now) (ports done.new.io done.new.out) done.result c.args.command.now (commands.Open c.in-Open.name) c.in-Open.is done.ensures)

pub returns-in-Close : goal.returns-in-Close
returns-in-Close g c =
    let done = c.close in
    assumption (by-command g.P.Dsp.means c.args.self.now done.new.self (ports c.args.io.now c.args.out.now) (ports done.new.io done.new.out) done.result c.args.command.now (commands.Close c.in-Close.name) c.in-Close.is done.ensures)

pub returns-in-Params : goal.returns-in-Params
returns-in-Params g c =
    let done = c.ask in
    assumption (by-command g.P.Dsp.means c.args.self.now done.new.self (ports c.args.io.now c.args.out.now) (ports done.new.io done.new.out) done.result c.args.command.now (commands.Params c.in-Params.name c.in-Params.params) c.in-Params.is done.ensures)

pub returns-in-Start : goal.returns-in-Start
returns-in-Start g c =
    let done = c.ask-in-Start in
    assumption (by-command g.P.Dsp.means c.args.self.now done.new.self (ports c.args.io.now c.args.out.now) (ports done.new.io done.new.out) done.result c.args.command.now (commands.Start c.in-Start.name) c.in-Start.is done.ensures)

pub returns-in-Stop : goal.returns-in-Stop
returns-in-Stop g c =
    let done = c.ask-in-Stop in
    assumption (by-command g.P.Dsp.means c.args.self.now done.new.self (ports c.args.io.now c.args.out.now) (ports done.new.io done.new.out) done.result c.args.command.now (commands.Stop c.in-Stop.name) c.in-Stop.is done.ensures)

pub returns-in-Pause : goal.returns-in-Pause
returns-in-Pause g c =
    let done = c.ask-in-Pause in
    assumption (by-command g.P.Dsp.means c.args.self.now done.new.self (ports c.args.io.now c.args.out.now) (ports done.new.io done.new.out) done.result c.args.command.now (commands.Pause c.in-Pause.name) c.in-Pause.is done.ensures)

pub returns-in-Release : goal.returns-in-Release
returns-in-Release g c =
    let done = c.ask-in-Release in
    assumption (by-command g.P.Dsp.means c.args.self.now done.new.self (ports c.args.io.now c.args.out.now) (ports done.new.io done.new.out) done.result c.args.command.now (commands.Release c.in-Release.name) c.in-Release.is done.ensures)

pub returns-in-Set : goal.returns-in-Set
returns-in-Set g c =
    let done = c.set in
    assumption (by-command g.P.Dsp.means c.args.self.now done.new.self (ports c.args.io.now c.args.out.now) (ports done.new.io done.new.out) done.result c.args.command.now (commands.Set c.in-Set.name c.in-Set.values) c.in-Set.is done.ensures)

pub returns-in-Bytes : goal.returns-in-Bytes
returns-in-Bytes g c =
    let done = c.set_bytes in
    assumption (by-command g.P.Dsp.means c.args.self.now done.new.self (ports c.args.io.now c.args.out.now) (ports done.new.io done.new.out) done.result c.args.command.now (commands.Bytes c.in-Bytes.name c.in-Bytes.blob) c.in-Bytes.is done.ensures)

pub returns-in-Get : goal.returns-in-Get
returns-in-Get g c =
    let done = c.get in
    assumption (by-command g.P.Dsp.means c.args.self.now done.new.self (ports c.args.io.now c.args.out.now) (ports done.new.io done.new.out) done.result c.args.command.now (commands.Get c.in-Get.name) c.in-Get.is done.ensures)

pub returns-in-Read : goal.returns-in-Read
returns-in-Read g c =
    let done = c.read in
    assumption (by-command g.P.Dsp.means c.args.self.now done.new.self (ports c.args.io.now c.args.out.now) (ports done.new.io done.new.out) done.result c.args.command.now (commands.Read c.in-Read.name) c.in-Read.is done.ensures)

-- ---- what later messages meet

pub returns-in-Refuse : goal.returns-in-Refuse
returns-in-Refuse g c =
    let old = c.args.self.now in
    let done = c.plan_fate in
    let io = ports c.args.io.now c.args.out.now in
    let k = c.in-Refuse.k in
    let error = c.in-Refuse.error in
    let meant = is-error error (refuse-in k error (in-range-of c.args.command.now (commands.Refuse k error) c.in-Refuse.is c.requires.numbers)).1 in
    assumption (by-command g.P.Dsp.means old done.new.self io io done.result c.args.command.now (commands.Refuse k error) c.in-Refuse.is
    (fate-steps g.P.Dsp.means old done.new.self io (done.ensures.stays io) c.requires.few c.requires.empty done.result k (Refuse error) (commands.Refuse k error) (λ doing. refl) (λ doing. refl) refl
    (subst (λ (e : ℤ). PlanRan k (Refuse e) old done.new.self done.result) (as-is error meant) done.ensures.ran)))

pub returns-in-Drop : goal.returns-in-Drop
returns-in-Drop g c =
    let old = c.args.self.now in
    let done = c.plan_fate-in-Drop in
    let io = ports c.args.io.now c.args.out.now in
    let k = c.in-Drop.k in
    assumption (by-command g.P.Dsp.means old done.new.self io io done.result c.args.command.now (commands.Drop k) c.in-Drop.is
    (fate-steps g.P.Dsp.means old done.new.self io (done.ensures.stays io) c.requires.few c.requires.empty done.result k Drop (commands.Drop k) (λ doing. refl) (λ doing. refl) refl done.ensures.ran))

pub returns-in-Lose : goal.returns-in-Lose
returns-in-Lose g c =
    let old = c.args.self.now in
    let done = c.plan_fate-in-Lose in
    let io = ports c.args.io.now c.args.out.now in
    let k = c.in-Lose.k in
    assumption (by-command g.P.Dsp.means old done.new.self io io done.result c.args.command.now (commands.Lose k) c.in-Lose.is
    (fate-steps g.P.Dsp.means old done.new.self io (done.ensures.stays io) c.requires.few c.requires.empty done.result k Lose (commands.Lose k) (λ doing. refl) (λ doing. refl) refl done.ensures.ran))

pub returns-in-Lag : goal.returns-in-Lag
returns-in-Lag g c =
    let old = c.args.self.now in
    let done = c.plan_lag in
    let io = ports c.args.io.now c.args.out.now in
    assumption (by-command g.P.Dsp.means old done.new.self io io done.result c.args.command.now (commands.Lag c.in-Lag.k c.in-Lag.ticks) c.in-Lag.is
    (lag-steps g.P.Dsp.means old done.new.self io (done.ensures.stays io) c.requires.few c.requires.empty done.result c.in-Lag.k c.in-Lag.ticks done.ensures.ran))

-- ---- a tick, and a show

pub returns-in-Tick-clause-stepped : goal.returns-in-Tick-clause-stepped
returns-in-Tick-clause-stepped g c =
    let old = c.args.self.now in
    let done = c.tick in
    subst (λ (command : Command). SteppedBy g.P.Dsp.means command old done.new.self (at old.link (ports c.args.io.now c.args.out.now)) (at done.new.self.link (ports done.new.io done.new.out)) Done) (sym c.in-Tick.is) (done.ensures.stepped c.in-Tick.field-0)

pub returns-in-Tick-clause-moved : goal.returns-in-Tick-clause-moved
returns-in-Tick-clause-moved g c slot = let moved = c.tick.ensures.moved slot in omega (arith, moved)

pub returns-in-Show-clause-stepped : goal.returns-in-Show-clause-stepped
returns-in-Show-clause-stepped g c =
    let old = c.args.self.now in
    let io = ports c.args.io.now c.args.out.now in
    subst (λ (x : Command × Answer). SteppedBy g.P.Dsp.means x.0 old old (at old.link io) (at old.link io) x.1) (λ i. (sym c.in-Show.is i, sym c.show.ensures.shown i)) (show-steps g.P.Dsp.means old io c.show.ensures.agreed c.requires.few c.requires.empty)

pub returns-in-Show-clause-moved : goal.returns-in-Show-clause-moved
returns-in-Show-clause-moved g c slot = omega arith
