use Rattle.std.proofs.Common.{◌≡◌, IfOk, subst, sym, ap, ◌∙◌, rules}
use Rattle.mbox_link.specs.Calls.{World, world}
use Rattle.host_widgets.specs.Sides.{world_of}
use Rattle.host_widgets.specs.declared.answers.Answer.{Answer}
use Rattle.host_widgets.specs.declared.kept.Record.{Record}
use Rattle.host_widgets.specs.AnsweredOrders.{OrderAnswered, TestedAnswered}
use Rattle.host_widgets.specs.Host.{Agrees}
use Rattle.host_widgets.specs.Orders.{Procedure}
use Rattle.host_widgets.specs.TestedOrders.{Tested}
use Rattle.host_widgets.proofs.AnsweredActs.{late-answered}
use Rattle.host_ctl.specs.ControlAsks.{read_fault}
use Rattle.host_ctl.specs.ControlOrders.{ask_acts, read_order, control_answer}
use Rattle.host_ctl.specs.ControlAnswers.{outcome_of, HasSet, Shows}
use Rattle.host_ctl.specs.ControlPlaces.{control_here, record_here}
use Rattle.host_ctl.proofs.ControlsThere.{named-here}
use Rattle.host_ctl.proofs.ControlCalls.{said-shown}
use Rattle.host_ctl.proofs.ControlOrdered.{read-ended, read-named, sends-answer}
use Rattle.host_ctl.proofs.ControlTests.{place-low, told-alone, told-shown}
use Rattle.host_ctl.proofs.commands.read.Goals as goal

pub returns : goal.returns
returns g c =
    let means = g.P.Dsp.means in
    let plan = c.args.plan.now in
    let heap = c.args.heap in
    let kept = c.args.kept.now in
    let name = c.args.name.now in
    let w = world c.args.dsp.now c.args.io.now c.args.out.now in
    let i = c.in_ok-place.place in
    let at = c.in_ok-place.ensures.place in
    let low = place-low plan name i at in
    let named = named-here plan c.requires.plan kept c.requires.kept i low name at in
    let k = control_here plan i in
    let r = record_here kept i in
    let same = read-named plan c.requires.plan kept c.requires.kept name i at in
    let fault = read_fault plan kept name in
    let order = read_order plan kept name in
    let now = c.read.new.side.kept.now in
    let v = world_of c.read.new.side in
    let came = outcome_of c.read.result in
    let none = c.in_ok-place.ensures.none in
    let x = subst (λ (o : Procedure). OrderAnswered means plan heap o kept now w v came) same c.read.ensures.answered in
    record {
      answered = subst (λ (e : Record × World g.row.P.Denot). TestedAnswered means plan heap fault order kept e.0 w e.1 came) (search rules) (late-answered means plan heap fault order kept now w v came none x);
      asked = λ agrees. subst (λ (e : Record × World g.row.P.Denot). Tested means plan heap fault order kept e.0 w e.1 came) (search rules) (read-ended plan c.requires.plan kept c.requires.kept name i at means heap w agrees now v came none x).0;
      told = λ set. (subst (λ (x : Answer). IfOk c.read.result (λ a. a ≡ x)) (sym (sends-answer kept.power (ask_acts k.comp k.kind r) (λ now. now) (control_answer k.kind r)) ∙ ap (λ (o : Procedure). o.answer) same)
          (told-alone c.read.result (control_answer k.kind r) (HasSet means plan kept k.comp c.read.new.side.dsp.now) (c.read.ensures.told (set k named))));
      shown = λ set. (subst (λ (d : g.row.P.Denot). IfOk c.read.result (λ a. Shows plan name a (means.on d))) (search rules)
          (told-shown c.read.result (control_answer k.kind r) (HasSet means plan kept k.comp c.read.new.side.dsp.now) (λ (a : Answer). Shows plan name a (means.on c.read.new.side.dsp.now)) (c.read.ensures.told (set k named))
          (λ has. said-shown means plan c.requires.plan heap i low kept c.requires.kept c.read.new.side.dsp.now has name named)));
      agree = λ agrees. subst (λ (e : Record × g.row.P.Denot). Agrees means plan e.0 e.1) (search rules) (read-ended plan c.requires.plan kept c.requires.kept name i at means heap w agrees now v came none x).1;
    }
